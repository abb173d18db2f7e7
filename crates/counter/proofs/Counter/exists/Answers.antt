use Rattle.std.proofs.Common.{None, sym, arith}
use Rattle.std.proofs.lemmas.Bool.Decides.{nat_tests}
use Rattle.std.proofs.lemmas.Int.{ints}
use Rattle.counter.specs.Made.{counter_is}
use Rattle.counter.proofs.Counter.exists.Goals as goal

pub returns-then-floor-ceiling-clause-outside : goal.returns-then-floor-ceiling-clause-outside
returns-then-floor-ceiling-clause-outside c = λ fails. sym (counter_is c.args.amount c.args.floor c.args.ceiling None (λ bounds. grind (arith, nat_tests, ints)))

pub returns-else-floor-ceiling-clause-outside : goal.returns-else-floor-ceiling-clause-outside
returns-else-floor-ceiling-clause-outside c = λ fails. sym (counter_is c.args.amount c.args.floor c.args.ceiling None (λ bounds. grind (arith, nat_tests, ints)))
