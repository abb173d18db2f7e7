use Rattle.std.proofs.Common.{arith}
use Rattle.std.proofs.lemmas.Bool.Decides.{nat_tests}
use Rattle.status.specs.Octals.{reads_none}
use Rattle.status.proofs.kind.in_range.Goals as goal

pub returns-then-stored-clause-outside : goal.returns-then-stored-clause-outside
returns-then-stored-clause-outside c = λ fails. reads_none c.args.stored (λ range. grind (arith, nat_tests))
