use Rattle.std.proofs.Common.{◌≡◌, Some, ◌∙◌, arith, w32, to_z, of_z}
use borrow.Author.Differences.{ints}
use Rattle.counter.specs.Sames.{same_counter}
use Rattle.counter.specs.Made.{counter_is}
use Rattle.counter.proofs.Counter.exactly.Goals as goal

pub returns : goal.returns
returns c =
    let amount : to_z w32 (of_z w32 c.args.amount) ≡ c.args.amount = omega (arith, ints) in
    let floor = c.exactly.ensures.value in
    let ceiling = c.exactly-2.ensures.value in record {
      same = λ d p q r. same_counter _ d (amount ∙ p) (floor ∙ q) (ceiling ∙ r);
      made = counter_is c.args.amount c.args.floor c.args.ceiling (Some _) (amount, floor, ceiling);
    }
