use Rattle.std.proofs.Common.{◌≡◌, ◌+ℤ◌, ap, ◌∙◌, arith, w32, to_z, of_z}
use borrow.Author.Differences.{ints}
use Rattle.counter.specs.Counting.{limited_amount, limited_mono}
use Rattle.counter.specs.Sames.{same_counter}
use Rattle.counter.proofs.Counter.then.Goals as goal

pub invariant_of-result : goal.invariant_of-result
invariant_of-result c =
    let f = c.args.self in
    let g = c.args.second in
    let floor = ap (λ l. l.hundredths) c.limit.ensures in
    let ceiling = ap (λ l. l.hundredths) c.limit-2.ensures in
    let rises = limited_mono g.amount g.floor.hundredths g.ceiling.hundredths f.floor.hundredths f.ceiling.hundredths f.ordered in record {
      least = omega (arith, ints);
      most = omega (arith, ints);
      ordered = omega (arith, floor, ceiling, rises);
    }

pub returns : goal.returns
returns c =
    let f = c.args.self in
    let g = c.args.second in
    let cast : to_z w32 (of_z w32 c.limit_amount.result) ≡ c.limit_amount.result = omega (arith, ints) in
    let sum : to_z w32 (of_z w32 (to_z w32 (of_z w32 f.amount) +ℤ to_z w32 (of_z w32 g.amount))) ≡ f.amount +ℤ g.amount = omega (arith, ints) in
    same_counter _ _ (cast ∙ c.limit_amount.ensures.value ∙ ap limited_amount sum) (ap (λ l. l.hundredths) c.limit.ensures) (ap (λ l. l.hundredths) c.limit-2.ensures)
