use Rattle.std.proofs.Common.{◌≡◌, pos, ◌+ℤ◌, nat_abs, ap, ◌∙◌, arith, w32, to_z, of_z}
use borrow.Author.Differences.{ints}
use Rattle.std.proofs.lemmas.Int.{clamps}
use Rattle.std.specs.Int.{int_min, int_max}
use Rattle.counter.specs.Counting.{level_after}
use Rattle.counter.proofs.Counter.limit.Goals as goal

pub returns : goal.returns
returns c =
    let effect = c.args.self in
    let n = c.args.level.hundredths in
    let raised : c.max-raised.result ≡ int_max (pos n +ℤ effect.amount) (pos effect.floor.hundredths) = omega (arith, ints, clamps) in
    let lowered : c.min-lowered.result ≡ int_min c.max-raised.result (pos effect.ceiling.hundredths) = omega (arith, ints, clamps) in
    let cast : nat_abs (to_z w32 (of_z w32 c.min-lowered.result)) ≡ nat_abs c.min-lowered.result = omega (arith, ints) in
    c.exactly.ensures.same (level_after effect c.args.level)
    (cast ∙ ap nat_abs (lowered ∙ ap (λ m. int_min m (pos effect.ceiling.hundredths)) raised))
