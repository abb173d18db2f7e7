-- Joining when one side has grown: the turn, if one is wanted, brings the height back.
use Rattle.std.proofs.Common.{◌+◌, ◌≤◌, max, ◌∷◌, ◌++◌, Ok, Result, refl, ap, arith}
use native.Mathlib.Decide.{dec_le}
use Rattle.effects.specs.declared.Effect as effect
use Rattle.times.specs.declared.Time as time
use Rattle.reference.specs.declared.Operation.{Operation}
use Rattle.reference.specs.Beliefs.{Belief}
use Rattle.store.specs.declared.fault.Fault.{Fault}
use Rattle.store.specs.Meaning.{Meaning}
use Rattle.tree.specs.declared.Side.{Side}
use Rattle.tree.specs.Trees.{Tree, height, operations, side, Kept}
use Rattle.tree.specs.Making.{Room, Made, Joins}
use Rattle.tree.proofs.Keeping.{same_answer, still, room_left}
use Rattle.tree.proofs.Makings.{then_made, level_small}
use Rattle.balance.specs.Turning.{LeansLeft, LeansRight}
use Rattle.insertion.specs.Inserting.{insert_cost, Grown}

module _ {E St T : Type 0} (e : effect.Ghosts E St) (t : time.Ghosts T) (m n u : Meaning) (p : Operation E T) (new : Side E) (answer : Result (Side E) Fault) (a b : Tree E T) (xs : Belief E T)
    (low : height a ≤ height b + 1) (high : height b ≤ height a + 1) (room : Room m (insert_cost (max (height a) (height b) + 1))) where
  pub right_grown : Kept e t m.cells a → Made e t m n (Ok new) xs (Grown (height b)) → Joins e t n u (side e t a) p new answer → LeansRight e t n u (side e t a) p new answer →
      Made e t m u answer (operations a ++ (p ∷ xs)) (Grown (max (height a) (height b) + 1))
  right_grown kept one near far = go (dec_le (height one.tree) (height a + 1))
    where
      go : Dec (height one.tree ≤ height a + 1) → Made e t m u answer (operations a ++ (p ∷ xs)) (Grown (max (height a) (height b) + 1))
      go (yes less) =
          let fits = one.fits in
          then_made e t one
          (near a one.tree (record { left_is = refl; right_is = same_answer _ _ one.good; left_kept = still e t m n one.new a one.gained kept; right_kept = one.kept; left_low = omega arith; right_low = omega arith }) (room_left m n one.new 1 one.gained (omega arith, omega arith)))
          (ap (λ w. operations a ++ (p ∷ w)) one.reads) (λ s c h. (omega arith, omega arith, omega arith, omega arith))
      go (no more) =
          let fits = one.fits in
          then_made e t one
          (far a one.tree (record { left_is = refl; right_is = same_answer _ _ one.good; left_kept = still e t m n one.new a one.gained kept; right_kept = one.kept; left_low = omega arith; right_low = omega arith }) (omega arith) (room_left m n one.new 3 one.gained (omega arith, omega arith)))
          (ap (λ w. operations a ++ (p ∷ w)) one.reads) (λ s c h. let small = level_small s in (omega arith, omega arith, omega arith, omega arith))

  pub left_grown : Kept e t m.cells b → Made e t m n (Ok new) xs (Grown (height a)) → Joins e t n u new p (side e t b) answer → LeansLeft e t n u new p (side e t b) answer →
      Made e t m u answer (xs ++ (p ∷ operations b)) (Grown (max (height a) (height b) + 1))
  left_grown kept one near far = go (dec_le (height one.tree) (height b + 1))
    where
      go : Dec (height one.tree ≤ height b + 1) → Made e t m u answer (xs ++ (p ∷ operations b)) (Grown (max (height a) (height b) + 1))
      go (yes less) =
          let fits = one.fits in
          then_made e t one
          (near one.tree b (record { left_is = same_answer _ _ one.good; right_is = refl; left_kept = one.kept; right_kept = still e t m n one.new b one.gained kept; left_low = omega arith; right_low = omega arith }) (room_left m n one.new 1 one.gained (omega arith, omega arith)))
          (ap (λ w. w ++ (p ∷ operations b)) one.reads) (λ s c h. (omega arith, omega arith, omega arith, omega arith))
      go (no more) =
          let fits = one.fits in
          then_made e t one
          (far one.tree b (record { left_is = same_answer _ _ one.good; right_is = refl; left_kept = one.kept; right_kept = still e t m n one.new b one.gained kept; left_low = omega arith; right_low = omega arith }) (omega arith) (room_left m n one.new 3 one.gained (omega arith, omega arith)))
          (ap (λ w. w ++ (p ∷ operations b)) one.reads) (λ s c h. let small = level_small s in (omega arith, omega arith, omega arith, omega arith))
