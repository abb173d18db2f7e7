-- Joining when one side has become lower.
use Rattle.std.proofs.Common.{◌≡◌, ℕ, ◌+◌, ◌≤◌, max, [], ◌∷◌, ◌++◌, Ok, Result, sym, refl, ap, subst, arith}
use native.Mathlib.Decide.{dec_le}
use Rattle.effects.specs.declared.Effect as effect
use Rattle.times.specs.declared.Time as time
use Rattle.reference.specs.declared.Operation.{Operation}
use Rattle.reference.specs.Beliefs.{Belief}
use Rattle.store.specs.declared.fault.Fault.{Fault}
use Rattle.store.specs.Meaning.{Meaning}
use Rattle.tree.specs.declared.Side.{Side}
use Rattle.tree.specs.Trees.{Tree, height, operations, side, Kept}
use Rattle.tree.specs.Making.{Room, Made, Joins}
use Rattle.tree.proofs.Keeping.{same_answer, still, room_left}
use Rattle.tree.proofs.Makings.{then_made, level_small, gains_none}
use Rattle.balance.specs.Turning.{LeansLeft, LeansRight}
use Rattle.removal.specs.Removing.{remove_cost, Shrunk}

module _ {E St T : Type 0} (e : effect.Ghosts E St) (t : time.Ghosts T) where
  -- a tree that is there already
  pub unmade : (m n : Meaning) (s : Tree E T) (h : ℕ) → n ≡ m → Kept e t m.cells s → h ≤ height s + 1 → height s ≤ h → Made e t m n (Ok (side e t s)) (operations s) (Shrunk h)
  unmade m n s h same kept low high =
      record {
        tree = s;
        new = [];
        good = refl;
        kept = subst (λ w. Kept e t w.cells s) (sym same) kept;
        reads = refl;
        gained = gains_none m n same;
        fits = (low, high, omega arith);
      }

  module _ (m n u : Meaning) (p : Operation E T) (new : Side E) (answer : Result (Side E) Fault) (s : Tree E T) (xs : Belief E T) (h : ℕ)
      (kept : Kept e t m.cells s) (low : height s ≤ h + 1) (high : h ≤ height s + 1) (room : Room m (remove_cost (max (height s) h + 1))) (one : Made e t m n (Ok new) xs (Shrunk h)) where
    pub right_lower : Joins e t n u (side e t s) p new answer → LeansLeft e t n u (side e t s) p new answer → Made e t m u answer (operations s ++ (p ∷ xs)) (Shrunk (max (height s) h + 1))
    right_lower near far = go (dec_le (height s) (height one.tree + 1))
      where
        go : Dec (height s ≤ height one.tree + 1) → Made e t m u answer (operations s ++ (p ∷ xs)) (Shrunk (max (height s) h + 1))
        go (yes less) =
            let fits = one.fits in
            then_made e t one
            (near s one.tree (record { left_is = refl; right_is = same_answer _ _ one.good; left_kept = still e t m n one.new s one.gained kept; right_kept = one.kept; left_low = omega arith; right_low = omega arith }) (room_left m n one.new 1 one.gained (omega arith, omega arith)))
            (ap (λ w. operations s ++ (p ∷ w)) one.reads) (λ z c i. (omega arith, omega arith, omega arith))
        go (no more) =
            let fits = one.fits in
            let small = level_small s in
            then_made e t one
            (far s one.tree (record { left_is = refl; right_is = same_answer _ _ one.good; left_kept = still e t m n one.new s one.gained kept; right_kept = one.kept; left_low = omega arith; right_low = omega arith }) (omega arith) (room_left m n one.new 3 one.gained (omega arith, omega arith)))
            (ap (λ w. operations s ++ (p ∷ w)) one.reads) (λ z c i. (omega arith, omega arith, omega arith))

    pub left_lower : Joins e t n u new p (side e t s) answer → LeansRight e t n u new p (side e t s) answer → Made e t m u answer (xs ++ (p ∷ operations s)) (Shrunk (max (height s) h + 1))
    left_lower near far = go (dec_le (height s) (height one.tree + 1))
      where
        go : Dec (height s ≤ height one.tree + 1) → Made e t m u answer (xs ++ (p ∷ operations s)) (Shrunk (max (height s) h + 1))
        go (yes less) =
            let fits = one.fits in
            then_made e t one
            (near one.tree s (record { left_is = same_answer _ _ one.good; right_is = refl; left_kept = one.kept; right_kept = still e t m n one.new s one.gained kept; left_low = omega arith; right_low = omega arith }) (room_left m n one.new 1 one.gained (omega arith, omega arith)))
            (ap (λ w. w ++ (p ∷ operations s)) one.reads) (λ z c i. (omega arith, omega arith, omega arith))
        go (no more) =
            let fits = one.fits in
            let small = level_small s in
            then_made e t one
            (far one.tree s (record { left_is = same_answer _ _ one.good; right_is = refl; left_kept = one.kept; right_kept = still e t m n one.new s one.gained kept; left_low = omega arith; right_low = omega arith }) (omega arith) (room_left m n one.new 3 one.gained (omega arith, omega arith)))
            (ap (λ w. w ++ (p ∷ operations s)) one.reads) (λ z c i. (omega arith, omega arith, omega arith))
