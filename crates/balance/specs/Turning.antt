-- What the turns of a tree make: three or four sides joined anew, so that heights differ by at most 1 again.
use Rattle.std.specs.Prelude.{◌≡◌, ℕ, ◌+◌, ◌≤◌, max, ◌∷◌, ◌++◌, Result}
use Rattle.effects.specs.declared.Effect as effect
use Rattle.times.specs.declared.Time as time
use Rattle.reference.specs.declared.Operation.{Operation}
use Rattle.store.specs.declared.fault.Fault.{Fault}
use Rattle.store.specs.Meaning.{Meaning}
use Rattle.tree.specs.declared.Side.{Side}
use Rattle.tree.specs.Trees.{Tree, node, height, operations, side, Kept}
use Rattle.tree.specs.Making.{Room, Made, Sides, level}

module _ {E St T : Type 0} (e : effect.Ghosts E St) (t : time.Ghosts T) where
  -- three sides, of which the last two are joined first
  abbrev pub NestsRight : Meaning → Meaning → Side E → Operation E T → Side E → Operation E T → Side E → Result (Side E) Fault → Type 0
  NestsRight m n a p b q c answer = (x y z : Tree E T) → a ≡ side e t x → Kept e t m.cells x → Sides e t m.cells b c y z 1 →
      height x ≤ max (height y) (height z) + 2 → max (height y) (height z) ≤ height x → Room m 2 →
      Made e t m n answer (operations x ++ (p ∷ (operations y ++ (q ∷ operations z))))
      (λ s count. (height s ≡ max (height x) (max (height y) (height z) + 1) + 1) × (count ≡ 2))

  -- three sides, of which the first two are joined first
  abbrev pub NestsLeft : Meaning → Meaning → Side E → Operation E T → Side E → Operation E T → Side E → Result (Side E) Fault → Type 0
  NestsLeft m n a p b q c answer = (x y z : Tree E T) → c ≡ side e t z → Kept e t m.cells z → Sides e t m.cells a b x y 1 →
      height z ≤ max (height x) (height y) + 2 → max (height x) (height y) ≤ height z → Room m 2 →
      Made e t m n answer ((operations x ++ (p ∷ operations y)) ++ (q ∷ operations z))
      (λ s count. (height s ≡ max (max (height x) (height y) + 1) (height z) + 1) × (count ≡ 2))

  -- three sides of which the middle one, at cell k, is parted: its operation comes on top
  abbrev pub PartsMiddle : Meaning → Meaning → Side E → Operation E T → ℕ → Operation E T → Side E → Result (Side E) Fault → Type 0
  PartsMiddle m n a p k q d answer = (w x y z : Tree E T) (o : Operation E T) → a ≡ side e t w → d ≡ side e t z → Kept e t m.cells w → Kept e t m.cells z →
      Kept e t m.cells (node k x o y) → height w ≡ max (height x) (height y) → height z ≡ height w → Room m 3 →
      Made e t m n answer ((operations w ++ (p ∷ operations x)) ++ (o ∷ (operations y ++ (q ∷ operations z))))
      (λ s count. (height s ≡ height w + 2) × (count ≡ 3))

  -- Two sides of which the left is higher by 2: the new tree is as high as that side, or 1 higher where that side was level.
  abbrev pub LeansLeft : Meaning → Meaning → Side E → Operation E T → Side E → Result (Side E) Fault → Type 0
  LeansLeft m n left op right answer = (l r : Tree E T) → Sides e t m.cells left right l r 2 → height l ≡ height r + 2 → Room m 3 →
      Made e t m n answer (operations l ++ (op ∷ operations r)) (λ s count. (height s ≡ height l + level l) × (count ≤ 3))

  -- the same where the right is higher by 2
  abbrev pub LeansRight : Meaning → Meaning → Side E → Operation E T → Side E → Result (Side E) Fault → Type 0
  LeansRight m n left op right answer = (l r : Tree E T) → Sides e t m.cells left right l r 2 → height r ≡ height l + 2 → Room m 3 →
      Made e t m n answer (operations l ++ (op ∷ operations r)) (λ s count. (height s ≡ height r + level r) × (count ≤ 3))
