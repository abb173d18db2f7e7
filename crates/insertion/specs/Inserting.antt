-- What an insertion makes of any kept tree in order, and how many cells it takes.
use Rattle.std.specs.Prelude.{◌≡◌, ℕ, ◌+◌, ◌*◌, ◌≤◌, min, max, Result}
use Rattle.effects.specs.declared.Effect as effect
use Rattle.times.specs.declared.Time as time
use Rattle.reference.specs.declared.Operation.{Operation}
use Rattle.reference.specs.Beliefs.{kinds, entered}
use Rattle.store.specs.declared.fault.Fault.{Fault}
use Rattle.store.specs.Meaning.{Meaning}
use Rattle.order.specs.Order.{Sorted}
use Rattle.tree.specs.declared.Side.{Side}
use Rattle.tree.specs.Trees.{Tree, root, height, operations, Kept}
use Rattle.tree.specs.Reading.{read_from}
use Rattle.tree.specs.Making.{Room, Made, level}
use Rattle.questions.specs.Standing.{Changed}

-- the most cells that an insertion into a tree of this height takes
abbrev pub insert_cost : ℕ → ℕ
insert_cost h = min (max 1 (3 * h)) (h + 3)

-- The new tree is as high as the old or 1 higher. Where it is higher it is not level, and the path was copied without a turn.
abbrev pub Grown : {E T : Type 0} → ℕ → Tree E T → ℕ → Type 0
Grown h s count = (h ≤ height s) × (level s + height s ≤ h + 1) × (count + 2 * height s ≤ 3 * h + 3) × (count ≤ max 1 (3 * h))

module _ {E St T : Type 0} (e : effect.Ghosts E St) (t : time.Ghosts T) where
  abbrev pub Inserts : Meaning → Meaning → ℕ → Operation E T → Result (Side E) Fault → Type 0
  Inserts m n k op answer = (s : Tree E T) → root s ≡ k → Kept e t m.cells s → Sorted (kinds e t) (operations s) → Room m (insert_cost (height s)) →
      Made e t m n answer (entered (kinds e t) op (operations s)) (Grown (height s))

  -- the answer is the new root, which reads as the operations with the new one at its place
  abbrev pub Inserted : Meaning → Meaning → ℕ → Operation E T → Result ℕ Fault → ℕ → Type 0
  Inserted m n k op answer most = Changed e t m n answer (λ root. root) (entered (kinds e t) op (read_from e t m.cells k)) most
