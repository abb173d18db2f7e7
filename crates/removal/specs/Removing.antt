-- What a removal makes of any kept tree in order, and how many cells it takes.
use Rattle.std.specs.Prelude.{◌≡◌, ℕ, ◌+◌, ◌*◌, ◌≤◌, max, ◌∷◌, ◌++◌, Some, Ok, Option, Result, ◌≢◌}
use Rattle.effects.specs.declared.Effect as effect
use Rattle.times.specs.declared.Time as time
use Rattle.reference.specs.declared.Operation.{Operation}
use Rattle.reference.specs.Beliefs.{Belief, kinds}
use Rattle.store.specs.declared.fault.Fault.{Fault}
use Rattle.store.specs.Meaning.{Meaning}
use Rattle.order.specs.Order.{Sorted, struck}
use Rattle.tree.specs.declared.Side.{Side}
use Rattle.tree.specs.Trees.{Tree, root, height, operations, side, Kept}
use Rattle.tree.specs.Reading.{read_from}
use Rattle.tree.specs.Making.{Room, Made}
use Rattle.questions.specs.Standing.{Changed}
use Rattle.removal.specs.declared.Taken.{Taken}

-- the most cells that a removal from a tree of this height takes
abbrev pub remove_cost : ℕ → ℕ
remove_cost h = 3 * h

-- The new tree is as high as the old or 1 lower.
abbrev pub Shrunk : {E T : Type 0} → ℕ → Tree E T → ℕ → Type 0
Shrunk h s count = (h ≤ height s + 1) × (height s ≤ h) × (count ≤ remove_cost h)

-- The answer parts the first of the operations xs from the others, of which it makes a tree.
pub record Parted {E St T : Type 0} (e : effect.Ghosts E St) (t : time.Ghosts T) (m n : Meaning) (answer : Result (Taken E T) Fault) (xs : Belief E T) (h : ℕ) : Type 0 where
  pub first : Operation E T
  pub rest : Side E
  pub others : Belief E T
  pub good : answer ≡ Ok (record { first = first; rest = rest })
  pub splits : xs ≡ first ∷ others
  pub made : Made e t m n (Ok rest) others (Shrunk h)

module _ {E St T : Type 0} (e : effect.Ghosts E St) (t : time.Ghosts T) where
  abbrev pub TakesFirst : Meaning → Meaning → ℕ → Result (Taken E T) Fault → Type 0
  TakesFirst m n k answer = (s : Tree E T) → root s ≡ k → (k ≢ 0) → Kept e t m.cells s → Room m (remove_cost (height s)) →
      Parted e t m n answer (operations s) (height s)

  -- two sides without the operation between them
  abbrev pub Closes : Meaning → Meaning → Side E → Side E → Result (Side E) Fault → Type 0
  Closes m n left right answer = (l r : Tree E T) → left ≡ side e t l → right ≡ side e t r → Kept e t m.cells l → Kept e t m.cells r →
      height l ≤ height r + 1 → height r ≤ height l + 1 → Room m (remove_cost (max (height l) (height r) + 1)) →
      Made e t m n answer (operations l ++ operations r) (Shrunk (max (height l) (height r) + 1))

  -- the tree without what stands at the number and the time of x
  abbrev pub TakesOut : Meaning → Meaning → ℕ → Operation E T → Result (Side E) Fault → Type 0
  TakesOut m n k x answer = (s : Tree E T) → root s ≡ k → Kept e t m.cells s → Sorted (kinds e t) (operations s) → Room m (remove_cost (height s)) →
      Made e t m n answer (struck (kinds e t) x.number x.time (operations s)) (Shrunk (height s))

  -- the answer is the new root, which reads as the operations without that of the number and the time
  abbrev pub Removed : Meaning → Meaning → ℕ → ℕ → T → Result (Option ℕ) Fault → ℕ → Type 0
  Removed m n k number at answer most = Changed e t m n answer Some (struck (kinds e t) number at (read_from e t m.cells k)) most
