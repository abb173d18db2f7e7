-- What reading a store leaves of it, and what making a tree in it gives.
use Rattle.std.specs.Prelude.{◌≡◌, ℕ, ◌+◌, ◌-◌, ◌≤◌, min, max, List, ◌∷◌, ◌++◌, length, Some, Ok, Option, Result}
use Rattle.effects.specs.declared.Effect as effect
use Rattle.times.specs.declared.Time as time
use Rattle.reference.specs.declared.Operation.{Operation}
use Rattle.reference.specs.Beliefs.{Belief}
use Rattle.cells.specs.declared.Cell.{Cell}
use Rattle.store.specs.declared.Store as store
use Rattle.store.specs.declared.fault.Fault.{Fault}
use Rattle.store.specs.Meaning.{Meaning, got, with_cells}
use Rattle.tree.specs.declared.Side.{Side}
use Rattle.tree.specs.declared.Node.{Node}
use Rattle.tree.specs.declared.Parts.{Parts}
use Rattle.tree.specs.Trees.{Tree, leaf, node, height, operations, side, node_of, parts_of, Kept}

-- A store that was only read: it has the meaning and the buffer that it had.
pub record Unchanged {S : Type 0} (s : store.Ghosts S) (before after : S) : Type 0 where
  pub meaning : s.meaning after ≡ s.meaning before
  pub buffer : s.buffer after ≡ s.buffer before

-- A store that had calls: no cell is gone, and where none is new the buffer is as it was.
pub record Grew {S : Type 0} (s : store.Ghosts S) (before after : S) : Type 0 where
  pub longer : length (s.meaning before).cells ≤ length (s.meaning after).cells
  pub buffer : length (s.meaning after).cells ≡ length (s.meaning before).cells → s.buffer after ≡ s.buffer before

-- a claim of n cells is accepted
abbrev pub Room : Meaning → ℕ → Type 0
Room m n = (n ≤ m.allowance) × (n ≤ m.space)

-- 1 where two sides are equally high and there, else 0
abbrev pub evenness : ℕ → ℕ → ℕ
evenness a b = min (max a b) (1 - (a - b) - (b - a))

abbrev pub level : {E T : Type 0} → Tree E T → ℕ
level leaf = 0
level (node k l o r) = evenness (height l) (height r)

-- The answer of a change of a store from m to n: the new root of a kept tree that reads as `want`, and nothing but new cells in the store.
-- `Fits` says of the tree and of the number of new cells how high and how many they are.
pub record Made {E St T : Type 0} (e : effect.Ghosts E St) (t : time.Ghosts T) (m n : Meaning) (answer : Result (Side E) Fault) (want : Belief E T) (Fits : Tree E T → ℕ → Type 0) : Type 0 where
  pub tree : Tree E T
  pub new : List Cell
  pub good : answer ≡ Ok (side e t tree)
  pub kept : Kept e t n.cells tree
  pub reads : operations tree ≡ want
  pub gained : n ≡ with_cells m new
  pub fits : Fits tree (length new)

-- Two sides are those of two kept trees, whose heights differ by at most `far`.
pub record Sides {E St T : Type 0} (e : effect.Ghosts E St) (t : time.Ghosts T) (cells : List Cell) (left right : Side E) (l r : Tree E T) (far : ℕ) : Type 0 where
  pub left_is : left ≡ side e t l
  pub right_is : right ≡ side e t r
  pub left_kept : Kept e t cells l
  pub right_kept : Kept e t cells r
  pub left_low : height l ≤ height r + far
  pub right_low : height r ≤ height l + far

module _ {E St T : Type 0} (e : effect.Ghosts E St) (t : time.Ghosts T) where
  -- the node of a cell, wherever a store has it in a kept tree
  abbrev pub Says : Cell → Option (Node E T) → Type 0
  Says cell answer = (m : Meaning) (k : ℕ) (l : Tree E T) (o : Operation E T) (r : Tree E T) → Ok cell ≡ got m k → Kept e t m.cells (node k l o r) →
      answer ≡ Some (node_of e t (side e t l) o (side e t r))

  -- what reading cell k of any kept tree answers
  abbrev pub Reads : Meaning → ℕ → Result (Node E T) Fault → Type 0
  Reads m k answer = (l : Tree E T) (o : Operation E T) (r : Tree E T) → Kept e t m.cells (node k l o r) → answer ≡ Ok (node_of e t (side e t l) o (side e t r))

  -- what reading it together with its sides answers
  abbrev pub Opens : Meaning → ℕ → Result (Parts E T) Fault → Type 0
  Opens m k answer = (l : Tree E T) (o : Operation E T) (r : Tree E T) → Kept e t m.cells (node k l o r) → answer ≡ Ok (parts_of e t l o r)

  -- One new cell joins an operation and two sides whose heights differ by at most 1.
  abbrev pub Joins : Meaning → Meaning → Side E → Operation E T → Side E → Result (Side E) Fault → Type 0
  Joins m n left op right answer = (l r : Tree E T) → Sides e t m.cells left right l r 1 → Room m 1 →
      Made e t m n answer (operations l ++ (op ∷ operations r))
      (λ s c. (height s ≡ max (height l) (height r) + 1) × (level s ≡ evenness (height l) (height r)) × (c ≡ 1))
