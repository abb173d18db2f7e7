-- The trees that questions are asked of and changes are made to.
use Rattle.std.specs.Prelude.{◌≡◌, ℕ, ◌≤◌, List, length, Ok, Result}
use Rattle.effects.specs.declared.Effect as effect
use Rattle.times.specs.declared.Time as time
use Rattle.cells.specs.declared.Cell.{Cell}
use Rattle.reference.specs.Beliefs.{Belief, kinds}
use Rattle.store.specs.declared.fault.Fault.{Fault}
use Rattle.store.specs.Meaning.{Meaning, with_cells}
use Rattle.order.specs.Order.{Sorted}
use Rattle.tree.specs.Trees.{Tree, root, operations, Kept}
use Rattle.tree.specs.Reading.{read_from}

-- The cells keep, at this root, a tree whose operations are in order.
pub record Standing {E St T : Type 0} (e : effect.Ghosts E St) (t : time.Ghosts T) (cells : List Cell) (k : ℕ) : Type 0 where
  pub tree : Tree E T
  pub at : root tree ≡ k
  pub kept : Kept e t cells tree
  pub sorted : Sorted (kinds e t) (operations tree)

-- A change of a store from m to n, answered `good` of the new root: the root of a standing tree that reads as `want`. The store has
-- new cells behind the old ones, at most so many, and its allowance and space fell by just as many.
pub record Changed {E St T A : Type 0} (e : effect.Ghosts E St) (t : time.Ghosts T) (m n : Meaning) (answer : Result A Fault) (good : ℕ → A) (want : Belief E T) (most : ℕ) : Type 0 where
  pub new_root : ℕ
  pub new : List Cell
  pub is : answer ≡ Ok (good new_root)
  pub stands : Standing e t n.cells new_root
  pub reads : read_from e t n.cells new_root ≡ want
  pub gained : n ≡ with_cells m new
  pub few : length new ≤ most
