-- The operations that cells say, computed from the cells alone.
use Rattle.std.specs.Prelude.{ℕ, zero, suc, List, [], ◌∷◌, ◌++◌, Some, None, Option}
use Rattle.effects.specs.declared.Effect as effect
use Rattle.times.specs.declared.Time as time
use Rattle.reference.specs.Beliefs.{Belief}
use Rattle.cells.specs.declared.Cell.{Cell}
use Rattle.store.specs.Meaning.{cell_at}

-- the operation of a number, where its time and its effect can be read
abbrev pub own : {E T : Type 0} → ℕ → Option T → Option E → Belief E T
own number None effect = []
own number (Some time) None = []
own number (Some time) (Some effect) = record { number = number; time = time; effect = effect } ∷ []

module _ {E St T : Type 0} (e : effect.Ghosts E St) (t : time.Ghosts T) where
  -- left side, own operation, right side; no cell has none
  abbrev pub around : (ℕ → Belief E T) → Option Cell → Belief E T
  around side None = []
  around side (Some c) = side c.left ++ (own c.number (t.reads c.time) (e.reads c.own) ++ side c.right)

  -- what the cells from cell k on say, at most so many deep
  abbrev pub read : List Cell → ℕ → ℕ → Belief E T
  read cells zero k = []
  read cells (suc deep) k = around (read cells deep) (cell_at cells k)

  -- What the cells from cell k on say. Sides have lower numbers than their cell, so k is deep enough.
  abbrev pub read_from : List Cell → ℕ → Belief E T
  read_from cells k = read cells k k

-- the height that cell k says, 0 for no cell
abbrev pub height_in : Option Cell → ℕ
height_in None = 0
height_in (Some c) = c.height

abbrev pub height_at : List Cell → ℕ → ℕ
height_at cells k = height_in (cell_at cells k)
