-- The tree that cells keep: what each cell of it says, and in which shape it stands.
use Rattle.std.specs.Prelude.{◌≡◌, ℕ, ◌+◌, ◌<◌, ◌≤◌, max, List, [], ◌∷◌, ◌++◌, Some, None, Option}
use Rattle.effects.specs.declared.Effect as effect
use Rattle.times.specs.declared.Time as time
use Rattle.reference.specs.declared.Operation.{Operation}
use Rattle.reference.specs.Beliefs.{Belief}
use Rattle.cells.specs.declared.Cell.{Cell}
use Rattle.store.specs.Meaning.{cell_at}
use Rattle.tree.specs.declared.Side.{Side}
use Rattle.tree.specs.declared.Node.{Node}
use Rattle.tree.specs.declared.Parts.{Parts}

-- A tree of operations, each with the number of its cell.
pub data Tree (E T : Type 0) : Type 0 where
  leaf : Tree E T
  node : ℕ → Tree E T → Operation E T → Tree E T → Tree E T

-- the number of its cell, 0 for no cell
abbrev pub root : {E T : Type 0} → Tree E T → ℕ
root leaf = 0
root (node k l o r) = k

abbrev pub height : {E T : Type 0} → Tree E T → ℕ
height leaf = 0
height (node k l o r) = max (height l) (height r) + 1

-- left side, own operation, right side
abbrev pub operations : {E T : Type 0} → Tree E T → Belief E T
operations leaf = []
operations (node k l o r) = operations l ++ (o ∷ operations r)

-- an effect after the total of a left side, and before that of a right one; absent sides are left out
abbrev pub after_left : {E : Type 0} → (E → E → E) → Option E → E → E
after_left composed None own = own
after_left composed (Some left) own = composed left own

abbrev pub before_right : {E : Type 0} → (E → E → E) → E → Option E → E
before_right composed own None = own
before_right composed own (Some right) = composed own right

-- the left total composed with the own effect, and then with the right total
abbrev pub joined : {E : Type 0} → (E → E → E) → Option E → E → Option E → E
joined composed left own right = before_right composed (after_left composed left own) right

-- all effects of a tree composed, none for no tree
abbrev pub total : {E T : Type 0} → (E → E → E) → Tree E T → Option E
total composed leaf = None
total composed (node k l o r) = Some (joined composed (total composed l) o.effect (total composed r))

-- what is known where there is no tree
abbrev pub no_side : {E : Type 0} → Side E
no_side = record { number = 0; height = 0; total = None }

module _ {E St T : Type 0} (e : effect.Ghosts E St) (t : time.Ghosts T) where
  -- what is known of a tree without reading its operations
  abbrev pub side : Tree E T → Side E
  side s = record { number = root s; height = height s; total = total e.composed s }

  -- the cell of an operation over two sides
  abbrev pub cell_of : Side E → Operation E T → Side E → Cell
  cell_of l o r = record {
    time = t.word o.time;
    number = o.number;
    left = l.number;
    right = r.number;
    height = max l.height r.height + 1;
    own = e.words o.effect;
    total = e.words (joined e.composed l.total o.effect r.total);
  }

  -- the same cell as it is read
  abbrev pub node_of : Side E → Operation E T → Side E → Node E T
  node_of l o r = record {
    op = o;
    left = l.number;
    right = r.number;
    height = max l.height r.height + 1;
    total = joined e.composed l.total o.effect r.total;
  }

  -- the same with what is known of its sides
  abbrev pub parts_of : Tree E T → Operation E T → Tree E T → Parts E T
  parts_of l o r = record { left = side l; op = o; right = side r }

  -- The cells keep the tree: each of its cells is there, its sides have lower numbers, and their heights differ by at most 1.
  abbrev pub Kept : List Cell → Tree E T → Type 0
  Kept cells leaf = Unit {0}
  Kept cells (node k l o r) =
      (cell_at cells k ≡ Some (cell_of (side l) o (side r))) × (root l < k) × (root r < k)
      × (height l ≤ height r + 1) × (height r ≤ height l + 1) × Kept cells l × Kept cells r

  -- some tree is kept at this root
  pub record Held (cells : List Cell) (k : ℕ) : Type 0 where
    pub tree : Tree E T
    pub at : root tree ≡ k
    pub kept : Kept cells tree
