-- A ledger just opened stands, and shows belief 0 alone.
use Rattle.std.proofs.Common.{ℕ, ◌≤◌, List, get_or, replicate, None, sym, refl, subst, arith}
use Rattle.std.proofs.lemmas.List.{get_or-replicate}
use Rattle.effects.specs.declared.Effect as effect
use Rattle.times.specs.declared.Time as time
use Rattle.cells.specs.declared.Cell.{Cell}
use Rattle.tree.specs.Trees.{leaf}
use Rattle.ledger.specs.declared.Row.{Row}
use Rattle.ledger.specs.Shown.{RowStands}

abbrev pub empty : {T : Type 0} → Row T
empty = record { root = 0; entered = None; count = 0 }

module _ {E St T : Type 0} (e : effect.Ghosts E St) (t : time.Ghosts T) where
  pub empty_stands : (cells : List Cell) (rows : List (Row T)) (b : ℕ) → RowStands e t cells rows b empty
  empty_stands cells rows b = record { tree = record { tree = leaf; at = refl; kept = tt; sorted = tt }; below = tt; counted = refl; few = omega arith; timed = tt }

  pub all_empty : (cells : List Cell) (b : ℕ) (d : Row T) → b ≤ 0 → RowStands e t cells (replicate 1024 empty) b (get_or (replicate 1024 empty) b d)
  all_empty cells b d l = subst (RowStands e t cells (replicate 1024 empty) b) (sym (get_or-replicate 1024 b empty d (omega arith))) (empty_stands cells (replicate 1024 empty) b)
