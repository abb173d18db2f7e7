-- What a ledger shows, and what is true of every ledger.
use Rattle.std.specs.Prelude.{◌≡◌, ℕ, ◌+◌, ◌<◌, ◌≤◌, List, map, length, get_or, take, Some, slice_index_or}
use Rattle.std.specs.List.{AllByRecursion}
use Rattle.effects.specs.declared.Effect as effect
use Rattle.times.specs.declared.Time as time
use Rattle.store.specs.declared.Store as store
use Rattle.store.specs.Meaning.{Meaning}
use Rattle.cells.specs.declared.Cell.{Cell}
use Rattle.reference.specs.Beliefs.{count}
use Rattle.calls.specs.Verdict.{Beliefs}
use Rattle.order.specs.Order.{Below}
use Rattle.questions.specs.Standing.{Standing}
use Rattle.tree.specs.Reading.{read_from}
use Rattle.law.specs.Runs.{View}
use Rattle.ledger.specs.declared.Row.{Row}
use Rattle.ledger.specs.Accounts.{Account}

module _ {E St T : Type 0} (e : effect.Ghosts E St) (t : time.Ghosts T) where
  -- the beliefs 0 to the latest: the operations of each are read out of the cells from the root in its row
  unfoldable pub beliefs_of : List Cell → List (Row T) → ℕ → Beliefs E T
  beliefs_of cells rows latest = map (λ row. read_from e t cells row.root) (take (latest + 1) rows)

  -- a store and the rows of beliefs 0 to the latest
  abbrev pub view_of : Meaning → List (Row T) → ℕ → View E T
  view_of m rows latest = record { beliefs = beliefs_of m.cells rows latest; store = m }

  -- The row of belief b stands: its tree does, with as many operations as the row says, numbered at most b, each entered by the row of its number.
  pub record RowStands (cells : List Cell) (rows : List (Row T)) (b : ℕ) (row : Row T) : Type 0 where
    pub tree : Standing e t cells row.root
    pub below : Below (b + 1) (read_from e t cells row.root)
    pub counted : row.count ≡ count (read_from e t cells row.root)
    pub few : row.count ≤ b
    pub timed : AllByRecursion (λ o. (d : Row T) → (get_or rows o.number d).entered ≡ Some o.time) (read_from e t cells row.root)

  module _ {S : Type 0} (s : store.Ghosts S) where
    -- What a ledger shows.
    abbrev pub shown : Account T S → View E T
    shown l = view_of (s.meaning l.store) l.rows l.latest

    -- What is true of every ledger: it has a row for each belief that there may be, and those of its beliefs stand.
    pub record Stands (l : Account T S) : Type 0 where
      pub rows : length l.rows ≡ 1024
      pub latest : l.latest < 1024
      pub each : (b : ℕ) (d : Row T) → b ≤ l.latest → RowStands (s.meaning l.store).cells l.rows b (slice_index_or l.rows b d)
