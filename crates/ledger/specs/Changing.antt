-- What the parts of a change hand on to each other.
use Rattle.std.specs.Prelude.{◌≡◌, ℕ, ◌+◌, ◌-◌, ◌<◌, ◌≤◌, [], ◌∷◌, ◌++◌, length, Ok, Option, slice_set}
use Rattle.effects.specs.declared.Effect as effect
use Rattle.times.specs.declared.Time as time
use Rattle.store.specs.declared.Store as store
use Rattle.reference.specs.Beliefs.{kinds, count}
use Rattle.calls.specs.declared.call.Call.{Call}
use Rattle.calls.specs.declared.answer.Answer.TheVariants.{Changed}
use Rattle.store.specs.Meaning.{claimed}
use Rattle.calls.specs.Verdict.{latest_belief, claim_of}
use Rattle.questions.specs.Standing.{Standing}
use Rattle.tree.specs.Reading.{read_from}
use Rattle.law.specs.Runs.{View, Step}
use Rattle.ledger.specs.declared.Row.{Row}
use Rattle.ledger.specs.Accounts.{Account}
use Rattle.ledger.specs.Shown.{RowStands, shown}

module _ {E St T : Type 0} (e : effect.Ghosts E St) (t : time.Ghosts T) where
  -- The row of the latest belief of the view v, which has at most 1,023 operations.
  pub record Newest (v : View E T) (row : Row T) : Type 0 where
    pub tree : Standing e t v.store.cells row.root
    pub reads : read_from e t v.store.cells row.root ≡ latest_belief v.beliefs
    pub counted : row.count ≡ count (latest_belief v.beliefs)
    pub few : row.count ≤ 1023

  module _ {S : Type 0} (s : store.Ghosts S) where
    -- The change c may put its cells into l: there may be one belief more, its claim was accepted, and the row is that of the latest belief.
    pub record Ready (l : Account T S) (c : Call E T) (row : Row T) : Type 0 where
      pub room : l.latest < 1023
      pub granted : claimed (s.meaning l.store) (claim_of c) ≡ Ok tt
      pub newest : Newest (shown e t s l) row

    -- As the next row of l stands every row of this root and of this time, with the count of the root's operations.
    pub record Next (l : Account T S) (root : ℕ) (entered : Option T) : Type 0 where
      pub stands : (row : Row T) → row.root ≡ root → row.entered ≡ entered → row.count ≡ count (read_from e t (s.meaning l.store).cells root) → RowStands e t (s.meaning l.store).cells (slice_set l.rows (l.latest + 1) row) (l.latest + 1) row

    -- The ledger that showed v has put the cells of the change c and is now l, with the belief at `root` to come.
    pub record Put (v : View E T) (c : Call E T) (l : Account T S) (root : ℕ) (entered : Option T) : Type 0 where
      pub beliefs : (shown e t s l).beliefs ≡ v.beliefs
      pub many : length v.beliefs ≡ l.latest + 1
      pub grown : length v.store.cells ≤ length (s.meaning l.store).cells
      pub next : Next l root entered
      -- To show that belief too, and to answer its number and the cells gained, is the step from v.
      pub step :
          (number cells : ℕ) (before after : View E T) → before ≡ v → after.beliefs ≡ v.beliefs ++ (read_from e t (s.meaning l.store).cells root ∷ []) → after.store ≡ s.meaning l.store
          → number ≡ length v.beliefs → cells ≡ length (s.meaning l.store).cells - length v.store.cells → Step (kinds e t) c (Ok (Changed (number, cells))) before after
