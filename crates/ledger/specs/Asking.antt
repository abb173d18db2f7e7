-- What the row of a belief is, over what a ledger shows.
use Rattle.std.specs.Prelude.{◌≡◌, ℕ, true, false, [], length, nat_lt, slice_index_or}
use Rattle.effects.specs.declared.Effect as effect
use Rattle.times.specs.declared.Time as time
use Rattle.reference.specs.Beliefs.{count}
use Rattle.calls.specs.declared.refusal.Refusal.{Refusal}
use Rattle.calls.specs.declared.refusal.Refusal.TheVariants.{NoBelief}
use Rattle.questions.specs.Standing.{Standing}
use Rattle.tree.specs.Reading.{read_from}
use Rattle.law.specs.Runs.{View}
use Rattle.ledger.specs.declared.Row.{Row}

module _ {E St T : Type 0} (e : effect.Ghosts E St) (t : time.Ghosts T) where
  -- The row of belief b of the view v: its tree stands and reads as the belief, and it has the belief's count.
  pub record RowOf (v : View E T) (b : ℕ) (row : Row T) : Type 0 where
    pub there : nat_lt b (length v.beliefs) ≡ true
    pub tree : Standing e t v.store.cells row.root
    pub reads : read_from e t v.store.cells row.root ≡ slice_index_or v.beliefs b []
    pub counted : row.count ≡ count (slice_index_or v.beliefs b [])

  -- The view v has no belief b.
  pub record NoRow (v : View E T) (b : ℕ) (refusal : Refusal) : Type 0 where
    pub missing : nat_lt b (length v.beliefs) ≡ false
    pub is : refusal ≡ NoBelief b
