-- A version that a trial may go on from.
use Rattle.std.specs.Prelude.{ℕ, ◌≤◌, length}
use Rattle.effects.specs.declared.Effect as effect
use Rattle.times.specs.declared.Time as time
use Rattle.store.specs.declared.Store as store
use Rattle.order.specs.Order.{Below}
use Rattle.tree.specs.Reading.{read_from}
use Rattle.questions.specs.Standing.{Standing}
use Rattle.counter.specs.contracts.kind.CounterEffect.TheImpl.{ghosts as counters}
use Rattle.times.specs.contracts.clock.kind.ClockTime.TheImpl.{ghosts as clocks}
use Rattle.trials.specs.declared.trial.Trial.{Trial}

-- The store has a standing tree at the root, whose operations have numbers below `next` and are fewer.
pub record Version {E St T S : Type 0} (e : effect.Ghosts E St) (t : time.Ghosts T) (s : store.Ghosts S) (at : S) (root next : ℕ) : Type 0 where
  pub stands : Standing e t (s.meaning at).cells root
  pub below : Below next (read_from e t (s.meaning at).cells root)
  pub few : length (read_from e t (s.meaning at).cells root) ≤ next

-- A trial may go on from its newest version.
abbrev pub Newest : {C : Type 0} → store.Ghosts C → Trial C → Type 0
Newest s t = Version counters clocks s t.store t.root t.next
