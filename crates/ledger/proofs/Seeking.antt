-- An operation of the latest belief, sought by the row of its number, and the refusals of a change.
use Rattle.std.proofs.Common.{◌≡◌, ℕ, ◌+◌, ◌<◌, Bool, true, false, length, get_or, IfOk, IfErr, IfSome, MatchOption, Some, None, Ok, Err, Result, sym, ap, ◌∙◌, subst, arith}
use Rattle.std.specs.Bool.{then_some}
use Rattle.effects.specs.declared.Effect as effect
use Rattle.times.specs.declared.Time as time
use Rattle.store.specs.declared.Store as store
use Rattle.store.specs.declared.fault.Fault.{Fault}
use Rattle.store.specs.Meaning.{claimed}
use Rattle.reference.specs.Beliefs.{Belief, kinds}
use Rattle.calls.specs.declared.call.Call.TheVariants.{Enter, Withdraw}
use Rattle.calls.specs.declared.refusal.Refusal.TheVariants.{NoOperation, Store}
use Rattle.calls.specs.Verdict.{has, latest_belief}
use Rattle.order.specs.Order.{Timed}
use Rattle.order.specs.Order as order
use Rattle.order.proofs.Orders.{TimeLaws}
use Rattle.tree.specs.Reading.{read_from}
use Rattle.tree.proofs.Keeping.{same_answer}
use Rattle.law.specs.Runs.{View, Step}
use Rattle.ledger.specs.declared.Row.{Row}
use Rattle.ledger.specs.Accounts.{Account}
use Rattle.ledger.specs.Shown.{shown, Stands}
use Rattle.ledger.proofs.Showing.{refused_step, entry_refused, withdrawal_refused, withdrawal_missing}
use Rattle.ledger.proofs.Found.{timed_from, has_above, has_unentered, has_timed}
use Rattle.ledger.proofs.Entries.{newest_at, newest_below, newest_entered}
use Rattle.ledger.proofs.Empty.{empty}

module _ {E St T S : Type 0} (e : effect.Ghosts E St) (t : time.Ghosts T) (s : store.Ghosts S) (l : Account T S) (h : Stands e t s l) where
  -- the latest belief as the ledger shows it
  abbrev pub newest : Belief E T
  newest = latest_belief (shown e t s l).beliefs

  fits : l.latest < length l.rows
  fits = omega (arith, h.rows, h.latest)

  pub missing_above : (n : ℕ) → l.latest < n → has n newest ≡ false
  missing_above n more = has_above n (l.latest + 1) newest (omega arith) (newest_below e t s l h)

  pub missing_unentered : (n : ℕ) (d : Row T) → (get_or l.rows n d).entered ≡ None → has n newest ≡ false
  missing_unentered n d is = has_unentered l.rows n d newest is (newest_entered e t s l h)

  pub newest_timed : (n : ℕ) (at : T) (d : Row T) → (get_or l.rows n d).entered ≡ Some at → Timed n at newest
  newest_timed n at d is = timed_from l.rows n at d newest is (newest_entered e t s l h)

  -- what a search by number and time says of the number
  pub newest_has : TimeLaws t.upto → (n : ℕ) (at : T) (d : Row T) (got : Result Bool Fault) (there : Bool) → Timed n at newest → got ≡ Ok there → got ≡ Ok (order.has (kinds e t) n at (read_from e t (s.meaning l.store).cells (get_or l.rows l.latest d).root)) → has n newest ≡ there
  newest_has laws n at d got there timed was says =
      sym (has_timed (kinds e t) laws n at newest timed) ∙ ap (order.has (kinds e t) n at) (newest_at e t s l h d) ∙ sym (same_answer {F = Fault} there _ (sym was ∙ says))

  module _ (room : l.latest < 1023) where
    -- a withdrawal of what is not there is refused
    pub missing_step : (n : ℕ) → has n newest ≡ false → Step (kinds e t) (Withdraw n) (Err (NoOperation n)) (shown e t s l) (shown e t s l)
    missing_step n missing = refused_step e t (s.meaning l.store) l.rows l.latest fits (Withdraw n) (NoOperation n) (withdrawal_missing e t (s.meaning l.store) l.rows l.latest fits _ n empty room (ap (has n) (sym (newest_at e t s l h empty)) ∙ missing))

    -- what a search found, of a view w that is the ledger's
    pub found_told : (n : ℕ) (at : T) (there : Bool) (w : View E T) → w ≡ shown e t s l → has n newest ≡ there →
        MatchOption (then_some there at) (Step (kinds e t) (Withdraw n) (Err (NoOperation n)) (shown e t s l) w) (λ _. has n (latest_belief w.beliefs) ≡ true)
    found_told n at true w same is = subst (λ v. has n (latest_belief v.beliefs) ≡ true) (sym same) is
    found_told n at false w same is = subst (λ v. Step (kinds e t) (Withdraw n) (Err (NoOperation n)) (shown e t s l) v) (sym same) (missing_step n is)

    pub found_timed : (n : ℕ) (at : T) (there : Bool) (w : View E T) → w ≡ shown e t s l → Timed n at newest → IfSome (then_some there at) (λ time. Timed n time (latest_belief w.beliefs))
    found_timed n at true w same timed = subst (λ v. Timed n at (latest_belief v.beliefs)) (sym same) timed
    found_timed n at false w same timed = tt

    entry_fault : (cells : ℕ) (fault : Fault) → claimed (s.meaning l.store) cells ≡ Err fault → (at : T) (effect : E) → cells ≡ 42 → Step (kinds e t) (Enter at effect) (Err (Store fault)) (shown e t s l) (shown e t s l)
    entry_fault cells fault is at effect amount = refused_step e t (s.meaning l.store) l.rows l.latest fits (Enter at effect) (Store fault) (entry_refused e t (s.meaning l.store) l.rows l.latest fits at effect fault room (ap (claimed (s.meaning l.store)) (sym amount) ∙ is))

    withdrawal_fault : (cells : ℕ) (fault : Fault) → claimed (s.meaning l.store) cells ≡ Err fault → (n : ℕ) → has n newest ≡ true → cells ≡ 42 → Step (kinds e t) (Withdraw n) (Err (Store fault)) (shown e t s l) (shown e t s l)
    withdrawal_fault cells fault is n found amount = refused_step e t (s.meaning l.store) l.rows l.latest fits (Withdraw n) (Store fault) (withdrawal_refused e t (s.meaning l.store) l.rows l.latest fits n empty fault room (ap (has n) (sym (newest_at e t s l h empty)) ∙ found) (ap (claimed (s.meaning l.store)) (sym amount) ∙ is))

    -- what the store answers to a claim, of the changes that only the store can refuse
    pub claim_told : (cells : ℕ) (r : Result (Unit {0}) Fault) → r ≡ claimed (s.meaning l.store) cells →
        IfOk r (λ _. claimed (s.meaning l.store) cells ≡ Ok tt)
        × IfErr r (λ fault. (at : T) (effect : E) → cells ≡ 42 → Step (kinds e t) (Enter at effect) (Err (Store fault)) (shown e t s l) (shown e t s l))
        × IfErr r (λ fault. (n : ℕ) → has n newest ≡ true → cells ≡ 42 → Step (kinds e t) (Withdraw n) (Err (Store fault)) (shown e t s l) (shown e t s l))
    claim_told cells (Ok x) is = (sym is, tt, tt)
    claim_told cells (Err fault) is = (tt, entry_fault cells fault (sym is), withdrawal_fault cells fault (sym is))
