-- A withdrawal, from what its removal made.
use Rattle.std.proofs.Common.{◌≡◌, ℕ, ◌+◌, ◌<◌, ◌≤◌, true, length, get_or, Some, None, Ok, Err, Option, Result, sym, ap, ◌∙◌, subst, arith}
use Rattle.effects.specs.declared.Effect as effect
use Rattle.times.specs.declared.Time as time
use Rattle.store.specs.declared.Store as store
use Rattle.store.specs.declared.fault.Fault.{Fault}
use Rattle.store.specs.Meaning.{Meaning, fault_of, claimed}
use Rattle.reference.specs.Beliefs.{kinds, without, count}
use Rattle.calls.specs.declared.call.Call.TheVariants.{Withdraw}
use Rattle.calls.specs.Verdict.{has, latest_belief, granted}
use Rattle.order.specs.Order.{Timed, Sorted, struck}
use Rattle.order.specs.Order as order
use Rattle.order.proofs.Orders.{TimeLaws}
use Rattle.order.proofs.Stays.{struck_without}
use Rattle.questions.specs.Standing.{Standing}
use Rattle.questions.proofs.Stands.{standing_reads}
use Rattle.removal.specs.Removing.{Removed}
use Rattle.tree.specs.Reading.{read_from}
use Rattle.tree.proofs.Keeping.{refused, same_answer}
use Rattle.ledger.specs.declared.Row.{Row}
use Rattle.ledger.specs.Accounts.{Account}
use Rattle.ledger.specs.Shown.{shown, Stands}
use Rattle.ledger.specs.Changing.{Ready, Next, Put}
use Rattle.ledger.proofs.NewRows.{withdrawal_stands}
use Rattle.ledger.proofs.Showing.{withdrawal_verdict}
use Rattle.ledger.proofs.Found.{count_without, has_timed}
use Rattle.ledger.proofs.Asked.{over}
use Rattle.ledger.proofs.Putting.{stands_put, cells_put}
use Rattle.ledger.proofs.Entries.{claim_none, newest_at, newest_below, newest_entered, newest_few}
use Rattle.ledger.proofs.Empty.{empty}

same_root : (a b : ℕ) → ◌≡◌ {A = Result (Option ℕ) Fault} (Ok (Some a)) (Ok (Some b)) → a ≡ b
same_root a b h = cc

module _ {E St T S : Type 0} (e : effect.Ghosts E St) (t : time.Ghosts T) (s : store.Ghosts S) (laws : TimeLaws t.upto) where
  -- what has the number and the time is there
  pub there : (l : Account T S) (root n : ℕ) (at : T) → read_from e t (s.meaning l.store).cells root ≡ latest_belief (shown e t s l).beliefs → has n (latest_belief (shown e t s l).beliefs) ≡ true → Timed n at (latest_belief (shown e t s l).beliefs) → order.has (kinds e t) n at (read_from e t (s.meaning l.store).cells root) ≡ true
  there l root n at newest found timed = ap (order.has (kinds e t) n at) newest ∙ has_timed (kinds e t) laws n at (latest_belief (shown e t s l).beliefs) timed ∙ found

module _ {E St T S : Type 0} (e : effect.Ghosts E St) (t : time.Ghosts T) (s : store.Ghosts S) (effects_back : (f : E) → e.reads (e.words f) ≡ Some f) (times_back : (a : T) → t.reads (t.word a) ≡ Some a) (laws : TimeLaws t.upto) (l : Account T S) (h : Stands e t s l) (room : l.latest < 1023) where
  -- the latest belief is in order
  newest_sorted : (root : ℕ) → Standing e t (s.meaning l.store).cells root → read_from e t (s.meaning l.store).cells root ≡ latest_belief (shown e t s l).beliefs → Sorted (kinds e t) (latest_belief (shown e t s l).beliefs)
  newest_sorted root tree newest = subst (Sorted (kinds e t)) (sym (standing_reads e t effects_back times_back (s.meaning l.store).cells root tree) ∙ newest) tree.sorted

  pub withdrawal_put : (n : ℕ) (at : T) (root : ℕ) (after : S) (got : Result (Option ℕ) Fault) (new_root : ℕ) → has n (latest_belief (shown e t s l).beliefs) ≡ true → Timed n at (latest_belief (shown e t s l).beliefs) → claimed (s.meaning l.store) 42 ≡ Ok tt → Standing e t (s.meaning l.store).cells root → read_from e t (s.meaning l.store).cells root ≡ latest_belief (shown e t s l).beliefs → Removed e t (s.meaning l.store) (s.meaning after) root n at got 42 → got ≡ Ok (Some new_root) →
      Put e t s (shown e t s l) (Withdraw n) (over e t s l after) new_root None × (count (read_from e t (s.meaning after).cells new_root) + 1 ≡ count (latest_belief (shown e t s l).beliefs))
  withdrawal_put n at root after got new_root found timed claim tree newest made is =
      let m = s.meaning l.store in
      let old = latest_belief (shown e t s l).beliefs in
      let here = newest_at e t s l h empty in
      let same : made.new_root ≡ new_root = same_root made.new_root new_root (sym made.is ∙ is) in
      let stands : Standing e t (s.meaning after).cells new_root = subst (Standing e t (s.meaning after).cells) same made.stands in
      let reads : read_from e t (s.meaning after).cells new_root ≡ without n old = ap (read_from e t (s.meaning after).cells) (sym same) ∙ made.reads ∙ ap (struck (kinds e t) n at) newest ∙ struck_without (kinds e t) laws n at old timed in
      let less : count (without n old) + 1 ≡ count old = count_without (kinds e t) laws n at old (newest_sorted root tree newest) timed found in
      let counts : count (read_from e t (s.meaning after).cells new_root) + 1 ≡ count old = omega (arith, ap count reads, less) in
      let verdict_is = withdrawal_verdict e t m l.rows l.latest (omega (arith, h.rows)) (claimed m 42) n empty room (ap (has n) (sym here) ∙ found) ∙ ap (λ c. granted c (without n (read_from e t m.cells (get_or l.rows l.latest empty).root))) claim ∙ ap (λ b. granted (Ok tt) (without n b)) (sym here) in
      let next : Next e t s (over e t s l after) new_root None = record {
        stands = λ row root_is entered_is count_is.
            withdrawal_stands e t (s.meaning after).cells l.rows (l.latest + 1) (omega (arith, h.rows)) row old (newest_below e t s l h) (newest_entered e t s l h)
            (subst (Standing e t (s.meaning after).cells) (sym root_is) stands)
            (count_is ∙ ap (λ r. count (read_from e t (s.meaning after).cells r)) (sym root_is))
            (omega (arith, counts, newest_few e t s l h)) n (ap (read_from e t (s.meaning after).cells) root_is ∙ reads);
      } in
      (cells_put e t s effects_back times_back l h after made.new made.gained (Withdraw n) (without n old) new_root None verdict_is made.few reads next, counts)

-- A withdrawal that may put its cells, of an operation that is there with its time, and what its removal ensures where the claim was accepted.
module _ {E St T S : Type 0} (e : effect.Ghosts E St) (t : time.Ghosts T) (s : store.Ghosts S) (effects_back : (f : E) → e.reads (e.words f) ≡ Some f) (times_back : (a : T) → t.reads (t.word a) ≡ Some a) (laws : TimeLaws t.upto)
    (l : Account T S) (h : Stands e t s l) (row : Row T) (n : ℕ) (at : T) (ready : Ready e t s l (Withdraw n) row) (found : has n (latest_belief (shown e t s l).beliefs) ≡ true) (timed : Timed n at (latest_belief (shown e t s l).beliefs)) (after : S) (got : Result (Option ℕ) Fault)
    (claimed_made : order.has (kinds e t) n at (read_from e t (s.meaning l.store).cells row.root) ≡ true → fault_of (s.meaning l.store) 42 ≡ None → length (read_from e t (s.meaning l.store).cells row.root) ≤ 1023 → Removed e t (s.meaning l.store) (s.meaning after) row.root n at got 42) where
  made : Removed e t (s.meaning l.store) (s.meaning after) row.root n at got 42
  made =
      let room = ready.room in
      claimed_made (there e t s laws l row.root n at ready.newest.reads found timed) (claim_none (s.meaning l.store) 42 ready.granted) (omega (arith, newest_few e t s l h, ap count ready.newest.reads))

  pub withdrawal_stays : Stands e t s (over e t s l after)
  withdrawal_stays = stands_put e t s effects_back times_back l h after made.new made.gained

  -- it is not refused, and finds the operation
  pub withdrawal_goes : {P : Type 0} (f : Fault) → got ≡ Err f → P
  withdrawal_goes f is = refused f _ (sym is ∙ made.is)

  pub withdrawal_finds : {P : Type 0} (removed : Option ℕ) → got ≡ Ok removed → ((root : ℕ) → removed ≡ Some root → ⊥) → P
  withdrawal_finds removed is none = absurd (none made.new_root (same_answer removed (Some made.new_root) (sym is ∙ made.is)))

  pub withdrawal_puts : (removed : Option ℕ) (new_root : ℕ) → got ≡ Ok removed → removed ≡ Some new_root →
      Put e t s (shown e t s l) (Withdraw n) (over e t s l after) new_root None × (count (read_from e t (s.meaning after).cells new_root) + 1 ≡ count (latest_belief (shown e t s l).beliefs))
  withdrawal_puts removed new_root was is =
      withdrawal_put e t s effects_back times_back laws l h ready.room n at row.root after got new_root found timed ready.granted ready.newest.tree ready.newest.reads made (was ∙ ap (λ x. Ok x) is)
