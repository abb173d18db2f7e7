-- An entry, from what its insertion made.
use Rattle.std.proofs.Common.{◌≡◌, ℕ, ◌+◌, ◌<◌, ◌≤◌, length, get_or, Some, None, Ok, Err, Option, Result, sym, refl, ap, ◌∙◌, subst, arith}
use Rattle.effects.specs.declared.Effect as effect
use Rattle.times.specs.declared.Time as time
use Rattle.store.specs.declared.Store as store
use Rattle.store.specs.declared.fault.Fault.{Fault}
use Rattle.store.specs.Meaning.{Meaning, fault_of, unless, claimed}
use Rattle.reference.specs.declared.Operation.{Operation}
use Rattle.reference.specs.Beliefs.{kinds, entered, count}
use Rattle.calls.specs.declared.call.Call.TheVariants.{Enter}
use Rattle.calls.specs.Verdict.{latest_belief, granted}
use Rattle.order.specs.Order.{Below}
use Rattle.questions.specs.Standing.{Standing}
use Rattle.insertion.specs.Inserting.{Inserted}
use Rattle.tree.specs.Reading.{read_from}
use Rattle.tree.proofs.Keeping.{refused, same_answer}
use Rattle.law.proofs.Sorting.{length_entered}
use Rattle.ledger.specs.declared.Row.{Row}
use Rattle.ledger.specs.Accounts.{Account}
use Rattle.ledger.specs.Shown.{RowStands, shown, Stands}
use Rattle.ledger.specs.Changing.{Newest, Ready, Next, Put}
use Rattle.ledger.proofs.Lasting.{Entered}
use Rattle.ledger.proofs.NewRows.{entry_stands}
use Rattle.ledger.proofs.Showing.{latest_at, entry_verdict}
use Rattle.ledger.proofs.Asked.{over}
use Rattle.ledger.proofs.Putting.{stands_put, cells_put}
use Rattle.ledger.proofs.Empty.{empty}

pub claim_none : (m : Meaning) (n : ℕ) → claimed m n ≡ Ok tt → fault_of m n ≡ None
claim_none m n h =
    let cases : (f : Option Fault) → unless {A = Unit {0}} f tt ≡ Ok tt → f ≡ None = elim [ None ↦ λ _. refl | Some x ↦ λ is. absurd (let z : ◌≡◌ {A = ℕ} 0 1 = cc in omega arith) ] in
    cases (fault_of m n) h

-- The latest belief of a ledger that stands.
module _ {E St T S : Type 0} (e : effect.Ghosts E St) (t : time.Ghosts T) (s : store.Ghosts S) (l : Account T S) (h : Stands e t s l) where
  pub newest_at : (d : Row T) → latest_belief (shown e t s l).beliefs ≡ read_from e t (s.meaning l.store).cells (get_or l.rows l.latest d).root
  newest_at d = latest_at e t (s.meaning l.store) l.rows l.latest (omega (arith, h.rows, h.latest)) d

  latest_row : RowStands e t (s.meaning l.store).cells l.rows l.latest (get_or l.rows l.latest empty)
  latest_row = h.each l.latest empty (omega arith)

  pub newest_below : Below (l.latest + 1) (latest_belief (shown e t s l).beliefs)
  newest_below = subst (Below (l.latest + 1)) (sym (newest_at empty)) latest_row.below

  pub newest_entered : Entered l.rows (latest_belief (shown e t s l).beliefs)
  newest_entered = subst (Entered l.rows) (sym (newest_at empty)) latest_row.timed

  -- its row reads as it, and has its count
  pub newest_is : (d : Row T) → Newest e t (shown e t s l) (get_or l.rows l.latest d)
  newest_is d =
      let row = h.each l.latest d (omega arith) in
      let reads = sym (newest_at d) in
      record { tree = row.tree; reads = reads; counted = row.counted ∙ ap count reads; few = omega (arith, row.few, h.latest) }

  pub newest_few : count (latest_belief (shown e t s l).beliefs) ≤ l.latest
  newest_few = omega (arith, latest_row.counted, latest_row.few, ap count (newest_at empty))

module _ {E St T S : Type 0} (e : effect.Ghosts E St) (t : time.Ghosts T) (s : store.Ghosts S) (effects_back : (f : E) → e.reads (e.words f) ≡ Some f) (times_back : (a : T) → t.reads (t.word a) ≡ Some a) (l : Account T S) (h : Stands e t s l) (room : l.latest < 1023) where
  pub entry_put : (at : T) (effect : E) (root : ℕ) (n : S) (got : Result ℕ Fault) (new_root : ℕ) → claimed (s.meaning l.store) 42 ≡ Ok tt → read_from e t (s.meaning l.store).cells root ≡ latest_belief (shown e t s l).beliefs → Inserted e t (s.meaning l.store) (s.meaning n) root (record { number = l.latest + 1; time = at; effect = effect }) got 42 → got ≡ Ok new_root →
      Put e t s (shown e t s l) (Enter at effect) (over e t s l n) new_root (Some at) × (count (read_from e t (s.meaning n).cells new_root) ≡ count (latest_belief (shown e t s l).beliefs) + 1)
  entry_put at effect root n got new_root claim newest made is =
      let m = s.meaning l.store in
      let op : Operation E T = record { number = l.latest + 1; time = at; effect = effect } in
      let old = latest_belief (shown e t s l).beliefs in
      let same : made.new_root ≡ new_root = same_answer {F = Fault} made.new_root new_root (sym made.is ∙ is) in
      let stands : Standing e t (s.meaning n).cells new_root = subst (Standing e t (s.meaning n).cells) same made.stands in
      let reads : read_from e t (s.meaning n).cells new_root ≡ entered (kinds e t) op old = ap (read_from e t (s.meaning n).cells) (sym same) ∙ made.reads ∙ ap (entered (kinds e t) op) newest in
      let counts : count (read_from e t (s.meaning n).cells new_root) ≡ count old + 1 = ap count reads ∙ length_entered (kinds e t) op old in
      let verdict_is = entry_verdict e t m l.rows l.latest (omega (arith, h.rows)) (claimed m 42) at effect empty room ∙ ap (λ c. granted c (entered (kinds e t) op (read_from e t m.cells (get_or l.rows l.latest empty).root))) claim ∙ ap (λ b. granted (Ok tt) (entered (kinds e t) op b)) (sym (newest_at e t s l h empty)) in
      let next : Next e t s (over e t s l n) new_root (Some at) = record {
        stands = λ row root_is entered_is count_is.
            entry_stands e t (s.meaning n).cells l.rows (l.latest + 1) (omega (arith, h.rows)) row old (newest_below e t s l h) (newest_entered e t s l h)
            (subst (Standing e t (s.meaning n).cells) (sym root_is) stands)
            (count_is ∙ ap (λ r. count (read_from e t (s.meaning n).cells r)) (sym root_is))
            (omega (arith, counts, newest_few e t s l h)) op refl entered_is (ap (read_from e t (s.meaning n).cells) root_is ∙ reads);
      } in
      (cells_put e t s effects_back times_back l h n made.new made.gained (Enter at effect) (entered (kinds e t) op old) new_root (Some at) verdict_is made.few reads next, counts)

-- An entry that may put its cells, and what its insertion ensures where the claim was accepted.
module _ {E St T S : Type 0} (e : effect.Ghosts E St) (t : time.Ghosts T) (s : store.Ghosts S) (effects_back : (f : E) → e.reads (e.words f) ≡ Some f) (times_back : (a : T) → t.reads (t.word a) ≡ Some a)
    (l : Account T S) (h : Stands e t s l) (row : Row T) (at : T) (effect : E) (ready : Ready e t s l (Enter at effect) row) (n : S) (got : Result ℕ Fault)
    (claimed_made : fault_of (s.meaning l.store) 42 ≡ None → length (read_from e t (s.meaning l.store).cells row.root) ≤ 1023 → Inserted e t (s.meaning l.store) (s.meaning n) row.root (record { number = l.latest + 1; time = at; effect = effect }) got 42) where
  made : Inserted e t (s.meaning l.store) (s.meaning n) row.root (record { number = l.latest + 1; time = at; effect = effect }) got 42
  made =
      let room = ready.room in
      claimed_made (claim_none (s.meaning l.store) 42 ready.granted) (omega (arith, newest_few e t s l h, ap count ready.newest.reads))

  pub entry_stays : Stands e t s (over e t s l n)
  entry_stays = stands_put e t s effects_back times_back l h n made.new made.gained

  -- it is not refused
  pub entry_goes : {P : Type 0} (f : Fault) → got ≡ Err f → P
  entry_goes f is = refused f made.new_root (sym is ∙ made.is)

  pub entry_puts : (new_root : ℕ) → got ≡ Ok new_root → Put e t s (shown e t s l) (Enter at effect) (over e t s l n) new_root (Some at) × (count (read_from e t (s.meaning n).cells new_root) ≡ count (latest_belief (shown e t s l).beliefs) + 1)
  entry_puts new_root is = entry_put e t s effects_back times_back l h ready.room at effect row.root n got new_root ready.granted ready.newest.reads made is
