-- A ledger whose store gained cells stands and shows the beliefs that it showed; with one row more, one belief more.
use Rattle.std.proofs.Common.{◌≡◌, ℕ, ◌+◌, ◌<◌, ◌≤◌, List, [], ◌∷◌, ◌++◌, length, get_or, set, Some, Option, sym, refl, ap, ◌∙◌, subst, arith}
use Rattle.std.proofs.lemmas.List.{length-append, length-set}
use Rattle.effects.specs.declared.Effect as effect
use Rattle.times.specs.declared.Time as time
use Rattle.store.specs.declared.Store as store
use Rattle.store.specs.Meaning.{claimed, with_cells}
use Rattle.cells.specs.declared.Cell.{Cell}
use Rattle.reference.specs.Beliefs.{Belief, kinds, count}
use Rattle.calls.specs.declared.call.Call.{Call}
use Rattle.calls.specs.Verdict.{verdict, makes, claim_of}
use Rattle.tree.specs.Reading.{read_from}
use Rattle.ledger.specs.declared.Row.{Row}
use Rattle.ledger.specs.Accounts.{Account}
use Rattle.ledger.specs.Shown.{beliefs_of, RowStands, shown, Stands}
use Rattle.ledger.specs.Changing.{Next, Put}
use Rattle.ledger.proofs.RowLists.{rows_same, rows_push}
use Rattle.ledger.proofs.Lasting.{reads_more, row_with_cells}
use Rattle.ledger.proofs.NewRows.{each_more}
use Rattle.ledger.proofs.Showing.{length_beliefs, made_step}
use Rattle.ledger.proofs.Asked.{over}
use Rattle.ledger.proofs.Empty.{empty}

module _ {E St T S : Type 0} (e : effect.Ghosts E St) (t : time.Ghosts T) (s : store.Ghosts S) where
  -- the ledger with one row more
  abbrev pub with_row : Account T S → Row T → Account T S
  with_row l row = record { store = l.store; rows = set l.rows (l.latest + 1) row; latest = l.latest + 1 }

  module _ (l : Account T S) (row : Row T) (h : Stands e t s l) (room : l.latest < 1023) where
    pub stands_row : Next e t s l row.root row.entered → row.count ≡ count (read_from e t (s.meaning l.store).cells row.root) → Stands e t s (with_row l row)
    stands_row next counts = record {
      rows = length-set l.rows (l.latest + 1) row ∙ h.rows;
      latest = omega arith;
      each = each_more e t (s.meaning l.store).cells l.rows l.latest row (omega (arith, h.rows)) h.each (next.stands row refl refl counts);
    }

    pub shown_row : (shown e t s (with_row l row)).beliefs ≡ (shown e t s l).beliefs ++ (read_from e t (s.meaning l.store).cells row.root ∷ [])
    unfolding beliefs_of
    shown_row = rows_push l.rows l.latest (omega (arith, h.rows)) (λ x. read_from e t (s.meaning l.store).cells x.root) row (omega (arith, h.rows))

  module _ (effects_back : (f : E) → e.reads (e.words f) ≡ Some f) (times_back : (a : T) → t.reads (t.word a) ≡ Some a) (l : Account T S) (h : Stands e t s l) (n : S) (new : List Cell) (gained : s.meaning n ≡ with_cells (s.meaning l.store) new) where
    pub grown : (s.meaning n).cells ≡ (s.meaning l.store).cells ++ new
    grown = ap (λ x. x.cells) gained

    pub stands_put : Stands e t s (over e t s l n)
    stands_put = record {
      rows = h.rows;
      latest = h.latest;
      each = λ b d inside. subst (λ c. RowStands e t c l.rows b (get_or l.rows b d)) (sym grown) (row_with_cells e t effects_back times_back (s.meaning l.store).cells new l.rows b (get_or l.rows b d) (h.each b d inside));
    }

    shown_put : (shown e t s (over e t s l n)).beliefs ≡ (shown e t s l).beliefs
    unfolding beliefs_of
    shown_put =
        rows_same l.rows l.latest (omega (arith, h.rows, h.latest)) (λ x. read_from e t (s.meaning l.store).cells x.root) (λ x. read_from e t (s.meaning n).cells x.root) empty
        (λ b inside.
        let root = (get_or l.rows b empty).root in
        ap (λ c. read_from e t c root) grown ∙ reads_more e t effects_back times_back (s.meaning l.store).cells new root (h.each b empty inside).tree)

    pub cells_put : (c : Call E T) (belief : Belief E T) (root : ℕ) (entered : Option T) → verdict (kinds e t) (shown e t s l).beliefs c (claimed (s.meaning l.store) (claim_of c)) ≡ makes belief → length new ≤ claim_of c → read_from e t (s.meaning n).cells root ≡ belief → Next e t s (over e t s l n) root entered →
        Put e t s (shown e t s l) c (over e t s l n) root entered
    cells_put c belief root entered made few reads next = record {
      beliefs = shown_put;
      many = length_beliefs e t (s.meaning l.store) l.rows l.latest (omega (arith, h.rows, h.latest));
      grown = omega (arith, ap length grown, length-append (s.meaning l.store).cells new);
      next = next;
      step = made_step (kinds e t) c (shown e t s l) (read_from e t (s.meaning n).cells root) (s.meaning n) new (subst (λ b. verdict (kinds e t) (shown e t s l).beliefs c (claimed (s.meaning l.store) (claim_of c)) ≡ makes b) (sym reads) made) gained few;
    }
