-- A question leaves a ledger as it was, and is answered from the row of its belief.
use Rattle.std.proofs.Common.{◌≡◌, ℕ, ◌+◌, ◌<◌, ◌≤◌, length, get_or, sym, refl, ap, ◌∙◌, subst, arith}
use Rattle.std.proofs.lemmas.Bool.{lt-ltb, le-ltb}
use Rattle.effects.specs.declared.Effect as effect
use Rattle.times.specs.declared.Time as time
use Rattle.store.specs.declared.Store as store
use Rattle.reference.specs.Beliefs.{count}
use Rattle.calls.specs.declared.refusal.Refusal.TheVariants.{NoBelief}
use Rattle.tree.specs.Making.{Unchanged}
use Rattle.ledger.specs.declared.Row.{Row}
use Rattle.ledger.specs.Accounts.{Account}
use Rattle.ledger.specs.Shown.{view_of, RowStands, shown, Stands}
use Rattle.ledger.specs.Asking.{RowOf, NoRow}
use Rattle.ledger.proofs.Showing.{length_beliefs, belief_at}

module _ {E St T S : Type 0} (e : effect.Ghosts E St) (t : time.Ghosts T) (s : store.Ghosts S) (l : Account T S) where
  -- the ledger over its store as a reading left it
  abbrev pub over : S → Account T S
  over read = record { store = read; rows = l.rows; latest = l.latest }

  pub stands_over : (read : S) → Stands e t s l → Unchanged s l.store read → Stands e t s (over read)
  stands_over read h same = record {
    rows = h.rows;
    latest = h.latest;
    each = λ b d inside. subst (λ m. RowStands e t m.cells l.rows b (get_or l.rows b d)) (sym same.meaning) (h.each b d inside);
  }

  pub shown_over : (read : S) → Unchanged s l.store read → shown e t s (over read) ≡ shown e t s l
  shown_over read same = ap (λ m. view_of e t m l.rows l.latest) same.meaning

  fits : Stands e t s l → l.latest < length l.rows
  fits h = omega (arith, h.rows, h.latest)

  many : Stands e t s l → length (shown e t s l).beliefs ≡ l.latest + 1
  many h = length_beliefs e t (s.meaning l.store) l.rows l.latest (fits h)

  pub row_of : (b : ℕ) (row : Row T) → Stands e t s l → b ≤ l.latest → RowOf e t (shown e t s l) b (get_or l.rows b row)
  row_of b row h inside =
      let reads = sym (belief_at e t (s.meaning l.store) l.rows l.latest (fits h) b row inside) in
      let standing = h.each b row inside in
      record { there = lt-ltb b (length (shown e t s l).beliefs) (omega (arith, many h)); tree = standing.tree; reads = reads; counted = standing.counted ∙ ap count reads }

  pub no_row : (b : ℕ) → Stands e t s l → l.latest < b → NoRow e t (shown e t s l) b (NoBelief b)
  no_row b h above = record { missing = le-ltb b (length (shown e t s l).beliefs) (omega (arith, many h)); is = refl }
