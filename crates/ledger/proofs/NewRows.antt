-- The row of a new belief stands.
use Rattle.std.proofs.Common.{◌≡◌, ℕ, ◌+◌, ◌<◌, ◌≤◌, not, eqb, List, length, get_or, set, Some, sym, ap, ◌∙◌, subst, ⊎_elim, arith}
use Rattle.std.proofs.lemmas.List.{get_or-set_same, get_or-set_other}
use Rattle.std.proofs.lemmas.Bool.{cases_eq, cases_lt}
use Rattle.std.proofs.ByRecursion.{all_kept_by}
use Rattle.effects.specs.declared.Effect as effect
use Rattle.times.specs.declared.Time as time
use Rattle.cells.specs.declared.Cell.{Cell}
use Rattle.reference.specs.declared.Operation.{Operation}
use Rattle.reference.specs.Beliefs.{Belief, kinds, entered, without, count}
use Rattle.order.specs.Order.{Below}
use Rattle.order.proofs.Stays.{all_entered, below_entered, below_more, below_without}
use Rattle.questions.specs.Standing.{Standing}
use Rattle.tree.specs.Reading.{read_from}
use Rattle.ledger.specs.declared.Row.{Row}
use Rattle.ledger.specs.Shown.{RowStands}
use Rattle.ledger.proofs.Lasting.{Entered, entered_set, row_with_row}

module _ {E St T : Type 0} (e : effect.Ghosts E St) (t : time.Ghosts T) (cells : List Cell) (rows : List (Row T)) (n : ℕ) (inside : n < length rows) (row : Row T) (old : Belief E T) (below : Below n old) (times : Entered rows old) (stands : Standing e t cells row.root) (counts : row.count ≡ count (read_from e t cells row.root)) (fewer : row.count ≤ n) where
  pub entry_stands : (op : Operation E T) → op.number ≡ n → row.entered ≡ Some op.time → read_from e t cells row.root ≡ entered (kinds e t) op old → RowStands e t cells (set rows n row) n row
  entry_stands op number entry reads =
      let k = kinds e t in
      record {
        tree = stands;
        below = subst (Below (n + 1)) (sym reads) (below_entered k (n + 1) op old (omega arith) (below_more n (n + 1) old (omega arith) below));
        counted = counts;
        few = fewer;
        timed = subst (Entered (set rows n row)) (sym reads) (all_entered k (λ o. (d : Row T) → (get_or (set rows n row) o.number d).entered ≡ Some o.time) op old (λ d. ap (λ i. (get_or (set rows n row) i d).entered) number ∙ ap (λ r. r.entered) (get_or-set_same rows n row d inside) ∙ entry) (entered_set rows n row old below times));
      }

  pub withdrawal_stands : (m : ℕ) → read_from e t cells row.root ≡ without m old → RowStands e t cells (set rows n row) n row
  withdrawal_stands m reads = record {
    tree = stands;
    below = subst (Below (n + 1)) (sym reads) (below_without m (n + 1) old (below_more n (n + 1) old (omega arith) below));
    counted = counts;
    few = fewer;
    timed = subst (Entered (set rows n row)) (sym reads) (all_kept_by (λ o. not (eqb o.number m)) _ old (entered_set rows n row old below times));
  }

module _ {E St T : Type 0} (e : effect.Ghosts E St) (t : time.Ghosts T) where
  -- With a new row that stands, all rows do.
  pub each_more : (cells : List Cell) (rows : List (Row T)) (latest : ℕ) (row : Row T) → latest + 1 < length rows → ((b : ℕ) (d : Row T) → b ≤ latest → RowStands e t cells rows b (get_or rows b d)) → RowStands e t cells (set rows (latest + 1) row) (latest + 1) row →
      (b : ℕ) (d : Row T) → b ≤ latest + 1 → RowStands e t cells (set rows (latest + 1) row) b (get_or (set rows (latest + 1) row) b d)
  each_more cells rows latest row inside each new b d l =
      ⊎_elim
      (λ same.
      let at : get_or (set rows (latest + 1) row) b d ≡ row = ap (λ i. get_or (set rows (latest + 1) row) i d) same ∙ get_or-set_same rows (latest + 1) row d inside in
      subst (λ i. RowStands e t cells (set rows (latest + 1) row) i (get_or (set rows (latest + 1) row) b d)) (sym same) (subst (RowStands e t cells (set rows (latest + 1) row) (latest + 1)) (sym at) new))
      (λ other.
      subst (RowStands e t cells (set rows (latest + 1) row) b) (sym (get_or-set_other rows (latest + 1) b row d other))
      (row_with_row e t cells rows b (latest + 1) (get_or rows b d) row (omega (arith, cases_lt b (latest + 1))) (each b d (omega arith))))
      (cases_eq b (latest + 1))
