-- What stands keeps standing with more cells and one row more.
use Rattle.std.proofs.Common.{◌≡◌, ℕ, ◌+◌, ◌<◌, List, [], ◌∷◌, ◌++◌, get_or, set, Some, sym, ap, ◌∙◌, subst, arith}
use Rattle.std.specs.List.{AllByRecursion}
use Rattle.std.proofs.lemmas.List.{get_or-set_other}
use Rattle.effects.specs.declared.Effect as effect
use Rattle.times.specs.declared.Time as time
use Rattle.cells.specs.declared.Cell.{Cell}
use Rattle.reference.specs.Beliefs.{Belief, count}
use Rattle.order.specs.Order.{Below}
use Rattle.order.proofs.Stays.{below_more}
use Rattle.questions.specs.Standing.{Standing}
use Rattle.tree.specs.Reading.{read_from}
use Rattle.tree.proofs.Keeping.{kept_more}
use Rattle.tree.proofs.Readings.{reads_later}
use Rattle.ledger.specs.declared.Row.{Row}
use Rattle.ledger.specs.Shown.{RowStands}

-- each operation's time stands in the row of its number
abbrev pub Entered : {E T : Type 0} → List (Row T) → Belief E T → Type 0
Entered {E} {T} rows belief = AllByRecursion (λ o. (d : Row T) → (get_or rows o.number d).entered ≡ Some o.time) belief

pub entered_set : {E T : Type 0} (rows : List (Row T)) (i : ℕ) (row : Row T) (belief : Belief E T) → Below i belief → Entered rows belief → Entered (set rows i row) belief
entered_set rows i row [] below h = tt
entered_set rows i row (o ∷ os) below h = (λ d. ap (λ r. r.entered) (get_or-set_other rows i o.number row d (λ e. omega (arith, below.0))) ∙ h.0 d, entered_set rows i row os below.1 h.1)

module _ {E St T : Type 0} (e : effect.Ghosts E St) (t : time.Ghosts T) where
  pub standing_more : (cells more : List Cell) (k : ℕ) → Standing e t cells k → Standing e t (cells ++ more) k
  standing_more cells more k h = record { tree = h.tree; at = h.at; kept = kept_more e t cells more h.tree h.kept; sorted = h.sorted }

  module _ (effects_back : (f : E) → e.reads (e.words f) ≡ Some f) (times_back : (a : T) → t.reads (t.word a) ≡ Some a) where
    pub reads_more : (cells more : List Cell) (k : ℕ) → Standing e t cells k → read_from e t (cells ++ more) k ≡ read_from e t cells k
    reads_more cells more k h = subst (λ r. read_from e t (cells ++ more) r ≡ read_from e t cells r) h.at (reads_later e t effects_back times_back cells more h.tree h.kept)

    -- a row stands with more cells
    pub row_with_cells : (cells more : List Cell) (rows : List (Row T)) (b : ℕ) (row : Row T) → RowStands e t cells rows b row → RowStands e t (cells ++ more) rows b row
    row_with_cells cells more rows b row h =
        let same = sym (reads_more cells more row.root h.tree) in
        record { tree = standing_more cells more row.root h.tree; below = subst (Below (b + 1)) same h.below; counted = h.counted ∙ ap count same; few = h.few; timed = subst (Entered rows) same h.timed }

  -- a row stands with a row of a later belief
  pub row_with_row : (cells : List Cell) (rows : List (Row T)) (b i : ℕ) (row new : Row T) → b < i → RowStands e t cells rows b row → RowStands e t cells (set rows i new) b row
  row_with_row cells rows b i row new l h =
      let belief = read_from e t cells row.root in
      record { tree = h.tree; below = h.below; counted = h.counted; few = h.few; timed = entered_set rows i new belief (below_more (b + 1) i belief (omega arith) h.below) h.timed }
