-- The computed reading of a kept tree is its list of operations, whatever cells come after.
use Rattle.std.proofs.Common.{◌≡◌, ℕ, zero, suc, ◌≤◌, List, [], ◌∷◌, ◌++◌, Some, sym, refl, ap, ◌∙◌, arith}
use Rattle.effects.specs.declared.Effect as effect
use Rattle.times.specs.declared.Time as time
use Rattle.reference.specs.declared.Operation.{Operation}
use Rattle.cells.specs.declared.Cell.{Cell}
use Rattle.tree.specs.Trees.{Tree, leaf, node, root, height, operations, Kept}
use Rattle.tree.specs.Reading.{own, around, read, read_from, height_in, height_at}
use Rattle.tree.proofs.Keeping.{kept_more, height_below}

module _ {E St T : Type 0} (e : effect.Ghosts E St) (t : time.Ghosts T) where
  -- a kept tree's root says the tree's height
  pub height_kept : (cells : List Cell) (s : Tree E T) → Kept e t cells s → height_at cells (root s) ≡ height s
  height_kept cells leaf h = refl
  height_kept cells (node k l o r) h = ap height_in h.0

  module _ (effects_back : (f : E) → e.reads (e.words f) ≡ Some f) (times_back : (a : T) → t.reads (t.word a) ≡ Some a) where
    own_kept : (o : Operation E T) → own o.number (t.reads (t.word o.time)) (e.reads (e.words o.effect)) ≡ o ∷ []
    own_kept o = rw (times_back o.time, effects_back o.effect)

    deep_enough : (cells : List Cell) (s : Tree E T) (deep : ℕ) → Kept e t cells s → height s ≤ deep → read e t cells deep (root s) ≡ operations s
    deep_enough cells leaf zero h low = refl
    deep_enough cells leaf (suc deep) h low = refl
    deep_enough cells (node k l o r) zero h low = absurd (omega arith)
    deep_enough cells (node k l o r) (suc deep) h low =
        let left = deep_enough cells l deep h.5 (omega arith) in
        let right = deep_enough cells r deep h.6 (omega arith) in
        ap (around e t (read e t cells deep)) h.0 ∙ rw (left, right, own_kept o)

    pub reads_kept : (cells : List Cell) (s : Tree E T) → Kept e t cells s → read_from e t cells (root s) ≡ operations s
    reads_kept cells s h = deep_enough cells s (root s) h (height_below e t cells s h)

    -- and so it is with more cells behind
    pub reads_later : (cells more : List Cell) (s : Tree E T) → Kept e t cells s → read_from e t (cells ++ more) (root s) ≡ read_from e t cells (root s)
    reads_later cells more s h = reads_kept (cells ++ more) s (kept_more e t cells more s h) ∙ sym (reads_kept cells s h)
