-- What one new cell over two sides makes.
use Rattle.std.proofs.Common.{◌≡◌, ℕ, ◌+◌, ◌≤◌, max, [], ◌∷◌, ◌++◌, length, Some, Ok, Result, refl, arith}
use Rattle.effects.specs.declared.Effect as effect
use Rattle.times.specs.declared.Time as time
use Rattle.reference.specs.declared.Operation.{Operation}
use Rattle.store.specs.declared.fault.Fault.{Fault}
use Rattle.store.specs.Meaning.{Meaning, with_cells}
use Rattle.tree.specs.declared.Side.{Side}
use Rattle.tree.specs.Trees.{Tree, node, height, operations, joined, side, cell_of, Kept}
use Rattle.tree.specs.Making.{Made, Sides, level, evenness}
use Rattle.store.proofs.Finding.{cell_last}
use Rattle.tree.proofs.Keeping.{kept_more, root_in}

module _ {E St T : Type 0} (e : effect.Ghosts E St) (t : time.Ghosts T) where
  -- what is known of a new root over two sides
  abbrev pub new_side : ℕ → Side E → Operation E T → Side E → Side E
  new_side k l o r = record { number = k; height = max l.height r.height + 1; total = Some (joined e.composed l.total o.effect r.total) }

  put_made : (m : Meaning) (l r : Tree E T) (o : Operation E T) →
      Kept e t m.cells l → Kept e t m.cells r → height l ≤ height r + 1 → height r ≤ height l + 1 →
      Made e t m (with_cells m (cell_of e t (side e t l) o (side e t r) ∷ [])) (Ok (new_side (length m.cells + 1) (side e t l) o (side e t r))) (operations l ++ (o ∷ operations r))
      (λ s c. (height s ≡ max (height l) (height r) + 1) × (level s ≡ evenness (height l) (height r)) × (c ≡ 1))
  put_made m l r o hl hr low high =
      let c = cell_of e t (side e t l) o (side e t r) in
      let il = root_in e t m.cells l hl in
      let ir = root_in e t m.cells r hr in
      record {
        tree = node (length m.cells + 1) l o r;
        new = c ∷ [];
        good = refl;
        kept = (cell_last m.cells c, omega arith, omega arith, low, high, kept_more e t m.cells (c ∷ []) l hl, kept_more e t m.cells (c ∷ []) r hr);
        reads = refl;
        gained = refl;
        fits = (refl, refl, refl);
      }

  pub join_made : (m n : Meaning) (left right : Side E) (l r : Tree E T) (o : Operation E T) (answer : Result (Side E) Fault) →
      Sides e t m.cells left right l r 1 →
      n ≡ with_cells m (cell_of e t left o right ∷ []) →
      answer ≡ Ok (new_side (length m.cells + 1) left o right) →
      Made e t m n answer (operations l ++ (o ∷ operations r))
      (λ s c. (height s ≡ max (height l) (height r) + 1) × (level s ≡ evenness (height l) (height r)) × (c ≡ 1))
  join_made m n left right l r o answer s after is =
      rw (is, after, s.left_is, s.right_is) (put_made m l r o s.left_kept s.right_kept s.left_low s.right_low)
