-- What was made, said otherwise, and one making after another.
use Rattle.std.proofs.Common.{◌≡◌, ℕ, ◌+◌, ◌-◌, ◌≤◌, [], ◌∷◌, ◌++◌, length, Ok, Result, sym, refl, ap, ◌∙◌, subst, append-nil, arith, length-append}
use Rattle.effects.specs.declared.Effect as effect
use Rattle.times.specs.declared.Time as time
use Rattle.reference.specs.declared.Operation.{Operation}
use Rattle.reference.specs.Beliefs.{Belief}
use Rattle.cells.specs.declared.Cell.{Cell}
use Rattle.store.specs.declared.fault.Fault.{Fault}
use Rattle.store.specs.Meaning.{Meaning, put_answer, with_cells, after_put}
use Rattle.tree.specs.declared.Side.{Side}
use Rattle.tree.specs.declared.Parts.{Parts}
use Rattle.tree.specs.declared.Node.{Node}
use Rattle.tree.specs.Trees.{Tree, leaf, node, side, node_of, parts_of, Kept}
use Rattle.store.specs.declared.Store as store
use Rattle.tree.specs.Making.{Unchanged, Grew, Made, Reads, Opens, level}
use Rattle.tree.proofs.Keeping.{same_answer, put_accepted, gains}

pub level_small : {E T : Type 0} (s : Tree E T) → level s ≤ 1
level_small leaf = omega arith
level_small (node k l o r) = omega arith

-- one reading after another
pub unchanged_then : {S : Type 0} (s : store.Ghosts S) (a b c : S) → Unchanged s a b → Unchanged s b c → Unchanged s a c
unchanged_then s a b c one two = record { meaning = two.meaning ∙ one.meaning; buffer = two.buffer ∙ one.buffer }

-- no call, one that only read, and one after another
pub grew_still : {S : Type 0} (s : store.Ghosts S) (a : S) → Grew s a a
grew_still s a = record { longer = omega arith; buffer = λ _. refl }

pub grew_none : {S : Type 0} (s : store.Ghosts S) (a b : S) → Unchanged s a b → Grew s a b
grew_none s a b same = let cells = ap (λ m. length m.cells) same.meaning in record { longer = omega arith; buffer = λ _. same.buffer }

pub grew_then : {S : Type 0} (s : store.Ghosts S) (a b c : S) → Grew s a b → Grew s b c → Grew s a c
grew_then s a b c one two = record { longer = omega arith; buffer = λ same. two.buffer (omega arith) ∙ one.buffer (omega arith) }

pub grew_after : {S : Type 0} (s : store.Ghosts S) (a b c : S) → Unchanged s a b → Grew s b c → Grew s a c
grew_after s a b c same more = grew_then s a b c (grew_none s a b same) more

-- a call that put a cell
pub grew_put : {S : Type 0} (s : store.Ghosts S) (a b : S) (cell : Cell) (k : ℕ) → Ok k ≡ put_answer (s.meaning a) → s.meaning b ≡ after_put (s.meaning a) cell → Grew s a b
grew_put s a b cell k answer after =
    let put : s.meaning b ≡ with_cells (s.meaning a) (cell ∷ []) = rw (put_accepted (s.meaning a) k answer) at after in
    let more : length (s.meaning b).cells ≡ length (s.meaning a).cells + 1 = ap (λ m. length m.cells) put ∙ length-append (s.meaning a).cells (cell ∷ []) in
    record { longer = omega arith; buffer = λ same. absurd (omega arith) }

-- a store that gained nothing
pub gains_none : (m n : Meaning) → n ≡ m → n ≡ with_cells m []
gains_none m n same =
    let cells = append-nil m.cells in
    let allowance : m.allowance - 0 ≡ m.allowance = omega arith in
    let space : m.space - 0 ≡ m.space = omega arith in
    same ∙ rw (cells, allowance, space) refl

module _ {E St T : Type 0} (e : effect.Ghosts E St) (t : time.Ghosts T) where
  pub made_as : {m n : Meaning} {answer : Result (Side E) Fault} {xs ys : Belief E T} {F G : Tree E T → ℕ → Type 0} →
      Made e t m n answer xs F → xs ≡ ys → ((s : Tree E T) (c : ℕ) → F s c → G s c) → Made e t m n answer ys G
  made_as made same weaker =
      record {
        tree = made.tree;
        new = made.new;
        good = made.good;
        kept = made.kept;
        reads = made.reads ∙ same;
        gained = made.gained;
        fits = weaker made.tree (length made.new) made.fits;
      }

  pub then_made : {m n u : Meaning} {answer last : Result (Side E) Fault} {xs ys zs : Belief E T} {F G H : Tree E T → ℕ → Type 0} →
      (one : Made e t m n answer xs F) → Made e t n u last ys G → ys ≡ zs → ((s : Tree E T) (c : ℕ) → G s c → H s (length one.new + c)) → Made e t m u last zs H
  then_made {m} {n} {u} {H = H} one two same both =
      record {
        tree = two.tree;
        new = one.new ++ two.new;
        good = two.good;
        kept = two.kept;
        reads = two.reads ∙ same;
        gained = gains m n u one.new two.new one.gained two.gained;
        fits = subst (H two.tree) (sym (length-append one.new two.new)) (both two.tree (length two.new) two.fits);
      }

  -- what reading a cell of a kept tree gives
  pub read_as : (m : Meaning) (k : ℕ) (got : Node E T) (j : ℕ) (a b : Tree E T) (p : Operation E T) →
      Reads e t m k (Ok got) → j ≡ k → Kept e t m.cells (node j a p b) → got ≡ node_of e t (side e t a) p (side e t b)
  read_as m k got j a b p reads at kept = same_answer _ _ (reads a p b (rw (sym at) kept))

  -- and reading it with its sides
  pub opened_as : (m : Meaning) (k : ℕ) (got : Parts E T) (j : ℕ) (a b : Tree E T) (p : Operation E T) →
      Opens e t m k (Ok got) → j ≡ k → Kept e t m.cells (node j a p b) → got ≡ parts_of e t a p b
  opened_as m k got j a b p opens at kept = same_answer _ _ (opens a p b (rw (sym at) kept))
