-- A standing tree reads as its operations, and stands and reads so whatever cells come after.
use Rattle.std.proofs.Common.{◌≡◌, ℕ, List, ◌++◌, Some, Ok, Result, sym, ap, ◌∙◌, subst}
use Rattle.effects.specs.declared.Effect as effect
use Rattle.times.specs.declared.Time as time
use Rattle.cells.specs.declared.Cell.{Cell}
use Rattle.reference.specs.Beliefs.{Belief}
use Rattle.store.specs.declared.fault.Fault.{Fault}
use Rattle.store.specs.Meaning.{Meaning}
use Rattle.tree.specs.Trees.{height, operations}
use Rattle.tree.specs.Reading.{read_from, height_at}
use Rattle.tree.proofs.Keeping.{kept_more}
use Rattle.tree.proofs.Readings.{reads_kept, height_kept}
use Rattle.questions.specs.Standing.{Standing}
use Rattle.questions.specs.Asking.{Answers}

module _ {E St T : Type 0} (e : effect.Ghosts E St) (t : time.Ghosts T) where
  pub standing_later : (cells more : List Cell) (k : ℕ) → Standing e t cells k → Standing e t (cells ++ more) k
  standing_later cells more k s = record { tree = s.tree; at = s.at; kept = kept_more e t cells more s.tree s.kept; sorted = s.sorted }

  pub standing_height : (cells : List Cell) (k : ℕ) (s : Standing e t cells k) → height_at cells k ≡ height s.tree
  standing_height cells k s = subst (λ w. height_at cells w ≡ height s.tree) s.at (height_kept e t cells s.tree s.kept)

  module _ (effects_back : (f : E) → e.reads (e.words f) ≡ Some f) (times_back : (a : T) → t.reads (t.word a) ≡ Some a) where
    pub standing_reads : (cells : List Cell) (k : ℕ) (s : Standing e t cells k) → read_from e t cells k ≡ operations s.tree
    standing_reads cells k s = subst (λ w. read_from e t cells w ≡ operations s.tree) s.at (reads_kept e t effects_back times_back cells s.tree s.kept)

    -- every older root reads as before
    pub standing_reads_later : (cells more : List Cell) (k : ℕ) → Standing e t cells k → read_from e t (cells ++ more) k ≡ read_from e t cells k
    unfolding standing_later
    standing_reads_later cells more k s = standing_reads (cells ++ more) k (standing_later cells more k s) ∙ sym (standing_reads cells k s)

    -- what a descent answers is the answer to what the cells say
    pub answered : {A : Type 0} (m : Meaning) (k : ℕ) (asked : Belief E T → A) (answer : Result A Fault) → Answers e t m k asked answer → Standing e t m.cells k → answer ≡ Ok (asked (read_from e t m.cells k))
    answered m k asked answer h s = h s.tree s.at s.kept s.sorted ∙ ap (λ w. Ok (asked w)) (sym (standing_reads m.cells k s))
