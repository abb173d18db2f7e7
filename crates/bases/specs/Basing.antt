-- A put into a store that keeps its cells itself.
use Rattle.std.specs.Prelude.{◌≡◌, ℕ, ◌+◌, ◌-◌, List, [], ◌∷◌, ◌++◌, length, None}
use Rattle.std.proofs.Common.{sym, ap, ◌∙◌, arith}
use Rattle.std.proofs.lemmas.List.{length_push}
use Rattle.cells.specs.declared.Cell.{Cell}
use Rattle.store.specs.Meaning.{fault_of, after_put}
use Rattle.store.proofs.Granting.{same_meaning, after_free}
use Rattle.bases.specs.Bases.{base}

-- one cell more is what an accepted put leaves
pub base_put : (cells more : List Cell) (capacity : ℕ) (c : Cell) → fault_of (base cells capacity) 1 ≡ None → more ≡ cells ++ (c ∷ []) → base more capacity ≡ after_put (base cells capacity) c
base_put cells more capacity c free pushed =
    let long : length more ≡ length cells + 1 = ap length pushed ∙ length_push cells c in
    let allowance : 4294967295 - length more ≡ 4294967295 - length cells - 1 = omega arith in
    let space : capacity - length more ≡ capacity - length cells - 1 = omega arith in
    same_meaning _ _ _ _ _ _ pushed allowance space ∙ sym (after_free (base cells capacity) c free)
