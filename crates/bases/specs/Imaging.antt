-- Cells one after another in bytes: how many and which they are, and what one put more makes of the bytes.
use Rattle.std.specs.Prelude.{◌≡◌, ℕ, zero, suc, ◌+◌, ◌-◌, ◌*◌, ◌<◌, ◌≤◌, List, [], ◌∷◌, ◌++◌, length, take, drop, Some, None, Ok, Option, refl}
use Rattle.std.proofs.Common.{sym, ap, ◌∙◌, arith}
use Rattle.std.specs.List.{slice_get, flat_map}
use Rattle.std.proofs.lemmas.List.{append_assoc, drop_at, drop-drop, drop-take, flat_map_more, length-append, length_push, take_at, take-take}
use Rattle.big_endian.specs.Numbers.{overwritten}
use Rattle.big_endian.proofs.Overwriting.{take_overwritten, from_overwritten}
use Rattle.cells.specs.Layout.{cell_width, cell_of, layout}
use Rattle.cells.specs.declared.Cell.{Cell}
use Rattle.cells.proofs.Laying.{cell_of_front, length_layout}
use Rattle.store.specs.Meaning.{fault_of, after_put, put_answer, cell_at}
use Rattle.store.specs.declared.fault.Fault.{Fault}
use Rattle.store.proofs.Granting.{answer_free}
use Rattle.bases.specs.Bases.{base}
use Rattle.bases.specs.Layouts.{cells_in, image_bytes}
use Rattle.bases.specs.Images.{written_unless, put_bytes}
use Rattle.bases.specs.Basing.{base_put}

pub length_cells_in : (n : ℕ) (bytes : List ℕ) → length (cells_in n bytes) ≡ n
length_cells_in zero bytes = refl
length_cells_in (suc n) bytes = ap suc (length_cells_in n (drop cell_width bytes))

-- cells lie in the bytes before the next cell's
cells_in_front : (n : ℕ) (xs ys : List ℕ) → take (n * cell_width) xs ≡ take (n * cell_width) ys → cells_in n xs ≡ cells_in n ys
cells_in_front zero xs ys same = refl
cells_in_front (suc n) xs ys same =
    let w = cell_width in
    let size : suc n * w ≡ w + n * w = omega arith in
    let same' : take (w + n * w) xs ≡ take (w + n * w) ys = rw size at same in
    let low : w ≤ w + n * w = omega arith in
    let first : take w xs ≡ take w ys = sym (take-take w (w + n * w) xs low) ∙ ap (take w) same' ∙ take-take w (w + n * w) ys low in
    let rest : take (n * w) (drop w xs) ≡ take (n * w) (drop w ys) = sym (drop-take w (n * w) xs) ∙ ap (drop w) same' ∙ drop-take w (n * w) ys in
    let here : cell_of xs ≡ cell_of ys = sym (cell_of_front xs) ∙ ap cell_of first ∙ cell_of_front ys in
    let there = cells_in_front n (drop w xs) (drop w ys) rest in
    cc

-- what is past the first cell and n more is past n + 1
past_cell : (n : ℕ) (bytes : List ℕ) → drop (n * cell_width) (drop cell_width bytes) ≡ drop (suc n * cell_width) bytes
past_cell n bytes = let size : cell_width + n * cell_width ≡ suc n * cell_width = omega arith in drop-drop (n * cell_width) cell_width bytes ∙ ap (λ k. drop k bytes) size

cells_in_more : (n : ℕ) (bytes : List ℕ) → cells_in (suc n) bytes ≡ cells_in n bytes ++ (cell_of (drop (n * cell_width) bytes) ∷ [])
cells_in_more zero bytes = refl
cells_in_more (suc n) bytes =
    ap (λ (cs : List Cell). cell_of bytes ∷ cs) (cells_in_more n (drop cell_width bytes) ∙ ap (λ (p : List ℕ). cells_in n (drop cell_width bytes) ++ (cell_of p ∷ [])) (past_cell n bytes))

nth_cells_in : (n i : ℕ) (bytes : List ℕ) → i < n → slice_get (cells_in n bytes) i ≡ Some (cell_of (drop (i * cell_width) bytes))
nth_cells_in zero i bytes low = absurd (omega arith)
nth_cells_in (suc n) zero bytes low = refl
nth_cells_in (suc n) (suc i) bytes low = nth_cells_in n i (drop cell_width bytes) (omega arith) ∙ ap (λ (p : List ℕ). Some (cell_of p)) (past_cell i bytes)

-- the k-th cell is the one after k - 1 others
pub cell_in : (n k : ℕ) (bytes : List ℕ) (c : Cell) → 0 < k → k ≤ n → c ≡ cell_of (drop ((k - 1) * cell_width) bytes) → cell_at (cells_in n bytes) k ≡ Some c
cell_in n zero bytes c low high read = absurd (omega arith)
cell_in n (suc i) bytes c low high read =
    let here : suc i - 1 ≡ i = omega arith in
    nth_cells_in n i bytes (omega arith) ∙ ap Some (sym (read ∙ ap (λ j. cell_of (drop (j * cell_width) bytes)) here))

length_layouts : (cells : List Cell) → length (flat_map layout cells) ≡ length cells * cell_width
length_layouts [] = refl
length_layouts (c ∷ cells) =
    let both = length-append (layout c) (flat_map layout cells) in
    let first = length_layout c in
    let rest = length_layouts cells in
    omega arith

-- what follows the layouts of its cells stays in the bytes from there on
rest_laid : (cells : List Cell) (bytes handed : List ℕ) → bytes ≡ image_bytes cells handed → drop (length cells * cell_width) bytes ≡ drop (length cells * cell_width) handed
rest_laid cells bytes handed laid = ap (drop (length cells * cell_width)) laid ∙ drop_at (flat_map layout cells) _ (length cells * cell_width) (length_layouts cells)

-- a cell's layout written after those of its cells
laid_more : (cells : List Cell) (bytes handed : List ℕ) (c : Cell) → bytes ≡ image_bytes cells handed → overwritten bytes (length cells * cell_width) (layout c) ≡ image_bytes (cells ++ (c ∷ [])) handed
unfolding overwritten
laid_more cells bytes handed c laid =
    let at = length cells * cell_width in
    let end = at + length (layout c) in
    let front : take at bytes ≡ flat_map layout cells = ap (take at) laid ∙ take_at (flat_map layout cells) _ at (length_layouts cells) in
    let past : drop end bytes ≡ drop end handed =
    sym (drop-drop (length (layout c)) at bytes)
    ∙ ap (drop (length (layout c))) (rest_laid cells bytes handed laid)
    ∙ drop-drop (length (layout c)) at handed in
    let size : end ≡ length (cells ++ (c ∷ [])) * cell_width = let one = length_push cells c in let wide = length_layout c in omega arith in
    let rest : drop end bytes ≡ drop (length (cells ++ (c ∷ [])) * cell_width) handed = past ∙ ap (λ k. drop k handed) size in
    ap (λ (p : List ℕ). p ++ (layout c ++ drop end bytes)) front
    ∙ ap (λ (p : List ℕ). flat_map layout cells ++ (layout c ++ p)) rest
    ∙ sym (append_assoc (flat_map layout cells) (layout c) (drop (length (cells ++ (c ∷ [])) * cell_width) handed))
    ∙ ap (λ (p : List ℕ). p ++ drop (length (cells ++ (c ∷ [])) * cell_width) handed) (flat_map_more layout [] cells c)

-- A cell written after n cells is the next of them, and the bytes past it are as they were.
module _ (n capacity : ℕ) (bytes now : List ℕ) (c : Cell)
    (free : fault_of (base (cells_in n bytes) capacity) 1 ≡ None)
    (within : n * cell_width ≤ length bytes)
    (back : cell_of (layout c) ≡ c)
    (wrote : now ≡ overwritten bytes (n * cell_width) (layout c)) where
  cells_put : cells_in (n + 1) now ≡ cells_in n bytes ++ (c ∷ [])
  cells_put =
      let at = n * cell_width in
      let next : n + 1 ≡ suc n = omega arith in
      let before : cells_in n now ≡ cells_in n bytes = cells_in_front n now bytes (ap (take at) wrote ∙ take_overwritten bytes at (layout c) within) in
      let from : drop at now ≡ layout c ++ drop (at + length (layout c)) bytes = ap (drop at) wrote ∙ from_overwritten bytes at (layout c) within in
      let first : cell_of (drop at now) ≡ c =
      ap cell_of from
      ∙ sym (cell_of_front (layout c ++ drop (at + length (layout c)) bytes))
      ∙ ap cell_of (take_at (layout c) (drop (at + length (layout c)) bytes) cell_width (length_layout c))
      ∙ back in
      ap (λ k. cells_in k now) next ∙ cells_in_more n now ∙ cc

  pub answer_put : Ok (n + 1) ≡ put_answer (base (cells_in n bytes) capacity)
  answer_put = ap (λ (k : ℕ). Ok (k + 1)) (sym (length_cells_in n bytes)) ∙ sym (answer_free (base (cells_in n bytes) capacity) free)

  pub meaning_put : base (cells_in (n + 1) now) capacity ≡ after_put (base (cells_in n bytes) capacity) c
  meaning_put = base_put (cells_in n bytes) (cells_in (n + 1) now) capacity c free cells_put

  pub bytes_put : now ≡ put_bytes (base (cells_in n bytes) capacity) bytes c
  bytes_put =
      wrote
      ∙ ap (λ k. overwritten bytes (k * cell_width) (layout c)) (sym (length_cells_in n bytes))
      ∙ sym (ap (λ (fault : Option Fault). written_unless fault bytes (length (cells_in n bytes) * cell_width) c) free)

  pub laid_put : (handed : List ℕ) → bytes ≡ image_bytes (cells_in n bytes) handed → now ≡ image_bytes (cells_in (n + 1) now) handed
  laid_put handed laid =
      wrote
      ∙ ap (λ (k : ℕ). overwritten bytes (k * cell_width) (layout c)) (sym (length_cells_in n bytes))
      ∙ laid_more (cells_in n bytes) bytes handed c laid
      ∙ ap (λ (cells : List Cell). image_bytes cells handed) (sym cells_put)

  -- and still lay out the cells, one more
  pub stays_laid : bytes ≡ image_bytes (cells_in n bytes) bytes → now ≡ image_bytes (cells_in (n + 1) now) now
  stays_laid laid =
      let after = laid_put bytes laid in
      after ∙ ap (λ (rest : List ℕ). flat_map layout (cells_in (n + 1) now) ++ rest) (sym (rest_laid (cells_in (n + 1) now) now bytes after))
