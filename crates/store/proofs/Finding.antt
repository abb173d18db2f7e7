-- Finding cells by their numbers.
use Rattle.std.proofs.Common.{◌≡◌, ℕ, zero, suc, ◌+◌, ◌-◌, ◌<◌, ◌≤◌, ◌⊎◌, List, [], ◌∷◌, ◌++◌, length, get_or, Some, None, Ok, Option, sym, refl, ap, ◌∙◌, inl, inr, add-one, arith}
use Rattle.std.specs.Option.{ok_or}
use Rattle.std.specs.List.{slice_get}
use Rattle.std.proofs.lemmas.Option.{slice_get-get_or, slice_get_past}
use Rattle.cells.specs.declared.Cell.{Cell}
use Rattle.store.specs.declared.fault.Fault.{Fault}
use Rattle.store.specs.Meaning.{Meaning, cell_at, got}

-- no cell has the number 0 or one above the length
pub cell_past : (cells : List Cell) (k : ℕ) → (k ≡ 0) ⊎ (length cells < k) → cell_at cells k ≡ None
cell_past cells zero out = refl
cell_past cells (suc i) (inl e) = absurd (omega (arith, e))
cell_past cells (suc i) (inr past) = slice_get_past cells i (omega arith)

-- a cell that was read at its place
pub cell_read : (cells : List Cell) (k : ℕ) (c : Cell) → 0 < k → k ≤ length cells → c ≡ get_or cells (k - 1) c → cell_at cells k ≡ Some c
cell_read cells zero c low high read = absurd (omega arith)
cell_read cells (suc i) c low high read =
    let here : suc i - 1 ≡ i = omega arith in
    slice_get-get_or cells i c (omega arith) ∙ ap Some (sym (read ∙ ap (λ j. get_or cells j c) here))

-- a cell keeps its number, whatever is appended
pub cell_append : (cells more : List Cell) (k : ℕ) (c : Cell) → cell_at cells k ≡ Some c → cell_at (cells ++ more) k ≡ Some c
cell_append cells more zero c at = at
cell_append [] more (suc i) c at = absurd (let z : ◌≡◌ {A = ℕ} 0 1 = cc in omega arith)
cell_append (x ∷ cells) more (suc zero) c at = at
cell_append (x ∷ cells) more (suc (suc i)) c at = cell_append cells more (suc i) c at

nth_last : (cells : List Cell) (c : Cell) → slice_get (cells ++ (c ∷ [])) (length cells) ≡ Some c
nth_last [] c = refl
nth_last (x ∷ cells) c = nth_last cells c

-- the cell that was put last
pub cell_last : (cells : List Cell) (c : Cell) → cell_at (cells ++ (c ∷ [])) (length cells + 1) ≡ Some c
cell_last cells c = rw add-one (nth_last cells c)

-- a number that has a cell is between 1 and the length
pub cell_within : (cells : List Cell) (k : ℕ) (c : Cell) → cell_at cells k ≡ Some c → (0 < k) × (k ≤ length cells)
cell_within cells zero c at = absurd (let z : ◌≡◌ {A = ℕ} 0 1 = cc in omega arith)
cell_within [] (suc i) c at = absurd (let z : ◌≡◌ {A = ℕ} 0 1 = cc in omega arith)
cell_within (x ∷ cells) (suc zero) c at = (omega arith, omega arith)
cell_within (x ∷ cells) (suc (suc i)) c at = let rest = cell_within cells (suc i) c at in (omega arith, omega (arith, rest.1))

-- a cell that was got is there, and one that is there is got
some_got : (o : Option Cell) (f : Fault) (c : Cell) → Ok c ≡ ok_or o f → o ≡ Some c
some_got None f c e = absurd (let z : ◌≡◌ {A = ℕ} 0 1 = cc in omega arith)
some_got (Some d) f c e = cc

pub got_there : (m : Meaning) (k : ℕ) (c : Cell) → Ok c ≡ got m k → cell_at m.cells k ≡ Some c
got_there m k c e = some_got (cell_at m.cells k) _ c e

got_some : (o : Option Cell) (f : Fault) (c : Cell) → o ≡ Some c → Ok c ≡ ok_or o f
got_some None f c e = absurd (let z : ◌≡◌ {A = ℕ} 0 1 = cc in omega arith)
got_some (Some d) f c e = cc

pub there_got : (m : Meaning) (k : ℕ) (c : Cell) → cell_at m.cells k ≡ Some c → Ok c ≡ got m k
there_got m k c e = got_some (cell_at m.cells k) _ c e
