-- The lines of a cache stay as the store below has its cells.
use Rattle.std.proofs.Common.{◌≡◌, ℕ, zero, suc, ◌%◌, Bool, true, false, cond, eqb, List, [], ◌∷◌, get_or, set, replicate, Some, None, Ok, Option, sym, refl, ap, ◌∙◌, subst, arith, eqb-true}
use Rattle.cells.specs.declared.Cell.{Cell}
use Rattle.store.specs.Meaning.{Meaning, cell_at, got, put_unless, after_put, fault_of}
use Rattle.store.specs.declared.fault.Fault.{Fault}
use Rattle.store.proofs.Finding.{cell_append, there_got}
use Rattle.layers.specs.Caches.{lines_by}
use Rattle.layers.specs.Lines.{Faithful, Holds, empty_line, line_of, held, no_lines, with_line}
use Rattle.layers.specs.declared.lines.Line.{Line}

-- lines and a store that are equal to faithful ones
pub faithful_same : (m n : Meaning) (table lines : List Line) → n ≡ m → lines ≡ table → Faithful m.cells table → Faithful n.cells lines
faithful_same m n table lines same_Store same_lines old =
    subst (λ (o : Meaning). Faithful o.cells lines) (sym same_Store) (subst (λ (t : List Line). Faithful m.cells t) (sym same_lines) old)

-- a put leaves every cell where it was
put_faithful : (fault : Option Fault) (m : Meaning) (c : Cell) (table : List Line) → Faithful m.cells table → Faithful (put_unless fault m c).cells table
put_faithful None m c table old = record { line = λ i d some. cell_append m.cells (c ∷ []) _ d (old.line i d some) }
put_faithful (Some fault) m c table old = old

pub faithful_put : (m n : Meaning) (c : Cell) (table : List Line) → n ≡ after_put m c → Faithful m.cells table → Faithful n.cells table
faithful_put m n c table after old = faithful_same (after_put m c) n table table after refl (put_faithful (fault_of m 1) m c table old)

-- what holds of every element and of v holds of every element once v is written
set_keeps : {X : Type 0} (P : X → Type 0) (xs : List X) (j i : ℕ) (v d : X) → P v → ((i : ℕ) → P (get_or xs i d)) → P (get_or (set xs j v) i d)
set_keeps P [] j i v d here old = old i
set_keeps P (x ∷ xs) zero zero v d here old = here
set_keeps P (x ∷ xs) zero (suc i) v d here old = old (suc i)
set_keeps P (x ∷ xs) (suc j) zero v d here old = old zero
set_keeps P (x ∷ xs) (suc j) (suc i) v d here old = set_keeps P xs j i v d here (λ n. old (suc n))

-- a line is filled with the cell that is there
pub faithful_fill : (m n : Meaning) (table lines : List Line) (k : ℕ) (c : Cell) → cell_at m.cells k ≡ Some c → n ≡ m → lines ≡ with_line table k c → Faithful m.cells table → Faithful n.cells lines
faithful_fill m n table lines k c there same_Store filled old =
    faithful_same m n (with_line table k c) lines same_Store filled (record { line = λ i. set_keeps (Holds m.cells) table (k % 16) i _ empty_line (λ d same. there ∙ same) old.line })

getD_replicate_same : {X : Type 0} (n i : ℕ) (d : X) → get_or (replicate n d) i d ≡ d
getD_replicate_same zero i d = refl
getD_replicate_same (suc n) zero d = refl
getD_replicate_same (suc n) (suc i) d = getD_replicate_same n i d

none_holds : {P : Type 0} (o : Option Cell) (c : Cell) → o ≡ None → o ≡ Some c → P
none_holds o c none some = absurd (let z : ◌≡◌ {A = ℕ} 0 1 = cc in omega arith)

-- empty lines hold nothing that could be wrong
pub faithful_empty : (m : Meaning) (table : List Line) → table ≡ no_lines → Faithful m.cells table
faithful_empty m table empty =
    faithful_same m m no_lines table refl empty (record { line = λ i c some. none_holds _ c (ap (λ (l : Line). l.cell) (getD_replicate_same 16 i empty_line)) some })

held_by : (test : Bool) (line : Option Cell) (c : Cell) → Some c ≡ cond test line None → (test ≡ true) × (line ≡ Some c)
held_by true line c hit = (refl, sym hit)
held_by false line c hit = absurd (let z : ◌≡◌ {A = ℕ} 0 1 = cc in omega arith)

held_there : (cells : List Cell) (number k : ℕ) (line : Option Cell) (c : Cell) → Some c ≡ cond (eqb number k) line None → ((d : Cell) → line ≡ Some d → cell_at cells number ≡ Some d) → cell_at cells k ≡ Some c
held_there cells number k line c hit there =
    let found = held_by (eqb number k) line c hit in
    ap (cell_at cells) (sym (eqb-true number k found.0)) ∙ there c found.1

-- a get of a cell that the lines lack and that is there fills its line
pub miss_fills : (held there : Option Cell) (table : List Line) (k : ℕ) (c : Cell) → None ≡ held → there ≡ Some c → with_line table k c ≡ lines_by held there table k
miss_fills None None table k c miss some = absurd (let z : ◌≡◌ {A = ℕ} 0 1 = cc in omega arith)
miss_fills None (Some d) table k c miss some = let e : c ≡ d = cc in ap (with_line table k) e
miss_fills (Some x) there table k c miss some = absurd (let z : ◌≡◌ {A = ℕ} 0 1 = cc in omega arith)

-- a cell that the lines hold is the one that is there
pub hit_there : (m : Meaning) (table : List Line) (k : ℕ) (c : Cell) → Some c ≡ held table k → Faithful m.cells table → Ok c ≡ got m k
hit_there m table k c hit faithful =
    there_got m k c (held_there m.cells (line_of table k).number k (line_of table k).cell c hit (faithful.line (k % 16)))
