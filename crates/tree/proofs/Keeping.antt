-- What cells keep, they keep with more cells behind them; what a cell says is read back.
use Rattle.std.proofs.Common.{◌≡◌, ℕ, ◌+◌, ◌<◌, ◌≤◌, List, ◌++◌, length, Some, None, Ok, Err, Option, Result, refl, ap, ◌∙◌, arith}
use Rattle.std.proofs.lemmas.Bool.Decides.{nat_tests}
use Rattle.effects.specs.declared.Effect as effect
use Rattle.times.specs.declared.Time as time
use Rattle.reference.specs.declared.Operation.{Operation}
use Rattle.cells.specs.declared.Cell.{Cell}
use Rattle.store.specs.declared.fault.Fault.{Fault}
use Rattle.store.specs.Meaning.{Meaning, fault_of, unless, claimed, put_answer, with_cells}
use Rattle.store.proofs.Finding.{cell_append, cell_within}
use Rattle.store.proofs.Granting.{with_more}
use Rattle.tree.specs.declared.Side.{Side}
use Rattle.tree.specs.declared.Node.{Node}
use Rattle.tree.specs.Trees.{Tree, leaf, node, root, height, cell_of, node_of, Kept}
use Rattle.tree.specs.Making.{Room}

-- no answer is good and bad
pub refused : {A F P : Type 0} (x : F) (y : A) → Err x ≡ Ok y → P
refused x y h = let z : ◌≡◌ {A = ℕ} 0 1 = cc in absurd (omega arith)

-- two good answers that are equal
pub same_answer : {A F : Type 0} (x y : A) → ◌≡◌ {A = Result A F} (Ok x) (Ok y) → x ≡ y
same_answer x y h = cc

-- a claim that there is room for is accepted, and an accepted one has room
pub accepted : (m : Meaning) (k : ℕ) → Room m k → fault_of m k ≡ None
accepted m k room = grind (arith, nat_tests)

pub room_from : (m : Meaning) (k : ℕ) → fault_of m k ≡ None → Room m k
room_from m k h = grind (arith, nat_tests)

-- what an accepted claim tells
unless_accepted : {A : Type 0} (fault : Option Fault) (x y : A) → Ok x ≡ unless fault y → fault ≡ None
unless_accepted None x y h = refl
unless_accepted (Some f) x y h = let z : ◌≡◌ {A = ℕ} 0 1 = cc in absurd (omega arith)

pub claim_accepted : (m : Meaning) (k : ℕ) (x : Unit {0}) → Ok x ≡ claimed m k → fault_of m k ≡ None
claim_accepted m k x h = unless_accepted (fault_of m k) x tt h

pub put_accepted : (m : Meaning) (k : ℕ) → Ok k ≡ put_answer m → fault_of m 1 ≡ None
put_accepted m k h = unless_accepted (fault_of m 1) k (length m.cells + 1) h

-- room that new cells leave
pub room_left : (m n : Meaning) (new : List Cell) (k : ℕ) → n ≡ with_cells m new → Room m (length new + k) → Room n k
room_left m n new k gained room = rw gained (omega arith, omega arith)

-- new cells after new cells
pub gains : (m n u : Meaning) (xs ys : List Cell) → n ≡ with_cells m xs → u ≡ with_cells n ys → u ≡ with_cells m (xs ++ ys)
gains m n u xs ys a b = b ∙ ap (λ w. with_cells w ys) a ∙ with_more m xs ys

module _ {E St T : Type 0} (e : effect.Ghosts E St) (t : time.Ghosts T) where
  pub kept_more : (cells more : List Cell) (s : Tree E T) → Kept e t cells s → Kept e t (cells ++ more) s
  kept_more cells more leaf h = tt
  kept_more cells more (node k l o r) h = (cell_append cells more k _ h.0, h.1, h.2, h.3, h.4, kept_more cells more l h.5, kept_more cells more r h.6)

  -- what is kept stays kept when cells are new
  pub still : (m n : Meaning) (new : List Cell) (s : Tree E T) → n ≡ with_cells m new → Kept e t m.cells s → Kept e t n.cells s
  still m n new s gained h = rw gained (kept_more m.cells new s h)

  pub root_in : (cells : List Cell) (s : Tree E T) → Kept e t cells s → root s ≤ length cells
  root_in cells leaf h = omega arith
  root_in cells (node k l o r) h = (cell_within cells k _ h.0).1

  -- heights go no higher than cell numbers
  pub height_below : (cells : List Cell) (s : Tree E T) → Kept e t cells s → height s ≤ root s
  height_below cells leaf h = omega arith
  height_below cells (node k l o r) h = omega (arith, height_below cells l h.5, height_below cells r h.6)

  -- no height reaches the limit of a store that has room
  pub height_fits : (m : Meaning) (s : Tree E T) (most : ℕ) → Kept e t m.cells s → length m.cells + m.allowance ≤ most → Room m 1 → height s < most
  height_fits m s most h bounded room = omega (arith, root_in m.cells s h, height_below m.cells s h)

  module _ (effects_back : (f : E) → e.reads (e.words f) ≡ Some f) (times_back : (a : T) → t.reads (t.word a) ≡ Some a) where
    pub decoded : (cell : Cell) (left right : Side E) (o : Operation E T) (when : T) (effect total : E) → cell ≡ cell_of e t left o right →
        Some when ≡ t.reads cell.time → Some effect ≡ e.reads cell.own → Some total ≡ e.reads cell.total →
        ◌≡◌ {A = Node E T} (record { op = record { number = cell.number; time = when; effect = effect }; left = cell.left; right = cell.right; height = cell.height; total = total }) (node_of e t left o right)
    decoded cell left right o when effect total is a b c =
        let n = node_of e t left o right in
        let one : when ≡ o.time = let p = rw is at a in let q = times_back o.time in cc in
        let two : effect ≡ o.effect = let p = rw is at b in let q = effects_back o.effect in cc in
        let three : total ≡ n.total = let p = rw is at c in let q = effects_back n.total in cc in
        rw (is, one, two, three)
