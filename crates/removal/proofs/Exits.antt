-- What a removal gives its caller: a standing tree, read from the cells.
use Rattle.std.proofs.Common.{◌≡◌, ℕ, ◌≤◌, Bool, true, false, not, length, Some, None, Ok, Err, Result, sym, refl, ap, ◌∙◌, subst, arith}
use Rattle.std.proofs.lemmas.Bool.{both_ways}
use Rattle.effects.specs.declared.Effect as effect
use Rattle.times.specs.declared.Time as time
use Rattle.reference.specs.declared.Operation.{Operation}
use Rattle.reference.specs.Beliefs.{kinds}
use Rattle.store.specs.declared.fault.Fault.{Fault}
use Rattle.store.specs.Meaning.{Meaning, fault_of}
use Rattle.order.specs.Order.{Sorted, is_at, struck}
use Rattle.order.proofs.Orders.{TimeLaws}
use Rattle.order.proofs.Stays.{sorted_kept}
use Rattle.tree.specs.declared.Side.{Side}
use Rattle.tree.specs.Trees.{root, height, operations}
use Rattle.tree.specs.Reading.{read_from, height_at}
use Rattle.tree.specs.Making.{Room, Made}
use Rattle.tree.proofs.Keeping.{refused, same_answer, room_from}
use Rattle.tree.proofs.Readings.{reads_kept}
use Rattle.tree.proofs.Heights.{at_most_14}
use Rattle.questions.specs.Standing.{Standing}
use Rattle.questions.proofs.Stands.{standing_reads, standing_height}
use Rattle.removal.specs.Removing.{remove_cost, Shrunk, TakesOut, Removed}

-- what was found is there
pub found_there : {F P : Type 0} (found there : Bool) → found ≡ true → ◌≡◌ {A = Result Bool F} (Ok found) (Ok there) → there ≡ false → P
found_there found there h i j = let z : ◌≡◌ {A = Bool} true false = cc in absurd (both_ways true z refl)

-- and what was not found is not
pub not_there : {F P : Type 0} (found there : Bool) → found ≡ false → ◌≡◌ {A = Result Bool F} (Ok found) (Ok there) → there ≡ true → P
not_there found there h i j = let z : ◌≡◌ {A = Bool} true false = cc in absurd (both_ways true z refl)

module _ {E St T : Type 0} (e : effect.Ghosts E St) (t : time.Ghosts T) (effects_back : (f : E) → e.reads (e.words f) ≡ Some f) (times_back : (a : T) → t.reads (t.word a) ≡ Some a) (laws : TimeLaws t.upto)
    (m m' n : Meaning) (k : ℕ) (x : Operation E T) (same : m' ≡ m) (stands : Standing e t m.cells k) where
  made_of : (answer : Result (Side E) Fault) → TakesOut e t m' n k x answer → Room m (remove_cost (height stands.tree)) →
      Made e t m n answer (struck (kinds e t) x.number x.time (operations stands.tree)) (Shrunk (height stands.tree))
  made_of answer takes room = subst (λ w. TakesOut e t w n k x answer) same takes stands.tree stands.at stands.kept stands.sorted room

  removed_as : (side : Side E) (most : ℕ) → remove_cost (height stands.tree) ≤ most → TakesOut e t m' n k x (Ok side) → Room m (remove_cost (height stands.tree)) →
      Removed e t m n k x.number x.time (Ok (Some side.number)) most
  removed_as side most cost takes room =
      let made = made_of (Ok side) takes room in
      let reads = standing_reads e t effects_back times_back m.cells k stands in
      let fits = made.fits in
      record {
        new_root = root made.tree;
        new = made.new;
        is = ap (λ s. Ok (Some s.number)) (same_answer _ _ made.good);
        stands = record { tree = made.tree; at = refl; kept = made.kept; sorted = subst (Sorted (kinds e t)) (sym made.reads) (sorted_kept (kinds e t) (λ o. not (is_at (kinds e t) x.number x.time o)) (operations stands.tree) stands.sorted) };
        reads = reads_kept e t effects_back times_back n.cells made.tree made.kept ∙ made.reads ∙ ap (struck (kinds e t) x.number x.time) (sym reads);
        gained = made.gained;
        few = omega arith;
      }

  -- where the claim of its cost was accepted
  exact : fault_of m (remove_cost (height_at m.cells k)) ≡ None → Room m (remove_cost (height stands.tree))
  exact claim = subst (λ h. Room m (remove_cost h)) (standing_height e t m.cells k stands) (room_from m (remove_cost (height_at m.cells k)) claim)

  -- where a claim of 42 was
  ample : fault_of m 42 ≡ None → length (read_from e t m.cells k) ≤ 1023 → Room m 42 × (height stands.tree ≤ 14)
  ample claim few = (room_from m 42 claim, at_most_14 e t m.cells stands.tree stands.kept (subst (λ w. length w ≤ 1023) (standing_reads e t effects_back times_back m.cells k stands) few))

  pub removed : (side : Side E) → TakesOut e t m' n k x (Ok side) → fault_of m (remove_cost (height_at m.cells k)) ≡ None →
      Removed e t m n k x.number x.time (Ok (Some side.number)) (remove_cost (height_at m.cells k))
  removed side takes claim = removed_as side (remove_cost (height_at m.cells k)) (omega (arith, standing_height e t m.cells k stands)) takes (exact claim)

  pub removed_42 : (side : Side E) → TakesOut e t m' n k x (Ok side) → fault_of m 42 ≡ None → length (read_from e t m.cells k) ≤ 1023 →
      Removed e t m n k x.number x.time (Ok (Some side.number)) 42
  removed_42 side takes claim few = let both = ample claim few in removed_as side 42 (omega arith) takes (omega arith, omega arith)

  pub not_refused : {P : Type 0} (f : Fault) → TakesOut e t m' n k x (Err f) → fault_of m (remove_cost (height_at m.cells k)) ≡ None → P
  not_refused f takes claim = refused f _ (made_of (Err f) takes (exact claim)).good

  pub not_refused_42 : {P : Type 0} (f : Fault) → TakesOut e t m' n k x (Err f) → fault_of m 42 ≡ None → length (read_from e t m.cells k) ≤ 1023 → P
  not_refused_42 f takes claim few = let both = ample claim few in refused f _ (made_of (Err f) takes (omega arith, omega arith)).good
