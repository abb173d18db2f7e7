-- What an insertion gives its caller: a standing tree, read from the cells.
use Rattle.std.proofs.Common.{◌≡◌, ℕ, ◌≤◌, length, Some, None, Ok, Err, Result, sym, refl, ap, ◌∙◌, subst, arith}
use Rattle.effects.specs.declared.Effect as effect
use Rattle.times.specs.declared.Time as time
use Rattle.reference.specs.declared.Operation.{Operation}
use Rattle.reference.specs.Beliefs.{kinds, entered}
use Rattle.store.specs.declared.fault.Fault.{Fault}
use Rattle.store.specs.Meaning.{Meaning, fault_of}
use Rattle.order.specs.Order.{Below, Sorted}
use Rattle.order.proofs.Orders.{TimeLaws}
use Rattle.order.proofs.Stays.{sorted_entered}
use Rattle.tree.specs.declared.Side.{Side}
use Rattle.tree.specs.Trees.{root, height, operations}
use Rattle.tree.specs.Reading.{read_from, height_at}
use Rattle.tree.specs.Making.{Room, Made}
use Rattle.tree.proofs.Keeping.{refused, same_answer, room_from}
use Rattle.tree.proofs.Readings.{reads_kept}
use Rattle.tree.proofs.Heights.{at_most_14}
use Rattle.questions.specs.Standing.{Standing}
use Rattle.questions.proofs.Stands.{standing_reads, standing_height}
use Rattle.insertion.specs.Inserting.{insert_cost, Grown, Inserts, Inserted}

module _ {E St T : Type 0} (e : effect.Ghosts E St) (t : time.Ghosts T) (effects_back : (f : E) → e.reads (e.words f) ≡ Some f) (times_back : (a : T) → t.reads (t.word a) ≡ Some a) (laws : TimeLaws t.upto)
    (m n : Meaning) (k : ℕ) (op : Operation E T) (stands : Standing e t m.cells k) (newest : Below op.number (read_from e t m.cells k)) where
  made_of : (answer : Result (Side E) Fault) → Inserts e t m n k op answer → Room m (insert_cost (height stands.tree)) →
      Made e t m n answer (entered (kinds e t) op (operations stands.tree)) (Grown (height stands.tree))
  made_of answer inserts room = inserts stands.tree stands.at stands.kept stands.sorted room

  entered_as : (side : Side E) (most : ℕ) → insert_cost (height stands.tree) ≤ most → Inserts e t m n k op (Ok side) → Room m (insert_cost (height stands.tree)) → Inserted e t m n k op (Ok side.number) most
  entered_as side most cost inserts room =
      let made = made_of (Ok side) inserts room in
      let reads = standing_reads e t effects_back times_back m.cells k stands in
      let below : Below op.number (operations stands.tree) = subst (Below op.number) reads newest in
      let fits = made.fits in
      record {
        new_root = root made.tree;
        new = made.new;
        is = ap (λ s. Ok s.number) (same_answer _ _ made.good);
        stands = record { tree = made.tree; at = refl; kept = made.kept; sorted = subst (Sorted (kinds e t)) (sym made.reads) (sorted_entered (kinds e t) laws op (operations stands.tree) below stands.sorted) };
        reads = reads_kept e t effects_back times_back n.cells made.tree made.kept ∙ made.reads ∙ ap (entered (kinds e t) op) (sym reads);
        gained = made.gained;
        few = omega arith;
      }

  -- where the claim of its cost was accepted
  exact : fault_of m (insert_cost (height_at m.cells k)) ≡ None → Room m (insert_cost (height stands.tree))
  exact claim = subst (λ h. Room m (insert_cost h)) (standing_height e t m.cells k stands) (room_from m (insert_cost (height_at m.cells k)) claim)

  -- where a claim of 42 was
  ample : fault_of m 42 ≡ None → length (read_from e t m.cells k) ≤ 1023 → Room m 42 × (height stands.tree ≤ 14)
  ample claim few = (room_from m 42 claim, at_most_14 e t m.cells stands.tree stands.kept (subst (λ w. length w ≤ 1023) (standing_reads e t effects_back times_back m.cells k stands) few))

  pub inserted : (side : Side E) → Inserts e t m n k op (Ok side) → fault_of m (insert_cost (height_at m.cells k)) ≡ None → Inserted e t m n k op (Ok side.number) (insert_cost (height_at m.cells k))
  inserted side inserts claim = entered_as side (insert_cost (height_at m.cells k)) (omega (arith, standing_height e t m.cells k stands)) inserts (exact claim)

  pub inserted_42 : (side : Side E) → Inserts e t m n k op (Ok side) → fault_of m 42 ≡ None → length (read_from e t m.cells k) ≤ 1023 → Inserted e t m n k op (Ok side.number) 42
  inserted_42 side inserts claim few = let both = ample claim few in entered_as side 42 (omega arith) inserts (omega arith, omega arith)

  pub not_refused : {P : Type 0} (f : Fault) → Inserts e t m n k op (Err f) → fault_of m (insert_cost (height_at m.cells k)) ≡ None → P
  not_refused f inserts claim = refused f _ (made_of (Err f) inserts (exact claim)).good

  pub not_refused_42 : {P : Type 0} (f : Fault) → Inserts e t m n k op (Err f) → fault_of m 42 ≡ None → length (read_from e t m.cells k) ≤ 1023 → P
  not_refused_42 f inserts claim few = let both = ample claim few in refused f _ (made_of (Err f) inserts (omega arith, omega arith)).good
