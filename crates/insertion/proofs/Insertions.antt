-- What each way through an insertion makes.
use Rattle.std.proofs.Common.{◌≡◌, ℕ, true, false, ◌∷◌, Ok, Err, Result, sym, refl, subst, arith}
use Rattle.effects.specs.declared.Effect as effect
use Rattle.times.specs.declared.Time as time
use Rattle.reference.specs.declared.Operation.{Operation}
use Rattle.reference.specs.Beliefs.{kinds, before, entered}
use Rattle.store.specs.declared.fault.Fault.{Fault}
use Rattle.store.specs.Meaning.{Meaning}
use Rattle.order.specs.Order.{Sorted}
use Rattle.order.proofs.Orders.{TimeLaws}
use Rattle.order.proofs.Splits.{sorted_left, sorted_right, entered_left, entered_right}
use Rattle.tree.specs.declared.Side.{Side}
use Rattle.tree.specs.declared.Parts.{Parts}
use Rattle.tree.specs.Trees.{Tree, leaf, node, root, height, operations, side, Kept}
use Rattle.tree.specs.Making.{Room, Made, Joins, Opens}
use Rattle.tree.proofs.Keeping.{refused}
use Rattle.tree.proofs.Makings.{made_as, opened_as}
use Rattle.balance.specs.Turning.{LeansLeft, LeansRight}
use Rattle.insertion.specs.Inserting.{insert_cost, Grown, Inserts}
use Rattle.insertion.proofs.Growth.{right_grown, left_grown}

module _ {E St T : Type 0} (e : effect.Ghosts E St) (t : time.Ghosts T) where
  -- into no tree
  pub insert_none : (m n : Meaning) (k : ℕ) (left right : Side E) (op : Operation E T) (answer : Result (Side E) Fault) →
      k ≡ 0 → left ≡ side e t leaf → right ≡ side e t leaf → Joins e t m n left op right answer → Inserts e t m n k op answer
  insert_none m n k left right op answer none ls rs made leaf at kept sorted room =
      made_as e t
      (made leaf leaf (record { left_is = ls; right_is = rs; left_kept = tt; right_kept = tt; left_low = omega arith; right_low = omega arith }) (omega arith, omega arith))
      refl (λ s c h. (omega arith, omega arith, omega arith, omega arith))
  insert_none m n k left right op answer none ls rs made (node j a p b) at kept sorted room = absurd (omega (arith, kept.1))

  module _ (m m' n : Meaning) (k : ℕ) (op : Operation E T) (parts : Parts E T) (answer : Result (Side E) Fault) (same : m' ≡ m) (opened : Opens e t m k (Ok parts))
      (j : ℕ) (a b : Tree E T) (p : Operation E T) (at : j ≡ k) (kept : Kept e t m.cells (node j a p b)) (sorted : Sorted (kinds e t) (operations (node j a p b))) (room : Room m (insert_cost (height (node j a p b)))) where
    into_right : Inserts e t m' n parts.right.number op answer → Made e t m n answer (entered (kinds e t) op (operations b)) (Grown (height b))
    into_right inserts =
        let is = opened_as e t m k parts j a b p opened at kept in
        let insert : Inserts e t m n (root b) op answer = subst (λ w. Inserts e t m n w.right.number op answer) is (subst (λ w. Inserts e t w n parts.right.number op answer) same inserts) in
        insert b refl kept.6 (sorted_right (kinds e t) (operations a) (operations b) p sorted) (omega arith, omega arith)

    into_left : Inserts e t m' n parts.left.number op answer → Made e t m n answer (entered (kinds e t) op (operations a)) (Grown (height a))
    into_left inserts =
        let is = opened_as e t m k parts j a b p opened at kept in
        let insert : Inserts e t m n (root a) op answer = subst (λ w. Inserts e t m n w.left.number op answer) is (subst (λ w. Inserts e t w n parts.left.number op answer) same inserts) in
        insert a refl kept.5 (sorted_left (kinds e t) (operations a) (p ∷ operations b) sorted) (omega arith, omega arith)

  -- no insertion into a side is refused
  pub insert_right_stop : (m m' n : Meaning) (k : ℕ) (op : Operation E T) (parts : Parts E T) (answer : Result (Side E) Fault) (f : Fault) →
      (k ≡ 0 → ⊥) → m' ≡ m → Opens e t m k (Ok parts) → Inserts e t m' n parts.right.number op (Err f) → Inserts e t m n k op answer
  insert_right_stop m m' n k op parts answer f some same opened inserts leaf at kept sorted room = absurd (some (sym at))
  insert_right_stop m m' n k op parts answer f some same opened inserts (node j a p b) at kept sorted room =
      refused f _ (into_right m m' n k op parts (Err f) same opened j a b p at kept sorted room inserts).good

  pub insert_left_stop : (m m' n : Meaning) (k : ℕ) (op : Operation E T) (parts : Parts E T) (answer : Result (Side E) Fault) (f : Fault) →
      (k ≡ 0 → ⊥) → m' ≡ m → Opens e t m k (Ok parts) → Inserts e t m' n parts.left.number op (Err f) → Inserts e t m n k op answer
  insert_left_stop m m' n k op parts answer f some same opened inserts leaf at kept sorted room = absurd (some (sym at))
  insert_left_stop m m' n k op parts answer f some same opened inserts (node j a p b) at kept sorted room =
      refused f _ (into_left m m' n k op parts (Err f) same opened j a b p at kept sorted room inserts).good

  pub insert_right : (m m' n u : Meaning) (k : ℕ) (op : Operation E T) (parts : Parts E T) (new : Side E) (answer : Result (Side E) Fault) → TimeLaws t.upto →
      (k ≡ 0 → ⊥) → m' ≡ m → Opens e t m k (Ok parts) → before (kinds e t) op parts.op ≡ false →
      Inserts e t m' n parts.right.number op (Ok new) → Joins e t n u parts.left parts.op new answer → LeansRight e t n u parts.left parts.op new answer →
      Inserts e t m u k op answer
  insert_right m m' n u k op parts new answer laws some same opened test inserts near far leaf at kept sorted room = absurd (some (sym at))
  insert_right m m' n u k op parts new answer laws some same opened test inserts near far (node j a p b) at kept sorted room =
      let is = opened_as e t m k parts j a b p opened at kept in
      let here : before (kinds e t) op p ≡ false = subst (λ w. before (kinds e t) op w.op ≡ false) is test in
      let one = into_right m m' n k op parts (Ok new) same opened j a b p at kept sorted room inserts in
      let two = right_grown e t m n u p new answer a b (entered (kinds e t) op (operations b)) kept.3 kept.4 room kept.5 one (subst (λ w. Joins e t n u w.left w.op new answer) is near) (subst (λ w. LeansRight e t n u w.left w.op new answer) is far) in
      made_as e t two (sym (entered_right (kinds e t) laws op p (operations a) (operations b) here sorted)) (λ s c h. h)

  pub insert_left : (m m' n u : Meaning) (k : ℕ) (op : Operation E T) (parts : Parts E T) (new : Side E) (answer : Result (Side E) Fault) →
      (k ≡ 0 → ⊥) → m' ≡ m → Opens e t m k (Ok parts) → before (kinds e t) op parts.op ≡ true →
      Inserts e t m' n parts.left.number op (Ok new) → Joins e t n u new parts.op parts.right answer → LeansLeft e t n u new parts.op parts.right answer →
      Inserts e t m u k op answer
  insert_left m m' n u k op parts new answer some same opened test inserts near far leaf at kept sorted room = absurd (some (sym at))
  insert_left m m' n u k op parts new answer some same opened test inserts near far (node j a p b) at kept sorted room =
      let is = opened_as e t m k parts j a b p opened at kept in
      let here : before (kinds e t) op p ≡ true = subst (λ w. before (kinds e t) op w.op ≡ true) is test in
      let one = into_left m m' n k op parts (Ok new) same opened j a b p at kept sorted room inserts in
      let two = left_grown e t m n u p new answer a b (entered (kinds e t) op (operations a)) kept.3 kept.4 room kept.6 one (subst (λ w. Joins e t n u new w.op w.right answer) is near) (subst (λ w. LeansLeft e t n u new w.op w.right answer) is far) in
      made_as e t two (sym (entered_left (kinds e t) op p (operations a) (operations b) here)) (λ s c h. h)
