-- What each way through a removal makes.
use Rattle.std.proofs.Common.{◌≡◌, ℕ, ◌+◌, true, false, ◌∷◌, ◌++◌, Ok, Err, Result, sym, refl, ap, subst, append-nil, arith}
use Rattle.effects.specs.declared.Effect as effect
use Rattle.times.specs.declared.Time as time
use Rattle.reference.specs.declared.Operation.{Operation}
use Rattle.reference.specs.Beliefs.{kinds, before}
use Rattle.store.specs.declared.fault.Fault.{Fault}
use Rattle.store.specs.Meaning.{Meaning}
use Rattle.order.specs.Order.{Sorted, struck}
use Rattle.order.proofs.Orders.{TimeLaws}
use Rattle.order.proofs.Splits.{sorted_left, sorted_right, struck_right, struck_left, struck_here}
use Rattle.tree.specs.declared.Side.{Side}
use Rattle.tree.specs.declared.Parts.{Parts}
use Rattle.tree.specs.Trees.{Tree, leaf, node, root, height, operations, side, Kept}
use Rattle.tree.specs.Making.{Room, Made, Joins, Opens}
use Rattle.tree.proofs.Keeping.{refused, same_answer}
use Rattle.tree.proofs.Makings.{made_as, opened_as}
use Rattle.balance.specs.Turning.{LeansLeft, LeansRight}
use Rattle.removal.specs.declared.Taken.{Taken}
use Rattle.removal.specs.Removing.{remove_cost, Shrunk, Parted, TakesFirst, Closes, TakesOut}
use Rattle.removal.proofs.Shrinking.{unmade, right_lower, left_lower}

module _ {E St T : Type 0} (e : effect.Ghosts E St) (t : time.Ghosts T) where
  -- the root is the first
  pub take_here : (m m' : Meaning) (k : ℕ) (parts : Parts E T) → m' ≡ m → Opens e t m k (Ok parts) → parts.left.number ≡ 0 →
      TakesFirst e t m m' k (Ok (record { first = parts.op; rest = parts.right }))
  take_here m m' k parts same opened none leaf at some kept room = absurd (some (sym at))
  take_here m m' k parts same opened none (node j leaf p b) at some kept room =
      let is = opened_as e t m k parts j leaf b p opened at kept in
      record {
        first = p;
        rest = side e t b;
        others = operations b;
        good = ap (λ w. Ok (record { first = w.op; rest = w.right })) is;
        splits = refl;
        made = unmade e t m m' b (height (node j leaf p b)) same kept.6 (omega arith) (omega arith);
      }
  take_here m m' k parts same opened none (node j (node i x o y) p b) at some kept room =
      let is = opened_as e t m k parts j (node i x o y) b p opened at kept in
      let none' : i ≡ 0 = subst (λ w. w.left.number ≡ 0) is none in
      absurd (omega (arith, kept.5.1))

  -- the first of the left side is, and then the rest of it is joined
  module _ (m m' n u : Meaning) (k : ℕ) (parts : Parts E T) (taken : Taken E T) (answer : Result (Side E) Fault)
      (same : m' ≡ m) (opened : Opens e t m k (Ok parts)) (some : parts.left.number ≡ 0 → ⊥) (takes : TakesFirst e t m' n parts.left.number (Ok taken))
      (near : Joins e t n u taken.rest parts.op parts.right answer) (far : LeansRight e t n u taken.rest parts.op parts.right answer)
      (j : ℕ) (a b : Tree E T) (p : Operation E T) (at : j ≡ k) (kept : Kept e t m.cells (node j a p b)) (room : Room m (remove_cost (height (node j a p b)))) where
    first_of : Parted e t m n (Ok taken) (operations a) (height a)
    first_of =
        let is = opened_as e t m k parts j a b p opened at kept in
        let take : TakesFirst e t m n (root a) (Ok taken) = subst (λ w. TakesFirst e t m n w.left.number (Ok taken)) is (subst (λ w. TakesFirst e t w n parts.left.number (Ok taken)) same takes) in
        take a refl (subst (λ w. w.left.number ≡ 0 → ⊥) is some) kept.5 (omega arith, omega arith)

    rest_of : Made e t m u answer (first_of.others ++ (p ∷ operations b)) (Shrunk (height (node j a p b)))
    rest_of =
        let is = opened_as e t m k parts j a b p opened at kept in
        let first = first_of in
        let rest : taken.rest ≡ first.rest = ap (λ w. w.rest) (same_answer _ _ first.good) in
        let near' : Joins e t n u first.rest p (side e t b) answer = subst (λ w. Joins e t n u w p (side e t b) answer) rest (subst (λ w. Joins e t n u taken.rest w.op w.right answer) is near) in
        let far' : LeansRight e t n u first.rest p (side e t b) answer = subst (λ w. LeansRight e t n u w p (side e t b) answer) rest (subst (λ w. LeansRight e t n u taken.rest w.op w.right answer) is far) in
        made_as e t (left_lower e t m n u p first.rest answer b first.others (height a) kept.6 kept.4 kept.3 (omega arith, omega arith) first.made near' far') refl (λ s c h. (omega arith, omega arith, omega arith))

  pub take_on : (m m' n u : Meaning) (k : ℕ) (parts : Parts E T) (taken : Taken E T) (joined : Side E) →
      m' ≡ m → Opens e t m k (Ok parts) → (parts.left.number ≡ 0 → ⊥) → TakesFirst e t m' n parts.left.number (Ok taken) →
      Joins e t n u taken.rest parts.op parts.right (Ok joined) → LeansRight e t n u taken.rest parts.op parts.right (Ok joined) →
      TakesFirst e t m u k (Ok (record { first = taken.first; rest = joined }))
  take_on m m' n u k parts taken joined same opened some takes near far leaf at some' kept room = absurd (some' (sym at))
  take_on m m' n u k parts taken joined same opened some takes near far (node j a p b) at some' kept room =
      let one = first_of m m' n u k parts taken (Ok joined) same opened some takes near far j a b p at kept room in
      record {
        first = one.first;
        rest = joined;
        others = one.others ++ (p ∷ operations b);
        good = ap (λ w. Ok (record { first = w.first; rest = joined })) (same_answer _ _ one.good);
        splits = ap (λ w. w ++ (p ∷ operations b)) one.splits;
        made = rest_of m m' n u k parts taken (Ok joined) same opened some takes near far j a b p at kept room;
      }

  pub take_stop : (m m' n u : Meaning) (k : ℕ) (parts : Parts E T) (taken : Taken E T) (answer : Result (Taken E T) Fault) (f : Fault) →
      m' ≡ m → Opens e t m k (Ok parts) → (parts.left.number ≡ 0 → ⊥) → TakesFirst e t m' n parts.left.number (Ok taken) →
      Joins e t n u taken.rest parts.op parts.right (Err f) → LeansRight e t n u taken.rest parts.op parts.right (Err f) →
      TakesFirst e t m u k answer
  take_stop m m' n u k parts taken answer f same opened some takes near far leaf at some' kept room = absurd (some' (sym at))
  take_stop m m' n u k parts taken answer f same opened some takes near far (node j a p b) at some' kept room =
      refused f _ (rest_of m m' n u k parts taken (Err f) same opened some takes near far j a b p at kept room).good

  pub close_none : (m : Meaning) (left right : Side E) → right.number ≡ 0 → Closes e t m m left right (Ok left)
  close_none m left right none l leaf ls rs kl kr low high room =
      made_as e t (subst (λ w. Made e t m m (Ok w) (operations l) (Shrunk (height l + 1))) (sym ls) (unmade e t m m l (height l + 1) refl kl (omega arith) (omega arith))) (sym (append-nil (operations l))) (λ s c h. (omega arith, omega arith, omega arith))
  close_none m left right none l (node j a p b) ls rs kl kr low high room = absurd (omega (arith, ap (λ w. w.number) rs, kr.1))

  pub close_on : (m n u : Meaning) (left right : Side E) (taken : Taken E T) (answer : Result (Side E) Fault) →
      (right.number ≡ 0 → ⊥) → TakesFirst e t m n right.number (Ok taken) →
      Joins e t n u left taken.first taken.rest answer → LeansLeft e t n u left taken.first taken.rest answer → Closes e t m u left right answer
  close_on m n u left right taken answer some takes near far l r ls rs kl kr low high room =
      let one = takes r (sym (ap (λ w. w.number) rs)) some kr (omega arith, omega arith) in
      let is = same_answer _ _ one.good in
      let near' : Joins e t n u (side e t l) one.first one.rest answer = subst (λ w. Joins e t n u w one.first one.rest answer) ls (subst (λ w. Joins e t n u left w.first w.rest answer) is near) in
      let far' : LeansLeft e t n u (side e t l) one.first one.rest answer = subst (λ w. LeansLeft e t n u w one.first one.rest answer) ls (subst (λ w. LeansLeft e t n u left w.first w.rest answer) is far) in
      made_as e t (right_lower e t m n u one.first one.rest answer l one.others (height r) kl low high room one.made near' far') (ap (λ w. operations l ++ w) (sym one.splits)) (λ s c h. h)

  pub out_none : (m : Meaning) (k : ℕ) (x : Operation E T) → k ≡ 0 → TakesOut e t m m k x (Ok (side e t leaf))
  out_none m k x none leaf at kept sorted room = unmade e t m m leaf 0 refl tt (omega arith) (omega arith)
  out_none m k x none (node j a p b) at kept sorted room = absurd (omega (arith, kept.1))

  module _ (m m' n : Meaning) (k : ℕ) (x : Operation E T) (parts : Parts E T) (answer : Result (Side E) Fault) (same : m' ≡ m) (opened : Opens e t m k (Ok parts))
      (j : ℕ) (a b : Tree E T) (p : Operation E T) (at : j ≡ k) (kept : Kept e t m.cells (node j a p b)) (sorted : Sorted (kinds e t) (operations (node j a p b))) (room : Room m (remove_cost (height (node j a p b)))) where
    from_right : TakesOut e t m' n parts.right.number x answer → Made e t m n answer (struck (kinds e t) x.number x.time (operations b)) (Shrunk (height b))
    from_right takes =
        let is = opened_as e t m k parts j a b p opened at kept in
        let take : TakesOut e t m n (root b) x answer = subst (λ w. TakesOut e t m n w.right.number x answer) is (subst (λ w. TakesOut e t w n parts.right.number x answer) same takes) in
        take b refl kept.6 (sorted_right (kinds e t) (operations a) (operations b) p sorted) (omega arith, omega arith)

    from_left : TakesOut e t m' n parts.left.number x answer → Made e t m n answer (struck (kinds e t) x.number x.time (operations a)) (Shrunk (height a))
    from_left takes =
        let is = opened_as e t m k parts j a b p opened at kept in
        let take : TakesOut e t m n (root a) x answer = subst (λ w. TakesOut e t m n w.left.number x answer) is (subst (λ w. TakesOut e t w n parts.left.number x answer) same takes) in
        take a refl kept.5 (sorted_left (kinds e t) (operations a) (p ∷ operations b) sorted) (omega arith, omega arith)

  -- no removal from a side is refused
  pub out_right_stop : (m m' n : Meaning) (k : ℕ) (x : Operation E T) (parts : Parts E T) (answer : Result (Side E) Fault) (f : Fault) →
      (k ≡ 0 → ⊥) → m' ≡ m → Opens e t m k (Ok parts) → TakesOut e t m' n parts.right.number x (Err f) → TakesOut e t m n k x answer
  out_right_stop m m' n k x parts answer f some same opened takes leaf at kept sorted room = absurd (some (sym at))
  out_right_stop m m' n k x parts answer f some same opened takes (node j a p b) at kept sorted room =
      refused f _ (from_right m m' n k x parts (Err f) same opened j a b p at kept sorted room takes).good

  pub out_left_stop : (m m' n : Meaning) (k : ℕ) (x : Operation E T) (parts : Parts E T) (answer : Result (Side E) Fault) (f : Fault) →
      (k ≡ 0 → ⊥) → m' ≡ m → Opens e t m k (Ok parts) → TakesOut e t m' n parts.left.number x (Err f) → TakesOut e t m n k x answer
  out_left_stop m m' n k x parts answer f some same opened takes leaf at kept sorted room = absurd (some (sym at))
  out_left_stop m m' n k x parts answer f some same opened takes (node j a p b) at kept sorted room =
      refused f _ (from_left m m' n k x parts (Err f) same opened j a b p at kept sorted room takes).good

  module _ (laws : TimeLaws t.upto) where
    pub out_here : (m m' n : Meaning) (k : ℕ) (x : Operation E T) (parts : Parts E T) (answer : Result (Side E) Fault) →
        (k ≡ 0 → ⊥) → m' ≡ m → Opens e t m k (Ok parts) → before (kinds e t) parts.op x ≡ false → before (kinds e t) x parts.op ≡ false →
        Closes e t m' n parts.left parts.right answer → TakesOut e t m n k x answer
    out_here m m' n k x parts answer some same opened test other closes leaf at kept sorted room = absurd (some (sym at))
    out_here m m' n k x parts answer some same opened test other closes (node j a p b) at kept sorted room =
        let is = opened_as e t m k parts j a b p opened at kept in
        let here : before (kinds e t) p x ≡ false = subst (λ w. before (kinds e t) w.op x ≡ false) is test in
        let there : before (kinds e t) x p ≡ false = subst (λ w. before (kinds e t) x w.op ≡ false) is other in
        let close : Closes e t m n (side e t a) (side e t b) answer = subst (λ w. Closes e t m n w.left w.right answer) is (subst (λ w. Closes e t w n parts.left parts.right answer) same closes) in
        made_as e t (close a b refl refl kept.5 kept.6 kept.3 kept.4 room) (sym (struck_here (kinds e t) laws x p (operations a) (operations b) sorted here there)) (λ s c h. h)

    pub out_right : (m m' n u : Meaning) (k : ℕ) (x : Operation E T) (parts : Parts E T) (new : Side E) (answer : Result (Side E) Fault) →
        (k ≡ 0 → ⊥) → m' ≡ m → Opens e t m k (Ok parts) → before (kinds e t) parts.op x ≡ true →
        TakesOut e t m' n parts.right.number x (Ok new) → Joins e t n u parts.left parts.op new answer → LeansLeft e t n u parts.left parts.op new answer → TakesOut e t m u k x answer
    out_right m m' n u k x parts new answer some same opened test takes near far leaf at kept sorted room = absurd (some (sym at))
    out_right m m' n u k x parts new answer some same opened test takes near far (node j a p b) at kept sorted room =
        let is = opened_as e t m k parts j a b p opened at kept in
        let here : before (kinds e t) p x ≡ true = subst (λ w. before (kinds e t) w.op x ≡ true) is test in
        let one = from_right m m' n k x parts (Ok new) same opened j a b p at kept sorted room takes in
        let near' : Joins e t n u (side e t a) p new answer = subst (λ w. Joins e t n u w.left w.op new answer) is near in
        let far' : LeansLeft e t n u (side e t a) p new answer = subst (λ w. LeansLeft e t n u w.left w.op new answer) is far in
        made_as e t (right_lower e t m n u p new answer a (struck (kinds e t) x.number x.time (operations b)) (height b) kept.5 kept.3 kept.4 room one near' far')
        (sym (struck_right (kinds e t) laws x p (operations a) (operations b) sorted here)) (λ s c h. h)

    pub out_left : (m m' n u : Meaning) (k : ℕ) (x : Operation E T) (parts : Parts E T) (new : Side E) (answer : Result (Side E) Fault) →
        (k ≡ 0 → ⊥) → m' ≡ m → Opens e t m k (Ok parts) → before (kinds e t) x parts.op ≡ true →
        TakesOut e t m' n parts.left.number x (Ok new) → Joins e t n u new parts.op parts.right answer → LeansRight e t n u new parts.op parts.right answer → TakesOut e t m u k x answer
    out_left m m' n u k x parts new answer some same opened test takes near far leaf at kept sorted room = absurd (some (sym at))
    out_left m m' n u k x parts new answer some same opened test takes near far (node j a p b) at kept sorted room =
        let is = opened_as e t m k parts j a b p opened at kept in
        let here : before (kinds e t) x p ≡ true = subst (λ w. before (kinds e t) x w.op ≡ true) is test in
        let one = from_left m m' n k x parts (Ok new) same opened j a b p at kept sorted room takes in
        let near' : Joins e t n u new p (side e t b) answer = subst (λ w. Joins e t n u new w.op w.right answer) is near in
        let far' : LeansRight e t n u new p (side e t b) answer = subst (λ w. LeansRight e t n u new w.op w.right answer) is far in
        made_as e t (left_lower e t m n u p new answer b (struck (kinds e t) x.number x.time (operations a)) (height a) kept.6 kept.4 kept.3 (omega arith, omega arith) one near' far')
        (sym (struck_left (kinds e t) laws x p (operations a) (operations b) sorted here)) (λ s c h. (omega arith, omega arith, omega arith))
