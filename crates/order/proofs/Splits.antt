-- What the reference ledger makes of a sorted belief, seen from one of its operations: p, with l before it and r after it.
use Rattle.std.proofs.Common.{◌≡◌, ℕ, Bool, true, false, cond, not, ◌||◌, List, [], ◌∷◌, ◌++◌, filter, refl, ap, ◌∙◌, ⊎_elim}
use Rattle.std.specs.List.{AllByRecursion}
use Rattle.std.proofs.lemmas.List.Elements.{filter-append}
use Rattle.std.proofs.ByRecursion.{All-weaker}
use Rattle.std.proofs.lemmas.Bool.{both_ways, not_from_true, not_from_false, or_left, cases_Bool, cond-true, cond-false}
use Rattle.reference.specs.declared.Operation.{Operation}
use Rattle.reference.specs.Beliefs.{Kinds, Belief, before, entered, until}
use Rattle.order.specs.Order.{Sorted, is_at, has, struck}
use Rattle.order.proofs.Orders.{TimeLaws, before_upto, before_trans, before_weaken, weaken_before, not_at_before, not_at_after, at_neither}

-- all of a list passes a test, or none does
pub kept_all : {A : Type 0} (test : A → Bool) (xs : List A) → AllByRecursion (λ x. test x ≡ true) xs → filter test xs ≡ xs
kept_all test [] h = refl
kept_all test (x ∷ xs) h = cond-true (test x) _ _ h.0 ∙ ap (λ w. x ∷ w) (kept_all test xs h.1)

pub kept_none : {A : Type 0} (test : A → Bool) (xs : List A) → AllByRecursion (λ x. test x ≡ false) xs → filter test xs ≡ []
kept_none test [] h = refl
kept_none test (x ∷ xs) h = cond-false (test x) _ _ h.0 ∙ kept_none test xs h.1

module _ {A : Type 0} (P : A → Type 0) where
  all_left : (xs ys : List A) → AllByRecursion P (xs ++ ys) → AllByRecursion P xs
  all_left [] ys h = tt
  all_left (x ∷ xs) ys h = (h.0, all_left xs ys h.1)

  all_right : (xs ys : List A) → AllByRecursion P (xs ++ ys) → AllByRecursion P ys
  all_right [] ys h = h
  all_right (x ∷ xs) ys h = all_right xs ys h.1

module _ {E T S : Type 0} (k : Kinds E T S) where
  pub sorted_left : (l r : Belief E T) → Sorted k (l ++ r) → Sorted k l
  sorted_left [] r h = tt
  sorted_left (o ∷ l) r h = (all_left (λ p. before k o p ≡ true) l r h.0, sorted_left l r h.1)

  sorted_rest : (l r : Belief E T) → Sorted k (l ++ r) → Sorted k r
  sorted_rest [] r h = h
  sorted_rest (o ∷ l) r h = sorted_rest l r h.1

  pub sorted_right : (l r : Belief E T) (p : Operation E T) → Sorted k (l ++ (p ∷ r)) → Sorted k r
  sorted_right l r p h = (sorted_rest l (p ∷ r) h).1

  all_before : (l r : Belief E T) (p : Operation E T) → Sorted k (l ++ (p ∷ r)) → AllByRecursion (λ q. before k q p ≡ true) l
  all_before [] r p h = tt
  all_before (o ∷ l) r p h = ((all_right (λ q. before k o q ≡ true) l (p ∷ r) h.0).0, all_before l r p h.1)

  all_after : (l r : Belief E T) (p : Operation E T) → Sorted k (l ++ (p ∷ r)) → AllByRecursion (λ q. before k p q ≡ true) r
  all_after l r p h = (sorted_rest l (p ∷ r) h).0

  pub entered_left : (new p : Operation E T) (l r : Belief E T) → before k new p ≡ true → entered k new (l ++ (p ∷ r)) ≡ entered k new l ++ (p ∷ r)
  entered_left new p [] r h = cond-true (before k new p) _ _ h
  entered_left new p (o ∷ l) r h = go (before k new o) (entered_left new p l r h)
    where
      go : (b : Bool) → entered k new (l ++ (p ∷ r)) ≡ entered k new l ++ (p ∷ r) →
          cond b (new ∷ (o ∷ (l ++ (p ∷ r)))) (o ∷ entered k new (l ++ (p ∷ r))) ≡ cond b (new ∷ (o ∷ l)) (o ∷ entered k new l) ++ (p ∷ r)
      go true ih = refl
      go false ih = ap (λ w. o ∷ w) ih

  entered_past : (new : Operation E T) (l r : Belief E T) → AllByRecursion (λ q. before k new q ≡ false) l → entered k new (l ++ r) ≡ l ++ entered k new r
  entered_past new [] r h = refl
  entered_past new (o ∷ l) r h = cond-false (before k new o) _ _ h.0 ∙ ap (λ w. o ∷ w) (entered_past new l r h.1)

  has_append : (n : ℕ) (t : T) (l r : Belief E T) → AllByRecursion (λ o. is_at k n t o ≡ false) l → has k n t (l ++ r) ≡ has k n t r
  has_append n t [] r h = refl
  has_append n t (o ∷ l) r h = ap (λ b. b || has k n t (l ++ r)) h.0 ∙ has_append n t l r h.1

  has_left : (n : ℕ) (t : T) (l r : Belief E T) → AllByRecursion (λ o. is_at k n t o ≡ false) r → has k n t (l ++ r) ≡ has k n t l
  has_left n t [] [] h = refl
  has_left n t [] (o ∷ r) h = ap (λ b. b || has k n t r) h.0 ∙ has_left n t [] r h.1
  has_left n t (o ∷ l) r h = ap (λ b. is_at k n t o || b) (has_left n t l r h)

  has_this : (n : ℕ) (t : T) (l r : Belief E T) (p : Operation E T) → is_at k n t p ≡ true → has k n t (l ++ (p ∷ r)) ≡ true
  has_this n t [] r p h = or_left (is_at k n t p) (has k n t r) h
  has_this n t (o ∷ l) r p h = go (is_at k n t o) (has_this n t l r p h)
    where
      go : (b : Bool) → has k n t (l ++ (p ∷ r)) ≡ true → (b || has k n t (l ++ (p ∷ r))) ≡ true
      go true ih = refl
      go false ih = ih

  struck_clear : (n : ℕ) (t : T) (l : Belief E T) → AllByRecursion (λ o. is_at k n t o ≡ false) l → struck k n t l ≡ l
  struck_clear n t l h = kept_all (λ o. not (is_at k n t o)) l (All-weaker (λ o. is_at k n t o ≡ false) (λ o. not (is_at k n t o) ≡ true) (λ o. not_from_false (is_at k n t o)) l h)

  module _ (laws : TimeLaws k.upto) where
    pub entered_right : (new p : Operation E T) (l r : Belief E T) → before k new p ≡ false → Sorted k (l ++ (p ∷ r)) → entered k new (l ++ (p ∷ r)) ≡ l ++ (p ∷ entered k new r)
    entered_right new p l r h s =
        entered_past new l (p ∷ r)
        (All-weaker (λ q. before k q p ≡ true) (λ q. before k new q ≡ false)
        (λ q early. ⊎_elim (λ x. absurd (both_ways (before k new p) h (before_trans k laws new q p x early))) (λ x. x) (cases_Bool (before k new q)))
        l (all_before l r p s))
        ∙ ap (λ w. l ++ w) (cond-false (before k new p) _ _ h)

    -- up to a time that p is not after, and up to one that p is after
    pub until_right : (at : T) (p : Operation E T) (l r : Belief E T) → k.upto p.time at ≡ true → Sorted k (l ++ (p ∷ r)) → until k at (l ++ (p ∷ r)) ≡ l ++ (p ∷ until k at r)
    until_right at p l r h s =
        let all : AllByRecursion (λ q. k.upto q.time at ≡ true) l = All-weaker (λ q. before k q p ≡ true) (λ q. k.upto q.time at ≡ true) (λ q early. laws.transitive q.time p.time at (before_upto k laws q p early) h) l (all_before l r p s) in
        filter-append (λ o. k.upto o.time at) l (p ∷ r) ∙ ap (λ w. w ++ until k at (p ∷ r)) (kept_all (λ o. k.upto o.time at) l all) ∙ ap (λ w. l ++ w) (cond-true (k.upto p.time at) _ _ h)

    pub until_left : (at : T) (p : Operation E T) (l r : Belief E T) → k.upto p.time at ≡ false → Sorted k (l ++ (p ∷ r)) → until k at (l ++ (p ∷ r)) ≡ until k at l ++ []
    until_left at p l r h s =
        let late : AllByRecursion (λ q. k.upto q.time at ≡ false) r = All-weaker (λ q. before k p q ≡ true) (λ q. k.upto q.time at ≡ false)
        (λ q after. ⊎_elim (λ x. absurd (both_ways (k.upto p.time at) h (laws.transitive p.time q.time at (before_upto k laws p q after) x))) (λ x. x) (cases_Bool (k.upto q.time at))) r (all_after l r p s) in
        filter-append (λ o. k.upto o.time at) l (p ∷ r) ∙ ap (λ w. until k at l ++ w) (cond-false (k.upto p.time at) _ _ h ∙ kept_none (λ o. k.upto o.time at) r late)

    -- a sought number and time, given as those of x: p is before x, x is before p, or p is at it
    module _ (x p : Operation E T) (l r : Belief E T) (s : Sorted k (l ++ (p ∷ r))) where
      clear_left : before k p x ≡ true → AllByRecursion (λ o. is_at k x.number x.time o ≡ false) l
      clear_left h = All-weaker (λ q. before k q p ≡ true) (λ q. is_at k x.number x.time q ≡ false) (λ q early. not_at_before k laws x q (before_trans k laws q p x early h)) l (all_before l r p s)

      clear_right : before k x p ≡ true → AllByRecursion (λ o. is_at k x.number x.time o ≡ false) r
      clear_right h = All-weaker (λ q. before k p q ≡ true) (λ q. is_at k x.number x.time q ≡ false) (λ q after. not_at_after k laws x q (before_trans k laws x p q h after)) r (all_after l r p s)

      pub has_right : before k p x ≡ true → has k x.number x.time (l ++ (p ∷ r)) ≡ has k x.number x.time r
      has_right h = has_append x.number x.time l (p ∷ r) (clear_left h) ∙ ap (λ b. b || has k x.number x.time r) (not_at_before k laws x p h)

      pub has_on_left : before k x p ≡ true → has k x.number x.time (l ++ (p ∷ r)) ≡ has k x.number x.time l
      has_on_left h = has_left x.number x.time l (p ∷ r) (not_at_after k laws x p h, clear_right h)

      pub has_here : before k p x ≡ false → before k x p ≡ false → has k x.number x.time (l ++ (p ∷ r)) ≡ true
      has_here h i = has_this x.number x.time l r p (at_neither k laws x p h i)

      pub struck_right : before k p x ≡ true → struck k x.number x.time (l ++ (p ∷ r)) ≡ l ++ (p ∷ struck k x.number x.time r)
      struck_right h =
          filter-append (λ o. not (is_at k x.number x.time o)) l (p ∷ r) ∙ ap (λ w. w ++ struck k x.number x.time (p ∷ r)) (struck_clear x.number x.time l (clear_left h))
          ∙ ap (λ w. l ++ w) (cond-true (not (is_at k x.number x.time p)) _ _ (not_from_false (is_at k x.number x.time p) (not_at_before k laws x p h)))

      pub struck_left : before k x p ≡ true → struck k x.number x.time (l ++ (p ∷ r)) ≡ struck k x.number x.time l ++ (p ∷ r)
      struck_left h =
          filter-append (λ o. not (is_at k x.number x.time o)) l (p ∷ r)
          ∙ ap (λ w. struck k x.number x.time l ++ w) (struck_clear x.number x.time (p ∷ r) (not_at_after k laws x p h, clear_right h))

      pub struck_here : before k p x ≡ false → before k x p ≡ false → struck k x.number x.time (l ++ (p ∷ r)) ≡ l ++ r
      struck_here h i =
          let left : AllByRecursion (λ o. is_at k x.number x.time o ≡ false) l = All-weaker (λ q. before k q p ≡ true) (λ q. is_at k x.number x.time q ≡ false) (λ q early. not_at_before k laws x q (before_weaken k laws q p x early i)) l (all_before l r p s) in
          let right : AllByRecursion (λ o. is_at k x.number x.time o ≡ false) r = All-weaker (λ q. before k p q ≡ true) (λ q. is_at k x.number x.time q ≡ false) (λ q after. not_at_after k laws x q (weaken_before k laws x p q h after)) r (all_after l r p s) in
          filter-append (λ o. not (is_at k x.number x.time o)) l (p ∷ r) ∙ ap (λ w. w ++ struck k x.number x.time (p ∷ r)) (struck_clear x.number x.time l left)
          ∙ ap (λ w. l ++ w) (cond-false (not (is_at k x.number x.time p)) _ _ (not_from_true (is_at k x.number x.time p) (at_neither k laws x p h i)) ∙ struck_clear x.number x.time r right)
