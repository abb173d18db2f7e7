-- `before` is an order where times are in one, and what stands at a number and a time is what neither side of it is before.
use Rattle.std.proofs.Common.{◌≡◌, ◌<◌, ◌≤◌, Bool, true, false, not, ◌&&◌, ◌||◌, eqb, ltb, ◌⊎◌, inl, inr, ⊎_elim, arith}
use Rattle.std.proofs.lemmas.Bool.{both_ways, not-true, not-false, ltb-true, ltb-false, lt-ltb, eq-eqb, ne_eqb, and_parts, and_cases, and_from, and_left, and_right, or_cases, or_parts, or_left, or_right, not_from_false, cases_Bool}
use Rattle.reference.specs.declared.Operation.{Operation}
use Rattle.reference.specs.Beliefs.{Kinds, before}
use Rattle.order.specs.Order.{is_at}

-- what the order of operations needs of the order of times
pub record TimeLaws {T : Type 0} (upto : T → T → Bool) : Type 0 where
  pub total : (a b : T) → (upto a b || upto b a) ≡ true
  pub transitive : (a b c : T) → upto a b ≡ true → upto b c ≡ true → upto a c ≡ true

module _ {E T S : Type 0} (k : Kinds E T S) where
  abbrev upto : Operation E T → Operation E T → Bool
  upto a b = k.upto a.time b.time

  before_cases : (a b : Operation E T) → before k a b ≡ true → (upto b a ≡ false) ⊎ ((upto a b ≡ true) × (a.number < b.number))
  before_cases a b h =
      ⊎_elim (λ x. inl (not-true (upto b a) x))
      (λ x. let p = and_parts (upto a b) (ltb a.number b.number) x in inr (p.0, ltb-true a.number b.number p.1))
      (or_cases (not (upto b a)) (upto a b && ltb a.number b.number) h)

  pub before_time : (a b : Operation E T) → upto b a ≡ false → before k a b ≡ true
  before_time a b h = or_left (not (upto b a)) (upto a b && ltb a.number b.number) (not_from_false (upto b a) h)

  pub before_number : (a b : Operation E T) → upto a b ≡ true → a.number < b.number → before k a b ≡ true
  before_number a b h n = or_right (not (upto b a)) (upto a b && ltb a.number b.number) (and_from (upto a b) (ltb a.number b.number) h (lt-ltb a.number b.number n))

  -- what is not before is not earlier, and at equal times has no lower number
  pub not_before : (a b : Operation E T) → before k a b ≡ false → (upto b a ≡ true) × (upto a b ≡ true → b.number ≤ a.number)
  not_before a b h =
      let p = or_parts (not (upto b a)) (upto a b && ltb a.number b.number) h in
      (not-false (upto b a) p.0, λ early. ⊎_elim (λ x. absurd (both_ways (upto a b) x early)) (ltb-false a.number b.number) (and_cases (upto a b) (ltb a.number b.number) p.1))

  module _ (laws : TimeLaws k.upto) where
    later : (a b : Operation E T) → upto b a ≡ false → upto a b ≡ true
    later a b h = ⊎_elim (λ x. x) (λ x. absurd (both_ways (upto b a) h x)) (or_cases (upto a b) (upto b a) (laws.total a.time b.time))

    pub before_upto : (a b : Operation E T) → before k a b ≡ true → upto a b ≡ true
    before_upto a b h = ⊎_elim (later a b) (λ x. x.0) (before_cases a b h)

    not_later : (a c : Operation E T) → (upto c a ≡ true → ⊥) → before k a c ≡ true
    not_later a c h = before_time a c (⊎_elim (λ x. absurd (h x)) (λ x. x) (cases_Bool (upto c a)))

    pub before_trans : (a b c : Operation E T) → before k a b ≡ true → before k b c ≡ true → before k a c ≡ true
    before_trans a b c h i =
        let ab = before_upto a b h in
        let bc = before_upto b c i in
        let chain = laws.transitive in
        ⊎_elim
        (λ x. not_later a c (λ y. both_ways (upto b a) x (chain b.time c.time a.time bc y)))
        (λ x. ⊎_elim
        (λ y. not_later a c (λ z. both_ways (upto c b) y (chain c.time a.time b.time z ab)))
        (λ y. before_number a c (chain a.time b.time c.time ab bc) (omega arith))
        (before_cases b c i))
        (before_cases a b h)

    -- before what a third is not before, and what is not before a third
    pub before_weaken : (a b c : Operation E T) → before k a b ≡ true → before k c b ≡ false → before k a c ≡ true
    before_weaken a b c h n =
        let p = not_before c b n in
        let chain = laws.transitive in
        ⊎_elim
        (λ x. not_later a c (λ y. both_ways (upto b a) x (chain b.time c.time a.time p.0 y)))
        (λ x. ⊎_elim
        (λ y. let low = p.1 (chain c.time a.time b.time y x.0) in before_number a c (chain a.time b.time c.time x.0 p.0) (omega arith))
        (before_time a c)
        (cases_Bool (upto c a)))
        (before_cases a b h)

    pub weaken_before : (a b c : Operation E T) → before k b a ≡ false → before k b c ≡ true → before k a c ≡ true
    weaken_before a b c n h =
        let p = not_before b a n in
        let chain = laws.transitive in
        ⊎_elim
        (λ x. not_later a c (λ y. both_ways (upto c b) x (chain c.time a.time b.time y p.0)))
        (λ x. ⊎_elim
        (λ y. let low = p.1 (chain b.time c.time a.time x.0 y) in before_number a c (chain a.time b.time c.time p.0 x.0) (omega arith))
        (before_time a c)
        (cases_Bool (upto c a)))
        (before_cases b c h)

    -- a number and a time, given as those of x
    pub not_at_before : (x o : Operation E T) → before k o x ≡ true → is_at k x.number x.time o ≡ false
    not_at_before x o h =
        ⊎_elim
        (λ y. and_right (eqb o.number x.number) (upto o x && upto x o) (and_right (upto o x) (upto x o) y))
        (λ y. and_left (eqb o.number x.number) (upto o x && upto x o) (ne_eqb o.number x.number (λ z. omega arith)))
        (before_cases o x h)

    pub not_at_after : (x o : Operation E T) → before k x o ≡ true → is_at k x.number x.time o ≡ false
    not_at_after x o h =
        ⊎_elim
        (λ y. and_right (eqb o.number x.number) (upto o x && upto x o) (and_left (upto o x) (upto x o) y))
        (λ y. and_left (eqb o.number x.number) (upto o x && upto x o) (ne_eqb o.number x.number (λ z. omega arith)))
        (before_cases x o h)

    pub at_neither : (x o : Operation E T) → before k o x ≡ false → before k x o ≡ false → is_at k x.number x.time o ≡ true
    at_neither x o h i =
        let p = not_before o x h in
        let q = not_before x o i in
        let low = p.1 q.0 in
        let high = q.1 p.0 in
        and_from (eqb o.number x.number) (upto o x && upto x o) (eq-eqb o.number x.number (omega arith)) (and_from (upto o x) (upto x o) q.0 p.0)
