-- What a change of a belief keeps: its order, the numbers below a number, and the times by number.
use Rattle.std.proofs.Common.{◌≡◌, ℕ, ◌+◌, ◌<◌, ◌≤◌, Bool, true, cond, not, ◌&&◌, eqb, List, [], ◌∷◌, length, filter, sym, refl, ap, ◌∙◌, ⊎_elim, arith}
use Rattle.std.specs.List.{AllByRecursion}
use Rattle.std.proofs.ByRecursion.{All-weaker, all_kept_by}
use Rattle.std.proofs.lemmas.Bool.{cond_both, eqb-true, and_left, and_from, cases_Bool, or_cases}
use Rattle.reference.specs.declared.Operation.{Operation}
use Rattle.reference.specs.Beliefs.{Kinds, Belief, before, entered, without}
use Rattle.order.specs.Order.{Below, Timed, Sorted, is_at, struck}
use Rattle.order.proofs.Orders.{TimeLaws, before_number, before_trans, not_before}

module _ {E T S : Type 0} (k : Kinds E T S) where
  pub all_entered : (P : Operation E T → Type 0) (new : Operation E T) (belief : Belief E T) → P new → AllByRecursion P belief → AllByRecursion P (entered k new belief)
  all_entered P new [] p h = (p, tt)
  all_entered P new (o ∷ os) p h = cond_both (before k new o) _ _ (AllByRecursion P) (λ _. (p, h)) (λ _. (h.0, all_entered P new os p h.1))

  pub length_entered : (new : Operation E T) (belief : Belief E T) → length (entered k new belief) ≡ length belief + 1
  length_entered new [] = refl
  length_entered new (o ∷ os) = cond_both (before k new o) _ _ (λ w. length w ≡ length (o ∷ os) + 1) (λ _. omega arith) (λ _. omega (arith, length_entered new os))

  pub sorted_kept : (test : Operation E T → Bool) (belief : Belief E T) → Sorted k belief → Sorted k (filter test belief)
  sorted_kept test [] h = tt
  sorted_kept test (o ∷ os) h =
      cond_both (test o) _ _ (Sorted k) (λ _. (all_kept_by test (λ p. before k o p ≡ true) os h.0, sorted_kept test os h.1)) (λ _. sorted_kept test os h.1)

  pub sorted_without : (n : ℕ) (belief : Belief E T) → Sorted k belief → Sorted k (without n belief)
  sorted_without n belief h = sorted_kept (λ o. not (eqb o.number n)) belief h

  pub below_entered : (n : ℕ) (new : Operation E T) (belief : Belief E T) → new.number < n → Below n belief → Below n (entered k new belief)
  below_entered n new belief p h = all_entered (λ o. o.number < n) new belief p h

  pub timed_entered : (n : ℕ) (t : T) (new : Operation E T) (belief : Belief E T) → (new.number ≡ n → new.time ≡ t) → Timed n t belief → Timed n t (entered k new belief)
  timed_entered n t new belief p h = all_entered (λ o. o.number ≡ n → o.time ≡ t) new belief p h

  module _ (laws : TimeLaws k.upto) where
    pub sorted_entered : (new : Operation E T) (belief : Belief E T) → Below new.number belief → Sorted k belief → Sorted k (entered k new belief)
    sorted_entered new [] n h = (tt, tt)
    sorted_entered new (o ∷ os) n h =
        cond_both (before k new o) _ _ (Sorted k)
        (λ y. ((y, All-weaker (λ p. before k o p ≡ true) (λ p. before k new p ≡ true) (λ p after. before_trans k laws new o p y after) os h.0), h))
        (λ y. (all_entered (λ p. before k o p ≡ true) new os (before_number k o new (not_before k new o y).0 n.0) h.0, sorted_entered new os n.1 h.1))

    -- where what has the number n has the time t, what stands at the two is what has the number
    same_time : (t : T) → k.upto t t ≡ true
    same_time t = ⊎_elim (λ x. x) (λ x. x) (or_cases (k.upto t t) (k.upto t t) (laws.total t t))

    at_number : (n : ℕ) (t : T) (o : Operation E T) → (o.number ≡ n → o.time ≡ t) → is_at k n t o ≡ eqb o.number n
    at_number n t o h =
        ⊎_elim
        (λ x. let when : o.time ≡ t = h (eqb-true o.number n x) in
        and_from (eqb o.number n) (k.upto o.time t && k.upto t o.time) x (and_from (k.upto o.time t) (k.upto t o.time) (rw when (same_time t)) (rw when (same_time t))) ∙ sym x)
        (λ x. and_left (eqb o.number n) (k.upto o.time t && k.upto t o.time) x ∙ sym x)
        (cases_Bool (eqb o.number n))

    pub struck_without : (n : ℕ) (t : T) (belief : Belief E T) → Timed n t belief → struck k n t belief ≡ without n belief
    struck_without n t [] h = refl
    struck_without n t (o ∷ os) h =
        ap (λ b. cond (not b) (o ∷ struck k n t os) (struck k n t os)) (at_number n t o h.0)
        ∙ ap (λ w. cond (not (eqb o.number n)) (o ∷ w) w) (struck_without n t os h.1)

pub length_kept : {A : Type 0} (test : A → Bool) (xs : List A) → length (filter test xs) ≤ length xs
length_kept test [] = omega arith
length_kept test (x ∷ xs) = cond_both (test x) _ _ (λ w. length w ≤ length (x ∷ xs)) (λ _. omega (arith, length_kept test xs)) (λ _. omega (arith, length_kept test xs))

pub below_without : {E T : Type 0} (m n : ℕ) (belief : Belief E T) → Below n belief → Below n (without m belief)
below_without m n belief h = all_kept_by (λ o. not (eqb o.number m)) (λ o. o.number < n) belief h

pub timed_without : {E T : Type 0} (m n : ℕ) (t : T) (belief : Belief E T) → Timed n t belief → Timed n t (without m belief)
timed_without m n t belief h = all_kept_by (λ o. not (eqb o.number m)) (λ o. o.number ≡ n → o.time ≡ t) belief h

pub below_more : {E T : Type 0} (m n : ℕ) (belief : Belief E T) → m ≤ n → Below m belief → Below n belief
below_more m n belief more h = All-weaker (λ o. o.number < m) (λ o. o.number < n) (λ o low. omega arith) belief h
