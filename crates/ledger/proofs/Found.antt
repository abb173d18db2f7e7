-- Which operations a belief has, by number alone and by the row of the number.
use Rattle.std.proofs.Common.{◌≡◌, ℕ, ◌+◌, ◌<◌, ◌≤◌, true, false, not, ◌||◌, eqb, List, [], ◌∷◌, length, get_or, Some, None, sym, refl, ap, ◌∙◌, subst, ⊎_elim, arith}
use Rattle.std.specs.List.{AllByRecursion}
use Rattle.std.proofs.ByRecursion.{All-weaker}
use Rattle.std.proofs.lemmas.Bool.{cases_Bool, cond-true, cond-false, eqb-true, ne_eqb, and_left, and_from, or_cases, or_from, not_from_true, not_from_false, both_ways, le-ltb, and_right}
use Rattle.reference.specs.declared.Operation.{Operation}
use Rattle.reference.specs.Beliefs.{Kinds, Belief, before, without, count}
use Rattle.calls.specs.Verdict.{has}
use Rattle.order.specs.Order.{Below, Timed, Sorted, is_at}
use Rattle.order.specs.Order as order
use Rattle.order.proofs.Orders.{TimeLaws}
use Rattle.ledger.specs.declared.Row.{Row}
use Rattle.ledger.proofs.Lasting.{Entered}

pub timed_from : {E T : Type 0} (rows : List (Row T)) (n : ℕ) (at : T) (d : Row T) (belief : Belief E T) → (get_or rows n d).entered ≡ Some at → Entered rows belief → Timed n at belief
timed_from rows n at d [] is h = tt
timed_from rows n at d (o ∷ os) is h = (λ same. let p = h.0 d in let q : (get_or rows o.number d).entered ≡ Some at = ap (λ i. (get_or rows i d).entered) same ∙ is in cc, timed_from rows n at d os is h.1)

-- a number that no operation has
pub has_none : {E T : Type 0} (n : ℕ) (belief : Belief E T) → AllByRecursion (λ o. o.number ≡ n → ⊥) belief → has n belief ≡ false
has_none n [] h = refl
has_none n (o ∷ os) h = or_from (eqb o.number n) (has n os) (ne_eqb o.number n h.0) (has_none n os h.1)

pub without_none : {E T : Type 0} (n : ℕ) (belief : Belief E T) → AllByRecursion (λ o. o.number ≡ n → ⊥) belief → without n belief ≡ belief
without_none n [] h = refl
without_none n (o ∷ os) h = cond-true (not (eqb o.number n)) _ _ (not_from_false _ (ne_eqb o.number n h.0)) ∙ ap (◌∷◌ o) (without_none n os h.1)

pub has_above : {E T : Type 0} (n i : ℕ) (belief : Belief E T) → i ≤ n → Below i belief → has n belief ≡ false
has_above n i belief l h = has_none n belief (All-weaker (λ o. o.number < i) (λ o. o.number ≡ n → ⊥) (λ o below same. omega arith) belief h)

pub has_unentered : {E T : Type 0} (rows : List (Row T)) (n : ℕ) (d : Row T) (belief : Belief E T) → (get_or rows n d).entered ≡ None → Entered rows belief → has n belief ≡ false
has_unentered rows n d belief is h =
    has_none n belief (All-weaker _ (λ o. o.number ≡ n → ⊥) (λ o there same. let p = there d in let q : (get_or rows o.number d).entered ≡ None = ap (λ i. (get_or rows i d).entered) same ∙ is in let z : ◌≡◌ {A = ℕ} 0 1 = cc in omega arith) belief h)

module _ {E T S : Type 0} (k : Kinds E T S) (laws : TimeLaws k.upto) where
  upto_self : (a : T) → k.upto a a ≡ true
  upto_self a = ⊎_elim (λ y. y) (λ y. y) (or_cases (k.upto a a) (k.upto a a) (laws.total a a))

  at_number : (n : ℕ) (at : T) (o : Operation E T) → (o.number ≡ n → o.time ≡ at) → is_at k n at o ≡ eqb o.number n
  at_number n at o timed =
      ⊎_elim
      (λ yes.
      let same = timed (eqb-true o.number n yes) in
      let one : k.upto o.time at ≡ true = subst (λ a. k.upto o.time a ≡ true) same (upto_self o.time) in
      let two : k.upto at o.time ≡ true = subst (λ a. k.upto a o.time ≡ true) same (upto_self o.time) in
      and_from (eqb o.number n) _ yes (and_from (k.upto o.time at) _ one two) ∙ sym yes)
      (λ no. and_left (eqb o.number n) _ no ∙ sym no)
      (cases_Bool (eqb o.number n))

  -- where the number's time is known, finding by both is finding by number
  pub has_timed : (n : ℕ) (at : T) (belief : Belief E T) → Timed n at belief → order.has k n at belief ≡ has n belief
  has_timed n at [] h = refl
  has_timed n at (o ∷ os) h = ap (λ x. x || order.has k n at os) (at_number n at o h.0) ∙ ap (λ x. eqb o.number n || x) (has_timed n at os h.1)

  -- in order, no two operations share a number and a time
  alone : (n : ℕ) (at : T) (o p : Operation E T) → before k o p ≡ true → o.number ≡ n → o.time ≡ at → (p.number ≡ n → p.time ≡ at) → p.number ≡ n → ⊥
  alone n at o p first number time timed same =
      let equal : p.time ≡ o.time = timed same ∙ sym time in
      let upto : k.upto p.time o.time ≡ true = subst (λ a. k.upto a o.time ≡ true) (sym equal) (upto_self o.time) in
      both_ways (before k o p) (or_from (not (k.upto p.time o.time)) _ (not_from_true _ upto) (and_right (k.upto o.time p.time) _ (le-ltb o.number p.number (omega arith)))) first

  all_alone : (n : ℕ) (at : T) (o : Operation E T) (os : Belief E T) → AllByRecursion (λ p. before k o p ≡ true) os → o.number ≡ n → o.time ≡ at → Timed n at os → AllByRecursion (λ p. p.number ≡ n → ⊥) os
  all_alone n at o [] first number time timed = tt
  all_alone n at o (p ∷ os) first number time timed = (alone n at o p first.0 number time timed.0, all_alone n at o os first.1 number time timed.1)

  -- a withdrawal takes one operation away
  pub count_without : (n : ℕ) (at : T) (belief : Belief E T) → Sorted k belief → Timed n at belief → has n belief ≡ true → count (without n belief) + 1 ≡ count belief
  count_without n at [] sorted timed found = absurd (let z : ◌≡◌ {A = ℕ} 0 1 = cc in omega arith)
  count_without n at (o ∷ os) sorted timed found =
      ⊎_elim
      (λ yes.
      let number = eqb-true o.number n yes in
      let gone : without n (o ∷ os) ≡ os = cond-false (not (eqb o.number n)) _ _ (not_from_true _ yes) ∙ without_none n os (all_alone n at o os sorted.0 number (timed.0 number) timed.1) in
      omega (arith, ap length gone))
      (λ no.
      let there : without n (o ∷ os) ≡ o ∷ without n os = cond-true (not (eqb o.number n)) _ _ (not_from_false _ no) in
      let rest : has n os ≡ true = ⊎_elim (λ y. absurd (both_ways (eqb o.number n) no y)) (λ y. y) (or_cases (eqb o.number n) (has n os) found) in
      omega (arith, ap length there, count_without n at os sorted.1 timed.1 rest))
      (cases_Bool (eqb o.number n))
