-- Beliefs stay in order, what an entry and a withdrawal do to one, and that equal times and effects give equal answers.
use Rattle.std.proofs.Common.{◌≡◌, ℕ, ◌+◌, ◌<◌, ◌≤◌, Bool, true, false, cond, not, ◌||◌, eqb, List, [], ◌∷◌, ◌++◌, length, Some, None, fold, filter, Option, refl, ap, ◌∙◌, subst, ⊎_elim, arith}
use Rattle.std.specs.Option.{option_map}
use Rattle.std.specs.List.{AllZip, AllByRecursion}
use Rattle.std.proofs.ByRecursion.{All-weaker, all_kept_by}
use Rattle.std.proofs.lemmas.Bool.{cond_both, cond-true, cond-false, not-true, not-false, not_from_true, not_from_false, ne_eqb, eq-eqb, le-ltb, and_parts, and_right, or_parts, or_cases, or_from, both_ways}
use Rattle.reference.specs.declared.Operation.{Operation}
use Rattle.reference.specs.Beliefs.{Kinds, Belief, before, entered, without, until, state, latest}

-- What the law needs of a kind of time.
pub record TimeLaws {T : Type 0} (upto : T → T → Bool) : Type 0 where
  pub total : (a b : T) → (upto a b || upto b a) ≡ true
  pub transitive : (a b c : T) → upto a b ≡ true → upto b c ≡ true → upto a c ≡ true

-- all numbers are below n
abbrev pub Below : {E T : Type 0} → ℕ → Belief E T → Type 0
Below n b = AllByRecursion (λ o. o.number < n) b

-- in the order of time
abbrev pub Sorted : {E T : Type 0} → (T → T → Bool) → Belief E T → Type 0
Sorted upto [] = Unit {0}
Sorted upto (o ∷ os) = AllByRecursion (λ p. upto o.time p.time ≡ true) os × Sorted upto os

-- the same times and effects, whatever the numbers
abbrev pub SameOps : {E T : Type 0} → Belief E T → Belief E T → Type 0
SameOps b b' = AllZip (λ o p. (o.time ≡ p.time) × (o.effect ≡ p.effect)) b b'

pub same_ops : {E T : Type 0} (b : Belief E T) → SameOps b b
same_ops [] = tt
same_ops (o ∷ os) = ((refl, refl), same_ops os)

without_other : {E T : Type 0} (n : ℕ) (o : Operation E T) (os : Belief E T) → o.number < n → without n (o ∷ os) ≡ o ∷ without n os
without_other n o os less = cond-true (not (eqb o.number n)) _ _ (not_from_false _ (ne_eqb o.number n (λ e. omega arith)))

without_none : {E T : Type 0} (n : ℕ) (b : Belief E T) → Below n b → without n b ≡ b
without_none n [] h = refl
without_none n (o ∷ os) h = without_other n o os h.0 ∙ ap (◌∷◌ o) (without_none n os h.1)

without_first : {E T : Type 0} (o : Operation E T) (b : Belief E T) → Below o.number b → without o.number (o ∷ b) ≡ b
without_first o b h = cond-false (not (eqb o.number o.number)) _ _ (not_from_true _ (eq-eqb _ _ refl)) ∙ without_none o.number b h

length_kept : {A : Type 0} (test : A → Bool) (b : List A) → length (filter test b) ≤ length b
length_kept test [] = omega arith
length_kept test (o ∷ os) =
    cond_both (test o) (o ∷ filter test os) (filter test os) (λ z. length z ≤ length (o ∷ os))
    (λ _. omega (arith, length_kept test os)) (λ _. omega (arith, length_kept test os))

pub length_without : {E T : Type 0} (n : ℕ) (b : Belief E T) → length (without n b) ≤ length b
length_without n b = length_kept (λ o. not (eqb o.number n)) b

module _ {E T S : Type 0} (k : Kinds E T S) where
  -- the operation of the highest number, entered and withdrawn
  pub without_entered : (o : Operation E T) (b : Belief E T) → Below o.number b → without o.number (entered k o b) ≡ b
  without_entered o [] h = without_first o [] tt
  without_entered o (p ∷ ps) h =
      cond_both (before k o p) _ _ (λ z. without o.number z ≡ p ∷ ps)
      (λ _. without_first o (p ∷ ps) h)
      (λ _. without_other o.number p (entered k o ps) h.0 ∙ ap (◌∷◌ p) (without_entered o ps h.1))

  pub all_entered : (P : Operation E T → Type 0) (o : Operation E T) (b : Belief E T) → P o → AllByRecursion P b → AllByRecursion P (entered k o b)
  all_entered P o [] po h = (po, tt)
  all_entered P o (p ∷ ps) po h = cond_both (before k o p) _ _ (AllByRecursion P) (λ _. (po, h)) (λ _. (h.0, all_entered P o ps po h.1))

  pub length_entered : (o : Operation E T) (b : Belief E T) → length (entered k o b) ≡ length b + 1
  length_entered o [] = refl
  length_entered o (p ∷ ps) =
      cond_both (before k o p) _ _ (λ z. length z ≡ length (p ∷ ps) + 1) (λ _. omega arith) (λ _. omega (arith, length_entered o ps))

  -- an operation that comes before none of a belief goes to its end
  pub entered_last : (o : Operation E T) (b : Belief E T) → AllByRecursion (λ p. before k o p ≡ false) b → entered k o b ≡ b ++ (o ∷ [])
  entered_last o [] h = refl
  entered_last o (p ∷ ps) h = cond-false (before k o p) _ _ h.0 ∙ ap (◌∷◌ p) (entered_last o ps h.1)

  -- so is one of a later time and a higher number
  pub not_before : (o p : Operation E T) → k.upto p.time o.time ≡ true → p.number < o.number → before k o p ≡ false
  not_before o p upto less = or_from (not (k.upto p.time o.time)) _ (not_from_true _ upto) (and_right (k.upto o.time p.time) _ (le-ltb o.number p.number (omega arith)))

  module _ (laws : TimeLaws k.upto) where
    upto_before : (o p : Operation E T) → before k o p ≡ true → k.upto o.time p.time ≡ true
    upto_before o p h =
        let op = k.upto o.time p.time in
        let po = k.upto p.time o.time in
        ⊎_elim
        (λ later. ⊎_elim (λ y. y) (λ y. absurd (both_ways po (not-true po later) y)) (or_cases op po (laws.total o.time p.time)))
        (λ both. (and_parts op _ both).0)
        (or_cases (not po) _ h)

    pub sorted_entered : (o : Operation E T) (b : Belief E T) → Sorted k.upto b → Sorted k.upto (entered k o b)
    sorted_entered o [] h = (tt, tt)
    sorted_entered o (p ∷ ps) h =
        cond_both (before k o p) _ _ (Sorted k.upto)
        (λ y.
        let op = upto_before o p y in
        ((op, All-weaker (λ q. k.upto p.time q.time ≡ true) (λ q. k.upto o.time q.time ≡ true) (λ q pq. laws.transitive _ _ _ op pq) ps h.0), h))
        (λ n. (all_entered (λ q. k.upto p.time q.time ≡ true) o ps (not-false _ (or_parts (not (k.upto p.time o.time)) _ n).0) h.0, sorted_entered o ps h.1))

  pub sorted_kept : (test : Operation E T → Bool) (b : Belief E T) → Sorted k.upto b → Sorted k.upto (filter test b)
  sorted_kept test [] h = tt
  sorted_kept test (o ∷ os) h =
      cond_both (test o) _ _ (Sorted k.upto) (λ _. (all_kept_by test _ os h.0, sorted_kept test os h.1)) (λ _. sorted_kept test os h.1)

  same_kept : (test : T → Bool) (b c : Belief E T) → SameOps b c → SameOps (filter (λ o. test o.time) b) (filter (λ o. test o.time) c)
  same_kept test [] [] h = tt
  same_kept test [] (p ∷ c) h = absurd h
  same_kept test (o ∷ b) [] h = absurd h
  same_kept test (o ∷ b) (p ∷ c) h =
      let B = filter (λ x. test x.time) b in
      let C = filter (λ x. test x.time) c in
      let both : (t : Bool) → SameOps (cond t (o ∷ B) B) (cond t (p ∷ C) C) = elim [ true ↦ (h.0, same_kept test b c h.1) | false ↦ same_kept test b c h.1 ] in
      subst (λ t. SameOps (cond (test o.time) (o ∷ B) B) (cond t (p ∷ C) C)) (ap test h.0.0) (both (test o.time))

  same_carried : (s : S) (b c : Belief E T) → SameOps b c → fold (λ r o. k.acts o.effect r) s b ≡ fold (λ r o. k.acts o.effect r) s c
  same_carried s [] [] h = refl
  same_carried s [] (p ∷ c) h = absurd h
  same_carried s (o ∷ b) [] h = absurd h
  same_carried s (o ∷ b) (p ∷ c) h = ap (λ e. fold (λ r q. k.acts q.effect r) (k.acts e s) b) h.0.1 ∙ same_carried (k.acts p.effect s) b c h.1

  pub same_state : (b c : Belief E T) (t : T) → SameOps b c → state k b t ≡ state k c t
  same_state b c t h = same_carried k.start (until k t b) (until k t c) (same_kept (λ s. k.upto s t) b c h)

  -- the last operation's time, where x is the one before the belief
  last_time : Option (ℕ × T) → Belief E T → Option T
  last_time x b = option_map (λ o. o.1) (fold (λ _ o. Some (o.number, o.time)) x b)

  same_last : (x y : Option (ℕ × T)) (b c : Belief E T) → option_map (λ o. o.1) x ≡ option_map (λ o. o.1) y → SameOps b c → last_time x b ≡ last_time y c
  unfolding last_time
  same_last x y [] [] e h = e
  same_last x y [] (p ∷ c) e h = absurd h
  same_last x y (o ∷ b) [] e h = absurd h
  same_last x y (o ∷ b) (p ∷ c) e h = same_last (Some (o.number, o.time)) (Some (p.number, p.time)) b c (ap (λ t. Some t) h.0.0) h.1

  pub same_latest : (b c : Belief E T) (t : T) → SameOps b c → option_map (λ o. o.1) (latest k b t) ≡ option_map (λ o. o.1) (latest k c t)
  unfolding last_time
  same_latest b c t h = same_last None None (until k t b) (until k t c) refl (same_kept (λ s. k.upto s t) b c h)
