-- The limits of a counter: no change leaves a level, and two counters in turn limit as their composition does.
use Rattle.std.specs.Prelude.{◌≡◌, ℕ, ◌+◌, ◌-◌, ◌<◌, ◌≤◌, min, max, ℤ, pos, negsuc}
use Rattle.std.proofs.Common.{sym, ap, ◌∙◌, ⊎_elim, le_of_lt, arith}
use borrow.Author.Differences.{ints, up, down}
use Rattle.std.proofs.lemmas.Int.{clamps}
use Rattle.std.proofs.lemmas.Bool.{cases_lt}
use Rattle.counter.specs.Counting.{limited, limited_mono, added}

-- `limited` over natural numbers: an amount is what it adds less what it takes
pub limited_is : (a : ℤ) (f c l : ℕ) → limited a f c l ≡ min c (max f (l + up a - down a))
limited_is (pos n) f c l = omega (arith, ints, clamps)
limited_is (negsuc n) f c l = omega (arith, ints, clamps)

-- no change: a level is between 0 and the greatest
pub limited_none : (level : ℕ) → level ≤ 1000000 → limited (pos 0) 0 1000000 level ≡ level
limited_none level h = omega (arith, ints, clamps)

-- a function that keeps the order goes through `min` and `max`
module _ (φ : ℕ → ℕ) (keeps : (x y : ℕ) → x ≤ y → φ x ≤ φ y) where
  through_min : (x y : ℕ) → φ (min x y) ≡ min (φ x) (φ y)
  through_min x y =
      ⊎_elim
      (λ h. let k = keeps x y (le_of_lt h) in ap φ (omega arith) ∙ (let e : φ x ≡ min (φ x) (φ y) = omega arith in e))
      (λ h. let k = keeps y x h in ap φ (omega arith) ∙ (let e : φ y ≡ min (φ x) (φ y) = omega arith in e))
      (cases_lt x y)

  through_max : (x y : ℕ) → φ (max x y) ≡ max (φ x) (φ y)
  through_max x y =
      ⊎_elim
      (λ h. let k = keeps x y (le_of_lt h) in ap φ (omega arith) ∙ (let e : φ y ≡ max (φ x) (φ y) = omega arith in e))
      (λ h. let k = keeps y x h in ap φ (omega arith) ∙ (let e : φ x ≡ max (φ x) (φ y) = omega arith in e))
      (cases_lt x y)

-- The limits C and F that g's effect leaves stand within g's own, d and g, which then limit nothing.
absorbed : (C F d g z : ℕ) → g ≤ F → C ≤ d → min C (max F (min d (max g z))) ≡ min C (max F z)
absorbed C F d g z p q = omega arith

-- In the rest an amount is u - d; us - ds is the sum of the two, limited.
abbrev Sum : ℕ → ℕ → ℕ → ℕ → ℕ → ℕ → Type 0
Sum ua da ub db us ds = us + 1000000 ≡ ds + min 2000000 (1000000 + ua + ub - (da + db))

-- From a level that the first amount does not take below 0, both ways lead to one number, or past every ceiling.
moved : (l ua da ub db us ds : ℕ) → l ≤ 1000000 → da ≤ l + ua → Sum ua da ub db us ds → min 1000000 (l + ua - da + ub - db) ≡ min 1000000 (l + us - ds)
moved l ua da ub db us ds p q e = omega arith

past : (C F z w : ℕ) → C ≤ 1000000 → min 1000000 z ≡ min 1000000 w → min C (max F z) ≡ min C (max F w)
past C F z w p e = omega arith

-- From any other both lead to no more than the floor.
under : (l ua da ub db us ds : ℕ) → l ≤ 1000000 → l + ua < da → Sum ua da ub db us ds → l + us - ds ≤ ub - db
under l ua da ub db us ds p q e = omega arith

floored : (C F d m z w : ℕ) → F ≡ min d m → C ≤ d → z ≤ m → w ≤ m → min C (max F z) ≡ min C (max F w)
floored C F d m z w e p q r = omega arith

-- both effects in turn, and their composition
module _ (a b : ℤ) (f g c d l : ℕ) (g≤d : g ≤ d) (d≤ : d ≤ 1000000) (l≤ : l ≤ 1000000) where
  pub limited_twice : limited (added a b) (limited b g d f) (limited b g d c) l ≡ limited b g d (limited a f c l)
  limited_twice =
      let φ = limited b g d in
      let keeps : (x y : ℕ) → x ≤ y → φ x ≤ φ y = limited_mono b g d in
      let F : φ f ≡ min d (max g (f + up b - down b)) = limited_is b g d f in
      let C : φ c ≤ d = omega (arith, limited_is b g d c) in
      let sum : Sum (up a) (down a) (up b) (down b) (up (added a b)) (down (added a b)) = omega (arith, ints, clamps) in
      let y : ℕ = l + up a - down a in
      let turns : φ (limited a f c l) ≡ min (φ c) (max (φ f) (φ y)) = ap φ (limited_is a f c l) ∙ through_min φ keeps c (max f y) ∙ ap (min (φ c)) (through_max φ keeps f y) in
      let freed : min (φ c) (max (φ f) (φ y)) ≡ min (φ c) (max (φ f) (y + up b - down b)) =
      ap (λ z. min (φ c) (max (φ f) z)) (limited_is b g d y) ∙ absorbed (φ c) (φ f) d g (y + up b - down b) (omega arith) C in
      let same : min (φ c) (max (φ f) (y + up b - down b)) ≡ min (φ c) (max (φ f) (l + up (added a b) - down (added a b))) =
      ⊎_elim
      (λ h. let u = under l (up a) (down a) (up b) (down b) _ _ l≤ h sum in floored (φ c) (φ f) d (max g (f + up b - down b)) _ _ F C (omega arith) (omega arith))
      (λ h. past (φ c) (φ f) _ _ (omega arith) (moved l (up a) (down a) (up b) (down b) _ _ l≤ h sum))
      (cases_lt (l + up a) (down a)) in
      limited_is (added a b) (φ f) (φ c) l ∙ sym (turns ∙ freed ∙ same)
