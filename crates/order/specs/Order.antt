-- Beliefs in order, and where an operation stands in one.
use Rattle.std.specs.Prelude.{◌≡◌, ℕ, ◌<◌, Bool, true, false, not, ◌&&◌, ◌||◌, [], ◌∷◌, filter, ◌==◌}
use Rattle.std.specs.List.{AllByRecursion}
use Rattle.reference.specs.declared.Operation.{Operation}
use Rattle.reference.specs.Beliefs.{Kinds, Belief, before}

-- every number is below n
abbrev pub Below : {E T : Type 0} → ℕ → Belief E T → Type 0
Below n belief = AllByRecursion (λ o. o.number < n) belief

-- what has the number n has the time t
abbrev pub Timed : {E T : Type 0} → ℕ → T → Belief E T → Type 0
Timed n t belief = AllByRecursion (λ o. o.number ≡ n → o.time ≡ t) belief

module _ {E T S : Type 0} (k : Kinds E T S) where
  -- each operation is before all that follow it
  abbrev pub Sorted : Belief E T → Type 0
  Sorted [] = Unit {0}
  Sorted (o ∷ os) = AllByRecursion (λ p. before k o p ≡ true) os × Sorted os

  -- whether an operation has this number and this time
  abbrev pub is_at : ℕ → T → Operation E T → Bool
  is_at n t o = o.number == n && (k.upto o.time t && k.upto t o.time)

  -- whether an operation of this number and this time is in the belief
  abbrev pub has : ℕ → T → Belief E T → Bool
  has n t [] = false
  has n t (o ∷ os) = is_at n t o || has n t os

  -- the belief without what stands at this number and this time
  abbrev pub struck : ℕ → T → Belief E T → Belief E T
  struck n t belief = filter (λ o. not (is_at n t o)) belief
