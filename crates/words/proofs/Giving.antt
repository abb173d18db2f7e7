-- What a test says of a value that exists only where it passes, and when words are the same.
use Rattle.std.proofs.Common.{◌≡◌, ℕ, Bool, true, false, T, Some, None, Option, refl, arith}
use Rattle.words.specs.Given.{given}
use Rattle.words.specs.declared.EffectWords.{EffectWords}

module _ {A : Type 0} where
  pub given_passed : (test : Bool) (value : T test → Option A) (passed : T test) → given test value ≡ value passed
  given_passed true value tt = refl
  given_passed false value passed = absurd passed

  pub given_failed : (test : Bool) (value : T test → Option A) → (T test → ⊥) → given test value ≡ None
  given_failed true value fails = absurd (fails tt)
  given_failed false value fails = refl

  -- what there is was given by the passed test
  pub given_some : (test : Bool) (value : T test → Option A) (a : A) → given test value ≡ Some a → (passed : T test) × (value passed ≡ Some a)
  given_some true value a is = (tt, is)
  given_some false value a is = absurd (let z : ◌≡◌ {A = ℕ} 0 1 = cc in omega arith)

-- what cannot be there is not
pub none_where : {A : Type 0} (o : Option A) → ((a : A) → o ≡ Some a → ⊥) → o ≡ None
none_where None never = refl
none_where (Some a) never = absurd (never a refl)

pub some_same : {A : Type 0} {a b : A} → Some a ≡ Some b → a ≡ b
some_same is = cc

pub same_effect_words : (a b : EffectWords) → a.first ≡ b.first → a.second ≡ b.second → a ≡ b
same_effect_words a b p q = λ i. record { first = p i; second = q i }
