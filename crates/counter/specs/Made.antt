-- `level_of` and `counter_of` give the level and the counter of their numbers wherever there is one.
use Rattle.std.specs.Prelude.{◌≡◌, ℕ, ◌≤◌, ℤ, pos, negsuc, Some, None, Option, int_le, nat_le, refl}
use Rattle.std.proofs.Common.{sym, ap, ◌∙◌, arith, le→leb}
use Rattle.words.proofs.Giving.{given_passed, given_some, none_where, some_same}
use Rattle.counter.specs.Counting.{level_of, InBounds, counter_of}
use Rattle.counter.specs.declared.Level.{Level}
use Rattle.counter.specs.declared.Counter.{Counter}
use Rattle.counter.specs.Sames.{same_level, same_counter}

pub level_back : (l : Level) → level_of l.hundredths ≡ Some l
level_back l = given_passed (nat_le l.hundredths 1000000) _ (le→leb l.hundredths 1000000 l.within) ∙ ap Some (same_level _ l refl)

-- the level of a number has that number
pub level_from : (n : ℕ) (l : Level) → level_of n ≡ Some l → l.hundredths ≡ n
level_from n l is = let one = given_some (nat_le n 1000000) _ l is in sym (ap (λ m. m.hundredths) (some_same one.1))

pub counter_back : (c : Counter) → counter_of c.amount c.floor.hundredths c.ceiling.hundredths ≡ Some c
counter_back c =
    given_passed (int_le (negsuc 999999) c.amount) _ c.least.le ∙ given_passed (int_le c.amount (pos 1000000)) _ c.most.le
    ∙ given_passed (nat_le c.floor.hundredths c.ceiling.hundredths) _ (le→leb c.floor.hundredths c.ceiling.hundredths c.ordered)
    ∙ given_passed (nat_le c.ceiling.hundredths 1000000) _ (le→leb c.ceiling.hundredths 1000000 c.ceiling.within)
    ∙ ap Some (same_counter _ c refl refl refl)

pub counter_from : (amount : ℤ) (floor ceiling : ℕ) (c : Counter) → counter_of amount floor ceiling ≡ Some c → (c.amount ≡ amount) × (c.floor.hundredths ≡ floor) × (c.ceiling.hundredths ≡ ceiling)
counter_from amount floor ceiling c is =
    let one = given_some (int_le (negsuc 999999) amount) _ c is in
    let two = given_some (int_le amount (pos 1000000)) _ c one.1 in
    let three = given_some (nat_le floor ceiling) _ c two.1 in
    let four = given_some (nat_le ceiling 1000000) _ c three.1 in
    let same = sym (some_same four.1) in
    (ap (λ d. d.amount) same, ap (λ d. d.floor.hundredths) same, ap (λ d. d.ceiling.hundredths) same)

-- r holds the level or the counter of these numbers, or is none where there is none such
abbrev pub IsLevel : ℕ → Option Level → Type 0
IsLevel n None = n ≤ 1000000 → ⊥
IsLevel n (Some l) = l.hundredths ≡ n

abbrev pub IsCounter : ℤ → ℕ → ℕ → Option Counter → Type 0
IsCounter amount floor ceiling None = InBounds amount floor ceiling → ⊥
IsCounter amount floor ceiling (Some c) = (c.amount ≡ amount) × (c.floor.hundredths ≡ floor) × (c.ceiling.hundredths ≡ ceiling)

-- so r is `level_of` that number
pub level_is : (n : ℕ) (r : Option Level) → IsLevel n r → r ≡ level_of n
level_is n None never = sym (none_where _ (λ l is. let e = level_from n l is in let w = l.within in never (omega arith)))
level_is n (Some l) is = sym (ap level_of (sym is) ∙ level_back l)

pub counter_is : (amount : ℤ) (floor ceiling : ℕ) (r : Option Counter) → IsCounter amount floor ceiling r → r ≡ counter_of amount floor ceiling
counter_is amount floor ceiling None never =
    sym (none_where _ (λ c is. let e = counter_from amount floor ceiling c is in never (rw e.0 at c.least, rw e.0 at c.most, omega (arith, e.1, e.2, c.ordered), omega (arith, e.2, c.ceiling.within))))
counter_is amount floor ceiling (Some c) is = sym (ap (λ a. counter_of a floor ceiling) (sym is.0) ∙ ap (λ f. counter_of c.amount f ceiling) (sym is.1) ∙ ap (counter_of c.amount c.floor.hundredths) (sym is.2) ∙ counter_back c)
