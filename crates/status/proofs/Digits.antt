-- Octal digits one at a time: read out of a number by their place, and written from the last one.
use Rattle.std.proofs.Common.{◌≡◌, ℕ, zero, suc, ◌+◌, ◌*◌, ◌/◌, ◌%◌, ◌^◌, ◌<◌, ◌≤◌, List, [], ◌∷◌, map, reverse, fold, get_or, sym, refl, ap, ◌∙◌, arith, lit<, add-one, pow-suc}
use Rattle.std.proofs.lemmas.Nat.{pow-add}
use Rattle.std.proofs.Math.Nat.{div-div-eq-div-mul, pow-le-pow_right}
use Rattle.status.specs.Codes.{code_of}
use Rattle.status.specs.Packing.{octal, digits}
use Rattle.status.specs.declared.Status.{Status}

pub digit_at : (k n i d : ℕ) → i < k → get_or (digits k n) i d ≡ n / 2 ^ (3 * i) % 8
digit_at zero n i d inside = absurd (omega arith)
digit_at (suc k) n zero d inside = ap (λ m. m % 8) (omega arith)
digit_at (suc k) n (suc i) d inside =
    digit_at k (n / 8) i d (omega arith)
    ∙ ap (λ m. m % 8) (div-div-eq-div-mul n 8 (2 ^ (3 * i)) ∙ ap (λ m. n / m) (sym (pow-add 2 3 (3 * i)) ∙ ap (λ m. 2 ^ m) (omega arith)))

-- a digit more behind a number
abbrev pub behind : ℕ → Status → ℕ
behind n s = n * 8 + code_of s

written_onto : (ss more : List Status) → fold behind 0 (fold (λ r s. s ∷ r) more ss) ≡ fold behind (octal (map code_of ss)) more
written_onto [] more = refl
written_onto (s ∷ ss) more = written_onto ss (s ∷ more) ∙ ap (λ n. fold behind n more) (omega arith)

pub written : (ss : List Status) → fold behind 0 (reverse ss) ≡ octal (map code_of ss)
written ss = written_onto ss []

pub digit_behind : (k n c : ℕ) → n < 8 ^ k → c < 8 → n * 8 + c < 8 ^ (k + 1)
digit_behind k n c small one = rw add-one (omega (arith, pow-suc 8 k))

pub seven_digits : (k n : ℕ) → n < 8 ^ k → k < 8 → n < 8 ^ 7
seven_digits k n small few =
    let before : k ≤ 7 = omega arith in
    let most : 8 ^ k ≤ 8 ^ 7 = pow-le-pow_right (lit< tt) before in
    omega arith
