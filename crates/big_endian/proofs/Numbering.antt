-- A number's bytes read back as it, and bytes are those of the number that they write: once over the width.
use Rattle.std.proofs.Common.{◌≡◌, ℕ, zero, suc, ◌+◌, ◌*◌, ◌/◌, ◌%◌, ◌^◌, ◌<◌, ◌≤◌, List, [], ◌∷◌, length, get_or, take, sym, refl, ap, ◌∙◌, subst, mod-eq_of_lt, mul_assoc, add-mul, div-one, arith, lit<}
use Rattle.std.specs.Int.Digits.{number_from_digits_after, AllBelowBase}
use Rattle.std.proofs.ByRecursion.{All-from_get_or, All-take}
use Rattle.std.proofs.lemmas.List.{length-take-le}
use Rattle.std.proofs.lemmas.Nat.{mod-pow-add, pow-add, mul-add-lt, div-mul-add, mod-mul-add}
use Rattle.big_endian.specs.Numbers.{worth, bytes_of}

-- one byte more in front
pub bytes_more : (width n : ℕ) → bytes_of (suc width) n ≡ (n / 2 ^ (8 * width) % 256) ∷ bytes_of width n
bytes_more zero n = ap (λ m. m % 256 ∷ []) (sym (div-one n))
bytes_more (suc width) n = refl

pub length_bytes : (width n : ℕ) → length (bytes_of width n) ≡ width
length_bytes zero n = refl
length_bytes (suc width) n = ap length (bytes_more width n) ∙ ap suc (length_bytes width n)

pub under_bytes : (width n : ℕ) → AllBelowBase 256 (bytes_of width n)
under_bytes zero n = tt
under_bytes (suc width) n = subst (AllBelowBase 256) (sym (bytes_more width n)) (omega arith, under_bytes width n)

next_pow : (k : ℕ) → 2 ^ (8 * suc k) ≡ 256 * 2 ^ (8 * k)
next_pow k = let e : 8 * suc k ≡ 8 + 8 * k = omega arith in ap (λ i. 2 ^ i) e ∙ pow-add 2 8 (8 * k)

-- what a number's bytes write after the number a
after_bytes : (a width n : ℕ) → number_from_digits_after 256 a (bytes_of width n) ≡ a * 2 ^ (8 * width) + n % 2 ^ (8 * width)
after_bytes a zero n = omega arith
after_bytes a (suc k) n =
    let q = n / 2 ^ (8 * k) % 256 in
    let up : 8 * suc k ≡ 8 + 8 * k = omega arith in
    let low : n % 2 ^ (8 * suc k) ≡ q * 2 ^ (8 * k) + n % 2 ^ (8 * k) = ap (λ i. n % 2 ^ i) up ∙ mod-pow-add n 8 (8 * k) in
    let high : a * 2 ^ (8 * suc k) ≡ a * 256 * 2 ^ (8 * k) = ap (λ x. a * x) (next_pow k) ∙ sym (mul_assoc a 256 (2 ^ (8 * k))) in
    let parts = add-mul (a * 256) q (2 ^ (8 * k)) in
    let rest = after_bytes (a * 256 + q) k n in
    let more = ap (number_from_digits_after 256 a) (bytes_more k n) in
    omega arith

-- a number that fits the width reads back from its bytes
pub worth_bytes : (width n : ℕ) → n < 2 ^ (8 * width) → worth (bytes_of width n) ≡ n
worth_bytes width n fits = let e = after_bytes 0 width n in let m = mod-eq_of_lt fits in omega arith

-- what bytes write after the number a: a in front, and below it a number of their width
after : (a : ℕ) (bytes : List ℕ) → AllBelowBase 256 bytes → (r : ℕ) × (r < 2 ^ (8 * length bytes)) × (number_from_digits_after 256 a bytes ≡ a * 2 ^ (8 * length bytes) + r)
after a [] under = (0, lit< tt, omega arith)
after a (b ∷ bytes) under =
    let m = 2 ^ (8 * length bytes) in
    let rest = after (a * 256 + b) bytes under.1 in
    let up = next_pow (length bytes) in
    let wide : a * 2 ^ (8 * suc (length bytes)) ≡ a * 256 * m = ap (λ x. a * x) up ∙ sym (mul_assoc a 256 m) in
    let parts = add-mul (a * 256) b m in
    let below = mul-add-lt b m rest.0 256 under.0 rest.1 in
    (b * m + rest.0, omega arith, omega (arith, rest.2))

bytes_after : (a : ℕ) (bytes : List ℕ) → AllBelowBase 256 bytes → bytes_of (length bytes) (number_from_digits_after 256 a bytes) ≡ bytes
bytes_after a [] under = refl
bytes_after a (b ∷ bytes) under =
    let m = 2 ^ (8 * length bytes) in
    let rest = after (a * 256 + b) bytes under.1 in
    let top : number_from_digits_after 256 (a * 256 + b) bytes / m ≡ a * 256 + b = ap (λ x. x / m) rest.2 ∙ div-mul-add (a * 256 + b) m rest.0 rest.1 in
    let first : number_from_digits_after 256 (a * 256 + b) bytes / m % 256 ≡ b = ap (λ x. x % 256) top ∙ mod-mul-add a 256 b under.0 in
    bytes_more (length bytes) (number_from_digits_after 256 (a * 256 + b) bytes) ∙ ap (λ x. x ∷ bytes_of (length bytes) (number_from_digits_after 256 (a * 256 + b) bytes)) first ∙ ap (λ l. b ∷ l) (bytes_after (a * 256 + b) bytes under.1)

-- bytes are those of the number that they write
pub bytes_worth : (width : ℕ) (bytes : List ℕ) → length bytes ≡ width → AllBelowBase 256 bytes → bytes_of width (worth bytes) ≡ bytes
bytes_worth width bytes long under = subst (λ w. bytes_of w (worth bytes) ≡ bytes) long (bytes_after 0 bytes under)

-- bytes write a number that fits their width
pub worth_below : (width : ℕ) (bytes : List ℕ) → length bytes ≡ width → AllBelowBase 256 bytes → worth bytes < 2 ^ (8 * width)
worth_below width bytes long under = let h = after 0 bytes under in subst (λ w. worth bytes < 2 ^ (8 * w)) long (omega (arith, h.1, h.2))

-- the same of the first bytes of some
pub front_worth : (width : ℕ) (bytes : List ℕ) → width ≤ length bytes → ((i : ℕ) → get_or bytes i 0 < 256) → bytes_of width (worth (take width bytes)) ≡ take width bytes
front_worth width bytes long small =
    bytes_worth width (take width bytes) (length-take-le width bytes long) (All-take (λ b. b < 256) width bytes (All-from_get_or (λ b. b < 256) bytes 0 (λ i _. small i)))
