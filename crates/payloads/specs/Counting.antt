-- A counter's bytes are read as it, whatever follows them, and only they are.
use Rattle.std.specs.Prelude.{◌≡◌, ℕ, ◌^◌, ◌<◌, ◌≤◌, List, ◌++◌, length, take, drop, ℤ, pos, negsuc, ◌≤ℤ◌, Some, nat_le, refl}
use Rattle.std.proofs.Common.{sym, ap, ◌∙◌, append_assoc, arith, le→leb, leb→le, of_z, to_z, length-drop, take-append-drop}
use Rattle.std.specs.Int.Signed.{mag}
use Rattle.std.proofs.lemmas.Int.{ints}
use Rattle.std.specs.Int.{w32}
use Rattle.std.specs.Int.Digits.{AllBelowBase}
use Rattle.std.proofs.ByRecursion.{All-drop}
use Rattle.words.proofs.Giving.{given_passed, given_some}
use Rattle.big_endian.specs.Numbers.{bytes_of, worth}
use Rattle.big_endian.proofs.Numbering.{worth_bytes}
use Rattle.times.specs.Places.{twos_complement, signed}
use Rattle.times.specs.Words.{complement_small, signed_complement, complement_signed}
use Rattle.counter.specs.declared.Counter.{Counter}
use Rattle.counter.specs.Counting.{counter_of}
use Rattle.counter.specs.Made.{counter_back, counter_from}
use Rattle.payloads.specs.Counters.{counter_layout, counter_parsed}
use Rattle.payloads.specs.Fronts.{front_back, front_below, begins}

small_amount : (z : ℤ) → negsuc 999999 ≤ℤ z → z ≤ℤ pos 1000000 → mag z < 2 ^ 31
small_amount (pos n) low high = omega (arith, ints)
small_amount (negsuc n) low high = omega (arith, ints)

-- what the cast of an amount gives
pub amount_bits : (z : ℤ) → negsuc 999999 ≤ℤ z → z ≤ℤ pos 1000000 → of_z w32 (to_z w32 (of_z w32 z)) ≡ twos_complement z
amount_bits (pos n) low high = omega (arith, ints)
amount_bits (negsuc n) low high = omega (arith, ints)

pub counter_again : (c : Counter) (rest : List ℕ) → counter_parsed (counter_layout c ++ rest) ≡ Some c
counter_again c rest =
    let mags = small_amount c.amount c.least c.most in
    let floor< : c.floor.hundredths < 2 ^ 32 = omega (arith, c.floor.within) in
    let ceiling< : c.ceiling.hundredths < 2 ^ 32 = omega (arith, c.ceiling.within) in
    given_passed (nat_le 12 (length (counter_layout c ++ rest))) _ (le→leb 12 (length (counter_layout c ++ rest)) (omega arith))
    ∙ ap (λ n. counter_of (signed n) (worth (bytes_of 4 c.floor.hundredths)) (worth (bytes_of 4 c.ceiling.hundredths))) (worth_bytes 4 (twos_complement c.amount) (complement_small c.amount mags))
    ∙ ap (λ z. counter_of z (worth (bytes_of 4 c.floor.hundredths)) (worth (bytes_of 4 c.ceiling.hundredths))) (signed_complement c.amount mags)
    ∙ ap (λ n. counter_of c.amount n (worth (bytes_of 4 c.ceiling.hundredths))) (worth_bytes 4 c.floor.hundredths floor<)
    ∙ ap (λ n. counter_of c.amount c.floor.hundredths n) (worth_bytes 4 c.ceiling.hundredths ceiling<) ∙ counter_back c

pub counter_exact : (bs : List ℕ) (c : Counter) → AllBelowBase 256 bs → counter_parsed bs ≡ Some c → counter_layout c ≡ take 12 bs
counter_exact bs c u is =
    let read = given_some (nat_le 12 (length bs)) _ c is in
    let long = leb→le 12 (length bs) read.0 in
    let b1 = drop 4 bs in let b2 = drop 4 b1 in
    let u1 = All-drop (λ b. b < 256) 4 bs u in let u2 = All-drop (λ b. b < 256) 4 b1 u1 in
    let long1 : 8 ≤ length b1 = let e = length-drop 4 bs in omega arith in
    let long2 : 4 ≤ length b2 = let e = length-drop 4 b1 in omega arith in
    let from = counter_from (signed (worth (take 4 bs))) (worth (take 4 b1)) (worth (take 4 b2)) c read.1 in
    let amount : bytes_of 4 (twos_complement c.amount) ≡ take 4 bs =
    ap (λ z. bytes_of 4 (twos_complement z)) from.0 ∙ ap (bytes_of 4) (complement_signed (worth (take 4 bs)) (front_below 4 bs u (omega arith))) ∙ front_back 4 bs u (omega arith) in
    let floor : bytes_of 4 c.floor.hundredths ≡ take 4 b1 = ap (bytes_of 4) from.1 ∙ front_back 4 b1 u1 (omega arith) in
    let ceiling : bytes_of 4 c.ceiling.hundredths ≡ take 4 b2 = ap (bytes_of 4) from.2 ∙ front_back 4 b2 u2 long2 in
    let whole : counter_layout c ++ drop 4 b2 ≡ bs =
    ap (λ l. (l ++ (bytes_of 4 c.floor.hundredths ++ bytes_of 4 c.ceiling.hundredths)) ++ drop 4 b2) amount
    ∙ ap (λ l. (take 4 bs ++ (l ++ bytes_of 4 c.ceiling.hundredths)) ++ drop 4 b2) floor
    ∙ ap (λ l. (take 4 bs ++ (take 4 b1 ++ l)) ++ drop 4 b2) ceiling
    ∙ append_assoc (take 4 bs) (take 4 b1 ++ take 4 b2) (drop 4 b2)
    ∙ ap (λ l. take 4 bs ++ l) (append_assoc (take 4 b1) (take 4 b2) (drop 4 b2) ∙ ap (λ l. take 4 b1 ++ l) (take-append-drop 4 b2) ∙ take-append-drop 4 b1)
    ∙ take-append-drop 4 bs in
    begins (counter_layout c) (drop 4 b2) bs 12 whole refl

-- the counter of three numbers, read one after the other
pub counter_made : (bs : List ℕ) (a f m : ℕ) → 12 ≤ length bs → a ≡ worth (take 4 bs) → f ≡ worth (take 4 (drop 4 bs)) → m ≡ worth (take 4 (drop 4 (drop 4 bs))) →
    counter_of (signed a) f m ≡ counter_parsed bs
counter_made bs a f m long amount floor ceiling =
    ap (λ n. counter_of (signed n) f m) amount ∙ ap (λ n. counter_of (signed (worth (take 4 bs))) n m) floor
    ∙ ap (counter_of (signed (worth (take 4 bs))) (worth (take 4 (drop 4 bs)))) ceiling
    ∙ sym (given_passed (nat_le 12 (length bs)) _ (le→leb 12 (length bs) long))

-- three numbers appended one after the other
pub appended : (e₀ e₁ e₂ e₃ : List ℕ) (a b c a' b' c' : ℕ) → e₁ ≡ e₀ ++ bytes_of 4 a → e₂ ≡ e₁ ++ bytes_of 4 b → e₃ ≡ e₂ ++ bytes_of 4 c → a ≡ a' → b ≡ b' → c ≡ c' →
    e₃ ≡ e₀ ++ (bytes_of 4 a' ++ (bytes_of 4 b' ++ bytes_of 4 c'))
appended e₀ e₁ e₂ e₃ a b c a' b' c' p q r x y z =
    let first : e₁ ≡ e₀ ++ bytes_of 4 a' = p ∙ ap (λ n. e₀ ++ bytes_of 4 n) x in
    let second : e₂ ≡ e₁ ++ bytes_of 4 b' = q ∙ ap (λ n. e₁ ++ bytes_of 4 n) y in
    let third : e₃ ≡ e₂ ++ bytes_of 4 c' = r ∙ ap (λ n. e₂ ++ bytes_of 4 n) z in
    third ∙ ap (λ l. l ++ bytes_of 4 c') (second ∙ ap (λ l. l ++ bytes_of 4 b') first ∙ append_assoc e₀ (bytes_of 4 a') (bytes_of 4 b'))
    ∙ append_assoc e₀ (bytes_of 4 a' ++ bytes_of 4 b') (bytes_of 4 c')
