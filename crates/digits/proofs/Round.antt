-- Bytes written as digits read back as the bytes, and digits that are read are written again as they were.
use Rattle.std.proofs.Common.{◌≡◌, ℕ, ◌+◌, ◌*◌, ◌/◌, ◌%◌, ◌<◌, ◌≤◌, cond, eqb, List, [], ◌∷◌, length, get_or, is_none, Some, None, Ok, Err, Option, Result, unwrap_or, sym, refl, ap, ◌∙◌, subst, arith, w8, Fits}
use Rattle.std.specs.List.{position_from}
use Rattle.std.specs.Int.Digits.{AllBelowBase}
use Rattle.std.specs.Result.{result_and}
use Rattle.std.proofs.ByRecursion.{All-from_get_or}
use Rattle.std.proofs.lemmas.Iterator.Adapters.{position_from-zero}
use Rattle.std.proofs.lemmas.Bool.Decides.{nat_tests}
use Rattle.std.proofs.lemmas.Bool.{cond-true, cond-false, le-ltb, eq-eqb}
use Rattle.text.specs.declared.flaw.Flaw.{Flaw}
use Rattle.text.specs.declared.flaw.Flaw.TheVariants.{OddLength}
use Rattle.digits.specs.Hex.{digit, value, refused_at, checked, paired, decoded, digit_of, encoded}
use Rattle.digits.proofs.Decoding.{passed}

-- the first character that is no digit, if the first of all stands at i
abbrev no_digit_from : ℕ → List ℕ → Option ℕ
no_digit_from i cs = position_from (λ c. is_none (digit c)) i cs

digit_digit : (v : ℕ) → v < 16 → digit (digit_of v) ≡ Some v
digit_digit v h = grind (arith, nat_tests)

digit_is : (c v : ℕ) → digit c ≡ Some v → digit_of v ≡ c
digit_is c v e = grind (arith, nat_tests)

digit_below : (c v : ℕ) → digit c ≡ Some v → v < 16
digit_below c v e = grind (arith, nat_tests)

value_digit : (v : ℕ) → v < 16 → value (digit_of v) ≡ v
value_digit v h = ap (λ o. unwrap_or o 0) (digit_digit v h)

pub length_encoded : (bs : List ℕ) → length (encoded bs) ≡ 2 * length bs
length_encoded [] = refl
length_encoded (b ∷ bs) = let e = length_encoded bs in omega arith

paired_encoded : (bs : List ℕ) → AllBelowBase 256 bs → paired (encoded bs) ≡ bs
paired_encoded [] u = refl
paired_encoded (b ∷ bs) u =
    let below = u.0 in
    let high = value_digit (b / 16) (omega arith) in
    let low = value_digit (b % 16) (omega arith) in
    let whole : value (digit_of (b / 16)) * 16 + value (digit_of (b % 16)) ≡ b = ap (λ x. x * 16 + value (digit_of (b % 16))) high ∙ ap (λ x. b / 16 * 16 + x) low ∙ omega arith in
    ap (λ x. x ∷ paired (encoded bs)) whole ∙ ap (λ l. b ∷ l) (paired_encoded bs u.1)

-- no two lists of bytes are written as the same digits
pub encoded_apart : (xs ys : List ℕ) → AllBelowBase 256 xs → AllBelowBase 256 ys → encoded xs ≡ encoded ys → xs ≡ ys
encoded_apart xs ys u v e = sym (paired_encoded xs u) ∙ ap paired e ∙ paired_encoded ys v

all_digits : (i : ℕ) (bs : List ℕ) → AllBelowBase 256 bs → no_digit_from i (encoded bs) ≡ None
all_digits i [] u = refl
all_digits i (b ∷ bs) u =
    let below = u.0 in
    cond-false _ _ _ (ap is_none (digit_digit (b / 16) (omega arith)))
    ∙ cond-false _ _ _ (ap is_none (digit_digit (b % 16) (omega arith)))
    ∙ all_digits (i + 1 + 1) bs u.1

-- bytes written as digits read back as the bytes
pub read_written : (bs : List ℕ) → AllBelowBase 256 bs → length bs ≤ 32 → decoded (encoded bs) ≡ Ok bs
read_written bs u short =
    let long = length_encoded bs in
    let even : checked (encoded bs) ≡ Ok tt =
    cond-false _ _ _ (le-ltb 64 (length (encoded bs)) (omega arith))
    ∙ ap (λ o. result_and (refused_at o) (cond (eqb (length (encoded bs) % 2) 0) (Ok tt) (Err (OddLength (length (encoded bs)))))) (position_from-zero _ (encoded bs) ∙ all_digits 0 bs u)
    ∙ cond-true _ _ _ (eq-eqb (length (encoded bs) % 2) 0 (omega arith)) in
    ap (λ r. result_and r (Ok (paired (encoded bs)))) even ∙ ap Ok (paired_encoded bs u)

-- a first character that is a digit
first_digit : (c : ℕ) (later : Option ℕ) (i : ℕ) (o : Option ℕ) → digit c ≡ o → cond (is_none o) (Some i) later ≡ None → (v : ℕ) × (digit c ≡ Some v) × (later ≡ None)
first_digit c later i None is e = let z : ◌≡◌ {A = ℕ} 0 1 = cc in absurd (omega arith)
first_digit c later i (Some v) is e = (v, is, e)

-- the byte that two digits stand for
pair_back : (c d v w : ℕ) → digit c ≡ Some v → digit d ≡ Some w → (digit_of ((value c * 16 + value d) / 16) ≡ c) × (digit_of ((value c * 16 + value d) % 16) ≡ d)
pair_back c d v w first second =
    let high : value c ≡ v = ap (λ o. unwrap_or o 0) first in
    let low : value d ≡ w = ap (λ o. unwrap_or o 0) second in
    let below_c = digit_below c v first in
    let below_d = digit_below d w second in
    let quotient : (value c * 16 + value d) / 16 ≡ v = omega arith in
    let remainder : (value c * 16 + value d) % 16 ≡ w = omega arith in
    (ap digit_of quotient ∙ digit_is c v first, ap digit_of remainder ∙ digit_is d w second)

encoded_paired : (i : ℕ) (cs : List ℕ) → no_digit_from i cs ≡ None → length cs % 2 ≡ 0 → encoded (paired cs) ≡ cs
encoded_paired i [] e even = refl
encoded_paired i (c ∷ []) e even = absurd (omega arith)
encoded_paired i (c ∷ d ∷ cs) e even =
    let first = first_digit c _ i (digit c) refl e in
    let second = first_digit d _ (i + 1) (digit d) refl first.2 in
    let back = pair_back c d first.0 second.0 first.1 second.1 in
    ap (λ x. x ∷ digit_of ((value c * 16 + value d) % 16) ∷ encoded (paired cs)) back.0 ∙ ap (λ x. c ∷ x ∷ encoded (paired cs)) back.1
    ∙ ap (λ l. c ∷ d ∷ l) (encoded_paired (i + 1 + 1) cs second.2 (omega arith))

ok_both : (r : Result (Unit {0}) Flaw) (bs bs' : List ℕ) → Ok bs' ≡ result_and r (Ok bs) → (Ok tt ≡ r) × (bs ≡ bs')
ok_both (Ok x) bs bs' e = (refl, cc)
ok_both (Err f) bs bs' e = let z : ◌≡◌ {A = ℕ} 0 1 = cc in absurd (omega arith)

-- digits that were read are written again as they were
pub written_read : (cs bs : List ℕ) → Ok bs ≡ decoded cs → encoded bs ≡ cs
written_read cs bs e =
    let both = ok_both (checked cs) (paired cs) bs e in
    let p = passed cs both.0 in subst (λ l. encoded l ≡ cs) both.1 (encoded_paired 0 cs (sym (position_from-zero _ cs) ∙ p.digits) p.even)

value_below : (c : ℕ) → value c < 16
value_below c = grind (arith, nat_tests)

under_paired : (cs : List ℕ) → AllBelowBase 256 (paired cs)
under_paired [] = tt
under_paired (c ∷ []) = tt
under_paired (c ∷ d ∷ cs) = let high = value_below c in let low = value_below d in (omega arith, under_paired cs)

-- what is read of digits are bytes
pub under_read : (cs bs : List ℕ) → Ok bs ≡ decoded cs → AllBelowBase 256 bs
under_read cs bs e = subst (AllBelowBase 256) (ok_both (checked cs) (paired cs) bs e).1 (under_paired cs)

-- a line that is read has at most 64 characters
pub accepted_short : (cs bs : List ℕ) → Ok bs ≡ decoded cs → length cs ≤ 64
accepted_short cs bs e = (passed cs (ok_both (checked cs) (paired cs) bs e).0).short

-- what is read of digits is half as long
pub half_read : (cs bs : List ℕ) → Ok bs ≡ decoded cs → length cs ≡ 2 * length bs
half_read cs bs e = sym (ap length (written_read cs bs e)) ∙ length_encoded bs

-- what is read of digits is at most 32 bytes
pub read_short : (cs bs : List ℕ) → Ok bs ≡ decoded cs → length bs ≤ 32
read_short cs bs e = let half = half_read cs bs e in let short = accepted_short cs bs e in omega arith

-- typed bytes are below 256
pub under_typed : (bs : List ℕ) → ((i : ℕ) → Fits w8 (get_or bs i 0)) → AllBelowBase 256 bs
under_typed bs h = All-from_get_or (λ b. b < 256) bs 0 (λ i _. let fits = h i in omega arith)
