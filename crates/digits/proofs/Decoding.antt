-- What the checks of a line say, and its bytes pair by pair.
use Rattle.std.proofs.Common.{◌≡◌, ℕ, zero, suc, ◌+◌, ◌*◌, ◌/◌, ◌%◌, ◌≤◌, Bool, true, false, cond, List, [], ◌∷◌, ◌++◌, length, get_or, drop, map, Some, None, Ok, Err, Option, Result, sym, refl, ap, ◌∙◌, append-nil, arith}
use Rattle.std.specs.Result.{result_and}
use Rattle.std.proofs.lemmas.List.{drop_all}
use Rattle.std.proofs.lemmas.Bool.{ltb-false, eqb-true}
use Rattle.std.specs.Simd.{first_chunks}
use Rattle.text.specs.declared.flaw.Flaw.{Flaw}
use Rattle.text.specs.declared.flaw.Flaw.TheVariants.{LongLine, OddLength}
use Rattle.digits.specs.Hex.{value, no_digit, refused_at, checked, paired, decoded}

-- what a line is that passed the checks
pub record Passed (cs : List ℕ) : Type 0 where
  pub short : length cs ≤ 64
  pub digits : no_digit cs ≡ None
  pub even : length cs % 2 ≡ 0

all_three : (long : Bool) (bad : Option ℕ) (even : Bool) (n : ℕ) → ◌≡◌ {A = Result (Unit {0}) Flaw} (cond long (Err LongLine) (result_and (refused_at bad) (cond even (Ok tt) (Err (OddLength n))))) (Ok tt) → (long ≡ false) × (bad ≡ None) × (even ≡ true)
all_three true bad even n e = let z : ◌≡◌ {A = ℕ} 0 1 = cc in absurd (omega arith)
all_three false (Some p) even n e = let z : ◌≡◌ {A = ℕ} 0 1 = cc in absurd (omega arith)
all_three false None false n e = let z : ◌≡◌ {A = ℕ} 0 1 = cc in absurd (omega arith)
all_three false None true n e = (refl, refl, refl)

pub passed : (cs : List ℕ) → Ok tt ≡ checked cs → Passed cs
passed cs e = let three = all_three _ _ _ (length cs) (sym e) in record {
  short = ltb-false 64 (length cs) three.0;
  digits = three.1;
  even = eqb-true (length cs % 2) 0 three.2;
}

-- the byte of a pair of digits
abbrev pub pair_worth : List ℕ → ℕ
pair_worth pair = value (get_or pair 0 0) * 16 + value (get_or pair 1 0)

-- the bytes of the first pairs
pub paired_by_two : (n : ℕ) (cs : List ℕ) → length cs ≡ 2 * n → map pair_worth (first_chunks 2 n cs) ≡ paired cs
paired_by_two zero [] long = refl
paired_by_two zero (c ∷ cs) long = absurd (omega arith)
paired_by_two (suc n) [] long = absurd (omega arith)
paired_by_two (suc n) (c ∷ []) long = absurd (omega arith)
paired_by_two (suc n) (c ∷ d ∷ cs) long = ap (λ l. (value c * 16 + value d) ∷ l) (paired_by_two n cs (omega arith))

-- all pairs are read
pub all_read : (cs bs : List ℕ) (pairs : List (List ℕ)) (i : ℕ) → Ok tt ≡ checked cs → pairs ≡ first_chunks 2 (length cs / 2) cs → length pairs ≤ i →
    bs ++ map pair_worth (drop i pairs) ≡ map pair_worth pairs → Ok bs ≡ decoded cs
all_read cs bs pairs i ok cut far before =
    let even = (passed cs ok).even in
    let whole : bs ≡ map pair_worth pairs = sym (append-nil bs) ∙ sym (ap (λ l. bs ++ map pair_worth l) (drop_all i pairs far)) ∙ before in
    ap Ok (whole ∙ ap (map pair_worth) cut ∙ paired_by_two (length cs / 2) cs (omega arith)) ∙ ap (λ r. result_and r (Ok (paired cs))) ok
