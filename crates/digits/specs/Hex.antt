-- Bytes as digits, two to a byte, and why characters are no bytes.
use Rattle.std.specs.Prelude.{ℕ, ◌+◌, ◌-◌, ◌*◌, ◌/◌, ◌%◌, cond, ◌&&◌, List, [], ◌∷◌, length, is_none, Some, None, Ok, Err, Option, Result, ◌==◌, nat_le, nat_lt}
use Rattle.std.specs.List.{position}
use Rattle.std.specs.Option.{unwrap_or}
use Rattle.std.specs.Result.{result_and}
use Rattle.text.specs.declared.flaw.Flaw.{Flaw}
use Rattle.text.specs.declared.flaw.Flaw.TheVariants.{LongLine, NoDigit, OddLength}

-- the value of a digit: 0 to 9 (48 to 57) or a to f (97 to 102)
abbrev pub digit : ℕ → Option ℕ
digit c = cond (nat_le 48 c && nat_le c 57) (Some (c - 48)) (cond (nat_le 97 c && nat_le c 102) (Some (c - 87)) None)

abbrev pub value : ℕ → ℕ
value c = unwrap_or (digit c) 0

-- where the first character that is no digit stands
abbrev pub no_digit : List ℕ → Option ℕ
no_digit cs = position (λ c. is_none (digit c)) cs

abbrev pub refused_at : Option ℕ → Result (Unit {0}) Flaw
refused_at None = Ok tt
refused_at (Some place) = Err (NoDigit place)

-- the three checks of a line: at most 64 characters, all digits, even in number
abbrev pub checked : List ℕ → Result (Unit {0}) Flaw
checked cs =
    cond (nat_lt 64 (length cs)) (Err LongLine) (result_and (refused_at (no_digit cs)) (cond (length cs % 2 == 0) (Ok tt) (Err (OddLength (length cs)))))

-- the bytes that pairs of digits stand for
abbrev pub paired : List ℕ → List ℕ
paired [] = []
paired (c ∷ []) = []
paired (c ∷ d ∷ cs) = (value c * 16 + value d) ∷ paired cs

-- the bytes that a line stands for, or why it stands for none
abbrev pub decoded : List ℕ → Result (List ℕ) Flaw
decoded cs = result_and (checked cs) (Ok (paired cs))

-- the digit of a value below 16
abbrev pub digit_of : ℕ → ℕ
digit_of v = cond (nat_lt v 10) (48 + v) (87 + v)

-- the digits that bytes are written as
abbrev pub encoded : List ℕ → List ℕ
encoded [] = []
encoded (b ∷ bs) = digit_of (b / 16) ∷ digit_of (b % 16) ∷ encoded bs
