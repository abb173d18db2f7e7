-- Numbers in bytes of any width, most significant byte first.
use Rattle.std.specs.Prelude.{◌≡◌, ℕ, zero, suc, ◌+◌, ◌*◌, ◌/◌, ◌%◌, ◌^◌, ◌<◌, List, [], ◌∷◌, ◌++◌, length, take, drop, Some, None, Option}
use Rattle.std.specs.Borrow.{Bor}
use Rattle.std.specs.Int.Digits.{number_from_digits}

-- the lowest bytes of n, as many as the width
abbrev pub bytes_of : (width n : ℕ) → List ℕ
bytes_of zero n = []
bytes_of (suc zero) n = n % 256 ∷ []
bytes_of (suc (suc width)) n = (n / 2 ^ (8 * suc width) % 256) ∷ bytes_of (suc width) n

-- the number that bytes write
abbrev pub worth : List ℕ → ℕ
worth bytes = number_from_digits 256 bytes

-- the number that the first bytes write, as many as the width, and the bytes after them, or None where there are fewer;
-- `number` is the number that a value is
abbrev pub Splits : {T : Type 0} → (T → ℕ) → (width : ℕ) → List ℕ → Option (T × Bor (List ℕ)) → Type 0
Splits number width bytes None = length bytes < width
Splits number width bytes (Some p) = (number p.0 ≡ worth (take width bytes)) × (p.1.now ≡ drop width bytes) × (length p.1.now + width ≡ length bytes)

-- bytes with a part written over them from place `at` on
unfoldable pub overwritten : List ℕ → ℕ → List ℕ → List ℕ
overwritten bytes at part = take at bytes ++ (part ++ drop (at + length part) bytes)
