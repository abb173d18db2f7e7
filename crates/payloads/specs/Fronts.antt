-- Numbers at the front of bytes, and a payload from its bytes and what follows them.
use Rattle.std.specs.Prelude.{◌≡◌, ℕ, ◌*◌, ◌^◌, ◌<◌, ◌≤◌, List, ◌++◌, length, take}
use Rattle.std.proofs.Common.{sym, ap, ◌∙◌}
use Rattle.std.specs.Int.Digits.{AllBelowBase}
use Rattle.std.proofs.ByRecursion.{All-take}
use Rattle.std.proofs.lemmas.List.{length-take-le, take_at}
use Rattle.big_endian.specs.Numbers.{bytes_of, worth}
use Rattle.big_endian.proofs.Numbering.{bytes_worth, worth_below}

pub front_back : (width : ℕ) (bs : List ℕ) → AllBelowBase 256 bs → width ≤ length bs → bytes_of width (worth (take width bs)) ≡ take width bs
front_back width bs u long = bytes_worth width (take width bs) (length-take-le width bs long) (All-take (λ b. b < 256) width bs u)

pub front_below : (width : ℕ) (bs : List ℕ) → AllBelowBase 256 bs → width ≤ length bs → worth (take width bs) < 2 ^ (8 * width)
front_below width bs u long = worth_below width (take width bs) (length-take-le width bs long) (All-take (λ b. b < 256) width bs u)

-- bytes begin with a part that has the length n
pub begins : (part left bs : List ℕ) (n : ℕ) → part ++ left ≡ bs → length part ≡ n → part ≡ take n bs
begins part left bs n whole long = sym (take_at part left n long) ∙ ap (take n) whole
