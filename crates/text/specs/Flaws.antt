-- The number, the place, the code and the words of each refusal of an input or a line.
use Rattle.std.specs.Prelude.{ℕ, List, codes}
use Rattle.text.specs.declared.flaw.Flaw.{Flaw}
use Rattle.text.specs.declared.flaw.Flaw.TheVariants.{LongInput, LongLine, NoDigit, OddLength, BadCode, WrongLength, NoTime, OutOfRange}

abbrev pub number_and_place : Flaw → ℕ × ℕ
number_and_place LongInput = (0x18, 32768)
number_and_place LongLine = (0x11, 64)
number_and_place (NoDigit place) = (0x12, place)
number_and_place (OddLength length) = (0x13, length)
number_and_place BadCode = (0x14, 0)
number_and_place (WrongLength code length) = (0x15, length)
number_and_place (NoTime code place) = (0x16, place)
number_and_place (OutOfRange code place) = (0x17, place)

-- the code that the answer begins with: the line's, or 0 where the line has none
abbrev pub code_of : Flaw → ℕ
code_of LongInput = 0
code_of LongLine = 0
code_of (NoDigit place) = 0
code_of (OddLength length) = 0
code_of BadCode = 0
code_of (WrongLength code length) = code
code_of (NoTime code place) = code
code_of (OutOfRange code place) = code

-- what is wrong, in words
abbrev pub words_of : Flaw → List ℕ
words_of LongInput = codes "the input has more than 32768 bytes"
words_of LongLine = codes "more than 64 characters"
words_of (NoDigit place) = codes "no digit 0 to 9 or a to f"
words_of (OddLength length) = codes "an odd number of digits"
words_of BadCode = codes "no code, an unknown one, or one out of turn"
words_of (WrongLength code length) = codes "a length that is wrong for the code"
words_of (NoTime code place) = codes "no time of the kind"
words_of (OutOfRange code place) = codes "out of range"
