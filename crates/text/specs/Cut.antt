-- The lines of an input.
use Rattle.std.specs.Prelude.{◌≡◌, ℕ, ◌+◌, Bool, false, cond, ◌⊎◌, List, [], ◌∷◌, ◌++◌, length, Ok, Err, Result, ◌==◌, ◌≢◌, nat_lt}
use Rattle.std.specs.List.{position_or_len}
use Rattle.text.specs.declared.flaw.Flaw.{Flaw}
use Rattle.text.specs.declared.flaw.Flaw.TheVariants.{LongInput}

-- a line: its place, the offset of its first byte in the input, and its bytes without the newline
pub record Line : Type 0 where
  pub place : ℕ
  pub bytes : List ℕ

-- one more byte in front of the first line, which then begins a place earlier
abbrev pub widened : ℕ → ℕ → List Line → List Line
widened p b [] = record { place = p; bytes = b ∷ [] } ∷ []
widened p b (l ∷ ls) = record { place = p; bytes = b ∷ l.bytes } ∷ ls

-- the lines of the bytes from place p on: a newline (10) ends a line, and no line begins at the end
abbrev pub lines_from : ℕ → List ℕ → List Line
lines_from p [] = []
lines_from p (b ∷ bs) = cond (b == 10) (record { place = p; bytes = [] } ∷ lines_from (p + 1) bs) (widened p b (lines_from (p + 1) bs))

-- how many bytes stand before the first newline, or all where there is none
abbrev pub line_length : List ℕ → ℕ
line_length bs = position_or_len (λ b. b == 10) bs

-- an input has at most 32,768 bytes
abbrev pub length_checked : List ℕ → Result (Unit {0}) Flaw
length_checked bs = cond (nat_lt 32768 (length bs)) (Err LongInput) (Ok tt)

-- whether a line begins with '#'
abbrev pub begins-# : List ℕ → Bool
begins-# [] = false
begins-# (b ∷ bs) = b == 35

-- a line is a remark or a frame
pub data Part : Type 0 where
  remark : Line → Part
  frame : Line → Part

abbrev pub part : Line → Part
part l = cond (begins-# l.bytes) (remark l) (frame l)

-- lines with a newline after each
abbrev pub joined_lines : List Line → List ℕ
joined_lines [] = []
joined_lines (l ∷ ls) = l.bytes ++ (10 ∷ joined_lines ls)

abbrev pub NoNewline : List ℕ → Type 0
NoNewline [] = Unit {0}
NoNewline (b ∷ bs) = (b ≢ 10) × NoNewline bs

-- from place p on, each line begins where the newline before it ends, and has no newline inside
abbrev pub Placed : ℕ → List Line → Type 0
Placed p [] = Unit {0}
Placed p (l ∷ ls) = (l.place ≡ p) × NoNewline l.bytes × Placed (p + length l.bytes + 1) ls

-- the lines are the whole of an input, which may lack its last newline
pub record Whole (bs : List ℕ) (ls : List Line) : Type 0 where
  pub joined : (joined_lines ls ≡ bs) ⊎ (joined_lines ls ≡ bs ++ (10 ∷ []))
  pub placed : Placed 0 ls
