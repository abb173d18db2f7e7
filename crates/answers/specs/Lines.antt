-- The bytes of each answer, and what a line tells of it.
use Rattle.std.specs.Prelude.{◌≡◌, ℕ, ◌^◌, ◌<◌, List, [], ◌∷◌, ◌++◌, Some, None, Ok, Err, Option, Result}
use Rattle.std.specs.Result.{result_map_both}
use Rattle.big_endian.specs.Numbers.{bytes_of}
use Rattle.effects.specs.declared.Effect as effect
use Rattle.times.specs.declared.Time as time
use Rattle.text.specs.declared.flaw.Flaw.{Flaw}
use Rattle.text.specs.Flaws as flaws
use Rattle.calls.specs.declared.answer.Answer.{Answer}
use Rattle.calls.specs.declared.answer.Answer.TheVariants.{Changed, InState, Newest, Counted}
use Rattle.calls.specs.declared.refusal.Refusal.{Refusal}
use Rattle.calls.specs.Refusals.{number_and_place}

-- What lines show of states S and times T: their words.
pub record Shown (S T : Type 0) : Type 0 where
  pub state : S → ℕ
  pub time : T → ℕ

abbrev pub shown : {E S T : Type 0} → effect.Ghosts E S → time.Ghosts T → Shown S T
shown e t = record { state = λ s. (e.written s).first; time = t.word }

-- a code, a refusal's number, and its place in 2 bytes
abbrev pub refused : ℕ → ℕ × ℕ → List ℕ
refused code r = code ∷ (r.0 ∷ bytes_of 2 r.1)

-- the answer to a line that asks for nothing
abbrev pub flaw_bytes : Flaw → List ℕ
flaw_bytes flaw = refused (flaws.code_of flaw) (flaws.number_and_place flaw)

-- 00 for none, or 01 with number and time of the latest operation
abbrev pub latest_body : {T : Type 0} → (T → ℕ) → Option (ℕ × T) → List ℕ
latest_body word None = 0x00 ∷ []
latest_body word (Some o) = 0x01 ∷ (bytes_of 2 o.0 ++ bytes_of 8 (word o.1))

module _ {S T : Type 0} (k : Shown S T) where
  -- the belief of a change, the word of a state, the latest operation, a count
  abbrev pub body : Answer S T → List ℕ
  body (Changed made) = bytes_of 2 made.0
  body (InState s) = bytes_of 8 (k.state s)
  body (Newest o) = latest_body k.time o
  body (Counted n) = bytes_of 2 n

  -- the answer to a command of a code
  abbrev pub answer_bytes : ℕ → Result (Answer S T) Refusal → List ℕ
  answer_bytes code (Ok answer) = code ∷ (0x00 ∷ body answer)
  answer_bytes code (Err refusal) = refused code (number_and_place refusal)

  -- numbers of 16 bits and words of 64, as lines have them
  abbrev pub Fits : Result (Answer S T) Refusal → Type 0
  Fits (Ok (Changed made)) = made.0 < 2 ^ 16
  Fits (Ok (InState s)) = k.state s < 2 ^ 64
  Fits (Ok (Newest None)) = Unit {0}
  Fits (Ok (Newest (Some o))) = o.0 < 2 ^ 16
  Fits (Ok (Counted n)) = n < 2 ^ 16
  Fits (Err refusal) = (number_and_place refusal).1 < 2 ^ 16

-- which call an answer is to: a change, a state, a latest operation or a count
abbrev pub kind_of : {S T : Type 0} → Answer S T → ℕ
kind_of (Changed made) = 0
kind_of (InState s) = 1
kind_of (Newest o) = 2
kind_of (Counted n) = 3

-- two answers that one command may get
abbrev pub SameCall : {S T : Type 0} → Result (Answer S T) Refusal → Result (Answer S T) Refusal → Type 0
SameCall (Ok a) (Ok b) = kind_of a ≡ kind_of b
SameCall (Ok a) (Err r) = Unit {0}
SameCall (Err r) b = Unit {0}

-- what a line tells of an answer: all but the cells of a change, and of a refusal number and place
abbrev pub without_cells : {S T : Type 0} → Answer S T → Answer S T
without_cells (Changed made) = Changed (made.0, 0)
without_cells (InState s) = InState s
without_cells (Newest o) = Newest o
without_cells (Counted n) = Counted n

abbrev pub told : {S T : Type 0} → Result (Answer S T) Refusal → Result (Answer S T) (ℕ × ℕ)
told r = result_map_both without_cells number_and_place r
