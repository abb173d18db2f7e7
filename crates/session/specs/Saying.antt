-- What a line says to an open record, and what is written for the lines of an input.
use Rattle.std.specs.Prelude.{ℕ, true, List, [], ◌∷◌, ◌++◌, Some, None, Ok, Err, Option, Result}
use Rattle.text.specs.declared.flaw.Flaw.{Flaw}
use Rattle.text.specs.declared.flaw.Flaw.TheVariants.{BadCode}
use Rattle.text.specs.Cut as text
use Rattle.text.specs.Cut.{Part, remark, frame, part}
use Rattle.digits.specs.declared.line.Line.{Line}
use Rattle.digits.specs.Hex.{encoded}
use Rattle.calls.specs.declared.call.Call.{Call}
use Rattle.calls.specs.declared.call.Call.TheVariants as calls
use Rattle.commands.specs.declared.command.Command.{Command}
use Rattle.commands.specs.declared.command.Command.TheVariants.{Open, Enter, Withdraw, State, Latest, Count}
use Rattle.commands.specs.Frames.{Forms, command}
use Rattle.answers.specs.Lines.{Shown, flaw_bytes, answer_bytes}
use Rattle.law.specs.Runs.{Reply}

-- bytes as a line of the output: their digits and a newline
abbrev pub line_of : List ℕ → List ℕ
line_of bytes = encoded bytes ++ (10 ∷ [])

-- the bytes of a remark or a frame
abbrev pub bytes_of : Part → List ℕ
bytes_of (remark l) = l.bytes
bytes_of (frame l) = l.bytes

-- what an answer adds to the output
abbrev pub written : Option Line → List ℕ
written None = []
written (Some line) = line ++ (10 ∷ [])

-- A line to an open record: a remark, a frame that is refused, or a call of the ledger under the code of its frame.
pub data Said (E T : Type 0) : Type 0 where
  remarks : Said E T
  flawed : Flaw → Said E T
  asks : ℕ → Call E T → Said E T

-- the call of a command; an opening is out of turn
abbrev pub asked : {E P T : Type 0} → (P → E) → Command P T → Said E T
asked entered (Open o) = flawed BadCode
asked entered (Enter t p) = asks 0x10 (calls.Enter t (entered p))
asked entered (Withdraw n) = asks 0x11 (calls.Withdraw n)
asked entered (State b t) = asks 0x20 (calls.State b t)
asked entered (Latest b t) = asks 0x21 (calls.Latest b t)
asked entered (Count b) = asks 0x22 (calls.Count b)

abbrev pub framed : {E P T : Type 0} → (P → E) → Result (Command P T) Flaw → Said E T
framed entered (Ok c) = asked entered c
framed entered (Err flaw) = flawed flaw

-- one call more, if a line asks for one
abbrev pub with_call : {E T : Type 0} → Said E T → List (Call E T) → List (Call E T)
with_call remarks cs = cs
with_call (flawed flaw) cs = cs
with_call (asks code call) cs = call ∷ cs

-- What is written for a line and for those after it, which take the replies that it leaves: nothing for a remark,
-- the refusal of a frame, or the reply to a call.
abbrev pub with_answer : {E T S : Type 0} → Shown S T → Said E T → (List (Reply S T) → List ℕ) → List (Reply S T) → List ℕ
with_answer k remarks after xs = after xs
with_answer k (flawed flaw) after xs = line_of (flaw_bytes flaw) ++ after xs
with_answer k (asks code call) after [] = after []
with_answer k (asks code call) after (x ∷ xs) = line_of (answer_bytes k code x) ++ after xs

module _ {E P T : Type 0} (entered : P → E) (f : Forms P T) where
  -- what a remark or a frame says
  abbrev pub said : Part → Said E T
  said (remark l) = remarks
  said (frame l) = framed entered (command f true l.bytes)

  -- the calls that lines ask for, in order
  abbrev pub calls_in : List text.Line → List (Call E T)
  calls_in [] = []
  calls_in (l ∷ ls) = with_call (said (part l)) (calls_in ls)

  -- what is written for lines, given the replies to their calls
  abbrev pub output : {S : Type 0} → Shown S T → List text.Line → List (Reply S T) → List ℕ
  output k [] xs = []
  output k (l ∷ ls) xs = with_answer k (said (part l)) (output k ls) xs
