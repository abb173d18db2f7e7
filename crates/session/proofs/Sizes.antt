-- How long the lines of answers are, and how long the lines of commands are at least.
use Rattle.std.proofs.Common.{◌≡◌, ℕ, ◌+◌, ◌*◌, ◌≤◌, List, [], ◌∷◌, ◌++◌, length, Some, None, Ok, Err, ap, ◌∙◌, arith, lit≤, length-append}
use Rattle.text.specs.declared.flaw.Flaw.{Flaw}
use Rattle.digits.specs.declared.line.Line.{Line}
use Rattle.digits.specs.Hex.{encoded}
use Rattle.digits.proofs.Round.{length_encoded}
use Rattle.calls.specs.declared.answer.Answer.TheVariants.{Changed, InState, Newest, Counted}
use Rattle.commands.specs.declared.command.Command.{Command}
use Rattle.commands.specs.declared.command.Command.TheVariants.{Open, Enter, Withdraw, State, Latest, Count}
use Rattle.commands.specs.Frames as frames
use Rattle.answers.specs.Lines.{Shown, flaw_bytes, answer_bytes}
use Rattle.law.specs.Runs.{Reply}
use Rattle.session.specs.Saying.{line_of, written}

-- a line of the output has two digits a byte, and a newline
pub length_line : (bytes : List ℕ) → length (line_of bytes) ≡ 2 * length bytes + 1
length_line bytes = length-append (encoded bytes) (10 ∷ []) ∙ ap (λ n. n + 1) (length_encoded bytes)

-- an answer has at most 13 bytes: latest answers a code, 00, 01, an operation and a time
pub answer_short : {S T : Type 0} (k : Shown S T) (code : ℕ) (a : Reply S T) → length (answer_bytes k code a) ≤ 13
answer_short k code (Ok (Changed made)) = lit≤ tt
answer_short k code (Ok (InState s)) = lit≤ tt
answer_short k code (Ok (Newest None)) = lit≤ tt
answer_short k code (Ok (Newest (Some o))) = lit≤ tt
answer_short k code (Ok (Counted n)) = lit≤ tt
answer_short k code (Err r) = lit≤ tt

-- so the line of an answer has at most 27 bytes
pub answer_line_short : {S T : Type 0} (k : Shown S T) (code : ℕ) (a : Reply S T) (line : Line) → line ≡ encoded (answer_bytes k code a) → length (written (Some line)) ≤ 27
answer_line_short k code a line is =
    let same = ap (λ ds. length (ds ++ (10 ∷ []))) is in
    omega (arith, same, length_line (answer_bytes k code a), answer_short k code a)

-- and that of a flaw 9
pub flaw_line_short : (flaw : Flaw) (line : Line) → line ≡ encoded (flaw_bytes flaw) → length (written (Some line)) ≤ 9
flaw_line_short flaw line is =
    let same = ap (λ ds. length (ds ++ (10 ∷ []))) is in
    omega (arith, same, length_line (flaw_bytes flaw))

-- a command has at least 3 bytes
frame_long : {P T : Type 0} (f : frames.Forms P T) (c : Command P T) → 3 ≤ length (frames.frame f c)
frame_long f (Open o) = lit≤ tt
frame_long f (Enter t p) = omega arith
frame_long f (Withdraw n) = lit≤ tt
frame_long f (State b t) = lit≤ tt
frame_long f (Latest b t) = lit≤ tt
frame_long f (Count b) = lit≤ tt

-- so the line of a command has room for its answer
pub command_long : {P T : Type 0} (f : frames.Forms P T) (c : Command P T) (line : List ℕ) → frames.written f c ≡ line → 6 ≤ length line
command_long f c line is = omega (arith, ap length is, length_encoded (frames.frame f c), frame_long f c)
