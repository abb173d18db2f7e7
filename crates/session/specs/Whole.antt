-- What is written for the whole of an input: for the lines up to an accepted opening, and then by an open record.
use Rattle.std.specs.Prelude.{◌≡◌, ℕ, false, List, [], ◌∷◌, ◌++◌, Some, None, Ok, Err, Option, Result}
use Rattle.payloads.specs.contracts.counters.CounterPayload.TheImpl.{ghosts as counter_payloads}
use Rattle.times.specs.contracts.clock.kind.ClockTime.TheImpl.{ghosts as clocks}
use Rattle.text.specs.declared.flaw.Flaw.{Flaw}
use Rattle.text.specs.declared.flaw.Flaw.TheVariants.{BadCode}
use Rattle.text.specs.Cut.{Line, Part, remark, frame, part}
use Rattle.commands.specs.declared.command.Opening.{Opening}
use Rattle.commands.specs.declared.command.Command.{Command}
use Rattle.commands.specs.declared.command.Command.TheVariants.{Open, Enter, Withdraw, State, Latest, Count}
use Rattle.commands.specs.Frames.{forms, command}
use Rattle.answers.specs.Lines as answers
use Rattle.session.specs.Saying.{line_of}

-- an opening among commands
abbrev pub opening_by : {P T : Type 0} → Result (Command P T) Flaw → Result Opening Flaw
opening_by (Ok (Open o)) = Ok o
opening_by (Ok (Enter t p)) = Err BadCode
opening_by (Ok (Withdraw n)) = Err BadCode
opening_by (Ok (State b t)) = Err BadCode
opening_by (Ok (Latest b t)) = Err BadCode
opening_by (Ok (Count b)) = Err BadCode
opening_by (Err flaw) = Err flaw

-- the opening that a frame asks for; before it nothing that has a kind is read, so any kinds will do
abbrev pub opening_in : List ℕ → Result Opening Flaw
opening_in line = opening_by (command (forms counter_payloads clocks) false line)

-- an accepted opening is answered by its code and 00, and any other frame by its refusal
abbrev pub opened_by : Result Opening Flaw → List ℕ × Option Opening
opened_by (Ok o) = (line_of (0x01 ∷ (0x00 ∷ [])), Some o)
opened_by (Err flaw) = (line_of (answers.flaw_bytes flaw), None)

-- what is written for a line while the record is not open, and the opening that it asks for
abbrev pub heard_closed : Part → List ℕ × Option Opening
heard_closed (remark l) = ([], None)
heard_closed (frame l) = opened_by (opening_in l.bytes)

-- a line, and then the others, unless it opened the record
abbrev pub unless_opened : List ℕ × Option Opening → List ℕ × Option (Opening × List Line) → List Line → List ℕ × Option (Opening × List Line)
unless_opened (written, None) (more, found) ls = (written ++ more, found)
unless_opened (written, Some o) later ls = (written, Some (o, ls))

-- what is written up to an accepted opening, its answer included, and the opening with the lines after it, if there is one
abbrev pub until_opening : List Line → List ℕ × Option (Opening × List Line)
until_opening [] = ([], None)
until_opening (l ∷ ls) = unless_opened (heard_closed (part l)) (until_opening ls) ls

-- the opening, if there is one, with the lines that are left
abbrev pub with_left : Option Opening → List Line → Option (Opening × List Line)
with_left None left = None
with_left (Some o) left = Some (o, left)

-- The output `after` goes on from `before` by what is written up to the opening that was found, with these lines left.
pub record UpTo (whole : List ℕ × Option (Opening × List Line)) (found : Option Opening) (left : List Line) (before after : List ℕ) : Type 0 where
  pub written : after ≡ before ++ whole.0
  pub found_is : whole.1 ≡ with_left found left
