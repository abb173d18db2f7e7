-- The bytes of each command, and the command that bytes are, or why they are none.
use Rattle.std.specs.Prelude.{ℕ, ◌+◌, ◌*◌, ◌^◌, ◌<◌, Bool, true, false, cond, List, [], ◌∷◌, ◌++◌, length, take, drop, Ok, Err, Option, Result, ◌==◌, slice_index}
use Rattle.std.specs.Option.{ok_or}
use Rattle.big_endian.specs.Numbers.{bytes_of, worth}
use Rattle.text.specs.declared.flaw.Flaw.{Flaw}
use Rattle.text.specs.declared.flaw.Flaw.TheVariants.{BadCode, WrongLength, NoTime, OutOfRange}
use Rattle.digits.specs.Hex.{decoded, encoded}
use Rattle.times.specs.declared.Time as time
use Rattle.payloads.specs.declared.payload.Payload as payload
use Rattle.commands.specs.declared.command.Opening.{Opening}
use Rattle.commands.specs.declared.command.Command.{Command}
use Rattle.commands.specs.declared.command.Command.TheVariants.{Open, Enter, Withdraw, State, Latest, Count}
use Rattle.commands.specs.declared.command.Code.{Code}
use Rattle.commands.specs.declared.command.Code.TheVariants as codes
use Rattle.commands.specs.Codes.{effect_code, effect_kind, time_code, time_kind, code_of}

-- What frames need of a kind of payload P and a kind of time T.
pub record Forms (P T : Type 0) : Type 0 where
  pub word : T → ℕ
  pub time : ℕ → Option T
  pub layout : P → List ℕ
  pub size : List ℕ → ℕ
  pub parsed : List ℕ → Option P

abbrev pub forms : {E P S T : Type 0} → payload.Ghosts E P S → time.Ghosts T → Forms P T
forms p t = record { word = t.word; time = t.reads; layout = p.layout; size = p.size; parsed = p.parsed }

-- a value that a next step goes on with
abbrev pub and_then : {A B : Type 0} → Result A Flaw → (A → Result B Flaw) → Result B Flaw
and_then (Ok value) next = next value
and_then (Err flaw) next = Err flaw

-- Where parts stand in their frame, in bytes from 0: the kinds in an opening, time and payload in an entry, the time in a question.
abbrev pub effects_at : ℕ
effects_at = 1

abbrev pub times_at : ℕ
times_at = 2

abbrev pub entry_time_at : ℕ
entry_time_at = 1

abbrev pub payload_at : ℕ
payload_at = entry_time_at + 8

abbrev pub question_time_at : ℕ
question_time_at = 3

-- the place in the line of the byte that stands there in the frame
abbrev pub place_of : ℕ → ℕ
place_of at = 2 * at

-- the body after a code has n bytes; the place is the length of the line
abbrev pub of_length : ℕ → ℕ → List ℕ → Result (Unit {0}) Flaw
of_length code n body = cond (length body == n) (Ok tt) (Err (WrongLength code (2 * (length body + 1))))

-- the opening that a body of 4 bytes asks for
abbrev pub opening_of : ℕ → List ℕ → Result Opening Flaw
opening_of code body =
    and_then (of_length code 4 body) (λ _. and_then (ok_or (effect_kind (slice_index body 0)) (OutOfRange code (place_of effects_at))) (λ e.
    and_then (ok_or (time_kind (slice_index body 1)) (OutOfRange code (place_of times_at))) (λ t. Ok (record { effects = e; times = t; quota = worth (drop 2 body) }))))

-- the number that a body of 2 bytes is
abbrev pub number_of : ℕ → List ℕ → Result ℕ Flaw
number_of code body = and_then (of_length code 2 body) (λ _. Ok (worth (take 2 body)))

-- the belief and the time of a question
abbrev pub question_of : {T : Type 0} → (ℕ → Option T) → ℕ → List ℕ → Result (ℕ × T) Flaw
question_of time code body =
    and_then (of_length code 10 body) (λ _. and_then (ok_or (time (worth (take 8 (drop 2 body)))) (NoTime code (place_of question_time_at))) (λ t. Ok (worth (take 2 body), t)))

module _ {P T : Type 0} (k : Forms P T) where
  -- the bytes of a command: its code and its body
  abbrev pub frame : Command P T → List ℕ
  frame (Open o) = 0x01 ∷ (effect_code o.effects ∷ (time_code o.times ∷ bytes_of 2 o.quota))
  frame (Enter t p) = 0x10 ∷ (bytes_of 8 (k.word t) ++ k.layout p)
  frame (Withdraw n) = 0x11 ∷ bytes_of 2 n
  frame (State b t) = 0x20 ∷ (bytes_of 2 b ++ bytes_of 8 (k.word t))
  frame (Latest b t) = 0x21 ∷ (bytes_of 2 b ++ bytes_of 8 (k.word t))
  frame (Count b) = 0x22 ∷ bytes_of 2 b

  -- the digits of a command's line
  abbrev pub written : Command P T → List ℕ
  written c = encoded (frame c)

  -- the time and the payload of an entry
  abbrev pub entry_of : ℕ → List ℕ → Result (T × P) Flaw
  entry_of code body =
      and_then (of_length code (8 + k.size (drop 8 body)) body) (λ _. and_then (ok_or (k.time (worth (take 8 body))) (NoTime code (place_of entry_time_at))) (λ t.
      and_then (ok_or (k.parsed (drop 8 body)) (OutOfRange code (place_of payload_at))) (λ p. Ok (t, p))))

  -- the command of a code and a body, where the record is open or not: only an opening may come before it is open, and none after
  abbrev pub command_of : Bool → Code → List ℕ → Result (Command P T) Flaw
  command_of false codes.Open body = and_then (opening_of 0x01 body) (λ o. Ok (Open o))
  command_of true codes.Enter body = and_then (entry_of 0x10 body) (λ e. Ok (Enter e.0 e.1))
  command_of true codes.Withdraw body = and_then (number_of 0x11 body) (λ n. Ok (Withdraw n))
  command_of true codes.State body = and_then (question_of k.time 0x20 body) (λ q. Ok (State q.0 q.1))
  command_of true codes.Latest body = and_then (question_of k.time 0x21 body) (λ q. Ok (Latest q.0 q.1))
  command_of true codes.Count body = and_then (number_of 0x22 body) (λ n. Ok (Count n))
  command_of _ _ body = Err BadCode

  abbrev pub command_in : Bool → List ℕ → Result (Command P T) Flaw
  command_in opened [] = Err BadCode
  command_in opened (b ∷ body) = and_then (ok_or (code_of b) BadCode) (λ code. command_of opened code body)

  -- the command that a line asks for, or why it asks for none
  abbrev pub command : Bool → List ℕ → Result (Command P T) Flaw
  command opened line = and_then (decoded line) (command_in opened)

-- whether the record must be open for a command
abbrev pub wants_open : {P T : Type 0} → Command P T → Bool
wants_open (Open o) = false
wants_open (Enter t p) = true
wants_open (Withdraw n) = true
wants_open (State b t) = true
wants_open (Latest b t) = true
wants_open (Count b) = true

-- the numbers of a command have 16 bits
abbrev pub Narrow : {P T : Type 0} → Command P T → Type 0
Narrow (Open o) = o.quota < 2 ^ 16
Narrow (Enter t p) = Unit {0}
Narrow (Withdraw n) = n < 2 ^ 16
Narrow (State b t) = b < 2 ^ 16
Narrow (Latest b t) = b < 2 ^ 16
Narrow (Count b) = b < 2 ^ 16
