-- Calls and answers as numbers.
use Rattle.std.specs.Prelude.{ℕ, cond, List, [], ◌∷◌, ◌++◌, take, drop, Some, None, Ok, Err, Option, ◌==◌}
use Rattle.std.specs.Option.{option_map}
use Rattle.effects.specs.declared.Effect as effect
use Rattle.times.specs.declared.Time as time
use Rattle.calls.specs.declared.call.Call.{Call}
use Rattle.calls.specs.declared.call.Call.TheVariants.{Enter, Withdraw, State, Latest, Count}
use Rattle.calls.specs.declared.answer.Answer.TheVariants.{Changed, InState, Newest, Counted}
use Rattle.calls.specs.Refusals.{number_and_place}
use Rattle.law.specs.Runs.{Reply}
use Rattle.bench_calls.specs.declared.CallNumbers.{CallNumbers}
use Rattle.bench_calls.specs.declared.ReplyNumbers.{ReplyNumbers}

-- both of two values, where there are both
abbrev pub both : {A B C : Type 0} → (A → B → C) → Option A → Option B → Option C
both f (Some a) b = option_map (f a) b
both f None b = None

-- a value before others, or none of them
abbrev pub front : {A : Type 0} → Option A → List A → List A
front (Some a) rest = a ∷ rest
front None rest = []

-- the values at the front of a list, up to where there is none
abbrev pub map_while : {A B : Type 0} → (A → Option B) → List A → List B
map_while f [] = []
map_while f (x ∷ xs) = front (f x) (map_while f xs)

module _ {E St T : Type 0} (e : effect.Ghosts E St) (t : time.Ghosts T) where
  -- the call of numbers, if they are one's
  abbrev pub call_in : CallNumbers → Option (Call E T)
  call_in c =
      cond (c.code == 0x10) (both Enter (t.reads c.time) (e.reads (record { first = c.first; second = c.second })))
      (cond (c.code == 0x11) (Some (Withdraw c.number))
      (cond (c.code == 0x20) (option_map (State c.number) (t.reads c.time))
      (cond (c.code == 0x21) (option_map (Latest c.number) (t.reads c.time))
      (cond (c.code == 0x22) (Some (Count c.number)) None))))

  -- the calls before the first numbers that are no call's
  abbrev pub calls_in : List CallNumbers → List (Call E T)
  calls_in asked = map_while call_in asked

  -- an answer's numbers
  abbrev pub reply_numbers : Reply St T → ReplyNumbers
  reply_numbers (Ok (Changed made)) = record { refusal = 0; number = made.0; word = made.1 }
  reply_numbers (Ok (InState s)) = record { refusal = 0; number = 0; word = (e.written s).first }
  reply_numbers (Ok (Newest (Some found))) = record { refusal = 0; number = found.0; word = t.word found.1 }
  reply_numbers (Ok (Newest None)) = record { refusal = 0; number = 0; word = 0 }
  reply_numbers (Ok (Counted n)) = record { refusal = 0; number = n; word = 0 }
  reply_numbers (Err r) = record { refusal = (number_and_place r).0; number = (number_and_place r).1; word = 0 }

-- a list whose first n elements are those of another
abbrev pub replaced : {A : Type 0} → ℕ → List A → List A → List A
replaced n new before = take n new ++ drop n before
