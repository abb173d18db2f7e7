-- What is written for calls to a ledger over a new table.
use Rattle.std.specs.Prelude.{◌≡◌, ℕ, min, List, [], map, length}
use Rattle.effects.specs.declared.Effect as effect
use Rattle.times.specs.declared.Time as time
use Rattle.reference.specs.Beliefs.{kinds}
use Rattle.bases.specs.Bases.{base, most_cells}
use Rattle.law.specs.Runs.{Reply, View}
use Rattle.law.specs.Law.{Promise}
use Rattle.bench_calls.specs.declared.CallNumbers.{CallNumbers}
use Rattle.bench_calls.specs.declared.ReplyNumbers.{ReplyNumbers}
use Rattle.bench_calls.specs.Numbers.{calls_in, reply_numbers, replaced}

module _ {E St T : Type 0} (e : effect.Ghosts E St) (t : time.Ghosts T) (capacity : ℕ) (asked : List CallNumbers) (before after : List ReplyNumbers) (n : ℕ) where
  -- The calls were one run of a ledger over a new table, which keeps the promise; the first n replies are written, as many as have a place.
  pub record Answered : Type 0 where
    pub replies : List (Reply St T)
    pub view : View E T
    pub promise : Promise (kinds e t) (base [] (min capacity most_cells)) (calls_in e t asked) replies view
    pub count : n ≡ min (length replies) (length before)
    pub written : after ≡ replaced n (map (reply_numbers e t) replies) before

  -- answered; or memory was wanting, and nothing is written
  pub data Outcome : Type 0 where
    answered : Answered → Outcome
    wanting : n ≡ 0 → after ≡ before → Outcome
