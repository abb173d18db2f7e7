-- The numbers of calls and answers that frames and lines hold in 2 bytes.
use Rattle.std.specs.Prelude.{◌≡◌, ◌^◌, ◌<◌, Some, None, Ok, Err, Result, ◌≢◌}
use Rattle.reference.specs.Beliefs.{Kinds}
use Rattle.store.specs.Meaning.{Meaning, claimed}
use Rattle.calls.specs.declared.call.Call.{Call}
use Rattle.calls.specs.declared.call.Call.TheVariants.{Enter, Withdraw, State, Latest, Count}
use Rattle.calls.specs.declared.answer.Answer.{Answer}
use Rattle.calls.specs.declared.answer.Answer.TheVariants.{Changed, InState, Newest, Counted}
use Rattle.calls.specs.declared.refusal.Refusal.{Refusal}
use Rattle.calls.specs.Refusals.{number_and_place}
use Rattle.calls.specs.Verdict.{Beliefs, verdict, keeps, claim_of}

-- a call as frames have it: operation and belief numbers of 16 bits
abbrev pub Narrow : {E T : Type 0} → Call E T → Type 0
Narrow (Enter t e) = Unit {0}
Narrow (Withdraw n) = n < 2 ^ 16
Narrow (State b t) = b < 2 ^ 16
Narrow (Latest b t) = b < 2 ^ 16
Narrow (Count b) = b < 2 ^ 16

-- a refusal that goes out: its place has 16 bits, and it is not that of a missing cell
abbrev pub Sent : Refusal → Type 0
Sent r = ((number_and_place r).1 < 2 ^ 16) × ((number_and_place r).0 ≢ 0x33)

-- an answer as lines have it: belief and operation numbers, counts and places of 16 bits
abbrev pub Fits : {S T : Type 0} → Result (Answer S T) Refusal → Type 0
Fits (Ok (Changed made)) = made.0 < 2 ^ 16
Fits (Ok (InState s)) = Unit {0}
Fits (Ok (Newest None)) = Unit {0}
Fits (Ok (Newest (Some o))) = o.0 < 2 ^ 16
Fits (Ok (Counted n)) = n < 2 ^ 16
Fits (Err r) = Sent r

-- Whatever the beliefs and the store: a refused call, as frames have it, is refused by a refusal that goes out.
abbrev pub PlacesFit : Type 0 → Type 0 → Type 0 → Type 0
PlacesFit E T S =
    (k : Kinds E T S) (bs : Beliefs E T) (m : Meaning) (c : Call E T) (r : Refusal)
    → Narrow c → verdict k bs c (claimed m (claim_of c)) ≡ keeps (Err r) → Sent r
