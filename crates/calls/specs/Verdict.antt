-- The reference ledger as a whole: its beliefs, what it shows to a question, and its verdict on a call.
use Rattle.std.specs.Prelude.{ℕ, ◌-◌, Bool, false, cond, ◌||◌, List, [], ◌∷◌, length, Ok, Err, Option, Result, ◌==◌, nat_lt, slice_index_or}
use Rattle.std.specs.Result.{result_map_both}
use Rattle.reference.specs.Beliefs.{Kinds, Belief, entered, without, state, latest, count}
use Rattle.store.specs.declared.fault.Fault.{Fault}
use Rattle.calls.specs.declared.call.Call.{Call}
use Rattle.calls.specs.declared.call.Call.TheVariants.{Enter, Withdraw, State, Latest, Count}
use Rattle.calls.specs.declared.answer.Answer.{Answer}
use Rattle.calls.specs.declared.answer.Answer.TheVariants.{InState, Newest, Counted}
use Rattle.calls.specs.declared.refusal.Refusal.{Refusal}
use Rattle.calls.specs.declared.refusal.Refusal.TheVariants.{Full, NoOperation, NoBelief, Store}

-- All beliefs of a ledger: belief b stands at index b, and the last is the latest.
abbrev pub Beliefs : Type 0 → Type 0 → Type 0
Beliefs E T = List (Belief E T)

-- a ledger opens with belief 0 alone
abbrev pub opening : {E T : Type 0} → Beliefs E T
opening = [] ∷ []

abbrev pub latest_number : {E T : Type 0} → Beliefs E T → ℕ
latest_number bs = length bs - 1

abbrev pub latest_belief : {E T : Type 0} → Beliefs E T → Belief E T
latest_belief bs = slice_index_or bs (latest_number bs) []

-- whether an operation of a number is in a belief
abbrev pub has : {E T : Type 0} → ℕ → Belief E T → Bool
has n [] = false
has n (o ∷ os) = o.number == n || has n os

-- what is shown of belief b, if there is one
abbrev pub asked : {A E T : Type 0} → Beliefs E T → ℕ → (Belief E T → A) → Result A Refusal
asked bs b show = cond (nat_lt b (length bs)) (Ok (show (slice_index_or bs b []))) (Err (NoBelief b))

-- The answers to the three questions.
module _ {E T S : Type 0} (k : Kinds E T S) where
  abbrev pub state_of : Beliefs E T → ℕ → T → Result S Refusal
  state_of bs b t = asked bs b (λ belief. state k belief t)

  abbrev pub latest_of : Beliefs E T → ℕ → T → Result (Option (ℕ × T)) Refusal
  latest_of bs b t = asked bs b (λ belief. latest k belief t)

abbrev pub count_of : {E T : Type 0} → Beliefs E T → ℕ → Result ℕ Refusal
count_of bs b = asked bs b count

-- what a call's function returns, as an answer
abbrev pub told : {A S T : Type 0} → (A → Answer S T) → Result A Refusal → Result (Answer S T) Refusal
told answer r = result_map_both answer (λ refusal. refusal) r

-- the cells that a call claims of the store
abbrev pub claim_of : {E T : Type 0} → Call E T → ℕ
claim_of (Enter t e) = 42
claim_of (Withdraw n) = 42
claim_of (State b t) = 0
claim_of (Latest b t) = 0
claim_of (Count b) = 0

-- What the reference ledger does at a call: it keeps its beliefs and answers, or it makes the next belief.
pub data Verdict (E T S : Type 0) : Type 0 where
  keeps : Result (Answer S T) Refusal → Verdict E T S
  makes : Belief E T → Verdict E T S

-- the next belief, if the store granted the claim
abbrev pub granted : {E T S : Type 0} → Result (Unit {0}) Fault → Belief E T → Verdict E T S
granted (Ok _) belief = makes belief
granted (Err fault) belief = keeps (Err (Store fault))

-- a change, unless the latest belief is the last that there may be
abbrev pub unless_full : {E T S : Type 0} → Beliefs E T → Verdict E T S → Verdict E T S
unless_full bs change = cond (nat_lt (latest_number bs) 1023) change (keeps (Err Full))

-- The verdict on a call, given the store's answer to its claim.
abbrev pub verdict : {E T S : Type 0} → Kinds E T S → Beliefs E T → Call E T → Result (Unit {0}) Fault → Verdict E T S
verdict k bs (Enter t e) claim = unless_full bs (granted claim (entered k (record { number = length bs; time = t; effect = e }) (latest_belief bs)))
verdict k bs (Withdraw n) claim = unless_full bs (cond (has n (latest_belief bs)) (granted claim (without n (latest_belief bs))) (keeps (Err (NoOperation n))))
verdict k bs (State b t) claim = keeps (told InState (state_of k bs b t))
verdict k bs (Latest b t) claim = keeps (told Newest (latest_of k bs b t))
verdict k bs (Count b) claim = keeps (told Counted (count_of bs b))
