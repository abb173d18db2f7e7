-- Beliefs: what was known after a change, how a change makes the next one, and what a question answers.
use Rattle.std.specs.Prelude.{ℕ, Bool, cond, not, ◌&&◌, ◌||◌, List, [], ◌∷◌, length, Some, None, fold, filter, Option, ◌==◌, nat_lt}
use Rattle.effects.specs.declared.Effect as effect
use Rattle.times.specs.declared.Time as time
use Rattle.reference.specs.declared.Operation.{Operation}

-- What the reference ledger needs of a kind of effect E with states S, and of a kind of time T.
pub record Kinds (E T S : Type 0) : Type 0 where
  pub start : S
  pub acts : E → S → S
  pub upto : T → T → Bool

abbrev pub kinds : {E T S : Type 0} → effect.Ghosts E S → time.Ghosts T → Kinds E T S
kinds e t = record { start = e.start; acts = e.acts; upto = t.upto }

-- The surviving operations, in the order of `before`. Belief 0 is empty.
abbrev pub Belief : Type 0 → Type 0 → Type 0
Belief E T = List (Operation E T)

module _ {E T S : Type 0} (k : Kinds E T S) where
  -- The order of operations: by time, and by number where times are equal.
  abbrev pub before : Operation E T → Operation E T → Bool
  before a b = not (k.upto b.time a.time) || (k.upto a.time b.time && nat_lt a.number b.number)

  -- the belief with an operation more, at its place in the order
  abbrev pub entered : Operation E T → Belief E T → Belief E T
  entered new [] = new ∷ []
  entered new (o ∷ os) = cond (before new o) (new ∷ (o ∷ os)) (o ∷ entered new os)

  -- the operations of a belief that are not after a time
  abbrev pub until : T → Belief E T → Belief E T
  until t belief = filter (λ o. k.upto o.time t) belief

  -- the start state carried, in order, through the effects of the operations not after a time
  abbrev pub state : Belief E T → T → S
  state belief t = fold (λ s o. k.acts o.effect s) k.start (until t belief)

  -- number and time of the last operation not after a time, or none
  abbrev pub latest : Belief E T → T → Option (ℕ × T)
  latest belief t = fold (λ _ o. Some (o.number, o.time)) None (until t belief)

-- the belief without the operation of a number
abbrev pub without : {E T : Type 0} → ℕ → Belief E T → Belief E T
without n belief = filter (λ o. not (o.number == n)) belief

abbrev pub count : {E T : Type 0} → Belief E T → ℕ
count belief = length belief
