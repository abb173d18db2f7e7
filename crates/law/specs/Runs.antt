-- Runs of a ledger over any store: calls with their answers, from one view of the ledger to another.
use Rattle.std.specs.Prelude.{◌≡◌, ℕ, ◌≤◌, List, [], ◌∷◌, ◌++◌, length, Ok, Err, Result}
use Rattle.cells.specs.declared.Cell.{Cell}
use Rattle.store.specs.Meaning.{Meaning, claimed, with_cells}
use Rattle.reference.specs.Beliefs.{Kinds, Belief}
use Rattle.calls.specs.declared.call.Call.{Call}
use Rattle.calls.specs.declared.answer.Answer.{Answer}
use Rattle.calls.specs.declared.answer.Answer.TheVariants.{Changed, InState, Newest, Counted}
use Rattle.calls.specs.declared.refusal.Refusal.{Refusal}
use Rattle.calls.specs.Verdict.{Beliefs, opening, Verdict, keeps, makes, verdict, claim_of}

-- What a call is answered.
abbrev pub Reply : Type 0 → Type 0 → Type 0
Reply S T = Result (Answer S T) Refusal

-- A ledger as its callers know it: its beliefs, and what its store means.
pub record View (E T : Type 0) : Type 0 where
  pub beliefs : Beliefs E T
  pub store : Meaning

-- a ledger just opened over a store
abbrev pub opened : {E T : Type 0} → Meaning → View E T
opened m = record { beliefs = opening; store = m }

-- The ledger v became w: one belief more, and the store gained cells, no more than were claimed, as many as the answer says.
pub record Grows {E T S : Type 0} (belief : Belief E T) (claim : ℕ) (a : Reply S T) (v w : View E T) : Type 0 where
  pub gained : List Cell
  pub few : length gained ≤ claim
  pub answer : a ≡ Ok (Changed (length v.beliefs, length gained))
  pub after : w ≡ record { beliefs = v.beliefs ++ (belief ∷ []); store = with_cells v.store gained }

-- v became w at a call answered by a, as the reference ledger's verdict has it
abbrev pub Outcome : {E T S : Type 0} → Verdict E T S → ℕ → Reply S T → View E T → View E T → Type 0
Outcome (keeps reply) claim a v w = (a ≡ reply) × (w ≡ v)
Outcome (makes belief) claim a v w = Grows belief claim a v w

module _ {E T S : Type 0} (k : Kinds E T S) where
  -- One call, its answer, and the ledger before and after it.
  abbrev pub Step : Call E T → Reply S T → View E T → View E T → Type 0
  Step c a v w = Outcome (verdict k v.beliefs c (claimed v.store (claim_of c))) (claim_of c) a v w

  -- Calls and their answers, in order, and the ledger before and after them.
  pub data Run : List (Call E T) → List (Reply S T) → View E T → View E T → Type 0 where
    rest : {v : View E T} → Run [] [] v v
    then : {c : Call E T} {a : Reply S T} {cs : List (Call E T)} {xs : List (Reply S T)} {u v w : View E T} → Step c a u v → Run cs xs v w → Run (c ∷ cs) (a ∷ xs) u w

-- An accepted change: what was called, and what it answered.
pub record Change (E T : Type 0) : Type 0 where
  pub call : Call E T
  pub belief : ℕ
  pub cells : ℕ

-- a call before the changes hs, if it is an accepted change
abbrev pub noted : {E T S : Type 0} → Call E T → Reply S T → List (Change E T) → List (Change E T)
noted c (Ok (Changed made)) hs = record { call = c; belief = made.0; cells = made.1 } ∷ hs
noted c (Ok (InState s)) hs = hs
noted c (Ok (Newest o)) hs = hs
noted c (Ok (Counted n)) hs = hs
noted c (Err r) hs = hs

-- the accepted changes among calls and their answers, in order
abbrev pub accepted : {E T S : Type 0} → List (Call E T) → List (Reply S T) → List (Change E T)
accepted [] xs = []
accepted (c ∷ cs) [] = []
accepted (c ∷ cs) (a ∷ xs) = noted c a (accepted cs xs)
