-- What the descents answer of any kept tree in order.
use Rattle.std.specs.Prelude.{◌≡◌, ℕ, Bool, List, Some, None, Ok, fold, Option, Result}
use Rattle.effects.specs.declared.Effect as effect
use Rattle.times.specs.declared.Time as time
use Rattle.reference.specs.declared.Operation.{Operation}
use Rattle.reference.specs.Beliefs.{kinds, until, latest}
use Rattle.store.specs.declared.fault.Fault.{Fault}
use Rattle.store.specs.Meaning.{Meaning}
use Rattle.order.specs.Order.{Sorted, has}
use Rattle.tree.specs.Trees.{Tree, root, operations, Kept}

-- a state as the total of a side leaves it
abbrev pub acted : {E S : Type 0} → (E → S → S) → Option E → S → S
acted acts None s = s
acted acts (Some f) s = acts f s

module _ {E St T : Type 0} (e : effect.Ghosts E St) (t : time.Ghosts T) where
  -- the answer, for each kept tree in order at this root, is this of its operations
  abbrev pub Answers : {A : Type 0} → Meaning → ℕ → (List (Operation E T) → A) → Result A Fault → Type 0
  Answers m k asked answer = (s : Tree E T) → root s ≡ k → Kept e t m.cells s → Sorted (kinds e t) (operations s) → answer ≡ Ok (asked (operations s))

  -- a state carried through the operations not after a time
  abbrev pub Carries : Meaning → ℕ → T → St → Result St Fault → Type 0
  Carries m k at from answer = Answers m k (λ belief. fold (λ s o. e.acts o.effect s) from (until (kinds e t) at belief)) answer

  -- number and time of the last of these operations
  abbrev pub Lasts : Meaning → ℕ → T → Result (Option (ℕ × T)) Fault → Type 0
  Lasts m k at answer = Answers m k (λ belief. latest (kinds e t) belief at) answer

  -- whether an operation of the number and the time of x is there
  abbrev pub Finds : Meaning → ℕ → Operation E T → Result Bool Fault → Type 0
  Finds m k x answer = Answers m k (has (kinds e t) x.number x.time) answer
