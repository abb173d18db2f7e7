-- One step: it keeps the ledger as it is and notes no change, or it makes a belief.
use Rattle.std.proofs.Common.{◌≡◌, ◌≤◌, ltb, ◌⊎◌, List, length, Ok, Err, Result, refl, ap, ◌∙◌, inl, inr, arith}
use Rattle.std.proofs.lemmas.Bool.{cond_both, ltb-true}
use Rattle.store.specs.declared.fault.Fault.{Fault}
use Rattle.store.specs.Meaning.{claimed}
use Rattle.reference.specs.Beliefs.{Kinds, Belief, entered, without}
use Rattle.calls.specs.declared.call.Call.{Call}
use Rattle.calls.specs.declared.call.Call.TheVariants.{Enter, Withdraw, State, Latest, Count}
use Rattle.calls.specs.declared.answer.Answer.{Answer}
use Rattle.calls.specs.declared.answer.Answer.TheVariants.{InState, Newest, Counted}
use Rattle.calls.specs.declared.refusal.Refusal.{Refusal}
use Rattle.calls.specs.Verdict.{Beliefs, Verdict, keeps, makes, granted, told, has, latest_number, latest_belief, state_of, latest_of, count_of, verdict, claim_of}
use Rattle.law.specs.Runs.{Reply, View, Grows, Outcome, Step, Change, noted}

module _ {E T S : Type 0} (k : Kinds E T S) where
  -- b is the belief that a change makes of bs
  abbrev pub Makes : Beliefs E T → Call E T → Belief E T → Type 0
  Makes bs (Enter t e) b = b ≡ entered k (record { number = length bs; time = t; effect = e }) (latest_belief bs)
  Makes bs (Withdraw n) b = b ≡ without n (latest_belief bs)
  Makes bs (State n t) b = ⊥
  Makes bs (Latest n t) b = ⊥
  Makes bs (Count n) b = ⊥

  -- an answer that notes no change
  abbrev pub Quiet : Call E T → Reply S T → Type 0
  Quiet c a = (hs : List (Change E T)) → noted c a hs ≡ hs

  pub record Kept (c : Call E T) (a : Reply S T) (v w : View E T) : Type 0 where
    pub same : w ≡ v
    pub quiet : Quiet c a

  pub record Grown (c : Call E T) (a : Reply S T) (v w : View E T) : Type 0 where
    pub belief : Belief E T
    pub made : Makes v.beliefs c belief
    pub room : length v.beliefs ≤ 1023
    pub grows : Grows belief (claim_of c) a v w

  abbrev Apt : Beliefs E T → Call E T → Verdict E T S → Type 0
  Apt bs c (keeps a) = Quiet c a
  Apt bs c (makes b) = Makes bs c b × (length bs ≤ 1023)

  apt_granted : (bs : Beliefs E T) (c : Call E T) (claim : Result (Unit {0}) Fault) (b : Belief E T) → Makes bs c b → length bs ≤ 1023 → Apt bs c (granted claim b)
  apt_granted bs c (Ok u) b made room = (made, room)
  apt_granted bs c (Err f) b made room = λ hs. refl

  quiet_told : {A : Type 0} (c : Call E T) (answer : A → Answer S T) → ((x : A) → Quiet c (Ok (answer x))) → (r : Result A Refusal) → Quiet c (told answer r)
  quiet_told c answer q (Ok x) = q x
  quiet_told c answer q (Err r) = λ hs. refl

  apt : (bs : Beliefs E T) (c : Call E T) (claim : Result (Unit {0}) Fault) → Apt bs c (verdict k bs c claim)
  apt bs (Enter t e) claim =
      cond_both (ltb (latest_number bs) 1023) _ _ (Apt bs (Enter t e))
      (λ l. apt_granted bs (Enter t e) claim _ refl (omega (arith, ltb-true (latest_number bs) 1023 l)))
      (λ _ hs. refl)
  apt bs (Withdraw n) claim =
      cond_both (ltb (latest_number bs) 1023) _ _ (Apt bs (Withdraw n))
      (λ l. cond_both (has n (latest_belief bs)) _ _ (Apt bs (Withdraw n)) (λ _. apt_granted bs (Withdraw n) claim _ refl (omega (arith, ltb-true (latest_number bs) 1023 l))) (λ _ hs. refl))
      (λ _ hs. refl)
  apt bs (State b t) claim = quiet_told (State b t) InState (λ _ hs. refl) (state_of k bs b t)
  apt bs (Latest b t) claim = quiet_told (Latest b t) Newest (λ _ hs. refl) (latest_of k bs b t)
  apt bs (Count b) claim = quiet_told (Count b) Counted (λ _ hs. refl) (count_of bs b)

  by_verdict : (c : Call E T) (a : Reply S T) (v w : View E T) (x : Verdict E T S) → Apt v.beliefs c x → Outcome x (claim_of c) a v w → Kept c a v w ⊎ Grown c a v w
  by_verdict c a v w (keeps x) q o = inl (record { same = o.1; quiet = λ hs. ap (λ y. noted c y hs) o.0 ∙ q hs })
  by_verdict c a v w (makes b) q o = inr (record { belief = b; made = q.0; room = q.1; grows = o })

  pub by_step : (c : Call E T) (a : Reply S T) (v w : View E T) → Step k c a v w → Kept c a v w ⊎ Grown c a v w
  by_step c a v w s = by_verdict c a v w (verdict k v.beliefs c (claimed v.store (claim_of c))) (apt v.beliefs c (claimed v.store (claim_of c))) s
