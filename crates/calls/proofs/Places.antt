-- Every refusal of a ledger has a place of 16 bits.
use Rattle.std.proofs.Common.{◌≡◌, ℕ, ◌^◌, ◌<◌, ◌≤◌, ltb, length, Ok, Err, Option, Result, subst, arith}
use Rattle.std.proofs.lemmas.Bool.{cond_both, ltb-true}
use Rattle.reference.specs.Beliefs.{Kinds, Belief, state, latest, count}
use Rattle.store.specs.declared.fault.Fault.{Fault}
use Rattle.store.specs.Meaning.{Meaning, claimed, unless}
use Rattle.calls.specs.declared.call.Call.{Call}
use Rattle.calls.specs.declared.call.Call.TheVariants.{Enter, Withdraw, State, Latest, Count}
use Rattle.calls.specs.declared.answer.Answer.{Answer}
use Rattle.calls.specs.declared.answer.Answer.TheVariants.{InState, Newest, Counted}
use Rattle.calls.specs.declared.refusal.Refusal.{Refusal}
use Rattle.calls.specs.Verdict.{Beliefs, Verdict, keeps, makes, granted, told, asked, has, latest_number, latest_belief, verdict, claim_of}
use Rattle.calls.specs.Widths.{Narrow, Sent}

module _ {E T S : Type 0} (k : Kinds E T S) where
  -- the verdict's refusal goes out, if it refuses
  abbrev Out : Verdict E T S → Type 0
  Out (keeps (Ok a)) = Unit {0}
  Out (keeps (Err r)) = Sent r
  Out (makes b) = Unit {0}

  -- a refused claim has the allowance or the space as its place, which is less than was claimed
  claim_out : (m : Meaning) (n : ℕ) (b : Belief E T) → n ≤ 2 ^ 16 → Out (granted (claimed m n) b)
  claim_out m n b small =
      let P : Option Fault → Type 0 = λ f. Out (granted (unless f tt) b) in
      cond_both (ltb m.allowance n) _ _ P
      (λ e. (omega (arith, ltb-true _ _ e), λ z. omega arith))
      (λ _. cond_both (ltb m.space n) _ _ P (λ e. (omega (arith, ltb-true _ _ e), λ z. omega arith)) (λ _. tt))

  asked_out : {A : Type 0} (bs : Beliefs E T) (b : ℕ) (show : Belief E T → A) (answer : A → Answer S T) → b < 2 ^ 16 → Out (keeps (told answer (asked bs b show)))
  asked_out {A} bs b show answer small =
      let P : Result A Refusal → Type 0 = λ r. Out (keeps (told answer r)) in
      cond_both (ltb b (length bs)) _ _ P (λ _. tt) (λ _. (small, λ z. omega arith))

  verdict_out : (bs : Beliefs E T) (m : Meaning) (c : Call E T) → Narrow c → Out (verdict k bs c (claimed m (claim_of c)))
  verdict_out bs m (Enter t e) narrow =
      cond_both (ltb (latest_number bs) 1023) _ _ Out (λ _. claim_out m 42 _ (omega arith)) (λ _. (omega arith, λ z. omega arith))
  verdict_out bs m (Withdraw n) narrow =
      cond_both (ltb (latest_number bs) 1023) _ _ Out
      (λ _. cond_both (has n (latest_belief bs)) _ _ Out (λ _. claim_out m 42 _ (omega arith)) (λ _. (narrow, λ z. omega arith)))
      (λ _. (omega arith, λ z. omega arith))
  verdict_out bs m (State b t) narrow = asked_out bs b (λ belief. state k belief t) InState narrow
  verdict_out bs m (Latest b t) narrow = asked_out bs b (λ belief. latest k belief t) Newest narrow
  verdict_out bs m (Count b) narrow = asked_out bs b count Counted narrow

  pub refusal_out : (bs : Beliefs E T) (m : Meaning) (c : Call E T) (r : Refusal) → Narrow c → verdict k bs c (claimed m (claim_of c)) ≡ keeps (Err r) → Sent r
  refusal_out bs m c r narrow refused = subst Out refused (verdict_out bs m c narrow)
