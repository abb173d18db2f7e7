-- The answers of a ledger have belief and operation numbers, counts and places of 16 bits.
use Rattle.std.proofs.Common.{◌≡◌, ℕ, ◌^◌, ◌<◌, ◌≤◌, ltb, [], ◌∷◌, length, get_or, Some, None, Ok, Err, fold, Option, Result, sym, refl, subst, arith}
use Rattle.std.proofs.ByRecursion.{All-get_or, all_kept_by}
use Rattle.std.proofs.lemmas.Bool.{cond_both, ltb-true}
use Rattle.store.specs.declared.fault.Fault.{Fault}
use Rattle.store.specs.Meaning.{claimed}
use Rattle.reference.specs.Beliefs.{Kinds, Belief, until, state, latest, count}
use Rattle.calls.specs.declared.call.Call.{Call}
use Rattle.calls.specs.declared.call.Call.TheVariants.{Enter, Withdraw, State, Latest, Count}
use Rattle.calls.specs.declared.answer.Answer.{Answer}
use Rattle.calls.specs.declared.answer.Answer.TheVariants.{InState, Newest, Counted}
use Rattle.calls.specs.declared.refusal.Refusal.{Refusal}
use Rattle.calls.specs.Verdict.{Beliefs, Verdict, keeps, makes, granted, told, asked, has, latest_number, latest_belief, verdict, claim_of}
use Rattle.calls.specs.Widths.{Narrow, Sent, Fits}
use Rattle.calls.proofs.Places.{refusal_out}
use Rattle.law.specs.Runs.{Reply, View, Outcome, Step}
use Rattle.law.proofs.Sorting.{Below}
use Rattle.law.proofs.Following.{Sound, Proper}

module _ {E T S : Type 0} (k : Kinds E T S) where
  -- a verdict's good answer fits, and so does the number of the belief that it makes
  abbrev Fine : Beliefs E T → Verdict E T S → Type 0
  Fine bs (keeps (Ok x)) = Fits {S = S} {T = T} (Ok x)
  Fine bs (keeps (Err r)) = Unit {0}
  Fine bs (makes b) = length bs < 2 ^ 16

  fine_granted : (bs : Beliefs E T) (claim : Result (Unit {0}) Fault) (b : Belief E T) → length bs ≤ 1024 → Fine bs (granted claim b)
  fine_granted bs (Ok u) b room = omega arith
  fine_granted bs (Err f) b room = tt

  fine_asked : {A : Type 0} (bs : Beliefs E T) (b : ℕ) (show : Belief E T → A) (answer : A → Answer S T) → (b < length bs → Fits {S = S} {T = T} (Ok (answer (show (get_or bs b []))))) → Fine bs (keeps (told answer (asked bs b show)))
  fine_asked {A} bs b show answer fits =
      let P : Result A Refusal → Type 0 = λ r. Fine bs (keeps (told answer r)) in
      cond_both (ltb b (length bs)) _ _ P (λ l. fits (ltb-true b (length bs) l)) (λ _. tt)

  -- the last of some operations numbered below n, or else x
  fits_last : (n : ℕ) → n ≤ 1024 → (x : Option (ℕ × T)) (b : Belief E T) → Below n b → Fits {S = S} {T = T} (Ok (Newest x)) → Fits {S = S} {T = T} (Ok (Newest (fold (λ _ o. Some (o.number, o.time)) x b)))
  fits_last n few x [] h fits = fits
  fits_last n few x (o ∷ os) h fits = fits_last n few (Some (o.number, o.time)) os h.1 (omega (arith, h.0))

  fine : (bs : Beliefs E T) (c : Call E T) (claim : Result (Unit {0}) Fault) → Sound k bs → Fine bs (verdict k bs c claim)
  fine bs (Enter t e) claim h = cond_both (ltb (latest_number bs) 1023) _ _ (Fine bs) (λ _. fine_granted bs claim _ h.room) (λ _. tt)
  fine bs (Withdraw n) claim h =
      cond_both (ltb (latest_number bs) 1023) _ _ (Fine bs)
      (λ _. cond_both (has n (latest_belief bs)) _ _ (Fine bs) (λ _. fine_granted bs claim _ h.room) (λ _. tt))
      (λ _. tt)
  fine bs (State b t) claim h = fine_asked bs b (λ x. state k x t) InState (λ _. tt)
  fine bs (Latest b t) claim h =
      fine_asked bs b (λ x. latest k x t) Newest
      (λ l.
      let proper = All-get_or (Proper k (length bs)) bs b [] l h.proper in
      fits_last (length bs) h.room None (until k t (get_or bs b [])) (all_kept_by (λ o. k.upto o.time t) _ (get_or bs b []) proper.1) tt)
  fine bs (Count b) claim h = fine_asked bs b count Counted (λ l. omega (arith, (All-get_or (Proper k (length bs)) bs b [] l h.proper).2, h.room))

  fits_outcome : (x : Verdict E T S) (n : ℕ) (a : Reply S T) (v w : View E T) → ((r : Refusal) → x ≡ keeps (Err r) → Sent r) → Fine v.beliefs x → Outcome x n a v w → Fits a
  fits_outcome (keeps (Ok x)) n a v w sent good o = subst Fits (sym o.0) good
  fits_outcome (keeps (Err r)) n a v w sent good o = subst Fits (sym o.0) (sent r refl)
  fits_outcome (makes b) n a v w sent good o = subst Fits (sym o.answer) good

  pub fits_step : (c : Call E T) (a : Reply S T) (v w : View E T) → Sound k v.beliefs → Narrow c → Step k c a v w → Fits a
  fits_step c a v w h narrow s =
      let claim = claimed v.store (claim_of c) in
      fits_outcome (verdict k v.beliefs c claim) (claim_of c) a v w (λ r. refusal_out k v.beliefs v.store c r narrow) (fine v.beliefs c claim h) s
