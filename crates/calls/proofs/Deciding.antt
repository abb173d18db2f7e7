-- What the verdict comes to where its tests are known.
use Rattle.std.proofs.Common.{◌≡◌, ℕ, ◌<◌, ◌≤◌, ltb, [], length, get_or, Ok, Err}
use Rattle.std.proofs.lemmas.Bool.{cond-true, cond-false, lt-ltb, le-ltb}
use Rattle.reference.specs.Beliefs.{Belief}
use Rattle.calls.specs.declared.refusal.Refusal.TheVariants.{Full, NoBelief}
use Rattle.calls.specs.Verdict.{Beliefs, asked, latest_number, Verdict, keeps, unless_full}

-- a question on a belief that there is, and on one that there is not
pub asked_found : {A E T : Type 0} (bs : Beliefs E T) (b : ℕ) (show : Belief E T → A) → b < length bs → asked bs b show ≡ Ok (show (get_or bs b []))
asked_found bs b show l = cond-true (ltb b (length bs)) _ _ (lt-ltb b (length bs) l)

pub asked_none : {A E T : Type 0} (bs : Beliefs E T) (b : ℕ) (show : Belief E T → A) → length bs ≤ b → asked bs b show ≡ Err (NoBelief b)
asked_none bs b show l = cond-false (ltb b (length bs)) _ _ (le-ltb b (length bs) l)

-- a change below the last belief, and at it
pub not_full : {E T S : Type 0} (bs : Beliefs E T) (change : Verdict E T S) → latest_number bs < 1023 → unless_full bs change ≡ change
not_full bs change l = cond-true (ltb (latest_number bs) 1023) _ _ (lt-ltb (latest_number bs) 1023 l)

pub full : {E T S : Type 0} (bs : Beliefs E T) (change : Verdict E T S) → 1023 ≤ latest_number bs → unless_full bs change ≡ keeps (Err Full)
full bs change l = cond-false (ltb (latest_number bs) 1023) _ _ (le-ltb (latest_number bs) 1023 l)
