-- What a ledger shows is answered and changed as the reference ledger's beliefs are.
use Rattle.std.proofs.Common.{◌≡◌, ℕ, ◌+◌, ◌-◌, ◌<◌, ◌≤◌, true, false, List, [], ◌∷◌, ◌++◌, length, get_or, None, Ok, Err, Result, sym, refl, ap, ◌∙◌, subst, arith}
use Rattle.std.proofs.lemmas.List.{length-append}
use Rattle.std.proofs.lemmas.Bool.{cond-true, cond-false}
use Rattle.effects.specs.declared.Effect as effect
use Rattle.times.specs.declared.Time as time
use Rattle.cells.specs.declared.Cell.{Cell}
use Rattle.store.specs.declared.fault.Fault.{Fault}
use Rattle.store.specs.Meaning.{Meaning, claimed, with_cells}
use Rattle.reference.specs.declared.Operation.{Operation}
use Rattle.reference.specs.Beliefs.{Kinds, Belief, kinds, entered, without}
use Rattle.calls.specs.declared.call.Call.{Call}
use Rattle.calls.specs.declared.call.Call.TheVariants.{Enter, Withdraw}
use Rattle.calls.specs.declared.answer.Answer.TheVariants.{Changed}
use Rattle.calls.specs.declared.refusal.Refusal.{Refusal}
use Rattle.calls.specs.declared.refusal.Refusal.TheVariants.{Full, NoOperation, NoBelief, Store}
use Rattle.calls.specs.Verdict.{Beliefs, asked, has, latest_belief, Verdict, keeps, makes, granted, verdict, claim_of}
use Rattle.calls.proofs.Deciding.{asked_found, asked_none, not_full, full}
use Rattle.tree.specs.Reading.{read_from}
use Rattle.law.specs.Runs.{View, Grows, Outcome, Step}
use Rattle.ledger.specs.declared.Row.{Row}
use Rattle.ledger.specs.Shown.{beliefs_of, view_of}
use Rattle.ledger.proofs.RowLists.{length_rows, row_at}

module _ {E St T : Type 0} (e : effect.Ghosts E St) (t : time.Ghosts T) (m : Meaning) (rows : List (Row T)) (latest : ℕ) (inside : latest < length rows) where
  -- the operations of a row's belief
  abbrev pub read_row : Row T → Belief E T
  read_row row = read_from e t m.cells row.root

  abbrev pub beliefs : Beliefs E T
  beliefs = (view_of e t m rows latest).beliefs

  pub length_beliefs : length beliefs ≡ latest + 1
  unfolding beliefs_of
  length_beliefs = length_rows rows latest inside read_row

  pub belief_at : (b : ℕ) (d : Row T) → b ≤ latest → get_or beliefs b [] ≡ read_row (get_or rows b d)
  unfolding beliefs_of
  belief_at b d l = row_at rows latest inside read_row b d [] l

  pub latest_at : (d : Row T) → latest_belief beliefs ≡ read_row (get_or rows latest d)
  latest_at d = ap (λ n. get_or beliefs (n - 1) []) length_beliefs ∙ ap (λ n. get_or beliefs n []) (omega arith) ∙ belief_at latest d (omega arith)

  -- a question
  pub asks : {A : Type 0} (show : Belief E T → A) (b : ℕ) (d : Row T) → b ≤ latest → asked beliefs b show ≡ Ok (show (read_row (get_or rows b d)))
  asks show b d l = asked_found beliefs b show (omega (arith, length_beliefs)) ∙ ap (λ x. Ok (show x)) (belief_at b d l)

  pub asks_none : {A : Type 0} (show : Belief E T → A) (b : ℕ) → latest < b → asked beliefs b show ≡ Err (NoBelief b)
  asks_none show b l = asked_none beliefs b show (omega (arith, length_beliefs))

  -- the operation that an entry makes
  abbrev pub new_op : T → E → Operation E T
  new_op at effect = record { number = latest + 1; time = at; effect = effect }

  pub entry_verdict : (claim : Result (Unit {0}) Fault) (at : T) (effect : E) (d : Row T) → latest < 1023 → verdict (kinds e t) beliefs (Enter at effect) claim ≡ granted claim (entered (kinds e t) (new_op at effect) (read_row (get_or rows latest d)))
  entry_verdict claim at effect d l =
      not_full beliefs _ (omega (arith, length_beliefs))
      ∙ ap (λ n. granted claim (entered (kinds e t) (record { number = n; time = at; effect = effect }) (latest_belief beliefs))) length_beliefs
      ∙ ap (λ b. granted claim (entered (kinds e t) (new_op at effect) b)) (latest_at d)

  pub withdrawal_verdict : (claim : Result (Unit {0}) Fault) (n : ℕ) (d : Row T) → latest < 1023 → has n (read_row (get_or rows latest d)) ≡ true → verdict (kinds e t) beliefs (Withdraw n) claim ≡ granted claim (without n (read_row (get_or rows latest d)))
  withdrawal_verdict claim n d l found =
      not_full beliefs _ (omega (arith, length_beliefs))
      ∙ cond-true (has n (latest_belief beliefs)) _ _ (ap (has n) (latest_at d) ∙ found)
      ∙ ap (λ b. granted claim (without n b)) (latest_at d)

  pub entry_full : (claim : Result (Unit {0}) Fault) (at : T) (effect : E) → 1023 ≤ latest → verdict (kinds e t) beliefs (Enter at effect) claim ≡ keeps (Err Full)
  entry_full claim at effect l = full beliefs _ (omega (arith, length_beliefs))

  pub entry_refused : (at : T) (effect : E) (f : Fault) → latest < 1023 → claimed m 42 ≡ Err f → verdict (kinds e t) beliefs (Enter at effect) (claimed m 42) ≡ keeps (Err (Store f))
  entry_refused at effect f l is =
      let d : Row T = record { root = 0; entered = None; count = 0 } in
      entry_verdict (claimed m 42) at effect d l ∙ ap (λ c. granted c (entered (kinds e t) (new_op at effect) (read_row (get_or rows latest d)))) is

  pub withdrawal_refused : (n : ℕ) (d : Row T) (f : Fault) → latest < 1023 → has n (read_row (get_or rows latest d)) ≡ true → claimed m 42 ≡ Err f → verdict (kinds e t) beliefs (Withdraw n) (claimed m 42) ≡ keeps (Err (Store f))
  withdrawal_refused n d f l found is = withdrawal_verdict (claimed m 42) n d l found ∙ ap (λ c. granted c (without n (read_row (get_or rows latest d)))) is

  pub withdrawal_full : (claim : Result (Unit {0}) Fault) (n : ℕ) → 1023 ≤ latest → verdict (kinds e t) beliefs (Withdraw n) claim ≡ keeps (Err Full)
  withdrawal_full claim n l = full beliefs _ (omega (arith, length_beliefs))

  pub withdrawal_missing : (claim : Result (Unit {0}) Fault) (n : ℕ) (d : Row T) → latest < 1023 → has n (read_row (get_or rows latest d)) ≡ false → verdict (kinds e t) beliefs (Withdraw n) claim ≡ keeps (Err (NoOperation n))
  withdrawal_missing claim n d l missing = not_full beliefs _ (omega (arith, length_beliefs)) ∙ cond-false (has n (latest_belief beliefs)) _ _ (ap (has n) (latest_at d) ∙ missing)

  -- a call that the reference ledger refuses
  pub refused_step : (c : Call E T) (r : Refusal) → verdict (kinds e t) beliefs c (claimed m (claim_of c)) ≡ keeps (Err r) → Step (kinds e t) c (Err r) (view_of e t m rows latest) (view_of e t m rows latest)
  refused_step c r is =
      let v = view_of e t m rows latest in
      let P : Verdict E T St → Type 0 = λ x. Outcome x (claim_of c) (Err r) v v in
      subst P (sym is) (refl, refl)

module _ {E T St : Type 0} (k : Kinds E T St) where
  view_is : (w : View E T) (bs : Beliefs E T) (m : Meaning) → w.beliefs ≡ bs → w.store ≡ m → w ≡ record { beliefs = bs; store = m }
  view_is w bs m p q = ap (λ x. record { beliefs = x; store = w.store }) p ∙ ap (λ x. record { beliefs = bs; store = x }) q

  -- a change that the reference ledger accepts: one belief more, and as many cells as are answered
  pub made_step : (c : Call E T) (v : View E T) (belief : Belief E T) (n : Meaning) (new : List Cell) → verdict k v.beliefs c (claimed v.store (claim_of c)) ≡ makes belief → n ≡ with_cells v.store new → length new ≤ claim_of c →
      (number cells : ℕ) (before after : View E T) → before ≡ v → after.beliefs ≡ v.beliefs ++ (belief ∷ []) → after.store ≡ n → number ≡ length v.beliefs → cells ≡ length n.cells - length v.store.cells → Step k c (Ok (Changed (number, cells))) before after
  made_step c v belief n new made gained few number cells before after before_is beliefs_are store_is number_is cells_are =
      let count : cells ≡ length new = omega (arith, ap (λ x. length x.cells) gained, length-append v.store.cells new) in
      let P : Verdict E T St → Type 0 = λ x. Outcome x (claim_of c) (Ok (Changed (number, cells))) v after in
      let grows : Grows {S = St} belief (claim_of c) (Ok (Changed (number, cells))) v after = record {
        gained = new;
        few = few;
        answer = ap (λ x. Ok (Changed (x, cells))) number_is ∙ ap (λ x. Ok (Changed (length v.beliefs, x))) count;
        after = view_is after (v.beliefs ++ (belief ∷ [])) (with_cells v.store new) beliefs_are (store_is ∙ gained);
      } in
      subst (λ u. Step k c (Ok (Changed (number, cells))) u after) (sym before_is) (subst P (sym made) grows)
