-- Two answers to one command that differ in what a line tells have different lines.
use Rattle.std.proofs.Common.{◌≡◌, ℕ, ◌^◌, ◌<◌, List, get_or, take, drop, Some, None, Ok, Err, Result, sym, refl, ap, ◌∙◌, arith}
use Rattle.std.specs.Int.Digits.{AllBelowBase}
use Rattle.std.proofs.ByRecursion.{All-append}
use Rattle.big_endian.specs.Numbers.{bytes_of, worth}
use Rattle.big_endian.proofs.Numbering.{worth_bytes, under_bytes}
use Rattle.store.specs.declared.fault.Fault.TheVariants.{Allowance, Space, NoCell}
use Rattle.calls.specs.declared.answer.Answer.{Answer}
use Rattle.calls.specs.declared.answer.Answer.TheVariants.{Changed, InState, Newest, Counted}
use Rattle.calls.specs.declared.refusal.Refusal.{Refusal}
use Rattle.calls.specs.declared.refusal.Refusal.TheVariants.{Full, NoOperation, NoBelief, Store}
use Rattle.calls.specs.Refusals.{number_and_place}
use Rattle.digits.specs.Hex.{encoded}
use Rattle.digits.proofs.Round.{encoded_apart}
use Rattle.answers.specs.Lines.{Shown, body, answer_bytes, Fits, kind_of, SameCall, without_cells, told}

same_number : (m n : ℕ) → m < 2 ^ 16 → n < 2 ^ 16 → bytes_of 2 m ≡ bytes_of 2 n → m ≡ n
same_number m n hm hn e = sym (worth_bytes 2 m hm) ∙ ap worth e ∙ worth_bytes 2 n hn

same_word : (m n : ℕ) → m < 2 ^ 64 → n < 2 ^ 64 → bytes_of 8 m ≡ bytes_of 8 n → m ≡ n
same_word m n hm hn e = sym (worth_bytes 8 m hm) ∙ ap worth e ∙ worth_bytes 8 n hn

-- a refusal's number is a byte other than 00
numbered : (r : Refusal) → ((number_and_place r).0 < 256) × ((number_and_place r).0 ≡ 0 → ⊥)
numbered Full = (omega arith, λ e. omega arith)
numbered (NoOperation n) = (omega arith, λ e. omega arith)
numbered (NoBelief b) = (omega arith, λ e. omega arith)
numbered (Store (Allowance n)) = (omega arith, λ e. omega arith)
numbered (Store (Space n)) = (omega arith, λ e. omega arith)
numbered (Store (NoCell n)) = (omega arith, λ e. omega arith)

module _ {S T : Type 0} (k : Shown S T) (states : (s t : S) → k.state s ≡ k.state t → s ≡ t) (times : (t u : T) → k.time t ≡ k.time u → t ≡ u) (small : (t : T) → k.time t < 2 ^ 64) where
  other_call : {X : Type 0} (m n : ℕ) → (m ≡ n → ⊥) → m ≡ n → X
  other_call m n not e = absurd (not e)

  body_apart : (a b : Answer S T) → kind_of a ≡ kind_of b → Fits k (Ok a) → Fits k (Ok b) → body k a ≡ body k b → without_cells a ≡ without_cells b
  body_apart (Changed m) (Changed n) same f g e = ap (λ x. Changed (x, 0)) (same_number m.0 n.0 f g e)
  body_apart (Changed m) (InState t) same f g e = other_call 0 1 (λ h. omega arith) same
  body_apart (Changed m) (Newest p) same f g e = other_call 0 2 (λ h. omega arith) same
  body_apart (Changed m) (Counted n) same f g e = other_call 0 3 (λ h. omega arith) same
  body_apart (InState s) (Changed n) same f g e = other_call 1 0 (λ h. omega arith) same
  body_apart (InState s) (InState t) same f g e = ap InState (states s t (same_word (k.state s) (k.state t) f g e))
  body_apart (InState s) (Newest p) same f g e = other_call 1 2 (λ h. omega arith) same
  body_apart (InState s) (Counted n) same f g e = other_call 1 3 (λ h. omega arith) same
  body_apart (Newest o) (Changed n) same f g e = other_call 2 0 (λ h. omega arith) same
  body_apart (Newest o) (InState t) same f g e = other_call 2 1 (λ h. omega arith) same
  body_apart (Newest None) (Newest None) same f g e = refl
  body_apart (Newest None) (Newest (Some p)) same f g e = other_call 0 1 (λ h. omega arith) (ap (λ l. get_or l 0 0) e)
  body_apart (Newest (Some o)) (Newest None) same f g e = other_call 1 0 (λ h. omega arith) (ap (λ l. get_or l 0 0) e)
  body_apart (Newest (Some o)) (Newest (Some p)) same f g e =
      let number = same_number o.0 p.0 f g (ap (λ l. take 2 (drop 1 l)) e) in
      let time = times o.1 p.1 (same_word (k.time o.1) (k.time p.1) (small o.1) (small p.1) (ap (drop 3) e)) in
      (λ i. Newest (Some (number i, time i)))
  body_apart (Newest o) (Counted n) same f g e = other_call 2 3 (λ h. omega arith) same
  body_apart (Counted m) (Changed n) same f g e = other_call 3 0 (λ h. omega arith) same
  body_apart (Counted m) (InState t) same f g e = other_call 3 1 (λ h. omega arith) same
  body_apart (Counted m) (Newest p) same f g e = other_call 3 2 (λ h. omega arith) same
  body_apart (Counted m) (Counted n) same f g e = ap Counted (same_number m n f g e)

  under_body : (a : Answer S T) → AllBelowBase 256 (body k a)
  under_body (Changed m) = under_bytes 2 m.0
  under_body (InState s) = under_bytes 8 (k.state s)
  under_body (Newest None) = (omega arith, tt)
  under_body (Newest (Some o)) = (omega arith, All-append (λ b. b < 256) (bytes_of 2 o.0) (bytes_of 8 (k.time o.1)) (under_bytes 2 o.0) (under_bytes 8 (k.time o.1)))
  under_body (Counted n) = under_bytes 2 n

  under_answer : (code : ℕ) → code < 256 → (a : Result (Answer S T) Refusal) → AllBelowBase 256 (answer_bytes k code a)
  under_answer code c (Ok a) = (c, (omega arith, under_body a))
  under_answer code c (Err r) = (c, ((numbered r).0, under_bytes 2 (number_and_place r).1))

  bytes_apart : (code : ℕ) (a b : Result (Answer S T) Refusal) → SameCall a b → Fits k a → Fits k b → answer_bytes k code b ≡ answer_bytes k code a → told b ≡ told a
  bytes_apart code (Ok a) (Ok b) same f g e = ap Ok (sym (body_apart a b same f g (sym (ap (drop 2) e))))
  bytes_apart code (Ok a) (Err r) same f g e = absurd ((numbered r).1 (ap (λ l. get_or l 1 0) e))
  bytes_apart code (Err r) (Ok b) same f g e = absurd ((numbered r).1 (sym (ap (λ l. get_or l 1 0) e)))
  bytes_apart code (Err r) (Err q) same f g e =
      let number : (number_and_place q).0 ≡ (number_and_place r).0 = ap (λ l. get_or l 1 0) e in
      let place : (number_and_place q).1 ≡ (number_and_place r).1 = same_number (number_and_place q).1 (number_and_place r).1 g f (ap (drop 2) e) in
      (λ i. Err (number i, place i))

  pub lines_apart : (code : ℕ) (a b : Result (Answer S T) Refusal) (line : List ℕ) → code < 256 → line ≡ encoded (answer_bytes k code a) → SameCall a b → Fits k a → Fits k b → encoded (answer_bytes k code b) ≡ line → told b ≡ told a
  lines_apart code a b line c is same f g e =
      bytes_apart code a b same f g (encoded_apart (answer_bytes k code b) (answer_bytes k code a) (under_answer code c b) (under_answer code c a) (e ∙ is))
