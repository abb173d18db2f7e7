-- The place of every refusal of a line is at most 64.
use Rattle.std.proofs.Common.{◌≡◌, ℕ, ◌+◌, ◌*◌, ◌%◌, ◌<◌, ◌≤◌, Bool, true, false, cond, eqb, ltb, List, [], ◌∷◌, length, get_or, take, drop, Some, None, Ok, Err, Option, Result, sym, refl, subst, arith}
use Rattle.std.specs.Option.{ok_or}
use Rattle.std.specs.Result.{result_and}
use Rattle.std.proofs.lemmas.Bool.{ltb-false}
use Rattle.std.proofs.lemmas.List.Quantifiers.{position-Some}
use Rattle.big_endian.specs.Numbers.{worth}
use Rattle.text.specs.declared.flaw.Flaw.{Flaw}
use Rattle.text.specs.declared.flaw.Flaw.TheVariants.{LongLine, NoDigit, OddLength, BadCode, WrongLength, NoTime, OutOfRange}
use Rattle.text.specs.Flaws.{number_and_place}
use Rattle.digits.specs.Hex.{no_digit, refused_at, checked, paired, decoded}
use Rattle.digits.proofs.Round.{half_read, accepted_short}
use Rattle.commands.specs.declared.command.Code.{Code}
use Rattle.commands.specs.declared.command.Code.TheVariants as codes
use Rattle.commands.specs.Codes.{effect_kind, time_kind, code_of}
use Rattle.commands.specs.Frames.{Forms, and_then, of_length, opening_of, number_of, entry_of, question_of, command_of, command_in, command}

-- whatever refuses has a place of at most 64
abbrev Near : {A : Type 0} → Result A Flaw → Type 0
Near r = (f : Flaw) → r ≡ Err f → (number_and_place f).1 ≤ 64

near_ok : {A : Type 0} (a : A) → Near {A = A} (Ok a)
near_ok a f e = let z : ◌≡◌ {A = ℕ} 0 1 = cc in absurd (omega arith)

near_err : {A : Type 0} (f : Flaw) → (number_and_place f).1 ≤ 64 → Near {A = A} (Err f)
near_err f h g e = let same : f ≡ g = cc in subst (λ x. (number_and_place x).1 ≤ 64) same h

near_cond : {A : Type 0} (b : Bool) (x y : Result A Flaw) → (b ≡ true → Near x) → (b ≡ false → Near y) → Near (cond b x y)
near_cond true x y p q = p refl
near_cond false x y p q = q refl

near_then : {A B : Type 0} (r : Result A Flaw) (next : A → Result B Flaw) → Near r → ((a : A) → Near (next a)) → Near (and_then r next)
near_then (Ok a) next p q = q a
near_then (Err g) next p q = near_err g (p g refl)

near_or : {A : Type 0} (o : Option A) (f : Flaw) → (number_and_place f).1 ≤ 64 → Near (ok_or o f)
near_or None f h = near_err f h
near_or (Some a) f h = near_ok a

near_length : (code n : ℕ) (body : List ℕ) → length body < 32 → Near (of_length code n body)
near_length code n body short = near_cond (eqb (length body) n) (Ok tt) (Err (WrongLength code (2 * (length body + 1)))) (λ _. near_ok tt) (λ _. near_err (WrongLength code (2 * (length body + 1))) (omega arith))

-- ---- digits

near_digit : (n : ℕ) (bad : Option ℕ) → n ≤ 64 → ((p : ℕ) → bad ≡ Some p → p < n) → Near (refused_at bad)
near_digit n None short inside = near_ok tt
near_digit n (Some p) short inside = near_err (NoDigit p) (let h = inside p refl in omega arith)

near_both : {A : Type 0} (r : Result (Unit {0}) Flaw) (s : Result A Flaw) → Near r → Near s → Near (result_and r s)
near_both (Ok u) s p q = q
near_both (Err g) s p q = near_err g (p g refl)

near_decoded : (cs : List ℕ) → Near (decoded cs)
near_decoded cs =
    near_both (checked cs) (Ok (paired cs))
    (near_cond (ltb 64 (length cs)) (Err LongLine) (result_and (refused_at (no_digit cs)) (cond (eqb (length cs % 2) 0) (Ok tt) (Err (OddLength (length cs)))))
    (λ _. near_err LongLine (omega arith))
    (λ long. let short = ltb-false 64 (length cs) long in
    near_both (refused_at (no_digit cs)) (cond (eqb (length cs % 2) 0) (Ok tt) (Err (OddLength (length cs))))
    (near_digit (length cs) (no_digit cs) short (λ p e. (position-Some _ cs p 0 e).0))
    (near_cond (eqb (length cs % 2) 0) (Ok tt) (Err (OddLength (length cs))) (λ _. near_ok tt) (λ _. near_err (OddLength (length cs)) short))))
    (near_ok (paired cs))

-- ---- frames

near_number : (code : ℕ) (body : List ℕ) → length body < 32 → Near (number_of code body)
near_number code body short = near_then (of_length code 2 body) (λ _. Ok (worth (take 2 body))) (near_length code 2 body short) (λ _. near_ok (worth (take 2 body)))

near_opening : (code : ℕ) (body : List ℕ) → length body < 32 → Near (opening_of code body)
near_opening code body short =
    near_then (of_length code 4 body) _ (near_length code 4 body short) (λ _.
    near_then (ok_or (effect_kind (get_or body 0 0)) (OutOfRange code 2)) _ (near_or (effect_kind (get_or body 0 0)) (OutOfRange code 2) (omega arith)) (λ e.
    near_then (ok_or (time_kind (get_or body 1 0)) (OutOfRange code 4)) _ (near_or (time_kind (get_or body 1 0)) (OutOfRange code 4) (omega arith)) (λ t. near_ok _)))

module _ {P T : Type 0} (k : Forms P T) where
  near_question : (code : ℕ) (body : List ℕ) → length body < 32 → Near (question_of k.time code body)
  near_question code body short =
      near_then (of_length code 10 body) _ (near_length code 10 body short) (λ _.
      near_then (ok_or (k.time (worth (take 8 (drop 2 body)))) (NoTime code 6)) _ (near_or (k.time (worth (take 8 (drop 2 body)))) (NoTime code 6) (omega arith)) (λ t. near_ok _))

  near_entry : (code : ℕ) (body : List ℕ) → length body < 32 → Near (entry_of k code body)
  near_entry code body short =
      near_then (of_length code (8 + k.size (drop 8 body)) body) _ (near_length code (8 + k.size (drop 8 body)) body short) (λ _.
      near_then (ok_or (k.time (worth (take 8 body))) (NoTime code 2)) _ (near_or (k.time (worth (take 8 body))) (NoTime code 2) (omega arith)) (λ t.
      near_then (ok_or (k.parsed (drop 8 body)) (OutOfRange code 18)) _ (near_or (k.parsed (drop 8 body)) (OutOfRange code 18) (omega arith)) (λ p. near_ok _)))

  near_command : (opened : Bool) (code : Code) (body : List ℕ) → length body < 32 → Near (command_of k opened code body)
  near_command false codes.Open body short = near_then (opening_of 1 body) _ (near_opening 1 body short) (λ o. near_ok _)
  near_command false codes.Enter body short = near_err BadCode (omega arith)
  near_command false codes.Withdraw body short = near_err BadCode (omega arith)
  near_command false codes.State body short = near_err BadCode (omega arith)
  near_command false codes.Latest body short = near_err BadCode (omega arith)
  near_command false codes.Count body short = near_err BadCode (omega arith)
  near_command true codes.Open body short = near_err BadCode (omega arith)
  near_command true codes.Enter body short = near_then (entry_of k 16 body) _ (near_entry 16 body short) (λ e. near_ok _)
  near_command true codes.Withdraw body short = near_then (number_of 17 body) _ (near_number 17 body short) (λ n. near_ok _)
  near_command true codes.State body short = near_then (question_of k.time 32 body) _ (near_question 32 body short) (λ q. near_ok _)
  near_command true codes.Latest body short = near_then (question_of k.time 33 body) _ (near_question 33 body short) (λ q. near_ok _)
  near_command true codes.Count body short = near_then (number_of 34 body) _ (near_number 34 body short) (λ n. near_ok _)

  near_frame : (opened : Bool) (bs : List ℕ) → length bs ≤ 32 → Near (command_in k opened bs)
  near_frame opened [] short = near_err BadCode (omega arith)
  near_frame opened (b ∷ body) short =
      near_then (ok_or (code_of b) BadCode) (λ code. command_of k opened code body) (near_or (code_of b) BadCode (omega arith)) (λ code. near_command opened code body (omega arith))

  near_read : (cs : List ℕ) (r : Result (List ℕ) Flaw) (opened : Bool) → r ≡ decoded cs → Near (and_then r (command_in k opened))
  near_read cs (Ok bs) opened is = near_frame opened bs (let half = half_read cs bs is in let short = accepted_short cs bs is in omega arith)
  near_read cs (Err g) opened is = near_err g (near_decoded cs g (sym is))

  pub place_near : (opened : Bool) (cs : List ℕ) → Near (command k opened cs)
  place_near opened cs = near_read cs (decoded cs) opened refl
