-- A command's bytes are read as it, and only they are.
use Rattle.std.proofs.Common.{◌≡◌, ℕ, ◌+◌, ◌*◌, ◌^◌, ◌<◌, Bool, true, false, cond, eqb, ◌⊎◌, List, [], ◌∷◌, ◌++◌, length, take, drop, Some, None, Ok, Err, Option, Result, sym, refl, ap, ◌∙◌, inl, inr, ⊎_elim, append-nil, arith}
use Rattle.std.specs.Option.{ok_or}
use Rattle.std.specs.Int.Digits.{AllBelowBase}
use Rattle.std.proofs.lemmas.Bool.{eq-eqb, eqb-true, cond-true}
use Rattle.std.proofs.ByRecursion.{All-drop}
use Rattle.std.proofs.lemmas.List.{take_all, take-append-drop, length-drop}
use Rattle.big_endian.specs.Numbers.{bytes_of, worth}
use Rattle.big_endian.proofs.Numbering.{worth_bytes, bytes_worth}
use Rattle.payloads.specs.Fronts.{front_back}
use Rattle.text.specs.declared.flaw.Flaw.{Flaw}
use Rattle.text.specs.declared.flaw.Flaw.TheVariants.{BadCode, WrongLength, NoTime, OutOfRange}
use Rattle.commands.specs.declared.command.EffectKind.{EffectKind}
use Rattle.commands.specs.declared.command.EffectKind.TheVariants.{Counter, Settings, Status}
use Rattle.commands.specs.declared.command.TimeKind.{TimeKind}
use Rattle.commands.specs.declared.command.TimeKind.TheVariants.{Clock, Place}
use Rattle.commands.specs.declared.command.Opening.{Opening}
use Rattle.commands.specs.declared.command.Command.{Command}
use Rattle.commands.specs.declared.command.Command.TheVariants.{Open, Enter, Withdraw, State, Latest, Count}
use Rattle.commands.specs.declared.command.Code.{Code}
use Rattle.commands.specs.declared.command.Code.TheVariants as codes
use Rattle.commands.specs.Codes.{effect_code, effect_kind, time_code, time_kind, code_byte, code_of}
use Rattle.commands.specs.Frames.{Forms, and_then, of_length, opening_of, number_of, entry_of, question_of, frame, command_of, command_in, wants_open, Narrow}

-- ---- what an accepted step says

accepted_cond : {A : Type 0} (b : Bool) (x y : Result A Flaw) (a : A) → Ok a ≡ cond b x y → ((b ≡ true) × (Ok a ≡ x)) ⊎ (Ok a ≡ y)
accepted_cond true x y a e = inl (refl, e)
accepted_cond false x y a e = inr e

accepted_then : {A B : Type 0} (r : Result A Flaw) (next : A → Result B Flaw) (b : B) → Ok b ≡ and_then r next → (a : A) × (Ok a ≡ r) × (Ok b ≡ next a)
accepted_then (Ok a) next b e = (a, refl, e)
accepted_then (Err f) next b e = let z : ◌≡◌ {A = ℕ} 0 1 = cc in absurd (omega arith)

accepted_or : {A : Type 0} (o : Option A) (f : Flaw) (a : A) → Ok a ≡ ok_or o f → o ≡ Some a
accepted_or None f a e = let z : ◌≡◌ {A = ℕ} 0 1 = cc in absurd (omega arith)
accepted_or (Some x) f a e = cc

accepted_length : (code n : ℕ) (body : List ℕ) (u : Unit {0}) → Ok u ≡ of_length code n body → length body ≡ n
accepted_length code n body u e = ⊎_elim (λ h. eqb-true (length body) n h.0) (λ h. let z : ◌≡◌ {A = ℕ} 0 1 = cc in absurd (omega arith)) (accepted_cond (eqb (length body) n) (Ok tt) (Err (WrongLength code (2 * (length body + 1)))) u e)

ok_same : {A : Type 0} (a b : A) → ◌≡◌ {A = Result A Flaw} (Ok a) (Ok b) → a ≡ b
ok_same a b e = cc

-- ---- numbers at the front of bytes

whole_back : (width : ℕ) (bs : List ℕ) → AllBelowBase 256 bs → length bs ≡ width → bytes_of width (worth (take width bs)) ≡ bs
whole_back width bs u long = front_back width bs u (omega arith) ∙ take_all width bs (omega arith)

number_exact : (code n : ℕ) (body : List ℕ) → AllBelowBase 256 body → Ok n ≡ number_of code body → bytes_of 2 n ≡ body
number_exact code n body u e =
    let first = accepted_then (of_length code 2 body) (λ _. Ok (worth (take 2 body))) n e in
    let long = accepted_length code 2 body first.0 first.1 in
    ap (bytes_of 2) (ok_same n (worth (take 2 body)) first.2) ∙ whole_back 2 body u long

-- ---- openings

opening_back : (e : EffectKind) (t : TimeKind) (q : ℕ) → q < 2 ^ 16 → opening_of 1 (effect_code e ∷ (time_code t ∷ bytes_of 2 q)) ≡ Ok (record { effects = e; times = t; quota = q })
opening_back Counter Clock q h = ap (λ n. Ok (record { effects = Counter; times = Clock; quota = n })) (worth_bytes 2 q h)
opening_back Counter Place q h = ap (λ n. Ok (record { effects = Counter; times = Place; quota = n })) (worth_bytes 2 q h)
opening_back Settings Clock q h = ap (λ n. Ok (record { effects = Settings; times = Clock; quota = n })) (worth_bytes 2 q h)
opening_back Settings Place q h = ap (λ n. Ok (record { effects = Settings; times = Place; quota = n })) (worth_bytes 2 q h)
opening_back Status Clock q h = ap (λ n. Ok (record { effects = Status; times = Clock; quota = n })) (worth_bytes 2 q h)
opening_back Status Place q h = ap (λ n. Ok (record { effects = Status; times = Place; quota = n })) (worth_bytes 2 q h)

effect_exact : (b : ℕ) (e : EffectKind) → effect_kind b ≡ Some e → effect_code e ≡ b
effect_exact b Counter is = grind arith
effect_exact b Settings is = grind arith
effect_exact b Status is = grind arith

time_exact : (b : ℕ) (t : TimeKind) → time_kind b ≡ Some t → time_code t ≡ b
time_exact b Clock is = grind arith
time_exact b Place is = grind arith

opening_exact : (o : Opening) (body : List ℕ) → AllBelowBase 256 body → Ok o ≡ opening_of 1 body → effect_code o.effects ∷ (time_code o.times ∷ bytes_of 2 o.quota) ≡ body
opening_exact o [] u e = let z : ◌≡◌ {A = ℕ} 0 1 = cc in absurd (omega arith)
opening_exact o (a ∷ []) u e = let z : ◌≡◌ {A = ℕ} 0 1 = cc in absurd (omega arith)
opening_exact o (a ∷ b ∷ body) u e =
    let right = accepted_then (of_length 1 4 (a ∷ b ∷ body)) _ o e in
    let long = accepted_length 1 4 (a ∷ b ∷ body) right.0 right.1 in
    let effects = accepted_then (ok_or (effect_kind a) (OutOfRange 1 2)) _ o right.2 in
    let times = accepted_then (ok_or (time_kind b) (OutOfRange 1 4)) _ o effects.2 in
    let same : o ≡ record { effects = effects.0; times = times.0; quota = worth body } = ok_same o _ times.2 in
    let first = effect_exact a effects.0 (accepted_or (effect_kind a) (OutOfRange 1 2) effects.0 effects.1) in
    let second = time_exact b times.0 (accepted_or (time_kind b) (OutOfRange 1 4) times.0 times.1) in
    let third = bytes_worth 2 body (omega arith) u.1.1 in
    ap (λ p. effect_code p.effects ∷ (time_code p.times ∷ bytes_of 2 p.quota)) same
    ∙ ap (λ x. x ∷ (time_code times.0 ∷ bytes_of 2 (worth body))) first ∙ ap (λ x. a ∷ (x ∷ bytes_of 2 (worth body))) second ∙ ap (λ l. a ∷ (b ∷ l)) third

code_exact : (b : ℕ) (code : Code) → code_of b ≡ Some code → code_byte code ≡ b
code_exact b codes.Open is = grind arith
code_exact b codes.Enter is = grind arith
code_exact b codes.Withdraw is = grind arith
code_exact b codes.State is = grind arith
code_exact b codes.Latest is = grind arith
code_exact b codes.Count is = grind arith

-- ---- over a lawful kind of payload and a lawful kind of time

module _ {P T : Type 0} (k : Forms P T)
    (small : (t : T) → k.word t < 2 ^ 64) (time_back : (t : T) → k.time (k.word t) ≡ Some t) (time_only : (w : ℕ) (t : T) → k.time w ≡ Some t → k.word t ≡ w)
    (sized : (p : P) (rest : List ℕ) → k.size (k.layout p ++ rest) ≡ length (k.layout p)) (again : (p : P) (rest : List ℕ) → k.parsed (k.layout p ++ rest) ≡ Some p)
    (exact : (bs : List ℕ) (p : P) → AllBelowBase 256 bs → k.parsed bs ≡ Some p → k.layout p ≡ take (k.size bs) bs) where
  timed : (t : T) → k.time (worth (bytes_of 8 (k.word t))) ≡ Some t
  timed t = ap k.time (worth_bytes 8 (k.word t) (small t)) ∙ time_back t

  entry_back : (t : T) (p : P) → entry_of k 16 (bytes_of 8 (k.word t) ++ k.layout p) ≡ Ok (t, p)
  entry_back t p =
      let size : k.size (k.layout p) ≡ length (k.layout p) = ap k.size (sym (append-nil (k.layout p))) ∙ sized p [] in
      let body = bytes_of 8 (k.word t) ++ k.layout p in
      ap (λ r. and_then r (λ _. and_then (ok_or (k.time (worth (bytes_of 8 (k.word t)))) (NoTime 16 2)) (λ u. and_then (ok_or (k.parsed (k.layout p)) (OutOfRange 16 18)) (λ q. Ok (u, q)))))
      (cond-true (eqb (length body) (8 + k.size (k.layout p))) (Ok tt) (Err (WrongLength 16 (2 * (length body + 1)))) (eq-eqb (length body) (8 + k.size (k.layout p)) (omega arith)))
      ∙ ap (λ o. and_then (ok_or o (NoTime 16 2)) (λ u. and_then (ok_or (k.parsed (k.layout p)) (OutOfRange 16 18)) (λ q. Ok (u, q)))) (timed t)
      ∙ ap (λ o. and_then (ok_or o (OutOfRange 16 18)) (λ q. Ok (t, q))) (ap k.parsed (sym (append-nil (k.layout p))) ∙ again p [])

  question_back : (code b : ℕ) (t : T) → b < 2 ^ 16 → question_of k.time code (bytes_of 2 b ++ bytes_of 8 (k.word t)) ≡ Ok (b, t)
  question_back code b t h =
      ap (λ o. and_then (ok_or o (NoTime code 6)) (λ u. Ok (worth (bytes_of 2 b), u))) (timed t) ∙ ap (λ n. Ok (n, t)) (worth_bytes 2 b h)

  -- a command's bytes are read as it
  pub command_back : (c : Command P T) → Narrow c → command_in k (wants_open c) (frame k c) ≡ Ok c
  command_back (Open o) h = ap (λ r. and_then r (λ p. Ok (Open p))) (opening_back o.effects o.times o.quota h)
  command_back (Enter t p) h = ap (λ r. and_then r (λ e. Ok (Enter e.0 e.1))) (entry_back t p)
  command_back (Withdraw n) h = ap (λ m. Ok (Withdraw m)) (worth_bytes 2 n h)
  command_back (State b t) h = ap (λ r. and_then r (λ q. Ok (State q.0 q.1))) (question_back 32 b t h)
  command_back (Latest b t) h = ap (λ r. and_then r (λ q. Ok (Latest q.0 q.1))) (question_back 33 b t h)
  command_back (Count b) h = ap (λ m. Ok (Count m)) (worth_bytes 2 b h)

  entry_exact : (e : T × P) (body : List ℕ) → AllBelowBase 256 body → Ok e ≡ entry_of k 16 body → bytes_of 8 (k.word e.0) ++ k.layout e.1 ≡ body
  entry_exact e body u is =
      let right = accepted_then (of_length 16 (8 + k.size (drop 8 body)) body) _ e is in
      let long = accepted_length 16 (8 + k.size (drop 8 body)) body right.0 right.1 in
      let time = accepted_then (ok_or (k.time (worth (take 8 body))) (NoTime 16 2)) _ e right.2 in
      let form = accepted_then (ok_or (k.parsed (drop 8 body)) (OutOfRange 16 18)) _ e time.2 in
      let same : e ≡ (time.0, form.0) = ok_same e (time.0, form.0) form.2 in
      let left = length-drop 8 body in
      let first : bytes_of 8 (k.word time.0) ≡ take 8 body =
      ap (bytes_of 8) (time_only (worth (take 8 body)) time.0 (accepted_or (k.time (worth (take 8 body))) (NoTime 16 2) time.0 time.1)) ∙ front_back 8 body u (omega arith) in
      let second : k.layout form.0 ≡ drop 8 body =
      exact (drop 8 body) form.0 (All-drop (λ b. b < 256) 8 body u) (accepted_or (k.parsed (drop 8 body)) (OutOfRange 16 18) form.0 form.1) ∙ take_all (k.size (drop 8 body)) (drop 8 body) (omega arith) in
      ap (λ f. bytes_of 8 (k.word f.0) ++ k.layout f.1) same
      ∙ ap (λ l. l ++ k.layout form.0) first ∙ ap (λ l. take 8 body ++ l) second ∙ take-append-drop 8 body

  question_exact : (code : ℕ) (q : ℕ × T) (body : List ℕ) → AllBelowBase 256 body → Ok q ≡ question_of k.time code body → bytes_of 2 q.0 ++ bytes_of 8 (k.word q.1) ≡ body
  question_exact code q body u is =
      let right = accepted_then (of_length code 10 body) _ q is in
      let long = accepted_length code 10 body right.0 right.1 in
      let w = worth (take 8 (drop 2 body)) in
      let time = accepted_then (ok_or (k.time w) (NoTime code 6)) _ q right.2 in
      let same : q ≡ (worth (take 2 body), time.0) = ok_same q (worth (take 2 body), time.0) time.2 in
      let left = length-drop 2 body in
      let first : bytes_of 2 (worth (take 2 body)) ≡ take 2 body = front_back 2 body u (omega arith) in
      let second : bytes_of 8 (k.word time.0) ≡ drop 2 body =
      ap (bytes_of 8) (time_only w time.0 (accepted_or (k.time w) (NoTime code 6) time.0 time.1)) ∙ whole_back 8 (drop 2 body) (All-drop (λ b. b < 256) 2 body u) (omega arith) in
      ap (λ p. bytes_of 2 p.0 ++ bytes_of 8 (k.word p.1)) same
      ∙ ap (λ l. l ++ bytes_of 8 (k.word time.0)) first ∙ ap (λ l. take 2 body ++ l) second ∙ take-append-drop 2 body

  never : {X : Type 0} (c : Command P T) (f : Flaw) → ◌≡◌ {A = Result (Command P T) Flaw} (Ok c) (Err f) → X
  never c f e = let z : ◌≡◌ {A = ℕ} 0 1 = cc in absurd (omega arith)

  -- a code n and the body that a command c was read from
  framed : (n : ℕ) (body parts : List ℕ) (c d : Command P T) → ◌≡◌ {A = Result (Command P T) Flaw} (Ok c) (Ok d) → frame k d ≡ n ∷ parts → parts ≡ body → frame k c ≡ n ∷ body
  framed n body parts c d same whole rest = ap (frame k) (ok_same c d same) ∙ whole ∙ ap (λ l. n ∷ l) rest

  coded_exact : (opened : Bool) (code : Code) (body : List ℕ) (c : Command P T) → AllBelowBase 256 body → Ok c ≡ command_of k opened code body → frame k c ≡ code_byte code ∷ body
  coded_exact false codes.Open body c u e = let o = accepted_then (opening_of 1 body) _ c e in framed 1 body _ c (Open o.0) o.2 refl (opening_exact o.0 body u o.1)
  coded_exact false codes.Enter body c u e = never c BadCode e
  coded_exact false codes.Withdraw body c u e = never c BadCode e
  coded_exact false codes.State body c u e = never c BadCode e
  coded_exact false codes.Latest body c u e = never c BadCode e
  coded_exact false codes.Count body c u e = never c BadCode e
  coded_exact true codes.Open body c u e = never c BadCode e
  coded_exact true codes.Enter body c u e = let f = accepted_then (entry_of k 16 body) _ c e in framed 16 body _ c (Enter f.0.0 f.0.1) f.2 refl (entry_exact f.0 body u f.1)
  coded_exact true codes.Withdraw body c u e = let n = accepted_then (number_of 17 body) _ c e in framed 17 body _ c (Withdraw n.0) n.2 refl (number_exact 17 n.0 body u n.1)
  coded_exact true codes.State body c u e =
      let q = accepted_then (question_of k.time 32 body) _ c e in framed 32 body _ c (State q.0.0 q.0.1) q.2 refl (question_exact 32 q.0 body u q.1)
  coded_exact true codes.Latest body c u e =
      let q = accepted_then (question_of k.time 33 body) _ c e in framed 33 body _ c (Latest q.0.0 q.0.1) q.2 refl (question_exact 33 q.0 body u q.1)
  coded_exact true codes.Count body c u e = let n = accepted_then (number_of 34 body) _ c e in framed 34 body _ c (Count n.0) n.2 refl (number_exact 34 n.0 body u n.1)

  -- only a command's bytes are read as it
  pub command_exact : (opened : Bool) (bs : List ℕ) (c : Command P T) → AllBelowBase 256 bs → Ok c ≡ command_in k opened bs → frame k c ≡ bs
  command_exact opened [] c u e = never c BadCode e
  command_exact opened (b ∷ body) c u e =
      let read = accepted_then (ok_or (code_of b) BadCode) (λ code. command_of k opened code body) c e in
      coded_exact opened read.0 body c u.1 read.2 ∙ ap (λ x. x ∷ body) (code_exact b read.0 (accepted_or (code_of b) BadCode read.0 read.1))
