-- From the lines up to an opening and those after it to the whole of an input.
use Rattle.std.proofs.Common.{◌≡◌, ℕ, ◌+◌, ◌≤◌, ltb, List, [], ◌∷◌, length, Some, None, Ok, Err, Option, sym, ap, ◌∙◌, subst, ⊎_elim, arith, length-append}
use Rattle.store.specs.declared.Store as store
use Rattle.layers.specs.Quotas.{limited}
use Rattle.std.proofs.lemmas.Bool.{cond-true, cases_lt, lt-ltb}
use Rattle.text.specs.declared.flaw.Flaw.TheVariants.{LongInput}
use Rattle.text.specs.Cut as text
use Rattle.text.specs.Cut.{Line, joined_lines, length_checked}
use Rattle.commands.specs.declared.command.Opening.{Opening}
use Rattle.session.specs.Whole.{UpTo}
use Rattle.session.specs.Records.{Adds, Record, KeptBy, AnsweredFrom}

-- the lines of an input, each with a newline, are at most one byte longer than it
pub lines_length : (input : List ℕ) (ls : List Line) → text.Whole input ls → length (joined_lines ls) ≤ length input + 1
lines_length input ls h = ⊎_elim (λ same. omega (arith, ap length same)) (λ same. omega (arith, ap length same, length-append input (10 ∷ []))) h.joined

-- an input that passed the check of its length is not too long
pub not_long : (input : List ℕ) → Ok tt ≡ length_checked input → length input ≤ 32768
not_long input is =
    ⊎_elim (λ long. let not = is ∙ cond-true (ltb 32768 (length input)) (Err LongInput) (Ok tt) (lt-ltb 32768 (length input) long) in absurd (let z : ◌≡◌ {A = ℕ} 0 1 = cc in omega arith)) (λ short. short) (cases_lt 32768 (length input))

same_some : {A : Type 0} (x y : A) → Some x ≡ Some y → x ≡ y
same_some x y is = cc

-- an opening was found, and the record went on from there
pub answered_open :
    {S : Type 0} (s : store.Ghosts S) (below : S) (whole : List ℕ × Option (Opening × List Line)) (o : Opening) (left : List Line) (opened out : List ℕ) (r : Record s)
    → UpTo whole (Some o) left [] opened → Adds (KeptBy s o (limited (s.meaning below) o.quota) left r) opened out → AnsweredFrom s below whole r out
answered_open s below (written, None) o left opened out r up adds = let none = up.found_is in absurd (let z : ◌≡◌ {A = ℕ} 0 1 = cc in omega arith)
answered_open s below (written, Some (o', left')) o left opened out r up adds =
    let found = same_some (o, left) (o', left') (sym up.found_is) in
    let same : o ≡ o' = ap (λ x. x.0) found in
    let lines : left ≡ left' = ap (λ x. x.1) found in
    let all : opened ≡ written = up.written in
    subst (λ w. Adds (KeptBy s o' (limited (s.meaning below) o'.quota) left' r) w out) all (subst (λ x. Adds (KeptBy s x (limited (s.meaning below) x.quota) left' r) opened out) same (subst (λ x. Adds (KeptBy s o (limited (s.meaning below) o.quota) x r) opened out) lines adds))
