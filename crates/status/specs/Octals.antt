-- The words of transitions read back as them, and only they do.
use Rattle.std.specs.Prelude.{◌≡◌, ℕ, zero, suc, ◌+◌, ◌-◌, ◌*◌, ◌/◌, ◌%◌, ◌^◌, ◌<◌, ◌≤◌, List, [], ◌∷◌, ◌++◌, map, length, take, drop, Some, None, ◌==◌, nat_lt, slice_set, refl}
use Rattle.std.proofs.Common.{sym, ap, ap₂, ◌∙◌, append_assoc, append-nil, arith, pow-suc, eq-eqb, lt→ltb, ltb→lt, eqb→eq, length-drop}
use Rattle.std.proofs.Math.Nat.{one-le-pow}
use Rattle.std.proofs.lemmas.List.{take_all, take_more_set, length-map}
use Rattle.std.specs.List.{AllByRecursion}
use Rattle.words.specs.declared.EffectWords.{EffectWords}
use Rattle.words.proofs.Giving.{given_passed, given_some, some_same, none_where, same_effect_words}
use Rattle.status.specs.Codes.{status_of, code_of}
use Rattle.status.specs.Packing.{octal, digits, transitions_words, InRange, entries_read, transitions_read}
use Rattle.status.specs.declared.Status.{Status}
use Rattle.status.specs.declared.Transitions.{Transitions}
use Rattle.status.specs.Sames.{same_transitions}
use Rattle.status.specs.Statuses.{code_small, code_of_status, statuses_of_codes}

digits_octal : (xs : List ℕ) → AllByRecursion (λ x. x < 8) xs → digits (length xs) (octal xs) ≡ xs
digits_octal [] small = refl
digits_octal (x ∷ xs) small =
    let low : (x + 8 * octal xs) % 8 ≡ x = omega (arith, small.0) in
    let high : (x + 8 * octal xs) / 8 ≡ octal xs = omega (arith, small.0) in
    ap₂ ◌∷◌ low (ap (digits (length xs)) high ∙ digits_octal xs small.1)

octal_digits : (k n : ℕ) → n < 8 ^ k → octal (digits k n) ≡ n
octal_digits zero n small = omega arith
octal_digits (suc k) n small = omega (arith, octal_digits k (n / 8) (omega (arith, pow-suc 8 k)))

codes_small : (ss : List Status) → AllByRecursion (λ x. x < 8) (map code_of ss)
codes_small [] = tt
codes_small (s ∷ ss) = (code_small s, codes_small ss)

codes_of_digits : (k n : ℕ) → map code_of (map status_of (digits k n)) ≡ digits k n
codes_of_digits zero n = refl
codes_of_digits (suc k) n = ap₂ ◌∷◌ (code_of_status (n % 8) (omega arith)) (codes_of_digits k (n / 8))

entries_lt : (ss : List Status) (k : ℕ) → length ss ≤ k → octal (map code_of ss) < 8 ^ k
entries_lt [] k few = one-le-pow k 8 (omega arith)
entries_lt (s ∷ ss) zero few = absurd (omega arith)
entries_lt (s ∷ ss) (suc k) few = omega (arith, entries_lt ss k (omega arith), code_small s, pow-suc 8 k)

-- what the entries from i on write
pub octal_rest : (ss : List Status) (i : ℕ) → length ss ≡ 8 → octal (map code_of (drop i ss)) < 8 ^ 8
octal_rest ss i eight = entries_lt (drop i ss) 8 (omega (arith, length-drop i ss))

pub transitions_is : (w : EffectWords) (f : Transitions) → w.first < 8 ^ 8 → w.second ≡ 0 → f.entries ≡ entries_read w → Some f ≡ transitions_read w
transitions_is w f small none entries =
    sym (given_passed (nat_lt w.first (8 ^ 8)) _ (lt→ltb w.first (8 ^ 8) small) ∙ given_passed (w.second == 0) _ (rw (eq-eqb w.second 0 none) tt) ∙ ap Some (same_transitions _ f (sym entries)))

pub transitions_reads_back : (f : Transitions) → transitions_read (transitions_words f) ≡ Some f
transitions_reads_back f =
    let codes = map code_of f.entries in
    let eight : length codes ≡ 8 = length-map f.entries code_of ∙ f.eight in
    let digits_are : digits 8 (octal codes) ≡ codes = ap (λ k. digits k (octal codes)) (sym eight) ∙ digits_octal codes (codes_small f.entries) in
    sym (transitions_is (transitions_words f) f (entries_lt f.entries 8 (omega (arith, f.eight))) refl (sym (ap (map status_of) digits_are ∙ statuses_of_codes f.entries)))

pub transitions_reads_only : (w : EffectWords) (f : Transitions) → transitions_read w ≡ Some f → transitions_words f ≡ w
transitions_reads_only w f is =
    let one = given_some (nat_lt w.first (8 ^ 8)) _ f is in
    let two = given_some (w.second == 0) _ f one.1 in
    let same = sym (ap (λ g. map code_of g.entries) (some_same two.1)) in
    same_effect_words (transitions_words f) w
    (ap octal (same ∙ codes_of_digits 8 w.first) ∙ octal_digits 8 w.first (ltb→lt w.first (8 ^ 8) one.0))
    (sym (eqb→eq w.second 0 two.0))

-- words past 8 ^ 8, or with a second word, are no transitions'
pub reads_none : (w : EffectWords) → (InRange w → ⊥) → transitions_read w ≡ None
reads_none w never =
    none_where _
    (λ f is.
    let one = given_some (nat_lt w.first (8 ^ 8)) _ f is in
    let two = given_some (w.second == 0) _ f one.1 in never (ltb→lt w.first (8 ^ 8) one.0, eqb→eq w.second 0 two.0))

-- one digit of what is left read into entry i
pub digit_more : (xs want : List Status) (i rest : ℕ) → i < 8 → length xs ≡ 8 → take i xs ++ map status_of (digits (8 - i) rest) ≡ want → take (i + 1) (slice_set xs i (status_of (rest % 8))) ++ map status_of (digits (8 - (i + 1)) (rest / 8)) ≡ want
digit_more xs want i rest small eight done =
    let inside : i < length xs = omega arith in
    let left : 8 - i ≡ suc (8 - (i + 1)) = omega arith in
    let next = map status_of (digits (8 - (i + 1)) (rest / 8)) in
    ap (λ t. t ++ next) (take_more_set xs i (status_of (rest % 8)) inside) ∙ append_assoc (take i xs) (status_of (rest % 8) ∷ []) next
    ∙ ap (λ k. take i xs ++ map status_of (digits k rest)) (sym left) ∙ done

-- all digits read
pub digits_done : (xs want : List Status) (i rest : ℕ) → i ≡ 8 → length xs ≡ 8 → take i xs ++ map status_of (digits (8 - i) rest) ≡ want → xs ≡ want
digits_done xs want i rest all eight done =
    sym (ap (λ k. take k xs ++ map status_of (digits (8 - k) rest)) all ∙ append-nil (take 8 xs) ∙ take_all 8 xs (omega arith)) ∙ done
