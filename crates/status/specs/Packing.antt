-- The words of transitions and of a status.
use Rattle.std.specs.Prelude.{◌≡◌, ℕ, zero, suc, ◌+◌, ◌*◌, ◌/◌, ◌%◌, ◌^◌, ◌<◌, List, [], ◌∷◌, map, Some, Option, ◌==◌, nat_lt, refl}
use Rattle.words.specs.Given.{given}
use Rattle.words.specs.declared.EffectWords.{EffectWords}
use Rattle.words.specs.declared.StateWords.{StateWords}
use Rattle.status.specs.Codes.{code_of, status_of}
use Rattle.status.specs.declared.Status.{Status}
use Rattle.status.specs.declared.Transitions.{Transitions}

-- the sum of entry i times 8 ^ i
abbrev pub octal : List ℕ → ℕ
octal [] = 0
octal (x ∷ xs) = x + 8 * octal xs

-- the lowest k digits of a number in base 8, the lowest first
abbrev pub digits : ℕ → ℕ → List ℕ
digits zero n = []
digits (suc k) n = (n % 8) ∷ digits k (n / 8)

abbrev pub transitions_words : Transitions → EffectWords
transitions_words f = record { first = octal (map code_of f.entries); second = 0 }

-- words that are some transitions': eight digits, and nothing in the second word
abbrev pub InRange : EffectWords → Type 0
InRange w = (w.first < 8 ^ 8) × (w.second ≡ 0)

abbrev pub entries_read : EffectWords → List Status
entries_read w = map status_of (digits 8 w.first)

-- the transitions that words are those of, or none
abbrev pub transitions_read : EffectWords → Option Transitions
transitions_read w = given (nat_lt w.first (8 ^ 8)) (λ _. given (w.second == 0) (λ _. Some (record { entries = entries_read w; eight = refl })))

abbrev pub status_words : Status → StateWords
status_words s = record { first = code_of s }
