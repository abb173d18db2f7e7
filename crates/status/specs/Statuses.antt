-- A status and its code stand for each other, and transitions composed act as the two in turn.
use Rattle.std.specs.Prelude.{◌≡◌, ℕ, zero, suc, ◌<◌, List, [], ◌∷◌, map, length, slice_index_or, refl}
use Rattle.std.proofs.Common.{ap₂, ◌∙◌, arith, lit<}
use Rattle.std.proofs.lemmas.List.{get_or_default, get_or-map}
use Rattle.status.specs.Codes.{statuses, status_of, code_of}
use Rattle.status.specs.Turns.{turned, joined}
use Rattle.status.specs.declared.Status.{Status}
use Rattle.status.specs.declared.Status.TheVariants.{Off, Idle, Heating, Printing, Paused, Cooling, Service, Fault}
use Rattle.status.specs.declared.Transitions.{Transitions}

pub code_small : (s : Status) → code_of s < 8
code_small Off = lit< tt
code_small Idle = lit< tt
code_small Heating = lit< tt
code_small Printing = lit< tt
code_small Paused = lit< tt
code_small Cooling = lit< tt
code_small Service = lit< tt
code_small Fault = lit< tt

pub status_of_code : (s : Status) → status_of (code_of s) ≡ s
status_of_code Off = refl
status_of_code Idle = refl
status_of_code Heating = refl
status_of_code Printing = refl
status_of_code Paused = refl
status_of_code Cooling = refl
status_of_code Service = refl
status_of_code Fault = refl

pub code_of_status : (n : ℕ) → n < 8 → code_of (status_of n) ≡ n
code_of_status zero h = refl
code_of_status (suc zero) h = refl
code_of_status (suc (suc zero)) h = refl
code_of_status (suc (suc (suc zero))) h = refl
code_of_status (suc (suc (suc (suc zero)))) h = refl
code_of_status (suc (suc (suc (suc (suc zero))))) h = refl
code_of_status (suc (suc (suc (suc (suc (suc zero)))))) h = refl
code_of_status (suc (suc (suc (suc (suc (suc (suc zero))))))) h = refl
code_of_status (suc (suc (suc (suc (suc (suc (suc (suc n)))))))) h = absurd (omega arith)

-- no change leaves a status, whatever stands past the last code
pub unturned : (s : Status) → slice_index_or statuses (code_of s) Off ≡ s
unturned s = get_or_default statuses (code_of s) Off Fault (code_small s) ∙ status_of_code s

pub statuses_of_codes : (ss : List Status) → map status_of (map code_of ss) ≡ ss
statuses_of_codes [] = refl
statuses_of_codes (s ∷ ss) = ap₂ ◌∷◌ (status_of_code s) (statuses_of_codes ss)

pub turned_twice : (f g : Transitions) (s : Status) → turned (joined f g) s ≡ turned g (turned f s)
turned_twice f g s = let inside : code_of s < length f.entries = omega (arith, code_small s, f.eight) in get_or-map (turned g) f.entries (code_of s) Off Off inside
