-- An event's byte is read as it, and only it is.
use Rattle.std.specs.Prelude.{◌≡◌, ℕ, zero, suc, List, [], ◌∷◌, take, Some, refl}
use Rattle.std.proofs.Common.{ap, arith}
use Rattle.status.specs.declared.Event.{Event}
use Rattle.status.specs.declared.Event.TheVariants.{PowerOn, PowerOff, Heat, Start, Pause, Resume, EndOfJob, Cooled, IntoService, OutOfService, Fault}
use Rattle.status.specs.Events.{event_code, event_of}
use Rattle.payloads.specs.Events.{event_parsed}

pub event_again : (e : Event) (rest : List ℕ) → event_parsed (event_code e ∷ rest) ≡ Some e
event_again PowerOn rest = refl
event_again PowerOff rest = refl
event_again Heat rest = refl
event_again Start rest = refl
event_again Pause rest = refl
event_again Resume rest = refl
event_again EndOfJob rest = refl
event_again Cooled rest = refl
event_again IntoService rest = refl
event_again OutOfService rest = refl
event_again Fault rest = refl

code_of_read : (n : ℕ) (e : Event) → event_of n ≡ Some e → event_code e ≡ n
code_of_read zero e is = let z : ◌≡◌ {A = ℕ} 0 1 = cc in absurd (omega arith)
code_of_read (suc zero) e is = ap event_code (let s : e ≡ PowerOn = cc in s)
code_of_read (suc (suc zero)) e is = ap event_code (let s : e ≡ PowerOff = cc in s)
code_of_read (suc (suc (suc zero))) e is = ap event_code (let s : e ≡ Heat = cc in s)
code_of_read (suc (suc (suc (suc zero)))) e is = ap event_code (let s : e ≡ Start = cc in s)
code_of_read (suc (suc (suc (suc (suc zero))))) e is = ap event_code (let s : e ≡ Pause = cc in s)
code_of_read (suc (suc (suc (suc (suc (suc zero)))))) e is = ap event_code (let s : e ≡ Resume = cc in s)
code_of_read (suc (suc (suc (suc (suc (suc (suc zero))))))) e is = ap event_code (let s : e ≡ EndOfJob = cc in s)
code_of_read (suc (suc (suc (suc (suc (suc (suc (suc zero)))))))) e is = ap event_code (let s : e ≡ Cooled = cc in s)
code_of_read (suc (suc (suc (suc (suc (suc (suc (suc (suc zero))))))))) e is = ap event_code (let s : e ≡ IntoService = cc in s)
code_of_read (suc (suc (suc (suc (suc (suc (suc (suc (suc (suc zero)))))))))) e is = ap event_code (let s : e ≡ OutOfService = cc in s)
code_of_read (suc (suc (suc (suc (suc (suc (suc (suc (suc (suc (suc zero))))))))))) e is = ap event_code (let s : e ≡ Fault = cc in s)
code_of_read (suc (suc (suc (suc (suc (suc (suc (suc (suc (suc (suc (suc n)))))))))))) e is = let z : ◌≡◌ {A = ℕ} 0 1 = cc in absurd (omega arith)

pub event_exact : (bs : List ℕ) (e : Event) → event_parsed bs ≡ Some e → event_code e ∷ [] ≡ take 1 bs
event_exact [] e is = let z : ◌≡◌ {A = ℕ} 0 1 = cc in absurd (omega arith)
event_exact (b ∷ bs) e is = ap (λ n. n ∷ []) (code_of_read b e is)
