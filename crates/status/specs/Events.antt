-- The eleven events, their codes and their transitions.
use Rattle.std.specs.Prelude.{◌≡◌, ℕ, zero, suc, ◌-◌, List, [], ◌∷◌, map, length, Some, None, Ok, Err, codes, Option, Result, refl}
use Rattle.std.specs.List.{flat_map, slice_get}
use Rattle.status.specs.Codes.{status_of}
use Rattle.status.specs.declared.Status.{Status}
use Rattle.status.specs.declared.Transitions.{Transitions}
use Rattle.status.specs.declared.Event.{Event}
use Rattle.status.specs.declared.UnknownEvent.{UnknownEvent}
use Rattle.status.specs.declared.Event.TheVariants.{PowerOn, PowerOff, Heat, Start, Pause, Resume, EndOfJob, Cooled, IntoService, OutOfService, Fault}

-- the events, in the order of their codes
abbrev pub events : List Event
events = PowerOn ∷ PowerOff ∷ Heat ∷ Start ∷ Pause ∷ Resume ∷ EndOfJob ∷ Cooled ∷ IntoService ∷ OutOfService ∷ Fault ∷ []

-- the event of a code, from 01 on, or none
abbrev pub event_of : ℕ → Option Event
event_of zero = None
event_of (suc i) = slice_get events i

-- r is the event of a code, or the code given back where no event has it
abbrev pub EventRead : ℕ → Result Event UnknownEvent → Type 0
EventRead code (Ok event) = event_of code ≡ Some event
EventRead code (Err unknown) = (event_of code ≡ None) × (unknown.0 ≡ code)

abbrev pub event_code : Event → ℕ
event_code PowerOn = 0x01
event_code PowerOff = 0x02
event_code Heat = 0x03
event_code Start = 0x04
event_code Pause = 0x05
event_code Resume = 0x06
event_code EndOfJob = 0x07
event_code Cooled = 0x08
event_code IntoService = 0x09
event_code OutOfService = 0x0a
event_code Fault = 0x0b

-- what an event makes of the statuses, in their order: a digit, the new code, for each
abbrev pub row : Event → List ℕ
row PowerOn = codes "11234567"
row PowerOff = codes "00000000"
row Heat = codes "02234567"
row Start = codes "01334567"
row Pause = codes "01244567"
row Resume = codes "01233567"
row EndOfJob = codes "01255567"
row Cooled = codes "01234167"
row IntoService = codes "06234566"
row OutOfService = codes "01234517"
row Fault = codes "07777777"

-- the rows of all events as numbers, one after the other; the character of digit n is 48 + n
abbrev pub rows : List ℕ
rows = flat_map (λ event. map (λ c. c - 48) (row event)) events

-- a row as statuses
abbrev pub becomes : Event → List Status
becomes event = map (λ c. status_of (c - 48)) (row event)

pub becomes_eight : (event : Event) → length (becomes event) ≡ 8
becomes_eight PowerOn = refl
becomes_eight PowerOff = refl
becomes_eight Heat = refl
becomes_eight Start = refl
becomes_eight Pause = refl
becomes_eight Resume = refl
becomes_eight EndOfJob = refl
becomes_eight Cooled = refl
becomes_eight IntoService = refl
becomes_eight OutOfService = refl
becomes_eight Fault = refl

abbrev pub event_transitions : Event → Transitions
event_transitions event = record { entries = becomes event; eight = becomes_eight event }
