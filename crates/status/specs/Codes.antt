-- The codes of the statuses, 0 to 7.
use Rattle.std.specs.Prelude.{ℕ, List, [], ◌∷◌, slice_index_or}
use Rattle.status.specs.declared.Status.{Status}
use Rattle.status.specs.declared.Status.TheVariants.{Off, Idle, Heating, Printing, Paused, Cooling, Service, Fault}

-- the statuses, each at the place of its code
abbrev pub statuses : List Status
statuses = Off ∷ Idle ∷ Heating ∷ Printing ∷ Paused ∷ Cooling ∷ Service ∷ Fault ∷ []

-- the status of a code; there is no code above 7
abbrev pub status_of : ℕ → Status
status_of n = slice_index_or statuses n Fault

abbrev pub code_of : Status → ℕ
code_of Off = 0
code_of Idle = 1
code_of Heating = 2
code_of Printing = 3
code_of Paused = 4
code_of Cooling = 5
code_of Service = 6
code_of Fault = 7
