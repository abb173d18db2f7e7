-- The payload of the status: the code of an event.
use Rattle.std.specs.Prelude.{ℕ, List, [], ◌∷◌, None, Option}
use Rattle.status.specs.declared.Event.{Event}
use Rattle.status.specs.Events.{event_of}

-- the event that bytes begin with
abbrev pub event_parsed : List ℕ → Option Event
event_parsed [] = None
event_parsed (code ∷ bs) = event_of code
