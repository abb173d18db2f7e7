-- The words for statuses and events.
use Rattle.std.specs.Prelude.{ℕ, List, codes}
use Rattle.status.specs.declared.Status.{Status}
use Rattle.status.specs.declared.Status.TheVariants as status
use Rattle.status.specs.declared.Event.{Event}
use Rattle.status.specs.declared.Event.TheVariants as event

-- a status in words
abbrev pub status_name : Status → List ℕ
status_name status.Off = codes "off"
status_name status.Idle = codes "idle"
status_name status.Heating = codes "heating"
status_name status.Printing = codes "printing"
status_name status.Paused = codes "paused"
status_name status.Cooling = codes "cooling"
status_name status.Service = codes "service"
status_name status.Fault = codes "fault"

-- an event in words
abbrev pub event_name : Event → List ℕ
event_name event.PowerOn = codes "power on"
event_name event.PowerOff = codes "power off"
event_name event.Heat = codes "heat"
event_name event.Start = codes "start"
event_name event.Pause = codes "pause"
event_name event.Resume = codes "resume"
event_name event.EndOfJob = codes "end of job"
event_name event.Cooled = codes "cooled"
event_name event.IntoService = codes "into service"
event_name event.OutOfService = codes "out of service"
event_name event.Fault = codes "fault"
