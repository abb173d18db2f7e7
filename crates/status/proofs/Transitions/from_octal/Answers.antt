use Rattle.std.proofs.Common.{map, ap, ◌∙◌}
use Rattle.status.specs.Codes.{status_of}
use Rattle.status.specs.Packing.{digits}
use Rattle.status.specs.Octals.{transitions_is}
use Rattle.status.proofs.Transitions.from_octal.Goals as goal

pub returns : goal.returns
returns c = λ w range is. transitions_is w _ range.0 range.1 (c.new.ensures.entries ∙ c.octal_statuses.ensures ∙ ap (λ n. map status_of (digits 8 n)) is)
