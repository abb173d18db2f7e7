-- Transitions of the same entries are the same, since a ghost field has one proof at most.
use Rattle.std.specs.Prelude.{◌≡◌}
use denote.Struct.Record.{values_one}
use Rattle.status.specs.declared.Transitions.{Transitions}
use Rattle.status.specs.contracts.Status as status
use Rattle.status.specs.contracts.Transitions as transitions

pub same_transitions : (a b : Transitions) → a.entries ≡ b.entries → a ≡ b
same_transitions a b p = values_one transitions.struct (transitions.the_propositions (status.the_row).coded) a b (λ i. (p i, tt))
