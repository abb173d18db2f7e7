-- Times of the same numbers are the same, since a ghost field has one proof at most.
use Rattle.std.specs.Prelude.{◌≡◌}
use denote.Struct.Record.{values_one}
use Rattle.times.specs.declared.clock.Clock.{Clock}
use Rattle.times.specs.declared.place.Place.{Place}
use Rattle.times.specs.contracts.clock.Clock as clock
use Rattle.times.specs.contracts.place.Place as place

pub same_clock : (a b : Clock) → a.seconds ≡ b.seconds → a ≡ b
same_clock a b p = values_one clock.struct clock.the_propositions a b (λ i. (p i, tt))

pub same_place : (a b : Place) → a.job ≡ b.job → a.layer ≡ b.layer → a ≡ b
same_place a b p q = values_one place.struct place.the_propositions a b (λ i. (p i, (q i, tt)))
