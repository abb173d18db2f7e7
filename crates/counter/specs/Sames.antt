-- Levels and counters of the same numbers are the same, since a ghost field has one proof at most.
use Rattle.std.specs.Prelude.{◌≡◌}
use denote.Struct.Record.{values_one}
use Rattle.counter.specs.declared.Level.{Level}
use Rattle.counter.specs.declared.Counter.{Counter}
use Rattle.counter.specs.contracts.Level as level
use Rattle.counter.specs.contracts.Counter as counter

pub same_level : (a b : Level) → a.hundredths ≡ b.hundredths → a ≡ b
same_level a b p = values_one level.struct level.the_propositions a b (λ i. (p i, tt))

pub same_counter : (a b : Counter) → a.amount ≡ b.amount → a.floor.hundredths ≡ b.floor.hundredths → a.ceiling.hundredths ≡ b.ceiling.hundredths → a ≡ b
same_counter a b p q r =
    let floors = same_level a.floor b.floor q in
    let ceilings = same_level a.ceiling b.ceiling r in
    values_one counter.struct (counter.the_propositions (level.the_row).coded) a b (λ i. (p i, (floors i, (ceilings i, tt))))
