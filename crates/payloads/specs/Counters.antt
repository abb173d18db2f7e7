-- The payload of a counter: amount in two's complement, floor and ceiling, of 4 bytes each.
use Rattle.std.specs.Prelude.{ℕ, List, ◌++◌, length, take, drop, Option, nat_le}
use Rattle.words.specs.Given.{given}
use Rattle.big_endian.specs.Numbers.{bytes_of, worth}
use Rattle.times.specs.Places.{twos_complement, signed}
use Rattle.counter.specs.declared.Counter.{Counter}
use Rattle.counter.specs.Counting.{counter_of}

abbrev pub counter_layout : Counter → List ℕ
counter_layout c = bytes_of 4 (twos_complement c.amount) ++ (bytes_of 4 c.floor.hundredths ++ bytes_of 4 c.ceiling.hundredths)

-- the counter that bytes begin with, or none where they are too few or its bounds are not kept
abbrev pub counter_parsed : List ℕ → Option Counter
counter_parsed bs = given (nat_le 12 (length bs)) (λ _. counter_of (signed (worth (take 4 bs))) (worth (take 4 (drop 4 bs))) (worth (take 4 (drop 4 (drop 4 bs)))))
