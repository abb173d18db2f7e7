-- Clock times: seconds, in their order.
use Rattle.std.specs.Prelude.{ℕ, ◌^◌, Bool, List, ◌++◌, Some, codes, Option, nat_le, nat_lt}
use Rattle.std.specs.Fmt.{decimal}
use Rattle.std.proofs.Common.{lit<}
use Rattle.words.specs.Given.{given}
use Rattle.times.specs.declared.clock.Clock.{Clock}

-- the time of so many seconds, or none where the clock does not go so far
abbrev pub clock_of : ℕ → Option Clock
clock_of n = given (nat_lt n (2 ^ 40)) (λ within. Some (record { seconds = n; within = lit< within }))

abbrev pub clock_upto : Clock → Clock → Bool
clock_upto a b = nat_le a.seconds b.seconds

abbrev pub clock_word : Clock → ℕ
clock_word t = t.seconds

-- a time in words
abbrev pub clock_text : Clock → List ℕ
clock_text t = decimal t.seconds ++ codes " s"
