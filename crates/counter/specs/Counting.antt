-- Levels and counters, and what a counter does to a level.
use Rattle.std.specs.Prelude.{ℕ, ◌≤◌, ℤ, pos, negsuc, ◌+ℤ◌, ◌≤ℤ◌, Some, Option, int_le, nat_le, unsigned_abs}
use Rattle.std.proofs.Common.{arith, lit≤}
use Rattle.std.proofs.Math.Nat.{le_trans}
use Rattle.std.specs.Int.Signed.{le_z_yes}
use Rattle.std.specs.Int.{int_min, int_max}
use Rattle.std.proofs.lemmas.Int.{clamps, ints}
use Rattle.words.specs.Given.{given}
use Rattle.counter.specs.declared.Level.{Level}
use Rattle.counter.specs.declared.Counter.{Counter}

-- the level of so many hundredths, or none above 1,000,000
abbrev pub level_of : ℕ → Option Level
level_of n = given (nat_le n 1000000) (λ within. Some (record { hundredths = n; within = lit≤ within }))

-- what every counter keeps: an amount from -1,000,000 to 1,000,000, and 0 ≤ floor ≤ ceiling ≤ 1,000,000
abbrev pub InBounds : ℤ → ℕ → ℕ → Type 0
InBounds amount floor ceiling = (negsuc 999999 ≤ℤ amount) × (amount ≤ℤ pos 1000000) × (floor ≤ ceiling) × (ceiling ≤ 1000000)

-- the counter of an amount from -1,000,000 to 1,000,000, a floor and a ceiling with 0 ≤ floor ≤ ceiling ≤ 1,000,000, or none
abbrev pub counter_of : ℤ → ℕ → ℕ → Option Counter
counter_of amount floor ceiling =
    given (int_le (negsuc 999999) amount) (λ least. given (int_le amount (pos 1000000)) (λ most. given (nat_le floor ceiling) (λ ordered. given (nat_le ceiling 1000000) (λ topped.
    Some (record {
      amount = amount;
      floor = record { hundredths = floor; within = le_trans (lit≤ ordered) (lit≤ topped) };
      ceiling = record { hundredths = ceiling; within = lit≤ topped };
      least = le_z_yes least;
      most = le_z_yes most;
      ordered = lit≤ ordered;
    })))))

-- the lesser of the ceiling and (the greater of the floor and the level plus the amount), which is never below 0
abbrev pub limited : ℤ → ℕ → ℕ → ℕ → ℕ
limited amount floor ceiling level = unsigned_abs (int_min (int_max (pos level +ℤ amount) (pos floor)) (pos ceiling))

pub limited-≤ : (amount : ℤ) (floor ceiling level : ℕ) → ceiling ≤ 1000000 → limited amount floor ceiling level ≤ 1000000
limited-≤ amount floor ceiling level h = omega (arith, ints, clamps)

pub limited_mono : (amount : ℤ) (floor ceiling low high : ℕ) → low ≤ high → limited amount floor ceiling low ≤ limited amount floor ceiling high
limited_mono amount floor ceiling low high h = omega (arith, ints, clamps)

-- the start
abbrev pub no_level : Level
no_level = record { hundredths = 0; within = lit≤ tt }

-- a counter acting on a level
abbrev pub level_after : Counter → Level → Level
level_after c l = record {
  hundredths = limited c.amount c.floor.hundredths c.ceiling.hundredths l.hundredths;
  within = limited-≤ c.amount c.floor.hundredths c.ceiling.hundredths l.hundredths c.ceiling.within;
}

-- a sum limited to -1,000,000 and 1,000,000
abbrev pub limited_amount : ℤ → ℤ
limited_amount sum = int_max (negsuc 999999) (int_min sum (pos 1000000))

-- the amount of two counters composed
abbrev pub added : ℤ → ℤ → ℤ
added a b = limited_amount (a +ℤ b)

pub added_least : (a b : ℤ) → negsuc 999999 ≤ℤ added a b
added_least a b = omega (arith, ints, clamps)

pub added_most : (a b : ℤ) → added a b ≤ℤ pos 1000000
added_most a b = omega (arith, ints, clamps)

-- no change
abbrev pub no_count : Counter
no_count = record {
  amount = pos 0;
  floor = record { hundredths = 0; within = lit≤ tt };
  ceiling = record { hundredths = 1000000; within = lit≤ tt };
  least = le_z_yes tt;
  most = le_z_yes tt;
  ordered = lit≤ tt;
}

-- first f, then g: the amounts' sum, limited, and g acting on the limits of f
abbrev pub joined : Counter → Counter → Counter
joined f g = record {
  amount = added f.amount g.amount;
  floor = level_after g f.floor;
  ceiling = level_after g f.ceiling;
  least = added_least f.amount g.amount;
  most = added_most f.amount g.amount;
  ordered = limited_mono g.amount g.floor.hundredths g.ceiling.hundredths f.floor.hundredths f.ceiling.hundredths f.ordered;
}
