-- Two times neither of which is after the other are the same.
use Rattle.std.specs.Prelude.{◌≡◌, true}
use Rattle.std.proofs.Common.{arith}
use Rattle.std.proofs.lemmas.Int.{ints}
use Rattle.std.proofs.lemmas.Bool.Decides.{nat_tests}
use Rattle.times.specs.Clocks.{clock_upto}
use Rattle.times.specs.Places.{place_upto}
use Rattle.times.specs.declared.clock.Clock.{Clock}
use Rattle.times.specs.declared.place.Place.{Place}
use Rattle.times.specs.Sames.{same_clock, same_place}

pub clocks_tie : (a b : Clock) → clock_upto a b ≡ true → clock_upto b a ≡ true → a ≡ b
clocks_tie a b p q = same_clock a b (grind (arith, nat_tests))

same_jobs : (a b : Place) → place_upto a b ≡ true → place_upto b a ≡ true → a.job ≡ b.job
same_jobs a b p q = grind (arith, nat_tests)

same_layers : (a b : Place) → place_upto a b ≡ true → place_upto b a ≡ true → a.layer ≡ b.layer
same_layers a b p q = grind (arith, nat_tests, ints)

pub places_tie : (a b : Place) → place_upto a b ≡ true → place_upto b a ≡ true → a ≡ b
places_tie a b p q = same_place a b (same_jobs a b p q) (same_layers a b p q)

pub places_follow : (a b c : Place) → place_upto a b ≡ true → place_upto b c ≡ true → place_upto a c ≡ true
places_follow a b c p q = grind (arith, nat_tests, ints)
