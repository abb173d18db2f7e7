-- Worked cases of the kinds and of the reference ledger, each a closed computation.
use Rattle.std.specs.Prelude.{◌≡◌, ℕ, ◌^◌, true, false, T, [], ℤ, pos, negsuc, neg_ℤ, int_le, nat_le, nat_lt}
use Rattle.std.proofs.Common.{lit<, lit≤}
use Rattle.std.proofs.Math.Nat.{le_trans}
use Rattle.std.specs.Int.Signed.{le_z_yes, mag}
use Rattle.counter.specs.declared.Level.{Level}
use Rattle.counter.specs.declared.Counter.{Counter}
use Rattle.counter.specs.Counting as counting
use Rattle.settings.specs.declared.Setup.{Setup}
use Rattle.settings.specs.declared.Settings.{Settings}
use Rattle.settings.specs.Masks.{chosen, proper}
use Rattle.settings.specs.Overwriting as overwriting
use Rattle.status.specs.declared.Event.TheVariants.{Pause, Resume}
use Rattle.status.specs.Turns as turns
use Rattle.status.specs.Events.{event_transitions}
use Rattle.times.specs.declared.clock.Clock.{Clock}
use Rattle.times.specs.Clocks.{clock_upto}
use Rattle.times.specs.declared.place.Place.{Place}
use Rattle.times.specs.Places.{place_upto}
use Rattle.reference.specs.declared.Operation.{Operation}
use Rattle.reference.specs.Beliefs.{Kinds, Belief, entered, without, state}

-- ---- values; each test says that the numbers are in bounds

abbrev pub level : (n : ℕ) → T (nat_le n 1000000) → Level
level n p = record { hundredths = n; within = lit≤ p }

abbrev pub counter : (amount : ℤ) (floor ceiling : ℕ) → T (int_le (negsuc 999999) amount) → T (int_le amount (pos 1000000)) → T (nat_le floor ceiling) → T (nat_le ceiling 1000000) → Counter
counter amount floor ceiling p q r s = record {
  amount = amount;
  floor = record { hundredths = floor; within = le_trans (lit≤ r) (lit≤ s) };
  ceiling = level ceiling s;
  least = le_z_yes p;
  most = le_z_yes q;
  ordered = lit≤ r;
}

abbrev pub set_to : (n : ℕ) → T (nat_le n n) → T (nat_le n 1000000) → Counter
set_to n p q = counter (pos 0) n n tt tt p q

abbrev pub take : (n : ℕ) → T (int_le (negsuc 999999) (neg_ℤ (pos n))) → T (int_le (neg_ℤ (pos n)) (pos 1000000)) → Counter
take n p q = counter (neg_ℤ (pos n)) 0 1000000 p q tt tt

abbrev clock : (n : ℕ) → T (nat_lt n (2 ^ 40)) → Clock
clock n p = record { seconds = n; within = lit< p }

abbrev place : (job : ℕ) (layer : ℤ) → T (nat_lt job (2 ^ 32)) → T (nat_lt (mag layer) (2 ^ 31)) → Place
place job layer p q = record { job = job; layer = layer; jobs = lit< p; layers = lit< q }

abbrev setup : (batch nozzle plate profile : ℕ) → T (nat_lt batch 65536) → T (nat_lt nozzle 65536) → T (nat_lt plate 65536) → T (nat_lt profile 65536) → Setup
setup batch nozzle plate profile p q r s = record { batch = batch; nozzle = nozzle; plate = plate; profile = profile; small = (lit< p, lit< q, lit< r, lit< s) }

abbrev settings : (mask : ℕ) (values : Setup) → T (proper mask values) → Settings
settings mask values p = chosen mask values

-- ---- beliefs of a counter on the clock

abbrev material : Kinds Counter Clock Level
material = record { start = counting.no_level; acts = counting.level_after; upto = clock_upto }

abbrev operation : ℕ → Clock → Counter → Operation Counter Clock
operation n t e = record { number = n; time = t; effect = e }

-- what is left at a time, in hundredths of a gram
abbrev left : Belief Counter Clock → Clock → ℕ
left belief t = (state material belief t).hundredths

-- set 100,000 at 10; take 90,000 at 30; and then, entered late, take 30,000 at 20
abbrev spool : Belief Counter Clock
spool =
    entered material (operation 3 (clock 20 tt) (take 30000 tt tt))
    (entered material (operation 2 (clock 30 tt) (take 90000 tt tt)) (entered material (operation 1 (clock 10 tt) (set_to 100000 tt tt)) []))

-- set 50 and then take 20, both at 8
abbrev equal_times : Belief Counter Clock
equal_times = entered material (operation 2 (clock 8 tt) (take 20 tt tt)) (entered material (operation 1 (clock 8 tt) (set_to 50 tt tt)) [])

-- ---- the cases

pub record Cases : Type 0 where
  pub nothing_entered : (t : Clock) → left [] t ≡ 0
  pub taken_twice : left spool (clock 30 tt) ≡ 0
  pub first_withdrawn : left (without 3 spool) (clock 30 tt) ≡ 10000
  -- where adding the 90,000 back would give 90,000
  pub second_withdrawn : left (without 2 spool) (clock 30 tt) ≡ 70000
  pub takings_compose : counting.joined (take 30000 tt tt) (take 90000 tt tt) ≡ counter (neg_ℤ (pos 120000)) 0 910000 tt tt tt tt
  pub second_value_wins : overwriting.joined (settings 0x01 (setup 7 0 0 0 tt tt tt tt) tt) (settings 0x03 (setup 9 4 0 0 tt tt tt tt) tt) ≡ settings 0x03 (setup 9 4 0 0 tt tt tt tt) tt
  pub pause_then_resume : turns.joined (event_transitions Pause) (event_transitions Resume) ≡ event_transitions Resume
  -- a raft layer comes before layer 0 of its job, and not the other way round
  pub raft_before : (place_upto (place 5 (negsuc 0) tt tt) (place 5 (pos 0) tt tt) ≡ true) × (place_upto (place 5 (pos 0) tt tt) (place 5 (negsuc 0) tt tt) ≡ false)
  pub at_equal_times : (left equal_times (clock 8 tt) ≡ 30) × (left equal_times (clock 7 tt) ≡ 0)
