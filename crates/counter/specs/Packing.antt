-- The words of a counter and of a level.
use Rattle.std.specs.Prelude.{◌+◌, ◌*◌, ◌/◌, ◌%◌, ◌^◌, cond, pos, negsuc, ◌+ℤ◌, None, Option, ◌==◌, unsigned_abs}
use Rattle.words.specs.declared.EffectWords.{EffectWords}
use Rattle.words.specs.declared.StateWords.{StateWords}
use Rattle.counter.specs.Counting.{counter_of}
use Rattle.counter.specs.declared.Level.{Level}
use Rattle.counter.specs.declared.Counter.{Counter}

-- the first word: (amount + 1,000,000) * 2 ^ 42 + floor * 2 ^ 21 + ceiling
abbrev pub counter_words : Counter → EffectWords
counter_words c = record {
  first = unsigned_abs (c.amount +ℤ pos 1000000) * 2 ^ 42 + c.floor.hundredths * 2 ^ 21 + c.ceiling.hundredths;
  second = 0;
}

-- the counter that words are those of, or none
abbrev pub counter_read : EffectWords → Option Counter
counter_read w = cond (w.second == 0) (counter_of (pos (w.first / 2 ^ 42) +ℤ negsuc 999999) (w.first / 2 ^ 21 % 2 ^ 21) (w.first % 2 ^ 21)) None

abbrev pub level_words : Level → StateWords
level_words l = record { first = l.hundredths }
