-- The words of settings and of a set-up.
use Rattle.std.specs.Prelude.{ℕ, ◌+◌, ◌*◌, ◌/◌, ◌%◌, ◌^◌, T, Option, nat_lt}
use Rattle.std.proofs.Common.{arith, ltb→lt}
use Rattle.words.specs.Given.{given}
use Rattle.words.specs.declared.EffectWords.{EffectWords}
use Rattle.words.specs.declared.StateWords.{StateWords}
use Rattle.settings.specs.Masks.{settings_of, mask_of, values_of}
use Rattle.settings.specs.declared.Setup.{Setup}
use Rattle.settings.specs.declared.Settings.{Settings}

-- the fields, field 0 highest
abbrev pub setup_word : Setup → ℕ
setup_word s = s.batch * 2 ^ 48 + s.nozzle * 2 ^ 32 + s.plate * 2 ^ 16 + s.profile

abbrev pub setup_words : Setup → StateWords
setup_words s = record { first = setup_word s }

-- the set-up of a word of 64 bits
abbrev pub setup_of : (word : ℕ) → T (nat_lt word (2 ^ 64)) → Setup
setup_of word small = record {
  batch = word / 2 ^ 48;
  nozzle = word / 2 ^ 32 % 65536;
  plate = word / 2 ^ 16 % 65536;
  profile = word % 65536;
  small = (omega (arith, ltb→lt word (2 ^ 64) small), omega arith, omega arith, omega arith);
}

-- the mask, then the values, 0 where unmasked
abbrev pub settings_words : Settings → EffectWords
settings_words s = record { first = mask_of s; second = setup_word (values_of s) }

-- the settings that words are those of, or none
abbrev pub settings_read : EffectWords → Option Settings
settings_read w = given (nat_lt w.second (2 ^ 64)) (λ small. settings_of w.first (setup_of w.second small))
