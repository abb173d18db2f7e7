-- Settings as a mask, in which 2 ^ i stands for field i, and values.
use Rattle.std.specs.Prelude.{◌≡◌, ℕ, ◌+◌, ◌*◌, ◌/◌, ◌%◌, ◌^◌, ◌<◌, Bool, true, false, cond, ◌&&◌, ◌||◌, ◌==◌, nat_lt, if◌then◌else◌, Some, None, Option, is_some, IfSome}
use Rattle.std.specs.Int.{from_bool}
use Rattle.std.specs.Bool.{then_some}
use Rattle.settings.specs.Overwriting.{all_zero, overwritten}
use Rattle.settings.specs.declared.Setup.{Setup}
use Rattle.settings.specs.declared.Settings.{Settings}

-- whether a mask has field i
abbrev pub masked : ℕ → ℕ → Bool
masked mask i = mask / 2 ^ i % 2 == 1

-- what a mask makes of field i: the new value where it has the field, and else the old
abbrev pub over : ℕ → ℕ → ℕ → ℕ → ℕ
over mask i new old = cond (masked mask i) new old

-- 1 for a field that has a new value
abbrev pub flag : Option ℕ → ℕ
flag field = from_bool (is_some field)

abbrev pub mask_of : Settings → ℕ
mask_of s = flag s.batch + flag s.nozzle * 2 + flag s.plate * 4 + flag s.profile * 8

-- the new values, and 0 where there is none
abbrev pub values_of : Settings → Setup
values_of s = overwritten s all_zero

-- a value is 0 where its field is not masked
abbrev pub bare : Bool → ℕ → Bool
bare has value = has || value == 0

pub some_small : (has : Bool) {n : ℕ} → n < 65536 → IfSome (then_some has n) (λ n. n < 65536)
some_small true p = p
some_small false p = tt

-- the values of the fields that a mask has
abbrev pub chosen : ℕ → Setup → Settings
chosen mask values = record {
  batch = then_some (masked mask 0) values.batch;
  nozzle = then_some (masked mask 1) values.nozzle;
  plate = then_some (masked mask 2) values.plate;
  profile = then_some (masked mask 3) values.profile;
  small = (
    some_small (masked mask 0) values.small.0,
    some_small (masked mask 1) values.small.1,
    some_small (masked mask 2) values.small.2,
    some_small (masked mask 3) values.small.3,
  );
}

-- a mask 00 to 0f, and values that are 0 where it has no field
abbrev pub proper : ℕ → Setup → Bool
proper mask values = nat_lt mask 16 && bare (masked mask 0) values.batch && bare (masked mask 1) values.nozzle && bare (masked mask 2) values.plate && bare (masked mask 3) values.profile

-- `proper` as a proposition: what all settings keep
abbrev pub Proper : ℕ → Setup → Type 0
Proper mask values = (mask < 16) × (masked mask 0 ≡ false → values.batch ≡ 0) × (masked mask 1 ≡ false → values.nozzle ≡ 0) × (masked mask 2 ≡ false → values.plate ≡ 0) × (masked mask 3 ≡ false → values.profile ≡ 0)

-- the settings of a mask and values, or none where these are not proper
abbrev pub settings_of : ℕ → Setup → Option Settings
settings_of mask values = (if proper mask values then Some (chosen mask values) else None)
