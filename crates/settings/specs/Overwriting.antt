-- What settings do to a set-up.
use Rattle.std.specs.Prelude.{◌≡◌, ℕ, ◌<◌, IfSome, List, [], ◌∷◌, Some, None, Option, refl}
use Rattle.std.specs.Option.{unwrap_or, option_or}
use Rattle.std.proofs.Common.{lit<}
use Rattle.settings.specs.declared.Setup.{Setup}
use Rattle.settings.specs.declared.Settings.{Settings}

-- fields 0 to 3, in order
abbrev pub fields_of : Settings → List (Option ℕ)
fields_of s = s.batch ∷ s.nozzle ∷ s.plate ∷ s.profile ∷ []

-- the start
abbrev pub all_zero : Setup
all_zero = record { batch = 0; nozzle = 0; plate = 0; profile = 0; small = (lit< tt, lit< tt, lit< tt, lit< tt) }

pub over_small : (new : Option ℕ) {old : ℕ} → IfSome new (λ n. n < 65536) → old < 65536 → unwrap_or new old < 65536
over_small None p q = q
over_small (Some n) p q = p

-- settings acting on a set-up: the new value of a field, where there is one, and else the old
abbrev pub overwritten : Settings → Setup → Setup
overwritten s old = record {
  batch = unwrap_or s.batch old.batch;
  nozzle = unwrap_or s.nozzle old.nozzle;
  plate = unwrap_or s.plate old.plate;
  profile = unwrap_or s.profile old.profile;
  small = (
    over_small s.batch s.small.0 old.small.0,
    over_small s.nozzle s.small.1 old.small.1,
    over_small s.plate s.small.2 old.small.2,
    over_small s.profile s.small.3 old.small.3,
  );
}

-- no change
abbrev pub no_settings : Settings
no_settings = record { batch = None; nozzle = None; plate = None; profile = None; small = (tt, tt, tt, tt) }

pub or_small : (new old : Option ℕ) → IfSome new (λ n. n < 65536) → IfSome old (λ n. n < 65536) → IfSome (option_or new old) (λ n. n < 65536)
or_small None old p q = q
or_small (Some n) old p q = p

-- first f, then g: g's value wins
abbrev pub joined : Settings → Settings → Settings
joined f g = record {
  batch = option_or g.batch f.batch;
  nozzle = option_or g.nozzle f.nozzle;
  plate = option_or g.plate f.plate;
  profile = option_or g.profile f.profile;
  small = (
    or_small g.batch f.batch g.small.0 f.small.0,
    or_small g.nozzle f.nozzle g.small.1 f.small.1,
    or_small g.plate f.plate g.small.2 f.small.2,
    or_small g.profile f.profile g.small.3 f.small.3,
  );
}

-- a field's new value out of both is what the second makes of the first's
pub or_in_turn : (f g : Option ℕ) (n : ℕ) → unwrap_or (option_or g f) n ≡ unwrap_or g (unwrap_or f n)
or_in_turn f None n = refl
or_in_turn f (Some m) n = refl
