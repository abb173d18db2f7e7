-- Set-ups and settings of the same fields are the same, since a ghost field has one proof at most.
use Rattle.std.specs.Prelude.{◌≡◌}
use Rattle.std.specs.Coded.{coded_option, coded_ℕ}
use denote.Struct.Record.{values_one}
use Rattle.settings.specs.declared.Setup.{Setup}
use Rattle.settings.specs.declared.Settings.{Settings}
use Rattle.settings.specs.contracts.Setup as setup
use Rattle.settings.specs.contracts.Settings as settings

pub same_setup : (a b : Setup) → a.batch ≡ b.batch → a.nozzle ≡ b.nozzle → a.plate ≡ b.plate → a.profile ≡ b.profile → a ≡ b
same_setup a b p q r s = values_one setup.struct setup.the_propositions a b (λ i. (p i, (q i, (r i, (s i, tt)))))

pub same_settings : (a b : Settings) → a.batch ≡ b.batch → a.nozzle ≡ b.nozzle → a.plate ≡ b.plate → a.profile ≡ b.profile → a ≡ b
same_settings a b p q r s = values_one settings.struct (settings.the_propositions (coded_option coded_ℕ)) a b (λ i. (p i, (q i, (r i, (s i, tt)))))
