-- Kinds and openings in words.
use Rattle.std.specs.Prelude.{ℕ, List, ◌++◌, codes}
use Rattle.std.specs.Fmt.{decimal}
use Rattle.commands.specs.declared.command.EffectKind.{EffectKind}
use Rattle.commands.specs.declared.command.EffectKind.TheVariants.{Counter, Settings, Status}
use Rattle.commands.specs.declared.command.TimeKind.{TimeKind}
use Rattle.commands.specs.declared.command.TimeKind.TheVariants.{Clock, Place}
use Rattle.commands.specs.declared.command.Opening.{Opening}

abbrev pub effect_name : EffectKind → List ℕ
effect_name Counter = codes "counter"
effect_name Settings = codes "settings"
effect_name Status = codes "status"

abbrev pub time_name : TimeKind → List ℕ
time_name Clock = codes "clock"
time_name Place = codes "place"

-- what a record is opened with
abbrev pub opening_text : Opening → List ℕ
opening_text o =
    codes "open with " ++ (effect_name o.effects ++ (codes " on " ++ (time_name o.times ++ (codes ", quota " ++ (decimal o.quota ++ codes " cells")))))
