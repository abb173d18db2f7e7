-- The bytes that stand for kinds and commands.
use Rattle.std.specs.Prelude.{ℕ, cond, Some, None, Option, Result, ◌==◌}
use Rattle.std.specs.Option.{ok_or}
use Rattle.commands.specs.declared.command.EffectKind.{EffectKind}
use Rattle.commands.specs.declared.command.EffectKind.TheVariants.{Counter, Settings, Status}
use Rattle.commands.specs.declared.command.TimeKind.{TimeKind}
use Rattle.commands.specs.declared.command.TimeKind.TheVariants.{Clock, Place}
use Rattle.commands.specs.declared.command.Code.{Code}
use Rattle.commands.specs.declared.command.Code.TheVariants.{Open, Enter, Withdraw, State, Latest, Count}
use Rattle.commands.specs.declared.command.UnknownCode.{UnknownCode}

abbrev pub effect_code : EffectKind → ℕ
effect_code Counter = 0x01
effect_code Settings = 0x02
effect_code Status = 0x03

abbrev pub effect_kind : ℕ → Option EffectKind
effect_kind b = cond (b == 0x01) (Some Counter) (cond (b == 0x02) (Some Settings) (cond (b == 0x03) (Some Status) None))

abbrev pub time_code : TimeKind → ℕ
time_code Clock = 0x01
time_code Place = 0x02

abbrev pub time_kind : ℕ → Option TimeKind
time_kind b = cond (b == 0x01) (Some Clock) (cond (b == 0x02) (Some Place) None)

-- the first byte of a command's frame
abbrev pub code_byte : Code → ℕ
code_byte Open = 0x01
code_byte Enter = 0x10
code_byte Withdraw = 0x11
code_byte State = 0x20
code_byte Latest = 0x21
code_byte Count = 0x22

abbrev pub code_of : ℕ → Option Code
code_of b =
    cond (b == 0x01) (Some Open)
    (cond (b == 0x10) (Some Enter)
    (cond (b == 0x11) (Some Withdraw)
    (cond (b == 0x20) (Some State)
    (cond (b == 0x21) (Some Latest)
    (cond (b == 0x22) (Some Count) None)))))

-- what a byte stands for, or the byte, where it stands for nothing
abbrev pub coded : {K : Type 0} → (ℕ → Option K) → ℕ → Result K UnknownCode
coded read byte = ok_or (read byte) (record { 0 = byte })
