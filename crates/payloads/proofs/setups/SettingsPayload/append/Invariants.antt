-- What is appended and what is left to append are the whole layout, and as long.
use Rattle.std.proofs.Common.{◌≡◌, ◌+◌, ◌++◌, length, drop}
use Rattle.std.specs.List.{flat_map}
use Rattle.payloads.specs.Setups.{field_bytes, settings_layout}
use Rattle.payloads.proofs.setups.SettingsPayload.append.Given as goal

abbrev pub invariant-loop-field : goal.invariant-loop-field
invariant-loop-field l = record {
  items : l.out ++ flat_map field_bytes (drop l.field-index l.field-items) ≡ l.fn.out ++ settings_layout l.fn.form;
  len : length l.out + length (flat_map field_bytes (drop l.field-index l.field-items)) ≡ length l.fn.out + length (settings_layout l.fn.form);
}
