-- The payload of settings: the mask, then a value of 2 bytes for each field that it has, in the order of the fields.
use Rattle.std.specs.Prelude.{◌≡◌, ℕ, ◌+◌, ◌*◌, ◌^◌, ◌<◌, Bool, cond, List, [], ◌∷◌, length, take, drop, Some, None, Option, bit_and, count_ones, nat_le}
use Rattle.std.specs.Borrow.{Bor}
use Rattle.std.specs.Bool.{then_some}
use Rattle.std.specs.List.{flat_map}
use Rattle.std.specs.Option.{unwrap_or}
use Rattle.words.specs.Given.{given}
use Rattle.big_endian.specs.Numbers.{bytes_of, worth}
use Rattle.settings.specs.Overwriting.{fields_of}
use Rattle.settings.specs.Masks.{masked, mask_of}
use Rattle.settings.specs.Packing.{settings_read}
use Rattle.settings.specs.declared.Settings.{Settings}

-- the bytes of a field: those of its value, where it has one
abbrev pub field_bytes : Option ℕ → List ℕ
field_bytes None = []
field_bytes (Some value) = bytes_of 2 value

-- Of a field that the mask has or lacks: how many bytes it has, what it is at the start of bytes, its value there or 0, and the bytes after it.
abbrev pub width : Bool → ℕ
width has = cond has 2 0

abbrev pub field_in : Bool → List ℕ → Option ℕ
field_in has bs = then_some has (worth (take 2 bs))

abbrev pub value : Bool → List ℕ → ℕ
value has bs = unwrap_or (field_in has bs) 0

abbrev pub after : Bool → List ℕ → List ℕ
after has bs = cond has (drop 2 bs) bs

abbrev pub Splits : Bool → List ℕ → Option (Option ℕ × Bor (List ℕ)) → Type 0
Splits has bs None = length bs < width has
Splits has bs (Some p) = (p.0 ≡ field_in has bs) × (p.1.now ≡ after has bs) × (length p.1.now + width has ≡ length bs)

abbrev pub settings_layout : Settings → List ℕ
settings_layout s = mask_of s ∷ flat_map field_bytes (fields_of s)

-- the mask, and two bytes for each one bit among its low four; bytes too few to hold a mask are too few for any
abbrev pub settings_size : List ℕ → ℕ
settings_size [] = 1
settings_size (mask ∷ bs) = 1 + 2 * count_ones (bit_and mask 15)

-- the values at the start of bytes as a set-up's word, field 0 highest
abbrev pub values_word : ℕ → List ℕ → ℕ
values_word mask bs =
    let bs₁ = after (masked mask 0) bs in
    let bs₂ = after (masked mask 1) bs₁ in
    let bs₃ = after (masked mask 2) bs₂ in
    value (masked mask 0) bs * 2 ^ 48 + value (masked mask 1) bs₁ * 2 ^ 32 + value (masked mask 2) bs₂ * 2 ^ 16 + value (masked mask 3) bs₃

-- the settings of a mask whose values bytes begin with; there are none of a mask above 0f
abbrev pub settings_in : ℕ → List ℕ → Option Settings
settings_in mask bs = given (nat_le (2 * count_ones (bit_and mask 15)) (length bs)) (λ _. settings_read (record { first = mask; second = values_word mask bs }))

abbrev pub settings_parsed : List ℕ → Option Settings
settings_parsed [] = None
settings_parsed (mask ∷ bs) = settings_in mask bs
