-- `settings_of` gives the settings of a mask and values wherever there are any.
use Rattle.std.specs.Prelude.{◌≡◌, ℕ, zero, suc, ◌/◌, ◌%◌, ◌^◌, ◌<◌, Bool, true, false, ◌&&◌, ◌||◌, T, Some, None, Option, ◌==◌, nat_lt, is_some, if◌then◌else◌, refl}
use Rattle.std.specs.Bool.{then_some}
use Rattle.std.specs.Cmp.Derive.{both_true}
use Rattle.std.specs.Int.{from_bool}
use Rattle.std.specs.Option.{unwrap_or}
use Rattle.std.proofs.Common.{sym, ap, ap₂, subst, ◌∙◌, arith, eq-eqb}
use Rattle.std.proofs.lemmas.Bool.{lt-ltb, ltb-true, eqb-true, true≢false}
use Rattle.std.proofs.lemmas.Option.{cond_some}
use Rattle.words.proofs.Giving.{none_where, some_same}
use Rattle.settings.specs.Masks.{masked, bare, flag, mask_of, values_of, chosen, proper, Proper, settings_of}
use Rattle.settings.specs.declared.Setup.{Setup}
use Rattle.settings.specs.declared.Settings.{Settings}
use Rattle.settings.specs.Sames.{same_setup, same_settings}

-- ---- one field

flag_small : (f : Option ℕ) → flag f < 2
flag_small None = omega arith
flag_small (Some n) = omega arith

flag_tells : (f : Option ℕ) (d : ℕ) → d ≡ flag f → (d == 1) ≡ is_some f
flag_tells None d is = ap (λ d. d == 1) is
flag_tells (Some n) d is = ap (λ d. d == 1) is

flag_is : (f : Option ℕ) (d : ℕ) → d < 2 → is_some f ≡ (d == 1) → flag f ≡ d
flag_is f zero small is = ap from_bool is
flag_is f (suc zero) small is = ap from_bool is
flag_is f (suc (suc d)) small is = absurd (omega arith)

pub there_if : (has : Bool) (v : ℕ) → is_some (then_some has v) ≡ has
there_if true v = refl
there_if false v = refl

-- a field's value, or 0, is bare, and gives the field back
bare_back : (f : Option ℕ) (has : Bool) → has ≡ is_some f → (bare has (unwrap_or f 0) ≡ true) × (then_some has (unwrap_or f 0) ≡ f)
bare_back None has is = rw is (refl, refl)
bare_back (Some n) has is = rw is (refl, refl)

-- a bare value is what its field gives
value_back : (has : Bool) (v : ℕ) → bare has v ≡ true → unwrap_or (then_some has v) 0 ≡ v
value_back true v passed = refl
value_back false v passed = sym (eqb-true v 0 passed)

-- the test that a value is bare where its field is not masked
bare_test : (b : Bool) (n : ℕ) → (b ≡ false → n ≡ 0) → T (b || n == 0)
bare_test true n bare = tt
bare_test false n bare = rw (eq-eqb n 0 (bare refl)) tt

-- a field that is not masked has no value but 0
zero_off : (f : Option ℕ) (has : Bool) → has ≡ is_some f → has ≡ false → unwrap_or f 0 ≡ 0
zero_off None has is off = refl
zero_off (Some n) has is off = absurd (true≢false (sym is ∙ off))

-- ---- four fields

both : (a b : Bool) → (a && b) ≡ true → (a ≡ true) × (b ≡ true)
both true b is = (refl, is)
both false b is = absurd (true≢false (sym is))

pub mask_small : (s : Settings) → mask_of s < 16
mask_small s = let b = flag_small s.batch in let n = flag_small s.nozzle in let p = flag_small s.plate in let q = flag_small s.profile in omega arith

-- settings have no other mask than that of their fields
pub mask_from : (mask : ℕ) (s : Settings) → mask < 16 →
    is_some s.batch ≡ masked mask 0 → is_some s.nozzle ≡ masked mask 1 → is_some s.plate ≡ masked mask 2 → is_some s.profile ≡ masked mask 3 → mask_of s ≡ mask
mask_from mask s four h₀ h₁ h₂ h₃ =
    let b = flag_is s.batch (mask / 2 ^ 0 % 2) (omega arith) h₀ in
    let n = flag_is s.nozzle (mask / 2 ^ 1 % 2) (omega arith) h₁ in
    let p = flag_is s.plate (mask / 2 ^ 2 % 2) (omega arith) h₂ in
    let q = flag_is s.profile (mask / 2 ^ 3 % 2) (omega arith) h₃ in
    omega arith

-- the mask has the fields that have a new value
pub mask_has : (s : Settings) → (masked (mask_of s) 0 ≡ is_some s.batch) × (masked (mask_of s) 1 ≡ is_some s.nozzle) × (masked (mask_of s) 2 ≡ is_some s.plate) × (masked (mask_of s) 3 ≡ is_some s.profile)
mask_has s =
    let b = flag_small s.batch in let n = flag_small s.nozzle in let p = flag_small s.plate in let q = flag_small s.profile in
    (flag_tells s.batch _ (omega arith), flag_tells s.nozzle _ (omega arith), flag_tells s.plate _ (omega arith), flag_tells s.profile _ (omega arith))

pub settings_back : (s : Settings) → settings_of (mask_of s) (values_of s) ≡ Some s
settings_back s =
    let has = mask_has s in
    let b = bare_back s.batch (masked (mask_of s) 0) has.0 in
    let n = bare_back s.nozzle (masked (mask_of s) 1) has.1 in
    let p = bare_back s.plate (masked (mask_of s) 2) has.2 in
    let q = bare_back s.profile (masked (mask_of s) 3) has.3 in
    ap (λ test. if test then Some (chosen (mask_of s) (values_of s)) else None)
    (both_true (both_true (both_true (both_true (lt-ltb (mask_of s) 16 (mask_small s)) b.0) n.0) p.0) q.0)
    ∙ ap Some (same_settings _ s b.1 n.1 p.1 q.1)

-- settings are the values that their own mask has among their own values
pub chosen_back : (s : Settings) → chosen (mask_of s) (values_of s) ≡ s
chosen_back s = let made = cond_some (proper (mask_of s) (values_of s)) (chosen (mask_of s) (values_of s)) s (settings_back s) in made.1

pub settings_from : (mask : ℕ) (values : Setup) (s : Settings) → settings_of mask values ≡ Some s → (mask_of s ≡ mask) × (values_of s ≡ values)
settings_from mask values s is =
    let made = cond_some (proper mask values) (chosen mask values) s is in
    let t₄ = both _ (bare (masked mask 3) values.profile) made.0 in
    let t₃ = both _ (bare (masked mask 2) values.plate) t₄.0 in
    let t₂ = both _ (bare (masked mask 1) values.nozzle) t₃.0 in
    let t₁ = both (nat_lt mask 16) (bare (masked mask 0) values.batch) t₂.0 in
    let four : mask < 16 = ltb-true mask 16 t₁.0 in
    let m = mask_from mask (chosen mask values) four (there_if _ values.batch) (there_if _ values.nozzle) (there_if _ values.plate) (there_if _ values.profile) in
    let v : values_of (chosen mask values) ≡ values =
    same_setup _ values (value_back (masked mask 0) values.batch t₁.1) (value_back (masked mask 1) values.nozzle t₂.1) (value_back (masked mask 2) values.plate t₃.1) (value_back (masked mask 3) values.profile t₄.1) in
    (ap mask_of (sym made.1) ∙ m, ap values_of (sym made.1) ∙ v)

-- the mask and the values of settings are proper
pub proper_back : (s : Settings) → Proper (mask_of s) (values_of s)
proper_back s = let has = mask_has s in (mask_small s, zero_off s.batch _ has.0, zero_off s.nozzle _ has.1, zero_off s.plate _ has.2, zero_off s.profile _ has.3)

-- r holds the settings of a mask and values, or is none where there are none such
abbrev pub IsSettings : ℕ → Setup → Option Settings → Type 0
IsSettings mask values None = Proper mask values → ⊥
IsSettings mask values (Some s) = (mask_of s ≡ mask) × (values_of s ≡ values)

-- so r is `settings_of` that mask and these values
pub settings_is : (mask : ℕ) (values : Setup) (r : Option Settings) → IsSettings mask values r → r ≡ settings_of mask values
settings_is mask values None never =
    sym (none_where _ (λ s is. let e = settings_from mask values s is in never (subst (λ m. Proper m values) e.0 (subst (Proper (mask_of s)) e.1 (proper_back s)))))
settings_is mask values (Some s) is = sym (ap (λ m. settings_of m values) (sym is.0) ∙ ap (settings_of (mask_of s)) (sym is.1) ∙ settings_back s)

-- settings of the same mask and the same values are the same
pub same_by_mask : (a b : Settings) → mask_of a ≡ mask_of b → values_of a ≡ values_of b → a ≡ b
same_by_mask a b p q = some_same (sym (settings_back a) ∙ ap₂ settings_of p q ∙ settings_back b)
