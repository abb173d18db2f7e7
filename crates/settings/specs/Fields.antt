-- A field that two masks overwrite in turn is what the joined masks make of it, and so composing joins the masks, and the second's value wins.
use Rattle.std.specs.Prelude.{◌≡◌, ℕ, zero, suc, ◌/◌, ◌%◌, ◌^◌, ◌<◌, Bool, true, false, cond, ◌||◌, T, Some, None, Option, ◌==◌, is_some, bit_or, nat_eq, refl}
use Rattle.std.specs.Option.{option_or}
use Rattle.std.proofs.Common.{sym, ap, ap₂, ◌∙◌, arith, eqb→eq}
use Rattle.std.proofs.lemmas.Nat.{or_lt, or_shr, or_mod}
use Rattle.std.proofs.lemmas.Bool.{true≢false}
use Rattle.settings.specs.Overwriting.{overwritten, joined, or_in_turn}
use Rattle.settings.specs.Masks.{masked, over, mask_of, values_of}
use Rattle.settings.specs.declared.Settings.{Settings}
use Rattle.settings.specs.Sames.{same_setup}
use Rattle.settings.specs.Made.{mask_small, mask_has, mask_from}

-- a value that passes the test is 0 where its field is not masked
pub bare_from : (b : Bool) (n : ℕ) → T (b || n == 0) → b ≡ false → n ≡ 0
bare_from true n passed off = absurd (true≢false off)
bare_from false n passed off = eqb→eq n 0 passed

-- two digits of masks, joined, are 1 where one of them is
digit_or : (a b : ℕ) → a < 2 → b < 2 → (bit_or a b == 1) ≡ (a == 1 || b == 1)
digit_or zero b p q = refl
digit_or (suc zero) zero p q = refl
digit_or (suc zero) (suc zero) p q = refl
digit_or (suc zero) (suc (suc b)) p q = absurd (omega arith)
digit_or (suc (suc a)) b p q = absurd (omega arith)

-- joined masks have the fields that one of the two has
pub masked_or : (m n i : ℕ) → masked (bit_or m n) i ≡ (masked m i || masked n i)
masked_or m n i =
    ap (λ d. nat_eq (d % 2) 1) (or_shr m n i) ∙ ap (λ d. nat_eq d 1) (or_mod (m / 2 ^ i) (n / 2 ^ i) 1)
    ∙ digit_or (m / 2 ^ i % 2) (n / 2 ^ i % 2) (omega arith) (omega arith)

-- the same as `over_bare`, of two tests
bare_or : (a b : Bool) (x y : ℕ) → (a ≡ false → x ≡ 0) → (b ≡ false → y ≡ 0) → (a || b) ≡ false → cond b y x ≡ 0
bare_or true b x y p q h = absurd (true≢false h)
bare_or false true x y p q h = absurd (true≢false h)
bare_or false false x y p q h = p refl

-- a field that neither mask has is 0 in both
pub over_bare : (m n i x y : ℕ) → (masked m i ≡ false → x ≡ 0) → (masked n i ≡ false → y ≡ 0) → masked (bit_or m n) i ≡ false → over n i y x ≡ 0
over_bare m n i x y p q h = bare_or (masked m i) (masked n i) x y p q (sym (masked_or m n i) ∙ h)

-- of two choices in turn the second wins
chosen_twice : (a b : Bool) (x y z : ℕ) → cond (a || b) (cond b y x) z ≡ cond b y (cond a x z)
chosen_twice true true x y z = refl
chosen_twice true false x y z = refl
chosen_twice false true x y z = refl
chosen_twice false false x y z = refl

-- field i, overwritten by mask m and then by mask n, is what the joined masks make of it
pub over_twice : (m n i x y z : ℕ) → over (bit_or m n) i (over n i y x) z ≡ over n i y (over m i x z)
over_twice m n i x y z = ap (λ b. cond b (over n i y x) z) (masked_or m n i) ∙ chosen_twice (masked m i) (masked n i) x y z

-- ---- settings in turn

there_or : (f g : Option ℕ) → is_some (option_or g f) ≡ (is_some f || is_some g)
there_or None None = refl
there_or None (Some n) = refl
there_or (Some m) None = refl
there_or (Some m) (Some n) = refl

-- composing joins the masks
pub mask_joined : (f g : Settings) → mask_of (joined f g) ≡ bit_or (mask_of f) (mask_of g)
mask_joined f g =
    let m = mask_of f in let n = mask_of g in
    let first = mask_has f in let second = mask_has g in
    let has = λ (i : ℕ) (x y : Option ℕ) (p : masked m i ≡ is_some x) (q : masked n i ≡ is_some y). there_or x y ∙ sym (masked_or m n i ∙ ap₂ ◌||◌ p q) in
    mask_from (bit_or m n) (joined f g) (or_lt 4 m n (mask_small f) (mask_small g))
    (has 0 f.batch g.batch first.0 second.0) (has 1 f.nozzle g.nozzle first.1 second.1) (has 2 f.plate g.plate first.2 second.2) (has 3 f.profile g.profile first.3 second.3)

-- and the second's value wins
pub values_joined : (f g : Settings) → values_of (joined f g) ≡ overwritten g (values_of f)
values_joined f g = same_setup _ _ (or_in_turn f.batch g.batch 0) (or_in_turn f.nozzle g.nozzle 0) (or_in_turn f.plate g.plate 0) (or_in_turn f.profile g.profile 0)
