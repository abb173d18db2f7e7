-- Settings' bytes are read as they are, whatever follows them, and only they are.
use Rattle.std.specs.Prelude.{◌≡◌, ℕ, zero, suc, ◌+◌, ◌*◌, ◌^◌, ◌<◌, ◌≤◌, Bool, true, false, T, List, [], ◌∷◌, ◌++◌, length, take, drop, Some, None, Option, is_some, IfSome, nat_le, refl}
use Rattle.std.specs.Bool.{then_some}
use Rattle.std.specs.Option.{unwrap_or}
use Rattle.std.specs.List.{flat_map}
use Rattle.std.proofs.lemmas.Bool.{true≢false}
use Rattle.std.proofs.Common.{sym, ap, ◌∙◌, append_assoc, append-nil, arith, le→leb, leb→le, length-drop, length-append, take-append-drop}
use Rattle.std.specs.Int.Bits.{bit_and}
use Rattle.std.specs.Int.Count.{ones}
use Rattle.std.specs.Int.Digits.{AllBelowBase}
use Rattle.std.proofs.ByRecursion.{All-drop}
use Rattle.words.specs.Given.{given}
use Rattle.words.proofs.Giving.{given_passed, given_failed, given_some}
use Rattle.big_endian.specs.Numbers.{bytes_of}
use Rattle.big_endian.proofs.Numbering.{worth_bytes}
use Rattle.settings.specs.Overwriting.{fields_of}
use Rattle.settings.specs.Masks.{masked, mask_of, values_of, settings_of}
use Rattle.settings.specs.Made.{mask_small, mask_has, mask_from, settings_back, chosen_back, there_if}
use Rattle.settings.specs.Packing.{setup_word, settings_read}
use Rattle.settings.specs.declared.Setup.{Setup}
use Rattle.settings.specs.declared.Settings.{Settings}
use Rattle.settings.specs.Words.{setup_apart, read_is, settings_reads_back, settings_reads_only, reads_none}
use Rattle.payloads.specs.Setups.{width, field_bytes, field_in, value, after, settings_layout, settings_size, values_word, settings_in, settings_parsed}
use Rattle.payloads.specs.Fronts.{front_back, front_below, begins}

-- the bytes of all fields that a mask has
abbrev pub widths_of : ℕ → ℕ
widths_of mask = width (masked mask 0) + (width (masked mask 1) + (width (masked mask 2) + width (masked mask 3)))

-- the count of ones tells them
widths : (mask : ℕ) → mask < 16 → 2 * ones (bit_and mask 15) ≡ widths_of mask
unfolding ones
widths zero h = refl
widths (suc zero) h = refl
widths (suc (suc zero)) h = refl
widths (suc (suc (suc zero))) h = refl
widths (suc (suc (suc (suc zero)))) h = refl
widths (suc (suc (suc (suc (suc zero))))) h = refl
widths (suc (suc (suc (suc (suc (suc zero)))))) h = refl
widths (suc (suc (suc (suc (suc (suc (suc zero))))))) h = refl
widths (suc (suc (suc (suc (suc (suc (suc (suc zero)))))))) h = refl
widths (suc (suc (suc (suc (suc (suc (suc (suc (suc zero))))))))) h = refl
widths (suc (suc (suc (suc (suc (suc (suc (suc (suc (suc zero)))))))))) h = refl
widths (suc (suc (suc (suc (suc (suc (suc (suc (suc (suc (suc zero))))))))))) h = refl
widths (suc (suc (suc (suc (suc (suc (suc (suc (suc (suc (suc (suc zero)))))))))))) h = refl
widths (suc (suc (suc (suc (suc (suc (suc (suc (suc (suc (suc (suc (suc zero))))))))))))) h = refl
widths (suc (suc (suc (suc (suc (suc (suc (suc (suc (suc (suc (suc (suc (suc zero)))))))))))))) h = refl
widths (suc (suc (suc (suc (suc (suc (suc (suc (suc (suc (suc (suc (suc (suc (suc zero))))))))))))))) h = refl
widths (suc (suc (suc (suc (suc (suc (suc (suc (suc (suc (suc (suc (suc (suc (suc (suc n)))))))))))))))) h = absurd (omega arith)

-- ---- one field

length_field : (f : Option ℕ) (has : Bool) → has ≡ is_some f → length (field_bytes f) ≡ width has
length_field None has is = rw is refl
length_field (Some v) has is = rw is refl

value_field : (f : Option ℕ) (has : Bool) (xs : List ℕ) → has ≡ is_some f → IfSome f (λ v. v < 65536) → value has (field_bytes f ++ xs) ≡ unwrap_or f 0
value_field None has xs is small = rw is refl
value_field (Some v) has xs is small = rw is (worth_bytes 2 v small)

after_field : (f : Option ℕ) (has : Bool) (xs : List ℕ) → has ≡ is_some f → after has (field_bytes f ++ xs) ≡ xs
after_field None has xs is = rw is refl
after_field (Some v) has xs is = rw is refl

field_back : (f : Option ℕ) (has : Bool) (bs : List ℕ) → has ≡ is_some f → unwrap_or f 0 ≡ value has bs → AllBelowBase 256 bs → width has ≤ length bs → field_bytes f ++ after has bs ≡ bs
field_back None has bs is same u long = rw is refl
field_back (Some v) false bs is same u long = absurd (true≢false (sym is))
field_back (Some v) true bs is same u long = ap (λ w. bytes_of 2 w ++ drop 2 bs) same ∙ ap (λ l. l ++ drop 2 bs) (front_back 2 bs u long) ∙ take-append-drop 2 bs

value_small : (has : Bool) (bs : List ℕ) → AllBelowBase 256 bs → width has ≤ length bs → value has bs < 65536
value_small true bs u long = front_below 2 bs u long
value_small false bs u long = omega arith

length_after : (has : Bool) (bs : List ℕ) → width has ≤ length bs → length (after has bs) + width has ≡ length bs
length_after true bs long = let e = length-drop 2 bs in omega arith
length_after false bs long = omega arith

under_after : (has : Bool) (bs : List ℕ) → AllBelowBase 256 bs → AllBelowBase 256 (after has bs)
under_after true bs u = All-drop (λ b. b < 256) 2 bs u
under_after false bs u = u

-- ---- all fields

four_joined : (a b c d e : List ℕ) → (a ++ (b ++ (c ++ d))) ++ e ≡ a ++ (b ++ (c ++ (d ++ e)))
four_joined a b c d e = simp append_assoc

-- the same of the four parts as one list of lists lays them
four_flat : (a b c d e : List ℕ) → (a ++ (b ++ (c ++ (d ++ [])))) ++ e ≡ a ++ (b ++ (c ++ (d ++ e)))
four_flat a b c d e = simp append_assoc

four_back : (a b c d x₀ x₁ x₂ x₃ x₄ : List ℕ) → a ++ x₁ ≡ x₀ → b ++ x₂ ≡ x₁ → c ++ x₃ ≡ x₂ → d ++ x₄ ≡ x₃ → (a ++ (b ++ (c ++ (d ++ [])))) ++ x₄ ≡ x₀
four_back a b c d x₀ x₁ x₂ x₃ x₄ p q r s = four_flat a b c d x₄ ∙ ap (λ l. a ++ (b ++ (c ++ l))) s ∙ ap (λ l. a ++ (b ++ l)) r ∙ ap (λ l. a ++ l) q ∙ p

length_layout : (s : Settings) → length (settings_layout s) ≡ 1 + widths_of (mask_of s)
length_layout s =
    let f₀ = field_bytes s.batch in let f₁ = field_bytes s.nozzle in let f₂ = field_bytes s.plate in let f₃ = field_bytes s.profile in
    let a = length-append f₀ (f₁ ++ (f₂ ++ (f₃ ++ []))) in
    let b = length-append f₁ (f₂ ++ (f₃ ++ [])) in
    let c = length-append f₂ (f₃ ++ []) in
    let d = length-append f₃ [] in
    let has = mask_has s in
    let l₀ = length_field s.batch _ has.0 in let l₁ = length_field s.nozzle _ has.1 in let l₂ = length_field s.plate _ has.2 in let l₃ = length_field s.profile _ has.3 in
    omega arith

pub settings_sized : (s : Settings) (rest : List ℕ) → settings_size (settings_layout s ++ rest) ≡ length (settings_layout s)
settings_sized s rest = let w = widths (mask_of s) (mask_small s) in let l = length_layout s in omega arith

width_most : (has : Bool) → width has ≤ 2
width_most true = omega arith
width_most false = omega arith

pub settings_short : (s : Settings) → length (settings_layout s) ≤ 23
settings_short s =
    let l = length_layout s in
    let a = width_most (masked (mask_of s) 0) in let b = width_most (masked (mask_of s) 1) in let c = width_most (masked (mask_of s) 2) in let d = width_most (masked (mask_of s) 3) in
    omega arith

four_worth : {a b c d a' b' c' d' : ℕ} → a ≡ a' → b ≡ b' → c ≡ c' → d ≡ d' → a * 2 ^ 48 + b * 2 ^ 32 + c * 2 ^ 16 + d ≡ a' * 2 ^ 48 + b' * 2 ^ 32 + c' * 2 ^ 16 + d'
four_worth p q r t = omega arith

-- the values of settings at the start of their bytes
values_again : (s : Settings) (rest : List ℕ) →
    values_word (mask_of s) (field_bytes s.batch ++ (field_bytes s.nozzle ++ (field_bytes s.plate ++ (field_bytes s.profile ++ rest)))) ≡ setup_word (values_of s)
values_again s rest =
    let m₀ = masked (mask_of s) 0 in let m₁ = masked (mask_of s) 1 in let m₂ = masked (mask_of s) 2 in let m₃ = masked (mask_of s) 3 in
    let has = mask_has s in
    let x₃ = field_bytes s.profile ++ rest in
    let x₂ = field_bytes s.plate ++ x₃ in
    let x₁ = field_bytes s.nozzle ++ x₂ in
    let x₀ = field_bytes s.batch ++ x₁ in
    let e₁ : after m₀ x₀ ≡ x₁ = after_field s.batch m₀ x₁ has.0 in
    let e₂ : after m₁ (after m₀ x₀) ≡ x₂ = ap (after m₁) e₁ ∙ after_field s.nozzle m₁ x₂ has.1 in
    let e₃ : after m₂ (after m₁ (after m₀ x₀)) ≡ x₃ = ap (after m₂) e₂ ∙ after_field s.plate m₂ x₃ has.2 in
    let v₀ = value_field s.batch m₀ x₁ has.0 s.small.0 in
    let v₁ = ap (value m₁) e₁ ∙ value_field s.nozzle m₁ x₂ has.1 s.small.1 in
    let v₂ = ap (value m₂) e₂ ∙ value_field s.plate m₂ x₃ has.2 s.small.2 in
    let v₃ = ap (value m₃) e₃ ∙ value_field s.profile m₃ rest has.3 s.small.3 in
    four_worth v₀ v₁ v₂ v₃

pub settings_again : (s : Settings) (rest : List ℕ) → settings_parsed (settings_layout s ++ rest) ≡ Some s
settings_again s rest =
    let body = flat_map field_bytes (fields_of s) in
    let whole = length-append body rest in
    let l = length_layout s in
    let w = widths (mask_of s) (mask_small s) in
    let joined = four_flat (field_bytes s.batch) (field_bytes s.nozzle) (field_bytes s.plate) (field_bytes s.profile) rest in
    given_passed (nat_le (2 * ones (bit_and (mask_of s) 15)) (length (body ++ rest))) _ (le→leb (2 * ones (bit_and (mask_of s) 15)) (length (body ++ rest)) (omega arith))
    ∙ ap (λ n. settings_read (record { first = mask_of s; second = n })) (ap (values_word (mask_of s)) joined ∙ values_again s rest) ∙ settings_reads_back s

pub settings_exact : (bs : List ℕ) (s : Settings) → AllBelowBase 256 bs → settings_parsed bs ≡ Some s → settings_layout s ≡ take (settings_size bs) bs
settings_exact [] s u is = let z : ◌≡◌ {A = ℕ} 0 1 = cc in absurd (omega arith)
settings_exact (mask ∷ bs) s u is =
    let read = given_some (nat_le (2 * ones (bit_and mask 15)) (length bs)) _ s is in
    let long = leb→le (2 * ones (bit_and mask 15)) (length bs) read.0 in
    let words = settings_reads_only (record { first = mask; second = values_word mask bs }) s read.1 in
    let same : mask_of s ≡ mask = ap (λ w. w.first) words in
    let four : mask < 16 = let h = mask_small s in omega arith in
    let w = widths mask four in
    let m₀ = masked mask 0 in let m₁ = masked mask 1 in let m₂ = masked mask 2 in let m₃ = masked mask 3 in
    let b₁ = after m₀ bs in let b₂ = after m₁ b₁ in let b₃ = after m₂ b₂ in let b₄ = after m₃ b₃ in
    let n₀ : width m₀ ≤ length bs = omega arith in
    let a₁ = length_after m₀ bs n₀ in
    let n₁ : width m₁ ≤ length b₁ = omega arith in
    let a₂ = length_after m₁ b₁ n₁ in
    let n₂ : width m₂ ≤ length b₂ = omega arith in
    let a₃ = length_after m₂ b₂ n₂ in
    let n₃ : width m₃ ≤ length b₃ = omega arith in
    let u₀ = u.1 in let u₁ = under_after m₀ bs u₀ in let u₂ = under_after m₁ b₁ u₁ in let u₃ = under_after m₂ b₂ u₂ in
    let values : Setup = record {
      batch = value m₀ bs;
      nozzle = value m₁ b₁;
      plate = value m₂ b₂;
      profile = value m₃ b₃;
      small = (value_small m₀ bs u₀ n₀, value_small m₁ b₁ u₁ n₁, value_small m₂ b₂ u₂ n₂, value_small m₃ b₃ u₃ n₃);
    } in
    let setup : values_of s ≡ values = setup_apart (values_of s) values (ap (λ x. x.second) words) in
    let has = mask_has s in
    let h₀ : m₀ ≡ is_some s.batch = ap (λ m. masked m 0) (sym same) ∙ has.0 in
    let h₁ : m₁ ≡ is_some s.nozzle = ap (λ m. masked m 1) (sym same) ∙ has.1 in
    let h₂ : m₂ ≡ is_some s.plate = ap (λ m. masked m 2) (sym same) ∙ has.2 in
    let h₃ : m₃ ≡ is_some s.profile = ap (λ m. masked m 3) (sym same) ∙ has.3 in
    let body : flat_map field_bytes (fields_of s) ++ b₄ ≡ bs =
    four_back (field_bytes s.batch) (field_bytes s.nozzle) (field_bytes s.plate) (field_bytes s.profile) bs b₁ b₂ b₃ b₄
    (field_back s.batch m₀ bs h₀ (ap (λ v. v.batch) {y = values} setup) u₀ n₀) (field_back s.nozzle m₁ b₁ h₁ (ap (λ v. v.nozzle) {y = values} setup) u₁ n₁)
    (field_back s.plate m₂ b₂ h₂ (ap (λ v. v.plate) {y = values} setup) u₂ n₂) (field_back s.profile m₃ b₃ h₃ (ap (λ v. v.profile) {y = values} setup) u₃ n₃) in
    let whole : settings_layout s ++ b₄ ≡ mask ∷ bs = ap (λ m. m ∷ (flat_map field_bytes (fields_of s) ++ b₄)) same ∙ ap (λ l. mask ∷ l) body in
    begins (settings_layout s) b₄ (mask ∷ bs) (settings_size (mask ∷ bs)) whole (sym (settings_sized s b₄) ∙ ap settings_size whole)

-- ---- the exits of the reading function

none_given : {A : Type 0} (test : Bool) (f : T test → Option A) → ((p : T test) → None ≡ f p) → None ≡ given test f
none_given true f h = h tt
none_given false f h = refl

pub too_high : (mask : ℕ) (bs : List ℕ) → 15 < mask → None ≡ settings_in mask bs
too_high mask bs high = none_given (nat_le (2 * ones (bit_and mask 15)) (length bs)) _ (λ _. reads_none (record { first = mask; second = values_word mask bs }) high)

pub too_short : (mask : ℕ) (bs : List ℕ) → mask ≤ 15 → length bs < widths_of mask → None ≡ settings_in mask bs
too_short mask bs four short =
    let w = widths mask (omega arith) in
    sym (given_failed (nat_le (2 * ones (bit_and mask 15)) (length bs)) _ (λ p. let h = leb→le (2 * ones (bit_and mask 15)) (length bs) p in omega arith))

-- reading makes of a mask and the values at the start of bytes what `settings_of` makes of them
pub settings_made : (mask : ℕ) (bs : List ℕ) (s : Setup) → mask ≤ 15 → widths_of mask ≤ length bs → setup_word s ≡ values_word mask bs → settings_of mask s ≡ settings_in mask bs
settings_made mask bs s four long word =
    let w = widths mask (omega arith) in
    read_is mask (record { first = mask; second = values_word mask bs }) s refl word ∙ sym (given_passed (nat_le (2 * ones (bit_and mask 15)) (length bs)) _ (le→leb (2 * ones (bit_and mask 15)) (length bs) (omega arith)))

-- so settings of that mask and these values are what is read
pub settings_found : (mask : ℕ) (bs : List ℕ) (s : Settings) → mask ≤ 15 → widths_of mask ≤ length bs → mask_of s ≡ mask → setup_word (values_of s) ≡ values_word mask bs → Some s ≡ settings_in mask bs
settings_found mask bs s four long same word = sym (settings_back s) ∙ ap (λ m. settings_of m (values_of s)) same ∙ settings_made mask bs (values_of s) four long word

module _ (mask : ℕ) (bs : List ℕ) (four : mask ≤ 15) where
  pub short_at_0 : length bs < width (masked mask 0) → None ≡ settings_in mask bs
  short_at_0 short = too_short mask bs four (omega arith)

  module _ (r₁ : List ℕ) (l₁ : length r₁ + width (masked mask 0) ≡ length bs) where
    pub short_at_1 : length r₁ < width (masked mask 1) → None ≡ settings_in mask bs
    short_at_1 short = too_short mask bs four (omega arith)

    module _ (r₂ : List ℕ) (l₂ : length r₂ + width (masked mask 1) ≡ length r₁) where
      pub short_at_2 : length r₂ < width (masked mask 2) → None ≡ settings_in mask bs
      short_at_2 short = too_short mask bs four (omega arith)

      pub short_at_3 : (r₃ : List ℕ) → length r₃ + width (masked mask 2) ≡ length r₂ → length r₃ < width (masked mask 3) → None ≡ settings_in mask bs
      short_at_3 r₃ l₃ short = too_short mask bs four (omega arith)

-- what was split off of bytes: a field f and the bytes r after it
abbrev Split : Bool → List ℕ → Option ℕ → List ℕ → Type 0
Split has bs f r = (f ≡ field_in has bs) × (r ≡ after has bs) × (length r + width has ≡ length bs)

pub settings_whole : (mask : ℕ) (bs r₁ r₂ r₃ r₄ : List ℕ) (f₀ f₁ f₂ f₃ : Option ℕ) (s : Settings) → mask ≤ 15 →
    Split (masked mask 0) bs f₀ r₁ → Split (masked mask 1) r₁ f₁ r₂ → Split (masked mask 2) r₂ f₂ r₃ → Split (masked mask 3) r₃ f₃ r₄ →
    fields_of s ≡ f₀ ∷ f₁ ∷ f₂ ∷ f₃ ∷ [] → Some s ≡ settings_in mask bs
settings_whole mask bs r₁ r₂ r₃ r₄ f₀ f₁ f₂ f₃ s four p₀ p₁ p₂ p₃ fields =
    let m₀ = masked mask 0 in let m₁ = masked mask 1 in let m₂ = masked mask 2 in let m₃ = masked mask 3 in
    let e₁ : r₁ ≡ after m₀ bs = p₀.1 in
    let e₂ : r₂ ≡ after m₁ (after m₀ bs) = p₁.1 ∙ ap (after m₁) e₁ in
    let e₃ : r₃ ≡ after m₂ (after m₁ (after m₀ bs)) = p₂.1 ∙ ap (after m₂) e₂ in
    let a₀ : s.batch ≡ field_in m₀ bs = (let e : s.batch ≡ f₀ = cc in e ∙ p₀.0) in
    let a₁ : s.nozzle ≡ field_in m₁ (after m₀ bs) = (let e : s.nozzle ≡ f₁ = cc in e ∙ p₁.0 ∙ ap (field_in m₁) e₁) in
    let a₂ : s.plate ≡ field_in m₂ (after m₁ (after m₀ bs)) = (let e : s.plate ≡ f₂ = cc in e ∙ p₂.0 ∙ ap (field_in m₂) e₂) in
    let a₃ : s.profile ≡ field_in m₃ (after m₂ (after m₁ (after m₀ bs))) = (let e : s.profile ≡ f₃ = cc in e ∙ p₃.0 ∙ ap (field_in m₃) e₃) in
    let same = mask_from mask s (omega arith) (ap is_some a₀ ∙ there_if m₀ _) (ap is_some a₁ ∙ there_if m₁ _) (ap is_some a₂ ∙ there_if m₂ _) (ap is_some a₃ ∙ there_if m₃ _) in
    let l₀ = p₀.2 in let l₁ = p₁.2 in let l₂ = p₂.2 in let l₃ = p₃.2 in
    let or_zero = λ (f : Option ℕ). unwrap_or f 0 in
    settings_found mask bs s four (omega arith) same (four_worth (ap or_zero a₀) (ap or_zero a₁) (ap or_zero a₂) (ap or_zero a₃))

-- five parts appended one after the other
appended_five : (e₀ e₁ e₂ e₃ e₄ e₅ : List ℕ) (m : ℕ) (f₀ f₁ f₂ f₃ : List ℕ) → e₁ ≡ e₀ ++ (m ∷ []) → e₂ ≡ e₁ ++ f₀ → e₃ ≡ e₂ ++ f₁ → e₄ ≡ e₃ ++ f₂ → e₅ ≡ e₄ ++ f₃ → e₅ ≡ e₀ ++ (m ∷ (f₀ ++ (f₁ ++ (f₂ ++ f₃))))
appended_five e₀ e₁ e₂ e₃ e₄ e₅ m f₀ f₁ f₂ f₃ p q r s t =
    t ∙ ap (λ l. l ++ f₃) (s ∙ ap (λ l. l ++ f₂) (r ∙ ap (λ l. l ++ f₁) (q ∙ ap (λ l. l ++ f₀) p)))
    ∙ ap (λ l. ((l ++ f₁) ++ f₂) ++ f₃) (append_assoc e₀ (m ∷ []) f₀)
    ∙ ap (λ l. (l ++ f₂) ++ f₃) (append_assoc e₀ (m ∷ f₀) f₁)
    ∙ ap (λ l. l ++ f₃) (append_assoc e₀ (m ∷ (f₀ ++ f₁)) f₂)
    ∙ append_assoc e₀ (m ∷ ((f₀ ++ f₁) ++ f₂)) f₃
    ∙ ap (λ l. e₀ ++ (m ∷ l)) (append_assoc (f₀ ++ f₁) f₂ f₃ ∙ append_assoc f₀ f₁ (f₂ ++ f₃))

-- equal masks and values are laid out alike
same_laid : (m a b c d m' a' b' c' d' : ℕ) → m ≡ m' → a ≡ a' → b ≡ b' → c ≡ c' → d ≡ d' →
    m ∷ (field_bytes (then_some (masked m 0) a) ++ (field_bytes (then_some (masked m 1) b) ++ (field_bytes (then_some (masked m 2) c) ++ field_bytes (then_some (masked m 3) d))))
    ≡ m' ∷ (field_bytes (then_some (masked m' 0) a') ++ (field_bytes (then_some (masked m' 1) b') ++ (field_bytes (then_some (masked m' 2) c') ++ field_bytes (then_some (masked m' 3) d'))))
same_laid m a b c d m' a' b' c' d' p q r s t =
    let laid = λ (m a b c d : ℕ). m ∷ (field_bytes (then_some (masked m 0) a) ++ (field_bytes (then_some (masked m 1) b) ++ (field_bytes (then_some (masked m 2) c) ++ field_bytes (then_some (masked m 3) d)))) in
    ap (λ x. laid x a b c d) p ∙ ap (λ x. laid m' x b c d) q ∙ ap (λ x. laid m' a' x c d) r ∙ ap (λ x. laid m' a' b' x d) s ∙ ap (λ x. laid m' a' b' c' x) t

-- the layout of settings is that of their mask and values
layout_chosen : (s : Settings) →
    mask_of s
    ∷ (field_bytes (then_some (masked (mask_of s) 0) (values_of s).batch)
    ++ (field_bytes (then_some (masked (mask_of s) 1) (values_of s).nozzle)
    ++ (field_bytes (then_some (masked (mask_of s) 2) (values_of s).plate) ++ field_bytes (then_some (masked (mask_of s) 3) (values_of s).profile))))
    ≡ settings_layout s
layout_chosen s =
    ap (λ t. mask_of s ∷ (field_bytes t.batch ++ (field_bytes t.nozzle ++ (field_bytes t.plate ++ field_bytes t.profile)))) (chosen_back s)
    ∙ ap (λ l. mask_of s ∷ (field_bytes s.batch ++ (field_bytes s.nozzle ++ (field_bytes s.plate ++ l)))) (sym (append-nil (field_bytes s.profile)))

-- mask and fields appended one after the other, with the lengths so far
pub settings_appended : (s : Settings) (m a b c d : ℕ) (e₀ e₁ e₂ e₃ e₄ e₅ : List ℕ) (n₀ n₁ n₂ n₃ n₄ n₅ : ℕ) →
    m ≡ mask_of s → a ≡ (values_of s).batch → b ≡ (values_of s).nozzle → c ≡ (values_of s).plate → d ≡ (values_of s).profile →
    e₁ ≡ e₀ ++ (m ∷ []) → e₂ ≡ e₁ ++ field_bytes (then_some (masked m 0) a) → e₃ ≡ e₂ ++ field_bytes (then_some (masked m 1) b) → e₄ ≡ e₃ ++ field_bytes (then_some (masked m 2) c) → e₅ ≡ e₄ ++ field_bytes (then_some (masked m 3) d) →
    n₁ ≡ n₀ + 1 → n₂ ≡ n₁ + width (masked m 0) → n₃ ≡ n₂ + width (masked m 1) → n₄ ≡ n₃ + width (masked m 2) → n₅ ≡ n₄ + width (masked m 3) →
    (e₅ ≡ e₀ ++ settings_layout s) × (n₅ ≡ n₀ + length (settings_layout s))
settings_appended s m a b c d e₀ e₁ e₂ e₃ e₄ e₅ n₀ n₁ n₂ n₃ n₄ n₅ mask f₀ f₁ f₂ f₃ i₁ i₂ i₃ i₄ i₅ l₁ l₂ l₃ l₄ l₅ =
    let l = length_layout s in
    let w : widths_of m ≡ widths_of (mask_of s) = ap widths_of mask in (
      appended_five e₀ e₁ e₂ e₃ e₄ e₅ m _ _ _ _ i₁ i₂ i₃ i₄ i₅ ∙ ap (λ x. e₀ ++ x) (same_laid m a b c d _ _ _ _ _ mask f₀ f₁ f₂ f₃ ∙ layout_chosen s),
      lengths n₀ n₁ n₂ n₃ n₄ n₅ (width (masked m 0)) (width (masked m 1)) (width (masked m 2)) (width (masked m 3)) (widths_of (mask_of s)) (length (settings_layout s)) w l l₁ l₂ l₃ l₄ l₅,
    )
  where
    lengths : (n₀ n₁ n₂ n₃ n₄ n₅ a b c d w l : ℕ) → a + (b + (c + d)) ≡ w → l ≡ 1 + w → n₁ ≡ n₀ + 1 → n₂ ≡ n₁ + a → n₃ ≡ n₂ + b → n₄ ≡ n₃ + c → n₅ ≡ n₄ + d → n₅ ≡ n₀ + l
    lengths n₀ n₁ n₂ n₃ n₄ n₅ a b c d w l p q r s t u v = omega arith
