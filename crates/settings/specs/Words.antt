-- The words of settings read back as them, and only they do; no two set-ups share a word.
use Rattle.std.specs.Prelude.{◌≡◌, ℕ, ◌/◌, ◌%◌, ◌^◌, ◌<◌, T, Some, None, nat_lt, refl}
use Rattle.std.proofs.Common.{sym, ap, ◌∙◌, arith, lt→ltb}
use Rattle.words.specs.declared.EffectWords.{EffectWords}
use Rattle.words.proofs.Giving.{given_passed, given_some, none_where, same_effect_words}
use Rattle.settings.specs.Masks.{settings_of, mask_of, values_of}
use Rattle.settings.specs.Packing.{setup_word, setup_of, settings_words, settings_read}
use Rattle.settings.specs.declared.Setup.{Setup}
use Rattle.settings.specs.declared.Settings.{Settings}
use Rattle.settings.specs.Sames.{same_setup}
use Rattle.settings.specs.Made.{mask_small, settings_back, settings_from}

setup_small : (s : Setup) → setup_word s < 2 ^ 64
setup_small s = omega (arith, s.small.0, s.small.1, s.small.2, s.small.3)

-- a set-up is that of its word
pub setup_is : (word : ℕ) (small : T (nat_lt word (2 ^ 64))) (s : Setup) → setup_word s ≡ word → setup_of word small ≡ s
setup_is word small s is =
    let b = s.small.0 in
    let n = s.small.1 in
    let p = s.small.2 in
    let q = s.small.3 in
    let batch : setup_word s / 2 ^ 48 ≡ s.batch = omega arith in
    let nozzle : setup_word s / 2 ^ 32 % 65536 ≡ s.nozzle = omega arith in
    let plate : setup_word s / 2 ^ 16 % 65536 ≡ s.plate = omega arith in
    let profile : setup_word s % 65536 ≡ s.profile = omega arith in
    same_setup _ s (ap (λ w. w / 2 ^ 48) (sym is) ∙ batch) (ap (λ w. w / 2 ^ 32 % 65536) (sym is) ∙ nozzle) (ap (λ w. w / 2 ^ 16 % 65536) (sym is) ∙ plate) (ap (λ w. w % 65536) (sym is) ∙ profile)

pub setup_apart : (s t : Setup) → setup_word s ≡ setup_word t → s ≡ t
setup_apart s t same = let small = lt→ltb (setup_word t) (2 ^ 64) (setup_small t) in sym (setup_is (setup_word t) small s same) ∙ setup_is (setup_word t) small t refl

setup_back : (word : ℕ) (small : T (nat_lt word (2 ^ 64))) → setup_word (setup_of word small) ≡ word
setup_back word small = omega arith

-- reading a mask and the word of values
pub read_is : (mask : ℕ) (w : EffectWords) (s : Setup) → mask ≡ w.first → setup_word s ≡ w.second → settings_of mask s ≡ settings_read w
read_is mask w s first second =
    let small = lt→ltb w.second (2 ^ 64) (rw (sym second) (setup_small s)) in
    sym (given_passed (nat_lt w.second (2 ^ 64)) _ small ∙ ap (settings_of w.first) (setup_is w.second small s second) ∙ ap (λ m. settings_of m s) (sym first))

pub settings_reads_back : (s : Settings) → settings_read (settings_words s) ≡ Some s
settings_reads_back s = sym (read_is (mask_of s) (settings_words s) (values_of s) refl refl) ∙ settings_back s

pub settings_reads_only : (w : EffectWords) (s : Settings) → settings_read w ≡ Some s → settings_words s ≡ w
settings_reads_only w s is =
    let one = given_some (nat_lt w.second (2 ^ 64)) _ s is in
    let from = settings_from w.first (setup_of w.second one.0) s one.1 in
    same_effect_words (settings_words s) w from.0 (ap setup_word from.1 ∙ setup_back w.second one.0)

-- a mask above 0f is no settings'
pub reads_none : (w : EffectWords) → 15 < w.first → None ≡ settings_read w
reads_none w above = sym (none_where _ (λ s is. let mask = ap (λ v. v.first) (settings_reads_only w s is) in let small = mask_small s in omega arith))
