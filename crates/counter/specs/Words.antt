-- A counter's words read back as it, and only they do.
use Rattle.std.specs.Prelude.{◌≡◌, ℕ, ◌+◌, ◌*◌, ◌/◌, ◌%◌, ◌^◌, ◌<◌, Bool, true, false, cond, ℤ, pos, negsuc, ◌+ℤ◌, Some, None, ◌==◌, unsigned_abs, refl}
use Rattle.std.proofs.Common.{sym, ap, ◌∙◌, arith, eqb-true}
use Rattle.std.proofs.lemmas.Int.{ints}
use Rattle.words.specs.declared.EffectWords.{EffectWords}
use Rattle.words.proofs.Giving.{same_effect_words}
use Rattle.counter.specs.Counting.{counter_of}
use Rattle.counter.specs.Packing.{counter_words, counter_read}
use Rattle.counter.specs.declared.Counter.{Counter}
use Rattle.counter.specs.Made.{counter_back, counter_from}

-- the parts of a first word, each below the place of the next one
module _ (raised floor ceiling : ℕ) (floor< : floor < 2 ^ 21) (ceiling< : ceiling < 2 ^ 21) where
  raised_part : (raised * 2 ^ 42 + floor * 2 ^ 21 + ceiling) / 2 ^ 42 ≡ raised
  raised_part = omega arith

  floor_part : (raised * 2 ^ 42 + floor * 2 ^ 21 + ceiling) / 2 ^ 21 % 2 ^ 21 ≡ floor
  floor_part = omega arith

  ceiling_part : (raised * 2 ^ 42 + floor * 2 ^ 21 + ceiling) % 2 ^ 21 ≡ ceiling
  ceiling_part = omega arith

pub counter_reads_back : (c : Counter) → counter_read (counter_words c) ≡ Some c
counter_reads_back c =
    let raised : ℕ = unsigned_abs (c.amount +ℤ pos 1000000) in
    let floor : ℕ = c.floor.hundredths in
    let ceiling : ℕ = c.ceiling.hundredths in
    let floor< : floor < 2 ^ 21 = omega (arith, c.floor.within) in
    let ceiling< : ceiling < 2 ^ 21 = omega (arith, c.ceiling.within) in
    let amount : pos raised +ℤ negsuc 999999 ≡ c.amount = omega (arith, ints, c.least, c.most) in
    ap (λ n. counter_of (pos n +ℤ negsuc 999999) ((counter_words c).first / 2 ^ 21 % 2 ^ 21) ((counter_words c).first % 2 ^ 21)) (raised_part raised floor ceiling floor< ceiling<)
    ∙ ap (λ n. counter_of (pos raised +ℤ negsuc 999999) n ((counter_words c).first % 2 ^ 21)) (floor_part raised floor ceiling floor< ceiling<)
    ∙ ap (λ n. counter_of (pos raised +ℤ negsuc 999999) floor n) (ceiling_part raised floor ceiling floor< ceiling<)
    ∙ ap (λ z. counter_of z floor ceiling) amount ∙ counter_back c

-- the raised amount of what was read is what the word has of it
lifted : (n : ℕ) (z : ℤ) → z ≡ pos n +ℤ negsuc 999999 → unsigned_abs (z +ℤ pos 1000000) ≡ n
lifted n z is = omega (arith, ints)

pub counter_reads_only : (w : EffectWords) (c : Counter) → counter_read w ≡ Some c → counter_words c ≡ w
counter_reads_only w c is = go (w.second == 0) refl is
  where
    go : (b : Bool) → (w.second == 0) ≡ b → cond b (counter_of (pos (w.first / 2 ^ 42) +ℤ negsuc 999999) (w.first / 2 ^ 21 % 2 ^ 21) (w.first % 2 ^ 21)) None ≡ Some c → counter_words c ≡ w
    go true zero there =
        let from = counter_from (pos (w.first / 2 ^ 42) +ℤ negsuc 999999) (w.first / 2 ^ 21 % 2 ^ 21) (w.first % 2 ^ 21) c there in
        let high = lifted (w.first / 2 ^ 42) c.amount from.0 in
        same_effect_words (counter_words c) w (omega (arith, high, from.1, from.2)) (sym (eqb-true w.second 0 zero))
    go false zero there = absurd (let z : ◌≡◌ {A = ℕ} 0 1 = cc in omega arith)
