-- A time's word reads back as it, and no other word does.
use Rattle.std.specs.Prelude.{◌≡◌, ℕ, suc, ◌-◌, ◌/◌, ◌%◌, ◌^◌, ◌<◌, ℤ, pos, negsuc, Some, nat_lt, refl}
use Rattle.std.proofs.Common.{sym, ap, ◌∙◌, arith, lt→ltb, lt-ltb, le-ltb}
use Rattle.std.specs.Int.Signed.{mag}
use Rattle.std.proofs.Math.Decide.{dec_lt}
use Rattle.words.proofs.Giving.{given_passed, given_some, some_same}
use Rattle.times.specs.Clocks.{clock_of}
use Rattle.times.specs.Places.{twos_complement, signed, place_word, place_read}
use Rattle.times.specs.declared.clock.Clock.{Clock}
use Rattle.times.specs.declared.place.Place.{Place}
use Rattle.times.specs.Sames.{same_clock, same_place}

pub clock_back : (t : Clock) → clock_of t.seconds ≡ Some t
clock_back t = given_passed (nat_lt t.seconds (2 ^ 40)) _ (lt→ltb t.seconds (2 ^ 40) t.within) ∙ ap Some (same_clock _ t refl)

pub clock_from : (n : ℕ) (t : Clock) → clock_of n ≡ Some t → t.seconds ≡ n
clock_from n t is = sym (ap (λ u. u.seconds) (some_same (given_some (nat_lt n (2 ^ 40)) _ t is).1))

-- ---- two's complement

pub complement_small : (z : ℤ) → mag z < 2 ^ 31 → twos_complement z < 2 ^ 32
complement_small (pos n) h = omega arith
complement_small (negsuc n) h = omega arith

signed_low : (n : ℕ) → n < 2 ^ 31 → signed n ≡ pos n
signed_low n low = rw (lt-ltb n (2 ^ 31) low)

signed_high : (n : ℕ) → 2 ^ 31 < suc n → signed n ≡ negsuc (2 ^ 32 - suc n)
signed_high n high = rw (le-ltb n (2 ^ 31) (omega arith))

pub signed_complement : (z : ℤ) → mag z < 2 ^ 31 → signed (twos_complement z) ≡ z
signed_complement (pos n) h = signed_low n h
signed_complement (negsuc n) h = signed_high (2 ^ 32 - suc n) (omega arith) ∙ ap negsuc (omega arith)

pub complement_signed : (n : ℕ) → n < 2 ^ 32 → twos_complement (signed n) ≡ n
complement_signed n h =
    elim (dec_lt n (2 ^ 31)) as (λ _. twos_complement (signed n) ≡ n) [
      | yes low ↦ ap twos_complement (signed_low n low)
      | no high ↦ ap twos_complement (signed_high n (omega arith)) ∙ omega arith
    ]

pub place_small : (p : Place) → place_word p < 2 ^ 64
place_small p = omega (arith, complement_small p.layer p.layers, p.jobs)

pub place_back : (p : Place) → place_read (place_word p) ≡ Some p
place_back p =
    let small : twos_complement p.layer < 2 ^ 32 = complement_small p.layer p.layers in
    let low : place_word p % 2 ^ 32 ≡ twos_complement p.layer = omega arith in
    given_passed (nat_lt (place_word p) (2 ^ 64)) _ (lt→ltb (place_word p) (2 ^ 64) (place_small p))
    ∙ ap Some (same_place _ p (omega arith) (ap signed low ∙ signed_complement p.layer p.layers))

pub place_from : (w : ℕ) (p : Place) → place_read w ≡ Some p → place_word p ≡ w
place_from w p is =
    let same = sym (some_same (given_some (nat_lt w (2 ^ 64)) _ p is).1) in
    let low : twos_complement p.layer ≡ w % 2 ^ 32 = ap (λ q. twos_complement q.layer) same ∙ complement_signed (w % 2 ^ 32) (omega arith) in
    let high : p.job ≡ w / 2 ^ 32 = ap (λ q. q.job) same in
    omega arith

pub place_is : (w : ℕ) (p : Place) → w < 2 ^ 64 → p.job ≡ w / 2 ^ 32 → p.layer ≡ signed (w % 2 ^ 32) → Some p ≡ place_read w
place_is w p small job layer = sym (given_passed (nat_lt w (2 ^ 64)) _ (lt→ltb w (2 ^ 64) small) ∙ ap Some (same_place _ p (sym job) (sym layer)))
