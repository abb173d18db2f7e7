-- Places: ordered by job, and then by signed layer.
use Rattle.std.specs.Prelude.{ℕ, suc, ◌+◌, ◌-◌, ◌*◌, ◌/◌, ◌%◌, ◌^◌, ◌<◌, Bool, cond, ◌&&◌, ◌||◌, ℤ, pos, negsuc, List, ◌++◌, Some, codes, Option, ◌==◌, nat_lt}
use Rattle.std.proofs.Common.{arith, ltb→lt, lt-ltb, le-ltb}
use Rattle.std.specs.Int.Signed.{le_z, mag}
use Rattle.std.specs.Fmt.{decimal, signed_decimal}
use Rattle.std.proofs.Math.Decide.{dec_lt}
use Rattle.words.specs.Given.{given}
use Rattle.times.specs.declared.place.Place.{Place}

abbrev pub place_upto : Place → Place → Bool
place_upto a b = nat_lt a.job b.job || (a.job == b.job && le_z a.layer b.layer)

-- in 32 bits; negsuc n is -(n + 1)
abbrev pub twos_complement : ℤ → ℕ
twos_complement (pos n) = n
twos_complement (negsuc n) = 2 ^ 32 - suc n

abbrev pub place_word : Place → ℕ
place_word p = p.job * 2 ^ 32 + twos_complement p.layer

-- the layer of a two's complement of 32 bits
abbrev pub signed : ℕ → ℤ
signed n = cond (nat_lt n (2 ^ 31)) (pos n) (negsuc (2 ^ 32 - suc n))

pub signed_small : (n : ℕ) → n < 2 ^ 32 → mag (signed n) < 2 ^ 31
signed_small n h = elim (dec_lt n (2 ^ 31)) as (λ _. mag (signed n) < 2 ^ 31) [ yes low ↦ rw (lt-ltb n (2 ^ 31) low) low | no high ↦ rw (le-ltb n (2 ^ 31) (omega arith)) (omega arith) ]

-- the place that a word is that of; every word of 64 bits is one's
abbrev pub place_read : ℕ → Option Place
place_read w =
    given (nat_lt w (2 ^ 64)) (λ small. Some (record {
      job = w / 2 ^ 32;
      layer = signed (w % 2 ^ 32);
      jobs = omega (arith, ltb→lt w (2 ^ 64) small);
      layers = signed_small (w % 2 ^ 32) (omega arith);
    }))

-- a place in words
abbrev pub place_text : Place → List ℕ
place_text p = codes "job " ++ decimal p.job ++ codes ", layer " ++ signed_decimal p.layer
