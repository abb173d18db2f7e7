-- The bytes so far, one of each pair, and those of the pairs that are left.
use Rattle.std.proofs.Common.{◌≡◌, ◌++◌, length, drop, map}
use Rattle.digits.proofs.Decoding.{pair_worth}
use Rattle.digits.proofs.reading.decode.Given as goal

abbrev pub invariant-loop-high : goal.invariant-loop-high
invariant-loop-high l = (length l.bytes ≡ l.high-index) × (l.bytes ++ map pair_worth (drop l.high-index l.pairs) ≡ map pair_worth l.pairs)
