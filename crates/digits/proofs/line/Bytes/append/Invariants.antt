-- The bytes of before, and as many of the new as were pushed.
use Rattle.std.proofs.Common.{◌≡◌, ◌++◌, take}
use Rattle.digits.proofs.line.Bytes.append.Given as goal

abbrev pub invariant-loop-byte : goal.invariant-loop-byte
invariant-loop-byte l = l.self ≡ l.initial.self ++ take l.byte-index l.more
