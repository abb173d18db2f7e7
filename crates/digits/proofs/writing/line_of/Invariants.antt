-- The text holds the digits of the bytes so far.
use Rattle.std.proofs.Common.{◌≡◌, take}
use Rattle.digits.specs.Hex.{encoded}
use Rattle.digits.specs.Held.{padded}
use Rattle.digits.proofs.writing.line_of.Given as goal

abbrev pub invariant-loop-i : goal.invariant-loop-i
invariant-loop-i l = l.text ≡ padded 65 10 (encoded (take l.i l.bytes))
