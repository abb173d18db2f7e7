-- The places before i are written, and no other.
use Rattle.std.proofs.Common.{◌≡◌, map}
use Rattle.bench_calls.specs.Numbers.{reply_numbers, replaced}
use Rattle.bench_calls.proofs.write_replies.Given as goal

abbrev pub invariant-loop-i : goal.invariant-loop-i
invariant-loop-i g l = l.out ≡ replaced l.i (map (reply_numbers g.E.Effect g.T.Time) l.replies) l.initial.out
