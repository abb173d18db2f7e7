-- The calls so far, and then those of the numbers that are left, are those of all numbers.
use Rattle.std.proofs.Common.{◌≡◌, ◌≤◌, ◌++◌, length, drop, vec_items, vec_len, vec_capacity}
use Rattle.bench_calls.specs.Numbers.{calls_in}
use Rattle.bench_calls.proofs.read_calls.Given as goal

abbrev pub invariant-loop-numbers : goal.invariant-loop-numbers
invariant-loop-numbers g l =
    (vec_len l.calls ≡ l.numbers-index) × (length l.asked ≤ vec_capacity l.calls)
    × (vec_items l.calls ++ calls_in g.E.Effect g.T.Time (drop l.numbers-index l.asked) ≡ calls_in g.E.Effect g.T.Time l.asked)
