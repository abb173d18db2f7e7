use Rattle.std.proofs.Common.{vec_items, sym, ◌∙◌, arith}
use Rattle.bench_calls.proofs.Lists.{read_more, read_front, read_all}
use Rattle.bench_calls.proofs.read_calls.Goals as goal
use Rattle.bench_calls.proofs.read_calls.Goals.{else-loop-numbers-test, then-loop-numbers-test+in_default}

pub loop-numbers-preserved : goal.loop-numbers-preserved
loop-numbers-preserved g c =
    let inv = c.loop-numbers.invariant in
    let pushed = c.push_reserved.ensures in
    let more = read_more g.E.Effect g.T.Time c.args.asked.now c.loop-numbers.numbers-index (vec_items c.loop-numbers.calls) inv.2 _ c.in-Some.call c.loop-numbers-test.true (sym c.read_call.ensures ∙ c.in-Some.is) in
    (omega (arith, pushed.len, inv.0), omega (arith, pushed.capacity, inv.1), rw pushed.items more)

pub returns : goal.returns
returns g c =
    let asked = c.args.asked.now in
    let i = c.loop-numbers.numbers-index in
    let done = vec_items c.loop-numbers.calls in
    let so_far = c.loop-numbers.invariant.2 in
    elim c.loop-numbers-test.branch [
      | else-loop-numbers-test w ↦ read_all g.E.Effect g.T.Time asked i done so_far w.loop-numbers-test.false
      | then-loop-numbers-test+in_default w ↦ read_front g.E.Effect g.T.Time asked i done so_far _ w.loop-numbers-test.true (sym w.read_call.ensures ∙ w.in_default.is)
    ]
