use Rattle.std.proofs.Common.{◌≤◌, length, set, ap, ◌∙◌, arith}
use Rattle.bench_calls.specs.Numbers.{reply_numbers}
use Rattle.bench_calls.proofs.Lists.{written_more}
use Rattle.bench_calls.proofs.write_replies.Goals as goal

pub loop-i-preserved : goal.loop-i-preserved
loop-i-preserved g c =
    let places = c.min-places.ensures in
    let room : c.min-places.result ≤ length c.args.out.now = omega arith in
    ap (λ v. set c.loop-i.out c.loop-i.i v) c.numbers_of.ensures
    ∙ written_more (reply_numbers g.E.Effect g.T.Time) c.args.replies.now c.args.out.now c.loop-i.out c.min-places.result c.loop-i.i c.reply-item.result room c.loop-i-test.true c.loop-i.invariant c.reply-item.is
