use Rattle.std.proofs.Common.{◌<◌, arith, rules}
use Rattle.status.specs.Events.{becomes, becomes_eight}
use Rattle.status.proofs.Arrays.{made}
use Rattle.status.proofs.Rows.{row_entry}
use Rattle.status.proofs.Event.row.Goals as goal

pub returns : goal.returns
returns c =
    let event = c.args.self in
    made (becomes event) c.from_fn.ensures.items (becomes_eight event)
    (λ q i y d inside k. let small : i < 8 = omega (arith, becomes_eight event) in let entry = row_entry event i d small in search rules)
