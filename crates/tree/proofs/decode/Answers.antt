-- What a cell of an operation over two sides says is read back, and so what a cell of a kept tree says.
use Rattle.std.proofs.Common.{◌≡◌, Some, ap}
use Rattle.tree.specs.Trees.{cell_of, side}
use Rattle.tree.proofs.Keeping.{decoded}
use Rattle.tree.proofs.decode.Goals as goal

pub returns-clause-node : goal.returns-clause-node
returns-clause-node g c left o right is =
    ap Some (decoded g.E.Effect g.T.Time g.met.E.Effect.back g.met.T.Time.back c.args.cell left right o c.in_ok-time.time c.in_ok-effect.effect c.in_ok-total.total
    is c.in_ok-time.ensures c.in_ok-effect.ensures c.in_ok-total.ensures)

pub returns-clause-says : goal.returns-clause-says
returns-clause-says g c m k left o right get kept =
    let l = side g.E.Effect g.T.Time left in
    let r = side g.E.Effect g.T.Time right in
    let found = rw kept.0 at get in
    let is : c.args.cell ≡ cell_of g.E.Effect g.T.Time l o r = cc in
    ap Some (decoded g.E.Effect g.T.Time g.met.E.Effect.back g.met.T.Time.back c.args.cell l r o c.in_ok-time.time c.in_ok-effect.effect c.in_ok-total.total
    is c.in_ok-time.ensures c.in_ok-effect.ensures c.in_ok-total.ensures)
