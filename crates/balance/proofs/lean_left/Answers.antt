use Rattle.tree.proofs.Makings.{grew_after}
use Rattle.balance.proofs.Leans.{left_parted, left_nested}
use Rattle.balance.proofs.lean_left.Goals as goal

pub returns-then-high : goal.returns-then-high
returns-then-high g c =
    let a = c.args in
    let mean = g.S.Store.meaning in
    record {
      grew = grew_after g.S.Store a.store.now c.open.new.store c.part_middle.new.store c.open.ensures.same c.part_middle.ensures.grew;
      leans = left_parted g.E.Effect g.T.Time (mean a.store.now) (mean c.open.new.store) (mean c.part_middle.new.store) a.parts.left a.parts.right a.parts.op c.in_ok-high.high c.part_middle.result
          c.open.ensures.same.meaning c.in_ok-high.ensures.parts c.if-high.true c.part_middle.ensures.parts;
    }

pub returns-else-high : goal.returns-else-high
returns-else-high g c =
    let a = c.args in
    let mean = g.S.Store.meaning in
    record {
      grew = grew_after g.S.Store a.store.now c.open.new.store c.nest_right.new.store c.open.ensures.same c.nest_right.ensures.grew;
      leans = left_nested g.E.Effect g.T.Time (mean a.store.now) (mean c.open.new.store) (mean c.nest_right.new.store) a.parts.left a.parts.right a.parts.op c.in_ok-high.high c.nest_right.result
          c.open.ensures.same.meaning c.in_ok-high.ensures.parts c.if-high.false c.nest_right.ensures.nests;
    }
