use Rattle.std.proofs.Common.{fold, sym, ◌∙◌}
use Rattle.order.proofs.Orders.{TimeLaws}
use Rattle.tree.proofs.Makings.{unchanged_then}
use Rattle.questions.proofs.Descents.{until_left_answer}
use Rattle.questions.proofs.States.{carry_right}
use Rattle.questions.proofs.+carry_from.Goals as goal

pub returns-in_ok-side : goal.returns-in_ok-side
returns-in_ok-side g t c =
    let a = c.args in
    let s = g.S.Store in
    let laws : TimeLaws g.T.Time.upto = record { total = g.met.T.Time.total; transitive = g.met.T.Time.transitive } in
    record {
      same = unchanged_then s a.store.now c.read.new.store c.carry_from.new.store c.read.ensures.same
          (unchanged_then s c.read.new.store c.side_at.new.store c.carry_from.new.store c.side_at.ensures.same c.carry_from.ensures.same);
      carries = carry_right g.E.Effect g.T.Time g.met.E.Effect.follows laws (s.meaning a.store.now) (s.meaning c.read.new.store) (s.meaning c.side_at.new.store) a.k a.until a.from c.act_side-before.result c.act.result c.in_ok-op.field-0 c.in_ok-side.side c.carry_from.result
          c.if-k-eq0.false c.read.ensures.same.meaning c.side_at.ensures.same.meaning c.in_ok-op.ensures.node (sym c.not_after.ensures ∙ c.if-not_after.true) c.in_ok-side.ensures.side c.act_side-before.ensures c.act.ensures c.carry_from.ensures.carries;
    }

pub returns-else-not_after : goal.returns-else-not_after
returns-else-not_after g t c =
    let a = c.args in
    let s = g.S.Store in
    let laws : TimeLaws g.T.Time.upto = record { total = g.met.T.Time.total; transitive = g.met.T.Time.transitive } in
    record {
      same = unchanged_then s a.store.now c.read.new.store c.carry_from-else-not_after.new.store c.read.ensures.same c.carry_from-else-not_after.ensures.same;
      carries = until_left_answer g.E.Effect g.T.Time laws (s.meaning a.store.now) (s.meaning c.read.new.store) a.k a.until c.in_ok-op.field-0 (fold (λ s o. g.E.Effect.acts o.effect s) a.from) c.carry_from-else-not_after.result
          c.if-k-eq0.false c.read.ensures.same.meaning c.in_ok-op.ensures.node (sym c.not_after.ensures ∙ c.if-not_after.false) c.carry_from-else-not_after.ensures.carries;
    }
