-- What the descent makes of a kept tree in order is what the cells then say; with room for it no put is refused.
use Rattle.order.proofs.Orders.{TimeLaws}
use Rattle.insertion.proofs.Entries.{inserted, inserted_42, not_refused, not_refused_42}
use Rattle.insertion.proofs.insert.Goals as goal

pub returns-in_err-side : goal.returns-in_err-side
returns-in_err-side g c =
    let a = c.args in
    let mean = g.S.Store.meaning in
    let laws : TimeLaws g.T.Time.upto = record { total = g.met.T.Time.total; transitive = g.met.T.Time.transitive } in
    record {
      grew = c.insert_from.ensures.grew;
      inserted = not_refused g.E.Effect g.T.Time g.met.E.Effect.back g.met.T.Time.back laws (mean a.store.now) (mean c.insert_from.new.store) a.root a.op c.requires.stands c.requires.newest c.in_err-side.field-0.0 c.in_err-side.ensures.inserts;
      claimed = not_refused_42 g.E.Effect g.T.Time g.met.E.Effect.back g.met.T.Time.back laws (mean a.store.now) (mean c.insert_from.new.store) a.root a.op c.requires.stands c.requires.newest c.in_err-side.field-0.0 c.in_err-side.ensures.inserts;
    }

pub returns : goal.returns
returns g c =
    let a = c.args in
    let mean = g.S.Store.meaning in
    let laws : TimeLaws g.T.Time.upto = record { total = g.met.T.Time.total; transitive = g.met.T.Time.transitive } in
    record {
      grew = c.insert_from.ensures.grew;
      inserted = inserted g.E.Effect g.T.Time g.met.E.Effect.back g.met.T.Time.back laws (mean a.store.now) (mean c.insert_from.new.store) a.root a.op c.requires.stands c.requires.newest c.in_ok-side.side c.in_ok-side.ensures.inserts;
      claimed = inserted_42 g.E.Effect g.T.Time g.met.E.Effect.back g.met.T.Time.back laws (mean a.store.now) (mean c.insert_from.new.store) a.root a.op c.requires.stands c.requires.newest c.in_ok-side.side c.in_ok-side.ensures.inserts;
    }
