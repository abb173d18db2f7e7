-- What is not found is not there; what is found is taken out, and the cells say so.
use Rattle.std.proofs.Common.{refl}
use Rattle.reference.specs.Beliefs.{kinds}
use Rattle.order.specs.Order.{has}
use Rattle.order.proofs.Orders.{TimeLaws}
use Rattle.order.proofs.Stays.{struck_without}
use Rattle.tree.specs.Reading.{read_from}
use Rattle.tree.proofs.Makings.{grew_none, grew_after}
use Rattle.removal.proofs.Exits.{found_there, not_there, removed, removed_42, not_refused, not_refused_42}
use Rattle.removal.proofs.remove.Goals as goal

pub returns-in_err-side : goal.returns-in_err-side
returns-in_err-side g c =
    let a = c.args in
    let mean = g.S.Store.meaning in
    let laws : TimeLaws g.T.Time.upto = record { total = g.met.T.Time.total; transitive = g.met.T.Time.transitive } in
    record {
      grew = grew_after g.S.Store a.store.now c.find.new.store c.take_out.new.store c.find.ensures.same c.take_out.ensures.grew;
      absent = found_there c.in_ok-find.field-0 (has (kinds g.E.Effect g.T.Time) a.number a.time (read_from g.E.Effect g.T.Time (mean a.store.now).cells a.root)) c.if-not-branch.false c.in_ok-find.ensures.found;
      removed = λ _. not_refused g.E.Effect g.T.Time g.met.E.Effect.back g.met.T.Time.back laws (mean a.store.now) (mean c.find.new.store) (mean c.take_out.new.store) a.root (record { number = a.number; time = a.time; effect = c.no_change.result }) c.find.ensures.same.meaning c.requires c.in_err-side.field-0.0 c.in_err-side.ensures.takes;
      claimed = λ _. not_refused_42 g.E.Effect g.T.Time g.met.E.Effect.back g.met.T.Time.back laws (mean a.store.now) (mean c.find.new.store) (mean c.take_out.new.store) a.root (record { number = a.number; time = a.time; effect = c.no_change.result }) c.find.ensures.same.meaning c.requires c.in_err-side.field-0.0 c.in_err-side.ensures.takes;
      named = struck_without (kinds g.E.Effect g.T.Time) laws a.number a.time (read_from g.E.Effect g.T.Time (mean a.store.now).cells a.root);
    }

pub returns : goal.returns
returns g c =
    let a = c.args in
    let mean = g.S.Store.meaning in
    let laws : TimeLaws g.T.Time.upto = record { total = g.met.T.Time.total; transitive = g.met.T.Time.transitive } in
    record {
      grew = grew_after g.S.Store a.store.now c.find.new.store c.take_out.new.store c.find.ensures.same c.take_out.ensures.grew;
      absent = found_there c.in_ok-find.field-0 (has (kinds g.E.Effect g.T.Time) a.number a.time (read_from g.E.Effect g.T.Time (mean a.store.now).cells a.root)) c.if-not-branch.false c.in_ok-find.ensures.found;
      removed = λ _. removed g.E.Effect g.T.Time g.met.E.Effect.back g.met.T.Time.back laws (mean a.store.now) (mean c.find.new.store) (mean c.take_out.new.store) a.root (record { number = a.number; time = a.time; effect = c.no_change.result }) c.find.ensures.same.meaning c.requires c.in_ok-side.side c.in_ok-side.ensures.takes;
      claimed = λ _. removed_42 g.E.Effect g.T.Time g.met.E.Effect.back g.met.T.Time.back laws (mean a.store.now) (mean c.find.new.store) (mean c.take_out.new.store) a.root (record { number = a.number; time = a.time; effect = c.no_change.result }) c.find.ensures.same.meaning c.requires c.in_ok-side.side c.in_ok-side.ensures.takes;
      named = struck_without (kinds g.E.Effect g.T.Time) laws a.number a.time (read_from g.E.Effect g.T.Time (mean a.store.now).cells a.root);
    }

pub returns-then-not-branch : goal.returns-then-not-branch
returns-then-not-branch g c =
    let a = c.args in
    let belief = read_from g.E.Effect g.T.Time (g.S.Store.meaning a.store.now).cells a.root in
    let there = has (kinds g.E.Effect g.T.Time) a.number a.time belief in
    let laws : TimeLaws g.T.Time.upto = record { total = g.met.T.Time.total; transitive = g.met.T.Time.transitive } in
    record {
      grew = grew_none g.S.Store a.store.now c.find.new.store c.find.ensures.same;
      absent = λ _. (refl, c.find.ensures.same);
      removed = not_there c.in_ok-find.field-0 there c.if-not-branch.true c.in_ok-find.ensures.found;
      claimed = not_there c.in_ok-find.field-0 there c.if-not-branch.true c.in_ok-find.ensures.found;
      named = struck_without (kinds g.E.Effect g.T.Time) laws a.number a.time belief;
    }
