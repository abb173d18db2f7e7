use Rattle.reference.specs.Beliefs.{kinds}
use Rattle.order.specs.Order.{has}
use Rattle.questions.proofs.Stands.{answered}
use Rattle.questions.proofs.find.Goals as goal

pub returns : goal.returns
returns g c =
    let a = c.args in
    record {
      same = c.find_from.ensures.same;
      found = answered g.E.Effect g.T.Time g.met.E.Effect.back g.met.T.Time.back (g.S.Store.meaning a.store.now) a.root (has (kinds g.E.Effect g.T.Time) a.number a.time) c.find_from.result c.find_from.ensures.finds c.requires;
    }
