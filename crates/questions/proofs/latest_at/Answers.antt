use Rattle.reference.specs.Beliefs.{kinds, latest}
use Rattle.questions.proofs.Stands.{answered}
use Rattle.questions.proofs.latest_at.Goals as goal

pub returns : goal.returns
returns g c =
    let a = c.args in
    record {
      same = c.last_from.ensures.same;
      latest = answered g.E.Effect g.T.Time g.met.E.Effect.back g.met.T.Time.back (g.S.Store.meaning a.store.now) a.root (λ belief. latest (kinds g.E.Effect g.T.Time) belief a.at) c.last_from.result c.last_from.ensures.lasts c.requires;
    }
