use Rattle.reference.specs.Beliefs.{kinds, state}
use Rattle.questions.proofs.Stands.{answered}
use Rattle.questions.proofs.state_at.Goals as goal

pub returns : goal.returns
returns g c =
    let a = c.args in
    record {
      same = c.carry_from.ensures.same;
      state = answered g.E.Effect g.T.Time g.met.E.Effect.back g.met.T.Time.back (g.S.Store.meaning a.store.now) a.root (λ belief. state (kinds g.E.Effect g.T.Time) belief a.at) c.carry_from.result (rw c.start_state.ensures at c.carry_from.ensures.carries) c.requires;
    }
