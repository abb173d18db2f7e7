use Rattle.std.proofs.Common.{vec_items, ap, ◌∙◌}
use Rattle.law.specs.Runs.{opened}
use Rattle.ledger.specs.Shown.{shown}
use Rattle.layers.specs.Quotas.{limited}
use Rattle.text.specs.Seen.{unread}
use Rattle.session.specs.Records.{stacked}
use Rattle.session.proofs.Keeping.{kept_from}
use Rattle.session.proofs.input.serve.Goals as goal

pub returns : goal.returns
returns g c =
    let below = g.S.Store.meaning c.args.store in
    let start =
    c.open-session.ensures.shown
    ∙ ap (λ m. opened m) (c.open.ensures.meaning ∙ c.open-limited.ensures.meaning ∙ ap (limited below) c.from.ensures)
    in
    kept_from g.E.Payload g.E.Effect g.T.Time g.S.Store (record { total = g.met.T.Time.total; transitive = g.met.T.Time.transitive }) (limited below c.args.opening.quota) (unread c.args.talk.now.reader) (vec_items c.args.talk.now.out) (vec_items c.answer_all.new.talk.out) (shown g.E.Effect g.T.Time (stacked g.S.Store) c.open-session.result.ledger) c.answer_all.new.self.ledger start (c.answer_all.ensures.stands c.open-session.ensures.stands) c.answer_all.ensures.served
