use Rattle.std.proofs.Common.{Some, sym, subst}
use Rattle.text.specs.Seen.{held}
use Rattle.commands.specs.Frames.{forms}
use Rattle.session.specs.Saying.{said}
use Rattle.session.specs.Serving.{Hears}
use Rattle.session.proofs.Session.answer.Goals as goal

pub returns-in-Frame-clause-hears : goal.returns-in-Frame-clause-hears
returns-in-Frame-clause-hears g c =
    subst (λ i. Hears g.E.Effect g.T.Time g.S.Store (said g.E.Payload.entered (forms g.E.Payload g.T.Time) (held i)) (Some c.answer_frame.result) c.args.self.now.ledger c.answer_frame.new.self.ledger) (sym c.in-Frame.is) c.answer_frame.ensures.hears
