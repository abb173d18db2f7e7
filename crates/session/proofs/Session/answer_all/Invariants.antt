-- The lines so far are a run from where the loop began, and the ledger stands where it stood there.
use Rattle.std.proofs.Common.{length, vec_items}
use Rattle.text.specs.Seen.{unread}
use Rattle.ledger.specs.Shown.{shown, Stands}
use Rattle.session.proofs.Turns.{Onward}
use Rattle.session.proofs.Session.answer_all.Given as goal

abbrev pub invariant-loop-item : goal.invariant-loop-item
invariant-loop-item g l =
    Onward g.E.Payload g.E.Effect g.T.Time (unread l.initial.talk.reader) (unread l.talk.reader) (vec_items l.initial.talk.out) (vec_items l.talk.out) (shown g.E.Effect g.T.Time g.S.Store l.initial.self.ledger) (shown g.E.Effect g.T.Time g.S.Store l.self.ledger)
    × (Stands g.E.Effect g.T.Time g.S.Store l.initial.self.ledger → Stands g.E.Effect g.T.Time g.S.Store l.self.ledger)

abbrev pub decreases-loop-item : goal.decreases-loop-item
decreases-loop-item g l = length (unread l.talk.reader)
