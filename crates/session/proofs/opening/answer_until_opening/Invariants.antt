-- The lines so far were answered and none opened the record.
use Rattle.std.proofs.Common.{length, vec_items}
use Rattle.text.specs.Seen.{unread}
use Rattle.session.proofs.Closed.{Sofar}
use Rattle.session.proofs.opening.answer_until_opening.Given as goal

abbrev pub invariant-loop-item : goal.invariant-loop-item
invariant-loop-item l =
    Sofar (unread l.initial.talk.reader) (unread l.talk.reader) (vec_items l.initial.talk.out) (vec_items l.talk.out)

abbrev pub decreases-loop-item : goal.decreases-loop-item
decreases-loop-item l = length (unread l.talk.reader)
