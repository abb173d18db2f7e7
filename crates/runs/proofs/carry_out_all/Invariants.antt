-- The calls so far and their answers are a run from where the loop began.
use Rattle.std.proofs.Common.{◌≡◌, ◌≤◌, length, take, vec_items, vec_len, vec_capacity}
use Rattle.reference.specs.Beliefs.{kinds}
use Rattle.law.specs.Runs.{Run}
use Rattle.ledger.specs.Shown.{shown, Stands}
use Rattle.runs.proofs.carry_out_all.Given as goal

abbrev pub invariant-loop-call : goal.invariant-loop-call
invariant-loop-call g l =
    (l.call-index ≤ length l.calls) × (vec_len l.answers ≡ l.call-index) × (length l.calls ≤ vec_capacity l.answers)
    × Run (kinds g.E.Effect g.T.Time) (take l.call-index l.calls) (vec_items l.answers) (shown g.E.Effect g.T.Time g.S.Store l.initial.ledger) (shown g.E.Effect g.T.Time g.S.Store l.ledger)
    × (Stands g.E.Effect g.T.Time g.S.Store l.initial.ledger → Stands g.E.Effect g.T.Time g.S.Store l.ledger)
