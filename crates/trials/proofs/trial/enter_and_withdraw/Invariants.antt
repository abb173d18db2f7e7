use Rattle.std.proofs.Common.{◌≡◌}
use Rattle.trials.specs.Versions.{Newest}
use Rattle.trials.proofs.trial.enter_and_withdraw.Given as goal

abbrev pub invariant-loop-number : goal.invariant-loop-number
invariant-loop-number g l = Newest g.C.Store l.trial × (l.trial.next ≡ l.number)

abbrev pub invariant-loop-number-2 : goal.invariant-loop-number-2
invariant-loop-number-2 g l = Newest g.C.Store l.trial × (l.trial.next ≡ l.count)
