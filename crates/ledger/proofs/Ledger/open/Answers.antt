-- A ledger just opened shows belief 0 alone, and its row stands.
use Rattle.std.proofs.Common.{refl, arith}
use Rattle.ledger.proofs.Empty.{all_empty}
use Rattle.ledger.specs.Shown.{beliefs_of}
use Rattle.ledger.proofs.Ledger.open.Goals as goal

pub invariant_of-result : goal.invariant_of-result
invariant_of-result g c = record { rows = refl; latest = omega arith; each = all_empty g.E.Effect g.T.Time (g.S.Store.meaning c.args.store).cells }

pub returns-clause-shown : goal.returns-clause-shown
unfolding beliefs_of
returns-clause-shown g c = refl
