use Rattle.reference.specs.Beliefs.{kinds}
use Rattle.law.proofs.Sorting.{TimeLaws}
use Rattle.law.proofs.Proved.{seconds}
use Rattle.law.proofs.second_ledger_exists.Given as given
use Rattle.law.proofs.second_ledger_exists.Goals as goal

laws : (g : given.Over) → TimeLaws g.T.Time.upto
laws g = record { total = g.met.T.Time.total; transitive = g.met.T.Time.transitive }

pub returns : goal.returns
returns g c = seconds (kinds g.E.Effect g.T.Time) (laws g)
