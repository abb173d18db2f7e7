use Rattle.reference.specs.Beliefs.{kinds}
use Rattle.law.proofs.Sorting.{TimeLaws}
use Rattle.law.proofs.Proved.{next_fits}
use Rattle.law.proofs.answers_fit.Given as given
use Rattle.law.proofs.answers_fit.Goals as goal

laws : (g : given.Over) → TimeLaws g.T.Time.upto
laws g = record { total = g.met.T.Time.total; transitive = g.met.T.Time.transitive }

pub returns : goal.returns
returns g c = next_fits (kinds g.E.Effect g.T.Time) (laws g)
