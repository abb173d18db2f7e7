use Rattle.reference.specs.Beliefs.{kinds}
use Rattle.law.proofs.Sorting.{TimeLaws}
use Rattle.law.proofs.Keeping.{promised, throughout, one_more}
use Rattle.law.proofs.promise_holds.Given as given
use Rattle.law.proofs.promise_holds.Goals as goal

laws : (g : given.Over) → TimeLaws g.T.Time.upto
laws g = record { total = g.met.T.Time.total; transitive = g.met.T.Time.transitive }

pub returns : goal.returns
returns g c =
    let k = kinds g.E.Effect g.T.Time in
    record { holds = λ m cs xs v r. promised k (laws g) r; throughout = λ m cs xs v r. throughout k (laws g) r; onward = one_more k (laws g) }
