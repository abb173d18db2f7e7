-- What the law proves of every run from an opening, of this run.
use Rattle.std.proofs.Common.{vec_items, subst}
use Rattle.reference.specs.Beliefs.{kinds}
use Rattle.law.specs.Runs.{opened, Run}
use Rattle.law.proofs.Keeping.{promised, throughout}
use Rattle.law.proofs.Proved.{seconds}
use Rattle.law.proofs.Sorting.{TimeLaws}
use Rattle.ledger.specs.Shown.{shown}
use Rattle.runs.proofs.run_into.Given as given
use Rattle.runs.proofs.run_into.Goals as goal

laws : (g : given.Over) → TimeLaws g.T.Time.upto
laws g = record { total = g.met.T.Time.total; transitive = g.met.T.Time.transitive }

pub returns : goal.returns
returns g c =
    let k = kinds g.E.Effect g.T.Time in
    let m = g.S.Store.meaning c.args.store in
    let calls = c.args.calls.now in
    let answers = vec_items c.carry_out_all.new.answers in
    let v = shown g.E.Effect g.T.Time g.S.Store c.carry_out_all.new.ledger in
    let whole : Run k calls answers (opened m) v = subst (λ u. Run k calls answers u v) c.open-ledger.ensures.shown c.carry_out_all.ensures.run in
    record { promise = promised k (laws g) whole; throughout = throughout k (laws g) whole; seconds = seconds k (laws g) m calls answers v whole; stands = c.carry_out_all.ensures.stands c.open-ledger.ensures.stands }
