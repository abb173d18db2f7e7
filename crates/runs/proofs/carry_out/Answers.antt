use Rattle.reference.specs.Beliefs.{kinds}
use Rattle.law.proofs.Keeping.{one_more}
use Rattle.law.proofs.Sorting.{TimeLaws}
use Rattle.ledger.specs.Shown.{shown}
use Rattle.runs.proofs.carry_out.Given as given
use Rattle.runs.proofs.carry_out.Goals as goal

laws : (g : given.Over) → TimeLaws g.T.Time.upto
laws g = record { total = g.met.T.Time.total; transitive = g.met.T.Time.transitive }

pub returns : goal.returns
returns g c = record {
  stands = c.dispatch.ensures.stands;
  step = c.dispatch.ensures.step;
  lawful = one_more (kinds g.E.Effect g.T.Time) (laws g) c.args.call c.dispatch.result (shown g.E.Effect g.T.Time g.S.Store c.args.ledger.now) (shown g.E.Effect g.T.Time g.S.Store c.dispatch.new.ledger) c.dispatch.ensures.step;
  rows = c.dispatch.ensures.rows;
  buffer = c.dispatch.ensures.buffer;
}
