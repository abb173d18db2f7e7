use Rattle.std.proofs.Common.{Err, sym, refl, ap, ◌∙◌, subst}
use Rattle.std.proofs.lemmas.Result.{err_from_is_err_and}
use Rattle.reference.specs.Beliefs.{kinds}
use Rattle.law.specs.Runs.{Step}
use Rattle.ledger.specs.Shown.{shown}
use Rattle.runs.proofs.dispatch.Goals as goal

pub returns-in_err-enter-in-Enter : goal.returns-in_err-enter-in-Enter
returns-in_err-enter-in-Enter g c =
    let k = kinds g.E.Effect g.T.Time in
    let v = shown g.E.Effect g.T.Time g.S.Store c.args.ledger.now in
    let w = shown g.E.Effect g.T.Time g.S.Store c.enter.new.self in
    let p = err_from_is_err_and c.from_residual.result c.from_residual.ensures.1 in
    let stopped = c.in_err-enter-in-Enter.ensures in
    record {
      stands = stopped.stands;
      step = subst (λ r. Step k c.args.call r v w) (sym (p.1 ∙ ap (λ y. Err y) p.2)) (subst (λ q. Step k q (Err c.in_err-enter-in-Enter.field-0.0) v w) (sym c.in-Enter.is) stopped.step);
      rows = λ _. ap (λ l. l.rows) (stopped.refused refl);
      buffer = λ _. ap (λ l. g.S.Store.buffer l.store) (stopped.refused refl);
    }

pub returns-in_err-withdraw-in-Withdraw : goal.returns-in_err-withdraw-in-Withdraw
returns-in_err-withdraw-in-Withdraw g c =
    let k = kinds g.E.Effect g.T.Time in
    let v = shown g.E.Effect g.T.Time g.S.Store c.args.ledger.now in
    let w = shown g.E.Effect g.T.Time g.S.Store c.withdraw.new.self in
    let p = err_from_is_err_and c.from_residual-in_err-withdraw-in-Withdraw.result c.from_residual-in_err-withdraw-in-Withdraw.ensures.1 in
    let stopped = c.in_err-withdraw-in-Withdraw.ensures in
    record {
      stands = stopped.stands;
      step = subst (λ r. Step k c.args.call r v w) (sym (p.1 ∙ ap (λ y. Err y) p.2)) (subst (λ q. Step k q (Err c.in_err-withdraw-in-Withdraw.field-0.0) v w) (sym c.in-Withdraw.is) stopped.step);
      rows = λ _. stopped.rows refl;
      buffer = λ _. stopped.buffer refl;
    }
