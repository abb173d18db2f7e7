use Rattle.std.proofs.Common.{◌≡◌, fold, ap, ◌∙◌, arith}
use Rattle.std.proofs.lemmas.Grind.{common_steps}
use Rattle.std.proofs.lemmas.List.Folds.{fold_along}
use Rattle.effects.proofs.compose_all.Goals as goal

-- the effects so far, composed, act as they do in turn
pub returns-clause-carries : goal.returns-clause-carries
returns-clause-carries g c =
    let k = g.E.Effect in
    let laws = g.met.E.Effect in
    let es = c.args.effects.now in
    let value : c.fold.result ≡ fold k.composed k.unchanged es = grind (arith, common_steps) in
    λ s. ap (λ f. k.acts f s) value ∙ fold_along k.composed (λ t e. k.acts e t) (λ f t. k.acts f s ≡ t) (λ f t e is. laws.follows f e s ∙ ap (k.acts e) is) k.unchanged s es (laws.rests s)
