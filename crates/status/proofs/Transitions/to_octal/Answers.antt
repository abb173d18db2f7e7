use Rattle.std.proofs.Common.{◌≡◌, ◌^◌, ◌<◌, length, refl, ◌∙◌, arith, rules, lit<, length-append}
use Rattle.std.proofs.iter.Serving.{serving}
use Rattle.std.proofs.lemmas.Fn.{serves_by}
use Rattle.std.proofs.lemmas.List.{length-reverse}
use Rattle.std.proofs.lemmas.Iterator.Consumers.{fold_from_yields_List, YieldsList-turn}
use Rattle.std.proofs.lemmas.Iterator.Adapters.{YieldsList-from_rev_slice}
use Rattle.status.specs.Codes.{code_of}
use Rattle.status.specs.Statuses.{code_small}
use Rattle.status.proofs.Digits.{behind, written, digit_behind, seven_digits}
use Rattle.status.proofs.Transitions.to_octal.Goals as goal

-- after k entries the number has at most k digits
pub fold-requires-clause-callable : goal.fold-requires-clause-callable
fold-requires-clause-callable c =
    let ss = c.args.self.entries in
    let road = YieldsList-from_rev_slice {s = c.rev.result} ss (search rules) in
    serves_by _ (λ xs q. q.1 < 8 ^ length xs)
    (λ xs q x v small k.
    let is : v.1 ≡ behind q.1 x.now = search rules in
    simp length-append (rw is (digit_behind (length xs) q.1 (code_of x.now) small (code_small x.now))))
    _ _ _ _ (lit< tt)
    (λ xs t q x u gives gave small.
    let inside = YieldsList-turn road xs t gives _ u x refl gave in
    let room : q.1 < 8 ^ 7 = seven_digits (length xs) q.1 small (omega (arith, inside.0, c.args.self.eight, length-reverse ss)) in
    let one = code_small x.now in search (rules, serving))

pub returns : goal.returns
returns c =
    let ss = c.args.self.entries in
    fold_from_yields_List _ behind 0 _ c.fold.ensures.ran (YieldsList-from_rev_slice ss (search rules)) (λ a x b q k. search rules) ∙ written ss
