use Rattle.std.proofs.Common.{rules}
use Rattle.status.specs.Turns.{turned, joined}
use Rattle.status.proofs.Arrays.{mapped}
use Rattle.status.proofs.Transitions.then.Goals as goal

pub returns : goal.returns
returns c =
    let f = c.args.self in
    let g = c.args.second in
    c.new.ensures.same (joined f g) (mapped (turned g) c.map.ensures.items f.eight (λ q x y k. search rules))
