use Rattle.std.proofs.Common.{drop, sym, subst}
use Rattle.text.specs.Cut.{lines_from, Whole}
use Rattle.text.proofs.Rejoining.{lines_whole}
use Rattle.text.proofs.reader.Reader.new.Goals as goal

pub returns-clause-whole : goal.returns-clause-whole
returns-clause-whole c =
    let bs = c.args.input.now in
    subst (λ at. Whole bs (lines_from at (drop at bs))) (sym c.of.ensures.at) (lines_whole bs)
