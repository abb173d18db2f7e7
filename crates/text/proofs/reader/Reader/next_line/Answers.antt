use Rattle.std.proofs.Common.{length, sym, ◌∙◌}
use Rattle.std.proofs.lemmas.Bool.{leb-false}
use Rattle.text.proofs.Cutting.{next_cut}
use Rattle.text.proofs.reader.Reader.next_line.Goals as goal

pub returns : goal.returns
returns c =
    let reader = c.args.self.now in
    let left = leb-false (length reader.input.now) reader.limits.at (sym c.at_end.ensures ∙ c.if-at_end.false) in
    let made = c.narrow-guard.ensures in
    rw (made.stays, made.narrowed) (next_cut reader.input.now _ _ _ left c.line_end.ensures.line (cc))
