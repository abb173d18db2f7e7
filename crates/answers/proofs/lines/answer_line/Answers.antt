use Rattle.std.proofs.Common.{◌≡◌, sym, ap, ◌∙◌, arith}
use Rattle.words.specs.declared.StateWords.{StateWords}
use Rattle.words.proofs.Giving.{some_same}
use Rattle.digits.specs.Hex.{encoded}
use Rattle.answers.specs.Lines.{shown}
use Rattle.answers.proofs.Telling.{lines_apart}
use Rattle.answers.proofs.lines.answer_line.Goals as goal

same_state_words : (a b : StateWords) → a.first ≡ b.first → a ≡ b
same_state_words a b p = λ i. record { first = p i }

pub returns : goal.returns
returns g c =
    let k = shown g.E.Effect g.T.Time in
    let time = g.met.T.Time in
    let digits = c.to_line.ensures.digits ∙ ap encoded c.answer_frame.ensures in
    record {
      digits = digits;
      apart = λ other same f h e.
          lines_apart k (λ s t p. g.met.E.Effect.states s t (same_state_words _ _ p))
          (λ t u p. some_same (sym (time.back t) ∙ ap g.T.Time.reads p ∙ time.back u)) time.small c.args.code c.args.answer other _ (omega (arith, c.ranges.code)) digits same f h e;
    }
