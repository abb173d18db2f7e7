use Rattle.std.proofs.Common.{ap, ◌∙◌}
use Rattle.digits.specs.Hex.{encoded}
use Rattle.commands.specs.Frames.{forms, and_then, command_in, wants_open}
use Rattle.commands.proofs.RoundTrip.{command_back}
use Rattle.commands.proofs.writing.write.Goals as goal

pub returns : goal.returns
returns g c =
    let k = forms g.E.Payload g.T.Time in
    let time = g.met.T.Time in
    let payload = g.met.E.Payload in
    let asked = c.args.asked in
    record {
      digits = c.to_line.ensures.digits ∙ ap encoded c.frame_of.ensures.bytes;
      back = ap (λ r. and_then r (command_in k (wants_open asked))) c.to_line.ensures.back ∙ ap (command_in k (wants_open asked)) c.frame_of.ensures.bytes
          ∙ command_back k time.small time.back time.only payload.sized payload.again payload.exact asked c.frame_of.ensures.narrow;
    }
