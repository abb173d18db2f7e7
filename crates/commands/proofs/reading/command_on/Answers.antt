use Rattle.std.proofs.Common.{sym, ap, ◌∙◌}
use Rattle.digits.specs.Hex.{encoded}
use Rattle.digits.proofs.Round.{under_read, written_read}
use Rattle.commands.specs.Frames.{forms, and_then, command_in}
use Rattle.commands.proofs.RoundTrip.{command_exact}
use Rattle.commands.proofs.reading.command_on.Goals as goal

pub returns : goal.returns
returns g c =
    let k = forms g.E.Payload g.T.Time in
    let time = g.met.T.Time in
    let payload = g.met.E.Payload in
    let line = c.args.line.now in
    let bytes = c.in_ok-frame.frame in
    let read = c.in_ok-frame.ensures.bytes in
    let is = c.command_in.ensures ∙ ap (command_in k c.args.opened) c.as_slice.ensures.bytes in
    record {
      command = is ∙ ap (λ r. and_then r (command_in k c.args.opened)) read;
      again = λ d e.
          ap encoded (command_exact k time.small time.back time.only payload.sized payload.again payload.exact c.args.opened bytes d (under_read line bytes read) (sym e ∙ is)) ∙ written_read line bytes read;
    }
