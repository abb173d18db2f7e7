use Rattle.std.proofs.Common.{sym, ◌∙◌}
use Rattle.commands.specs.Frames.{forms}
use Rattle.commands.proofs.Places.{place_near}
use Rattle.commands.proofs.reading.read.Goals as goal

pub returns : goal.returns
returns g c =
    let told = c.command_on.ensures in
    record {
      command = told.command;
      again = told.again;
      near = λ f e. place_near (forms g.E.Payload g.T.Time) c.args.opened c.args.line.now f (sym told.command ∙ e);
    }
