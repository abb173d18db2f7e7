use Rattle.std.proofs.Common.{refl, arith}
use Rattle.commands.specs.Frames.{forms}
use Rattle.session.proofs.Sizes.{command_long}
use Rattle.session.proofs.Session.answer_frame.Goals as goal

pub returns-in-Ok-clause-short : goal.returns-in-Ok-clause-short
returns-in-Ok-clause-short g c =
    let command = c.in-Ok.command in
    omega (arith, command_long (forms g.E.Payload g.T.Time) command c.args.frame.now (c.in-Ok.ensures.again command refl), c.obey.ensures.short)
