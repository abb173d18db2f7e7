use Rattle.times.specs.Words.{clock_back}
use Rattle.std.proofs.Common.{sym}
use Rattle.times.proofs.clock.Clock.exactly.Goals as goal

pub returns : goal.returns
returns c = sym (clock_back _)
