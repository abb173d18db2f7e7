use Rattle.std.proofs.Common.{refl, sym}
use Rattle.counter.specs.Sames.{same_level}
use Rattle.counter.specs.Made.{level_back}
use Rattle.counter.proofs.Level.exactly.Goals as goal

pub returns : goal.returns
returns c = record { value = refl; same = λ l is. same_level _ l is; made = sym (level_back _) }
