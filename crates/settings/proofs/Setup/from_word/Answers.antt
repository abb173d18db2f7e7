use Rattle.std.proofs.Common.{rules}
use Rattle.settings.specs.Words.{read_is}
use Rattle.settings.proofs.Setup.from_word.Goals as goal

pub returns-clause-read : goal.returns-clause-read
returns-clause-read c = λ mask w first second. read_is mask w _ first (search rules)
