-- Where memory is wanting, there is nothing to promise.
use Rattle.std.proofs.lemmas.Result.{err_from_is_err_and}
use Rattle.runs.proofs.run.Goals as goal

pub returns-in_err-answers : goal.returns-in_err-answers
returns-in_err-answers g c =
    let wanting = (err_from_is_err_and c.from_residual.result c.from_residual.ensures.1).1 in
    record { promise = rw wanting tt; throughout = rw wanting tt; seconds = rw wanting tt; stands = rw wanting tt }
