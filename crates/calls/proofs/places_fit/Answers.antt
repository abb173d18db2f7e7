use Rattle.calls.proofs.Places.{refusal_out}
use Rattle.calls.proofs.places_fit.Goals as goal

pub returns : goal.returns
returns g c = refusal_out
