-- Sides have lower cell numbers than their root.
use Rattle.removal.proofs.+take_out.Given as goal

abbrev pub decreases-take_out : goal.decreases-take_out
decreases-take_out g l = l.k
