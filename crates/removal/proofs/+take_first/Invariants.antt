-- Sides have lower cell numbers than their root.
use Rattle.removal.proofs.+take_first.Given as goal

abbrev pub decreases-take_first : goal.decreases-take_first
decreases-take_first g l = l.k
