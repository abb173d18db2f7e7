-- Sides have lower cell numbers than their root.
use Rattle.insertion.proofs.+insert_from.Given as goal

abbrev pub decreases-insert_from : goal.decreases-insert_from
decreases-insert_from g l = l.k
