use Rattle.trials.proofs.compare.+compare.Given as goal

abbrev pub decreases-compare : goal.decreases-compare
decreases-compare g l = l.depth
