use Rattle.questions.proofs.+last_from.Given as goal

abbrev pub decreases-last_from : goal.decreases-last_from
decreases-last_from g l = l.k
