use Rattle.questions.proofs.+carry_from.Given as goal

abbrev pub decreases-carry_from : goal.decreases-carry_from
decreases-carry_from g l = l.k
