use Rattle.rules.proofs.parts.+read_more.Given as goal

abbrev pub decreases-read_more : goal.decreases-read_more
decreases-read_more g l = l.room
