use Rattle.rules.proofs.rule.+read_rules.Given as goal

abbrev pub decreases-read_rules : goal.decreases-read_rules
decreases-read_rules l = l.room
