use Rattle.jl_causes.proofs.type_text.+read_few.Given as goal

abbrev pub decreases-read_few : goal.decreases-read_few
decreases-read_few l = l.many
