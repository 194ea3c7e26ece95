use Rattle.std.proofs.Common.{◌+◌, ◌*◌}
use Rattle.jl_causes.proofs.type_text.+reading.Given as goal

abbrev pub decreases-read_at : goal.decreases-read_at
decreases-read_at l = 2 * l.room + 1

abbrev pub decreases-read_parts : goal.decreases-read_parts
decreases-read_parts l = 2 * l.room
