use Rattle.std.proofs.Common.{List, ◌++◌, drop}
use Rattle.jl_calculus.specs.declared.history.Del.{Del}
use Rattle.jl_subsig.specs.Standing.{AreLastOfPlaces}
use Rattle.jl_subsig.proofs.standing.last_of_places.Given as goal

abbrev pub invariant-loop-i : goal.invariant-loop-i
invariant-loop-i l = (rest : List Del) → AreLastOfPlaces (drop l.i l.dels) rest → AreLastOfPlaces l.dels (l.those.items ++ rest)
