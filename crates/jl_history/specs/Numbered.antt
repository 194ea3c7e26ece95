-- Programs whose definition sites, spawn places and deletion places have numbers that may stand in the text of a history.
use Rattle.std.specs.Prelude.{◌≤◌, length}
use Rattle.jl_program.specs.declared.tree.Program.{Program}
use Rattle.jl_history.specs.declared.fields.TheConstants.{MOST_NUMBER}

-- Each definition site, each spawn place and each deletion place has such a number. So has each script's program: it has at most
-- 4,110 sites, and no more places than bytes.
pub record IsNumbered (P : Program) : Type 0 where
  pub sites : length P.sites ≤ MOST_NUMBER
  pub spawns : length P.spawns ≤ MOST_NUMBER
  pub deletes : length P.deletes ≤ MOST_NUMBER
