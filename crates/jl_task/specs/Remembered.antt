-- What a dispatcher remembers that is over another one.
use Rattle.std.specs.Prelude.{List, Option}
use Rattle.jl_task.specs.Knows.{Knows}
use Rattle.jl_task.specs.Kept.{AreKept}
use Rattle.jl_task.specs.Numbers.{AreNumbers}
use Rattle.jl_task.specs.declared.numbers.NumberSite.{NumberSite}
use Rattle.jl_task.specs.declared.table.Kept.{Kept}

-- the calls in its table are right, and those of two numbers
pub record AreRemembered (k : Knows) (table : List (Option Kept)) (numbers : List NumberSite) : Type 0 where
  pub table_is : AreKept k table
  pub numbers_are : AreNumbers k numbers
