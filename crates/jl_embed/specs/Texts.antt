-- What a text comes to.
use Rattle.std.specs.Prelude.{ℕ, List, Option}
use Rattle.jl_model.specs.declared.limits.TheConstants.{DEFAULT_FUEL, DEFAULT_THREADS}
use Rattle.jl_calculus.specs.declared.history.History.{History}
use Rattle.jl_work.specs.declared.work.Telling.TheVariants.{Text}
use Rattle.jl_work.specs.declared.work.Work.{Work}
use Rattle.jl_work.specs.declared.work.Work.TheVariants.{Run}
use Rattle.jl_work.specs.Owed.{IsOwed}
use Rattle.jl_work.specs.Work.{whole_setup}

-- what is done with a text: it is run with the threads and the fuel that a run has where no word says another number
abbrev pub session_work : Work
session_work = Run (whole_setup DEFAULT_THREADS DEFAULT_FUEL) Text

-- a text comes to this: a history of its program and the text of its result, or no history and the line that tells why it is no program
pub record RunsTo (text : List ℕ) (history : Option History) (told : List ℕ) : Type 0 where
  pub status : ℕ
  pub owed : IsOwed session_work text status history told
