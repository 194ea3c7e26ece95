-- The setups of the runs that work on a script asks for.
use Rattle.std.specs.Prelude.{ℕ, Option, None, Some}
use Rattle.jl_model.specs.declared.limits.TheConstants.{MOST_CACHE_KEYS, MOST_CACHE_ROWS}
use Rattle.jl_queue.specs.declared.setup.Setup.{Setup}
use Rattle.jl_queue.specs.Setups.{IsSetup}
use Rattle.jl_work.specs.declared.work.Work.{Work}
use Rattle.jl_work.specs.declared.work.Work.TheVariants as W

-- the setup of a run with so many threads and so much fuel: its cache is as large as a cache may be
abbrev pub whole_setup : ℕ → ℕ → Setup
whole_setup threads fuel = record { threads = threads; fuel = fuel; keys = MOST_CACHE_KEYS; rows = MOST_CACHE_ROWS }

-- the setup of the run that work begins
abbrev pub setup_of : Work → Option Setup
setup_of W.Check = None
setup_of (W.Run setup telling) = Some setup
setup_of (W.Which setup question) = Some setup

-- a run that is asked for has a setup that is allowed
abbrev pub IsSetUp : Work → Type 0
IsSetUp W.Check = Unit {0}
IsSetUp (W.Run setup telling) = IsSetup setup
IsSetUp (W.Which setup question) = IsSetup setup
