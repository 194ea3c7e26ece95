-- Which numbers a run may be set up with.
use Rattle.std.specs.Prelude.{ℕ, ◌≤◌}
use Rattle.jl_model.specs.declared.limits.TheConstants.{MOST_THREADS, MOST_FUEL, MOST_CACHE_KEYS, MOST_CACHE_ROWS}
use Rattle.jl_queue.specs.declared.setup.Setup.{Setup}

-- a number from 1 to a limit
pub record IsCount (most n : ℕ) : Type 0 where
  pub some : 1 ≤ n
  pub few : n ≤ most

-- there is a worker, and room for a key and for a row, and none of the numbers is above its limit
pub record IsSetup (s : Setup) : Type 0 where
  pub workers : IsCount MOST_THREADS s.threads
  pub calls : s.fuel ≤ MOST_FUEL
  pub places : IsCount MOST_CACHE_KEYS s.keys
  pub links : IsCount MOST_CACHE_ROWS s.rows
