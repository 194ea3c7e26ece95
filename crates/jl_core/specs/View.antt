-- What contracts see of what the model keeps.
use Rattle.std.specs.Prelude.{ℕ, Option, None, Some}
use Rattle.jl_calculus.specs.Core as C
use Rattle.jl_calculus.specs.Ranges.{CacheRow}
use Rattle.jl_core.specs.declared.task.Stand.{Stand}
use Rattle.jl_core.specs.declared.task.Stand.TheVariants.{AtRow, Found, Missed}
use Rattle.jl_core.specs.declared.task.Search.{Search}
use Rattle.jl_core.specs.declared.task.Task.{Task}
use Rattle.jl_core.specs.declared.words.Words.{Words}

abbrev pub stand_of : Stand → C.Stand
stand_of (AtRow r) = C.at_row r
stand_of (Found site) = C.found site
stand_of Missed = C.missed

-- the row at which a search is
abbrev pub row_at : C.Stand → Option ℕ
row_at (C.at_row r) = Some r
row_at (C.found site) = None
row_at C.missed = None

abbrev pub search_of : Search → C.Search
search_of search = record { key = search.key; world = search.world; stand = stand_of search.stand }

abbrev pub last_of : Option Search → Option C.Search
last_of None = None
last_of (Some search) = Some (search_of search)

abbrev pub task_of : Task → C.TaskState
task_of t = record { seen = t.seen; known = t.known.items; search = last_of t.search }

-- the row that words tell
abbrev pub row_of : Words → CacheRow
row_of words = record { key = words.key; site = words.site; first = words.first }
