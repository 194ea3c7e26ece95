-- The programs of the tests, as they come of their scripts.
use Rattle.std.specs.Prelude.{ℕ, pos, true, codes, List, [], ◌∷◌, ◌++◌}
use Rattle.jl_model.specs.declared.ty.Ty.{Ty}
use Rattle.jl_model.specs.declared.ty.Ty.TheVariants as T
use Rattle.jl_program.specs.declared.tree.Delete.{Delete}
use Rattle.jl_program.specs.declared.tree.Expr.{Expr}
use Rattle.jl_program.specs.declared.tree.Expr.TheVariants as E
use Rattle.jl_program.specs.declared.tree.Expr.TheViews as X
use Rattle.jl_program.specs.declared.tree.Item.{Item}
use Rattle.jl_program.specs.declared.tree.Item.TheVariants as I
use Rattle.jl_program.specs.declared.tree.Piece.TheVariants as Pi
use Rattle.jl_program.specs.declared.tree.Program.{Program}
use Rattle.jl_program.specs.declared.tree.Site.{Site}
use Rattle.jl_program.specs.Prelude.{prelude_functions, prelude_sites, plain, int64}

-- a definition of a function, for parameters of these types
abbrev pub site_of : ℕ → List Ty → Expr → Site
site_of function types body = record { function = function; sig = plain types; body = body }

-- a deletion of a function's methods for parameters of these types
abbrev pub place_of : ℕ → List Ty → Delete
place_of function types = record { function = function; sig = plain types }

-- a program that declares no types, with these functions, definitions, tasks, deletions and statements
abbrev pub program_of : List (List ℕ) → List Site → List Expr → List Delete → List Item → Program
program_of names sites spawns deletes top =
    record { decls = []; functions = prelude_functions ++ names; sites = prelude_sites ++ sites; spawns = spawns; deletes = deletes; top = top }

-- `println` of an expression
abbrev pub shown : Expr → Item
shown e = I.Do (X.Print (Pi.Show e ∷ []) true)

-- `f() = 1`, `late() = f()`, `t = Threads.@spawn late()`, `f() = 2`, `println(fetch(t))`, `println(f())`
abbrev pub late_sites : List Site
late_sites = site_of 12 [] (E.Int (pos 1)) ∷ site_of 13 [] (X.Call 12 []) ∷ site_of 12 [] (E.Int (pos 2)) ∷ []

abbrev pub late_top : List Item
late_top = I.Define 14 ∷ I.Define 15 ∷ I.Bind 0 (E.Spawn 0) ∷ I.Define 16 ∷ shown (X.Fetch (E.Local 0)) ∷ shown (X.Call 12 []) ∷ []

abbrev pub late_with : List Delete → Program
late_with deletes = program_of (codes "f" ∷ codes "late" ∷ []) late_sites (X.Call 13 [] ∷ []) deletes late_top

abbrev pub late : Program
late = late_with []

-- the same with a place that deletes `f()`
abbrev pub deleted : Program
deleted = late_with (place_of 12 [] ∷ [])

-- `f(x::Int64, y) = 1`, `f(x, y::Int64) = 2`, `f(x::Int64, y::Int64) = 3`, and a place that deletes the third
abbrev pub crossed_sites : List Site
crossed_sites = site_of 12 (int64 ∷ T.Any ∷ []) (E.Int (pos 1)) ∷ site_of 12 (T.Any ∷ int64 ∷ []) (E.Int (pos 2)) ∷ site_of 12 (int64 ∷ int64 ∷ []) (E.Int (pos 3)) ∷ []

abbrev pub crossed_top : List Item
crossed_top = I.Define 14 ∷ I.Define 15 ∷ I.Define 16 ∷ []

abbrev pub crossed : Program
crossed = program_of (codes "f" ∷ []) crossed_sites [] (place_of 12 (int64 ∷ int64 ∷ []) ∷ []) crossed_top

-- `Threads.@spawn nothing`
abbrev pub child : Program
child = program_of [] [] (E.Nothing ∷ []) [] (I.Do (E.Spawn 0) ∷ [])
