-- Words of histories, computed on lists with tasks, keys and fills.
use Rattle.std.proofs.Common.{◌≡◌, refl, subst, ℕ, ◌<◌, ◌≤◌, pos, codes, List, [], ◌∷◌, ◌++◌, Some, None, arith}
use Rattle.std.specs.Fmt.{digits}
use Rattle.jl_model.specs.declared.ty.Key.{Key}
use Rattle.jl_model.specs.declared.ty.Ty.{Ty}
use Rattle.jl_model.specs.Signature.{Applicable, both_end}
use Rattle.jl_program.specs.declared.tree.Expr.TheVariants as E
use Rattle.jl_program.specs.declared.tree.Site.{Site}
use Rattle.jl_program.specs.declared.tree.Start.{Start}
use Rattle.jl_program.specs.declared.tree.Program.{Program}
use Rattle.jl_program.specs.declared.value.Value.TheVariants as V
use Rattle.jl_program.specs.declared.fault.Fault.TheVariants as F
use Rattle.jl_calculus.specs.declared.history.Outcome.{Outcome}
use Rattle.jl_calculus.specs.declared.history.Outcome.TheVariants as O
use Rattle.jl_calculus.specs.declared.history.Event.{Event}
use Rattle.jl_calculus.specs.declared.history.Event.TheVariants as Ev
use Rattle.jl_calculus.specs.declared.history.Record.{Record}
use Rattle.jl_calculus.specs.declared.history.TraceItem.TheVariants.{Spawn, Fetch}
use Rattle.jl_program.specs.Prelude.{prelude_functions, prelude_sites, plain, int64}
use Rattle.jl_calculus.specs.Past.{tasks_of, own_events, own_starts, IsTrueOf}
use Rattle.jl_calculus.specs.Legal.{first_place, start_of, text_of, status_of}
use Rattle.jl_calculus.specs.Orders.{path_order, wait_order}
use Rattle.jl_program.specs.Scope.{types_of}
use Rattle.jl_calculus.specs.World.{world_of, site_of, methods_made}
use Rattle.jl_program.proofs.FirstChoices.{applies_by}
use Rattle.jl_calculus.specs.Ranges.{CacheRow, Covers, IsCovered, EndsWith, keys_of, rows_of, Touches}

-- ---- tasks

abbrev start : ℕ → Start
start place = record { spawn = place; env = []; bindings = []; world = 14 }

abbrev ended : Outcome → List ℕ → Record
ended o text = record { trace = []; outcome = o; output = text; calls = 0 }

abbrev nothing : Outcome
nothing = O.Value V.Nothing

-- the root starts 1 and 2, and task 1 starts 3
abbrev tasks : List Event
tasks =
    Ev.Begin 9 ∷ Ev.Spawn 0 1 (start 0) ∷ Ev.Spawn 0 2 (start 1) ∷ Ev.Spawn 1 3 (start 2)
    ∷ Ev.Done 3 (ended nothing (codes "3")) ∷ Ev.Done 2 (ended (O.Error F.DivideError) (codes "2")) ∷ Ev.Done 1 (ended nothing (codes "1"))
    ∷ Ev.Done 0 (ended (O.Error (F.TaskFailed 2)) (codes "0")) ∷ []

path : path_order tasks ≡ 0 ∷ 1 ∷ 3 ∷ 2 ∷ []
path = refl

wait : wait_order tasks ≡ 3 ∷ 1 ∷ 2 ∷ 0 ∷ []
wait = refl

count : tasks_of tasks ≡ 4
count = refl

failed : status_of tasks ≡ 1
failed = refl

first_of_root : first_place 0 0 tasks ≡ 1
first_of_root = refl

first_of_third : first_place 3 0 tasks ≡ 4
first_of_third = refl

start_of_third : start_of 3 tasks ≡ Some (start 2)
start_of_third = refl

start_of_root : start_of 0 tasks ≡ None
start_of_root = refl

own_of_root : own_events 0 0 tasks ≡ Spawn 1 1 ∷ Spawn 2 2 ∷ []
own_of_root = refl

own_of_first : own_events 1 0 tasks ≡ Spawn 3 3 ∷ []
own_of_first = refl

starts_of_root : own_starts 0 tasks ≡ start 0 ∷ start 1 ∷ []
starts_of_root = refl

fetched : (Q : Program) → IsTrueOf Q tasks 0 (Fetch 2 (O.Error F.DivideError) 6)
fetched Q = (omega arith, refl)

not_fetched_yet : (Q : Program) → IsTrueOf Q tasks 0 (Fetch 2 (O.Error F.DivideError) 5) → ⊥
not_fetched_yet Q h = h.1

-- ---- keys and fills: `f() = 1`, `late() = f()`, `f() = 2`

abbrev zero_of : ℕ → Site
zero_of f = record { function = f; sig = plain []; body = E.Int (pos 1) }

abbrev P : Program
P = record { decls = []; functions = prelude_functions ++ codes "f" ∷ codes "late" ∷ []; sites = prelude_sites ++ zero_of 12 ∷ zero_of 13 ∷ zero_of 12 ∷ []; spawns = []; deletes = []; top = [] }

text_of_tasks : text_of P tasks ≡ codes "0132ERROR: TaskFailedException: task 2\n"
unfolding digits
text_of_tasks = refl

abbrev key : Key
key = record { function = 12; types = [] }

abbrev filled : List Event
filled = Ev.Begin 9 ∷ Ev.Def 0 14 ∷ Ev.Def 0 15 ∷ Ev.Def 0 16 ∷ Ev.Key key ∷ Ev.Fill 0 14 15 ∷ []

newest : world_of filled ≡ 17
newest = refl

first_prelude : site_of filled 1 ≡ 0
first_prelude = refl

last_prelude : site_of filled 14 ≡ 13
last_prelude = refl

first_of_script : site_of filled 15 ≡ 14
first_of_script = refl

last_of_script : site_of filled 17 ≡ 16
last_of_script = refl

methods_of_f : methods_made P filled 12 17 ≡ record { number = 15; sig = plain [] } ∷ record { number = 17; sig = plain [] } ∷ []
methods_of_f = refl

methods_of_f_before : methods_made P filled 12 16 ≡ record { number = 15; sig = plain [] } ∷ []
methods_of_f_before = refl

methods_of_minus : methods_made P filled 1 14 ≡ record { number = 2; sig = plain (int64 ∷ int64 ∷ []) } ∷ record { number = 6; sig = plain (int64 ∷ []) } ∷ []
methods_of_minus = refl

one_key : keys_of filled ≡ key ∷ []
one_key = refl

abbrev row : CacheRow
row = record { key = 0; site = 14; first = 15 }

one_row : rows_of filled ≡ row ∷ []
one_row = refl

-- the row of the first definition covers its world and that of `late`
no_touch : (d : ℕ) → 15 < d → d ≤ 16 → Touches P filled d key → ⊥
no_touch d low high t = let e : d ≡ 16 = omega (arith, low, high) in absurd (omega (arith, (subst (λ (n : ℕ). Touches P filled n key) e t).0))

first_range : Covers P filled key 15 16
first_range = record { begun = omega arith; going = no_touch }

covered : IsCovered P filled 0 key 16
covered = (row, record { stands = (0, omega arith, refl); of_key = refl; covers = first_range })

-- and not the world before it
not_covered_before : Covers P filled key 15 14 → ⊥
not_covered_before h = absurd (omega (arith, h.begun))

-- the second definition of `f` ends the range
abbrev no_vars : List Ty
no_vars = []

-- a signature without parameters applies to no arguments
no_arguments : Applicable (types_of P) (plain no_vars) no_vars
no_arguments = applies_by (types_of P) [] [] (0, omega arith, refl) refl both_end

touches : Touches P filled 17 key
touches = (refl, no_arguments)

range_ends : EndsWith P filled key 15 16
range_ends = record { covers = first_range; touched = touches }

not_covered_after : Covers P filled key 15 17 → ⊥
not_covered_after h = h.going 17 (omega arith) (omega arith) touches

-- a definition that is not there touches nothing, and world 0 has none
not_there : Touches P filled 18 key → ⊥
not_there h = absurd h

none_in_zero : Touches P filled 0 key → ⊥
none_in_zero h = absurd h
