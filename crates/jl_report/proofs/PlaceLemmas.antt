-- A deletion is at a place of the program, so the program has one.
use Rattle.std.proofs.Common.{◌≡◌, refl, ℕ, ◌<◌, arith, true, List, length, slice_get, Option, None, Some}
use Rattle.std.proofs.lemmas.Option.{slice_get_within}
use Rattle.jl_program.specs.declared.tree.Delete.{Delete}
use Rattle.jl_program.specs.declared.tree.Program.{Program}
use Rattle.jl_calculus.specs.declared.history.Event.{Event}
use Rattle.jl_calculus.specs.World.{world_of, HasMethodAt, FindsMethod}
use Rattle.jl_report.specs.HistoryText.{has_places}

-- a place that finds a method to delete is one of the program
pub place_known : (P : Program) (es : List Event) (place : ℕ) → FindsMethod P es place → place < length P.deletes
place_known P es place h = by (slice_get P.deletes place) refl h
  where
    by : (o : Option Delete) → slice_get P.deletes place ≡ o → HasMethodAt P es (world_of es) o → place < length P.deletes
    by None at k = absurd k
    by (Some delete) at k = slice_get_within P.deletes place delete at

-- a program with such a place has one
pub has_place : (P : Program) (place : ℕ) → place < length P.deletes → has_places P ≡ true
has_place P place l = grind (arith, l)
