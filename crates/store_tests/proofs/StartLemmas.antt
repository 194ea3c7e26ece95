-- The start of the script's task is valid: nothing is visible at its place.
use Rattle.std.proofs.Common.{◌≡◌, ◌∙◌, refl, sym, ap, subst, ℕ, ℤ, pos, ◌<◌, arith, List, [], ◌∷◌, ◌++◌, map, length}
use Rattle.std.specs.List.{flat_map}
use Rattle.jl_program.specs.Prelude.{prelude_sites}
use Rattle.jl_program.specs.Scope.{View, nothing_seen, all_types, in_body}
use Rattle.jl_program.specs.ValidValue.{none}
use Rattle.jl_program.specs.declared.tree.Expr.{Expr}
use Rattle.jl_program.specs.declared.tree.Expr.TheFolds.{fold-roll-Expr, fold-roll-Item}
use Rattle.jl_program.specs.declared.tree.Expr.TheOpen as F
use Rattle.jl_program.specs.declared.tree.Expr.TheVariants as E
use Rattle.jl_program.specs.declared.tree.Expr.TheViews as X
use Rattle.jl_program.specs.declared.tree.Item.{Item, roll-Item, roll-out-Item}
use Rattle.jl_program.specs.declared.tree.Item.TheVariants as I
use Rattle.jl_program.specs.declared.tree.Program.{Program}
use Rattle.jl_program.specs.declared.tree.Site.{Site}
use Rattle.jl_calculus.specs.ValidStart.{IsValidStart, AreStatics}
use Rattle.jl_calculus.specs.Views.{Finds, Walk, find_step, find_stmt_step, find_item_step, find_piece_step, find_spawns, find_in_turn, walk_item, with_inner, view_among, view_at}
use Rattle.store_tests.specs.Programs.{late, late_sites, late_top, deleted}
use Rattle.store_tests.specs.Starts.{first_start}

-- ---- the spawns in each form

pub find_nothing : find_spawns E.Nothing ≡ find_step F.Nothing
find_nothing = ap find_spawns (sym X.rolls-Nothing) ∙ fold-roll-Expr Finds Walk Finds Walk find_step find_item_step find_piece_step find_stmt_step F.Nothing

find_int : (n : ℤ) → find_spawns (E.Int n) ≡ find_step (F.Int n)
find_int n = ap find_spawns (sym (X.rolls-Int n)) ∙ fold-roll-Expr Finds Walk Finds Walk find_step find_item_step find_piece_step find_stmt_step (F.Int n)

find_call : (f : ℕ) → find_spawns (X.Call f []) ≡ find_step (F.Call f [])
find_call f = ap find_spawns (sym (X.rolls-Call f [])) ∙ fold-roll-Expr Finds Walk Finds Walk find_step find_item_step find_piece_step find_stmt_step (F.Call f [])

pub find_task : find_spawns (E.Spawn 0) ≡ find_step (F.Spawn 0)
find_task = ap find_spawns (sym (X.rolls-Spawn 0)) ∙ fold-roll-Expr Finds Walk Finds Walk find_step find_item_step find_piece_step find_stmt_step (F.Spawn 0)

walk_define : (n : ℕ) → walk_item (I.Define n) ≡ find_item_step (F.Define n)
walk_define n = ap walk_item (sym (ap roll-Item (sym (X.outs-Define n)) ∙ roll-out-Item (I.Define n))) ∙ fold-roll-Item Finds Walk Finds Walk find_step find_item_step find_piece_step find_stmt_step (F.Define n)

walk_bind : (x : ℕ) (e : Expr) → walk_item (I.Bind x e) ≡ find_item_step (F.Item::Bind x (find_spawns e))
walk_bind x e = ap walk_item (sym (ap roll-Item (sym (X.outs-Item::Bind x e)) ∙ roll-out-Item (I.Bind x e))) ∙ fold-roll-Item Finds Walk Finds Walk find_step find_item_step find_piece_step find_stmt_step (F.Item::Bind x e)

-- ---- what is visible

abbrev pub seen_from : List Site → List Item → List Expr → View
seen_from sites top spawns = view_among (with_inner (flat_map (λ site. find_spawns site.body (in_body site.sig).view) sites ++ find_in_turn (map walk_item top) nothing_seen) 0 spawns) 0

late_seen : seen_from (prelude_sites ++ late_sites) late_top (X.Call 13 [] ∷ []) ≡ nothing_seen
late_seen = rw (find_nothing, find_int (pos 1), find_int (pos 2), find_call 12, walk_define 14, walk_define 15, walk_bind 0 (E.Spawn 0), find_task) refl

-- a task of the first spawn place may start so where nothing is visible there
pub start_valid : (P : Program) → 0 < length P.spawns → view_at P 0 ≡ nothing_seen → IsValidStart P first_start
start_valid P there is = record {
  place = there;
  values = none;
  slots = ap (λ (v : View). v.slots) (sym is);
  statics = subst (λ (v : View). AreStatics (all_types P) v.statics []) (sym is) tt;
}

pub late_start : IsValidStart late first_start
late_start = start_valid late (omega arith) late_seen

pub deleted_start : IsValidStart deleted first_start
deleted_start = start_valid deleted (omega arith) late_seen
