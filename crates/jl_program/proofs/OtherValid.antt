-- A program with blocks, branches, a spawn and an evaluated block is valid:
--
--     f(x) = begin; y = x; if true; z = 1; z else return fetch(Threads.@spawn y) end; y end
--     r = f(1)
--     @eval f(1)
--     println("r", r)
use Rattle.std.proofs.Common.{◌≡◌, refl, ap, ℕ, pos, zero, suc, ◌<◌, arith, true, IsTrue, codes, All, List, [], ◌∷◌, ◌++◌}
use Rattle.std.specs.List.{list_all}
use Rattle.jl_model.specs.declared.ty.Ty.TheVariants as T
use Rattle.jl_model.specs.Refusals.{builtin}
use Rattle.jl_program.specs.declared.tree.Expr.{Expr}
use Rattle.jl_program.specs.declared.tree.Piece.{Piece}
use Rattle.jl_program.specs.declared.tree.Stmt.{Stmt}
use Rattle.jl_program.specs.declared.tree.Site.{Site}
use Rattle.jl_program.specs.declared.tree.Program.{Program}
use Rattle.jl_program.specs.declared.tree.Expr.TheOpen as F
use Rattle.jl_program.specs.declared.tree.Expr.TheVariants as E
use Rattle.jl_program.specs.declared.tree.Expr.TheViews as X
use Rattle.jl_program.specs.declared.tree.Item.TheVariants as I
use Rattle.jl_program.specs.declared.tree.Piece.TheVariants as Pi
use Rattle.jl_program.specs.declared.tree.Stmt.TheVariants as S
use Rattle.jl_program.specs.BodyTypes.{IsAllowedType, IsSmallStruct}
use Rattle.jl_program.specs.Gathered.{own_place, own_types, own_struct, spawned_places, written_types, inferred_structs, times}
use Rattle.jl_program.specs.Names.{is_free_name}
use Rattle.jl_program.specs.Prelude.{prelude_functions, prelude_sites, plain}
use Rattle.jl_program.specs.Scope.{View, all_types, in_body, at_top, is_valid_expr, are_valid_items, are_valid_tasks}
use Rattle.jl_program.specs.Valid.{IsValidDelete, IsValid, IsValidSite}
use Rattle.jl_program.proofs.Computing.{names}
use Rattle.jl_program.proofs.PlainSigs.{any, plain_valid}
use Rattle.jl_program.proofs.ValidLayers.{valid-truth, valid-int, valid-local, valid-call, valid-if, valid-block, valid-eval, valid-spawn, valid-fetch, valid-print, valid-show, valid-text, valid-define, valid-top-bind, valid-top-do, valid-bind, valid-do, valid-return, in-layer, in-nothing, in-int, in-local, in-call, in-print, in-spawn, in-show, in-text, in-define, in-top-bind, in-top-do, in-bind, in-do, in-return}

abbrev one : List Expr
one = E.Int (pos 1) ∷ []

abbrev call : Expr
call = X.Call 12 one

abbrev then_ : List Stmt
then_ = S.Bind 2 (E.Int (pos 1)) ∷ S.Do (E.Local 2) ∷ []

abbrev else_ : List Stmt
else_ = S.Return (X.Fetch (E.Spawn 0)) ∷ []

abbrev branch : Expr
branch = X.If (E.Bool true) (X.Block then_) (X.Block else_)

abbrev body : List Stmt
body = S.Bind 1 (E.Local 0) ∷ S.Do branch ∷ S.Do (E.Local 1) ∷ []

abbrev site : Site
site = record { function = 12; sig = plain (T.Any ∷ []); body = X.Block body }

abbrev pieces : List Piece
pieces = Pi.Text (codes "r") ∷ Pi.Show (E.Local 0) ∷ []

abbrev P : Program
P = record {
  decls = [];
  functions = prelude_functions ++ codes "f" ∷ [];
  sites = prelude_sites ++ site ∷ [];
  spawns = E.Local 1 ∷ [];
  deletes = [];
  top = I.Define 14 ∷ I.Bind 0 call ∷ I.Do (X.Eval (I.Do call ∷ [])) ∷ I.Do (X.Print pieces true) ∷ [];
}

-- the spawn sees x and y
abbrev vs : List View
vs = record { slots = 2; statics = [] } ∷ []

body_valid : IsTrue (is_valid_expr P vs site.body (in_body site.sig))
body_valid =
    rw (
      valid-block P vs body,
      valid-bind P vs 1 (E.Local 0),
      valid-local P vs 0,
      valid-do P vs branch,
      valid-if P vs (E.Bool true) (X.Block then_) (X.Block else_),
      valid-truth P vs true,
      valid-block P vs then_,
      valid-bind P vs 2 (E.Int (pos 1)),
      valid-int P vs (pos 1),
      valid-do P vs (E.Local 2),
      valid-local P vs 2,
      valid-block P vs else_,
      valid-return P vs (X.Fetch (E.Spawn 0)),
      valid-fetch P vs (E.Spawn 0),
      valid-spawn P vs 0,
      valid-do P vs (E.Local 1),
      valid-local P vs 1,
    ) refl

tasks_valid : IsTrue (are_valid_tasks P vs 0 vs P.spawns)
tasks_valid = rw (valid-local P vs 1) refl

top_valid : IsTrue (are_valid_items P vs P.top at_top)
unfolding names
top_valid =
    rw (
      valid-define P vs 14,
      valid-top-bind P vs 0 call,
      valid-call P vs 12 one,
      valid-int P vs (pos 1),
      valid-top-do P vs (X.Eval (I.Do call ∷ [])),
      valid-eval P vs (I.Do call ∷ []),
      valid-top-do P vs call,
      valid-call P vs 12 one,
      valid-int P vs (pos 1),
      valid-top-do P vs (X.Print pieces true),
      valid-print P vs pieces true,
      valid-text P vs (codes "r"),
      valid-show P vs (E.Local 0),
      valid-local P vs 0,
    ) refl

one_place : spawned_places P ≡ 0 ∷ []
one_place =
    rw (
      in-nothing own_place,
      in-layer own_place (F.Block body) (X.Block body) (X.rolls-Block body),
      in-bind own_place 1 (E.Local 0),
      in-local own_place 0,
      in-do own_place branch,
      in-layer own_place (F.If (E.Bool true) (X.Block then_) (X.Block else_)) branch (X.rolls-If (E.Bool true) (X.Block then_) (X.Block else_)),
      in-layer own_place (F.Bool true) (E.Bool true) (X.rolls-Bool true),
      in-layer own_place (F.Block then_) (X.Block then_) (X.rolls-Block then_),
      in-bind own_place 2 (E.Int (pos 1)),
      in-int own_place (pos 1),
      in-do own_place (E.Local 2),
      in-local own_place 2,
      in-layer own_place (F.Block else_) (X.Block else_) (X.rolls-Block else_),
      in-return own_place (X.Fetch (E.Spawn 0)),
      in-layer own_place (F.Fetch (E.Spawn 0)) (X.Fetch (E.Spawn 0)) (X.rolls-Fetch (E.Spawn 0)),
      in-spawn own_place 0,
      in-do own_place (E.Local 1),
      in-local own_place 1,
      in-define own_place 14,
      in-top-bind own_place 0 call,
      in-call own_place 12 one,
      in-int own_place (pos 1),
      in-top-do own_place (X.Eval (I.Do call ∷ [])),
      in-layer own_place (F.Eval (I.Do call ∷ [])) (X.Eval (I.Do call ∷ [])) (X.rolls-Eval (I.Do call ∷ [])),
      in-top-do own_place call,
      in-call own_place 12 one,
      in-int own_place (pos 1),
      in-top-do own_place (X.Print pieces true),
      in-print own_place pieces true,
      in-text own_place (codes "r"),
      in-show own_place (E.Local 0),
      in-local own_place 0,
    ) refl

no_types : written_types P ≡ []
no_types =
    rw (
      in-nothing own_types,
      in-layer own_types (F.Block body) (X.Block body) (X.rolls-Block body),
      in-bind own_types 1 (E.Local 0),
      in-local own_types 0,
      in-do own_types branch,
      in-layer own_types (F.If (E.Bool true) (X.Block then_) (X.Block else_)) branch (X.rolls-If (E.Bool true) (X.Block then_) (X.Block else_)),
      in-layer own_types (F.Bool true) (E.Bool true) (X.rolls-Bool true),
      in-layer own_types (F.Block then_) (X.Block then_) (X.rolls-Block then_),
      in-bind own_types 2 (E.Int (pos 1)),
      in-int own_types (pos 1),
      in-do own_types (E.Local 2),
      in-local own_types 2,
      in-layer own_types (F.Block else_) (X.Block else_) (X.rolls-Block else_),
      in-return own_types (X.Fetch (E.Spawn 0)),
      in-layer own_types (F.Fetch (E.Spawn 0)) (X.Fetch (E.Spawn 0)) (X.rolls-Fetch (E.Spawn 0)),
      in-spawn own_types 0,
      in-do own_types (E.Local 1),
      in-local own_types 1,
      in-define own_types 14,
      in-top-bind own_types 0 call,
      in-call own_types 12 one,
      in-int own_types (pos 1),
      in-top-do own_types (X.Eval (I.Do call ∷ [])),
      in-layer own_types (F.Eval (I.Do call ∷ [])) (X.Eval (I.Do call ∷ [])) (X.rolls-Eval (I.Do call ∷ [])),
      in-top-do own_types call,
      in-call own_types 12 one,
      in-int own_types (pos 1),
      in-top-do own_types (X.Print pieces true),
      in-print own_types pieces true,
      in-text own_types (codes "r"),
      in-show own_types (E.Local 0),
      in-local own_types 0,
    ) refl

no_structs : inferred_structs P ≡ []
no_structs =
    rw (
      in-nothing own_struct,
      in-layer own_struct (F.Block body) (X.Block body) (X.rolls-Block body),
      in-bind own_struct 1 (E.Local 0),
      in-local own_struct 0,
      in-do own_struct branch,
      in-layer own_struct (F.If (E.Bool true) (X.Block then_) (X.Block else_)) branch (X.rolls-If (E.Bool true) (X.Block then_) (X.Block else_)),
      in-layer own_struct (F.Bool true) (E.Bool true) (X.rolls-Bool true),
      in-layer own_struct (F.Block then_) (X.Block then_) (X.rolls-Block then_),
      in-bind own_struct 2 (E.Int (pos 1)),
      in-int own_struct (pos 1),
      in-do own_struct (E.Local 2),
      in-local own_struct 2,
      in-layer own_struct (F.Block else_) (X.Block else_) (X.rolls-Block else_),
      in-return own_struct (X.Fetch (E.Spawn 0)),
      in-layer own_struct (F.Fetch (E.Spawn 0)) (X.Fetch (E.Spawn 0)) (X.rolls-Fetch (E.Spawn 0)),
      in-spawn own_struct 0,
      in-do own_struct (E.Local 1),
      in-local own_struct 1,
      in-define own_struct 14,
      in-top-bind own_struct 0 call,
      in-call own_struct 12 one,
      in-int own_struct (pos 1),
      in-top-do own_struct (X.Eval (I.Do call ∷ [])),
      in-layer own_struct (F.Eval (I.Do call ∷ [])) (X.Eval (I.Do call ∷ [])) (X.rolls-Eval (I.Do call ∷ [])),
      in-top-do own_struct call,
      in-call own_struct 12 one,
      in-int own_struct (pos 1),
      in-top-do own_struct (X.Print pieces true),
      in-print own_struct pieces true,
      in-text own_struct (codes "r"),
      in-show own_struct (E.Local 0),
      in-local own_struct 0,
    ) refl

all_one : (s : Site) → IsValidSite P vs s → All (IsValidSite P vs) (s ∷ [])
all_one s h zero d p = h
all_one s h (suc k) d p = absurd (omega (arith, p))

none : {X : Type 0} (Is : X → Type 0) (xs : List X) → xs ≡ [] → All Is xs
none Is [] e k d l = absurd (omega (arith, l))
none Is (x ∷ xs) e k d l = cc

once : (place : ℕ) → place < 1 → times place (spawned_places P) ≡ 1
once zero l = ap (times 0) one_place
once (suc place) l = absurd (omega (arith, l))

new_name_free : IsTrue (list_all is_free_name (codes "f" ∷ []))
unfolding names
new_name_free = refl

program_valid : IsValid P
program_valid = record {
  decls = builtin;
  named = refl;
  prelude_names = refl;
  names = new_name_free;
  distinct = refl;
  views = vs;
  tasks = tasks_valid;
  once = once;
  prelude = refl;
  sites = all_one site (record { function = omega arith; signature = plain_valid [] (T.Any ∷ []) (any, tt) (omega arith); body = body_valid });
  deletes = none (IsValidDelete P) [] refl;
  top = top_valid;
  written = none (IsAllowedType (all_types P)) (written_types P) no_types;
  inferred = none (IsSmallStruct (all_types P)) (inferred_structs P) no_structs;
}
