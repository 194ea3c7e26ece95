-- Programs that each break one rule of validity.
use Rattle.std.proofs.Common.{◌≡◌, ◌∙◌, refl, sym, ap, ℕ, pos, arith, Bool, true, false, true≢false, ◌&&◌, not, nat_eq, nat_lt, codes, List, [], ◌∷◌, ◌++◌, length}
use Rattle.jl_model.specs.declared.ty.Ty.{Ty}
use Rattle.jl_model.specs.declared.ty.Ty.TheVariants as T
use Rattle.jl_model.specs.declared.ty.Ty.TheOpen as L
use Rattle.jl_model.specs.declared.ty.Ty.TheViews as W
use Rattle.jl_model.specs.declared.ty.Ty.TheViews.{rolls-Any, rolls-Union, rolls-Nominal, rolls-Var, outs-Nominal, outs-Var}
use Rattle.jl_model.specs.declared.ty.Ty.TheFolds.{fold-roll-Ty, para-roll-Ty}
use Rattle.jl_model.specs.declared.ty.Written.{Written}
use Rattle.jl_model.specs.Ancestors.{named}
use Rattle.jl_model.specs.declared.ty.Decl.{Decl}
use Rattle.jl_model.specs.Rows.{free, kind, part_places, vars_in, vars_step}
use Rattle.jl_model.specs.SigRefusals.{is_bottom}
use Rattle.jl_model.specs.Usable.{stands_in, is_outside_unions, outside_step, is_met, is_usable}
use Rattle.jl_model.specs.Valid.{is_known}
use Rattle.std.specs.List.{list_all, list_any}
use Rattle.jl_program.specs.declared.tree.Expr.{Expr}
use Rattle.jl_program.specs.declared.tree.Item.{Item}
use Rattle.jl_program.specs.declared.tree.Site.{Site}
use Rattle.jl_program.specs.declared.tree.Program.{Program}
use Rattle.jl_program.specs.declared.tree.Expr.TheVariants as E
use Rattle.jl_program.specs.declared.tree.Expr.TheViews as X
use Rattle.jl_program.specs.declared.tree.Item.TheVariants as I
use Rattle.jl_program.specs.declared.tree.Piece.TheVariants as Pi
use Rattle.jl_program.specs.declared.tree.Stmt.TheVariants as S
use Rattle.jl_program.specs.Gathered.{own_place, spawned_places, times}
use Rattle.jl_program.specs.Prelude.{prelude_functions, prelude_sites, plain}
use Rattle.jl_program.specs.BodyTypes.{is_seen, IsAllowedType}
use Rattle.jl_program.specs.Scope.{View, all_types, in_body, in_task, at_top, is_valid_expr, are_valid_items, are_valid_tasks}
use Rattle.jl_program.specs.Valid.{IsValid}
use Rattle.jl_program.proofs.Computing.{names}
use Rattle.jl_program.proofs.ValidLayers.{valid-int, valid-local, valid-call, valid-make, valid-infer, valid-field, valid-part, valid-isa, valid-block, valid-eval, valid-spawn, valid-delete, valid-print, valid-text, valid-define, valid-top-bind, valid-top-do, valid-bind, valid-return, in-nothing, in-int, in-spawn, in-top-do}

-- the function f, these sites, expressions of spawn places and statements
abbrev program : List Site → List Expr → List Item → Program
program sites spawns top = record { decls = []; functions = prelude_functions ++ codes "f" ∷ []; sites = prelude_sites ++ sites; spawns = spawns; deletes = []; top = top }

abbrev one : Expr
one = E.Int (pos 1)

-- a program whose statements at the top are not valid
bad_top : (sites : List Site) (spawns : List Expr) (top : List Item) → ((P : Program) (vs : List View) → are_valid_items P vs top at_top ≡ false) → IsValid (program sites spawns top) → ⊥
bad_top sites spawns top h v = true≢false (sym v.top ∙ h (program sites spawns top) v.views)

-- a program whose first own site has a body that is not valid
bad_body : (sig : Written) (e : Expr) → ((P : Program) (vs : List View) → is_valid_expr P vs e (in_body sig) ≡ false) → IsValid (program (record { function = 12; sig = sig; body = e } ∷ []) [] []) → ⊥
bad_body sig e h v =
    let site : Site = record { function = 12; sig = sig; body = e } in
    true≢false (sym (v.sites 0 site (omega arith)).body ∙ h (program (site ∷ []) [] []) v.views)

-- a program whose first spawn place has an expression that is not valid
bad_task : (e : Expr) (es : List Expr) (top : List Item) → ((P : Program) (vs : List View) (seen : View) → is_valid_expr P vs e (in_task 0 seen) ≡ false) → IsValid (program [] (e ∷ es) top) → ⊥
bad_task e es top h v = by v.views v.tasks
  where
    by : (vs : List View) → are_valid_tasks (program [] (e ∷ es) top) v.views 0 vs (e ∷ es) ≡ true → ⊥
    by [] k = true≢false (sym k)
    by (seen ∷ vs) k = true≢false (sym k ∙ ap (λ b. b && are_valid_tasks (program [] (e ∷ es) top) v.views 1 vs es) (h (program [] (e ∷ es) top) v.views seen))

and_false : (b : Bool) → (b && false) ≡ false
and_false true = refl
and_false false = refl

-- a slot is used after its block
slot_after_block : IsValid (program [] [] (I.Do (X.Block (S.Bind 0 one ∷ [])) ∷ I.Do (E.Local 0) ∷ [])) → ⊥
slot_after_block =
    bad_top [] [] (I.Do (X.Block (S.Bind 0 one ∷ [])) ∷ I.Do (E.Local 0) ∷ [])
    (λ P vs. rw (valid-top-do P vs (X.Block (S.Bind 0 one ∷ [])), valid-block P vs (S.Bind 0 one ∷ []), valid-bind P vs 0 one, valid-int P vs (pos 1), valid-top-do P vs (E.Local 0), valid-local P vs 0) refl)

-- a binding with another slot than the next
wrong_slot : IsValid (program [] [] (I.Bind 1 one ∷ [])) → ⊥
wrong_slot = bad_top [] [] (I.Bind 1 one ∷ []) (λ P vs. rw (valid-top-bind P vs 1 one) refl)

-- an evaluated statement sees no names
evaluated_local : IsValid (program [] [] (I.Bind 0 one ∷ I.Do (X.Eval (I.Do (E.Local 0) ∷ [])) ∷ [])) → ⊥
evaluated_local =
    bad_top [] [] (I.Bind 0 one ∷ I.Do (X.Eval (I.Do (E.Local 0) ∷ [])) ∷ [])
    (λ P vs. rw (valid-top-bind P vs 0 one, valid-int P vs (pos 1), valid-top-do P vs (X.Eval (I.Do (E.Local 0) ∷ [])), valid-eval P vs (I.Do (E.Local 0) ∷ []), valid-top-do P vs (E.Local 0), valid-local P vs 0) refl)

-- a `return` at the top
return_at_top : IsValid (program [] [] (I.Do (X.Block (S.Return one ∷ [])) ∷ [])) → ⊥
return_at_top =
    bad_top [] [] (I.Do (X.Block (S.Return one ∷ [])) ∷ [])
    (λ P vs. rw (valid-top-do P vs (X.Block (S.Return one ∷ [])), valid-block P vs (S.Return one ∷ []), valid-return P vs one) refl)

-- a `return` in a spawn
return_in_spawn : IsValid (program [] (X.Block (S.Return one ∷ []) ∷ []) (I.Do (E.Spawn 0) ∷ [])) → ⊥
return_in_spawn =
    bad_task (X.Block (S.Return one ∷ [])) [] (I.Do (E.Spawn 0) ∷ []) (λ P vs seen. rw (valid-block P vs (S.Return one ∷ []), valid-return P vs one) refl)

-- a `return` in an evaluated block of a body
return_in_eval : IsValid (program (record { function = 12; sig = plain []; body = X.Eval (I.Do (X.Block (S.Return one ∷ [])) ∷ []) } ∷ []) [] []) → ⊥
return_in_eval =
    bad_body (plain []) (X.Eval (I.Do (X.Block (S.Return one ∷ [])) ∷ []))
    (λ P vs. rw (valid-eval P vs (I.Do (X.Block (S.Return one ∷ [])) ∷ []), valid-top-do P vs (X.Block (S.Return one ∷ [])), valid-block P vs (S.Return one ∷ []), valid-return P vs one) refl)

-- a spawn place in its own expression
own_spawn : IsValid (program [] (E.Spawn 0 ∷ []) (I.Do (E.Spawn 0) ∷ [])) → ⊥
own_spawn = bad_task (E.Spawn 0) [] (I.Do (E.Spawn 0) ∷ []) (λ P vs seen. rw (valid-spawn P vs 0) (and_false (nat_lt 0 (length vs))))

-- a deletion place that is not there
no_deletion_place : IsValid (program [] [] (I.Do (E.Delete 0) ∷ [])) → ⊥
no_deletion_place v = true≢false (sym v.top ∙ not_there)
  where
    not_there : are_valid_items (program [] [] (I.Do (E.Delete 0) ∷ [])) v.views (I.Do (E.Delete 0) ∷ []) at_top ≡ false
    not_there = rw (valid-top-do (program [] [] (I.Do (E.Delete 0) ∷ [])) v.views (E.Delete 0), valid-delete (program [] [] (I.Do (E.Delete 0) ∷ [])) v.views 0) refl

-- nine arguments
abbrev nine : List Expr
nine = one ∷ one ∷ one ∷ one ∷ one ∷ one ∷ one ∷ one ∷ one ∷ []

nine_arguments : IsValid (program [] [] (I.Do (X.Call 0 nine) ∷ [])) → ⊥
nine_arguments = bad_top [] [] (I.Do (X.Call 0 nine) ∷ []) (λ P vs. rw (valid-top-do P vs (X.Call 0 nine), valid-call P vs 0 nine, and_false (nat_lt 0 (length P.functions))) refl)

-- a definition of a site of the prelude
prelude_defined : IsValid (program [] [] (I.Define 3 ∷ [])) → ⊥
prelude_defined = bad_top [] [] (I.Define 3 ∷ []) (λ P vs. rw (valid-define P vs 3) refl)

-- part 0
part_zero : IsValid (program [] [] (I.Do (X.Part one 0) ∷ [])) → ⊥
part_zero = bad_top [] [] (I.Do (X.Part one 0) ∷ []) (λ P vs. rw (valid-top-do P vs (X.Part one 0), valid-part P vs one 0, valid-int P vs (pos 1)) refl)

-- a field whose name is none
field_name : IsValid (program [] [] (I.Do (X.Field one (codes "1x")) ∷ [])) → ⊥
unfolding names
field_name = bad_top [] [] (I.Do (X.Field one (codes "1x")) ∷ []) (λ P vs. rw (valid-top-do P vs (X.Field one (codes "1x")), valid-field P vs one (codes "1x"), valid-int P vs (pos 1)) refl)

-- a text that is no UTF-8
no_text : IsValid (program [] [] (I.Do (X.Print (Pi.Text (255 ∷ []) ∷ []) true) ∷ [])) → ⊥
unfolding names
no_text = bad_top [] [] (I.Do (X.Print (Pi.Text (255 ∷ []) ∷ []) true) ∷ []) (λ P vs. rw (valid-top-do P vs (X.Print (Pi.Text (255 ∷ []) ∷ []) true), valid-print P vs (Pi.Text (255 ∷ []) ∷ []) true, valid-text P vs (255 ∷ [])) refl)

-- a spawn place in two `Spawn`s, and one in none
spawned_twice : IsValid (program [] (one ∷ []) (I.Do (E.Spawn 0) ∷ I.Do (E.Spawn 0) ∷ [])) → ⊥
spawned_twice v = absurd (omega (arith, v.once 0 (omega arith), two))
  where
    two : times 0 (spawned_places (program [] (one ∷ []) (I.Do (E.Spawn 0) ∷ I.Do (E.Spawn 0) ∷ []))) ≡ 2
    two = rw (in-nothing own_place, in-int own_place (pos 1), in-top-do own_place (E.Spawn 0), in-spawn own_place 0) refl

never_spawned : IsValid (program [] (one ∷ []) []) → ⊥
never_spawned v = absurd (omega (arith, v.once 0 (omega arith), no_place))
  where
    no_place : times 0 (spawned_places (program [] (one ∷ []) [])) ≡ 0
    no_place = rw (in-nothing own_place, in-int own_place (pos 1)) refl

-- ---- types written in bodies

-- a type without variables of its own
abbrev type : Ty → Written
type t = record { vars = []; parts = t ∷ [] }

var_vars : (v : ℕ) → vars_in (T.Var v) ≡ v ∷ []
var_vars v = ap vars_in (sym (rolls-Var v)) ∙ fold-roll-Ty (List ℕ) vars_step (L.Var v)

-- a static parameter where there is none
no_static : IsValid (program [] [] (I.Do (X.Isa one (type (T.Var 0))) ∷ [])) → ⊥
no_static =
    bad_top [] [] (I.Do (X.Isa one (type (T.Var 0))) ∷ [])
    (λ P vs. rw (valid-top-do P vs (X.Isa one (type (T.Var 0))), valid-isa P vs one (type (T.Var 0)), valid-int P vs (pos 1), var_vars 0, and_false (list_all (is_known (length (all_types P))) (T.Var 0 ∷ []))) refl)

-- `f(x::Union{T, Nothing}) where T`, whose variable is not usable
abbrev in_union : Written
in_union = record { vars = free ∷ []; parts = W.Union (T.Var 0 ∷ named 6 ∷ []) ∷ [] }

union_inside : is_outside_unions 0 (W.Union (T.Var 0 ∷ named 6 ∷ [])) ≡ false
union_inside =
    ap (is_outside_unions 0) (sym (rolls-Union (T.Var 0 ∷ named 6 ∷ []))) ∙ para-roll-Ty Bool (outside_step 0) (L.Union (T.Var 0 ∷ named 6 ∷ []))
    ∙ ap (λ vs. not (list_any (nat_eq 0) vs) && (not (stands_in 0 (named 6)) && true)) (var_vars 0)

not_usable : is_usable in_union 0 ≡ false
not_usable =
    let met = is_met (kind in_union 0) (part_places in_union 0) in
    ap (λ b. met && (b && true)) union_inside ∙ and_false met

unusable_static : IsValid (program (record { function = 12; sig = in_union; body = X.Isa (E.Local 0) (type (T.Var 0)) } ∷ []) [] []) → ⊥
unusable_static =
    bad_body in_union (X.Isa (E.Local 0) (type (T.Var 0)))
    (λ P vs. rw (valid-isa P vs (E.Local 0) (type (T.Var 0)), valid-local P vs 0, var_vars 0, not_usable, and_false (list_all (is_known (length (all_types P))) (T.Var 0 ∷ []))) refl)

-- a constructor whose type has a variable of its own
abbrev own_variable : Written
own_variable = record { vars = free ∷ []; parts = W.Nominal 8 (T.Var 0 ∷ []) ∷ [] }

made_with_variable : IsValid (program [] [] (I.Do (X.Make own_variable (one ∷ [])) ∷ [])) → ⊥
made_with_variable =
    bad_top [] [] (I.Do (X.Make own_variable (one ∷ [])) ∷ [])
    (λ P vs. rw (valid-top-do P vs (X.Make own_variable (one ∷ [])), valid-make P vs own_variable (one ∷ []), and_false (is_seen (all_types P) [] own_variable)) refl)

-- a constructor of a built-in type
made_builtin : IsValid (program [] [] (I.Do (X.Make (type (named 4)) (one ∷ [])) ∷ [])) → ⊥
made_builtin =
    bad_top [] [] (I.Do (X.Make (type (named 4)) (one ∷ [])) ∷ [])
    (λ P vs. rw (valid-top-do P vs (X.Make (type (named 4)) (one ∷ [])), valid-make P vs (type (named 4)) (one ∷ []), outs-Nominal 4 [], and_false (is_seen (all_types P) [] (type (named 4)))) refl)

-- an inferred constructor of a built-in type
inferred_builtin : IsValid (program [] [] (I.Do (X.Infer 4 (one ∷ [])) ∷ [])) → ⊥
inferred_builtin = bad_top [] [] (I.Do (X.Infer 4 (one ∷ [])) ∷ []) (λ P vs. rw (valid-top-do P vs (X.Infer 4 (one ∷ [])), valid-infer P vs 4 (one ∷ [])) refl)

-- a static parameter in a bound, as in `S where S<:T`
abbrev static_bound : Written
static_bound = record { vars = record { low = W.Union []; high = T.Var 1 } ∷ []; parts = T.Var 0 ∷ [] }

bound_by_static : (ds : List Decl) → IsAllowedType ds static_bound → ⊥
bound_by_static ds a = a.placed (rw (var_vars 1, outs-Var 1, and_false (is_bottom (W.Union [])), and_false (nat_eq (length (vars_in (W.Union []))) 0)) refl)
