-- A script whose constructor has no method, computed whole: `Point(1, true)` after `struct Point{T}; x::T; y::T end`.
use Rattle.std.proofs.Common.{◌≡◌, ◌∙◌, refl, sym, ap, zero, suc, pos, true, true≢false, codes, List, [], ◌∷◌, ◌++◌, None, inl}
use Rattle.jl_model.specs.declared.ty.Decl.{Decl}
use Rattle.jl_model.specs.declared.ty.DeclKind.TheVariants.{Struct}
use Rattle.jl_model.specs.declared.ty.Ty.TheVariants as W
use Rattle.jl_model.specs.declared.ty.Ty.TheViews as T
use Rattle.jl_model.specs.declared.ty.Ty.TheViews.{outs-Any, outs-Nominal}
use Rattle.jl_model.specs.Ancestors.{builtin_types, table_of, up_in}
use Rattle.jl_model.specs.Rows.{free}
use Rattle.jl_model.specs.Signature.{Applicable}
use Rattle.jl_model.specs.Subtype.{put_in}
use Rattle.jl_program.specs.declared.fault.Fault.TheVariants as Fa
use Rattle.jl_program.specs.declared.tree.Expr.{Expr}
use Rattle.jl_program.specs.declared.tree.Expr.TheOpen as F
use Rattle.jl_program.specs.declared.tree.Expr.TheVariants as E
use Rattle.jl_program.specs.declared.tree.Expr.TheViews as X
use Rattle.jl_program.specs.declared.tree.Item.TheVariants as I
use Rattle.jl_program.specs.declared.tree.Program.{Program}
use Rattle.jl_program.specs.declared.value.Value.TheVariants as V
use Rattle.jl_program.specs.Prelude.{int64, bool, prelude_functions, prelude_sites}
use Rattle.jl_program.proofs.OtherRows.{same, NoneAbove, same_applies_not, is_there}
use Rattle.jl_calculus.specs.declared.history.Event.{Event}
use Rattle.jl_calculus.specs.declared.history.Outcome.{Outcome}
use Rattle.jl_calculus.specs.declared.history.Outcome.TheVariants as O
use Rattle.jl_calculus.specs.declared.history.TraceItem.TheVariants.{Look}
use Rattle.jl_calculus.specs.Operations.{make_inferred}
use Rattle.jl_calculus.specs.Run.{Setting, setting_of, State, Then, IsEnd, Caller, Run, calls, runs, operation_runs, first_state, open_calls}
use Rattle.jl_calculus.proofs.Forms.{form_is, int_runs, do_runs}
use Rattle.jl_calculus.proofs.WorldScripts.{made, bare}

abbrev point : Decl
point = record { name = codes "Point"; kind = Struct; params = free ∷ []; parent = W.Any; fields = record { name = codes "x"; ty = W.Var 0 } ∷ record { name = codes "y"; ty = W.Var 0 } ∷ [] }

abbrev types : List Decl
types = builtin_types ++ point ∷ []

-- no struct type is above both an integer and a truth value
int_no_bool : up_in types 4 5 ≡ None
int_no_bool = rw (outs-Nominal 3 [], outs-Nominal 2 [], outs-Nominal 1 [], outs-Nominal 0 [], outs-Any) refl

int_no_nothing : up_in types 4 6 ≡ None
int_no_nothing = rw (outs-Nominal 3 [], outs-Nominal 2 [], outs-Nominal 1 [], outs-Nominal 0 [], outs-Any) refl

int_no_task : up_in types 4 7 ≡ None
int_no_task = rw (outs-Nominal 3 [], outs-Nominal 2 [], outs-Nominal 1 [], outs-Nominal 0 [], outs-Any) refl

int_no_point : up_in types 4 8 ≡ None
int_no_point = rw (outs-Nominal 3 [], outs-Nominal 2 [], outs-Nominal 1 [], outs-Nominal 0 [], outs-Any) refl

bool_no_int : up_in types 5 4 ≡ None
bool_no_int = rw (outs-Nominal 2 [], outs-Nominal 1 [], outs-Nominal 0 [], outs-Any) refl

none_above : NoneAbove (table_of types)
unfolding table_of
none_above zero zs ws s i j = absurd (true≢false (sym s))
none_above (suc zero) zs ws s i j = absurd (true≢false (sym s))
none_above (suc (suc zero)) zs ws s i j = absurd (true≢false (sym s))
none_above (suc (suc (suc zero))) zs ws s i j = absurd (true≢false (sym s))
none_above (suc (suc (suc (suc zero)))) zs ws s i j = absurd (true≢false (ap is_there (sym j ∙ ap (put_in []) bool_no_int)))
none_above (suc (suc (suc (suc (suc zero))))) zs ws s i j = absurd (true≢false (ap is_there (sym i ∙ ap (put_in []) int_no_bool)))
none_above (suc (suc (suc (suc (suc (suc zero)))))) zs ws s i j = absurd (true≢false (ap is_there (sym i ∙ ap (put_in []) int_no_nothing)))
none_above (suc (suc (suc (suc (suc (suc (suc zero))))))) zs ws s i j = absurd (true≢false (ap is_there (sym i ∙ ap (put_in []) int_no_task)))
none_above (suc (suc (suc (suc (suc (suc (suc (suc zero)))))))) zs ws s i j = absurd (true≢false (ap is_there (sym i ∙ ap (put_in []) int_no_point)))
none_above (suc (suc (suc (suc (suc (suc (suc (suc (suc m))))))))) zs ws s i j = absurd (true≢false (sym s))

admits_not : Applicable (table_of types) same (int64 ∷ bool ∷ []) → ⊥
admits_not = same_applies_not (table_of types) none_above

abbrev refused : Outcome
refused = O.Error (Fa.NoConstructor (T.Nominal 8 []) (int64 ∷ bool ∷ []))

point_refused : make_inferred types 8 (V.Int (pos 1) ∷ V.Bool true ∷ []) refused
point_refused = inl (Fa.NoConstructor (T.Nominal 8 []) (int64 ∷ bool ∷ []), (refl, inl admits_not), refl)

abbrev made_point : Expr
made_point = X.Infer 8 (E.Int (pos 1) ∷ E.Bool true ∷ [])

abbrev script : Program
script = record { decls = point ∷ []; functions = prelude_functions; sites = prelude_sites; spawns = []; deletes = []; top = I.Do made_point ∷ [] }

-- no call is counted
point_of_two_types : (es : List Event) → Run (setting_of script es None 10) None (Look 14 1 ∷ []) refused [] 0 []
point_of_two_types es =
    let Ends : Outcome → State → Type 0 = IsEnd refused [] 0 [] in
    let g : Setting = setting_of script es None 10 in
    let called : Caller = calls g Ends open_calls in
    let end : Then = λ v s. Ends (O.Value v) s in
    let stop : Ends refused (bare [] 0) = record { is = refl; whole = refl; printed = refl; counted_calls = refl; spawned_tasks = refl } in
    let operation : operation_runs g Ends (make_inferred types 8 (V.Int (pos 1) ∷ V.Bool true ∷ [])) (bare [] 0) end = (refused, point_refused, stop) in
    let second = made (form_is g Ends called (E.Bool true) (F.Bool true) (X.outs-Bool true) 14 (bare [] 0) end
    (λ v s. operation_runs g Ends (make_inferred types 8 (V.Int (pos 1) ∷ v ∷ [])) s end)) operation in
    let first = int_runs g Ends called (pos 1) 14 (bare [] 0) end
    (λ u s. runs g Ends called (E.Bool true) 14 s end (λ v s1. operation_runs g Ends (make_inferred types 8 (u ∷ v ∷ [])) s1 end)) second in
    let value = made (form_is g Ends called made_point (F.Infer 8 (E.Int (pos 1) ∷ E.Bool true ∷ [])) (X.outs-Infer 8 (E.Int (pos 1) ∷ E.Bool true ∷ [])) 14 (bare [] 0) end end) first in
    record { ran = do_runs g Ends called made_point (first_state (Look 14 1 ∷ [])) end end value }
