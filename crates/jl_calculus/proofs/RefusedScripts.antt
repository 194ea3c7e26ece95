-- A script that ends with a refusal, computed whole: `true + 1`.
use Rattle.std.proofs.Common.{◌≡◌, refl, sym, subst, zero, suc, pos, true, List, [], ◌∷◌, None, arith}
use Rattle.std.specs.List.{Contains}
use Rattle.jl_model.specs.declared.ty.Ty.{Ty}
use Rattle.jl_model.specs.Ancestors.{table_of}
use Rattle.jl_model.specs.Choice.{Method}
use Rattle.jl_model.specs.Rows.{choices, components, root}
use Rattle.jl_model.specs.Signature.{Applicable, Both, both_more}
use Rattle.jl_model.specs.Subtype.{opaque, put, Below}
use Rattle.jl_program.specs.declared.choice.Choice.TheVariants as C
use Rattle.jl_program.specs.declared.fault.Fault.TheVariants as Fa
use Rattle.jl_program.specs.declared.tree.Expr.{Expr}
use Rattle.jl_program.specs.declared.tree.Expr.TheOpen as F
use Rattle.jl_program.specs.declared.tree.Expr.TheVariants as E
use Rattle.jl_program.specs.declared.tree.Expr.TheViews as X
use Rattle.jl_program.specs.declared.tree.Item.TheVariants as I
use Rattle.jl_program.specs.declared.tree.Program.{Program}
use Rattle.jl_program.specs.declared.value.Value.TheVariants as V
use Rattle.jl_program.specs.Prelude.{plain, int64, bool, two, prelude_functions, prelude_sites}
use Rattle.jl_program.proofs.FirstChoices.{int_put, int_forms, places_in}
use Rattle.jl_calculus.specs.declared.history.Event.{Event}
use Rattle.jl_calculus.specs.declared.history.Outcome.{Outcome}
use Rattle.jl_calculus.specs.declared.history.Outcome.TheVariants as O
use Rattle.jl_calculus.specs.declared.history.TraceItem.TheVariants.{Look}
use Rattle.jl_calculus.specs.Run.{Setting, setting_of, State, Then, IsEnd, Caller, Run, calls, runs, first_state, open_calls}
use Rattle.jl_calculus.specs.World.{Selects}
use Rattle.jl_calculus.proofs.Forms.{form_is, int_runs, do_runs}
use Rattle.jl_calculus.proofs.MakeExamples as Make
use Rattle.jl_calculus.proofs.WorldScripts.{made, bare}
use Rattle.jl_calculus.proofs.SelectLemmas.{selects_plain}

-- ---- no method of `+` applies to a truth value and an integer

abbrev script : Program
script = record { decls = Make.square ∷ Make.bounded ∷ []; functions = prelude_functions; sites = prelude_sites; spawns = []; deletes = []; top = I.Do (X.Call 0 (E.Bool true ∷ E.Int (pos 1) ∷ [])) ∷ [] }

abbrev mixed : List Ty
mixed = bool ∷ int64 ∷ []

one_row : (r : List Ty) → Contains (components (plain two)) r → two ≡ r
one_row r c = only (subst (λ (fs : List Ty). Contains (choices (fs ∷ fs ∷ [])) r) (int_forms (places_in two)) c)
  where
    only : Contains (two ∷ []) r → two ≡ r
    only (zero, l, e) = e
    only (suc k, l, e) = absurd (omega (arith, l))

first_of : (R : Ty → Ty → Type 0) (x y : Ty) (xs ys : List Ty) → Both R (x ∷ xs) (y ∷ ys) → R x y
first_of R x y xs ys (both_more a b as_ bs p q) = p

not_applicable : Applicable (table_of Make.types) (plain two) mixed → ⊥
not_applicable (r, f, is, serves, shut, parts) =
    let R : Ty → Ty → Type 0 = λ t u. Below (table_of Make.types) opaque t (put (λ v. f (root (plain two) v)) u) in
    let h : Both R mixed two = subst (Both R mixed) (sym (one_row r.parts is.parts)) parts in
    Make.not_below 5 4 Make.bool_no_int (subst (λ (u : Ty). Below (table_of Make.types) opaque bool u) (int_put (λ v. f (root (plain two) v))) (first_of R bool int64 (int64 ∷ []) (int64 ∷ []) h))

abbrev plus_method : Method
plus_method = record { number = 1; sig = plain two }

only_method : (m : Method) → Contains (plus_method ∷ []) m → plus_method ≡ m
only_method m (zero, l, e) = e
only_method m (suc k, l, e) = absurd (omega (arith, l))

none_selected : (es : List Event) → Selects script es 0 mixed 14 C.None
none_selected es = selects_plain script refl es 0 mixed 14 C.None (λ m h. not_applicable (subst (λ (x : Method). Applicable (table_of Make.types) x.sig mixed) (sym (only_method m h.applies.stands)) h.applies.below))

abbrev refused : Outcome
refused = O.Error (Fa.NoMethod 0 mixed 14)

true_plus_one : (es : List Event) → Run (setting_of script es None 10) None (Look 14 1 ∷ []) refused [] 1 []
true_plus_one es =
    let Ends : Outcome → State → Type 0 = IsEnd refused [] 1 [] in
    let g : Setting = setting_of script es None 10 in
    let called : Caller = calls g Ends open_calls in
    let end : Then = λ v s. Ends (O.Value v) s in
    let call : Expr = X.Call 0 (E.Bool true ∷ E.Int (pos 1) ∷ []) in
    let stop : Ends refused (bare [] 1) = record { is = refl; whole = refl; printed = refl; counted_calls = refl; spawned_tasks = refl } in
    let made_call : calls g Ends (suc 99999) 0 (V.Bool true ∷ V.Int (pos 1) ∷ []) 14 (bare [] 0) end = (C.None, none_selected es, tt, stop) in
    let second = int_runs g Ends called (pos 1) 14 (bare [] 0) end (λ v s. called 0 (V.Bool true ∷ v ∷ []) 14 s end) made_call in
    let first = made (form_is g Ends called (E.Bool true) (F.Bool true) (X.outs-Bool true) 14 (bare [] 0) end (λ v s. runs g Ends called (E.Int (pos 1)) 14 s end (λ u s1. called 0 (v ∷ u ∷ []) 14 s1 end))) second in
    let value = made (form_is g Ends called call (F.Call 0 (E.Bool true ∷ E.Int (pos 1) ∷ [])) (X.outs-Call 0 (E.Bool true ∷ E.Int (pos 1) ∷ [])) 14 (bare [] 0) end end) first in
    record { ran = do_runs g Ends called call (first_state (Look 14 1 ∷ [])) end end value }
