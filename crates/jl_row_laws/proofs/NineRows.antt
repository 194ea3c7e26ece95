-- Right tests answer TooManyParameters of a signature with nine parameters without types.
use Rattle.std.proofs.Common.{◌≡◌, ◌∙◌, refl, sym, ap, ℕ, ◌<◌, arith, Bool, true, true≢false, ◌&&◌, nat_lt, IsTrue, List, [], ◌∷◌, ◌++◌, length, Option, Some, None}
use Rattle.std.specs.List.{flat_map, list_all}
use Rattle.jl_model.specs.declared.ty.Ty.TheOpen.{Any}
use Rattle.jl_model.specs.declared.ty.Ty.TheVariants as W
use Rattle.jl_model.specs.declared.ty.Ty.TheViews.{rolls-Any}
use Rattle.jl_model.specs.declared.ty.Ty.TheFolds.{fold-roll-Ty, para-roll-Ty}
use Rattle.jl_model.specs.declared.ty.Decl.{Decl}
use Rattle.jl_model.specs.declared.ty.Written.{Written}
use Rattle.jl_model.specs.Rows.{vars_in, vars_step}
use Rattle.jl_model.specs.Valid.{names_in, names_step, is_known}
use Rattle.jl_model.specs.SigRefusals.{is_component, component_step, are_placed, VariablePlace, UnusedVariable, TooManyParameters}
use Rattle.jl_written.specs.declared.fault.StaticKind.{StaticKind}
use Rattle.jl_written.specs.declared.fault.StaticKind.TheVariants as kind
use Rattle.jl_resolve_forms.specs.TypesIn.{Tests}
use Rattle.jl_judge.specs.Answers.{SigAnswer}
use Rattle.jl_judge.specs.Right.{IsRight}

abbrev pub nine : Written
nine = record { vars = []; parts = W.Any ∷ W.Any ∷ W.Any ∷ W.Any ∷ W.Any ∷ W.Any ∷ W.Any ∷ W.Any ∷ W.Any ∷ [] }

any_component : is_component W.Any ≡ true
any_component = ap is_component (sym rolls-Any) ∙ para-roll-Ty Bool component_step Any

any_known : (n : ℕ) → is_known n W.Any ≡ true
any_known n = ap (list_all (λ k. nat_lt k n)) (ap names_in (sym rolls-Any) ∙ fold-roll-Ty (List ℕ) names_step Any)

any_vars : vars_in W.Any ≡ []
any_vars = ap vars_in (sym rolls-Any) ∙ fold-roll-Ty (List ℕ) vars_step Any

placed : are_placed nine ≡ true
placed = let c = any_component in λ i. c i && (c i && (c i && (c i && (c i && (c i && (c i && (c i && (c i && true))))))))

known : (ds : List Decl) → list_all (is_known (length ds)) nine.parts ≡ true
known ds = let c = any_known (length ds) in λ i. c i && (c i && (c i && (c i && (c i && (c i && (c i && (c i && (c i && true))))))))

own : list_all (λ v. nat_lt v 0) (flat_map vars_in nine.parts) ≡ true
own = let c = any_vars in λ i. list_all (λ v. nat_lt v 0) (c i ++ (c i ++ (c i ++ (c i ++ (c i ++ (c i ++ (c i ++ (c i ++ (c i ++ [])))))))))

not_placed : VariablePlace nine → ⊥
not_placed e = true≢false (sym placed ∙ e)

many : TooManyParameters nine
many = omega arith

none_unused : UnusedVariable nine → ⊥
none_unused u = let l : u.0 < 0 = u.1 in absurd (omega (arith, l))

answer : (ds : List Decl) (o : Option StaticKind) → SigAnswer o ds nine → o ≡ Some kind.TooManyParameters
answer ds None a = absurd (a.few many)
answer ds (Some kind.VariablePlace) a = absurd (not_placed a)
answer ds (Some kind.UnusedVariable) a = absurd (none_unused a.1)
answer ds (Some kind.TooManyParameters) a = refl
answer ds (Some kind.WrongParameterCount) a = absurd (a.2 many)
answer ds (Some kind.TypeLimit) a = absurd (a.0.few many)
answer ds (Some kind.BoundsCrossed) a = absurd (a.0.few many)
answer ds (Some kind.BoundBroken) a = absurd (a.0.few many)
answer ds (Some _) a = absurd a

pub nine_refused : (ds : List Decl) (t : Tests) → IsRight ds t → t.signature nine ≡ Some kind.TooManyParameters
nine_refused ds t right =
    let o : IsTrue (list_all (λ v. nat_lt v 0) (flat_map vars_in nine.parts)) = own in
    let n : IsTrue (list_all (is_known (length ds)) nine.parts) = known ds in
    answer ds (t.signature nine) (right.signature nine o n)
