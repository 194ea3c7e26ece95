-- The places of variables in a signature that nothing refuses, from the tests.
use Rattle.std.proofs.Common.{◌≡◌, ◌∙◌, sym, ap, refl, ℕ, Bool, true, nat_eq, arith, List, [], ◌∷◌, length}
use Rattle.std.specs.List.{flat_map, list_all}
use Rattle.jl_model.specs.declared.ty.Ty.{Ty}
use Rattle.jl_model.specs.declared.ty.Ty.TheOpen.{Union, Tuple, Nominal}
use Rattle.jl_model.specs.declared.ty.Ty.TheViews.{outs-Any, outs-Union, outs-Tuple, outs-Nominal, outs-Var, rolls-Union, rolls-Tuple, rolls-Nominal}
use Rattle.jl_model.specs.declared.ty.Ty.TheViews as V
use Rattle.jl_model.specs.declared.ty.Ty.TheVariants as W
use Rattle.jl_model.specs.declared.ty.Ty.TheFolds.{para-roll-Ty}
use Rattle.jl_model.specs.Rows.{vars_in}
use Rattle.jl_model.specs.Valid.{is_closed}
use Rattle.jl_model.specs.SigRefusals.{is_argument, argument_step, is_component, component_step}
use Rattle.jl_model.proofs.TypeInduction.{Each, by_cases}
use Rattle.jl_model.proofs.FormLemmas.{all_firsts, all_seconds, vars-any, vars-union, vars-tuple}
use Rattle.jl_model.proofs.PutLemmas.{and_l, and_r}
use Rattle.jl_match.specs.KeptRow.{IsComponent, AreComponents, any, variable as alone, union, tuple, nominal, components_end, components_more}
use Rattle.jl_search.specs.Open.{IsOpen, AreOpen, closed, variable, applied, open_end, open_more}

argument-union : (ts : List Ty) → is_argument (V.Union ts) ≡ list_all is_closed ts
argument-union ts = ap is_argument (sym (rolls-Union ts)) ∙ para-roll-Ty Bool argument_step (Union ts) ∙ all_firsts is_argument is_closed ts

argument-tuple : (ts : List Ty) → is_argument (V.Tuple ts) ≡ list_all is_closed ts
argument-tuple ts = ap is_argument (sym (rolls-Tuple ts)) ∙ para-roll-Ty Bool argument_step (Tuple ts) ∙ all_firsts is_argument is_closed ts

argument-nominal : (k : ℕ) (ts : List Ty) → is_argument (V.Nominal k ts) ≡ list_all is_argument ts
argument-nominal k ts = ap is_argument (sym (rolls-Nominal k ts)) ∙ para-roll-Ty Bool argument_step (Nominal k ts) ∙ all_seconds is_argument ts

component-union : (ts : List Ty) → is_component (V.Union ts) ≡ list_all is_component ts
component-union ts = ap is_component (sym (rolls-Union ts)) ∙ para-roll-Ty Bool component_step (Union ts) ∙ all_seconds is_component ts

component-tuple : (ts : List Ty) → is_component (V.Tuple ts) ≡ list_all is_component ts
component-tuple ts = ap is_component (sym (rolls-Tuple ts)) ∙ para-roll-Ty Bool component_step (Tuple ts) ∙ all_seconds is_component ts

component-nominal : (k : ℕ) (ts : List Ty) → is_component (V.Nominal k ts) ≡ list_all is_argument ts
component-nominal k ts = ap is_component (sym (rolls-Nominal k ts)) ∙ para-roll-Ty Bool component_step (Nominal k ts) ∙ all_firsts is_component is_argument ts

pub none_of : (ns : List ℕ) → nat_eq (length ns) 0 ≡ true → ns ≡ []
none_of [] h = refl
none_of (k ∷ ks) h = let e : length (k ∷ ks) ≡ 0 = grind (arith, h) in absurd (omega arith)

all_closed : (ts : List Ty) → list_all is_closed ts ≡ true → flat_map vars_in ts ≡ []
all_closed [] h = refl
all_closed (t ∷ ts) h =
    let a : vars_in t ≡ [] = none_of (vars_in t) (and_l (is_closed t) (list_all is_closed ts) h) in
    let b = all_closed ts (and_r (is_closed t) (list_all is_closed ts) h) in
    rw (a, b) refl

opens : (ts : List Ty) → Each (λ t. is_argument t ≡ true → IsOpen t) ts → list_all is_argument ts ≡ true → AreOpen ts
opens [] e h = open_end
opens (t ∷ ts) e h = open_more t ts (e.0 (and_l (is_argument t) (list_all is_argument ts) h)) (opens ts e.1 (and_r (is_argument t) (list_all is_argument ts) h))

is_open : (t : Ty) → is_argument t ≡ true → IsOpen t
is_open = by_cases (λ t. is_argument t ≡ true → IsOpen t) (record {
  any = λ h. closed W.Any vars-any;
  union = λ ts e h. closed (V.Union ts) (vars-union ts ∙ all_closed ts (sym (argument-union ts) ∙ h));
  tuple = λ ts e h. closed (V.Tuple ts) (vars-tuple ts ∙ all_closed ts (sym (argument-tuple ts) ∙ h));
  nominal = λ k ts e h. applied (V.Nominal k ts) k ts (outs-Nominal k ts) (opens ts e (sym (argument-nominal k ts) ∙ h));
  var = λ v h. variable (W.Var v) v (outs-Var v);
})

each_open : (ts : List Ty) → Each (λ t. is_argument t ≡ true → IsOpen t) ts
each_open [] = tt
each_open (t ∷ ts) = (is_open t, each_open ts)

pub open_args : (ts : List Ty) → list_all is_argument ts ≡ true → AreOpen ts
open_args ts h = opens ts (each_open ts) h

all_components : (ts : List Ty) → Each (λ t. is_component t ≡ true → IsComponent t) ts → list_all is_component ts ≡ true → AreComponents ts
all_components [] e h = components_end
all_components (t ∷ ts) e h =
    components_more t ts (e.0 (and_l (is_component t) (list_all is_component ts) h)) (all_components ts e.1 (and_r (is_component t) (list_all is_component ts) h))

component_of : (t : Ty) → is_component t ≡ true → IsComponent t
component_of = by_cases (λ t. is_component t ≡ true → IsComponent t) (record {
  any = λ h. any W.Any outs-Any;
  union = λ ts e h. union (V.Union ts) ts (outs-Union ts) (all_components ts e (sym (component-union ts) ∙ h));
  tuple = λ ts e h. tuple (V.Tuple ts) ts (outs-Tuple ts) (all_components ts e (sym (component-tuple ts) ∙ h));
  nominal = λ k ts e h. nominal (V.Nominal k ts) k ts (outs-Nominal k ts) (open_args ts (sym (component-nominal k ts) ∙ h));
  var = λ v h. alone (W.Var v) v (outs-Var v);
})

each_component : (ts : List Ty) → Each (λ t. is_component t ≡ true → IsComponent t) ts
each_component [] = tt
each_component (t ∷ ts) = (component_of t, each_component ts)

pub components_of : (ts : List Ty) → list_all is_component ts ≡ true → AreComponents ts
components_of ts h = all_components ts (each_component ts) h
