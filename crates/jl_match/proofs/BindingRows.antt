-- What a method's body gets, at a few signatures.
use Rattle.std.proofs.Common.{◌≡◌, ◌∙◌, ap, refl, ℕ, arith, Bool, true, false, ◌&&◌, cond, nat_eq, List, [], ◌∷◌, map}
use Rattle.std.specs.List.{list_all}
use Rattle.jl_model.specs.declared.ty.Ty.{Ty}
use Rattle.jl_model.specs.declared.ty.Ty.TheViews.{out-Ty, outs-Any, outs-Union, outs-Tuple, outs-Nominal, outs-Var}
use Rattle.jl_model.specs.declared.ty.Ty.TheViews as V
use Rattle.jl_model.specs.declared.ty.Ty.TheVariants as W
use Rattle.jl_model.specs.declared.ty.Written.{Written}
use Rattle.jl_model.specs.Kinds.{Places, nowhere, places, plus, plus_all, below_nominal, kind_of}
use Rattle.jl_model.specs.Rows.{free, bound_places}
use Rattle.jl_model.specs.Ancestors.{named}
use Rattle.jl_model.specs.Subtype.{Table, opaque}
use Rattle.jl_model.specs.Usable.{is_met, is_outside_unions, is_usable}
use Rattle.jl_model.specs.Found.{or_else, or_type}
use Rattle.jl_model.specs.Bindings.{inner_found, outer_found, bindings}
use Rattle.jl_sig.proofs.UsableLemmas.{stands-var, stands-nominal, outside-var, outside-union, outside-tuple, outside-nominal}
use Rattle.jl_search.proofs.FindLemmas.{arg-var, inner-find-var, inner-find-nominal, inner-find-tuple, outer-find-var, outer-find-nominal, outer-find-tuple}
use Rattle.jl_match.proofs.KindLemmas.{places-any, places-union, places-tuple, places-nominal, places-var}

abbrev one_variable : List Ty → Written
one_variable ts = record { vars = free ∷ []; parts = ts }

-- bounds without variables have no place
no_place : (v : ℕ) → bound_places v (free ∷ []) ≡ nowhere
no_place v = let a = places-union v [] in let b = places-any v in rw (a, b) refl

-- it may be used, by its places in the components
usable_by : (us : List Ty) (p : Places) (b : Bool) → plus_all (map (places 0) us) ≡ p → list_all (is_outside_unions 0) us ≡ b
    → is_usable (one_variable us) 0 ≡ (is_met (kind_of (plus p (below_nominal nowhere))) p && b)
usable_by us p b e f =
    ap (λ z. is_met (kind_of (plus z (below_nominal (bound_places 0 (free ∷ []))))) z && list_all (is_outside_unions 0) us) e
    ∙ ap (λ z. is_met (kind_of (plus p (below_nominal z))) p && list_all (is_outside_unions 0) us) (no_place 0) ∙ ap (λ z. is_met (kind_of (plus p (below_nominal nowhere))) p && z) f

bindings_by : (n : Table) (us ts : List Ty) (b : Bool) → is_usable (one_variable us) 0 ≡ b
    → bindings n (one_variable us) ts ≡ cond b (or_type (or_else (inner_found n (one_variable us) ts 0) (outer_found (one_variable us) ts 0)) W.Any) W.Any ∷ []
bindings_by n us ts b e = ap (λ z. cond z (or_type (or_else (inner_found n (one_variable us) ts 0) (outer_found (one_variable us) ts 0)) W.Any) W.Any ∷ []) e

abbrev one_covariant : Places
one_covariant = record { covariant = 1; invariant = 0 }

abbrev two_covariant : Places
two_covariant = record { covariant = 2; invariant = 0 }

abbrev one_each : Places
one_each = record { covariant = 1; invariant = 1 }

-- `f(x::T) where T` at (Bool): T is Bool
alone : (n : Table) → bindings n (one_variable (W.Var 0 ∷ [])) (named 5 ∷ []) ≡ named 5 ∷ []
alone n =
    let us : List Ty = W.Var 0 ∷ [] in
    let p : plus_all (map (places 0) us) ≡ one_covariant = let a = places-var 0 0 in rw a refl in
    let o : list_all (is_outside_unions 0) us ≡ true = let b = outside-var 0 0 in rw b refl in
    let c = inner-find-var n opaque 0 (named 5) 0 in
    let d = outer-find-var opaque 0 (named 5) 0 in
    bindings_by n us (named 5 ∷ []) true (usable_by us one_covariant true p o) ∙ rw (c, d) refl

-- `same(x::T, y::T) where T` at (Int64, Int64): T is Int64
same : (n : Table) → bindings n (one_variable (W.Var 0 ∷ W.Var 0 ∷ [])) (named 4 ∷ named 4 ∷ []) ≡ named 4 ∷ []
same n =
    let us : List Ty = W.Var 0 ∷ W.Var 0 ∷ [] in
    let p : plus_all (map (places 0) us) ≡ two_covariant = let a = places-var 0 0 in rw a refl in
    let o : list_all (is_outside_unions 0) us ≡ true = let b = outside-var 0 0 in rw b refl in
    let c = inner-find-var n opaque 0 (named 4) 0 in
    let d = outer-find-var opaque 0 (named 4) 0 in
    bindings_by n us (named 4 ∷ named 4 ∷ []) true (usable_by us two_covariant true p o) ∙ rw (c, d) refl

-- `pick(x::Box{T}, y::T) where T` at (Box{Integer}, Bool), where Box is any nominal type of one parameter: T is Integer
pick : (n : Table) (box : ℕ) → bindings n (one_variable (V.Nominal box (W.Var 0 ∷ []) ∷ W.Var 0 ∷ [])) (V.Nominal box (named 2 ∷ []) ∷ named 5 ∷ []) ≡ named 2 ∷ []
pick n box =
    let t : Ty = V.Nominal box (named 2 ∷ []) in
    let us : List Ty = V.Nominal box (W.Var 0 ∷ []) ∷ W.Var 0 ∷ [] in
    let p : plus_all (map (places 0) us) ≡ one_each = let a = places-nominal 0 box (W.Var 0 ∷ []) in let a2 = places-var 0 0 in rw a rw a2 refl in
    let o : list_all (is_outside_unions 0) us ≡ true = let b = outside-nominal 0 box (W.Var 0 ∷ []) in let b2 = outside-var 0 0 in rw b rw b2 refl in
    let c = inner-find-nominal n opaque 0 t box (W.Var 0 ∷ []) in
    let q = outs-Nominal box (named 2 ∷ []) in
    let e : nat_eq box box ≡ true = grind arith in
    let c2 = arg-var 0 (named 2) 0 in
    bindings_by n us (t ∷ named 5 ∷ []) true (usable_by us one_each true p o) ∙ rw c rw q rw e rw c2 refl

-- `f(x::Tuple{Int64, T}) where T` at (Tuple{Int64, Bool}): T is Bool
in_tuple : (n : Table) → bindings n (one_variable (V.Tuple (named 4 ∷ W.Var 0 ∷ []) ∷ [])) (V.Tuple (named 4 ∷ named 5 ∷ []) ∷ []) ≡ named 5 ∷ []
in_tuple n =
    let t : Ty = V.Tuple (named 4 ∷ named 5 ∷ []) in
    let ws : List Ty = named 4 ∷ W.Var 0 ∷ [] in
    let us : List Ty = V.Tuple ws ∷ [] in
    let p : plus_all (map (places 0) us) ≡ one_covariant = let a = places-tuple 0 ws in let a1 = places-nominal 0 4 [] in let a2 = places-var 0 0 in rw a rw (a1, a2) refl in
    let o : list_all (is_outside_unions 0) us ≡ true = let b = outside-tuple 0 ws in let b1 = outside-nominal 0 4 [] in let b2 = outside-var 0 0 in rw b rw (b1, b2) refl in
    let c = inner-find-tuple n opaque 0 t ws in
    let q = outs-Tuple (named 4 ∷ named 5 ∷ []) in
    let c1 = inner-find-nominal n opaque 0 (named 4) 4 [] in
    let c2 = inner-find-var n opaque 0 (named 5) 0 in
    let d = outer-find-tuple opaque 0 t ws in
    let d1 = outer-find-nominal opaque 0 (named 4) 4 [] in
    let d2 = outer-find-var opaque 0 (named 5) 0 in
    bindings_by n us (t ∷ []) true (usable_by us one_covariant true p o) ∙ rw (c, d) rw q rw (c1, c2, d1, d2) refl

-- `f(x::Union{Int64, T}) where T` at (Bool): T may not be used
in_union : (n : Table) → bindings n (one_variable (V.Union (named 4 ∷ W.Var 0 ∷ []) ∷ [])) (named 5 ∷ []) ≡ W.Any ∷ []
in_union n =
    let ws : List Ty = named 4 ∷ W.Var 0 ∷ [] in
    let us : List Ty = V.Union ws ∷ [] in
    let p : plus_all (map (places 0) us) ≡ one_covariant = let a = places-union 0 ws in let a1 = places-nominal 0 4 [] in let a2 = places-var 0 0 in rw a rw (a1, a2) refl in
    let o : list_all (is_outside_unions 0) us ≡ false = let b = outside-union 0 ws in let b1 = stands-nominal 0 4 [] in let b2 = stands-var 0 0 in rw b rw (b1, b2) refl in
    bindings_by n us (named 5 ∷ []) false (usable_by us one_covariant false p o)

-- `f(x::S) where {T, S<:Box{T}}` at (Box{Int64}): S is Box{Int64}, and T may not be used, since it stands in no component
in_bound : (n : Table) (box : ℕ) → bindings n (record { vars = free ∷ record { low = V.Union []; high = V.Nominal box (W.Var 0 ∷ []) } ∷ []; parts = W.Var 1 ∷ [] }) (V.Nominal box (named 4 ∷ []) ∷ []) ≡ W.Any ∷ V.Nominal box (named 4 ∷ []) ∷ []
in_bound n box =
    let t : Ty = V.Nominal box (named 4 ∷ []) in
    let u0 = places-union 0 [] in
    let u1 = places-union 1 [] in
    let a0 = places-any 0 in
    let a1 = places-any 1 in
    let k0 = places-nominal 0 box (W.Var 0 ∷ []) in
    let k1 = places-nominal 1 box (W.Var 0 ∷ []) in
    let v0 = places-var 0 0 in
    let v1 = places-var 1 0 in
    let w0 = places-var 0 1 in
    let w1 = places-var 1 1 in
    let b = outside-var 1 1 in
    let c = inner-find-var n opaque 1 t 1 in
    let d = outer-find-var opaque 1 t 1 in
    rw (u0, u1, a0, a1, k0, k1) rw (v0, v1, w0, w1) rw (b, c, d) refl

-- a signature without variables
no_variables : (n : Table) (us ts : List Ty) → bindings n (record { vars = []; parts = us }) ts ≡ []
no_variables n us ts = refl
