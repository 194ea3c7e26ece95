-- How the comparison of tuples ends.
use Rattle.std.proofs.Common.{◌≡◌, ◌∙◌, ap, refl, ℕ, ◌≤◌, arith, true, false, List, []}
use Rattle.jl_model.specs.declared.ty.Ty.{Ty}
use Rattle.jl_model.specs.declared.ty.Ty.TheOpen.{Ty-F, Any, Union, Tuple, Nominal, Var}
use Rattle.jl_model.specs.declared.ty.Ty.TheViews.{out-Ty, outs-Union, outs-Tuple, outs-Var}
use Rattle.jl_model.specs.declared.ty.Ty.TheViews as V
use Rattle.jl_model.specs.declared.ty.Ty.TheVariants as W
use Rattle.jl_model.specs.Rows.{vars_in}
use Rattle.jl_model.specs.Normal.{no_union, is_single}
use Rattle.jl_subsig.proofs.FixedLemmas.{fast_closed}

abbrev pub rank_of : Ty-F Ty → ℕ
rank_of Any = 1
rank_of (Union ts) = 3
rank_of (Tuple ts) = 1
rank_of (Nominal k ts) = 1
rank_of (Var v) = 5

-- a variable has its lower bound for a turn, and a union its members
abbrev pub rank : Ty → ℕ
rank t = rank_of (out-Ty t)

plain_rank_of : (x : Ty-F Ty) → rank_of x ≤ 5
plain_rank_of Any = omega arith
plain_rank_of (Union ts) = omega arith
plain_rank_of (Tuple ts) = omega arith
plain_rank_of (Nominal k ts) = omega arith
plain_rank_of (Var v) = omega arith

pub plain_rank : (t : Ty) → rank t ≤ 5
plain_rank t = plain_rank_of (out-Ty t)

pub union_rank : (t : Ty) (us : List Ty) → t ≡ V.Union us → rank t ≡ 3
union_rank t us e = ap rank_of (ap out-Ty e ∙ outs-Union us)

pub var_rank : (t : Ty) (v : ℕ) → t ≡ W.Var v → rank t ≡ 5
var_rank t v e = ap rank_of (ap out-Ty e ∙ outs-Var v)

pub tuple_rank : (t : Ty) (us : List Ty) → t ≡ V.Tuple us → rank t ≡ 1
tuple_rank t us e = ap rank_of (ap out-Ty e ∙ outs-Tuple us)

-- without variables
member_rank_of : (t : Ty) (x : Ty-F Ty) → out-Ty t ≡ x → vars_in t ≡ [] → rank_of x ≤ 3
member_rank_of t Any e c = omega arith
member_rank_of t (Union ts) e c = omega arith
member_rank_of t (Tuple ts) e c = omega arith
member_rank_of t (Nominal k ts) e c = omega arith
member_rank_of t (Var v) e c = absurd (fast_closed t c v e)

pub member_rank : (t : Ty) → vars_in t ≡ [] → rank t ≤ 3
member_rank t c = member_rank_of t (out-Ty t) refl c

-- no union either
single_rank_of : (t : Ty) (x : Ty-F Ty) → out-Ty t ≡ x → no_union x ≡ true → vars_in t ≡ [] → rank_of x ≡ 1
single_rank_of t Any e s c = refl
single_rank_of t (Union ts) e s c = let f : false ≡ true = s in cc
single_rank_of t (Tuple ts) e s c = refl
single_rank_of t (Nominal k ts) e s c = refl
single_rank_of t (Var v) e s c = absurd (fast_closed t c v e)

pub single_rank : (t : Ty) → is_single t ≡ true → vars_in t ≡ [] → rank t ≡ 1
single_rank t s c = single_rank_of t (out-Ty t) refl s c
