-- The raised forms of left parts.
use Rattle.std.proofs.Common.{◌≡◌, refl, ℕ, List, [], None}
use Rattle.jl_model.specs.declared.ty.Ty.{Ty}
use Rattle.jl_model.specs.declared.ty.Ty.TheOpen.{Ty-F, Any, Union, Tuple, Nominal, Var}
use Rattle.jl_model.specs.declared.ty.Ty.TheViews.{out-Ty}
use Rattle.jl_model.specs.declared.ty.Ty.TheViews as V
use Rattle.jl_model.specs.Subtype.{Table}
use Rattle.jl_model.specs.Found.{or_none, parts_of, ancestor}
use Rattle.jl_model.proofs.FormLemmas.{is_nominal}
use Rattle.jl_subsig.specs.Side.{lift_to}

-- no parts
pub no_parts : (x : Ty-F Ty) → ((ts : List Ty) → x ≡ Tuple ts → ⊥) → parts_of x ≡ []
no_parts Any h = refl
no_parts (Union ts) h = refl
no_parts (Tuple ts) h = absurd (h ts refl)
no_parts (Nominal k ts) h = refl
no_parts (Var v) h = refl

pub ancestor_is : (n : Table) (m : ℕ) (x : Ty-F Ty) → ancestor n m x ≡ or_none (lift_to n m x)
ancestor_is n m Any = refl
ancestor_is n m (Union ts) = refl
ancestor_is n m (Tuple ts) = refl
ancestor_is n m (Nominal k ts) = refl
ancestor_is n m (Var v) = refl

lift_none_of : (n : Table) (m : ℕ) (t : Ty) (x : Ty-F Ty) → out-Ty t ≡ x → ((k : ℕ) (ts : List Ty) → t ≡ V.Nominal k ts → ⊥) → lift_to n m x ≡ None
lift_none_of n m t Any e h = refl
lift_none_of n m t (Union ts) e h = refl
lift_none_of n m t (Tuple ts) e h = refl
lift_none_of n m t (Nominal k ts) e h = absurd (h k ts (is_nominal t k ts e))
lift_none_of n m t (Var v) e h = refl

pub lift_none : (n : Table) (m : ℕ) (t : Ty) → ((k : ℕ) (ts : List Ty) → t ≡ V.Nominal k ts → ⊥) → lift_to n m (out-Ty t) ≡ None
lift_none n m t h = lift_none_of n m t (out-Ty t) refl h
