-- What a declaration is kept as.
use Rattle.std.specs.Prelude.{ℕ, ◌≡◌, false, IsTrue, List, [], ◌∷◌, map}
use Rattle.jl_model.specs.declared.ty.Ty.{Ty}
use Rattle.jl_model.specs.declared.ty.Ty.TheOpen.{Any, Union, Tuple, Nominal, Var}
use Rattle.jl_model.specs.declared.ty.Ty.TheViews.{out-Ty}
use Rattle.jl_model.specs.declared.ty.Bound.{Bound}
use Rattle.jl_model.specs.declared.ty.Field.{Field}
use Rattle.jl_model.specs.declared.ty.Decl.{Decl}
use Rattle.jl_model.specs.Subtype.{Table}
use Rattle.jl_model.specs.Normal.{IsNormalForm}
use Rattle.jl_model.specs.Valid.{is_closed}

abbrev pub field_types : List Field → List Ty
field_types fs = map (λ f. f.ty) fs

-- The types that a declaration keeps: those without variables that are bounds or arguments of nominal types stand in
-- normal form, and all else is as written.
module _ (n : Table) where
  mutual
    -- an argument of a nominal type
    pub data Argument : Ty → Ty → Type 0 where
      closed : (t u : Ty) → IsTrue (is_closed t) → IsNormalForm n t u → Argument t u
      variable : (t : Ty) (v : ℕ) → out-Ty t ≡ Var v → Argument t t
      nominal : (t u : Ty) (k : ℕ) (ts us : List Ty) → is_closed t ≡ false → out-Ty t ≡ Nominal k ts → out-Ty u ≡ Nominal k us → AllArguments ts us → Argument t u

    pub data AllArguments : List Ty → List Ty → Type 0 where
      arguments_end : AllArguments [] []
      arguments_more : (t u : Ty) (ts us : List Ty) → Argument t u → AllArguments ts us → AllArguments (t ∷ ts) (u ∷ us)

  mutual
    -- at a place that is no argument
    pub data Settled : Ty → Ty → Type 0 where
      plain : (t : Ty) → out-Ty t ≡ Any → Settled t t
      variable : (t : Ty) (v : ℕ) → out-Ty t ≡ Var v → Settled t t
      union : (t u : Ty) (ts us : List Ty) → out-Ty t ≡ Union ts → out-Ty u ≡ Union us → AllSettled ts us → Settled t u
      tuple : (t u : Ty) (ts us : List Ty) → out-Ty t ≡ Tuple ts → out-Ty u ≡ Tuple us → AllSettled ts us → Settled t u
      nominal : (t u : Ty) (k : ℕ) (ts us : List Ty) → out-Ty t ≡ Nominal k ts → out-Ty u ≡ Nominal k us → AllArguments ts us → Settled t u

    pub data AllSettled : List Ty → List Ty → Type 0 where
      settled_end : AllSettled [] []
      settled_more : (t u : Ty) (ts us : List Ty) → Settled t u → AllSettled ts us → AllSettled (t ∷ ts) (u ∷ us)

  pub data Bounds : List Bound → List Bound → Type 0 where
    bounds_end : Bounds [] []
    bounds_more : (b c : Bound) (bs cs : List Bound) → IsNormalForm n b.low c.low → IsNormalForm n b.high c.high → Bounds bs cs → Bounds (b ∷ bs) (c ∷ cs)

  -- e is what d is kept as
  pub record IsKept (d e : Decl) : Type 0 where
    pub name : e.name ≡ d.name
    pub kind : e.kind ≡ d.kind
    pub params : Bounds d.params e.params
    pub parent : Settled d.parent e.parent
    pub field_names : map (λ f. f.name) e.fields ≡ map (λ f. f.name) d.fields
    pub fields : AllSettled (field_types d.fields) (field_types e.fields)
