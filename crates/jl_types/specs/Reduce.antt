-- How members are dropped that are below others.
use Rattle.std.specs.Prelude.{◌≤◌, ◌<◌, List, [], ◌∷◌, ◌++◌}
use Rattle.jl_model.specs.declared.limits.TheConstants.{MOST_TYPE_NODES}
use Rattle.jl_model.specs.declared.ty.Ty.{Ty}
use Rattle.jl_model.specs.declared.ty.Decl.{Decl}
use Rattle.jl_model.specs.Ancestors.{table_of}
use Rattle.jl_model.specs.Subtype.{Table, opaque, Below}
use Rattle.jl_model.specs.Counts.{nodes}
use Rattle.jl_model.specs.Normal.{IsNormal}
use Rattle.jl_model.specs.Members.{BelowSome}
use Rattle.jl_types.specs.Ground.{Lower}

-- It may stand in a union: where it has at most 1,024 nodes it is a normal form.
pub record Candidate (ds : List Decl) (t : Ty) : Type 0 where
  pub lower : Lower ds MOST_TYPE_NODES t
  pub normal : nodes t ≤ MOST_TYPE_NODES → IsNormal (table_of ds) t

abbrev pub Candidates : List Decl → List Ty → Type 0
Candidates ds [] = Unit {0}
Candidates ds (t ∷ ts) = Candidate ds t × Candidates ds ts

-- t is below none of these that has at most 1,024 nodes
abbrev pub BelowNoSmall : Table → Ty → List Ty → Type 0
BelowNoSmall n t [] = Unit {0}
BelowNoSmall n t (u ∷ us) = (nodes u ≤ MOST_TYPE_NODES → Below n opaque t u → ⊥) × BelowNoSmall n t us

-- those that are below u are left out
pub data Thinned (n : Table) (u : Ty) : List Ty → List Ty → Type 0 where
  thin_end : Thinned n u [] []
  kept : (t : Ty) (ts us : List Ty) → (Below n opaque t u → ⊥) → Thinned n u ts us → Thinned n u (t ∷ ts) (t ∷ us)
  dropped : (t : Ty) (ts us : List Ty) → Below n opaque t u → Thinned n u ts us → Thinned n u (t ∷ ts) us

-- one more candidate
pub data Inserted (n : Table) (ts : List Ty) (t : Ty) : List Ty → Type 0 where
  covered : BelowSome n t ts → Inserted n ts t ts
  small : (us : List Ty) → nodes t ≤ MOST_TYPE_NODES → BelowNoSmall n t ts → Thinned n t ts us → Inserted n ts t (us ++ t ∷ [])
  large : MOST_TYPE_NODES < nodes t → BelowNoSmall n t ts → Inserted n ts t (ts ++ t ∷ [])

-- one candidate after another
pub data Reduces (n : Table) : List Ty → List Ty → List Ty → Type 0 where
  reduced : (ts : List Ty) → Reduces n [] ts ts
  insert : (c : Ty) (cs ts us vs : List Ty) → Inserted n ts c us → Reduces n cs us vs → Reduces n (c ∷ cs) ts vs
