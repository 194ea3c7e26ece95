-- Static parameters, as starts of tasks and calls have them, are types that may be put in.
use Rattle.std.proofs.Common.{◌≡◌, ℕ, zero, suc, ◌+◌, Bool, true, false, List, [], ◌∷◌, map}
use Rattle.jl_model.specs.declared.ty.Ty.{Ty}
use Rattle.jl_model.specs.declared.ty.Bound.{Bound}
use Rattle.jl_model.specs.declared.ty.Decl.{Decl}
use Rattle.jl_model.specs.declared.ty.Written.{Written}
use Rattle.jl_model.specs.AllRows.{each_var}
use Rattle.jl_model.specs.Ancestors.{table_of}
use Rattle.jl_model.specs.Bindings.{binding, bindings}
use Rattle.jl_model.specs.Refusals.{Declared}
use Rattle.jl_model.specs.Usable.{is_usable}
use Rattle.jl_program.specs.declared.value.Value.{Value}
use Rattle.jl_program.specs.Meaning.{datum}
use Rattle.jl_program.specs.TypeOf.{type_of}
use Rattle.jl_program.specs.ValidValue.{AllValid}
use Rattle.jl_calculus.specs.ValidStart.{IsStaticType, AreStatics}
use Rattle.jl_value.proofs.KeptLemmas.{closed_of}
use Rattle.jl_operations.specs.Conditions.{HaveTypes}
use Rattle.jl_operations.proofs.FoundLemmas.{binding_good}
use Rattle.jl_operations.proofs.InferLemmas.{types_good}

-- those of the start of a task
pub statics_have : (ds : List Decl) (usable : List Bool) (ts : List Ty) → AreStatics ds usable ts → HaveTypes ds usable ts
statics_have ds [] [] h i e = let f : false ≡ true = e in cc
statics_have ds [] (t ∷ ts) h i e = absurd h
statics_have ds (b ∷ usable) [] h i e = absurd h
statics_have ds (true ∷ usable) (t ∷ ts) h zero e = record { valid = h.0.valid; closed = h.0.closed }
statics_have ds (true ∷ usable) (t ∷ ts) h (suc i) e = statics_have ds usable ts h.1 i e
statics_have ds (false ∷ usable) (t ∷ ts) h zero e = let f : false ≡ true = e in cc
statics_have ds (false ∷ usable) (t ∷ ts) h (suc i) e = statics_have ds usable ts h i e

-- what a call binds to the variables of its method's signature
module _ (ds : List Decl) (declared : Declared ds) (s : Written) (vs : List Value) (a : AllValid ds (map datum vs)) where
  bound_type : (v : ℕ) → IsStaticType ds (binding (table_of ds) s (map type_of vs) v)
  bound_type v =
      let g = binding_good ds declared s (map type_of vs) (types_good ds declared vs a) v in
      record { normal = g.normal; valid = record { known = g.fine.known; counted = g.fine.counted }; closed = closed_of (binding (table_of ds) s (map type_of vs) v) g.closed }

  each_static : (f : ℕ → Bool) (i : ℕ) (bs : List Bound) → AreStatics ds (each_var f i bs) (each_var (binding (table_of ds) s (map type_of vs)) i bs)
  each_static f i [] = tt
  each_static f i (b ∷ bs) = by (f i) (each_static f (i + 1) bs)
    where
      by : (x : Bool) → AreStatics ds (each_var f (i + 1) bs) (each_var (binding (table_of ds) s (map type_of vs)) (i + 1) bs) → AreStatics ds (x ∷ each_var f (i + 1) bs) (binding (table_of ds) s (map type_of vs) i ∷ each_var (binding (table_of ds) s (map type_of vs)) (i + 1) bs)
      by true h = (bound_type i, h)
      by false h = h

  pub bindings_are : AreStatics ds (each_var (is_usable s) 0 s.vars) (bindings (table_of ds) s (map type_of vs))
  bindings_are = each_static (is_usable s) 0 s.vars
