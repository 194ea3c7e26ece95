-- The limits of a type in a body, from those of its parts.
use Rattle.std.proofs.Common.{◌≡◌, ◌≤◌, arith, true, List, map, length, inl, inr}
use Rattle.std.specs.List.{list_all}
use Rattle.jl_model.specs.declared.ty.Bound.{Bound}
use Rattle.jl_model.specs.declared.ty.Decl.{Decl}
use Rattle.jl_model.specs.declared.ty.Written.{Written}
use Rattle.jl_model.specs.Ancestors.{table_of}
use Rattle.jl_model.specs.Counts.{nodes, total}
use Rattle.jl_model.specs.Signature.{Both}
use Rattle.jl_model.specs.Valid.{is_known}
use Rattle.jl_model.specs.Refusals.{Declared, Given, bound_types}
use Rattle.jl_model.specs.SigRefusals.{types_in, arguments_in, are_bounds, ManyRows, VariablePlace}
use Rattle.jl_program.specs.BodyTypes.{without_statics, without_any_statics}
use Rattle.jl_sig.specs.Parts.{HasWide}
use Rattle.jl_sig.specs.Forms.{IsBoundForm, AreFormed}
use Rattle.jl_sig.specs.Prepared.{IsExpandable}
use Rattle.jl_sig.specs.Fit.{AllFit}
use Rattle.jl_sig.proofs.BoundLemmas.{placed_bounds}
use Rattle.jl_sig.proofs.LimitLemmas.{no_large}
use Rattle.jl_sig.proofs.SigLemmas.{bounds_fit, expandable_like}
use Rattle.jl_body.specs.TypeRefused.{BodyTypeLimit}
use Rattle.jl_body.proofs.StaticLemmas.{own_plain, lows_put, highs_put}

-- The type t, with static parameters in it, where its parts are small.
module _ (ds : List Decl) (declared : Declared ds) (t : Written) (known : list_all (is_known (length ds)) (types_in t) ≡ true) (placed : VariablePlace (without_statics t) → ⊥)
    (m : total (map nodes (types_in t)) ≤ 1024) (wide : HasWide (types_in t) → ⊥) (hs : List Given) (formed : AreFormed ds (arguments_in t) hs) where
  pub places : are_bounds (length t.vars) 0 t.vars ≡ true
  places = placed_bounds (without_statics t) placed

  -- its bounds can be kept
  pub kept_bounds : AllFit ds (bound_types t.vars)
  kept_bounds = bounds_fit ds declared t known places m wide hs formed

  module _ (bounds : List Bound) (forms : Both (IsBoundForm ds) (bound_types t.vars) (bound_types bounds)) where
    -- the rows without static parameters can be built
    pub plain_expandable : IsExpandable ds (without_any_statics t) bounds
    plain_expandable =
        expandable_like ds declared t known places m wide hs formed bounds forms (without_any_statics t) (own_plain t) (lows_put (length t.vars) (length t.vars) 0 t.vars places) (highs_put (length t.vars) (length t.vars) 0 t.vars places)

    -- it is small, where there are few of them
    pub no_limit : (ManyRows (table_of ds) (without_any_statics t) → ⊥) → BodyTypeLimit ds t → ⊥
    no_limit few (inl a) = omega (arith, a, m)
    no_limit few (inr (inl b)) = wide b
    no_limit few (inr (inr (inl c))) = no_large ds declared t (bound_types bounds) hs forms formed c
    no_limit few (inr (inr (inr d))) = few d
