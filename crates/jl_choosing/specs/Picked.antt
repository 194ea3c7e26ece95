-- The definitions that apply to a call's arguments.
use Rattle.std.specs.Prelude.{List, [], ◌∷◌}
use Rattle.jl_model.specs.declared.ty.Ty.{Ty}
use Rattle.jl_calculus.specs.declared.history.Def.{Def}
use Rattle.jl_program.specs.declared.tree.Program.{Program}
use Rattle.jl_calculus.specs.Definitions.{AppliesTo}

module _ (P : Program) (ts : List Ty) where
  -- of a list of definitions those are picked that apply
  pub data Picked : List Def → List Def → Type 0 where
    picked_end : Picked [] []
    picked_more : (d : Def) (ds es : List Def) → AppliesTo P ts d → Picked ds es → Picked (d ∷ ds) (d ∷ es)
    not_applied : (d : Def) (ds es : List Def) → (AppliesTo P ts d → ⊥) → Picked ds es → Picked (d ∷ ds) es
