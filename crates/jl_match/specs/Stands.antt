-- What stands at a place of a variable, as a relation, in place of a search.
use Rattle.std.specs.Prelude.{ℕ, ◌≡◌, List, ◌∷◌}
use Rattle.jl_model.specs.declared.ty.Ty.{Ty}
use Rattle.jl_model.specs.declared.ty.Ty.TheOpen.{Tuple, Var}
use Rattle.jl_model.specs.declared.ty.Ty.TheViews.{out-Ty}

module _ (v : ℕ) (y : Ty) where
  mutual
    -- In a type below a component, y stands at a covariant place of v: the component is v, or it is a tuple, and y stands so in a
    -- part of the tuple below it.
    pub data StandsAt : Ty → Ty → Type 0 where
      alone : (u t : Ty) → out-Ty u ≡ Var v → t ≡ y → StandsAt u t
      inside : (u t : Ty) (us ts : List Ty) → out-Ty u ≡ Tuple us → out-Ty t ≡ Tuple ts → StandsIn us ts → StandsAt u t

    -- it stands so in one of the types below the components
    pub data StandsIn : List Ty → List Ty → Type 0 where
      first : (u t : Ty) (us ts : List Ty) → StandsAt u t → StandsIn (u ∷ us) (t ∷ ts)
      later : (u t : Ty) (us ts : List Ty) → StandsIn us ts → StandsIn (u ∷ us) (t ∷ ts)
