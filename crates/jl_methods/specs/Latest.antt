-- What stays when each new one takes the place of that of its own number: definitions by their sites, deletions by their places.
use Rattle.std.specs.Prelude.{ℕ, ◌≡◌, ◌≤◌, not, nat_eq, List, [], ◌∷◌, ◌++◌, map}
use Rattle.std.specs.List.{Contains, filter}
use Rattle.jl_model.specs.declared.ty.Ty.{Ty}
use Rattle.jl_program.specs.declared.tree.Program.{Program}
use Rattle.jl_calculus.specs.declared.history.Change.TheVariants as Ch
use Rattle.jl_calculus.specs.declared.history.Def.{Def}
use Rattle.jl_calculus.specs.declared.history.Del.{Del}
use Rattle.jl_calculus.specs.Definitions.{AppliesTo}
use Rattle.jl_methods.specs.Filters.{ChangeApplies}
use Rattle.jl_methods.specs.Numbered.{RisesFrom}

-- one more at the end, in place of those of its own number
abbrev pub renewed : {X : Type 0} → (X → ℕ) → List X → X → List X
renewed number xs x = filter (λ y. not (nat_eq (number y) (number x))) xs ++ x ∷ []

abbrev pub site_number : Def → ℕ
site_number d = d.site

abbrev pub place_number : Del → ℕ
place_number d = d.place

module _ {X : Type 0} (number world : X → ℕ) where
  -- of the same number one is there that is no earlier
  pub record HasLater (some : List X) (x : X) : Type 0 where
    pub by : X
    pub stays : Contains some by
    pub same : number by ≡ number x
    pub later : world x ≤ world by

  -- some are of those of a kind, and no later one of the kind and of the same number is missing
  pub record HaveLatestOf (Is : X → Type 0) (all some : List X) : Type 0 where
    pub there : (x : X) → Contains some x → Contains all x × Is x
    pub covered : (x : X) → Contains all x → Is x → HasLater some x

  -- these are, in order, those of a kind that no later one of the kind and of the same number replaced
  pub record AreLatestOf (Is : X → Type 0) (all some : List X) : Type 0 where
    pub there : (x : X) → Contains some x → Contains all x × Is x
    pub covered : (x : X) → Contains all x → Is x → HasLater some x
    pub latest : (x y : X) → Contains some x → Contains all y → Is y → number y ≡ number x → world y ≤ world x
    pub rises : RisesFrom 0 (map world some)

-- of the definitions that apply to types these have the latest of each site
abbrev pub HaveLatestOfSites : Program → List Ty → List Def → List Def → Type 0
HaveLatestOfSites P ts all some = HaveLatestOf site_number (λ (d : Def). d.world) (AppliesTo P ts) all some

-- of the deletions whose places apply to types these have the latest of each place
abbrev pub HaveLatestOfPlaces : Program → List Ty → List Del → List Del → Type 0
HaveLatestOfPlaces P ts all some = HaveLatestOf place_number (λ (d : Del). d.world) (λ (d : Del). ChangeApplies P (Ch.Del d.place) ts) all some

-- these are, in order, the deletions that no later one of the same place repeats
abbrev pub AreLatestOfPlaces : List Del → List Del → Type 0
AreLatestOfPlaces all some = AreLatestOf place_number (λ (d : Del). d.world) (λ d. Unit {0}) all some
