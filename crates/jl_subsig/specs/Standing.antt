-- Which definitions are left when later deletions take some away, and the choice among them.
use Rattle.std.specs.Prelude.{ℕ, ◌≡◌, ◌<◌, ◌≤◌, ◌⊎◌, ◌↔◌, List, [], ◌∷◌, length, slice_get, Option, None, Some}
use Rattle.std.specs.List.{Contains}
use Rattle.jl_model.specs.declared.ty.Ty.{Ty}
use Rattle.jl_model.specs.declared.ty.Written.{Written}
use Rattle.jl_model.specs.Signature.{SameSignature}
use Rattle.jl_program.specs.declared.choice.Choice.{Choice}
use Rattle.jl_program.specs.declared.tree.Delete.{Delete}
use Rattle.jl_program.specs.declared.tree.Program.{Program}
use Rattle.jl_program.specs.Chooses.{Chooses}
use Rattle.jl_program.specs.Prelude.{plain}
use Rattle.jl_program.specs.Scope.{types_of}
use Rattle.jl_calculus.specs.declared.history.Def.{Def}
use Rattle.jl_calculus.specs.declared.history.Del.{Del}
use Rattle.jl_calculus.specs.Definitions.{sig_of, methods_of, AppliesTo}

-- the signature of a deletion place, and that without parts where there is no place
abbrev pub sig_of_place : Option Delete → Written
sig_of_place None = plain []
sig_of_place (Some place) = place.sig

-- a deletion is of a place of the program
abbrev pub HasPlace : Program → Del → Type 0
HasPlace P d = d.place < length P.deletes

-- a site and a deletion place have the same signature
abbrev pub AreSameSigs : Program → ℕ → ℕ → Type 0
AreSameSigs P site place = SameSignature (types_of P) (sig_of (slice_get P.sites site)) (sig_of_place (slice_get P.deletes place))

-- a deletion takes a definition away: it is later, and its place has the same signature
pub record TakesAway (P : Program) (e : Del) (d : Def) : Type 0 where
  pub later : d.world < e.world
  pub same : AreSameSigs P d.site e.place

-- none of these deletions takes a definition away
abbrev pub IsLeft : Program → List Del → Def → Type 0
IsLeft P dels d = (e : Del) → Contains dels e → TakesAway P e d → ⊥

-- of the same site one is there that is no earlier
pub record HasLaterAtSite (some : List Def) (d : Def) : Type 0 where
  pub by : Def
  pub stays : Contains some by
  pub site_is : by.site ≡ d.site
  pub later : d.world ≤ by.world

-- these are among all definitions, and they have, of those that apply to types, the latest of each site
pub record HaveLatest (P : Program) (ts : List Ty) (all some : List Def) : Type 0 where
  pub there : (d : Def) → Contains some d → Contains all d
  pub covered : (d : Def) → Contains all d → AppliesTo P ts d → HasLaterAtSite some d

-- of the definitions that apply to types, these have exactly those that are left
abbrev pub AreLeftFor : Program → List Del → List Ty → List Def → List Def → Type 0
AreLeftFor P dels ts all those = (d : Def) → AppliesTo P ts d → Contains those d ↔ (Contains all d × IsLeft P dels d)

-- the choice among the definitions that are left
abbrev pub ChoosesLeft : Program → List Del → List Ty → List Def → Choice → Type 0
ChoosesLeft P dels ts all c = (those : List Def) × AreLeftFor P dels ts all those × Chooses (types_of P) (methods_of P those) ts c

-- a definition that is left has the signature of a place
pub record HasLeftAt (P : Program) (dels : List Del) (defs : List Def) (place : ℕ) : Type 0 where
  pub def : Def
  pub stands : Contains defs def
  pub is_left : IsLeft P dels def
  pub same : AreSameSigs P def.site place

-- the last of the deletions whose place has the signature of a site made this world, and 0 stands for none
pub record IsLastDeletion (P : Program) (dels : List Del) (site world : ℕ) : Type 0 where
  pub last : (e : Del) → Contains dels e → AreSameSigs P site e.place → e.world ≤ world
  pub there : (world ≡ 0) ⊎ ((e : Del) × Contains dels e × (e.world ≡ world) × AreSameSigs P site e.place)

module _ (P : Program) (dels : List Del) where
  -- of a list of definitions these are left, by the world of the last deletion of the signature of each site
  pub data AreLeft : List Def → List Def → Type 0 where
    left_end : AreLeft [] []
    left_more : (d : Def) (world : ℕ) (ds es : List Def) → IsLastDeletion P dels d.site world → world ≤ d.world → AreLeft ds es → AreLeft (d ∷ ds) (d ∷ es)
    taken_away : (d : Def) (world : ℕ) (ds es : List Def) → IsLastDeletion P dels d.site world → d.world < world → AreLeft ds es → AreLeft (d ∷ ds) es

-- of the same place one is there that is no earlier
pub record IsRepeated (d : Del) (others : List Del) : Type 0 where
  pub by : Del
  pub stays : Contains others by
  pub place_is : by.place ≡ d.place
  pub later : d.world ≤ by.world

-- of a list of deletions the others stay where one that comes after them repeats them
pub data AreLastOfPlaces : List Del → List Del → Type 0 where
  last_end : AreLastOfPlaces [] []
  last_more : (d : Del) (ds es : List Del) → AreLastOfPlaces ds es → AreLastOfPlaces (d ∷ ds) (d ∷ es)
  repeated : (d : Del) (ds es : List Del) → IsRepeated d ds → AreLastOfPlaces ds es → AreLastOfPlaces (d ∷ ds) es
