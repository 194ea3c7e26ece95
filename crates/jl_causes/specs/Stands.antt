-- Which sites a deletion place takes away, and in which worlds a method of a site stands, by the worlds that its definitions made and those
-- in which it was taken away.
use Rattle.std.specs.Prelude.{ℕ, ◌≡◌, ◌<◌, ◌≤◌, ◌⊎◌, ◌↔◌, ◌++◌, Bool, IsTrue, List, [], ◌∷◌, length, map, slice_get, Option, None, Some}
use Rattle.std.specs.Global.{Vec}
use Rattle.std.specs.List.{Contains}
use Rattle.jl_program.specs.declared.tree.Delete.{Delete}
use Rattle.jl_program.specs.declared.tree.Site.{Site}
use Rattle.jl_program.specs.declared.tree.Program.{Program}
use Rattle.jl_calculus.specs.declared.history.Change.{Change}
use Rattle.jl_calculus.specs.declared.history.Change.TheVariants as Ch
use Rattle.jl_methods.specs.Filters.{change_in}
use Rattle.jl_methods.specs.Links.{AreNumbers, IsLast}
use Rattle.jl_methods.specs.Numbered.{nth, RisesFrom}
use Rattle.jl_subsig.specs.Standing.{AreSameSigs}
use Rattle.jl_causes.specs.declared.lists.Lists.{Lists}
use Rattle.jl_causes.specs.declared.standing.Standing.{Standing}

-- the items of each list
abbrev pub lists_in : Lists → List (List ℕ)
lists_in l = map (λ (v : Vec _). v.items) l.lists.items

-- ---- what is meant

-- a site and a deletion place are of one function
abbrev pub AreOfOne : Option Site → Option Delete → Type 0
AreOfOne None place = ⊥
AreOfOne (Some site) None = ⊥
AreOfOne (Some site) (Some place) = site.function ≡ place.function

-- a deletion at a place takes the methods of a site away
pub record IsAlike (P : Program) (site place : ℕ) : Type 0 where
  pub one : AreOfOne (slice_get P.sites site) (slice_get P.deletes place)
  pub same : AreSameSigs P site place

-- a method of a site stands in a world that these changes made: it is defined up to it, and no later change up to it takes it away
pub record IsThere (P : Program) (cs : List Change) (site world : ℕ) : Type 0 where
  pub made : ℕ
  pub change_is : change_in cs made ≡ Some (Ch.Def site)
  pub up : made ≤ world
  pub kept : (w place : ℕ) → made < w → w ≤ world → change_in cs w ≡ Some (Ch.Del place) → IsAlike P site place → ⊥

-- one of a site that a deletion at a place takes away stands
abbrev pub HasThere : Program → List Change → ℕ → ℕ → Type 0
HasThere P cs place world = (site : ℕ) × IsAlike P site place × IsThere P cs site world

-- ---- what is kept

-- these are, in order, the sites that a deletion at a place takes away
abbrev pub AreAlike : Program → ℕ → List ℕ → Type 0
AreAlike P place sites = AreNumbers (λ site. IsAlike P site place) sites

-- the last of some worlds up to another, and of others
pub record AreLast (made gone : List ℕ) (world a b : ℕ) : Type 0 where
  pub made_last : IsLast (λ w. Contains made w) world a
  pub gone_last : IsLast (λ w. Contains gone w) world b

-- an answer says that the last of some worlds up to another is later than that of others
abbrev pub SaysLater : Bool → List ℕ → List ℕ → ℕ → Type 0
SaysLater answer made gone world = (a : ℕ) × (b : ℕ) × AreLast made gone world a b × (IsTrue answer ↔ (b < a))

-- a deletion that made this world is noted, where the last definition before is later than the last deletion
abbrev pub IsTaken : ℕ → List ℕ → List ℕ → List ℕ → Type 0
IsTaken world made gone new = (a : ℕ) × (b : ℕ) × AreLast made gone world a b × (((b < a) × (new ≡ gone ++ world ∷ [])) ⊎ ((a ≤ b) × (new ≡ gone)))

-- the worlds that the definitions of a site made, and those in which it was taken away: it stands where the last of those is later
pub record IsKeptSo (P : Program) (cs : List Change) (site : ℕ) (made gone : List ℕ) : Type 0 where
  pub made_rises : RisesFrom 0 made
  pub gone_rises : RisesFrom 0 gone
  pub made_few : (w : ℕ) → Contains made w → w ≤ length cs
  pub gone_few : (w : ℕ) → Contains gone w → w ≤ length cs
  pub exact : (world a b : ℕ) → world ≤ length cs → AreLast made gone world a b → (b < a) ↔ IsThere P cs site world

-- these were found, where something was
abbrev pub AreFoundAt : Option (Option (Vec ℕ)) → List ℕ → Type 0
AreFoundAt None sites = ⊥
AreFoundAt (Some None) sites = ⊥
AreFoundAt (Some (Some those)) sites = sites ≡ those.items

-- nothing was found
abbrev pub AllNone : List (Option (Vec ℕ)) → Type 0
AllNone found = (place : ℕ) (sites : List ℕ) → AreFoundAt (slice_get found place) sites → ⊥

-- what is kept is that of these changes
pub record AreStanding (P : Program) (cs : List Change) (s : Standing) : Type 0 where
  pub all_alike : length s.alike.items ≡ length P.deletes
  pub all_made : length (lists_in s.made) ≡ length P.sites
  pub all_gone : length (lists_in s.gone) ≡ length P.sites
  pub alike : (place : ℕ) (sites : List ℕ) → AreFoundAt (slice_get s.alike.items place) sites → AreAlike P place sites
  pub each : (site : ℕ) → IsKeptSo P cs site (nth (lists_in s.made) site) (nth (lists_in s.gone) site)
