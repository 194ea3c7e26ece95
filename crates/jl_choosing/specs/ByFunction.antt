-- Definitions and deletions by their functions.
use Rattle.std.specs.Prelude.{ℕ, ◌+◌, ◌≡◌, ◌<◌, ◌≤◌, cond, nat_le, List, [], ◌∷◌, length, take, get_or, Option, None, Some}
use Rattle.std.specs.List.{Contains}
use Rattle.jl_calculus.specs.declared.history.Change.{Change}
use Rattle.jl_calculus.specs.declared.history.Def.{Def}
use Rattle.jl_calculus.specs.declared.history.Del.{Del}
use Rattle.jl_program.specs.declared.tree.Program.{Program}
use Rattle.jl_calculus.specs.Definitions.{defs_from, dels_from}
use Rattle.jl_subsig.specs.Standing.{HasLaterAtSite, IsRepeated}
use Rattle.jl_choosing.specs.declared.changes.Older.{Older}

-- those of a list of definitions, in order, that a world has
abbrev pub in_world : ℕ → List Def → List Def
in_world w [] = []
in_world w (d ∷ ds) = cond (nat_le d.world w) (d ∷ in_world w ds) []

-- their worlds rise, from a number on
abbrev pub Rising : ℕ → List Def → Type 0
Rising low [] = Unit {0}
Rising low (d ∷ ds) = (low ≤ d.world) × Rising (d.world + 1) ds

-- their worlds are below another
abbrev pub AreBefore : ℕ → List Def → Type 0
AreBefore w ds = (d : Def) → Contains ds d → d.world < w

-- some of these definitions, in order, with the latest one of each site
pub record AreLatest (all some : List Def) : Type 0 where
  pub there : (d : Def) → Contains some d → Contains all d
  pub covered : (d : Def) → Contains all d → HasLaterAtSite some d
  pub rising : Rising 0 some

-- what is kept of the definitions of a function
pub record IsKeptSo (all latest : List Def) : Type 0 where
  pub rising : Rising 0 all
  pub latest_ones : AreLatest all latest

-- one of these definitions is later than a world
pub record HasLater (world : ℕ) (all : List Def) : Type 0 where
  pub one : Def
  pub came : Contains all one
  pub after : world < one.world

-- the definitions of an older world, after which one came: those that it has, the latest of each site at least
pub record IsOlder (all : List Def) (older : Older) : Type 0 where
  pub later : HasLater older.world all
  pub latest_ones : AreLatest (in_world older.world all) older.defs.items

abbrev pub IsOlderSo : List Def → Option Older → Type 0
IsOlderSo all None = Unit {0}
IsOlderSo all (Some older) = IsOlder all older

-- of definitions up to a place, this is the place of the last one that has the site of one of them
pub record IsLastAt (defs : List Def) (n j p : ℕ) : Type 0 where
  pub later : j ≤ p
  pub before : p < n
  pub site_is : (get_or defs p (record { world = 0; site = 0 })).site ≡ (get_or defs j (record { world = 0; site = 0 })).site

-- each site of these definitions, up to a place, has the place of its last one
abbrev pub AreLastPlaces : ℕ → List Def → List ℕ → Type 0
AreLastPlaces n defs places = (j : ℕ) → j < n → IsLastAt defs n j (get_or places (get_or defs j (record { world = 0; site = 0 })).site 0)

-- of definitions up to a place, these are the ones that stand at the places of their sites
pub record AreSifted (n : ℕ) (defs : List Def) (places : List ℕ) (some : List Def) : Type 0 where
  pub there : (d : Def) → Contains some d → Contains (take n defs) d
  pub stay : (j : ℕ) → j < n → get_or places (get_or defs j (record { world = 0; site = 0 })).site 0 ≡ j → Contains some (get_or defs j (record { world = 0; site = 0 }))
  pub rising : Rising 0 some

-- each row has the definitions of one function of the program among those of these changes
pub record AreByFunction (P : Program) (cs : List Change) (rows : List (List Def)) : Type 0 where
  pub count : length rows ≡ length P.functions
  pub each : (f : ℕ) → get_or rows f [] ≡ defs_from P f 1 cs

-- ---- deletions

-- their worlds are below another
abbrev pub AreDelsBefore : ℕ → List Del → Type 0
AreDelsBefore w ds = (d : Del) → Contains ds d → d.world < w

-- some of these deletions, with the latest one of each place
pub record AreLatestDels (all some : List Del) : Type 0 where
  pub there : (d : Del) → Contains some d → Contains all d
  pub covered : (d : Del) → Contains all d → IsRepeated d some

-- each row has the deletions of one function of the program among those of these changes
pub record AreDelsByFunction (P : Program) (cs : List Change) (rows : List (List Del)) : Type 0 where
  pub count : length rows ≡ length P.functions
  pub each : (f : ℕ) → get_or rows f [] ≡ dels_from P f 1 cs
