-- What was asked so far, what was found by it, and what is kept to ask on.
use Rattle.std.specs.Prelude.{ℕ, zero, suc, ◌≡◌, ◌<◌, ◌≤◌, Bool, nat_eq, Option, None, Some, List, [], ◌∷◌, ◌++◌, map, length, take, drop, slice_get, get_or}
use Rattle.std.specs.List.{All, Contains}
use Rattle.std.specs.List.Sorted.{IsStrictlySortedBy, IsStrictlyIncreasing}
use Rattle.std.specs.declared.cmp.Ordering.{Ordering}
use Rattle.std.specs.declared.cmp.Ordering.TheVariants.{Less, Equal}
use Rattle.jl_model.specs.declared.ty.Ty.{Ty}
use Rattle.jl_program.specs.declared.choice.Choice.{Choice}
use Rattle.jl_program.specs.declared.choice.Choice.TheVariants as C
use Rattle.jl_program.specs.declared.tree.Program.{Program}
use Rattle.jl_program.specs.Scope.{all_types}
use Rattle.jl_program.specs.ValidValue.{IsValueType}
use Rattle.jl_calculus.specs.declared.history.Change.{Change}
use Rattle.jl_calculus.specs.declared.history.Change.TheVariants as Ch
use Rattle.jl_calculus.specs.declared.history.Def.{Def}
use Rattle.jl_calculus.specs.declared.history.Del.{Del}
use Rattle.jl_calculus.specs.declared.history.Event.{Event}
use Rattle.jl_calculus.specs.declared.history.Event.TheVariants as Ev
use Rattle.jl_calculus.specs.Definitions.{sig_of, AppliesTo, HasSite, defs_in, dels_from}
use Rattle.jl_calculus.specs.World.{changes, world_of}
use Rattle.jl_choosing.specs.ByFunction.{AreLatestDels, Rising}
use Rattle.jl_subsig.specs.Side.{Every}
use Rattle.jl_subsig.specs.Standing.{HasPlace, HaveLatest, ChoosesLeft, IsLastDeletion}
use Rattle.jl_ambig.specs.declared.asking.Known.{Known}
use Rattle.jl_ambig.specs.declared.noting.Pair.{Pair}
use Rattle.jl_ambig.specs.Pairs.{pair_cmp, IsAmbiguous, IsUnexamined}
use Rattle.jl_program.specs.declared.tree.Site.{Site}

-- ---- places in lists that are in order

module _ {X : Type 0} (cmp : X → X → Ordering) (x : X) (xs : List X) where
  -- one that ties with it is there
  abbrev pub IsThere : Type 0
  IsThere = (y : X) × Contains xs y × (cmp y x ≡ Equal)

  -- those up to a place come before it, and those from there on after it
  pub record IsPlaceFor (i : ℕ) : Type 0 where
    pub within : i ≤ length xs
    pub before : All (λ y. cmp y x ≡ Less) (take i xs)
    pub after : All (λ y. cmp x y ≡ Less) (drop i xs)

-- ---- the changes of a history

-- the change that an event makes
abbrev pub change_in : Event → Option Change
change_in (Ev.Def task site) = Some (Ch.Def site)
change_in (Ev.Del task place) = Some (Ch.Del place)
change_in (Ev.Begin fuel) = None
change_in (Ev.Key key) = None
change_in (Ev.Fill key site first) = None
change_in (Ev.Spawn task child start) = None
change_in (Ev.Done task ended) = None

-- ---- definitions by their components

-- the number of components of the definitions of a site
abbrev pub components_at : Program → ℕ → ℕ
components_at P site = length (sig_of (slice_get P.sites site)).parts

abbrev pub has_components : Program → ℕ → Def → Bool
has_components P n d = nat_eq (components_at P d.site) n

-- the functions that sites are of have numbers below this one
abbrev pub AreBelow : List Site → ℕ → Type 0
AreBelow sites above = (s : ℕ) (site : Site) → slice_get sites s ≡ Some site → site.function < above

-- ---- what is asked with

-- arguments of these types may be asked with
abbrev pub AreTypes : Program → List Ty → Type 0
AreTypes P ts = All (IsValueType (all_types P)) ts

-- definitions and deletions among which may be chosen
pub record MayChoose (P : Program) (defs : List Def) (dels : List Del) : Type 0 where
  pub sites : Every (HasSite P) defs
  pub places : Every (HasPlace P) dels
  pub ordered : Rising 0 defs

-- where exactly these definitions apply, this is chosen, whatever the types are
pub record IsKnown (P : Program) (dels : List Del) (those : List Def) (choice : Choice) : Type 0 where
  pub right : (ts : List Ty) → Every (AppliesTo P ts) those → (all : List Def) → HaveLatest P ts all those → ChoosesLeft P dels ts all choice

abbrev pub AreKnown : Program → List Del → List Known → Type 0
AreKnown P dels known = All (λ (k : Known). IsKnown P dels k.those.items k.choice) known

-- these definitions and deletions tell the choice for calls of a function with so many arguments
pub record AreAsked (P : Program) (es : List Event) (f n : ℕ) (defs : List Def) (dels : List Del) : Type 0 where
  pub latest : (ts : List Ty) → length ts ≡ n → HaveLatest P ts (defs_in P es f (world_of es)) defs
  pub deletions : AreLatestDels (dels_from P f 1 (take (world_of es) (changes es))) dels

-- ---- what was found

-- a function and the types that it was asked with
pub record Probe : Type 0 where
  pub function : ℕ
  pub types : List Ty

abbrev pub probes_of : ℕ → List (List Ty) → List Probe
probes_of f lists = map (λ (ts : List Ty). record { function = f; types = ts }) lists

-- the probes of the first so many functions, each with each of these lists
abbrev pub probes_up_to : ℕ → List (List Ty) → List Probe
probes_up_to zero lists = []
probes_up_to (suc f) lists = probes_up_to f lists ++ probes_of f lists

-- the pair of two definitions, whatever the types are
abbrev pub pair_of : ℕ → ℕ → List Ty → Pair
pair_of a b ts = record { a = a; b = b; types = ts }

-- a pair is there, or was put in its place
pub data IsNoted (a b : ℕ) (ts : List Ty) (old new : List Pair) : Type 0 where
  was_there : IsThere pair_cmp (pair_of a b ts) old → new ≡ old → IsNoted a b ts old new
  put_there : (i : ℕ) → IsPlaceFor pair_cmp (pair_of a b ts) old i → new ≡ take i old ++ pair_of a b ts ∷ drop i old → IsNoted a b ts old new

-- what a choice adds to the pairs
abbrev pub IsNotedBy : Choice → List Ty → List Pair → List Pair → Type 0
IsNotedBy (C.Method d) ts old new = new ≡ old
IsNotedBy C.None ts old new = new ≡ old
IsNotedBy (C.Ambiguous a b) ts old new = IsNoted a b ts old new

module _ (P : Program) (es : List Event) where
  -- at this probe these two are named
  abbrev pub Names : Probe → ℕ → ℕ → Type 0
  Names q a b = IsAmbiguous P es q.function q.types a b

  -- the pair is named at one of these probes, and at none before it
  pub record IsFirstAt (done : List Probe) (p : Pair) : Type 0 where
    pub before : List Probe
    pub at : Probe
    pub after : List Probe
    pub split : done ≡ before ++ at ∷ after
    pub types_are : at.types ≡ p.types
    pub is_named : Names at p.a p.b
    pub first : (q : Probe) → Contains before q → Names q p.a p.b → ⊥

  -- these are the pairs that are named at these probes, in order
  pub record AreFound (done : List Probe) (pairs : List Pair) : Type 0 where
    pub each : (p : Pair) → Contains pairs p → IsFirstAt done p
    pub all : (q : Probe) (a b : ℕ) → Contains done q → Names q a b → (p : Pair) × Contains pairs p × (p.a ≡ a) × (p.b ≡ b)
    pub rises : IsStrictlySortedBy pair_cmp pairs

-- ---- deletions of sites

-- the last deletion of the signature of a site, of those of its function, made this world
abbrev pub IsEndOf : Program → List Change → ℕ → ℕ → Type 0
IsEndOf P cs s end = (site : Site) × (slice_get P.sites s ≡ Some site) × (dels : List Del) × AreLatestDels (dels_from P site.function 1 (take (length cs) cs)) dels × IsLastDeletion P dels s end

-- those of some sites
pub record AreEnds (P : Program) (cs : List Change) (ends : List (Option ℕ)) : Type 0 where
  pub count : length ends ≡ length P.sites
  pub each : (s end : ℕ) → get_or ends s None ≡ Some end → IsEndOf P cs s end

-- ---- definitions that are not examined

-- of those that are not examined, these are the ones up to a world
pub record AreUnexaminedUpTo (P : Program) (es : List Event) (newest : ℕ) (worlds : List ℕ) : Type 0 where
  pub each : (w : ℕ) → Contains worlds w → IsUnexamined P es w × (w ≤ newest)
  pub all : (w : ℕ) → w ≤ newest → IsUnexamined P es w → Contains worlds w
  pub rises : IsStrictlyIncreasing worlds
