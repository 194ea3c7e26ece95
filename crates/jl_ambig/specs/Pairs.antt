-- The pairs of definitions between which calls of a history's newest world are ambiguous, and the definitions that are not examined (Julia
-- manual, Methods: Method Ambiguities).
use Rattle.std.specs.Prelude.{ℕ, ◌≡◌, ◌<◌, List, length, slice_get}
use Rattle.std.specs.List.{Contains}
use Rattle.std.specs.List.Sorted.{IsStrictlySortedBy, IsStrictlyIncreasing}
use Rattle.std.specs.Ordering.{nat_cmp, ordering_then}
use Rattle.std.specs.declared.cmp.Ordering.{Ordering}
use Rattle.jl_model.specs.declared.ty.Ty.{Ty}
use Rattle.jl_program.specs.declared.choice.Choice.TheVariants as C
use Rattle.jl_program.specs.declared.tree.Program.{Program}
use Rattle.jl_calculus.specs.declared.history.Def.{Def}
use Rattle.jl_calculus.specs.declared.history.Event.{Event}
use Rattle.jl_calculus.specs.Definitions.{sig_of, IsStanding}
use Rattle.jl_calculus.specs.World.{world_of, Selects}
use Rattle.jl_ambig.specs.declared.noting.Pair.{Pair}
use Rattle.jl_ambig.specs.declared.probing.TheConstants.{MOST_COMPONENTS}
use Rattle.jl_ambig.specs.Probes.{AreProbeTypes, IsProbe, IsEarlier}

-- by the first definition, and then by the second
abbrev pub pair_cmp : Pair → Pair → Ordering
pair_cmp p q = ordering_then (nat_cmp p.a q.a) (nat_cmp p.b q.b)

module _ (P : Program) (es : List Event) where
  -- a call of a function with arguments of these types in the newest world is ambiguous between these definitions
  abbrev pub IsAmbiguous : ℕ → List Ty → ℕ → ℕ → Type 0
  IsAmbiguous f ts a b = Selects P es f ts (world_of es) (C.Ambiguous a b)

  -- the pair is named at a probe, and at none that comes before
  pub record IsPair (types : List Ty) (p : Pair) : Type 0 where
    pub function : ℕ
    pub probe : IsProbe P es types function p.types
    pub is_named : IsAmbiguous function p.types p.a p.b
    pub first : (us : List Ty) → IsProbe P es types function us → IsAmbiguous function us p.a p.b → IsEarlier us p.types → ⊥

  -- these are the pairs that are named at probes, each once, by the first definition and then by the second
  pub record ArePairs (pairs : List Pair) : Type 0 where
    pub types : List Ty
    pub probes : AreProbeTypes P es types
    pub each : (p : Pair) → Contains pairs p → IsPair types p
    pub all : (f : ℕ) (ts : List Ty) (a b : ℕ) → IsProbe P es types f ts → IsAmbiguous f ts a b → (p : Pair) × Contains pairs p × (p.a ≡ a) × (p.b ≡ b)
    pub rises : IsStrictlySortedBy pair_cmp pairs

  -- a definition that stands in the newest world has more components than probes have
  pub record IsUnexamined (world : ℕ) : Type 0 where
    pub function : ℕ
    pub def : Def
    pub stands : IsStanding P es function (world_of es) def
    pub world_is : def.world ≡ world
    pub many : MOST_COMPONENTS < length (sig_of (slice_get P.sites def.site)).parts

  -- these are the definitions that are not examined, in order
  pub record AreUnexamined (worlds : List ℕ) : Type 0 where
    pub each : (w : ℕ) → Contains worlds w → IsUnexamined w
    pub all : (w : ℕ) → IsUnexamined w → Contains worlds w
    pub rises : IsStrictlyIncreasing worlds
