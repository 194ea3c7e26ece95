-- The frames that the stacks are cut into. Each list of a frame is what lies above a place, and what lies below is left to the frames below.
use Rattle.std.specs.Prelude.{ℕ, ◌≤◌, List, [], ◌∷◌, take, drop, reverse, length}
use Rattle.jl_model.specs.declared.ty.Ty.{Ty}
use Rattle.jl_program.specs.declared.value.Value.{Value}
use Rattle.jl_task.specs.declared.point.Frame.{Frame}
use Rattle.jl_task.specs.declared.point.Frame.TheVariants as Fr
use Rattle.jl_frames.specs.declared.flat.Scope.{Scope}
use Rattle.jl_frames.specs.declared.flat.Flat.{Flat}
use Rattle.jl_frames.specs.declared.flat.Flat.TheVariants as L
use Rattle.jl_frames.specs.Held.{Held}

-- the topmost frame first, with the values, the slots, the types and the text below it
abbrev pub split : List Flat → List Value → List Value → List Ty → List ℕ → List Frame
split [] vs ss ts bs = []
split (L.Args from e xs ∷ fs) vs ss ts bs = Fr.Args e.now (drop from vs) xs.now ∷ split fs (take from vs) ss ts bs
split (L.Second from e b ∷ fs) vs ss ts bs = Fr.Args e.now (drop from vs) (b.now ∷ []) ∷ split fs (take from vs) ss ts bs
split (L.Testing e ∷ fs) vs ss ts bs = Fr.Testing e.now ∷ split fs vs ss ts bs
split (L.AfterStmt x xs ∷ fs) vs ss ts bs = Fr.AfterStmt x.now xs.now ∷ split fs vs ss ts bs
split (L.Block base kept ∷ fs) vs ss ts bs = Fr.Block (drop base ss) ∷ split fs vs (take kept ss) ts bs
split (L.AfterItem fresh w x xs ∷ fs) vs ss ts bs = Fr.AfterItem x.now fresh w xs.now ∷ split fs vs ss ts bs
split (L.Evaluated s ∷ fs) vs ss ts bs = Fr.Evaluated (drop s.base ss) (drop s.types_base ts) ∷ split fs vs (take s.kept ss) (take s.types_kept ts) bs
split (L.Showing line begin xs ∷ fs) vs ss ts bs = Fr.Showing (drop begin bs) xs.now line ∷ split fs vs ss ts (take begin bs)
split (L.Body w s k ∷ fs) vs ss ts bs = Fr.Body w k (drop s.base ss) (drop s.types_base ts) ∷ split fs vs (take s.kept ss) (take s.types_kept ts) bs

-- the places of a scope lie within so many slots and so many types
pub record IsScope (s : Scope) (slots types : ℕ) : Type 0 where
  pub base : s.base ≤ slots
  pub kept : s.kept ≤ slots
  pub types_base : s.types_base ≤ types
  pub types_kept : s.types_kept ≤ types

-- what begins above so many slots and so many types
abbrev pub scope_above : ℕ → ℕ → Scope
scope_above slots types = record { base = slots; kept = slots; types_base = types; types_kept = types }

-- the places of the frames lie within so many values, slots, types and bytes of text
abbrev pub Fits : List Flat → ℕ → ℕ → ℕ → ℕ → Type 0
Fits [] values slots types text = Unit {0}
Fits (L.Args from e xs ∷ fs) values slots types text = (from ≤ values) × Fits fs from slots types text
Fits (L.Second from e b ∷ fs) values slots types text = (from ≤ values) × Fits fs from slots types text
Fits (L.Testing e ∷ fs) values slots types text = Fits fs values slots types text
Fits (L.AfterStmt x xs ∷ fs) values slots types text = Fits fs values slots types text
Fits (L.Block base kept ∷ fs) values slots types text = (base ≤ slots) × (kept ≤ slots) × Fits fs values kept types text
Fits (L.AfterItem fresh w x xs ∷ fs) values slots types text = Fits fs values slots types text
Fits (L.Evaluated s ∷ fs) values slots types text = IsScope s slots types × Fits fs values s.kept s.types_kept text
Fits (L.Showing line begin xs ∷ fs) values slots types text = (begin ≤ text) × Fits fs values slots types begin
Fits (L.Body w s k ∷ fs) values slots types text = IsScope s slots types × Fits fs values s.kept s.types_kept text

abbrev pub held_of : List Flat → List Value → List Value → List Ty → List ℕ → ℕ → Scope → ℕ → Held
held_of fs vs ss ts bs from s text_from = record {
  env = drop s.base ss;
  bindings = drop s.types_base ts;
  open_values = drop from vs;
  open_text = drop text_from bs;
  stack = split (reverse fs) (take from vs) (take s.kept ss) (take s.types_kept ts) (take text_from bs);
}

pub record IsHeld (fs : List Flat) (vs : List Value) (ss : List Value) (ts : List Ty) (bs : List ℕ) (from : ℕ) (s : Scope) (text_from : ℕ) : Type 0 where
  pub values : from ≤ length vs
  pub scope : IsScope s (length ss) (length ts)
  pub text : text_from ≤ length bs
  pub frames : Fits (reverse fs) from s.kept s.types_kept text_from
