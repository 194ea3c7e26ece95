-- The definitions that stay when a later one has the same signature.
use Rattle.std.specs.Prelude.{ℕ, ◌≡◌, Bool, false, List, [], ◌∷◌, length, get_or, slice_get}
use Rattle.std.specs.List.{Contains}
use Rattle.jl_program.specs.declared.tree.Program.{Program}
use Rattle.jl_calculus.specs.declared.history.Def.{Def}
use Rattle.jl_calculus.specs.Definitions.{sig_of}

-- the signatures of two definitions are written alike
abbrev pub HasSameSig : Program → Def → Def → Type 0
HasSameSig P d e = sig_of (slice_get P.sites d.site) ≡ sig_of (slice_get P.sites e.site)

module _ (P : Program) where
  -- of a list of definitions the others stay where a later one has the same signature
  pub data AreLatest : List Def → List Def → Type 0 where
    latest_end : AreLatest [] []
    latest_more : (d : Def) (ds es : List Def) → AreLatest ds es → AreLatest (d ∷ ds) (d ∷ es)
    replaced : (d e : Def) (ds es : List Def) → Contains ds e → HasSameSig P d e → AreLatest ds es → AreLatest (d ∷ ds) es

-- so many flags, none of which is set
pub record AreNone (count : ℕ) (flags : List Bool) : Type 0 where
  pub long : length flags ≡ count
  pub none : (n : ℕ) → get_or flags n false ≡ false
