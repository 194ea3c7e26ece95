-- What is kept of a valid program: its table, the signatures of its sites and of its deletion places, and those of the fields of
-- the structs whose inferred constructors it calls.
use Rattle.std.specs.Prelude.{ℕ, ◌≡◌, true, All, List, Option, map}
use Rattle.jl_model.specs.declared.ty.Decl.{Decl}
use Rattle.jl_model.specs.declared.ty.Written.{Written}
use Rattle.jl_program.specs.declared.tree.Delete.{Delete}
use Rattle.jl_program.specs.declared.tree.Program.{Program}
use Rattle.jl_program.specs.declared.tree.Site.{Site}
use Rattle.jl_program.specs.Gathered.{inferred_structs}
use Rattle.jl_program.specs.Scope.{all_types}
use Rattle.jl_program.specs.Valid.{IsValid, IsValidSig}
use Rattle.jl_sig.specs.declared.sig.Sig.{Sig}
use Rattle.jl_sig.specs.Fields.{fields_of}
use Rattle.jl_sig.specs.Inferred.{is_one_of, AreFieldSigs}
use Rattle.jl_sig.specs.Prepared.{IsSigOf}
use Rattle.jl_sig.specs.SigParts.{written_of}

-- the signatures of sites as they are written
abbrev pub sigs_of : List Site → List Written
sigs_of sites = map (λ site. site.sig) sites

-- the signatures of deletion places as they are written
abbrev pub place_sigs : List Delete → List Written
place_sigs places = map (λ place. place.sig) places

abbrev pub HasValidSigs : {X : Type 0} → (X → Written) → List Decl → List X → Type 0
HasValidSigs sig ds xs = All (λ x. IsValidSig ds (sig x)) xs

-- these are what is kept of signatures, one for each
pub record AreSigsOf (ds : List Decl) (ws : List Written) (sigs : List Sig) : Type 0 where
  pub written : map written_of sigs ≡ ws
  pub kept : All (IsSigOf ds) sigs

-- a struct's inferred constructor is called, and this is what is kept of the signature of its fields
pub record HasFieldSig (P : Program) (name : ℕ) (sig : Sig) : Type 0 where
  pub called : is_one_of (inferred_structs P) name ≡ true
  pub written : written_of sig ≡ fields_of (all_types P) name
  pub kept : IsSigOf (all_types P) sig

pub record IsReadied (P : Program) (ds : List Decl) (sites places : List Sig) (fields : List (Option Sig)) : Type 0 where
  pub valid : IsValid P
  pub table : ds ≡ all_types P
  pub sites_kept : AreSigsOf (all_types P) (sigs_of P.sites) sites
  pub places_kept : AreSigsOf (all_types P) (place_sigs P.deletes) places
  pub fields_kept : AreFieldSigs (all_types P) (inferred_structs P) fields
