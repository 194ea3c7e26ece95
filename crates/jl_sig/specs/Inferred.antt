-- The structs whose inferred constructors a program calls, and the signatures that are kept of their fields.
use Rattle.std.specs.Prelude.{ℕ, ◌≡◌, ◌<◌, Bool, true, false, nat_eq, List, length, get_or, Option, None, Some}
use Rattle.std.specs.List.{flat_map, list_any}
use Rattle.jl_model.specs.declared.ty.Decl.{Decl}
use Rattle.jl_model.specs.SigRefusals.{TypeLimit}
use Rattle.jl_program.specs.declared.tree.Site.{Site}
use Rattle.jl_program.specs.Gathered.{of_expr, own_struct}
use Rattle.jl_sig.specs.declared.sig.Sig.{Sig}
use Rattle.jl_sig.specs.Fields.{fields_of}
use Rattle.jl_sig.specs.Prepared.{IsSigOf}
use Rattle.jl_sig.specs.SigParts.{written_of}

-- those that the bodies of sites call
abbrev pub in_bodies : List Site → List ℕ
in_bodies sites = flat_map (λ site. of_expr own_struct site.body) sites

-- whether a number is one of these
abbrev pub is_one_of : List ℕ → ℕ → Bool
is_one_of called k = list_any (nat_eq k) called

-- of each type, whether it is called
pub record AreMarks (ds : List Decl) (called : List ℕ) (marks : List Bool) : Type 0 where
  pub long : length marks ≡ length ds
  pub each : (k : ℕ) → k < length ds → get_or marks k false ≡ is_one_of called k

-- the signature of the fields of a type is small
abbrev pub IsSmall : List Decl → ℕ → Type 0
IsSmall ds k = TypeLimit ds (fields_of ds k) → ⊥

-- that of each type that is called
abbrev pub AreSmall : List Decl → List ℕ → Type 0
AreSmall ds called = (k : ℕ) → is_one_of called k ≡ true → IsSmall ds k

-- what is kept for a type: of one that is called the signature of its fields
abbrev pub IsFieldSig : List Decl → Bool → ℕ → Option Sig → Type 0
IsFieldSig ds is_called k None = is_called ≡ false
IsFieldSig ds is_called k (Some g) = (is_called ≡ true) × (written_of g ≡ fields_of ds k) × IsSigOf ds g

-- for each type what is kept for it
pub record AreFieldSigs (ds : List Decl) (called : List ℕ) (sigs : List (Option Sig)) : Type 0 where
  pub long : length sigs ≡ length ds
  pub each : (k : ℕ) (d : Option Sig) → k < length sigs → IsFieldSig ds (is_one_of called k) k (get_or sigs k d)
