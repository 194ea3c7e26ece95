-- The rows of a signature, as the code builds them.
use Rattle.std.specs.Prelude.{ℕ, ◌%◌, ◌≡◌, ◌<◌, Bool, nat_eq, List, [], ◌∷◌, map, get_or}
use Rattle.std.specs.List.{flat_map, list_any}
use Rattle.jl_model.specs.declared.ty.Ty.{Ty}
use Rattle.jl_model.specs.declared.ty.Ty.TheVariants as W
use Rattle.jl_model.specs.declared.ty.Written.{Written}
use Rattle.jl_model.specs.declared.ty.Decl.{Decl}
use Rattle.jl_model.specs.Kinds as model
use Rattle.jl_model.specs.Kinds.{unused, once, diagonal, bound}
use Rattle.jl_model.specs.Rows.{alts, atoms, high, kind, low, vars_in}
use Rattle.jl_model.specs.Ancestors.{table_of}
use Rattle.jl_model.specs.Subtype.{Table, Equal}
use Rattle.jl_model.specs.Signature.{Both}
use Rattle.jl_model.specs.AllRows.{Above, Listed, each_var, rows_with}
use Rattle.jl_types.specs.Ground.{IsGround}
use Rattle.jl_sig.specs.declared.kind.Kind.{Kind}
use Rattle.jl_sig.specs.declared.row.SigRow.{SigRow}
use Rattle.jl_sig.specs.KindIn.{kind_in}

-- what stands at the covariant places of each variable
abbrev pub placed : List (List Ty) → ℕ → List Ty
placed ps v = get_or ps v []

-- what each diagonal variable may take
abbrev pub picked : List (List Ty) → ℕ → List Ty
picked ps v = get_or ps v (W.Any ∷ [])

-- a variable of this root stands in a type
abbrev pub has_root : ℕ → ℕ → Ty → Bool
has_root width v t = list_any (nat_eq v) (map (λ n. n % width) (vars_in t))

abbrev pub listed : SigRow → Listed
listed r = record { parts = r.parts; chosen = r.chosen }

-- the kinds of all variables
abbrev pub AreKinds : Written → List Kind → Type 0
AreKinds s ks = map kind_in ks ≡ each_var (kind s) 0 s.vars

-- the rows with these parts
abbrev pub rows_from : Written → List (List Ty) → List (List Ty) → List Listed
rows_from s picks = flat_map (rows_with s (picked picks))

-- What stands at the covariant places of a variable of this kind, where us are the alternatives of its upper bound and ps what
-- it may take: nothing for a diagonal one that may take nothing, since it occurs in no row.
abbrev pub place_by : Written → ℕ → model.Kind → List Ty → List Ty → List Ty
place_by s v unused us ps = []
place_by s v once us ps = us
place_by s v diagonal us [] = []
place_by s v diagonal us (p ∷ ps) = W.Var v ∷ []
place_by s v bound us ps = atoms s v 0 us

-- what stands at the covariant places of a variable, where ps are what the diagonal ones may take
abbrev pub place_in : Written → List (List Ty) → ℕ → List Ty
place_in s ps v = place_by s v (kind s v) (alts (high s v)) (picked ps v)

-- what each diagonal variable below m may take
abbrev pub ArePicked : Table → Written → ℕ → List (List Ty) → Type 0
ArePicked n s m ps = (v : ℕ) → v < m → kind s v ≡ diagonal → Above n (low s v) (alts (high s v)) (picked ps v)

-- an alternative as it is written and as it is kept
abbrev pub AreAligned : List Decl → List Ty → List Ty → Type 0
AreAligned ds = Both (λ a c. Equal (table_of ds) a c × IsGround ds c)
