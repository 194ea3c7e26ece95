-- The types of a declaration as they are read one after another: the bounds of its parameters, its parent, and its fields,
-- which see the declaration itself.
use Rattle.std.specs.Prelude.{◌+◌, nat_lt, List, [], ◌∷◌, ◌++◌, length, Option, IsTrue}
use Rattle.std.specs.List.{flat_map, list_all}
use Rattle.jl_model.specs.declared.ty.Ty.{Ty}
use Rattle.jl_model.specs.declared.ty.Bound.{Bound}
use Rattle.jl_model.specs.declared.ty.Decl.{Decl}
use Rattle.jl_model.specs.Refusals.{bound_types}
use Rattle.jl_model.specs.Rows.{vars_in}
use Rattle.jl_model.specs.Valid.{is_known}
use Rattle.jl_typeread.specs.declared.tree.TypeText.{TypeText}
use Rattle.jl_typeread.specs.declared.tree.VarText.{VarText}
use Rattle.jl_written.specs.declared.reading.Reading.{Reading}
use Rattle.jl_written.specs.Reads.{no_reading}
use Rattle.jl_written.specs.Signatures.{all_bound, all_read, option_reads}

-- what is read of a declaration
pub record Parts : Type 0 where
  pub bounds : List Bound
  pub parent : Ty
  pub fields : List Ty
  pub after : Reading

-- `make` is the declaration without its fields, from its bounds and its parent
abbrev pub read_parts : List Decl → List VarText → Option TypeText → (List Bound → Ty → Decl) → List (Option TypeText) → Parts
read_parts ds params parent make fields =
    let s = all_bound ds params no_reading in
    let p = option_reads ds parent s.vars s.after in
    let ts = all_read (ds ++ make s.after.vars p.ty ∷ []) fields s.vars p.after in
    record { bounds = s.after.vars; parent = p.ty; fields = ts.tys; after = ts.after }

-- they have no variables but the parameters
abbrev pub AreOwnParts : Parts → Type 0
AreOwnParts p = IsTrue (list_all (λ v. nat_lt v (length p.bounds)) (flat_map vars_in (bound_types p.bounds ++ p.parent ∷ p.fields)))

-- they name the types before it, and in the fields itself
pub record AreKnownParts (ds : List Decl) (p : Parts) : Type 0 where
  pub bounds : IsTrue (list_all (is_known (length ds)) (bound_types p.bounds))
  pub parent : IsTrue (is_known (length ds) p.parent)
  pub fields : IsTrue (list_all (is_known (length ds + 1)) p.fields)
