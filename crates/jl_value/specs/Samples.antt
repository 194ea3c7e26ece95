-- The declarations that the tests make.
use Rattle.std.specs.Prelude.{ℕ, codes, List, [], ◌∷◌, ◌++◌}
use Rattle.jl_model.specs.declared.builtin.TheConstants.{INT64}
use Rattle.jl_model.specs.declared.ty.Ty.{Ty}
use Rattle.jl_model.specs.declared.ty.Ty.TheVariants as W
use Rattle.jl_model.specs.declared.ty.Bound.{Bound}
use Rattle.jl_model.specs.declared.ty.Field.{Field}
use Rattle.jl_model.specs.declared.ty.Decl.{Decl}
use Rattle.jl_model.specs.declared.ty.DeclKind.TheVariants.{Struct}
use Rattle.jl_model.specs.Ancestors.{named, builtin_types}
use Rattle.jl_model.specs.Rows.{free}

-- a struct without a parent
abbrev pub struct_decl : List ℕ → List Bound → List Field → Decl
struct_decl name params fields = record { name = name; kind = Struct; params = params; parent = W.Any; fields = fields }

abbrev pub field_of : List ℕ → Ty → Field
field_of name t = record { name = name; ty = t }

-- `struct P; a; b end`
abbrev pub pair_decl : Decl
pair_decl = struct_decl (codes "P") [] (field_of (codes "a") W.Any ∷ field_of (codes "b") W.Any ∷ [])

-- `struct Box{T}; x::T end`
abbrev pub box_decl : Decl
box_decl = struct_decl (codes "Box") (free ∷ []) (field_of (codes "x") (W.Var 0) ∷ [])

-- `struct Square; side::Int64 end`
abbrev pub square_decl : Decl
square_decl = struct_decl (codes "Square") [] (field_of (codes "side") (named INT64) ∷ [])

-- `struct Wood end`
abbrev pub wood_decl : Decl
wood_decl = struct_decl (codes "Wood") [] []

-- `struct Part{S, M}; shape::S; made::M end`
abbrev pub part_decl : Decl
part_decl = struct_decl (codes "Part") (free ∷ free ∷ []) (field_of (codes "shape") (W.Var 0) ∷ field_of (codes "made") (W.Var 1) ∷ [])

-- the built-in types, and these
abbrev pub sample_types : List Decl
sample_types = builtin_types ++ pair_decl ∷ box_decl ∷ square_decl ∷ wood_decl ∷ part_decl ∷ []
