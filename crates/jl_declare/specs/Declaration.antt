-- A declaration as it is read (Julia manual, Types: Abstract Types, Composite Types, Parametric Types).
use Rattle.std.specs.Prelude.{ℕ, ◌&&◌, not, if◌then◌else◌, nat_eq, List, [], ◌∷◌, ◌++◌, map, length}
use Rattle.jl_model.specs.declared.ty.Ty.{Ty}
use Rattle.jl_model.specs.declared.ty.Ty.TheVariants as W
use Rattle.jl_model.specs.declared.ty.Decl.{Decl}
use Rattle.jl_model.specs.declared.ty.DeclKind.{DeclKind}
use Rattle.jl_model.specs.declared.ty.Field.{Field}
use Rattle.jl_model.specs.AllRows.{each_var}
use Rattle.jl_model.specs.Rows.{free}
use Rattle.jl_grammar.specs.declared.tree.Field.{Field as FieldText}
use Rattle.jl_grammar.specs.declared.tree.Header.{Header}
use Rattle.jl_typeread.specs.declared.tree.VarText.{VarText}
use Rattle.jl_written.specs.Reads.{no_reading}
use Rattle.jl_written.specs.Signatures.{all_read, all_bound, option_reads}
use Rattle.jl_declare.specs.declared.read.Heading.{Heading}
use Rattle.jl_declare.specs.declared.read.ReadDecl.{ReadDecl}

-- the names of the fields with their types
abbrev pub fields_of : List FieldText → List Ty → List Field
fields_of [] ts = []
fields_of (f ∷ fs) [] = []
fields_of (f ∷ fs) (t ∷ ts) = record { name = f.name.bytes; ty = t } ∷ fields_of fs ts

-- up to its fields: its parameters are visible from their own place on, and it sees the declarations before it
abbrev pub heading : List Decl → DeclKind → Header → Heading
heading ds k h =
    let s = all_bound ds h.params no_reading in
    let p = option_reads ds h.parent s.vars s.after in
    record { vars = s.vars; own = record { name = h.name.bytes; kind = k; params = s.after.vars; parent = p.ty; fields = [] }; reading = p.after }

-- a field whose type is this variable
abbrev pub field_of : List ℕ → ℕ → Field
field_of name v = record { name = name; ty = W.Var v }

-- What stands for a declaration that is no term: its name, and as many parameters as it has, without bounds, each of them the
-- type of a field.
abbrev pub outline : DeclKind → Header → Decl
outline k h =
    let bs = map (λ (v : VarText). free) h.params in
    record { name = h.name.bytes; kind = k; params = bs; parent = W.Any; fields = each_var (field_of h.name.bytes) 0 bs }

-- In its fields it sees itself too. Each variable that is none of its parameters comes from an argument that is not written,
-- from a bound in braces or from a `where`. With such a variable, or with a name that means no type, it is no term.
abbrev pub declaration : List Decl → DeclKind → Header → List FieldText → ReadDecl
declaration ds k h fields =
    let x = heading ds k h in
    let ts = all_read (ds ++ x.own ∷ []) (map (λ (f : FieldText). f.ty) fields) x.vars x.reading in
    let whole = nat_eq (length ts.after.vars) (length h.params) in
    record { decl = if whole && not ts.after.unknown then record x.own { fields = fields_of fields ts.tys } else outline k h; reading = ts.after; whole = whole }
