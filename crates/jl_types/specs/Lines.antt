-- The lines of ancestors that a table keeps.
use Rattle.std.specs.Prelude.{◌≡◌, List, [], map}
use Rattle.jl_model.specs.declared.ty.Decl.{Decl}
use Rattle.jl_model.specs.Ancestors as model
use Rattle.jl_model.specs.Ancestors.{lines_after}
use Rattle.jl_types.specs.declared.ancestor.Ancestor.{Ancestor}
use Rattle.jl_types.specs.declared.ancestor.Entry.{Entry}

abbrev pub ancestor : Ancestor → model.Ancestor
ancestor a = record { name = a.name; args = a.args }

abbrev pub line_in : List Ancestor → List model.Ancestor
line_in = map ancestor

abbrev pub decls_in : List Entry → List Decl
decls_in = map (λ e. e.decl)

abbrev pub lines_in : List Entry → List (List model.Ancestor)
lines_in = map (λ e. line_in e.line)

-- each line is that of its declaration
abbrev pub HasLines : List Entry → Type 0
HasLines es = lines_in es ≡ lines_after [] (decls_in es)
