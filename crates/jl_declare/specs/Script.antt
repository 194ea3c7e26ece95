-- What is known of a script before its statements are read.
use Rattle.std.specs.Prelude.{List}
use Rattle.jl_model.specs.declared.ty.Decl.{Decl}
use Rattle.jl_grammar.specs.declared.tree.Item.{Item}
use Rattle.jl_resolve_forms.specs.declared.known.Known.{Known}
use Rattle.jl_resolve_forms.specs.Defined.{methods_of, types_of, functions_of}

-- its declarations, its functions, and the names that it gives to functions and types
abbrev pub known_of : List Item → List Decl → Known
known_of items ds = record { decls = ds; functions = functions_of (methods_of items); methods = methods_of items; types = types_of items }
