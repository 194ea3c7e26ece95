-- Written types and variables, over tokens with their marks.
use Rattle.std.specs.Prelude.{ℕ, List, [], ◌∷◌, ◌≡◌, map}
use Rattle.jl_typeread.specs.declared.tree.TypeText.{TypeText}
use Rattle.jl_typeread.specs.declared.tree.VarText.{VarText}
use Rattle.jl_typeread.specs.Depth.{held_type, held_variables}
use Rattle.jl_typeread.specs.Grammar as G
use Rattle.jl_grammar.specs.declared.state.TypeForm.{TypeForm}
use Rattle.jl_grammar.specs.declared.state.VarsForm.{VarsForm}
use Rattle.jl_grammar.specs.Forms.{type_form, vars_form}
use Rattle.jl_grammar.specs.Texts.{Text, lexemes}

-- a written type, and written variables, with their depth
abbrev pub type_as_read : TypeText → TypeForm
type_as_read t = type_form (held_type t)

abbrev pub vars_as_read : List VarText → VarsForm
vars_as_read vs = vars_form (held_variables vs)

-- type
abbrev pub IsType : TypeText → Text → Type 0
IsType t ts = G.IsType t (lexemes ts)

-- where
abbrev pub IsWhere : List VarText → Text → Type 0
IsWhere vs ts = G.IsWhere vs (lexemes ts)

-- tparams
abbrev pub IsParams : List VarText → Text → Type 0
IsParams vs ts = G.IsHeader vs (lexemes ts)
