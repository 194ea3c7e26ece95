-- Small scripts of declarations alone, of which the rows are computed.
use Rattle.std.specs.Prelude.{ℕ, pos, codes, List, [], ◌∷◌, Option, Some, None}
use Rattle.jl_typeread.specs.declared.tree.TypeText.{TypeText}
use Rattle.jl_typeread.specs.declared.tree.TypeText.TheVariants as TV
use Rattle.jl_typeread.specs.declared.tree.VarText.{VarText}
use Rattle.jl_typeread.specs.declared.tree.VarText.TheVariants as VV
use Rattle.jl_grammar.specs.declared.tree.Callee.TheVariants as C
use Rattle.jl_grammar.specs.declared.tree.Eval.TheViews as E
use Rattle.jl_grammar.specs.declared.tree.Expr.TheVariants as X
use Rattle.jl_grammar.specs.declared.tree.Head.{Head}
use Rattle.jl_grammar.specs.declared.tree.Item.{Item}
use Rattle.jl_grammar.specs.declared.tree.Item.TheVariants as N
use Rattle.jl_grammar.specs.declared.tree.Param.{Param}
use Rattle.jl_grammar.specs.declared.tree.Param.TheVariants as P
use Rattle.jl_grammar.specs.declared.tree.Script.{Script}

-- a declaration at `at`, which gives this name at `place`
abbrev pub abstract_type : ℕ → ℕ → List ℕ → Item
abstract_type at place name = N.Abstract (record { header = record { at = at; name = record { at = place; bytes = name }; params = []; parent = None } })

-- `struct P`, these parameters, this parent, and `end`
abbrev pub struct_P : List VarText → Option TypeText → Script
struct_P ps parent = record { items = N.Struct (record { header = record { at = 0; name = record { at = 7; bytes = codes "P" }; params = ps; parent = parent }; fields = [] }) ∷ [] }

-- `abstract type A end`
abbrev pub good : Script
good = record { items = abstract_type 0 14 (codes "A") ∷ [] }

-- `abstract type A end`, on two lines
abbrev pub with_two_types : Script
with_two_types = record { items = abstract_type 0 14 (codes "A") ∷ abstract_type 20 34 (codes "A") ∷ [] }

-- `abstract type div end`
abbrev pub with_built_in : Script
with_built_in = record { items = abstract_type 0 14 (codes "div") ∷ [] }

-- `abstract type Int64 end`
abbrev pub with_built_in_type : Script
with_built_in_type = record { items = abstract_type 0 14 (codes "Int64") ∷ [] }

-- `struct P <: R end`
abbrev pub with_unknown_type : Script
with_unknown_type = struct_P [] (Some (TV.Name 12 (codes "R")))

-- `struct P{T, T} end`
abbrev pub with_two_parameters : Script
with_two_parameters = struct_P (VV.Free 9 (codes "T") ∷ VV.Free 12 (codes "T") ∷ []) None

-- `f(a,b,c,d,e,g,h,i,j) = 1`
abbrev pub parameter : ℕ → ℕ → Param
parameter at letter = P.Name (record { at = at; bytes = letter ∷ [] })

abbrev pub nine_head : Head
nine_head = record {
  callee = C.Plain (record { at = 0; bytes = codes "f" });
  params = parameter 2 97 ∷ parameter 4 98 ∷ parameter 6 99 ∷ parameter 8 100 ∷ parameter 10 101 ∷ parameter 12 103 ∷ parameter 14 104 ∷ parameter 16 105 ∷ parameter 18 106 ∷ [];
  vars = [];
}

abbrev pub with_nine_parameters : Script
with_nine_parameters = record { items = N.Method (E.Short 0 nine_head (X.Number 23 (pos 1))) ∷ [] }
