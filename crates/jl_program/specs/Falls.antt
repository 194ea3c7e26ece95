use Rattle.std.specs.Prelude.{ℕ, ◌≤◌, max, List, [], ◌∷◌, map}
use Rattle.std.proofs.Common.{arith}
use denote.Param.Weighed.{most}
use Rattle.jl_program.specs.declared.value.Value.{Value}
use Rattle.jl_program.specs.declared.value.Value.TheVariants.{Int, Bool, Nothing, Task, Tuple, Struct}
use Rattle.jl_program.specs.declared.value.Values.TheDeep.{deep-Value, deep-Items}
use Rattle.jl_program.specs.declared.value.Items.{Items}
use Rattle.jl_program.specs.declared.value.Items.TheVariants.{One, Two, Many}
use Rattle.jl_program.specs.Members.{members}
use Rattle.jl_program.specs.declared.datum.Datum.TheOpen as T
use Rattle.jl_program.specs.declared.datum.Datum.TheFolds.{fold-roll-Datum}
use Rattle.jl_program.specs.Meaning.{datum}
use Rattle.jl_program.specs.Measures.{nodes, nodes_all, nodes_step}

deep-le : (v : Value) → deep-Value v ≤ nodes (datum v)
deep-le (Tuple c) = omega (arith, fold-roll-Datum ℕ nodes_step (T.Tuple c.ty c.parts))
deep-le (Struct c) = omega (arith, fold-roll-Datum ℕ nodes_step (T.Struct c.ty c.parts))
deep-le (Int n) = omega arith
deep-le (Bool n) = omega arith
deep-le Nothing = omega arith
deep-le (Task n) = omega arith

falls_all : (vs : List Value) → max (most deep-Value vs) 0 ≤ nodes_all (map datum vs)
falls_all [] = omega arith
falls_all (v ∷ vs) = omega (arith, deep-le v, falls_all vs)

pub falls : (i : Items) → max (deep-Items i) 0 ≤ nodes_all (map datum (members i))
falls (One vs) = omega (arith, falls_all vs)
falls (Two vs) = omega (arith, falls_all vs)
falls (Many vs) = omega (arith, falls_all vs.items)
