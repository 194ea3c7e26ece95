use Rattle.std.proofs.Common.{drop}
use Rattle.jl_declare.specs.Declarations.{Declaring, declaring_of, no_declaration, Declares, HasAllowed}
use Rattle.jl_declare.proofs.declarations.declarations.Given as goal

abbrev pub invariant-loop-item : goal.invariant-loop-item
invariant-loop-item l = record {
  declared : (d : Declaring) → Declares (drop l.item-index l.items) (declaring_of l.state) d → Declares l.items no_declaration d;
  table : HasAllowed l.state;
}
