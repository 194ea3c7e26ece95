use Rattle.std.proofs.Common.{sym, subst, OnOk, List}
use Rattle.jl_grammar.specs.declared.tree.Field.{Field}
use Rattle.jl_grammar.specs.declared.tree.Item.{Item}
use Rattle.jl_model.specs.declared.ty.DeclKind.TheVariants.{Struct}
use Rattle.jl_declare.specs.Declarations.{declaring_of, IsDeclared, DeclaresOne}
use Rattle.jl_declare.proofs.declarations.add_item.Goals as goal

pub returns-in-Struct-clause-declared : goal.returns-in-Struct-clause-declared
returns-in-Struct-clause-declared c =
    subst (λ (z : Item). OnOk c.add-in-Struct.result (DeclaresOne z (declaring_of c.args.state.now) (declaring_of c.add-in-Struct.new.state))) (sym c.in-Struct.is)
    (subst (λ (z : List Field). OnOk c.add-in-Struct.result (IsDeclared Struct c.in-Struct.text.header z (declaring_of c.args.state.now) (declaring_of c.add-in-Struct.new.state))) c.as_slice.ensures c.add-in-Struct.ensures.declared)
