use Rattle.std.proofs.Common.{◌∙◌, refl, ap, subst, sym, List, ◌∷◌, drop, ◌+◌}
use Rattle.std.proofs.lemmas.List.{drop_more}
use Rattle.std.proofs.Math.ListN.{drop_of_length-le}
use Rattle.jl_grammar.specs.declared.tree.Item.{Item}
use Rattle.jl_declare.specs.Declarations.{declaring_of, Declares}
use Rattle.jl_declare.proofs.Allowed.{all_valid}
use Rattle.jl_declare.proofs.declarations.declarations.Goals as goal

pub loop-item-preserved : goal.loop-item-preserved
loop-item-preserved c =
    let whole = drop_more c.args.items.now c.loop-item.item-index c.item-item.result c.loop-item-test.true ∙ ap (λ x. x ∷ drop (c.loop-item.item-index + 1) c.args.items.now) (sym c.item-item.is) in
    record {
      declared = λ d h. c.loop-item.invariant.declared d (subst (λ (z : List Item). Declares z (declaring_of c.loop-item.state) d) (sym whole) (declaring_of c.add_item.new.state, c.in_ok-add_item.ensures.declared, h));
      table = c.in_ok-add_item.ensures.table;
    }

pub returns-clause-valid : goal.returns-clause-valid
returns-clause-valid c =
    let d = declaring_of c.loop-item.state in
    let end = subst (λ (z : List Item). Declares z d d) (sym (drop_of_length-le c.args.items.now c.loop-item-test.false)) refl in
    λ none. all_valid c.args.items.now c.loop-item.state (c.loop-item.invariant.declared d end) c.loop-item.invariant.table c.valid.ensures none
