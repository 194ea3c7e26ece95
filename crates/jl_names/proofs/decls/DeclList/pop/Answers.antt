use Rattle.std.proofs.Common.{◌∙◌}
use Rattle.jl_names.proofs.DeclLemmas.{pop_own, pop_again, pop_none}
use Rattle.jl_names.proofs.decls.DeclList.pop.Goals as goal

pub invariant_of-self : goal.invariant_of-self
invariant_of-self c =
    pop_none c.self.inside.numbers c.self.inside.decls.items c.truncate.new.self.items c.args.self.now c.len-count.result c.index.result.now c.as_slice.result.now c.find-number.result
    c.self.invariant c.self.view_is (c.len-count.ensures ∙ c.self.inside.decls.ok.0) c.if-count-eq0.false c.index.ensures c.as_slice.ensures c.find-number.ensures c.truncate.ensures.items c.in-None.is

pub invariant_of-self-then-number-last : goal.invariant_of-self-then-number-last
invariant_of-self-then-number-last c =
    pop_own c.self.inside.numbers c.self.inside.decls.items c.truncate.new.self.items c.args.self.now c.len-count.result c.index.result.now c.as_slice.result.now c.find-number.result
    c.self.invariant c.self.view_is (c.len-count.ensures ∙ c.self.inside.decls.ok.0) c.if-count-eq0.false c.index.ensures c.as_slice.ensures c.find-number.ensures c.truncate.ensures.items
    c.pop.new.self c.in-Some.number c.in-Some.is c.if-number-last.true c.pop.ensures

pub invariant_of-self-else-number-last : goal.invariant_of-self-else-number-last
invariant_of-self-else-number-last c =
    pop_again c.self.inside.numbers c.self.inside.decls.items c.truncate.new.self.items c.args.self.now c.len-count.result c.index.result.now c.as_slice.result.now c.find-number.result
    c.self.invariant c.self.view_is (c.len-count.ensures ∙ c.self.inside.decls.ok.0) c.if-count-eq0.false c.index.ensures c.as_slice.ensures c.find-number.ensures c.truncate.ensures.items
    c.in-Some.number c.in-Some.is c.if-number-last.false
