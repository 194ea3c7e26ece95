use Rattle.std.proofs.Common.{◌∙◌, subst, get_or}
use Rattle.jl_calculus.specs.declared.history.Def.{Def}
use Rattle.jl_calculus.specs.Definitions.{AppliesTo}
use Rattle.jl_choosing.proofs.PickLemmas.{goes_apart, goes_picked, goes_whole, sites_rest}
use Rattle.jl_choosing.proofs.choosing.pick.Goals as goal

pub loop-def-preserved-then-not-branch : goal.loop-def-preserved-then-not-branch
loop-def-preserved-then-not-branch c =
    let P = c.args.ready.now in
    let ts = c.args.tested.now.types in
    let defs = c.args.defs.now in
    let at = c.loop-def.invariant in
    let this : Def = get_or defs c.loop-def.def-index (record { world = 0; site = 0 }) in
    let none = subst (λ ts. AppliesTo P ts this → ⊥) at.types_are (c.in_ok-applies.ensures.none c.if-not-branch.true) in record {
      goes_on = goes_apart P ts defs c.loop-def.those.items c.loop-def.def-index c.loop-def-test.true at.goes_on none;
      sites = sites_rest P ts defs c.loop-def.those.items c.loop-def.def-index c.loop-def-test.true at.sites;
      tested = c.applies.ensures.tested;
      types_are = c.applies.ensures.types ∙ at.types_are;
    }

pub loop-def-preserved : goal.loop-def-preserved
loop-def-preserved c =
    let P = c.args.ready.now in
    let ts = c.args.tested.now.types in
    let defs = c.args.defs.now in
    let at = c.loop-def.invariant in
    let this : Def = get_or defs c.loop-def.def-index (record { world = 0; site = 0 }) in
    let yes = subst (λ ts. AppliesTo P ts this) at.types_are (c.in_ok-applies.ensures.yes c.if-not-branch.false) in record {
      goes_on = goes_picked P ts defs c.loop-def.those.items c.loop-def.def-index c.loop-def-test.true at.goes_on yes c.push.new.self.items c.in_ok-push.ensures.items;
      sites = sites_rest P ts defs c.loop-def.those.items c.loop-def.def-index c.loop-def-test.true at.sites;
      tested = c.applies.ensures.tested;
      types_are = c.applies.ensures.types ∙ at.types_are;
    }

pub returns-clause-picked : goal.returns-clause-picked
returns-clause-picked c = goes_whole c.args.ready.now c.args.tested.now.types c.args.defs.now c.loop-def.those.items c.loop-def.def-index c.loop-def-test.false c.loop-def.invariant.goes_on
