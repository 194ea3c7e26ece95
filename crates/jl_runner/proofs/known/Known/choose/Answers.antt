use Rattle.std.proofs.Common.{sym, subst}
use Rattle.jl_world.specs.Views.{Begins}
use Rattle.jl_runner.proofs.AskLemmas.{knowing_met, asked_known, choice_known, definition_known}
use Rattle.jl_runner.proofs.known.Known.choose.Goals as goal

pub invariant_of-self : goal.invariant_of-self
invariant_of-self g c =
    let k = c.self.inside in
    knowing_met k.pass c.select.new.pass k.keys k.first c.select.new.self c.select.ensures.pass (subst (Begins k.pass.seen) (sym c.select.ensures.book) c.select.ensures.seen) c.self.invariant

pub returns-in_err-choice-clause-asked : goal.returns-in_err-choice-clause-asked
returns-in_err-choice-clause-asked g c =
    let k = c.self.inside in
    asked_known g.N.Naming.about c.args.self.now k.pass c.select.new.pass k.first k.site c.self.view_is k.site c.select.new.self c.select.ensures.pass
    (subst (Begins k.pass.seen) (sym c.select.ensures.book) c.select.ensures.seen)

pub site_of-self-inside-requires : goal.site_of-self-inside-requires
site_of-self-inside-requires g c =
    definition_known g.N.Naming.about.program.value c.select.new.self c.args.key.now.function c.args.key.now.types c.args.world c.in_ok-choice.choice c.in_ok-choice.ensures.choice

pub invariant_of-self-2 : goal.invariant_of-self-2
invariant_of-self-2 g c =
    let k = c.self.inside in
    knowing_met k.pass c.select.new.pass k.keys k.first c.select.new.self c.select.ensures.pass (subst (Begins k.pass.seen) (sym c.select.ensures.book) c.select.ensures.seen) c.self.invariant

pub returns-clause-asked : goal.returns-clause-asked
returns-clause-asked g c =
    let k = c.self.inside in
    asked_known g.N.Naming.about c.args.self.now k.pass c.select.new.pass k.first k.site c.self.view_is c.site_of-self-inside.result c.select.new.self c.select.ensures.pass
    (subst (Begins k.pass.seen) (sym c.select.ensures.book) c.select.ensures.seen)

pub returns-clause-right : goal.returns-clause-right
returns-clause-right g c =
    let k = c.self.inside in
    choice_known g.N.Naming.about c.args.self.now k.pass c.select.new.pass k.first k.site c.self.view_is c.select.new.self c.args.key.now c.args.world c.site_of-self-inside.result c.in_ok-choice.choice
    c.select.ensures.pass (subst (Begins k.pass.seen) (sym c.select.ensures.book) c.select.ensures.seen) c.requires.world c.in_ok-choice.ensures.choice c.in_ok-choice.ensures.kept c.site_of-self-inside.ensures
