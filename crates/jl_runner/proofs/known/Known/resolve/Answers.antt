use Rattle.std.proofs.Common.{sym, subst}
use Rattle.jl_world.proofs.Growth.{begins_trans}
use Rattle.jl_calculus.specs.Learnt.{IsNamed}
use Rattle.jl_runner.specs.declared.known.Knowing.{Knowing}
use Rattle.jl_runner.proofs.AskLemmas.{knowing_met, asked_known, choice_known, definition_known}
use Rattle.jl_runner.proofs.BookLemmas.{resolved_grows}
use Rattle.jl_runner.proofs.known.Known.resolve.Goals as goal

pub invariant_of-self : goal.invariant_of-self
invariant_of-self g c =
    let k = c.self.inside in
    let b = resolved_grows c.resolve.result g.N.Naming.about c.args.book.now c.resolve.new.self c.args.miss.key c.args.miss.world c.resolve.ensures.resolved c.resolve.ensures.refused in
    knowing_met k.pass c.resolve.new.pass k.keys k.first c.resolve.new.self c.resolve.ensures.pass (begins_trans k.pass.seen c.args.book.now c.resolve.new.self c.resolve.ensures.seen b) c.self.invariant

pub returns-in_err-resolved-clause-asked : goal.returns-in_err-resolved-clause-asked
returns-in_err-resolved-clause-asked g c =
    let k = c.self.inside in
    let b = resolved_grows c.resolve.result g.N.Naming.about c.args.book.now c.resolve.new.self c.args.miss.key c.args.miss.world c.resolve.ensures.resolved c.resolve.ensures.refused in
    asked_known g.N.Naming.about c.args.self.now k.pass c.resolve.new.pass k.first k.site c.self.view_is k.site c.resolve.new.self c.resolve.ensures.pass
    (begins_trans k.pass.seen c.args.book.now c.resolve.new.self c.resolve.ensures.seen b)

pub site_of-self-inside-requires : goal.site_of-self-inside-requires
site_of-self-inside-requires g c =
    let named = subst (λ (u : Knowing). IsNamed u.view.seen c.args.miss.key c.args.key.now) (sym c.self.view_is) c.requires.named in
    definition_known g.N.Naming.about.program.value c.resolve.new.self c.args.key.now.function c.args.key.now.types c.args.miss.world c.in_ok-resolved.resolved.choice (c.in_ok-resolved.ensures.choice c.args.key.now named)

pub invariant_of-self-2 : goal.invariant_of-self-2
invariant_of-self-2 g c =
    let k = c.self.inside in
    let b = resolved_grows c.resolve.result g.N.Naming.about c.args.book.now c.resolve.new.self c.args.miss.key c.args.miss.world c.resolve.ensures.resolved c.resolve.ensures.refused in
    knowing_met k.pass c.resolve.new.pass k.keys k.first c.resolve.new.self c.resolve.ensures.pass (begins_trans k.pass.seen c.args.book.now c.resolve.new.self c.resolve.ensures.seen b) c.self.invariant

pub returns-clause-asked : goal.returns-clause-asked
returns-clause-asked g c =
    let k = c.self.inside in
    let b = resolved_grows c.resolve.result g.N.Naming.about c.args.book.now c.resolve.new.self c.args.miss.key c.args.miss.world c.resolve.ensures.resolved c.resolve.ensures.refused in
    asked_known g.N.Naming.about c.args.self.now k.pass c.resolve.new.pass k.first k.site c.self.view_is c.site_of-self-inside.result c.resolve.new.self c.resolve.ensures.pass
    (begins_trans k.pass.seen c.args.book.now c.resolve.new.self c.resolve.ensures.seen b)

pub returns-clause-right : goal.returns-clause-right
returns-clause-right g c =
    let k = c.self.inside in
    let b = resolved_grows c.resolve.result g.N.Naming.about c.args.book.now c.resolve.new.self c.args.miss.key c.args.miss.world c.resolve.ensures.resolved c.resolve.ensures.refused in
    let named = subst (λ (u : Knowing). IsNamed u.view.seen c.args.miss.key c.args.key.now) (sym c.self.view_is) c.requires.named in
    choice_known g.N.Naming.about c.args.self.now k.pass c.resolve.new.pass k.first k.site c.self.view_is c.resolve.new.self c.args.key.now c.args.miss.world c.site_of-self-inside.result
    c.in_ok-resolved.resolved.choice c.resolve.ensures.pass (begins_trans k.pass.seen c.args.book.now c.resolve.new.self c.resolve.ensures.seen b) c.requires.world
    (c.in_ok-resolved.ensures.choice c.args.key.now named) (c.in_ok-resolved.ensures.kept c.args.key.now named) c.site_of-self-inside.ensures
