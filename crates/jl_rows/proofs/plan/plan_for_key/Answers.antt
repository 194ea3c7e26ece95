use Rattle.std.proofs.Common.{sym, subst, refl}
use Rattle.jl_program.specs.declared.choice.Choice.{Choice}
use Rattle.jl_program.specs.declared.tree.Program.{Program}
use Rattle.jl_program.specs.Valid.{IsValid}
use Rattle.jl_program.specs.declared.choice.Choice.TheVariants.{Method}
use Rattle.jl_calculus.specs.World.{Selects}
use Rattle.jl_methods.specs.Indexed.{IsIndexOf}
use Rattle.jl_rows.specs.declared.plan.RowPlan.TheVariants.{NoMethod}
use Rattle.jl_rows.specs.Plans.{IsRowPlan}
use Rattle.jl_rows.proofs.PlanLemmas.{plan_made}
use Rattle.jl_rows.proofs.plan.plan_for_key.Goals as goal

pub choose_for_key-requires-clause-index : goal.choose_for_key-requires-clause-index
choose_for_key-requires-clause-index g c =
    let es = c.args.book.now.events in
    (es, subst (λ (P : Program). IsIndexOf P es c.args.index.now) (sym c.requires.program) c.requires.index)

pub plan_row-row-requires-clause-valid : goal.plan_row-row-requires-clause-valid
plan_row-row-requires-clause-valid g c = subst IsValid c.requires.program c.valid.ensures

pub plan_row-row-requires-clause-choice : goal.plan_row-row-requires-clause-choice
plan_row-row-requires-clause-choice g c =
    let es = c.args.book.now.events in
    λ k at.
    subst (λ (P : Program). Selects P es k.function k.types c.args.world (Method c.in-Method.definition)) c.requires.program
    (subst (λ (o : Choice). Selects c.args.ready.now es k.function k.types c.args.world o) c.in-Method.is
    (c.in_ok-choice.ensures es k (subst (λ (P : Program). IsIndexOf P es c.args.index.now) (sym c.requires.program) c.requires.index) at))

pub returns-in-Method-clause-plan : goal.returns-in-Method-clause-plan
returns-in-Method-clause-plan g c =
    plan_made g.N.Naming.about c.args.ready.now c.args.book.now.events c.args.index.now c.args.key c.args.world (Method c.in-Method.definition) c.plan_row-row.result c.requires.program c.requires.index c.requires.key
    (λ es k h at. subst (λ (o : Choice). Selects c.args.ready.now es k.function k.types c.args.world o) c.in-Method.is (c.in_ok-choice.ensures es k h at))
    c.plan_row-row.ensures.plan

pub returns-in-None-clause-plan : goal.returns-in-None-clause-plan
returns-in-None-clause-plan g c =
    plan_made g.N.Naming.about c.args.ready.now c.args.book.now.events c.args.index.now c.args.key c.args.world _ _ c.requires.program c.requires.index c.requires.key c.in_ok-choice.ensures
    (λ k named. subst (λ o. IsRowPlan g.N.Naming.about c.args.book.now.events c.args.key k c.args.world o NoMethod) (sym c.in-None.is) refl)

pub returns-in-Ambiguous-clause-plan : goal.returns-in-Ambiguous-clause-plan
returns-in-Ambiguous-clause-plan g c =
    plan_made g.N.Naming.about c.args.ready.now c.args.book.now.events c.args.index.now c.args.key c.args.world _ _ c.requires.program c.requires.index c.requires.key c.in_ok-choice.ensures
    (λ k named. subst (λ o. IsRowPlan g.N.Naming.about c.args.book.now.events c.args.key k c.args.world o NoMethod) (sym c.in-Ambiguous.is) refl)
