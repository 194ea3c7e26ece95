use Rattle.std.proofs.Common.{sym, subst, refl, [], Option, Some}
use Rattle.jl_calculus.specs.declared.step.Step.TheVariants as St
use Rattle.jl_calculus.specs.Core as C
use Rattle.jl_core.specs.Kept.{core_of, AreWords}
use Rattle.jl_core.specs.State.{MayMake}
use Rattle.jl_core.proofs.KeepLemmas.{core_same, next}
use Rattle.jl_core.proofs.state.Core.open.Goals as goal

pub invariant_of-self : goal.invariant_of-self
invariant_of-self c =
    let a = c.self.inside in
    let may = subst (λ s. MayMake s (St.Open c.args.task c.args.change)) (sym c.self.view_is) c.requires in
    next _ _ (core_of a) _ c.self.invariant (St.Open c.args.task c.args.change) _ _ may
    (core_same _ (C.with_opened (core_of a) (Some (record { task = c.args.task; change = c.args.change; cut = [] }))) refl refl
    (λ i. Some (record { task = c.args.task; change = c.args.change; cut = c.clear.ensures.items i })))
    (subst (λ cut. AreWords a.program a.events.items cut a.words.items) (sym c.clear.ensures.items)
    (subst (λ (x : Option C.Opened). AreWords a.program a.events.items (C.cut_for x) a.words.items) may.free.closed c.self.invariant.words_told))
