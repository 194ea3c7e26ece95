use Rattle.std.proofs.Common.{◌≡◌, ◌∙◌, ap, sym, subst, arith, slice_get}
use Rattle.jl_calculus.specs.Legal.{IsKeyOf}
use Rattle.jl_calculus.specs.Ranges.{keys_of}
use Rattle.jl_calculus.specs.World.{world_of}
use Rattle.jl_core.specs.Asked.{IsChoice}
use Rattle.jl_core.specs.Kept.{core_of}
use Rattle.jl_core.specs.State.{State}
use Rattle.jl_core.proofs.AskLemmas.{few_known, choice_there}
use Rattle.jl_core.proofs.EnabledLemmas.{key_proper}
use Rattle.jl_core.proofs.state.Core.choice.Goals as goal

pub select-requires-clause-key : goal.select-requires-clause-key
select-requires-clause-key c =
    let a = c.self.inside in
    let named = ap (λ es. slice_get (keys_of es) c.args.key) (sym c.as_slice-events.ensures.value) ∙ c.in-Some.ensures in
    let same : c.args.ready.now ≡ a.program = c.requires ∙ sym (ap (λ (s : State). s.program) c.self.view_is) in
    subst (λ P. IsKeyOf P c.in-Some.named.now) (sym same) (key_proper _ _ (core_of a) _ c.self.invariant c.args.key c.in-Some.named.now named)

pub select-requires-clause-few : goal.select-requires-clause-few
select-requires-clause-few c =
    let a = c.self.inside in
    omega (arith, few_known _ _ (core_of a) _ c.self.invariant, ap world_of c.as_slice-events.ensures.value)

pub returns : goal.returns
returns c =
    let a = c.self.inside in
    let same : c.args.ready.now ≡ a.program = c.requires ∙ sym (ap (λ (s : State). s.program) c.self.view_is) in
    subst (λ s. IsChoice s.program s.core.events c.args.key c.args.world c.in_ok-choice.choice) c.self.view_is
    (choice_there a.program c.args.ready.now a.events.items c.as_slice-events.result.now c.args.key c.args.world c.in-Some.named.now c.in_ok-choice.choice same c.as_slice-events.ensures.value c.in-Some.ensures
    (omega (arith, c.if-world-world_of.false, c.world_of.ensures)) c.in_ok-choice.ensures)
