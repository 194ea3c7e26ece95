use Rattle.std.proofs.Common.{◌≡◌, ◌∙◌, ◌↔◌, IsTrue, true, false, ap, sym, subst, arith, slice_get}
use Rattle.jl_calculus.specs.Legal.{IsKeyOf}
use Rattle.jl_calculus.specs.Ranges.{keys_of}
use Rattle.jl_calculus.specs.World.{world_of}
use Rattle.jl_core.specs.Asked.{HasMethod}
use Rattle.jl_core.specs.Flags.{IsRangeOrNone}
use Rattle.jl_core.specs.Kept.{core_of}
use Rattle.jl_core.specs.State.{State}
use Rattle.jl_core.proofs.AskLemmas.{method_there, no_method, few_known}
use Rattle.jl_core.proofs.EnabledLemmas.{yes_where, no_where, key_proper}
use Rattle.jl_core.proofs.state.Core.has_method.Goals as goal

pub range_of-requires-clause-key : goal.range_of-requires-clause-key
range_of-requires-clause-key c =
    let a = c.self.inside in
    let named = ap (λ es. slice_get (keys_of es) c.args.key) (sym c.as_slice-events.ensures.value) ∙ c.in-Some.ensures in
    let same : c.args.ready.now ≡ a.program = c.requires.program ∙ sym (ap (λ (s : State). s.program) c.self.view_is) in
    subst (λ P. IsKeyOf P c.in-Some.named.now) (sym same) (key_proper _ _ (core_of a) _ c.self.invariant c.args.key c.in-Some.named.now named)

pub range_of-requires-clause-few : goal.range_of-requires-clause-few
range_of-requires-clause-few c =
    let a = c.self.inside in
    omega (arith, few_known _ _ (core_of a) _ c.self.invariant, ap world_of c.as_slice-events.ensures.value)

pub returns-in-Some-found : goal.returns-in-Some-found
returns-in-Some-found c =
    let a = c.self.inside in
    let named = ap (λ es. slice_get (keys_of es) c.args.key) (sym c.as_slice-events.ensures.value) ∙ c.in-Some.ensures in
    let same : c.args.ready.now ≡ a.program = c.requires.program ∙ sym (ap (λ (s : State). s.program) c.self.view_is) in
    let told : IsRangeOrNone a.program a.events.items c.in-Some.named.now c.args.world c.in_ok-found.found =
    subst (λ P. IsRangeOrNone P a.events.items c.in-Some.named.now c.args.world c.in_ok-found.found) same
    (subst (λ es. IsRangeOrNone c.args.ready.now es c.in-Some.named.now c.args.world c.in_ok-found.found) c.as_slice-events.ensures.value c.in_ok-found.ensures) in
    subst (λ s. IsTrue true ↔ HasMethod s.program s.core.events c.args.key c.args.world) c.self.view_is
    (yes_where (method_there a.program a.events.items c.args.key c.args.world c.in-Some.named.now c.in-Some-found.field-0 c.in_ok-found.found named c.in-Some-found.is told))

pub returns-in-None : goal.returns-in-None
returns-in-None c =
    let a = c.self.inside in
    let named = ap (λ es. slice_get (keys_of es) c.args.key) (sym c.as_slice-events.ensures.value) ∙ c.in-Some.ensures in
    let same : c.args.ready.now ≡ a.program = c.requires.program ∙ sym (ap (λ (s : State). s.program) c.self.view_is) in
    let told : IsRangeOrNone a.program a.events.items c.in-Some.named.now c.args.world c.in_ok-found.found =
    subst (λ P. IsRangeOrNone P a.events.items c.in-Some.named.now c.args.world c.in_ok-found.found) same
    (subst (λ es. IsRangeOrNone c.args.ready.now es c.in-Some.named.now c.args.world c.in_ok-found.found) c.as_slice-events.ensures.value c.in_ok-found.ensures) in
    subst (λ s. IsTrue false ↔ HasMethod s.program s.core.events c.args.key c.args.world) c.self.view_is
    (no_where (no_method a.program a.events.items c.args.key c.args.world c.in-Some.named.now c.in_ok-found.found named c.in-None.is told))
