use Rattle.std.proofs.Common.{◌≡◌, ◌∙◌, ◌++◌, ◌∷◌, [], ap, sym, subst, refl, arith, map, slice_get}
use Rattle.jl_calculus.specs.declared.step.Step.TheVariants as St
use Rattle.jl_calculus.specs.Legal.{IsKeyOf}
use Rattle.jl_calculus.specs.Ranges.{keys_of}
use Rattle.jl_calculus.specs.Words.{link_of}
use Rattle.jl_calculus.specs.World.{world_of}
use Rattle.jl_core.specs.Flags.{IsRangeOrNone}
use Rattle.jl_core.specs.Kept.{core_of, state_of}
use Rattle.jl_core.specs.State.{State, MayMake}
use Rattle.jl_core.specs.View.{row_of}
use Rattle.jl_core.proofs.KeepLemmas.{made_from, there}
use Rattle.jl_core.proofs.FillLemmas.{words_of, fill_key, fill_high, fill_few, fill_chosen, has_filled, fill_next}
use Rattle.jl_core.proofs.state.Core.fill.Goals as goal

pub range_of-requires-clause-key : goal.range_of-requires-clause-key
range_of-requires-clause-key c =
    let a = c.self.inside in
    let may = subst (λ s. MayMake s (St.Fill c.args.task c.args.key c.args.world)) (sym c.self.view_is) c.requires.enabled in
    let named = ap (λ es. slice_get (keys_of es) c.args.key) (sym c.as_slice.ensures.value) ∙ c.in-Some.ensures in
    let same : c.args.ready.now ≡ a.program = c.requires.program ∙ sym (ap (λ (s : State). s.program) c.self.view_is) in
    subst (λ P. IsKeyOf P c.in-Some.named.now) (sym same) (fill_key _ _ (core_of a) _ c.self.invariant c.args.task c.args.key c.args.world may c.in-Some.named.now named)

pub range_of-requires-clause-high : goal.range_of-requires-clause-high
range_of-requires-clause-high c =
    let a = c.self.inside in
    let may = subst (λ s. MayMake s (St.Fill c.args.task c.args.key c.args.world)) (sym c.self.view_is) c.requires.enabled in
    let l = fill_high _ _ (core_of a) _ c.self.invariant c.args.task c.args.key c.args.world may in
    omega (arith, l, ap world_of c.as_slice-2.ensures.value)

pub range_of-requires-clause-few : goal.range_of-requires-clause-few
range_of-requires-clause-few c =
    let a = c.self.inside in
    let may = subst (λ s. MayMake s (St.Fill c.args.task c.args.key c.args.world)) (sym c.self.view_is) c.requires.enabled in
    let l = fill_few _ _ (core_of a) _ c.self.invariant c.args.task c.args.key c.args.world may in
    omega (arith, l, ap world_of c.as_slice-2.ensures.value)

pub returns-in_default-found-clause-made : goal.returns-in_default-found-clause-made
returns-in_default-found-clause-made c =
    let a = c.self.inside in
    let may = subst (λ s. MayMake s (St.Fill c.args.task c.args.key c.args.world)) (sym c.self.view_is) c.requires.enabled in
    let named = ap (λ es. slice_get (keys_of es) c.args.key) (sym c.as_slice.ensures.value) ∙ c.in-Some.ensures in
    let same : c.args.ready.now ≡ a.program = c.requires.program ∙ sym (ap (λ (s : State). s.program) c.self.view_is) in
    let told : IsRangeOrNone a.program a.events.items c.in-Some.named.now c.args.world c.in_ok-found.found =
    subst (λ P. IsRangeOrNone P a.events.items c.in-Some.named.now c.args.world c.in_ok-found.found) same
    (subst (λ es. IsRangeOrNone c.args.ready.now es c.in-Some.named.now c.args.world c.in_ok-found.found) c.as_slice-2.ensures.value c.in_ok-found.ensures) in
    absurd (fill_chosen _ _ (core_of a) _ c.self.invariant c.args.task c.args.key c.args.world may c.in-Some.named.now c.in_ok-found.found named c.in_default-found.is told)

pub add_event-requires : goal.add_event-requires
add_event-requires c =
    let a = c.self.inside in
    let may = subst (λ s. MayMake s (St.Fill c.args.task c.args.key c.args.world)) (sym c.self.view_is) c.requires.enabled in
    there _ _ (core_of a) _ c.self.invariant a.tasks.items c.args.task refl may.free.running

pub invariant_of-self-2 : goal.invariant_of-self-2
invariant_of-self-2 c =
    let a = c.self.inside in
    let may = subst (λ s. MayMake s (St.Fill c.args.task c.args.key c.args.world)) (sym c.self.view_is) c.requires.enabled in
    let named = ap (λ es. slice_get (keys_of es) c.args.key) (sym c.as_slice.ensures.value) ∙ c.in-Some.ensures in
    let same : c.args.ready.now ≡ a.program = c.requires.program ∙ sym (ap (λ (s : State). s.program) c.self.view_is) in
    let told : IsRangeOrNone a.program a.events.items c.in-Some.named.now c.args.world c.in_ok-found.found =
    subst (λ P. IsRangeOrNone P a.events.items c.in-Some.named.now c.args.world c.in_ok-found.found) same
    (subst (λ es. IsRangeOrNone c.args.ready.now es c.in-Some.named.now c.args.world c.in_ok-found.found) c.as_slice-2.ensures.value c.in_ok-found.ensures) in
    let range = c.in-Some-found.range in
    fill_next _ _ (core_of a) _ c.self.invariant c.args.task c.args.key c.args.world may c.in-Some.named.now range _ c.link_of-next.result named
    (subst (IsRangeOrNone a.program a.events.items c.in-Some.named.now c.args.world) c.in-Some-found.is told) c.in_ok-add_event.ensures.events c.in_ok-add_event.ensures.tasks refl
    (c.link_of-next.ensures ∙ ap (λ ws. link_of c.args.key (map row_of ws)) (c.as_slice-3.ensures.value ∙ c.in_ok-reserve.ensures.items)) _
    (c.push_reserved.ensures.items ∙ ap (λ ws. ws ++ words_of c.args.key range c.link_of-next.result ∷ []) c.in_ok-reserve.ensures.items)

pub returns-clause-made : goal.returns-clause-made
returns-clause-made c =
    let a = c.self.inside in
    let may = subst (λ s. MayMake s (St.Fill c.args.task c.args.key c.args.world)) (sym c.self.view_is) c.requires.enabled in
    let named = ap (λ es. slice_get (keys_of es) c.args.key) (sym c.as_slice.ensures.value) ∙ c.in-Some.ensures in
    let same : c.args.ready.now ≡ a.program = c.requires.program ∙ sym (ap (λ (s : State). s.program) c.self.view_is) in
    let told : IsRangeOrNone a.program a.events.items c.in-Some.named.now c.args.world c.in_ok-found.found =
    subst (λ P. IsRangeOrNone P a.events.items c.in-Some.named.now c.args.world c.in_ok-found.found) same
    (subst (λ es. IsRangeOrNone c.args.ready.now es c.in-Some.named.now c.args.world c.in_ok-found.found) c.as_slice-2.ensures.value c.in_ok-found.ensures) in
    made_from (state_of a) c.args.self.now _ (St.Fill c.args.task c.args.key c.args.world) c.self.view_is refl refl
    (has_filled _ _ (core_of a) _ c.self.invariant c.args.task c.args.key c.args.world may c.in-Some.named.now c.in-Some-found.range _ named
    (subst (IsRangeOrNone a.program a.events.items c.in-Some.named.now c.args.world) c.in-Some-found.is told) c.in_ok-add_event.ensures.events c.in_ok-add_event.ensures.tasks refl)
