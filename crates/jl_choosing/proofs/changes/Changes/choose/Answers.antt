use Rattle.std.proofs.Common.{◌≡◌, ◌∙◌, [], ap, sym, subst, refl, take, get_or, IfOk, List}
use Rattle.jl_program.specs.Scope.{all_types}
use Rattle.jl_calculus.specs.declared.history.Event.{Event}
use Rattle.jl_calculus.specs.World.{changes, Selects}
use Rattle.jl_match.specs.KeptRow.{AreConcrete}
use Rattle.jl_methods.proofs.AppliesLemmas.{concrete_types}
use Rattle.jl_choosing.proofs.ChoiceLemmas.{chosen}
use Rattle.jl_choosing.proofs.FunctionLemmas.{row_in_world}
use Rattle.jl_choosing.proofs.LatestLemmas.{latest_same}
use Rattle.jl_choosing.proofs.PickLemmas.{latest_sites, latest_places}
use Rattle.jl_choosing.proofs.changes.Changes.choose.Goals as goal

pub choose_among-requires-clause-sites : goal.choose_among-requires-clause-sites
choose_among-requires-clause-sites c =
    let d = c.self.inside in
    let f = c.args.key.now.function in
    let w = c.args.world in
    latest_sites d.ready.now f (take w d.changes.items) c.latest_defs-defs.result.now
    (latest_same _ _ c.latest_defs-defs.result.now
    (row_in_world d.ready.now d.changes.items d.methods.items f w (get_or c.deref.result.now f []) c.self.invariant.0 (ap (λ rows. get_or rows f []) (sym c.deref.ensures.value)))
    c.latest_defs-defs.ensures)

pub choose_among-requires-clause-places : goal.choose_among-requires-clause-places
choose_among-requires-clause-places c =
    let d = c.self.inside in
    let f = c.args.key.now.function in
    latest_places d.ready.now f (take c.args.world d.changes.items) c.latest_dels-dels.result.now
    (c.latest_dels-dels.ensures d.ready.now f d.changes.items (ap (λ rows. get_or rows f []) c.deref-2.ensures.value ∙ c.self.invariant.1.each f))

pub choose_among-requires-clause-types : goal.choose_among-requires-clause-types
choose_among-requires-clause-types c =
    let d = c.self.inside in
    let self = c.args.self.now in
    let same = c.self.view_is ∙ c.look_back.ensures in
    subst (AreConcrete (all_types d.ready.now)) (sym c.in_ok-ask.ensures.types)
    (subst (λ v. AreConcrete (all_types v.0) c.args.key.now.types) (sym same) (concrete_types (all_types self.0) c.args.key.now.types c.requires.key.types))

pub returns-clause-choice : goal.returns-clause-choice
returns-clause-choice c =
    let d = c.self.inside in
    let P = d.ready.now in
    let cs = d.changes.items in
    let f = c.args.key.now.function in
    let w = c.args.world in
    let ts = c.args.key.now.types in
    let same = c.self.view_is ∙ c.look_back.ensures in
    let defs = latest_same _ _ c.latest_defs-defs.result.now
    (row_in_world P cs d.methods.items f w (get_or c.deref.result.now f []) c.self.invariant.0 (ap (λ rows. get_or rows f []) (sym c.deref.ensures.value)))
    c.latest_defs-defs.ensures in
    let dels = c.latest_dels-dels.ensures P f cs (ap (λ rows. get_or rows f []) c.deref-2.ensures.value ∙ c.self.invariant.1.each f) in
    subst (λ v. IfOk c.choose_among.result (λ choice. (es : List Event) → take w (changes es) ≡ take w v.1 → Selects v.0 es f ts w choice)) same
    (chosen P cs P f w ts c.ask.new.self.types c.latest_defs-defs.result.now c.latest_dels-dels.result.now refl defs dels c.in_ok-ask.ensures.types c.choose_among.result c.choose_among.ensures.choice)
