use Rattle.std.proofs.Common.{sym, subst}
use Rattle.jl_calculus.specs.World.{Selects}
use Rattle.jl_methods.specs.Filters.{IsDefinition, change_in}
use Rattle.jl_causes.proofs.RowLemmas.{known_key, no_site, site_chosen, chosen_definition}
use Rattle.jl_causes.proofs.rows.Rows.chooses_right.Goals as goal

pub choose_for_key-requires-clause-key : goal.choose_for_key-requires-clause-key
choose_for_key-requires-clause-key c =
    let (es, k, h, at, b) = c.requires in
    known_key c.args.ready.now es c.args.self.now c.args.key k h at

pub choose_for_key-requires-clause-index : goal.choose_for_key-requires-clause-index
choose_for_key-requires-clause-index c =
    let (es, k, h, at, b) = c.requires in (es, h.indexed)

pub returns-in_default : goal.returns-in_default
returns-in_default c =
    λ es k h at b. no_site c.args.ready.now es k c.args.site c.args.first c.in_ok-choice.choice (c.in_ok-choice.ensures es k h.indexed at) c.in_default.not-Method

pub site-requires : goal.site-requires
site-requires c =
    let P = c.args.ready.now in
    let (es, k, h, at, b) = c.requires in
    let d = c.in-Method.method in
    subst (λ cs. IsDefinition (change_in cs d)) (sym h.indexed.known_changes)
    (chosen_definition P es k.function k.types c.args.first d (subst (Selects P es k.function k.types c.args.first) c.in-Method.is (c.in_ok-choice.ensures es k h.indexed at)))

pub returns : goal.returns
returns c =
    let P = c.args.ready.now in
    λ es k h at b.
    site_chosen P es k c.args.site c.args.first c.in-Method.method c.site.result (subst (Selects P es k.function k.types c.args.first) c.in-Method.is (c.in_ok-choice.ensures es k h.indexed at)) (c.site.ensures P es h.indexed)
