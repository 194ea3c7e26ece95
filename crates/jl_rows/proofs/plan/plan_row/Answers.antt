use Rattle.std.proofs.Common.{◌≡◌, ◌∙◌, ap, sym, subst, refl, arith, length, true≢false}
use Rattle.jl_calculus.specs.Legal.{IsKeyOf}
use Rattle.jl_calculus.specs.Ranges.{keys_of, rows_of, Touches}
use Rattle.jl_cache.proofs.Linked.{row_free}
use Rattle.jl_methods.specs.Filters.{change_in, IsDefinition}
use Rattle.jl_methods.specs.Links.{IsNext}
use Rattle.jl_methods.proofs.FunctionLemmas.{all_get}
use Rattle.jl_world.specs.declared.view.BookView.{BookView}
use Rattle.jl_world.proofs.Lists.{there}
use Rattle.jl_rows.specs.Open.{HasRowFrom}
use Rattle.jl_rows.proofs.PlanLemmas.{chosen_definition, from_covers, none_covers, row_for}
use Rattle.jl_rows.proofs.plan.plan_row.Goals as goal

pub span_between-span-requires : goal.span_between-span-requires
span_between-span-requires g c e =
    let P = g.N.Naming.about.program.value in
    let es = c.args.book.now.events in
    let (k, at) = there (keys_of es) c.args.key c.requires.key in
    let next = c.next_touching-next.ensures P es k c.requires.index at in
    let past = (subst (IsNext (λ w. Touches P es w k) c.args.world) e next).0 in
    omega (arith, past)

pub returns-then-has_row_from-clause-plan : goal.returns-then-has_row_from-clause-plan
returns-then-has_row_from-clause-plan g c =
    let P = g.N.Naming.about.program.value in
    let es = c.args.book.now.events in
    λ k named.
    from_covers P c.requires.valid es c.requires.history.stand c.args.key k (all_get (IsKeyOf P) (keys_of es) c.args.key k c.requires.index.proper_keys named) named c.args.world c.span_between-span.result (c.span_between-span.ensures P es k c.args.world c.requires.world.0 (c.last_touching-last.ensures P es k c.requires.index named) (c.next_touching-next.ensures P es k c.requires.index named))
    (c.has_row_from.ensures.found.0 c.if-has_row_from.true)

pub returns-then-linked-rows-clause-plan : goal.returns-then-linked-rows-clause-plan
returns-then-linked-rows-clause-plan g c =
    let P = g.N.Naming.about.program.value in
    let es = c.args.book.now.events in
    λ k named. (
      none_covers P c.requires.valid es c.requires.history.stand c.args.key k (all_get (IsKeyOf P) (keys_of es) c.args.key k c.requires.index.proper_keys named) named c.args.world c.span_between-span.result (c.span_between-span.ensures P es k c.args.world c.requires.world.0 (c.last_touching-last.ensures P es k c.requires.index named) (c.next_touching-next.ensures P es k c.requires.index named))
          (λ h. true≢false (sym (c.has_row_from.ensures.found.1 h) ∙ c.if-has_row_from.false)),
      ap (λ (b : BookView). length (rows_of b.events)) (sym c.has_row_from.ensures.same) ∙ sym c.linked.ensures.count ∙ c.if-linked-rows.true ∙ c.rows.ensures,
    )

pub site-site-requires : goal.site-site-requires
site-site-requires g c =
    let P = g.N.Naming.about.program.value in
    let es = c.args.book.now.events in
    let (k, at) = there (keys_of es) c.args.key c.requires.key in
    subst (λ cs. IsDefinition (change_in cs c.args.definition)) (sym c.requires.index.known_changes) (chosen_definition P es k.function k.types c.args.world c.args.definition (c.requires.choice k at))

pub returns-clause-plan : goal.returns-clause-plan
returns-clause-plan g c =
    let P = g.N.Naming.about.program.value in
    let es = c.args.book.now.events in
    let span = c.span_between-span.result in
    let none : HasRowFrom es c.args.key span.first → ⊥ = λ h. true≢false (sym (c.has_row_from.ensures.found.1 h) ∙ c.if-has_row_from.false) in
    let same : length (rows_of c.has_row_from.new.book.events) ≡ length (rows_of es) = ap (λ (b : BookView). length (rows_of b.events)) c.has_row_from.ensures.same in
    let free = row_free _ _ _ c.linked.ensures.few c.rows.ensures c.if-linked-rows.false in
    λ k named.
    let is_span = c.span_between-span.ensures P es k c.args.world c.requires.world.0 (c.last_touching-last.ensures P es k c.requires.index named) (c.next_touching-next.ensures P es k c.requires.index named) in (
      none_covers P c.requires.valid es c.requires.history.stand c.args.key k (all_get (IsKeyOf P) (keys_of es) c.args.key k c.requires.index.proper_keys named) named c.args.world span is_span none,
      omega (arith, free, c.linked.ensures.count, same),
      row_for P c.requires.valid es c.requires.history.stand c.args.key k (all_get (IsKeyOf P) (keys_of es) c.args.key k c.requires.index.proper_keys named) named c.args.world span is_span c.args.definition (c.requires.choice k named) none _
          (c.site-site.ensures P es c.requires.index) refl refl,
    )
