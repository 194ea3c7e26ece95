use Rattle.std.proofs.Common.{◌∙◌, ap, refl, true, false, ◌≡◌, arith}
use Rattle.jl_model.specs.AllRows.{each_var}
use Rattle.jl_sig.specs.Built.{place_in}
use Rattle.jl_sig.proofs.BuildLemmas.{many_components, few_choices}
use Rattle.jl_sig.proofs.many.has_many_choices.Goals as goal

pub returns-then-product_of_forms-gt-MOST_SIGNATURE_ROWS : goal.returns-then-product_of_forms-gt-MOST_SIGNATURE_ROWS
returns-then-product_of_forms-gt-MOST_SIGNATURE_ROWS c =
    let s = c.args.written.now in
    let ps = c.in_ok-picks.picks.items in
    let pe = c.as_slice-2.ensures.value ∙ c.in_ok-places.ensures ∙ ap (λ z. each_var (place_in s z) 0 s.vars) c.as_slice.ensures.value in (
      (λ f. many_components c.args.table.now s c.args.bounds.now c.requires.expandable ps c.as_slice-2.result.now c.in_ok-picks.ensures.picked pe
          c.product_of_forms.result c.as_slice-parts.result.now c.as_slice-parts.ensures c.product_of_forms.ensures c.if-product_of_forms-gt-MOST_SIGNATURE_ROWS.true),
      (λ m. refl),
    )

pub returns : goal.returns
returns c =
    let s = c.args.written.now in
    let ps = c.in_ok-picks.picks.items in
    let pe = c.as_slice-2.ensures.value ∙ c.in_ok-places.ensures ∙ ap (λ z. each_var (place_in s z) 0 s.vars) c.as_slice.ensures.value in (
      (λ f. absurd (let g : false ≡ true = f in cc)),
      (λ m. absurd (few_choices c.args.table.now s c.args.bounds.now c.requires.expandable ps c.as_slice-2.result.now c.in_ok-picks.ensures.picked pe c.args.kinds.now c.requires.kinds c.requires.none
          c.product_of_forms.result c.as_slice-parts.result.now c.as_slice-parts.ensures c.product_of_forms.ensures (omega (arith, c.if-product_of_forms-gt-MOST_SIGNATURE_ROWS.false)) m)),
    )
