use Rattle.std.proofs.Common.{◌≡◌, ◌∙◌, sym, subst, true, false, inr}
use Rattle.jl_model.specs.Ancestors.{table_of}
use Rattle.jl_model.specs.SigRefusals.{ManyRows}
use Rattle.jl_sig.specs.Parts.{all_given}
use Rattle.jl_sig.specs.Prepared.{IsExpandable}
use Rattle.jl_sig.proofs.SigLemmas.{buildable, not_limited}
use Rattle.jl_sig.proofs.size.measure.Goals as goal

pub has_many_rows-requires : goal.has_many_rows-requires
has_many_rows-requires c =
    let ds = c.args.table.now in
    let s = c.args.written.now in
    let f = c.in_ok-forms.forms in
    let h = c.in_ok-forms.ensures.forms in
    subst (IsExpandable ds s) (sym c.as_slice.ensures) (buildable ds c.valid.ensures s c.requires h.few h.narrow f.bounds (all_given f.arguments.items) h.bounds h.arguments).rows

pub returns-then-branch-clause-limit : goal.returns-then-branch-clause-limit
returns-then-branch-clause-limit c = λ e. inr (inr (inr (c.in_ok-has_many_rows.ensures.0 c.if-branch.true)))

pub returns-clause-small : goal.returns-clause-small
returns-clause-small c =
    let ds = c.args.table.now in
    let s = c.args.written.now in
    let f = c.in_ok-forms.forms in
    let h = c.in_ok-forms.ensures.forms in
    let few : ManyRows (table_of ds) s → ⊥ = λ m. let g = c.in_ok-has_many_rows.ensures.1 m in let e : true ≡ false = sym g ∙ c.if-branch.false in cc in
    not_limited ds c.valid.ensures s c.requires h.few h.narrow f.bounds (all_given f.arguments.items) h.bounds h.arguments few
