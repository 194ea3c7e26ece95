use Rattle.std.proofs.Common.{◌∙◌, ◌↔◌, sym, ap, subst, not, IsTrue, List}
use Rattle.std.specs.List.{list_all}
use Rattle.jl_model.specs.declared.ty.Bound.{Bound}
use Rattle.jl_model.specs.declared.ty.Written.{Written}
use Rattle.jl_model.specs.Ancestors.{table_of}
use Rattle.jl_model.specs.Refusals.{bound_types}
use Rattle.jl_model.specs.SigRefusals.{ManyRows}
use Rattle.jl_model.specs.Valid.{is_closed}
use Rattle.jl_sig.specs.Prepared.{IsExpandable}
use Rattle.jl_body.proofs.StaticLemmas.{plain_alike, told_closed}
use Rattle.jl_body.proofs.forms.has_many_rows_without.Goals as goal

pub has_many_rows-requires-2 : goal.has_many_rows-requires-2
has_many_rows-requires-2 c =
    let t = c.args.written.now in
    let k = told_closed (bound_types t.vars) c.have_variables.result (c.have_variables.ensures ∙ ap (λ (z : List Bound). not (list_all is_closed (bound_types z))) c.as_slice.ensures) c.if-have_variables.false in
    subst (λ (z : Written). IsExpandable c.args.table.now z c.args.bounds.now) (plain_alike t k ∙ sym c.requires.plain) c.requires.expandable

pub returns-then-have_variables : goal.returns-then-have_variables
returns-then-have_variables c = subst (λ (z : Written). IsTrue c.in_ok-many.many ↔ ManyRows (table_of c.args.table.now) z) c.in_ok-counted.ensures c.in_ok-many.ensures

pub returns : goal.returns
returns c =
    let t = c.args.written.now in
    let k = told_closed (bound_types t.vars) c.have_variables.result (c.have_variables.ensures ∙ ap (λ (z : List Bound). not (list_all is_closed (bound_types z))) c.as_slice.ensures) c.if-have_variables.false in
    subst (λ (z : Written). IsTrue c.in_ok-many-2.many ↔ ManyRows (table_of c.args.table.now) z) (c.requires.plain ∙ sym (plain_alike t k)) c.in_ok-many-2.ensures
