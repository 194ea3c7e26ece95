use Rattle.std.proofs.Common.{◌∙◌, sym, ap}
use Rattle.std.specs.List.{list_all}
use Rattle.jl_model.specs.Usable.{is_outside_unions}
use Rattle.jl_sig.proofs.UsableLemmas.{outside-any, outside-var, outside-tuple, outside-nominal}
use Rattle.jl_sig.proofs.usable.+outside.Goals as goal

pub is_outside_unions-returns-in-Any : goal.is_outside_unions-returns-in-Any
is_outside_unions-returns-in-Any t c = let v = c.args.variable in sym (ap (is_outside_unions v) c.in-Any.is ∙ outside-any v)

pub is_outside_unions-returns-in-Var : goal.is_outside_unions-returns-in-Var
is_outside_unions-returns-in-Var t c = let v = c.args.variable in sym (ap (is_outside_unions v) c.in-Var.is ∙ outside-var v c.in-Var.field-0)

pub is_outside_unions-returns-in-Tuple : goal.is_outside_unions-returns-in-Tuple
is_outside_unions-returns-in-Tuple t c =
    let v = c.args.variable in
    c.are_outside_unions.ensures ∙ ap (list_all (is_outside_unions v)) c.as_slice-in-Tuple.ensures ∙ sym (ap (is_outside_unions v) c.in-Tuple.is ∙ outside-tuple v c.in-Tuple.parts)

pub is_outside_unions-returns-in-Nominal : goal.is_outside_unions-returns-in-Nominal
is_outside_unions-returns-in-Nominal t c =
    let v = c.args.variable in
    c.are_outside_unions-in-Nominal.ensures ∙ ap (list_all (is_outside_unions v)) c.as_slice-in-Nominal.ensures
    ∙ sym (ap (is_outside_unions v) c.in-Nominal.is ∙ outside-nominal v c.in-Nominal.field-0 c.in-Nominal.arguments)
