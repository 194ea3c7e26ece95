use Rattle.std.proofs.Common.{◌∙◌, sym, ap}
use Rattle.std.specs.List.{list_all}
use Rattle.jl_model.specs.Refusals.{is_free_of, is_placed}
use Rattle.jl_norm.proofs.ListLemmas.{either_case}
use Rattle.jl_norm.proofs.PlaceLemmas.{placed-any, placed-var, placed-union, placed-tuple, placed-nominal}
use Rattle.jl_norm.proofs.places.+placed.Goals as goal

pub is_placed-returns-in-Any : goal.is_placed-returns-in-Any
is_placed-returns-in-Any t c = sym (ap (is_placed c.args.own) c.in-Any.is ∙ placed-any c.args.own)

pub is_placed-returns-in-Nominal : goal.is_placed-returns-in-Nominal
is_placed-returns-in-Nominal t c =
    let m = c.args.own in
    c.are_placed.ensures ∙ ap (list_all (is_placed m)) c.as_slice.ensures ∙ sym (ap (is_placed m) c.in-Nominal.is ∙ placed-nominal m c.in-Nominal.field-0 c.in-Nominal.parts)

pub is_placed-returns-in-Var : goal.is_placed-returns-in-Var
is_placed-returns-in-Var t c = sym (ap (is_placed c.args.own) c.in-Var.is ∙ placed-var c.args.own c.in-Var.field-0)

pub is_placed-returns-in-Union : goal.is_placed-returns-in-Union
is_placed-returns-in-Union t c =
    let m = c.args.own in
    either_case (is_placed m) (is_free_of m) (placed-union m) (placed-tuple m) c.args.ty.now c.in-Union.parts c.as_slice-in-Union.result.now c.are_free.result c.in-Union.is c.as_slice-in-Union.ensures c.are_free.ensures
