use Rattle.std.proofs.Common.{◌≡◌, ◌∙◌, sym, ap, subst, refl, IfOk, drop}
use Rattle.jl_model.specs.declared.ty.Ty.TheViews as V
use Rattle.jl_model.specs.declared.ty.Ty.TheOpen.{Any, Tuple, Nominal}
use Rattle.jl_model.specs.declared.ty.Ty.TheViews.{out-Ty, outs-Any, outs-Tuple, outs-Nominal, outs-Var}
use Rattle.jl_model.specs.Ancestors.{table_of}
use Rattle.jl_model.specs.Subtype.{opaque}
use Rattle.jl_model.specs.Found.{ancestor, raised}
use Rattle.jl_match.proofs.PlainLemmas.{by_form, by_member, by_none}
use Rattle.jl_match.proofs.HitSteps.{empty_of, head_of}
use Rattle.jl_match.proofs.hits.first_ancestor.Goals as goal

pub returns-in-Any : goal.returns-in-Any
returns-in-Any c = by_form c.args.table.now c.valid.ensures c.args.target c.args.ty.now Any c.empty.result (ap out-Ty c.in-Any.is ∙ outs-Any) refl c.requires.plain c.empty.ensures

pub returns-in-Tuple : goal.returns-in-Tuple
returns-in-Tuple c =
    by_form c.args.table.now c.valid.ensures c.args.target c.args.ty.now (Tuple c.in-Tuple.field-0) c.empty-in-Tuple.result (ap out-Ty c.in-Tuple.is ∙ outs-Tuple c.in-Tuple.field-0) refl c.requires.plain c.empty-in-Tuple.ensures

pub returns-in-Nominal : goal.returns-in-Nominal
returns-in-Nominal c =
    let t = c.args.ty.now in
    let o = ap out-Ty c.in-Nominal.is ∙ outs-Nominal c.in-Nominal.field-0 c.in-Nominal.field-1 in
    let n = table_of c.args.table.now in
    let e = by_form c.args.table.now c.valid.ensures c.args.target t (Nominal c.in-Nominal.field-0 c.in-Nominal.field-1) (ancestor n c.args.target (raised opaque (out-Ty t))) o refl c.requires.plain (ap (λ z. ancestor n c.args.target (raised opaque z)) o) in
    subst (λ z. IfOk c.ancestor-in-Nominal.result (λ found. found ≡ z)) e c.ancestor-in-Nominal.ensures

pub returns-in-empty : goal.returns-in-empty
returns-in-empty c =
    c.empty-in-empty.ensures
    ∙ by_none c.args.table.now c.valid.ensures c.args.target c.args.ty.now c.as_slice.result.now (c.in-Union.is ∙ ap (λ z. V.Union z) (sym c.as_slice.ensures)) (empty_of c.as_slice.result.now c.in-empty.len_below) c.requires.plain

pub returns-in-len1-up : goal.returns-in-len1-up
returns-in-len1-up c =
    let ts = c.as_slice.result.now in
    let e = by_member c.args.table.now c.valid.ensures c.args.target c.args.ty.now c.first-item.result ts (drop 1 ts) (c.in-Union.is ∙ ap (λ z. V.Union z) (sym c.as_slice.ensures)) (head_of ts c.first-item.result c.in-len1-up.len_at_least c.first-item.is) c.requires.plain in
    subst (λ z. IfOk c.ancestor.result (λ found. found ≡ z)) (sym e) c.ancestor.ensures
