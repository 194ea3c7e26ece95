use Rattle.std.proofs.Common.{◌≡◌, ◌∙◌, sym, ap, arith, length, []}
use Rattle.std.proofs.lemmas.Result.{IfOk-weaker}
use Rattle.jl_model.specs.declared.ty.Bound.{Bound}
use Rattle.jl_model.specs.Ancestors.{table_of}
use Rattle.jl_model.specs.Rows.{high}
use Rattle.jl_model.specs.Subtype.{opaque}
use Rattle.jl_model.specs.Found.{ancestor, first_form, rising}
use Rattle.jl_search.specs.Walk.{TellsBound}
use Rattle.jl_match.specs.KeptRow.{row_of}
use Rattle.jl_match.proofs.HitSteps.{high_is, closed_bound, some_bound, unknown_bound, witness_plain}
use Rattle.jl_match.proofs.hits.above_bound.Goals as goal

pub returns-then-are_closed : goal.returns-then-are_closed
returns-then-are_closed c =
    let s = c.args.signature.now in
    let bs = c.as_slice.result.now in
    let b = c.index-as_slice-variable.result in
    let l = ap length c.as_slice.ensures in
    closed_bound (table_of c.args.table.now) s (row_of c.args.parts.now []) c.args.types.now c.args.variable c.in-Nominal.target c.args.hit.now b.high c.in-Nominal.arguments c.as_slice-in-Nominal.result.now c.empty-then-are_closed.result
    (high_is s bs c.args.variable b c.as_slice.ensures (omega (arith, l, c.requires.variable)) c.index-as_slice-variable.is) (ap (λ (z : Bound). z.high) c.index-as_slice-variable.is ∙ c.in-Nominal.is) c.as_slice-in-Nominal.ensures
    (sym c.are_closed.ensures ∙ c.if-are_closed.true) c.empty-then-are_closed.ensures

pub first_ancestor-requires : goal.first_ancestor-requires
first_ancestor-requires c =
    record { plain = witness_plain c.args.table.now c.valid.ensures c.args.parts.now c.args.types.now c.args.atom c.args.hit.now c.in_ok-ty-in-Nominal.field-0 c.in-Some.ty c.requires.types c.requires.hit c.in_ok-ty-in-Nominal.ensures c.in-Some.is }

pub returns-in-None : goal.returns-in-None
returns-in-None c =
    unknown_bound (table_of c.args.table.now) c.args.signature.now (row_of c.args.parts.now []) c.args.types.now c.args.variable c.args.atom c.args.hit.now c.in_ok-ty-in-Nominal.field-0 c.empty-in-None.result
    c.requires.atom c.in_ok-ty-in-Nominal.ensures c.in-None.is c.empty-in-None.ensures

pub returns-in-Some : goal.returns-in-Some
returns-in-Some c =
    let n = table_of c.args.table.now in
    let s = c.args.signature.now in
    let bs = c.as_slice.result.now in
    let b = c.index-as_slice-variable.result in
    let l = ap length c.as_slice.ensures in
    let r = row_of c.args.parts.now [] in
    let t = c.in-Some.ty in
    IfOk-weaker c.first_ancestor.result (λ zs. zs ≡ ancestor n c.in-Nominal.target (first_form (rising opaque t))) (TellsBound n opaque s r c.args.types.now c.args.variable (high s c.args.variable) c.args.hit.now)
    (λ zs e. some_bound n s r c.args.types.now c.args.variable c.args.atom c.in-Nominal.target c.args.hit.now c.in_ok-ty-in-Nominal.field-0 b.high t c.in-Nominal.arguments zs
    (high_is s bs c.args.variable b c.as_slice.ensures (omega (arith, l, c.requires.variable)) c.index-as_slice-variable.is)
    (ap (λ (z : Bound). z.high) c.index-as_slice-variable.is ∙ c.in-Nominal.is) c.requires.atom c.in_ok-ty-in-Nominal.ensures c.in-Some.is e)
    c.first_ancestor.ensures
