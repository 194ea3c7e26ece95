use Rattle.std.proofs.Common.{◌≡◌, ap, map, Err, true, false, inr}
use Rattle.jl_model.specs.declared.ty.Ty.TheViews as V
use Rattle.jl_model.specs.Refusals.{types_of, ancestors}
use Rattle.jl_norm.proofs.SizeLemmas.{within_front}
use Rattle.jl_norm.proofs.KeptLemmas.{limit_kept}
use Rattle.jl_norm.proofs.ToldLemmas.{types_sized, right_as_written, memory_refused}
use Rattle.jl_norm.specs.Refused.{IsKeptSized}
use Rattle.jl_norm.proofs.kept.kept_sized.Goals as goal

pub returns-in-Err-TypeLimit : goal.returns-in-Err-TypeLimit
returns-in-Err-TypeLimit c =
    let ds = c.args.table.now in
    let d = c.args.decl.now in
    let s = within_front (types_of d) (map (λ x. V.Nominal x.name x.args) (ancestors ds d)) (c.in_ok-is_sized.ensures.sized.0 c.if-not-branch.false) in
    (c.requires, limit_kept ds d c.valid.ensures c.requires s (c.in-Err-TypeLimit.ensures.limit (ap (λ z. Err z) c.in-Err-TypeLimit.field-0-is)))

pub returns-in-Err-Memory : goal.returns-in-Err-Memory
returns-in-Err-Memory c =
    let ds = c.args.table.now in
    let d = c.args.decl.now in
    right_as_written ds d c.requires (types_sized ds d (c.in_ok-is_sized.ensures.sized.0 c.if-not-branch.false))

pub returns-in_err-is_sized-2 : goal.returns-in_err-is_sized-2
returns-in_err-is_sized-2 c =
    let ds = c.args.table.now in
    let d = c.args.decl.now in
    memory_refused ds d c.from_residual-in_err-is_sized-2.result (λ e. IsKeptSized ds d e) c.from_residual-in_err-is_sized-2.ensures.1
    (right_as_written ds d c.requires (types_sized ds d (c.in_ok-is_sized.ensures.sized.0 c.if-not-branch.false)))

pub returns-then-not-branch-2 : goal.returns-then-not-branch-2
returns-then-not-branch-2 c = (
  c.requires,
  inr (inr (
    c.in-Ok.kept,
    c.in-Ok.ensures.kept,
    λ a.
        let e : c.in_ok-is_sized-2.field-0 ≡ true = c.in_ok-is_sized-2.ensures.sized.1 a in
        let f : c.in_ok-is_sized-2.field-0 ≡ false = c.if-not-branch-2.true in
        cc,
  )),
)

pub returns : goal.returns
returns c = record {
  kept = c.in-Ok.ensures.kept;
  written_sized = c.in_ok-is_sized.ensures.sized.0 c.if-not-branch.false;
  sized = c.in_ok-is_sized-2.ensures.sized.0 c.if-not-branch-2.false;
}
