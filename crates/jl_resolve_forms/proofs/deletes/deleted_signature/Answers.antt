use Rattle.std.proofs.Common.{◌∙◌, ap, List}
use Rattle.jl_model.specs.declared.ty.Decl.{Decl}
use Rattle.jl_typeread.specs.declared.tree.ArgText.{ArgText}
use Rattle.jl_typeread.specs.declared.tree.ArgText.TheViews.{out-TypeText}
use Rattle.jl_typeread.specs.declared.tree.VarText.{VarText}
use Rattle.jl_written.specs.Signatures.{tuple_signature}
use Rattle.jl_resolve_forms.specs.TypesIn.{declared_at}
use Rattle.jl_resolve_forms.specs.Expressions.{judge_signature, signature_args}
use Rattle.jl_resolve_forms.proofs.deletes.deleted_signature.Goals as goal

pub returns : goal.returns
returns g c =
    let t = g.J.Judge.tests c.args.judge.now in
    let ds = declared_at c.args.known.now c.args.types in
    let xs = signature_args (out-TypeText c.args.ty.now) in
    c.in_ok-signed.ensures
    ∙ ap (judge_signature t)
    (c.in_ok-read.ensures
    ∙ ap (λ (z : List Decl). tuple_signature z c.signature_args.result.now c.signature_vars.result.now) c.declared_at-decls.ensures
    ∙ ap (λ (z : List ArgText). tuple_signature ds z c.signature_vars.result.now) c.signature_args.ensures
    ∙ ap (λ (z : List VarText). tuple_signature ds xs z) c.signature_vars.ensures)
