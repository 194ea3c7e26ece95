use Rattle.std.proofs.Common.{◌∙◌, ap, map, List}
use Rattle.jl_model.specs.declared.ty.Decl.{Decl}
use Rattle.jl_typeread.specs.declared.tree.VarText.{VarText}
use Rattle.jl_grammar.specs.declared.tree.Param.{Param}
use Rattle.jl_written.specs.Signatures.{signature}
use Rattle.jl_resolve_forms.specs.TypesIn.{declared_at}
use Rattle.jl_resolve_forms.specs.Expressions.{judge_signature, type_of}
use Rattle.jl_resolve_forms.proofs.methods.method_signature.Goals as goal

pub returns : goal.returns
returns g c =
    let t = g.J.Judge.tests c.args.judge.now in
    let ds = declared_at c.args.known.now c.args.types in
    c.in_ok-signed.ensures
    ∙ ap (judge_signature t)
    (c.in_ok-read.ensures
    ∙ ap (λ (z : List Decl). signature z (map type_of c.as_slice.result.now) c.as_slice-2.result.now) c.declared_at-decls.ensures
    ∙ ap (λ (z : List Param). signature ds (map type_of z) c.as_slice-2.result.now) c.as_slice.ensures
    ∙ ap (λ (z : List VarText). signature ds (map type_of c.args.head.now.params) z) c.as_slice-2.ensures)
