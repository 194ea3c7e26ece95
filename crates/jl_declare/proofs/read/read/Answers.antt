use Rattle.std.proofs.Common.{◌∙◌, ap, List}
use Rattle.jl_model.specs.declared.ty.Decl.{Decl}
use Rattle.jl_declare.specs.Declaration.{heading}
use Rattle.jl_declare.proofs.StepLemmas.{read_is}
use Rattle.jl_declare.proofs.read.read.Goals as goal

pub returns-clause-means : goal.returns-clause-means
returns-clause-means c =
    read_is c.args.decls.now c.args.kind c.args.header.now c.args.fields.now c.in_ok-heading.heading c.own_types.new.heading.own c.with_fields-term.result c.in_ok-decl.decl c.in_ok-tys.tys c.as_slice.result.now
    c.in_ok-fields.fields c.own_types.new.heading.reading c.len.result c.len-2.result
    (c.in_ok-heading.ensures ∙ ap (λ (z : List Decl). heading z c.args.kind c.args.header.now) c.all.ensures) c.in_ok-tys.ensures.means c.in_ok-tys.ensures.own c.as_slice.ensures c.in_ok-fields.ensures
    c.with_fields-term.ensures c.in_ok-decl.ensures c.len.ensures c.len-2.ensures
