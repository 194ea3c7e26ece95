use Rattle.std.proofs.Common.{◌∙◌, ap, sym, [], ◌∷◌, ◌++◌}
use Rattle.jl_model.specs.declared.ty.Decl.{Decl}
use Rattle.jl_declare.specs.Judgement as Q
use Rattle.jl_declare.proofs.StepLemmas.{kept_is, judged_kept}
use Rattle.jl_declare.proofs.judged.judge.Goals as goal

pub returns-in_ok-copy_decl-in-Ok-clause-judged : goal.returns-in_ok-copy_decl-in-Ok-clause-judged
returns-in_ok-copy_decl-in-Ok-clause-judged c =
    let a = c.in-Ok.ensures.added in
    judged_kept c.args.table.now c.args.decl c.in_ok-copy_decl-in-Ok.field-0 (a.0, a.1) c.in-Ok.ensures.allowed
    (c.in_ok-copy_decl-in-Ok.ensures ∙ kept_is c.args.table.now c.declare_new.new.table a.0 c.decl.result.now c.in-Ok.number a.2 c.in-Ok.ensures.number c.decl.ensures)

pub returns-in_ok-copy_decl-in-Ok-clause-added : goal.returns-in_ok-copy_decl-in-Ok-clause-added
returns-in_ok-copy_decl-in-Ok-clause-added c =
    let a = c.in-Ok.ensures.added in
    a.2 ∙ ap (λ (z : Decl). c.args.table.now ++ z ∷ []) (sym (c.in_ok-copy_decl-in-Ok.ensures ∙ kept_is c.args.table.now c.declare_new.new.table a.0 c.decl.result.now c.in-Ok.number a.2 c.in-Ok.ensures.number c.decl.ensures))

pub returns-in-Some-clause-judged : goal.returns-in-Some-clause-judged
returns-in-Some-clause-judged c = Q.refused c.in-Err.fault c.in-Some.kind (sym c.kind_of.ensures ∙ c.in-Some.is) c.in-Err.ensures.allowed
