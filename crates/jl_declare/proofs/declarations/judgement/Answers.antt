use Rattle.std.proofs.Common.{◌∙◌, sym, ap, nat_eq, length}
use Rattle.jl_declare.proofs.StepLemmas.{tell_alone_fresh}
use Rattle.jl_declare.proofs.declarations.judgement.Goals as goal

pub judge-requires-clause-fresh : goal.judge-requires-clause-fresh
judge-requires-clause-fresh c =
    tell_alone_fresh c.args.table.now c.args.decls.now _ c.args.read.now c.in_ok-copy_decl-in-None.field-0 (sym c.tell_alone.ensures.means ∙ c.in-None.is)
    (ap (λ n. nat_eq n c.len.result) c.count.ensures ∙ ap (nat_eq (length c.args.table.now)) c.len.ensures) c.requires.table c.in_ok-copy_decl-in-None.ensures
