use Rattle.std.proofs.Common.{◌∙◌, sym, ap, length}
use Rattle.jl_model.specs.Bindings.{bindings}
use Rattle.jl_sig.specs.SigParts.{written_of}
use Rattle.jl_model.specs.Ancestors.{table_of}
use Rattle.jl_machine.proofs.Choosing.{variables_found, no_variables, applies_to}
use Rattle.jl_machine.proofs.task.Task.statics_of.Goals as goal

pub returns-then-len-eq0 : goal.returns-then-len-eq0
returns-then-len-eq0 c =
    no_variables c.args.ready.now c.args.types.now c.empty.result c.args.site _ c.sig-sig.ensures.written (ap (λ w. length w.vars) (sym c.written.ensures) ∙ sym c.len.ensures ∙ c.if-len-eq0.true) c.empty.ensures

pub unreachable-requires : goal.unreachable-requires
unreachable-requires c =
    let here = applies_to c.args.ready.now c.args.types.now c.args.site _ c.sig-sig.ensures.written c.requires.applies in
    c.in_ok-statics.ensures.none c.in-None.is (rw (c.table.ensures, c.as_slice.ensures) here)

pub returns : goal.returns
returns c =
    variables_found c.args.ready.now c.args.types.now c.args.site _ c.sig-sig.ensures.written
    ∙ sym (c.in_ok-statics.ensures.bindings c.in-Some.statics c.in-Some.is ∙ (λ i. bindings (table_of (c.table.ensures i)) (written_of c.sig-sig.result.now) (c.as_slice.ensures i)))
