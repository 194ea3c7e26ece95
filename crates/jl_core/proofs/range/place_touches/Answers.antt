use Rattle.std.proofs.Common.{◌∙◌, ap}
use Rattle.jl_program.specs.declared.tree.Program.{Program}
use Rattle.jl_core.proofs.RangeLemmas.{place_touched}
use Rattle.jl_core.proofs.range.place_touches.Goals as goal

pub returns : goal.returns
returns c =
    let at = c.in-Some.ensures.lookup in
    place_touched c.args.ready.now c.args.key.now c.args.place _ c.in_ok-yes.yes c.in-Some.found.now c.as_slice.result.now (c.as_slice.ensures ∙ ap (λ (p : Program). p.deletes) c.program.ensures) at.3.0 at.1 c.delete_sig.ensures.written c.in_ok-yes.ensures
