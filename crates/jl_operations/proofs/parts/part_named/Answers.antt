use Rattle.std.proofs.Common.{◌∙◌, ap, arith}
use Rattle.jl_program.specs.Names.{same_text}
use Rattle.jl_operations.proofs.PartLemmas.{named_past}
use Rattle.jl_operations.proofs.parts.part_named.Goals as goal

pub loop-i-preserved : goal.loop-i-preserved
loop-i-preserved c =
    c.loop-i.invariant
    ∙ named_past c.args.name.now c.args.fields.now c.args.parts.now c.loop-i.i c.index-fields-i.result c.is_same.result c.loop-i-test.true (omega (arith, c.if-i-parts.false)) c.index-fields-i.is
    (c.is_same.ensures ∙ ap (same_text c.args.name.now) c.as_slice.ensures) c.if-is_same.false
