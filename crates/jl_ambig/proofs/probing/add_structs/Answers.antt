use Rattle.std.proofs.Common.{◌∙◌, sym, refl, arith, ◌+◌, drop}
use Rattle.jl_ambig.specs.Probes.{plain_structs}
use Rattle.jl_ambig.proofs.TypeLemmas.{up_same, up_more, up_end, struct_no, struct_yes, structs_done}
use Rattle.jl_ambig.proofs.probing.add_structs.Goals as goal

pub loop-number-init : goal.loop-number-init
loop-number-init c = λ all h. (all, h, refl)

pub loop-number-preserved-then-not-is_plain_struct : goal.loop-number-preserved-then-not-is_plain_struct
loop-number-preserved-then-not-is_plain_struct c = λ all h.
    let ds = c.args.table.now in
    let k = c.loop-number.number in
    up_same all c.loop-number.types.items (plain_structs k (drop k ds)) (plain_structs (k + 1) (drop (k + 1) ds)) (plain_structs 8 (drop 8 ds)) (struct_no ds k _ c.decl.ensures (sym c.is_plain_struct.ensures ∙ c.if-not-is_plain_struct.true))
    (c.loop-number.invariant all h)

pub loop-number-preserved : goal.loop-number-preserved
loop-number-preserved c = λ all h.
    let ds = c.args.table.now in
    let k = c.loop-number.number in
    up_more all c.loop-number.types.items c.add_named.new.types.items _ (plain_structs k (drop k ds)) (plain_structs (k + 1) (drop (k + 1) ds)) (plain_structs 8 (drop 8 ds))
    (struct_yes ds k _ c.decl.ensures (sym c.is_plain_struct.ensures ∙ c.if-not-is_plain_struct.false)) c.in_ok-add_named.ensures (c.loop-number.invariant all h)

pub returns : goal.returns
returns c = λ all h.
    let ds = c.args.table.now in
    let k = c.loop-number.number in
    up_end all c.loop-number.types.items (plain_structs k (drop k ds)) (plain_structs 8 (drop 8 ds)) (structs_done k ds (omega (arith, c.loop-number-test.false, c.count-number-end.ensures))) (c.loop-number.invariant all h)
