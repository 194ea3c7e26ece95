use Rattle.std.proofs.Common.{◌∙◌, sym, arith}
use Rattle.std.proofs.lemmas.Slice.Eq.{slice_eq-Decides}
use Rattle.std.proofs.lemmas.Bool.Decides.{Decides-eqb, not_from_Decides}
use Rattle.jl_causes.specs.KeyTexts.{names_of}
use Rattle.jl_causes.proofs.ReadLemmas.{later_none, place_here, place_next, place_none, named_at, many_names}
use Rattle.jl_causes.proofs.type_text.find_type.Goals as goal

pub loop-number-init : goal.loop-number-init
loop-number-init c = later_none _

pub returns-then-eq : goal.returns-then-eq
returns-then-eq c =
    let ds = c.args.table.now in
    let d = c.decl.result.now in
    let same = (slice_eq-Decides Decides-eqb c.as_slice.result.now c.args.name.now c.eq.result c.eq.ensures).0 c.if-eq.true in
    place_here (names_of ds) c.loop-number.number d.name c.args.name.now (named_at ds c.loop-number.number d c.decl.ensures) c.loop-number.invariant (sym c.as_slice.ensures ∙ same)

pub loop-number-preserved : goal.loop-number-preserved
loop-number-preserved c =
    let ds = c.args.table.now in
    let d = c.decl.result.now in
    let other = not_from_Decides c.eq.result (slice_eq-Decides Decides-eqb c.as_slice.result.now c.args.name.now c.eq.result c.eq.ensures) c.if-eq.false in
    place_next (names_of ds) c.loop-number.number d.name c.args.name.now (named_at ds c.loop-number.number d c.decl.ensures) c.loop-number.invariant (λ e. other (c.as_slice.ensures ∙ e))

pub returns : goal.returns
returns c =
    let ds = c.args.table.now in
    place_none (names_of ds) c.loop-number.number c.args.name.now (omega (arith, many_names ds, c.loop-number-test.false, c.count-number-end.ensures)) c.loop-number.invariant
