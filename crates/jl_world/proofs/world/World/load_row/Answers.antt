use Rattle.std.proofs.Common.{length, ap, sym, ◌∙◌, arith, subst}
use Rattle.jl_calculus.specs.Ranges.{rows_of}
use Rattle.jl_world.specs.declared.view.TaskView.{TaskView}
use Rattle.jl_world.specs.Tells.{IsRowWord}
use Rattle.jl_world.proofs.RowLoads.{rows_as}
use Rattle.jl_world.proofs.Wording.{row_small}
use Rattle.jl_world.proofs.world.World.load_row.Goals as goal

pub load-requires : goal.load-requires
load-requires g c =
    let i = c.seat.invariant in
    let w = c.args.self.now in
    let rows = ap (λ v. length (rows_of v.seen)) c.seat.view_is in
    (i.0 ∙ sym w.named.0, omega (arith, w.sized, c.index_in_row.ensures, row_small g.N.Naming.about c.args.row c.args.word (omega (arith, i.3.1, rows, c.requires))), rows_as _ _ _ _ _ _ w.named.1 i.1)

pub returns-clause-word : goal.returns-clause-word
returns-clause-word g c =
    let rows = ap (λ v. length (rows_of v.seen)) c.seat.view_is in
    subst (λ (v : TaskView). IsRowWord g.N.Naming.about.program.value v.seen c.args.row c.args.word c.load.result) c.seat.view_is
    (c.load.ensures.2.1 c.args.row c.args.word c.index_in_row.ensures (omega (arith, rows, c.requires)))
