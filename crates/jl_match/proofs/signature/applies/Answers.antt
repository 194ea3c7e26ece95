use Rattle.jl_match.proofs.SigLemmas.{sig_diagonals, sig_rows_kept, sig_rows_of, few_variables}
use Rattle.jl_match.proofs.AppliesLemmas.{both_ways}
use Rattle.std.proofs.Common.{sym, subst}
use Rattle.jl_model.specs.declared.ty.Written.{Written}
use Rattle.jl_model.specs.Ancestors.{table_of}
use Rattle.jl_match.specs.KeptRow.{AreDiagonals}
use Rattle.jl_match.specs.SigRows.{AreKeptRows, AreRowsOf}
use Rattle.jl_sig.specs.SigParts.{written_of, bounded_of}
use Rattle.jl_match.proofs.signature.applies.Goals as goal

pub some_row_applies-requires-clause-diagonals : goal.some_row_applies-requires-clause-diagonals
some_row_applies-requires-clause-diagonals c =
    let d = sig_diagonals c.args.table.now c.valid.ensures c.args.sig.now c.requires.sig.kept in
    subst (λ (w : Written). AreDiagonals w c.diagonals.result.now) (sym c.bounded.ensures) (subst (AreDiagonals (bounded_of c.args.sig.now)) (sym c.diagonals.ensures) d)

pub some_row_applies-requires-clause-rows : goal.some_row_applies-requires-clause-rows
some_row_applies-requires-clause-rows c =
    let k = sig_rows_kept c.args.table.now c.valid.ensures c.args.sig.now c.requires.sig.kept in
    subst (λ (w : Written). AreKeptRows c.args.table.now w c.rows.result.now) (sym c.bounded.ensures) (subst (AreKeptRows c.args.table.now (bounded_of c.args.sig.now)) (sym c.rows.ensures) k)

pub bindings-requires-clause-few : goal.bindings-requires-clause-few
bindings-requires-clause-few c = let e = c.written.ensures in rw e (few_variables c.args.table.now c.args.sig.now c.requires.sig.kept)

pub returns-then-not-branch-clause-none : goal.returns-then-not-branch-clause-none
returns-then-not-branch-clause-none c none a =
    let g = c.args.sig.now in
    let n = table_of c.args.table.now in
    let k = sig_rows_of c.args.table.now c.valid.ensures g c.requires.sig.kept in
    let h : AreRowsOf n (written_of g) c.bounded.result.now c.rows.result.now = subst (λ (w : Written). AreRowsOf n (written_of g) w c.rows.result.now) (sym c.bounded.ensures) (subst (AreRowsOf n (written_of g) (bounded_of g)) (sym c.rows.ensures) k) in
    both_ways (c.in_ok-some_row_applies.ensures.complete (written_of g) h a) c.if-not-branch.true

pub returns-clause-applies : goal.returns-clause-applies
returns-clause-applies c found is =
    let g = c.args.sig.now in
    let n = table_of c.args.table.now in
    let k = sig_rows_of c.args.table.now c.valid.ensures g c.requires.sig.kept in
    let h : AreRowsOf n (written_of g) c.bounded.result.now c.rows.result.now = subst (λ (w : Written). AreRowsOf n (written_of g) w c.rows.result.now) (sym c.bounded.ensures) (subst (AreRowsOf n (written_of g) (bounded_of g)) (sym c.rows.ensures) k) in
    c.in_ok-some_row_applies.ensures.sound c.if-not-branch.false (written_of g) h
