use Rattle.std.proofs.Common.{sym, subst}
use Rattle.jl_operations.specs.Prepared.{IsFormOf}
use Rattle.jl_operations.proofs.PreparedLemmas.{kept_struct}
use Rattle.jl_operations.proofs.FormLemmas.{first_part}
use Rattle.jl_operations.proofs.QuestionLemmas.{kept_allowed}
use Rattle.jl_operations.proofs.memo.form_of.Goals as goal

pub norm-requires : goal.norm-requires
norm-requires c =
    let p = first_part c.args.table.now c.args.written.now.parts c.as_slice.result.now c.index-as_slice-0.result c.requires.parts c.as_slice.ensures c.index-as_slice-0.is in
    p.1.known

pub returns-in-Ok : goal.returns-in-Ok
returns-in-Ok c =
    let ds = c.args.table.now in
    let p = first_part ds c.args.written.now.parts c.as_slice.result.now c.index-as_slice-0.result c.requires.parts c.as_slice.ensures c.index-as_slice-0.is in
    let r = c.in-Ok.ensures in
    let f : IsFormOf ds c.index-as_slice-0.result c.in-Ok.form = record { within = r.within; form = r.form; small = r.small; fits = r.fits; known = r.known; closed = r.closed; counted = r.counted } in
    record {
      own = c.requires.body.own;
      allowed = kept_allowed ds c.args.written.now c.args.kept.now c.in-Some.field-0.now c.requires.kept c.in-Some.ensures;
      form = subst (λ t. IsFormOf ds t c.in-Ok.form) (sym p.2) f;
      struct = kept_struct ds c.valid.ensures c.index-as_slice-0.result c.in-Ok.form p.1 f;
    }
