use Rattle.std.proofs.Common.{sym, refl, true≢false}
use Rattle.std.proofs.lemmas.Bool.{both_ways}
use Rattle.jl_sig.specs.SigParts.{written_of}
use Rattle.jl_subsig.proofs.StandingLemmas.{alike_same, same_by, same_from}
use Rattle.jl_subsig.proofs.standing.is_same_at.Goals as goal

pub returns-then-is_written_alike : goal.returns-then-is_written_alike
returns-then-is_written_alike c = (λ e. alike_same c.args.ready.now c.valid.ensures c.args.site c.args.place c.requires.site (c.is_written_alike.ensures c.if-is_written_alike.true), λ s. refl)

pub returns-then-not-branch : goal.returns-then-not-branch
returns-then-not-branch c = (
  λ e. absurd (true≢false (sym e)),
  λ s. absurd (both_ways c.in_ok-sig_sub.field-0 c.if-not-branch.true (c.in_ok-sig_sub.ensures.1
      (same_from c.args.ready.now c.args.site c.args.place c.table-table.result.now (written_of c.sig-sig.result.now) (written_of c.delete_sig-other.result.now) c.table-table.ensures c.sig-sig.ensures.written
      c.delete_sig-other.ensures.written s).0)),
)

pub returns : goal.returns
returns c = (
  λ e. same_by c.args.ready.now c.args.site c.args.place c.table-table.result.now (written_of c.sig-sig.result.now) (written_of c.delete_sig-other.result.now) c.table-table.ensures c.sig-sig.ensures.written
      c.delete_sig-other.ensures.written (c.in_ok-sig_sub.ensures.0 c.if-not-branch.false) (c.in_ok-is_above.ensures.0 e),
  λ s. c.in_ok-is_above.ensures.1
      (same_from c.args.ready.now c.args.site c.args.place c.table-table.result.now (written_of c.sig-sig.result.now) (written_of c.delete_sig-other.result.now) c.table-table.ensures c.sig-sig.ensures.written
      c.delete_sig-other.ensures.written s).1,
)
