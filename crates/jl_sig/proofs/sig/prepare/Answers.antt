use Rattle.std.proofs.Common.{sym, subst, map, MatchOption}
use Rattle.jl_model.specs.Ancestors.{table_of}
use Rattle.jl_model.specs.SigRefusals.{ManyRows}
use Rattle.jl_sig.specs.Parts.{all_given}
use Rattle.jl_sig.specs.Built.{listed}
use Rattle.jl_sig.specs.Prepared.{IsExpandable, AreAllRows}
use Rattle.jl_sig.proofs.SigLemmas.{buildable, no_limit}
use Rattle.jl_sig.proofs.sig.prepare.Goals as goal

pub all_rows-requires-clause-expandable : goal.all_rows-requires-clause-expandable
all_rows-requires-clause-expandable c =
    let ds = c.args.table.now in
    let s = c.args.written.now in
    let f = c.in_ok-forms.forms in
    let h = c.in_ok-forms.ensures.forms in
    subst (IsExpandable ds s) (sym c.as_slice-2.ensures) (buildable ds c.valid.ensures s c.requires h.few h.narrow f.bounds (all_given f.arguments.items) h.bounds h.arguments).rows

pub sig_of-requires-clause-buildable : goal.sig_of-requires-clause-buildable
sig_of-requires-clause-buildable c =
    let f = c.in_ok-forms.forms in
    let h = c.in_ok-forms.ensures.forms in
    buildable c.args.table.now c.valid.ensures c.args.written.now c.requires h.few h.narrow f.bounds (all_given f.arguments.items) h.bounds h.arguments

pub sig_of-requires-clause-small : goal.sig_of-requires-clause-small
sig_of-requires-clause-small c =
    let ds = c.args.table.now in
    let s = c.args.written.now in
    let f = c.in_ok-forms.forms in
    let h = c.in_ok-forms.ensures.forms in
    let r : AreAllRows (table_of ds) s (map listed c.in-Some.rows.items) = subst (λ o. MatchOption o (ManyRows (table_of ds) s) (λ rows. AreAllRows (table_of ds) s (map listed rows.items))) c.in-Some.is c.in_ok-rows.ensures in
    no_limit ds c.valid.ensures s c.requires h.few h.narrow f.bounds (all_given f.arguments.items) h.bounds h.arguments (map listed c.in-Some.rows.items) r

pub sig_of-requires-clause-rows : goal.sig_of-requires-clause-rows
sig_of-requires-clause-rows c =
    let ds = c.args.table.now in
    let s = c.args.written.now in
    let r : AreAllRows (table_of ds) s (map listed c.in-Some.rows.items) = subst (λ o. MatchOption o (ManyRows (table_of ds) s) (λ rows. AreAllRows (table_of ds) s (map listed rows.items))) c.in-Some.is c.in_ok-rows.ensures in
    subst (λ z. AreAllRows (table_of ds) s (map listed z)) (sym c.as_slice-4.ensures.value) r

pub returns-clause-kept : goal.returns-clause-kept
returns-clause-kept c =
    let ds = c.args.table.now in
    let s = c.args.written.now in
    let f = c.in_ok-forms.forms in
    let h = c.in_ok-forms.ensures.forms in
    let r : AreAllRows (table_of ds) s (map listed c.in-Some.rows.items) = subst (λ o. MatchOption o (ManyRows (table_of ds) s) (λ rows. AreAllRows (table_of ds) s (map listed rows.items))) c.in-Some.is c.in_ok-rows.ensures in
    record {
      written = c.in_ok-sig.ensures.written;
      kept = c.in_ok-sig.ensures.kept;
      arguments = h.arguments;
      small = no_limit ds c.valid.ensures s c.requires h.few h.narrow f.bounds (all_given f.arguments.items) h.bounds h.arguments (map listed c.in-Some.rows.items) r;
    }
