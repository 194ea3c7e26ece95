use Rattle.std.proofs.Common.{◌∙◌, sym}
use Rattle.jl_report.specs.declared.entry.Entry.TheVariants as E
use Rattle.jl_replay.proofs.Reading.{entry_read}
use Rattle.jl_replay.proofs.runs.Runs.follow.Goals as goal

pub follow_deletion-requires-clause-entry : goal.follow_deletion-requires-clause-entry
follow_deletion-requires-clause-entry g c = entry_read c.args.entries.now c.args.n c.index-entries-n.result _ c.requires.there c.index-entries-n.is c.in-Del.is

pub follow_spawn-requires-clause-entry : goal.follow_spawn-requires-clause-entry
follow_spawn-requires-clause-entry g c = entry_read c.args.entries.now c.args.n c.index-entries-n.result _ c.requires.there c.index-entries-n.is c.in-Spawn.is

pub follow_end-requires-clause-entry : goal.follow_end-requires-clause-entry
follow_end-requires-clause-entry g c =
    entry_read c.args.entries.now c.args.n c.index-entries-n.result _ c.requires.there c.index-entries-n.is
    (c.in-Done.is ∙ (λ i. E.Done c.in-Done.task c.in-Done.calls (sym c.as_slice-in-Done.ensures i) (sym c.as_slice-in-Done-2.ensures i) c.in-Done.ending))
