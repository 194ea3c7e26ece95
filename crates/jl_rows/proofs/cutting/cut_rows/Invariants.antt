use Rattle.std.proofs.Common.{◌≡◌, take}
use Rattle.jl_rows.specs.Open.{with_cut}
use Rattle.jl_rows.proofs.CutLemmas.{AreCutOf}
use Rattle.jl_rows.proofs.cutting.cut_rows.Given as goal

abbrev pub invariant-loop-number : goal.invariant-loop-number
invariant-loop-number g l = record {
  same : l.book ≡ with_cut l.book.cut l.initial.book;
  cut : AreCutOf g.N.Naming.about.program.value l.initial.book.events (take l.number-index l.touched) l.book.cut;
}
