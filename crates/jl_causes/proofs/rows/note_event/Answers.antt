use Rattle.std.proofs.Common.{sym, subst}
use Rattle.jl_calculus.specs.Ranges.{keys_of, rows_of}
use Rattle.jl_calculus.specs.World.{changes}
use Rattle.jl_methods.specs.Indexed.{AreFilters}
use Rattle.jl_causes.proofs.rows.note_event.Goals as goal

pub returns : goal.returns
returns c =
    let P = c.args.ready.now in
    λ es h m.
    c.note.ensures es (subst (AreFilters P (changes es) (keys_of es) (rows_of es)) (sym c.reserve.ensures.kept) h) m
