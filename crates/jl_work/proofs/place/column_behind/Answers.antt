use Rattle.std.proofs.Common.{◌∙◌, sym, [], refl, arith}
use Rattle.std.proofs.lemmas.List.{at_drop_all}
use Rattle.jl_work.proofs.PlaceLemmas.{column_from, column_is}
use Rattle.jl_work.proofs.place.column_behind.Goals as goal

pub returns : goal.returns
returns c =
    sym (at_drop_all (column_from c.loop-byte.column) c.args.bytes.now c.loop-byte.byte-index (omega arith)) ∙ c.loop-byte.invariant.rest ∙ column_is 1 [] c.args.bytes.now refl
