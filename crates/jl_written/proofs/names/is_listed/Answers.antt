use Rattle.std.proofs.Common.{◌∙◌, ap, map, Bor, List, ℕ}
use Rattle.jl_program.specs.Names.{is_among}
use Rattle.jl_written.proofs.names.is_listed.Goals as goal

pub returns : goal.returns
returns c = c.is_one_of.ensures ∙ ap (λ (z : List (Bor (List ℕ))). is_among c.args.word.now (map (λ w. w.now) z)) c.as_slice.ensures
