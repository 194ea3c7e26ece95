use Rattle.jl_operations.proofs.written.keep.Goals as goal

pub make_sig-requires-clause-own : goal.make_sig-requires-clause-own
make_sig-requires-clause-own c = c.requires.own
