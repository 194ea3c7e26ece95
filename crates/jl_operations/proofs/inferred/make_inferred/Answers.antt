use Rattle.std.proofs.Common.{◌≡◌, ◌∙◌, sym, true, false}
use Rattle.jl_operations.proofs.InferLemmas.{infer_low}
use Rattle.jl_operations.proofs.inferred.make_inferred.Goals as goal

pub fields-requires : goal.fields-requires
fields-requires c = infer_low c.args.ready.now c.args.name c.requires.name

pub unreachable-requires : goal.unreachable-requires
unreachable-requires c = let f : true ≡ false = sym c.requires.name.called ∙ c.in-None.ensures in cc

pub returns-clause-answer : goal.returns-clause-answer
returns-clause-answer c = c.make_by.ensures.answer

pub returns-clause-valid : goal.returns-clause-valid
returns-clause-valid c = c.make_by.ensures.valid
