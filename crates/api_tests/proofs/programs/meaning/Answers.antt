use Rattle.jl_work.proofs.ReadingLemmas.{formed}
use Rattle.api_tests.proofs.programs.meaning.Goals as goal

pub program-requires : goal.program-requires
program-requires c = formed c.args.source.now c.args.script.now c.requires
