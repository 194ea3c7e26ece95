use Rattle.jl_declare.proofs.StepLemmas.{own_read}
use Rattle.jl_declare.proofs.declarations.add.Goals as goal

pub judgement-requires-clause-own : goal.judgement-requires-clause-own
judgement-requires-clause-own c =
    own_read c.args.state.now.decls c.read.new.decls c.args.kind c.args.header.now c.args.fields.now c.in_ok-read.read c.in_ok-read.ensures.means c.in_ok-read.ensures.kept
