use Rattle.std.proofs.Common.{ap}
use Rattle.jl_program.specs.Meaning.{datum}
use Rattle.jl_calculus.proofs.SameLemmas.{same_value}
use Rattle.jl_calculus.proofs.same.ValueSame.same.Goals as goal

pub returns : goal.returns
returns c = ((λ h. same_value c.args.self.now c.args.other.now (c.egal.ensures.0 h)), (λ h. c.egal.ensures.1 (ap datum h)))
