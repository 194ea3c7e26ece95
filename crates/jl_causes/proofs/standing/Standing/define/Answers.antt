use Rattle.std.proofs.Common.{refl}
use Rattle.jl_causes.proofs.SiteLemmas.{standing_defined}
use Rattle.jl_causes.proofs.standing.Standing.define.Goals as goal

pub returns : goal.returns
returns c = λ P cs h at.
    standing_defined P cs c.args.self.now (record { alike = c.args.self.now.alike; made = c.put.new.self; gone = c.args.self.now.gone }) h c.args.world at refl c.args.site c.requires c.in_ok-put.ensures refl
