use Rattle.std.proofs.Common.{◌+◌, ◌*◌, ap}
use Rattle.jl_sig.proofs.PlacedLemmas.{atoms_step}
use Rattle.jl_sig.proofs.variables.atoms.Goals as goal

pub loop-i-preserved : goal.loop-i-preserved
loop-i-preserved c =
    let w = c.len-width.result in
    let i = c.loop-i.i in
    atoms_step c.args.written.now c.args.variable i c.args.alternatives.now (c.args.variable + w * (i + 1)) c.loop-i.atoms.items c.push.new.self.items c.loop-i-test.true
    (ap (λ z. c.args.variable + z * (i + 1)) c.len-width.ensures) c.in_ok-push.ensures.items c.loop-i.invariant
