use Rattle.jl_choosing.proofs.LatestLemmas.{kept_sifted}
use Rattle.jl_choosing.proofs.changes.Methods.sift.Goals as goal

pub invariant_of-self : goal.invariant_of-self
invariant_of-self c =
    let m = c.self.inside in
    (kept_sifted m.all.items m.latest.items c.in-Ok.latest.items c.as_slice.result.now c.self.invariant.0 c.as_slice.ensures.value c.in-Ok.ensures, c.self.invariant.1)
