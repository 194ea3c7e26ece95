use Rattle.std.proofs.Common.{◌∙◌, ap, arith, length}
use Rattle.jl_lead.proofs.past.Past.len.Goals as goal

pub overflow_cast-result : goal.overflow_cast-result
overflow_cast-result c =
    let d = c.self.inside in
    let h = c.self.invariant in
    let s = h.short in
    let e = c.len.ensures ∙ d.events.ok.0 in
    omega (arith, e, s)

pub returns : goal.returns
returns c = let d = c.self.inside in c.len.ensures ∙ d.events.ok.0 ∙ ap (λ v. length v.1) c.self.view_is
