use Rattle.std.proofs.Common.{◌∙◌, ap, arith}
use Rattle.jl_calculus.specs.Past.{tasks_of}
use Rattle.jl_lead.proofs.past.Past.tasks.Goals as goal

pub returns-clause-exact : goal.returns-clause-exact
returns-clause-exact c = let h = c.self.invariant in h.tasks_are ∙ ap (λ v. tasks_of v.1) c.self.view_is

pub returns-clause-most : goal.returns-clause-most
returns-clause-most c = let h = c.self.invariant in let t = h.tasks_are in let f = h.few in omega (arith, t, f)
