use Rattle.std.proofs.Common.{sym, subst}
use Rattle.std.specs.List.{Contains}
use Rattle.std.specs.List.Sorted.{IsStrictlyIncreasing}
use Rattle.jl_methods.specs.Links.{IsLast}
use Rattle.jl_methods.proofs.TouchLemmas.{increases}
use Rattle.jl_causes.proofs.lists.Lists.last.Goals as goal

pub returns : goal.returns
returns c = λ rises.
    subst (λ ns. IsLast (λ n. Contains ns n) c.args.most c.last_up_to.result) c.get.ensures (c.last_up_to.ensures (subst IsStrictlyIncreasing (sym c.get.ensures) (increases _ rises)))
