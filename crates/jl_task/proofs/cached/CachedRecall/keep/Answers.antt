use Rattle.std.proofs.Common.{sym, subst}
use Rattle.jl_task.specs.Knows.{Asked, IsMethod}
use Rattle.jl_task.proofs.KeptLemmas.{asked_nothing}
use Rattle.jl_task.proofs.NumberLemmas.{remembered_with}
use Rattle.jl_task.proofs.cached.CachedRecall.keep.Goals as goal

pub invariant_of-self : goal.invariant_of-self
invariant_of-self g c =
    let right = subst (λ v. IsMethod (g.D.Dispatcher.knows v) c.args.key.function c.args.key.types c.args.world c.args.site c.args.statics) (sym c.self.view_is) c.requires in
    remembered_with _ _ c.self.inside.table.items c.keep.new.table.items c.self.inside.numbers.items c.keep_number.new.numbers.items c.keep.ensures c.keep_number.ensures right c.self.invariant

pub returns : goal.returns
returns g c =
    subst (λ v. Asked (g.D.Dispatcher.knows c.args.self.now) (g.D.Dispatcher.knows v)) (sym c.self.view_is) (asked_nothing (g.D.Dispatcher.knows c.args.self.now))
