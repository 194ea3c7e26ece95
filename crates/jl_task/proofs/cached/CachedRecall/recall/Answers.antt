use Rattle.std.proofs.Common.{sym, subst, map}
use Rattle.jl_program.specs.TypeOf.{type_of}
use Rattle.jl_task.specs.Knows.{IsMethod}
use Rattle.jl_task.proofs.KeptLemmas.{found_right}
use Rattle.jl_task.proofs.cached.CachedRecall.recall.Goals as goal

pub returns-in-Some : goal.returns-in-Some
returns-in-Some g c =
    let kept = c.in-Some.kept.now in
    subst (λ us. IsMethod (g.D.Dispatcher.knows c.args.self.now) c.args.function (map type_of c.args.values.now) c.args.world kept.site us) (sym c.as_slice.ensures)
    (subst (λ v. IsMethod (g.D.Dispatcher.knows v) c.args.function (map type_of c.args.values.now) c.args.world kept.site kept.statics) c.self.view_is
    (found_right (g.D.Dispatcher.knows c.self.inside.inner) c.self.inside.table.items c.args.function (map type_of c.args.values.now) c.args.world kept c.self.invariant.table_is
    (rw (← c.deref.ensures.value) c.in-Some.ensures)))
