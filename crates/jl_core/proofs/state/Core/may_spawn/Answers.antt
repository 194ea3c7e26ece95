use Rattle.std.proofs.Common.{◌∙◌, ◌↔◌, IsTrue, false, sym, subst, refl, arith}
use Rattle.jl_calculus.specs.Core.{IsFree, HasSeenWorld, Knows, CanSpawn}
use Rattle.jl_core.specs.Kept.{core_of}
use Rattle.jl_core.proofs.AskLemmas.{spawn_where}
use Rattle.jl_core.proofs.EnabledLemmas.{no_where}
use Rattle.jl_core.proofs.KeepLemmas.{count_of}
use Rattle.jl_core.proofs.state.Core.may_spawn.Goals as goal

pub returns-then-len-ge-MOST_TASKS : goal.returns-then-len-ge-MOST_TASKS
returns-then-len-ge-MOST_TASKS c =
    let a = c.self.inside in
    subst (λ s. IsTrue false ↔ CanSpawn s.program s.room s.core c.args.task c.args.start.now) c.self.view_is
    (no_where (λ k. absurd (omega (arith, k.place, c.if-len-ge-MOST_TASKS.true, c.len.ensures, a.tasks.ok.0, count_of _ _ (core_of a) _ c.self.invariant a.tasks.items refl))))

pub returns : goal.returns
returns c =
    let a = c.self.inside in
    let free = subst (λ s. IsFree s.program s.room s.core c.args.task) (sym c.self.view_is) (c.is_free.ensures.0 c.if-not-is_free.false) in
    let world = subst (λ s. HasSeenWorld s.program s.room s.core c.args.task c.args.start.now.world) (sym c.self.view_is) (c.has_seen_world.ensures.0 c.if-not-has_seen_world.false) in
    let known = subst (λ s. IsTrue c.knows_all.result ↔ Knows s.program s.room s.core c.args.task c.as_slice.result.now) (sym c.self.view_is) c.knows_all.ensures in
    subst (λ s. IsTrue c.knows_all.result ↔ CanSpawn s.program s.room s.core c.args.task c.args.start.now) c.self.view_is
    (spawn_where _ _ (core_of a) c.args.task c.args.start.now c.knows_all.result free
    (omega (arith, c.if-len-ge-MOST_TASKS.false, c.len.ensures, a.tasks.ok.0, count_of _ _ (core_of a) _ c.self.invariant a.tasks.items refl))
    (omega (arith, c.if-start-len.false, c.len-2.ensures)) world
    (subst (λ others. IsTrue c.knows_all.result ↔ Knows a.program (record { keys = a.keys; rows = a.rows }) (core_of a) c.args.task others) (c.as_slice.ensures.value ∙ c.in_ok-others.ensures) known))
