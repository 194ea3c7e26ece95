use Rattle.std.proofs.Common.{ℕ, suc, ◌≡◌, ◌-◌, ◌≤◌, ⊎_elim, true≢false, refl, sym, ◌∙◌, subst, arith}
use Rattle.jl_world.specs.declared.view.TaskView.{TaskView}
use Rattle.jl_world.specs.declared.row_word.RowWord.TheVariants.{Site, First, Last, Next, Top}
use Rattle.jl_calculus.specs.Learnt.{IsUncovered}
use Rattle.jl_calculus.specs.World.{world_of}
use Rattle.jl_world.specs.Tells.{IsRowWord}
use Rattle.jl_world.proofs.Growth.{worlds_grow}
use Rattle.jl_cache.specs.Finds.{IsHit, Reaches}
use Rattle.jl_cache.proofs.Linked.{head_link}
use Rattle.jl_cache.proofs.Tried.{Tried, tried_first, find_hit, find_on, find_stop, tried_all, told_at}
use Rattle.jl_cache.proofs.cache.Cache.find.Given as given
use Rattle.jl_cache.proofs.cache.Cache.find.Goals as goal

pub loop-link-init : goal.loop-link-init
loop-link-init g c =
    let h = c.load_head-head.ensures in
    (refl, tried_first _ _ c.args.key c.args.world _ (head_link c.load_head-head.new.seat.seen c.args.key c.load_head-head.result h.head (omega (arith, h.few))))

pub returns-then-covers-clause-found : goal.returns-then-covers-clause-found
returns-then-covers-clause-found g c =
    let P = g.N.Naming.about.program.value in
    let i = c.loop-link.invariant in
    let at = c.load_head-head.new.seat in
    let j : ℕ = c.loop-link.link - 1 in
    let one = c.load_row-first.ensures in
    let two = c.load_row-last.ensures in
    let three = c.load_row-site.ensures in
    let here : c.loop-link.link ≡ suc j = omega (arith, c.loop-link-test.true) in
    let low : c.args.world ≤ world_of at.seen = omega (arith, c.requires.world, worlds_grow c.args.seat.now.seen at.seen c.load_head-head.ensures.seen) in
    let yes = subst (λ (w : ℕ). (c.load_row-first.result ≤ w) × Reaches c.load_row-last.result w) c.from.ensures (c.covers.ensures.0 c.if-covers.true) in
    subst (λ (v : TaskView). IsHit P v.seen c.args.key c.args.world c.load_row-site.result) (sym (three.same ∙ two.same ∙ one.same ∙ i.0))
    (find_hit P at.seen c.args.key c.args.world j c.load_row-first.result c.load_row-last.result c.load_row-site.result (subst (Tried P at.seen c.args.key c.args.world) here i.1) low
    (told_at P c.loop-link.seat at j _ First i.0 one.word) (told_at P c.load_row-first.new.seat at j _ Last (one.same ∙ i.0) two.word)
    (told_at P c.load_row-last.new.seat at j _ Site (two.same ∙ one.same ∙ i.0) three.word) yes.0 yes.1)

-- where the row does not cover the world, the search goes on at its next, or ends
on : (g : given.Over) (c : goal.After-next_to_try-next g)
    → Tried g.N.Naming.about.program.value c.load_head-head.new.seat.seen c.args.key c.args.world c.next_to_try-next.result × (c.next_to_try-next.result ≤ c.loop-link.link - 1)
on g c =
    let P = g.N.Naming.about.program.value in
    let i = c.loop-link.invariant in
    let at = c.load_head-head.new.seat in
    let j : ℕ = c.loop-link.link - 1 in
    let one = c.load_row-first.ensures in
    let two = c.load_row-last.ensures in
    let here : c.loop-link.link ≡ suc j = omega (arith, c.loop-link-test.true) in
    let low : c.args.world ≤ world_of at.seen = omega (arith, c.requires.world, worlds_grow c.args.seat.now.seen at.seen c.load_head-head.ensures.seen) in
    let tried = subst (Tried P at.seen c.args.key c.args.world) here i.1 in
    let first = told_at P c.loop-link.seat at j c.load_row-first.result First i.0 one.word in
    let last = told_at P c.load_row-first.new.seat at j c.load_row-last.result Last (one.same ∙ i.0) two.word in
    let fails : c.load_row-first.result ≤ c.args.world → Reaches c.load_row-last.result c.args.world → ⊥ =
    λ le reach. true≢false (sym (c.covers.ensures.1 (subst (λ (w : ℕ). (c.load_row-first.result ≤ w) × Reaches c.load_row-last.result w) (sym c.from.ensures) (le, reach))) ∙ c.if-covers.false) in
    ⊎_elim (λ (n : IsRowWord P c.load_row-last.new.seat.seen j Next c.next_to_try-next.result).
    find_on P at.seen c.args.key c.args.world j c.load_row-first.result c.load_row-last.result c.next_to_try-next.result tried low first last (told_at P c.load_row-last.new.seat at j _ Next (two.same ∙ one.same ∙ i.0) n) fails)
    (λ (s : (c.next_to_try-next.result ≡ 0) × (c.load_row-first.result ≤ c.args.world) × IsRowWord P c.load_row-last.new.seat.seen j Top c.load_row-first.result). (
      subst (Tried P at.seen c.args.key c.args.world) (sym s.0)
          (find_stop P at.seen c.args.key c.args.world j c.load_row-first.result c.load_row-last.result tried low first last (told_at P c.load_row-last.new.seat at j _ Top (two.same ∙ one.same ∙ i.0) s.2) s.1 fails),
      omega (arith, s.0),
    )) c.next_to_try-next.ensures.next

pub overflow_cast-link-in-loop-link : goal.overflow_cast-link-in-loop-link
overflow_cast-link-in-loop-link g c = omega (arith, (on g c).1, c.loop-link.auto.link-fits)

pub loop-link-smaller : goal.loop-link-smaller
loop-link-smaller g c = omega (arith, (on g c).1, c.loop-link-test.true)

pub loop-link-preserved : goal.loop-link-preserved
loop-link-preserved g c = (c.next_to_try-next.ensures.same ∙ c.load_row-last.ensures.same ∙ c.load_row-first.ensures.same ∙ c.loop-link.invariant.0, (on g c).0)

-- no row is left
none_left : (g : given.Over) (c : goal.After-of-seen g) → IsUncovered g.N.Naming.about.program.value c.loop-link.seat.seen c.args.key c.args.world
none_left g c =
    let P = g.N.Naming.about.program.value in
    let i = c.loop-link.invariant in
    let zero_link : c.loop-link.link ≡ 0 = omega (arith, c.loop-link-test.false) in
    subst (λ (v : TaskView). IsUncovered P v.seen c.args.key c.args.world) (sym i.0)
    (tried_all P c.load_head-head.new.seat.seen c.args.key c.args.world (subst (Tried P c.load_head-head.new.seat.seen c.args.key c.args.world) zero_link i.1))

pub invariant_of-result : goal.invariant_of-result
invariant_of-result g c = subst (λ (v : TaskView). IsUncovered g.N.Naming.about.program.value v.seen c.args.key c.args.world) (sym c.of-seen.ensures) (none_left g c)

pub returns-clause-found : goal.returns-clause-found
returns-clause-found g c = none_left g c
