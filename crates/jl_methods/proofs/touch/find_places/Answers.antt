use Rattle.std.proofs.Common.{◌∙◌, ◌<◌, ap, arith, sym, subst, length}
use Rattle.std.specs.Global.{Vec}
use Rattle.std.proofs.lemmas.Bool.{both_ways}
use Rattle.jl_program.specs.declared.tree.Program.{Program}
use Rattle.jl_calculus.specs.declared.history.Change.TheVariants as Ch
use Rattle.jl_calculus.specs.Ranges.{head_of, HeadTouches}
use Rattle.jl_methods.specs.Links.{AreNumbers}
use Rattle.jl_methods.proofs.LinkLemmas.{place_bound, walk_none, walk_more, walk_same, walk_whole}
use Rattle.jl_methods.proofs.touch.find_places.Goals as goal
use Rattle.jl_methods.proofs.touch.find_places.Goals.{then-branch+in_ok-push, else-branch}

pub touches-requires-clause-change : goal.touches-requires-clause-change
touches-requires-clause-change c = omega (arith, c.loop-place-test.true, c.in_ok-count.ensures, c.len.ensures, ap (λ (p : Program). length p.deletes) c.program.ensures)

pub loop-place-init : goal.loop-place-init
loop-place-init c =
    let P = c.args.ready.now in
    subst (AreNumbers (λ m. (m < 0) × HeadTouches P (head_of P (Ch.Del m)) c.args.key.now)) (sym c.new-those.ensures.items) (walk_none (λ m. HeadTouches P (head_of P (Ch.Del m)) c.args.key.now))

pub loop-place-preserved : goal.loop-place-preserved
loop-place-preserved c =
    let P = c.args.ready.now in
    let n = c.loop-place.place in
    elim c.if-branch.branch [
      | then-branch+in_ok-push b ↦
          walk_more (λ m. HeadTouches P (head_of P (Ch.Del m)) c.args.key.now) n c.loop-place.those.items c.loop-place.invariant (c.in_ok-touches.ensures.0 b.if-branch.true) c.if-branch.those.items
          (ap (λ (v : Vec _). v.items) b.those-is ∙ b.in_ok-push.ensures.items)
      | else-branch b ↦
          walk_same (λ m. HeadTouches P (head_of P (Ch.Del m)) c.args.key.now) n c.loop-place.those.items c.loop-place.invariant
          (λ a. both_ways c.in_ok-touches.field-0 b.if-branch.false (c.in_ok-touches.ensures.1 a)) c.if-branch.those.items (ap (λ (v : Vec _). v.items) b.those-is)
    ]

pub returns : goal.returns
returns c =
    let P = c.args.ready.now in
    walk_whole (λ m. HeadTouches P (head_of P (Ch.Del m)) c.args.key.now) c.loop-place.place c.loop-place.those.items c.loop-place.invariant (length P.deletes)
    (omega (arith, c.loop-place-test.false, c.in_ok-count.ensures, c.len.ensures, ap (λ (p : Program). length p.deletes) c.program.ensures))
    (λ m t. place_bound P m c.args.key.now t)
