use Rattle.std.proofs.Common.{◌∙◌, ap, arith, sym, subst, get_or}
use Rattle.std.specs.Global.{Vec}
use Rattle.std.specs.List.{Contains}
use Rattle.std.specs.List.Sorted.{IsStrictlyIncreasing}
use Rattle.std.proofs.lemmas.List.{take_all}
use Rattle.jl_methods.specs.Links.{IsLast, AreLastDels}
use Rattle.jl_methods.specs.Room.{items_of}
use Rattle.jl_methods.proofs.LastLemmas.{dels_more, dels_none}
use Rattle.jl_methods.proofs.links.Links.latest_dels.Goals as goal
use Rattle.jl_methods.proofs.links.Links.latest_dels.Goals.{then-last-gt0+in_ok-push, else-last-gt0}

pub loop-place-preserved : goal.loop-place-preserved
loop-place-preserved c = λ o.
    let ls = items_of c.args.self.now.worlds in
    let ks = c.args.places.now in
    let i = c.loop-place.place-index in
    let w = c.args.world in
    let one = c.last_up_to-last.result in
    let h = subst (λ ws. IsLast (λ x. Contains ws x) w one) c.get.ensures (c.last_up_to-last.ensures (subst IsStrictlyIncreasing (sym c.get.ensures) (o (get_or ks i 0)))) in
    elim c.if-last-gt0.branch [
      | then-last-gt0+in_ok-push b ↦
          dels_more ls ks i c.loop-place-test.true w one h (omega (arith, b.if-last-gt0.true)) c.loop-place.those.items c.if-last-gt0.those.items
          (ap (λ (v : Vec _). v.items) b.those-is ∙ b.in_ok-push.ensures.items) (c.loop-place.invariant o)
      | else-last-gt0 b ↦
          dels_none ls ks i c.loop-place-test.true w one h (λ p. omega (arith, p, b.if-last-gt0.false)) c.loop-place.those.items c.if-last-gt0.those.items
          (ap (λ (v : Vec _). v.items) b.those-is) (c.loop-place.invariant o)
    ]

pub returns : goal.returns
returns c = λ o.
    let ls = items_of c.args.self.now.worlds in
    let ks = c.args.places.now in
    subst (λ ks. AreLastDels ls ks c.args.world c.loop-place.those.items) (take_all c.loop-place.place-index ks (omega (arith, c.loop-place-test.false))) (c.loop-place.invariant o)
