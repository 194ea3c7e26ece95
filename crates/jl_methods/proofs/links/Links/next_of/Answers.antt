use Rattle.std.proofs.Common.{◌+◌, arith, sym, subst, get_or, take}
use Rattle.std.specs.List.{Contains}
use Rattle.std.specs.List.Sorted.{IsStrictlyIncreasing}
use Rattle.std.proofs.lemmas.List.{take_all}
use Rattle.jl_methods.specs.Links.{IsNext, IsMadeBy}
use Rattle.jl_methods.specs.Room.{items_of}
use Rattle.jl_methods.proofs.LastLemmas.{next_step}
use Rattle.jl_methods.proofs.links.Links.next_of.Goals as goal

pub loop-number-preserved : goal.loop-number-preserved
loop-number-preserved c = λ o.
    let ls = items_of c.args.self.now.worlds in
    let ks = c.args.numbers.now in
    let i = c.loop-number.number-index in
    let w = c.args.world in
    let one = c.next_after-one.result in
    let h = subst (λ ws. IsNext (λ x. Contains ws x) w one) c.get.ensures (c.next_after-one.ensures (subst IsStrictlyIncreasing (sym c.get.ensures) (o (get_or ks i 0)))) in
    subst (IsNext (IsMadeBy ls (take (i + 1) ks)) w) (sym c.earlier-next.ensures) (next_step ls ks i c.loop-number-test.true w one c.loop-number.next h (c.loop-number.invariant o))

pub returns : goal.returns
returns c = λ o.
    let ls = items_of c.args.self.now.worlds in
    let ks = c.args.numbers.now in
    subst (λ ks. IsNext (IsMadeBy ls ks) c.args.world c.loop-number.next) (take_all c.loop-number.number-index ks (omega (arith, c.loop-number-test.false))) (c.loop-number.invariant o)
