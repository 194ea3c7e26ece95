use Rattle.std.proofs.Common.{sym, subst, get_or, take, ◌+◌}
use Rattle.std.specs.List.{Contains}
use Rattle.std.specs.List.Sorted.{IsStrictlyIncreasing}
use Rattle.jl_methods.specs.Links.{IsLast, IsMadeBy}
use Rattle.jl_methods.specs.Room.{items_of}
use Rattle.jl_methods.proofs.LastLemmas.{last_step}
use Rattle.jl_methods.proofs.links.Links.last_of.Goals as goal

pub loop-number-preserved : goal.loop-number-preserved
loop-number-preserved c = λ o.
    let ls = items_of c.args.self.now.worlds in
    let ks = c.args.numbers.now in
    let i = c.loop-number.number-index in
    let w = c.args.world in
    let one = c.last_up_to-one.result in
    let h = subst (λ ws. IsLast (λ x. Contains ws x) w one) c.get.ensures (c.last_up_to-one.ensures (subst IsStrictlyIncreasing (sym c.get.ensures) (o (get_or ks i 0)))) in
    subst (IsLast (IsMadeBy ls (take (i + 1) ks)) w) (sym c.max-last.ensures) (last_step ls ks i c.loop-number-test.true w one c.loop-number.last h (c.loop-number.invariant o))
