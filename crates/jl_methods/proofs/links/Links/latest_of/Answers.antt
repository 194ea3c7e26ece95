use Rattle.std.proofs.Common.{◌∙◌, ap, arith, sym, subst, eqb, ◌<◌, get_or, ℕ}
use Rattle.std.specs.Prelude.{◌↔◌}
use Rattle.std.specs.Global.{Vec}
use Rattle.std.specs.List.{Contains}
use Rattle.std.specs.List.Sorted.{IsStrictlyIncreasing}
use Rattle.std.proofs.lemmas.List.{take_all}
use Rattle.std.proofs.lemmas.List.Filters.{dedup_is}
use Rattle.jl_methods.specs.Links.{IsLast, IsLastMade}
use Rattle.jl_methods.specs.Room.{items_of}
use Rattle.jl_methods.proofs.LastLemmas.{latest_more, latest_none}
use Rattle.jl_methods.proofs.StepLemmas.{same_sorted, sorted_rises}
use Rattle.jl_methods.proofs.links.Links.latest_of.Goals as goal
use Rattle.jl_methods.proofs.links.Links.latest_of.Goals.{then-last-gt0+in_ok-push, else-last-gt0}

pub loop-number-preserved : goal.loop-number-preserved
loop-number-preserved c = λ o.
    let ls = items_of c.args.self.now.worlds in
    let ks = c.args.numbers.now in
    let i = c.loop-number.number-index in
    let w = c.args.world in
    let one = c.last_up_to-last.result in
    let h = subst (λ ws. IsLast (λ x. Contains ws x) w one) c.get.ensures (c.last_up_to-last.ensures (subst IsStrictlyIncreasing (sym c.get.ensures) (o (get_or ks i 0)))) in
    elim c.if-last-gt0.branch [
      | then-last-gt0+in_ok-push b ↦
          latest_more ls ks i c.loop-number-test.true w one h (omega (arith, b.if-last-gt0.true)) c.loop-number.those.items c.if-last-gt0.those.items
          (ap (λ (v : Vec _). v.items) b.those-is ∙ b.in_ok-push.ensures.items) (c.loop-number.invariant o)
      | else-last-gt0 b ↦
          latest_none ls ks i c.loop-number-test.true w one h (λ p. omega (arith, p, b.if-last-gt0.false)) c.loop-number.those.items c.if-last-gt0.those.items
          (ap (λ (v : Vec _). v.items) b.those-is) (c.loop-number.invariant o)
    ]

pub returns : goal.returns
returns c = λ o.
    let ls = items_of c.args.self.now.worlds in
    let ks = c.args.numbers.now in
    let w = c.args.world in
    let those = c.loop-number.those.items in
    let all = c.dedup.new.self.items in
    let sorted = c.sort_unstable.new.self.items in
    let once = dedup_is eqb sorted all c.dedup.ensures.filtered in
    let are : (d : ℕ) → Contains those d ↔ IsLastMade ls ks w d =
    subst (λ ks. (d : ℕ) → Contains those d ↔ IsLastMade ls ks w d) (take_all c.loop-number.number-index ks (omega (arith, c.loop-number-test.false))) (c.loop-number.invariant o)
    in
    record {
      exact = λ d. (let same = same_sorted those sorted all c.sort_unstable.ensures.permutation once d in (λ i. (are d).0 (same.0 i), λ m. same.1 ((are d).1 m)));
      rises = sorted_rises sorted all c.sort_unstable.ensures.sorted once;
    }
