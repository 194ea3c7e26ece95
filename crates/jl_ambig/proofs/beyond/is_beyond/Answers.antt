use Rattle.std.proofs.Common.{ap, sym, subst, arith}
use Rattle.jl_calculus.specs.World.{changes}
use Rattle.jl_ambig.specs.Asked.{components_at, IsEndOf}
use Rattle.jl_ambig.specs.Pairs.{IsUnexamined}
use Rattle.jl_ambig.proofs.StandLemmas.{too_few, taken, stays, decided_no, decided_yes}
use Rattle.jl_ambig.proofs.beyond.is_beyond.Goals as goal

pub returns-then-parts-le-MOST_COMPONENTS-clause-yes : goal.returns-then-parts-le-MOST_COMPONENTS-clause-yes
returns-then-parts-le-MOST_COMPONENTS-clause-yes c = λ es same e.
    let P = c.args.made.now.0 in
    let q = ap (λ R. components_at R c.args.site) c.ready.ensures in
    decided_no (IsUnexamined P es c.args.world) (too_few P es c.args.world c.args.site e (omega (arith, q, c.components-parts.ensures, c.if-parts-le-MOST_COMPONENTS.true)))

pub returns-then-world-end-clause-yes : goal.returns-then-world-end-clause-yes
returns-then-world-end-clause-yes c = λ es same e.
    let P = c.args.made.now.0 in
    let h : IsEndOf P (changes es) c.args.site c.in_ok-end.end = subst (λ cs. IsEndOf P cs c.args.site c.in_ok-end.end) (sym same) c.in_ok-end.ensures.end in
    decided_no (IsUnexamined P es c.args.world) (taken P es c.args.world c.args.site e c.in_ok-end.end h c.if-world-end.true)

pub returns-clause-yes : goal.returns-clause-yes
returns-clause-yes c = λ es same e.
    let P = c.args.made.now.0 in
    let q = ap (λ R. components_at R c.args.site) c.ready.ensures in
    let h : IsEndOf P (changes es) c.args.site c.in_ok-end.end = subst (λ cs. IsEndOf P cs c.args.site c.in_ok-end.end) (sym same) c.in_ok-end.ensures.end in
    decided_yes (IsUnexamined P es c.args.world)
    (stays P es c.args.world c.args.site e c.in_ok-end.end h (omega (arith, q, c.components-parts.ensures, c.if-parts-le-MOST_COMPONENTS.false)) c.if-world-end.false)
