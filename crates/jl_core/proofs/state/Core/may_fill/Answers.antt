use Rattle.std.proofs.Common.{◌∙◌, ◌↔◌, IsTrue, false, ap, sym, subst, arith}
use Rattle.jl_calculus.specs.Core.{IsFree, HasSeen, CanFill}
use Rattle.jl_calculus.proofs.GrowthLemmas.{first_at_most}
use Rattle.jl_core.specs.Asked.{HasMethod, any_reached}
use Rattle.jl_core.specs.Kept.{core_of}
use Rattle.jl_core.proofs.AskLemmas.{is_there, fill_where}
use Rattle.jl_core.proofs.EnabledLemmas.{no_where}
use Rattle.jl_core.proofs.state.Core.may_fill.Goals as goal

pub returns-then-is_covered : goal.returns-then-is_covered
returns-then-is_covered c =
    let a = c.self.inside in
    let any = ap (any_reached c.args.key c.args.world) (sym c.as_slice.ensures.value) ∙ sym c.is_covered.ensures ∙ c.if-is_covered.true in
    subst (λ s. IsTrue false ↔ CanFill s.program s.room s.core c.args.task c.args.key c.args.world) c.self.view_is
    (no_where (is_there _ _ (core_of a) _ c.self.invariant c.args.task c.args.key c.args.world any))

pub has_method-requires-clause-high : goal.has_method-requires-clause-high
has_method-requires-clause-high c =
    let k = c.has_seen.ensures.0 c.if-not-has_seen.false in
    omega (arith, k.high, first_at_most c.args.self.now.core.events k.state.seen)

pub returns : goal.returns
returns c =
    let a = c.self.inside in
    let none = ap (any_reached c.args.key c.args.world) (sym c.as_slice.ensures.value) ∙ sym c.is_covered.ensures ∙ c.if-is_covered.false in
    let free = subst (λ s. IsFree s.program s.room s.core c.args.task) (sym c.self.view_is) (c.is_free.ensures.0 c.if-not-is_free.false) in
    let seen = subst (λ s. HasSeen s.program s.room s.core c.args.task c.args.key c.args.world) (sym c.self.view_is) (c.has_seen.ensures.0 c.if-not-has_seen.false) in
    let chosen = subst (λ s. IsTrue c.in_ok-chosen.chosen ↔ HasMethod s.program s.core.events c.args.key c.args.world) (sym c.self.view_is) c.in_ok-chosen.ensures in
    subst (λ s. IsTrue c.in_ok-chosen.chosen ↔ CanFill s.program s.room s.core c.args.task c.args.key c.args.world) c.self.view_is
    (fill_where _ _ (core_of a) _ c.self.invariant c.args.task c.args.key c.args.world c.in_ok-chosen.chosen free seen (omega (arith, c.if-len-self.false, c.len.ensures, a.words.ok.0)) none chosen)
