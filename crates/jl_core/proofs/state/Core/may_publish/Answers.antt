use Rattle.std.proofs.Common.{◌↔◌, IsTrue, true, false, ap, sym, subst, arith}
use Rattle.jl_calculus.specs.Core as C
use Rattle.jl_core.specs.Kept.{core_of, opened_of}
use Rattle.jl_core.proofs.EnabledLemmas.{yes_where, no_where, below_one, not_both, some_left, none_left}
use Rattle.jl_core.proofs.KeepLemmas.{few_words}
use Rattle.jl_core.proofs.state.Core.may_publish.Goals as goal

pub overflow_cast-count : goal.overflow_cast-count
overflow_cast-count c =
    let a = c.self.inside in
    let l = few_words _ _ (core_of a) _ c.self.invariant in
    omega (arith, l, c.len-count.ensures, a.words.ok.0)

pub loop-row-preserved : goal.loop-row-preserved
loop-row-preserved c =
    below_one (λ r. C.CanCut c.args.self.now.program c.args.self.now.room c.args.self.now.core r) c.loop-row.row c.loop-row.invariant (λ k. not_both c.in_ok-left.left (c.in_ok-left.ensures.1 k) c.if-left.false)

pub returns-then-left : goal.returns-then-left
returns-then-left c =
    let a = c.self.inside in
    subst (λ s. IsTrue false ↔ C.CanPublish s.program s.room s.core) c.self.view_is
    (no_where
    (some_left _ _ (core_of a) _ c.self.invariant c.loop-row.row (subst (λ s. C.CanCut s.program s.room s.core c.loop-row.row) (sym c.self.view_is) (c.in_ok-left.ensures.0 c.if-left.true))))

pub returns : goal.returns
returns c =
    let a = c.self.inside in
    let o : C.Opened = record { task = c.in-Some.field-0.task; change = c.in-Some.field-0.change; cut = a.cut.items } in
    subst (λ s. IsTrue true ↔ C.CanPublish s.program s.room s.core) c.self.view_is
    (yes_where
    (none_left _ _ (core_of a) _ c.self.invariant o (ap (λ x. opened_of x a.cut.items) c.in-Some.is)
    (λ r l k. c.loop-row.invariant r (omega (arith, l, c.loop-row-test.false, c.len-count.ensures, a.words.ok.0)) (subst (λ s. C.CanCut s.program s.room s.core r) c.self.view_is k))))
