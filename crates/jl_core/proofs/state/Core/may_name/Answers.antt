use Rattle.std.proofs.Common.{◌≡◌, ◌∙◌, ◌↔◌, IsTrue, false, ap, sym, subst, arith, length}
use Rattle.std.specs.Bool.{Decides}
use Rattle.std.specs.List.{Contains}
use Rattle.jl_calculus.specs.declared.history.Event.TheVariants as Ev
use Rattle.jl_calculus.specs.Core.{IsFree, CanName}
use Rattle.jl_calculus.specs.Legal.{IsKeyOf}
use Rattle.jl_calculus.specs.Ranges.{keys_of}
use Rattle.jl_core.specs.Kept.{core_of}
use Rattle.jl_core.specs.State.{State}
use Rattle.jl_core.proofs.AskLemmas.{named_key, key_named, name_where}
use Rattle.jl_core.proofs.EnabledLemmas.{no_where, not_both}
use Rattle.jl_core.proofs.state.Core.may_name.Goals as goal

pub returns-then-has_key : goal.returns-then-has_key
returns-then-has_key c =
    let a = c.self.inside in
    let there = subst (λ es. Contains es (Ev.Key c.args.key.now)) c.as_slice-2.ensures.value (c.has_key.ensures.0 c.if-has_key.true) in
    subst (λ s. IsTrue false ↔ CanName s.program s.room s.core c.args.task c.args.key.now) c.self.view_is
    (no_where (λ k. k.new (named_key a.events.items c.args.key.now there)))

pub returns : goal.returns
returns c =
    let a = c.self.inside in
    let same : c.args.ready.now ≡ a.program = c.requires ∙ sym (ap (λ (s : State). s.program) c.self.view_is) in
    let free = c.is_free.ensures.0 c.if-not-is_free.false in
    subst (λ s. IsTrue c.in_ok-proper.proper ↔ CanName s.program s.room s.core c.args.task c.args.key.now) c.self.view_is
    (name_where _ _ (core_of a) c.args.task c.args.key.now c.in_ok-proper.proper (subst (λ s. IsFree s.program s.room s.core c.args.task) (sym c.self.view_is) free)
    (omega (arith, c.if-count_keys-self.false, c.count_keys.ensures, ap (λ es. length (keys_of es)) c.as_slice.ensures.value))
    (λ k. not_both c.has_key.result (c.has_key.ensures.1 (subst (λ es. Contains es (Ev.Key c.args.key.now)) (sym c.as_slice-2.ensures.value) (key_named a.events.items c.args.key.now k))) c.if-has_key.false)
    (subst (λ P. Decides c.in_ok-proper.proper (IsKeyOf P c.args.key.now)) same c.in_ok-proper.ensures))
