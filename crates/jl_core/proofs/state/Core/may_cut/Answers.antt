use Rattle.std.proofs.Common.{◌≡◌, ◌∙◌, ◌↔◌, IsTrue, false, ap, sym, subst, refl, arith, slice_get, Some, None, Bor}
use Rattle.std.proofs.lemmas.Option.{slice_get_read}
use Rattle.jl_model.specs.declared.ty.Key.{Key}
use Rattle.jl_program.specs.declared.tree.Program.{Program}
use Rattle.jl_calculus.specs.Core as C
use Rattle.jl_calculus.specs.Legal.{IsKeyOf}
use Rattle.jl_calculus.specs.Ranges.{keys_of, head_of, HeadTouches}
use Rattle.jl_core.specs.Kept.{core_of, opened_of}
use Rattle.jl_core.specs.State.{State}
use Rattle.jl_core.proofs.EnabledLemmas.{no_where, none_told, has_end, no_key, key_proper, left_where}
use Rattle.jl_core.proofs.state.Core.may_cut.Goals as goal

pub returns-then-words-ne0 : goal.returns-then-words-ne0
returns-then-words-ne0 c =
    let a = c.self.inside in
    let at = slice_get_read a.words.items _ c.args.row c.index-words.result.now refl (omega (arith, c.if-row-len.false, c.len.ensures, a.words.ok.0)) c.index-words.ensures in
    subst (λ s. IsTrue false ↔ C.CanCut s.program s.room s.core c.args.row) c.self.view_is
    (no_where (has_end _ _ (core_of a) _ c.self.invariant c.args.row c.index-words.result.now at c.if-words-ne0.true))

pub returns-in_default-key_at : goal.returns-in_default-key_at
returns-in_default-key_at c =
    let a = c.self.inside in
    let at = slice_get_read a.words.items _ c.args.row c.index-words.result.now refl (omega (arith, c.if-row-len.false, c.len.ensures, a.words.ok.0)) c.index-words.ensures in
    let told =
    none_told c.key_at.result (slice_get (keys_of c.as_slice.result.now) c.index-words.result.now.key ≡ None) (λ (key : Bor Key). slice_get (keys_of c.as_slice.result.now) c.index-words.result.now.key ≡ Some key.now) c.in_default-key_at.is c.key_at.ensures in
    subst (λ s. IsTrue false ↔ C.CanCut s.program s.room s.core c.args.row) c.self.view_is
    (no_where (no_key _ _ (core_of a) _ c.self.invariant c.args.row c.index-words.result.now at (ap (λ es. slice_get (keys_of es) c.index-words.result.now.key) (sym c.as_slice.ensures.value) ∙ told)))

pub touches-requires : goal.touches-requires
touches-requires c =
    let a = c.self.inside in
    let named = ap (λ es. slice_get (keys_of es) c.index-words.result.now.key) (sym c.as_slice.ensures.value) ∙ c.in-Some-key_at.ensures in
    let same : c.args.ready.now ≡ a.program = c.requires ∙ sym (ap (λ (s : State). s.program) c.self.view_is) in
    subst (λ P. IsKeyOf P c.in-Some-key_at.key.now) (sym same) (key_proper _ _ (core_of a) _ c.self.invariant c.index-words.result.now.key c.in-Some-key_at.key.now named)

pub returns : goal.returns
returns c =
    let a = c.self.inside in
    let at = slice_get_read a.words.items _ c.args.row c.index-words.result.now refl (omega (arith, c.if-row-len.false, c.len.ensures, a.words.ok.0)) c.index-words.ensures in
    let named = ap (λ es. slice_get (keys_of es) c.index-words.result.now.key) (sym c.as_slice.ensures.value) ∙ c.in-Some-key_at.ensures in
    let same : c.args.ready.now ≡ a.program = c.requires ∙ sym (ap (λ (s : State). s.program) c.self.view_is) in
    let o : C.Opened = record { task = c.in-Some.opening.task; change = c.in-Some.opening.change; cut = a.cut.items } in
    let told = subst (λ (P : Program). IsTrue c.in_ok-yes.yes ↔ HeadTouches P (head_of P c.in-Some.opening.change) c.in-Some-key_at.key.now) same c.in_ok-yes.ensures in
    subst (λ s. IsTrue c.in_ok-yes.yes ↔ C.CanCut s.program s.room s.core c.args.row) c.self.view_is
    (left_where _ _ (core_of a) _ c.self.invariant c.args.row c.index-words.result.now o c.in-Some-key_at.key.now c.in_ok-yes.yes at c.if-words-ne0.false (ap (λ x. opened_of x a.cut.items) c.in-Some.is) named told)
