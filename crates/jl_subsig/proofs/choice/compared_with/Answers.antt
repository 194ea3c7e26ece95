use Rattle.std.proofs.Common.{◌≡◌, ◌∙◌, sym, ap, subst, arith, ◌+◌, ◌<◌, length}
use Rattle.jl_model.specs.Ancestors.{table_of}
use Rattle.jl_model.specs.Choice as M
use Rattle.jl_model.specs.Signature.{SigBelow}
use Rattle.jl_types.proofs.GroundLemmas.{Tells}
use Rattle.jl_sig.specs.SigParts.{written_of}
use Rattle.jl_subsig.specs.Decide.{methods_in, nth, IsCompared}
use Rattle.jl_subsig.proofs.CompareLemmas.{Answered, answered_push, long_push, method-at, methods_long}
use Rattle.jl_subsig.proofs.choice.compared_with.Goals as goal

pub loop-method-preserved : goal.loop-method-preserved
loop-method-preserved c =
    let n = table_of c.args.table.now in
    let s = written_of c.args.sig.now in
    let ms = c.args.methods.now in
    let bs = c.loop-method.answers.items in
    let q = c.loop-method.invariant.long in
    let e = method-at ms c.loop-method.method-index c.method-item.result c.loop-method-test.true c.method-item.is in
    let t : Tells c.in_ok-sig_sub.field-0 (SigBelow n s (nth (methods_in ms) (length bs)).sig) =
    subst (λ z. Tells c.in_ok-sig_sub.field-0 (SigBelow n s (nth (methods_in ms) z).sig)) (sym q)
    (subst (λ (z : M.Method). Tells c.in_ok-sig_sub.field-0 (SigBelow n s z.sig)) e c.in_ok-sig_sub.ensures) in
    let it = c.in_ok-push.ensures.items in
    record {
      so_far = subst (Answered n s (methods_in ms)) (sym it) (answered_push n s (methods_in ms) bs c.in_ok-sig_sub.field-0 c.loop-method.invariant.so_far t);
      long = ap length it ∙ long_push bs c.in_ok-sig_sub.field-0 ∙ ap (λ z. z + 1) q;
    }

pub returns : goal.returns
returns c =
    let n = table_of c.args.table.now in
    let s = written_of c.args.sig.now in
    let ms = c.args.methods.now in
    let bs = c.loop-method.answers.items in
    let q = c.loop-method.invariant.long in
    let long = methods_long ms in
    let le = c.loop-method-test.false in
    let ge = c.loop-method.auto.method-index-end in
    let w : length bs ≡ length (methods_in ms) = omega (arith, q, long, le, ge) in
    let t : IsCompared n s (methods_in ms) bs = record { long = w; told = λ j l. c.loop-method.invariant.so_far j (subst (λ z. j < z) (sym w) l) } in
    subst (IsCompared n s (methods_in ms)) (sym c.in_ok-shared.ensures) t
