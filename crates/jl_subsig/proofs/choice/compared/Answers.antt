use Rattle.std.proofs.Common.{◌∙◌, sym, ap, subst, ◌+◌, length}
use Rattle.jl_model.specs.Ancestors.{table_of}
use Rattle.jl_model.specs.Choice as M
use Rattle.jl_subsig.specs.Decide.{methods_in, nth, IsCompared}
use Rattle.jl_subsig.proofs.CompareLemmas.{AllAnswered, all_push, long_push, method-at}
use Rattle.jl_subsig.proofs.choice.compared.Goals as goal

pub loop-method-preserved : goal.loop-method-preserved
loop-method-preserved c =
    let n = table_of c.args.table.now in
    let ms = c.args.methods.now in
    let bss = c.loop-method.rows.items in
    let q = c.loop-method.invariant.long in
    let e = method-at ms c.loop-method.method-index c.method-item.result c.loop-method-test.true c.method-item.is in
    let t : IsCompared n (nth (methods_in ms) (length bss)).sig (methods_in ms) c.in_ok-compared_with.field-0 =
    subst (λ z. IsCompared n (nth (methods_in ms) z).sig (methods_in ms) c.in_ok-compared_with.field-0) (sym q)
    (subst (λ (z : M.Method). IsCompared n z.sig (methods_in ms) c.in_ok-compared_with.field-0) e c.in_ok-compared_with.ensures) in
    let it = c.in_ok-push.ensures.items in
    record {
      so_far = subst (AllAnswered n (methods_in ms)) (sym it) (all_push n (methods_in ms) bss c.in_ok-compared_with.field-0 c.loop-method.invariant.so_far t);
      long = ap length it ∙ long_push bss c.in_ok-compared_with.field-0 ∙ ap (λ z. z + 1) q;
    }
