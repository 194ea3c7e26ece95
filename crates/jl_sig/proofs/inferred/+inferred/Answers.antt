use Rattle.std.proofs.Common.{◌≡◌, ◌∙◌, sym, ap, subst, OnOk, ◌++◌, ◌∷◌, [], append_assoc}
use Rattle.std.specs.List.{flat_map}
use Rattle.jl_sig.proofs.InferredLemmas.{of, of_s, of_i, of_p, structs-call, structs-latest, structs-make, structs-infer, structs-parts, structs-block, structs-eval, structs-print}
use Rattle.jl_sig.proofs.inferred.+inferred.Goals as goal

pub add_expr-returns-in-Call : goal.add_expr-returns-in-Call
add_expr-returns-in-Call t c =
    subst (λ z. OnOk c.add_exprs.result (c.add_exprs.new.found.items ≡ c.args.found.now.items ++ z))
    (ap (flat_map of) c.as_slice.ensures ∙ sym (ap of c.in-Call.is ∙ structs-call c.in-Call.field-0 c.in-Call.arguments)) c.add_exprs.ensures

pub add_expr-returns-in-Latest : goal.add_expr-returns-in-Latest
add_expr-returns-in-Latest t c =
    subst (λ z. OnOk c.add_exprs-in-Latest.result (c.add_exprs-in-Latest.new.found.items ≡ c.args.found.now.items ++ z))
    (ap (flat_map of) c.as_slice-in-Latest.ensures ∙ sym (ap of c.in-Latest.is ∙ structs-latest c.in-Latest.field-0 c.in-Latest.arguments)) c.add_exprs-in-Latest.ensures

pub add_expr-returns-in-Make : goal.add_expr-returns-in-Make
add_expr-returns-in-Make t c =
    subst (λ z. OnOk c.add_exprs-in-Make.result (c.add_exprs-in-Make.new.found.items ≡ c.args.found.now.items ++ z))
    (ap (flat_map of) c.as_slice-in-Make.ensures ∙ sym (ap of c.in-Make.is ∙ structs-make c.in-Make.field-0 c.in-Make.arguments)) c.add_exprs-in-Make.ensures

pub add_expr-returns-in_ok-push-in-Infer : goal.add_expr-returns-in_ok-push-in-Infer
add_expr-returns-in_ok-push-in-Infer t c =
    let name = c.in-Infer.name in
    let old = c.args.found.now.items in
    subst (λ z. OnOk c.add_exprs-in-Infer.result (c.add_exprs-in-Infer.new.found.items ≡ z))
    (ap (λ z. z ++ flat_map of c.as_slice-in-Infer.result.now) c.in_ok-push-in-Infer.ensures.items ∙ append_assoc old (name ∷ []) (flat_map of c.as_slice-in-Infer.result.now)
    ∙ ap (λ z. old ++ name ∷ flat_map of z) c.as_slice-in-Infer.ensures ∙ ap (λ z. old ++ z) (sym (ap of c.in-Infer.is ∙ structs-infer name c.in-Infer.arguments))) c.add_exprs-in-Infer.ensures

pub add_expr-returns-in-Parts : goal.add_expr-returns-in-Parts
add_expr-returns-in-Parts t c =
    subst (λ z. OnOk c.add_exprs-in-Parts.result (c.add_exprs-in-Parts.new.found.items ≡ c.args.found.now.items ++ z))
    (ap (flat_map of) c.as_slice-in-Parts.ensures ∙ sym (ap of c.in-Parts.is ∙ structs-parts c.in-Parts.parts)) c.add_exprs-in-Parts.ensures

pub add_expr-returns-in-Block : goal.add_expr-returns-in-Block
add_expr-returns-in-Block t c =
    subst (λ z. OnOk c.add_stmts.result (c.add_stmts.new.found.items ≡ c.args.found.now.items ++ z))
    (ap (flat_map of_s) c.as_slice-in-Block.ensures ∙ sym (ap of c.in-Block.is ∙ structs-block c.in-Block.statements)) c.add_stmts.ensures

pub add_expr-returns-in-Eval : goal.add_expr-returns-in-Eval
add_expr-returns-in-Eval t c =
    subst (λ z. OnOk c.add_items.result (c.add_items.new.found.items ≡ c.args.found.now.items ++ z))
    (ap (flat_map of_i) c.as_slice-in-Eval.ensures ∙ sym (ap of c.in-Eval.is ∙ structs-eval c.in-Eval.items)) c.add_items.ensures

pub add_expr-returns-in-Print : goal.add_expr-returns-in-Print
add_expr-returns-in-Print t c =
    subst (λ z. OnOk c.add_pieces.result (c.add_pieces.new.found.items ≡ c.args.found.now.items ++ z))
    (ap (flat_map of_p) c.as_slice-in-Print.ensures ∙ sym (ap of c.in-Print.is ∙ structs-print c.in-Print.pieces c.in-Print.field-1)) c.add_pieces.ensures
