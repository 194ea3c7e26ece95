use Rattle.std.proofs.Common.{◌≡◌, ◌∙◌, ap, arith, map, refl}
use Rattle.jl_program.specs.declared.tree.Item.TheVariants as I
use Rattle.jl_resolve_forms.specs.Resolver.{resolution}
use Rattle.jl_resolve_forms.specs.Scopes.{slot_of}
use Rattle.jl_resolve_forms.specs.Expressions.{arm, block_of, one_said, one_shown, one_evaluated, one_tried, bare_scope, part_number, expr_reads, stmt_reads, piece_reads, eval_reads, branch_reads}
use Rattle.jl_resolve_walk.proofs.Forms.{part, form-Number, form-Bool, form-Nothing, form-Name, form-Paren, form-Tuple, form-Call, form-Make, form-Field, form-Part, form-Prefix, form-Infix, form-Isa, form-Sub, form-Choose, form-If, form-IfElse, form-Begin, form-Latest, form-Delete, form-Spawn, form-EvalMethod, form-EvalBlock, form-EvalExpr, form-EvalQuote, form-Fetch, form-Print}
use Rattle.jl_resolve_walk.proofs.GivenLemmas.{given, given_on, both_given, weaker, always, ok_at}
use Rattle.jl_resolve_walk.proofs.Lists.{parts_step, parts_step_at, parts_end, parts_start, block_step, block_end, block_kept, block_start}
use Rattle.jl_resolve_walk.proofs.Parts.{says-Bind, says-Return, says-ReturnNothing, says-Do, shows-Text, shows-Show, evals-Method, evals-Do, tries, method-long, method-short}
use denote.Param.Weighed.{most}
use Rattle.jl_grammar.specs.declared.tree.Eval.TheViews as E
use Rattle.jl_resolve_walk.proofs.expressions.+reads.Goals as goal

pub expr-returns-in-Number : goal.expr-returns-in-Number
expr-returns-in-Number g t c =
    let ts = g.J.Judge.tests c.args.judge.now in
    let k = c.args.known.now in
    let st = c.args.state.now in
    let sc = c.args.scope.now in
    let e = c.args.text.now in
    record {
      means = ap (λ z. resolution z st) c.number.ensures ∙ form-Number ts k e c.in-Number.field-0 c.in-Number.number sc st c.in-Number.is;
      kept = refl;
    }

pub expr-returns-in-Bool : goal.expr-returns-in-Bool
expr-returns-in-Bool g t c =
    let ts = g.J.Judge.tests c.args.judge.now in
    let k = c.args.known.now in
    let st = c.args.state.now in
    let sc = c.args.scope.now in
    let e = c.args.text.now in
    record {
      means = form-Bool ts k e c.in-Bool.field-0 c.in-Bool.truth sc st c.in-Bool.is;
      kept = refl;
    }

pub expr-returns-in-Nothing : goal.expr-returns-in-Nothing
expr-returns-in-Nothing g t c =
    let ts = g.J.Judge.tests c.args.judge.now in
    let k = c.args.known.now in
    let st = c.args.state.now in
    let sc = c.args.scope.now in
    let e = c.args.text.now in
    record {
      means = form-Nothing ts k e c.in-Nothing.field-0 sc st c.in-Nothing.is;
      kept = refl;
    }

pub expr-returns-in-Name : goal.expr-returns-in-Name
expr-returns-in-Name g t c =
    let ts = g.J.Judge.tests c.args.judge.now in
    let k = c.args.known.now in
    let st = c.args.state.now in
    let sc = c.args.scope.now in
    let e = c.args.text.now in
    record {
      means = form-Name ts k e c.in-Name.at c.in-Name.name sc st c.name.new.state c.name.result (slot_of sc.slots c.in-Name.name) c.in-Name.is refl c.name.ensures;
      kept = refl;
    }

pub expr-returns-in-Paren : goal.expr-returns-in-Paren
expr-returns-in-Paren g t c =
    let ts = g.J.Judge.tests c.args.judge.now in
    let k = c.args.known.now in
    let st = c.args.state.now in
    let sc = c.args.scope.now in
    let e = c.args.text.now in
    record {
      means = weaker c.expr.result _ _ c.expr.ensures.means (λ z m. form-Paren ts k e c.in-Paren.field-0 c.in-Paren.inner sc st c.expr.new.state z c.in-Paren.is (part ts k c.in-Paren.inner c.get.result.now z z sc sc st c.expr.new.state refl c.get.ensures refl m));
      kept = c.expr.ensures.kept;
    }

pub expr-returns-in_ok-owner-in-Field : goal.expr-returns-in_ok-owner-in-Field
expr-returns-in_ok-owner-in-Field g t c =
    let ts = g.J.Judge.tests c.args.judge.now in
    let k = c.args.known.now in
    let st = c.args.state.now in
    let sc = c.args.scope.now in
    let e = c.args.text.now in
    record {
      means = weaker c.field.result _ _ c.field.ensures (λ z d. form-Field ts k e c.in-Field.field-0 c.in-Field.inner c.in-Field.name sc st c.expr-in-Field.new.state c.in_ok-owner-in-Field.owner z c.in-Field.is (part ts k c.in-Field.inner c.get-in-Field.result.now c.in_ok-owner-in-Field.owner c.in_ok-owner-in-Field.ensures.0 sc sc st c.expr-in-Field.new.state c.in_ok-owner-in-Field.ensures.2 c.get-in-Field.ensures refl (ok_at c.expr-in-Field.result c.in_ok-owner-in-Field.ensures.0 (λ z. resolution z c.expr-in-Field.new.state ≡ expr_reads ts k c.get-in-Field.result.now sc st) c.in_ok-owner-in-Field.ensures.1 c.expr-in-Field.ensures.means)) d);
      kept = always c.field.result _ (ok_at c.expr-in-Field.result c.in_ok-owner-in-Field.ensures.0 (λ z. c.expr-in-Field.new.scope ≡ sc) c.in_ok-owner-in-Field.ensures.1 c.expr-in-Field.ensures.kept);
    }

pub expr-returns-in_ok-whole-in-Part : goal.expr-returns-in_ok-whole-in-Part
expr-returns-in_ok-whole-in-Part g t c =
    let ts = g.J.Judge.tests c.args.judge.now in
    let k = c.args.known.now in
    let st = c.args.state.now in
    let sc = c.args.scope.now in
    let e = c.args.text.now in
    record {
      means = form-Part ts k e c.in-Part.field-0 c.in-Part.inner c.in-Part.number sc st c.expr-in-Part.new.state c.in_ok-whole-in-Part.whole c.part.result (part_number c.in-Part.number) c.in-Part.is (part ts k c.in-Part.inner c.get-in-Part.result.now c.in_ok-whole-in-Part.whole c.in_ok-whole-in-Part.ensures.0 sc sc st c.expr-in-Part.new.state c.in_ok-whole-in-Part.ensures.2 c.get-in-Part.ensures refl (ok_at c.expr-in-Part.result c.in_ok-whole-in-Part.ensures.0 (λ z. resolution z c.expr-in-Part.new.state ≡ expr_reads ts k c.get-in-Part.result.now sc st) c.in_ok-whole-in-Part.ensures.1 c.expr-in-Part.ensures.means)) refl c.part.ensures;
      kept = ok_at c.expr-in-Part.result c.in_ok-whole-in-Part.ensures.0 (λ z. c.expr-in-Part.new.scope ≡ sc) c.in_ok-whole-in-Part.ensures.1 c.expr-in-Part.ensures.kept;
    }

pub expr-returns-in-Prefix : goal.expr-returns-in-Prefix
expr-returns-in-Prefix g t c =
    let ts = g.J.Judge.tests c.args.judge.now in
    let k = c.args.known.now in
    let st = c.args.state.now in
    let sc = c.args.scope.now in
    let e = c.args.text.now in
    record {
      means = given c.expr-code.result c.prefix.result _ _ _ c.prefix.ensures c.expr-code.ensures.means (λ y z m d. form-Prefix ts k e c.in-Prefix.field-0 c.in-Prefix.operator c.in-Prefix.inner sc st c.expr-code.new.state y z c.in-Prefix.is (part ts k c.in-Prefix.inner c.get-in-Prefix.result.now y y sc sc st c.expr-code.new.state refl c.get-in-Prefix.ensures refl m) d);
      kept = given_on c.expr-code.result c.prefix.result _ _ _ c.prefix.ensures c.expr-code.ensures.kept (λ h. h);
    }

pub expr-returns-in_ok-task-in-Fetch : goal.expr-returns-in_ok-task-in-Fetch
expr-returns-in_ok-task-in-Fetch g t c =
    let ts = g.J.Judge.tests c.args.judge.now in
    let k = c.args.known.now in
    let st = c.args.state.now in
    let sc = c.args.scope.now in
    let e = c.args.text.now in
    record {
      means = form-Fetch ts k e c.in-Fetch.field-0 c.in-Fetch.inner sc st c.expr-in-Fetch.new.state c.in_ok-task-in-Fetch.task c.fetch.result c.in-Fetch.is (part ts k c.in-Fetch.inner c.get-in-Fetch.result.now c.in_ok-task-in-Fetch.task c.in_ok-task-in-Fetch.ensures.0 sc sc st c.expr-in-Fetch.new.state c.in_ok-task-in-Fetch.ensures.2 c.get-in-Fetch.ensures refl (ok_at c.expr-in-Fetch.result c.in_ok-task-in-Fetch.ensures.0 (λ z. resolution z c.expr-in-Fetch.new.state ≡ expr_reads ts k c.get-in-Fetch.result.now sc st) c.in_ok-task-in-Fetch.ensures.1 c.expr-in-Fetch.ensures.means)) c.fetch.ensures;
      kept = ok_at c.expr-in-Fetch.result c.in_ok-task-in-Fetch.ensures.0 (λ z. c.expr-in-Fetch.new.scope ≡ sc) c.in_ok-task-in-Fetch.ensures.1 c.expr-in-Fetch.ensures.kept;
    }

pub expr-returns-in_ok-parts-in-Tuple : goal.expr-returns-in_ok-parts-in-Tuple
expr-returns-in_ok-parts-in-Tuple g t c =
    let ts = g.J.Judge.tests c.args.judge.now in
    let k = c.args.known.now in
    let st = c.args.state.now in
    let sc = c.args.scope.now in
    let e = c.args.text.now in
    record {
      means = form-Tuple ts k e c.in-Tuple.field-0 c.in-Tuple.texts c.as_slice.result.now sc st c.exprs.new.state c.in_ok-parts-in-Tuple.parts c.tuple.result c.in-Tuple.is c.as_slice.ensures c.in_ok-parts-in-Tuple.ensures.means c.tuple.ensures;
      kept = c.in_ok-parts-in-Tuple.ensures.kept;
    }

pub expr-returns-in_ok-arms-in-If : goal.expr-returns-in_ok-arms-in-If
expr-returns-in_ok-arms-in-If g t c =
    let ts = g.J.Judge.tests c.args.judge.now in
    let k = c.args.known.now in
    let st = c.args.state.now in
    let sc = c.args.scope.now in
    let e = c.args.text.now in
    record {
      means = weaker c.only_if.result _ _ c.only_if.ensures (λ z d. form-If ts k e c.in-If.field-0 c.in-If.texts c.as_slice-in-If.result.now sc st c.branches.new.state c.in_ok-arms-in-If.arms.items z c.in-If.is c.as_slice-in-If.ensures c.in_ok-arms-in-If.ensures.means d);
      kept = always c.only_if.result _ c.in_ok-arms-in-If.ensures.kept;
    }

pub expr-returns-in_ok-items-in-EvalBlock : goal.expr-returns-in_ok-items-in-EvalBlock
expr-returns-in_ok-items-in-EvalBlock g t c =
    let ts = g.J.Judge.tests c.args.judge.now in
    let k = c.args.known.now in
    let st = c.args.state.now in
    let sc = c.args.scope.now in
    let e = c.args.text.now in
    record {
      means = form-EvalBlock ts k e c.in-EvalBlock.field-0 c.in-EvalBlock.texts c.as_slice-in-EvalBlock.result.now sc st c.evals.new.state c.in_ok-items-in-EvalBlock.items c.eval_block.result c.in-EvalBlock.is c.as_slice-in-EvalBlock.ensures c.in_ok-items-in-EvalBlock.ensures c.eval_block.ensures;
      kept = refl;
    }

pub expr-returns-in_ok-items-in-EvalQuote : goal.expr-returns-in_ok-items-in-EvalQuote
expr-returns-in_ok-items-in-EvalQuote g t c =
    let ts = g.J.Judge.tests c.args.judge.now in
    let k = c.args.known.now in
    let st = c.args.state.now in
    let sc = c.args.scope.now in
    let e = c.args.text.now in
    record {
      means = form-EvalQuote ts k e c.in-EvalQuote.field-0 c.in-EvalQuote.texts c.as_slice-in-EvalQuote.result.now sc st c.evals-in-EvalQuote.new.state c.in_ok-items-in-EvalQuote.items c.eval_block-in-EvalQuote.result c.in-EvalQuote.is c.as_slice-in-EvalQuote.ensures c.in_ok-items-in-EvalQuote.ensures c.eval_block-in-EvalQuote.ensures;
      kept = refl;
    }

pub expr-returns-in_ok-pieces-in-Print : goal.expr-returns-in_ok-pieces-in-Print
expr-returns-in_ok-pieces-in-Print g t c =
    let ts = g.J.Judge.tests c.args.judge.now in
    let k = c.args.known.now in
    let st = c.args.state.now in
    let sc = c.args.scope.now in
    let e = c.args.text.now in
    record {
      means = form-Print ts k e c.in-Print.field-0 c.in-Print.line c.in-Print.texts c.as_slice-in-Print.result.now sc st c.pieces.new.state c.in_ok-pieces-in-Print.pieces c.print.result c.in-Print.is c.as_slice-in-Print.ensures c.in_ok-pieces-in-Print.ensures.means c.print.ensures;
      kept = c.in_ok-pieces-in-Print.ensures.kept;
    }

pub expr-returns-in_ok-arguments-in-Call : goal.expr-returns-in_ok-arguments-in-Call
expr-returns-in_ok-arguments-in-Call g t c =
    let ts = g.J.Judge.tests c.args.judge.now in
    let k = c.args.known.now in
    let st = c.args.state.now in
    let sc = c.args.scope.now in
    let e = c.args.text.now in
    record {
      means = weaker c.call.result _ _ c.call.ensures (λ z d. form-Call ts k e c.in-Call.field-0 c.in-Call.callee c.in-Call.texts c.as_slice-in-Call.result.now sc c.exprs-in-Call.new.scope st c.exprs-in-Call.new.state c.call.new.state c.in_ok-arguments-in-Call.arguments z c.in-Call.is c.as_slice-in-Call.ensures c.in_ok-arguments-in-Call.ensures.kept c.in_ok-arguments-in-Call.ensures.means d);
      kept = always c.call.result _ c.in_ok-arguments-in-Call.ensures.kept;
    }

pub expr-returns-in_ok-arguments-in-Latest : goal.expr-returns-in_ok-arguments-in-Latest
expr-returns-in_ok-arguments-in-Latest g t c =
    let ts = g.J.Judge.tests c.args.judge.now in
    let k = c.args.known.now in
    let st = c.args.state.now in
    let sc = c.args.scope.now in
    let e = c.args.text.now in
    record {
      means = form-Latest ts k e c.in-Latest.field-0 c.in-Latest.callee c.in-Latest.texts c.as_slice-in-Latest.result.now sc c.exprs-in-Latest.new.scope st c.exprs-in-Latest.new.state c.latest.new.state c.in_ok-arguments-in-Latest.arguments c.latest.result c.in-Latest.is c.as_slice-in-Latest.ensures c.in_ok-arguments-in-Latest.ensures.kept c.in_ok-arguments-in-Latest.ensures.means c.latest.ensures;
      kept = c.in_ok-arguments-in-Latest.ensures.kept;
    }

pub expr-returns-in_ok-written-in-Make : goal.expr-returns-in_ok-written-in-Make
expr-returns-in_ok-written-in-Make g t c =
    let ts = g.J.Judge.tests c.args.judge.now in
    let k = c.args.known.now in
    let st = c.args.state.now in
    let sc = c.args.scope.now in
    let e = c.args.text.now in
    record {
      means = given c.exprs-arguments.result c.end_make.result _ _ _ c.end_make.ensures c.exprs-arguments.ensures.means (λ y z m d. form-Make ts k e c.in-Make.field-0 c.in-Make.ty c.in-Make.texts c.as_slice-in-Make.result.now sc st c.begin_make.new.state c.exprs-arguments.new.state c.end_make.new.state c.in_ok-written-in-Make.written y z c.in-Make.is c.in_ok-written-in-Make.ensures c.as_slice-in-Make.ensures m d);
      kept = given_on c.exprs-arguments.result c.end_make.result _ _ _ c.end_make.ensures c.exprs-arguments.ensures.kept (λ h. h);
    }

pub expr-returns-in_ok-left-in-Infix : goal.expr-returns-in_ok-left-in-Infix
expr-returns-in_ok-left-in-Infix g t c =
    let ts = g.J.Judge.tests c.args.judge.now in
    let k = c.args.known.now in
    let st = c.args.state.now in
    let sc = c.args.scope.now in
    let e = c.args.text.now in
    let kept1 = c.in_ok-left-in-Infix.ensures.kept in
    record {
      means = given c.expr-right.result c.infix.result _ _ _ c.infix.ensures c.expr-right.ensures.means (λ y z m d. form-Infix ts k e c.in-Infix.field-0 c.in-Infix.operator c.in-Infix.left c.in-Infix.right sc st c.expr-in-Infix.new.state c.expr-right.new.state c.in_ok-left-in-Infix.left y z c.in-Infix.is (part ts k c.in-Infix.left c.get-in-Infix.result.now c.in_ok-left-in-Infix.left c.in_ok-left-in-Infix.left sc sc st c.expr-in-Infix.new.state refl c.get-in-Infix.ensures refl c.in_ok-left-in-Infix.ensures.means) (part ts k c.in-Infix.right c.get-in-Infix-2.result.now y y sc c.expr-in-Infix.new.scope c.expr-in-Infix.new.state c.expr-right.new.state refl c.get-in-Infix-2.ensures kept1 m) d);
      kept = given_on c.expr-right.result c.infix.result _ _ _ c.infix.ensures c.expr-right.ensures.kept (λ h. h ∙ kept1);
    }

pub expr-returns-in_ok-value-in-Isa : goal.expr-returns-in_ok-value-in-Isa
expr-returns-in_ok-value-in-Isa g t c =
    let ts = g.J.Judge.tests c.args.judge.now in
    let k = c.args.known.now in
    let st = c.args.state.now in
    let sc = c.args.scope.now in
    let e = c.args.text.now in
    record {
      means = weaker c.is_a.result _ _ c.is_a.ensures (λ z d. form-Isa ts k e c.in-Isa.field-0 c.in-Isa.inner c.in-Isa.ty sc c.expr-in-Isa.new.scope st c.expr-in-Isa.new.state c.is_a.new.state c.in_ok-value-in-Isa.value z c.in-Isa.is (ok_at c.expr-in-Isa.result c.in_ok-value-in-Isa.ensures.0 (λ z. c.expr-in-Isa.new.scope ≡ sc) c.in_ok-value-in-Isa.ensures.1 c.expr-in-Isa.ensures.kept) (part ts k c.in-Isa.inner c.get-in-Isa.result.now c.in_ok-value-in-Isa.value c.in_ok-value-in-Isa.ensures.0 sc sc st c.expr-in-Isa.new.state c.in_ok-value-in-Isa.ensures.2 c.get-in-Isa.ensures refl (ok_at c.expr-in-Isa.result c.in_ok-value-in-Isa.ensures.0 (λ z. resolution z c.expr-in-Isa.new.state ≡ expr_reads ts k c.get-in-Isa.result.now sc st) c.in_ok-value-in-Isa.ensures.1 c.expr-in-Isa.ensures.means)) d);
      kept = always c.is_a.result _ (ok_at c.expr-in-Isa.result c.in_ok-value-in-Isa.ensures.0 (λ z. c.expr-in-Isa.new.scope ≡ sc) c.in_ok-value-in-Isa.ensures.1 c.expr-in-Isa.ensures.kept);
    }

pub expr-returns-in-Sub : goal.expr-returns-in-Sub
expr-returns-in-Sub g t c =
    let ts = g.J.Judge.tests c.args.judge.now in
    let k = c.args.known.now in
    let st = c.args.state.now in
    let sc = c.args.scope.now in
    let e = c.args.text.now in
    record {
      means = weaker c.below.result _ _ c.below.ensures (λ z m. form-Sub ts k e c.in-Sub.field-0 c.in-Sub.left c.in-Sub.right sc st c.below.new.state z c.in-Sub.is m);
      kept = always c.below.result _ refl;
    }

pub expr-returns-in-Delete : goal.expr-returns-in-Delete
expr-returns-in-Delete g t c =
    let ts = g.J.Judge.tests c.args.judge.now in
    let k = c.args.known.now in
    let st = c.args.state.now in
    let sc = c.args.scope.now in
    let e = c.args.text.now in
    record {
      means = weaker c.delete.result _ _ c.delete.ensures (λ z m. form-Delete ts k e c.in-Delete.field-0 c.in-Delete.name c.in-Delete.ty sc st c.delete.new.state z c.in-Delete.is m);
      kept = always c.delete.result _ refl;
    }

pub expr-returns-in_ok-or_else-in-Choose : goal.expr-returns-in_ok-or_else-in-Choose
expr-returns-in_ok-or_else-in-Choose g t c =
    let ts = g.J.Judge.tests c.args.judge.now in
    let k = c.args.known.now in
    let st = c.args.state.now in
    let sc = c.args.scope.now in
    let e = c.args.text.now in
    let kept1 = (ok_at c.expr-in-Choose.result c.in_ok-test-in-Choose.ensures.0 (λ z. c.expr-in-Choose.new.scope ≡ sc) c.in_ok-test-in-Choose.ensures.1 c.expr-in-Choose.ensures.kept) in
    let kept2 = (ok_at c.expr-in-Choose-2.result c.in_ok-then-in-Choose.ensures.0 (λ z. c.expr-in-Choose-2.new.scope ≡ c.expr-in-Choose.new.scope) c.in_ok-then-in-Choose.ensures.1 c.expr-in-Choose-2.ensures.kept) ∙ kept1 in
    record {
      means = form-Choose ts k e c.in-Choose.field-0 c.in-Choose.test c.in-Choose.then c.in-Choose.or_else sc st c.expr-in-Choose.new.state c.expr-in-Choose-2.new.state c.expr-in-Choose-3.new.state c.in_ok-test-in-Choose.test c.in_ok-then-in-Choose.then c.in_ok-or_else-in-Choose.or_else c.choose.result c.in-Choose.is (part ts k c.in-Choose.test c.get-in-Choose.result.now c.in_ok-test-in-Choose.test c.in_ok-test-in-Choose.ensures.0 sc sc st c.expr-in-Choose.new.state c.in_ok-test-in-Choose.ensures.2 c.get-in-Choose.ensures refl (ok_at c.expr-in-Choose.result c.in_ok-test-in-Choose.ensures.0 (λ z. resolution z c.expr-in-Choose.new.state ≡ expr_reads ts k c.get-in-Choose.result.now sc st) c.in_ok-test-in-Choose.ensures.1 c.expr-in-Choose.ensures.means)) (part ts k c.in-Choose.then c.get-in-Choose-2.result.now c.in_ok-then-in-Choose.then c.in_ok-then-in-Choose.ensures.0 sc c.expr-in-Choose.new.scope c.expr-in-Choose.new.state c.expr-in-Choose-2.new.state c.in_ok-then-in-Choose.ensures.2 c.get-in-Choose-2.ensures kept1 (ok_at c.expr-in-Choose-2.result c.in_ok-then-in-Choose.ensures.0 (λ z. resolution z c.expr-in-Choose-2.new.state ≡ expr_reads ts k c.get-in-Choose-2.result.now c.expr-in-Choose.new.scope c.expr-in-Choose.new.state) c.in_ok-then-in-Choose.ensures.1 c.expr-in-Choose-2.ensures.means)) (part ts k c.in-Choose.or_else c.get-in-Choose-3.result.now c.in_ok-or_else-in-Choose.or_else c.in_ok-or_else-in-Choose.ensures.0 sc c.expr-in-Choose-2.new.scope c.expr-in-Choose-2.new.state c.expr-in-Choose-3.new.state c.in_ok-or_else-in-Choose.ensures.2 c.get-in-Choose-3.ensures kept2 (ok_at c.expr-in-Choose-3.result c.in_ok-or_else-in-Choose.ensures.0 (λ z. resolution z c.expr-in-Choose-3.new.state ≡ expr_reads ts k c.get-in-Choose-3.result.now c.expr-in-Choose-2.new.scope c.expr-in-Choose-2.new.state) c.in_ok-or_else-in-Choose.ensures.1 c.expr-in-Choose-3.ensures.means)) c.choose.ensures;
      kept = (ok_at c.expr-in-Choose-3.result c.in_ok-or_else-in-Choose.ensures.0 (λ z. c.expr-in-Choose-3.new.scope ≡ c.expr-in-Choose-2.new.scope) c.in_ok-or_else-in-Choose.ensures.1 c.expr-in-Choose-3.ensures.kept) ∙ kept2;
    }

pub expr-returns-in_ok-arms-in-IfElse : goal.expr-returns-in_ok-arms-in-IfElse
expr-returns-in_ok-arms-in-IfElse g t c =
    let ts = g.J.Judge.tests c.args.judge.now in
    let k = c.args.known.now in
    let st = c.args.state.now in
    let sc = c.args.scope.now in
    let e = c.args.text.now in
    record {
      means = given c.block-last.result c.if_else.result _ _ _ c.if_else.ensures c.block-last.ensures.means (λ y z m d. form-IfElse ts k e c.in-IfElse.field-0 c.in-IfElse.texts c.as_slice-in-IfElse.result.now c.in-IfElse.last c.as_slice-in-IfElse-2.result.now sc c.branches-in-IfElse.new.scope st c.branches-in-IfElse.new.state c.block-last.new.state c.in_ok-arms-in-IfElse.arms.items y z c.in-IfElse.is c.as_slice-in-IfElse.ensures c.in_ok-arms-in-IfElse.ensures.means c.as_slice-in-IfElse-2.ensures c.in_ok-arms-in-IfElse.ensures.kept m d);
      kept = given_on c.block-last.result c.if_else.result _ _ _ c.if_else.ensures c.block-last.ensures.kept (λ h. h ∙ c.in_ok-arms-in-IfElse.ensures.kept);
    }

pub expr-returns-in-Begin : goal.expr-returns-in-Begin
expr-returns-in-Begin g t c =
    let ts = g.J.Judge.tests c.args.judge.now in
    let k = c.args.known.now in
    let st = c.args.state.now in
    let sc = c.args.scope.now in
    let e = c.args.text.now in
    record {
      means = weaker c.block.result _ _ c.block.ensures.means (λ z m. form-Begin ts k e c.in-Begin.field-0 c.in-Begin.texts c.as_slice-in-Begin.result.now sc st c.block.new.state z c.in-Begin.is c.as_slice-in-Begin.ensures m);
      kept = c.block.ensures.kept;
    }

pub expr-returns-in_ok-place-in-Spawn : goal.expr-returns-in_ok-place-in-Spawn
expr-returns-in_ok-place-in-Spawn g t c =
    let ts = g.J.Judge.tests c.args.judge.now in
    let k = c.args.known.now in
    let st = c.args.state.now in
    let sc = c.args.scope.now in
    let e = c.args.text.now in
    record {
      means = given c.expr-code-in-Spawn.result c.end_spawn.result _ _ _ c.end_spawn.ensures c.expr-code-in-Spawn.ensures.means (λ y z m d. form-Spawn ts k e c.in-Spawn.field-0 c.in-Spawn.inner sc st c.reserve_spawn.new.state c.expr-code-in-Spawn.new.state c.end_spawn.new.state c.in_ok-place-in-Spawn.place y z c.in-Spawn.is c.in_ok-place-in-Spawn.ensures (part ts k c.in-Spawn.inner c.get-in-Spawn.result.now y y sc sc c.reserve_spawn.new.state c.expr-code-in-Spawn.new.state refl c.get-in-Spawn.ensures refl m) d);
      kept = given_on c.expr-code-in-Spawn.result c.end_spawn.result _ _ _ c.end_spawn.ensures c.expr-code-in-Spawn.ensures.kept (λ h. h);
    }

pub expr-returns-in_ok-site-in-EvalMethod : goal.expr-returns-in_ok-site-in-EvalMethod
expr-returns-in_ok-site-in-EvalMethod g t c =
    let ts = g.J.Judge.tests c.args.judge.now in
    let k = c.args.known.now in
    let st = c.args.state.now in
    let sc = c.args.scope.now in
    let e = c.args.text.now in
    record {
      means = weaker c.eval_method.result _ _ c.eval_method.ensures (λ z d. form-EvalMethod ts k e c.in-EvalMethod.field-0 c.in-EvalMethod.text c.get-in-EvalMethod.result.now sc st c.method.new.state c.in_ok-site-in-EvalMethod.site z c.in-EvalMethod.is c.get-in-EvalMethod.ensures c.in_ok-site-in-EvalMethod.ensures d);
      kept = always c.eval_method.result _ refl;
    }

pub expr-returns-in-EvalExpr : goal.expr-returns-in-EvalExpr
expr-returns-in-EvalExpr g t c =
    let ts = g.J.Judge.tests c.args.judge.now in
    let k = c.args.known.now in
    let st = c.args.state.now in
    let sc = c.args.scope.now in
    let e = c.args.text.now in
    record {
      means = given c.expr-code-in-EvalExpr.result c.eval_expr.result _ _ _ c.eval_expr.ensures c.expr-code-in-EvalExpr.ensures.means (λ y z m d. form-EvalExpr ts k e c.in-EvalExpr.field-0 c.in-EvalExpr.inner sc st c.expr-code-in-EvalExpr.new.state y z c.in-EvalExpr.is (part ts k c.in-EvalExpr.inner c.get-in-EvalExpr.result.now y y (bare_scope sc.types) c.bare_scope-bare.result st c.expr-code-in-EvalExpr.new.state refl c.get-in-EvalExpr.ensures c.bare_scope-bare.ensures m) d);
      kept = always c.eval_expr.result _ refl;
    }

pub exprs-loop-text-preserved : goal.exprs-loop-text-preserved
exprs-loop-text-preserved g t c =
    let ts = g.J.Judge.tests c.args.judge.now in
    let k = c.args.known.now in
    record {
      means = parts_step_at (expr_reads ts k) (λ c x. x c) c.args.texts.now c.loop-text.text-index c.text-item.result c.loop-text.out c.put.new.out c.loop-text.scope c.expr.new.scope c.loop-text.state c.expr.new.state c.in_ok-put.ensures.0 _ c.loop-text.invariant.means c.loop-text-test.true c.text-item.is (ok_at c.expr.result c.in_ok-put.ensures.0 (λ z. resolution z c.expr.new.state ≡ expr_reads ts k c.text-item.result c.loop-text.scope c.loop-text.state) c.in_ok-put.ensures.1 c.expr.ensures.means) (ok_at c.expr.result c.in_ok-put.ensures.0 (λ z. c.expr.new.scope ≡ c.loop-text.scope) c.in_ok-put.ensures.1 c.expr.ensures.kept) c.in_ok-put.ensures.2;
      kept = (ok_at c.expr.result c.in_ok-put.ensures.0 (λ z. c.expr.new.scope ≡ c.loop-text.scope) c.in_ok-put.ensures.1 c.expr.ensures.kept) ∙ c.loop-text.invariant.kept;
    }

pub exprs-loop-text-init : goal.exprs-loop-text-init
exprs-loop-text-init g t c =
    let ts = g.J.Judge.tests c.args.judge.now in
    let k = c.args.known.now in
    let st = c.args.state.now in
    record {
      means = parts_start (expr_reads ts k) (λ x. x c.args.scope.now) c.args.texts.now _ st c.new-out.ensures;
      kept = refl;
    }

pub exprs-returns : goal.exprs-returns
exprs-returns g t c =
    let ts = g.J.Judge.tests c.args.judge.now in
    let k = c.args.known.now in
    record {
      means = weaker c.into_shared.result _ _ c.into_shared.ensures (λ z d. parts_end (expr_reads ts k) (λ x. x c.loop-text.scope) c.args.texts.now c.loop-text.text-index c.loop-text.out z c.loop-text.state _ c.loop-text.invariant.means c.loop-text-test.false d);
      kept = always c.into_shared.result _ c.loop-text.invariant.kept;
    }

pub pieces-loop-text-preserved : goal.pieces-loop-text-preserved
pieces-loop-text-preserved g t c =
    let ts = g.J.Judge.tests c.args.judge.now in
    let k = c.args.known.now in
    record {
      means = parts_step_at (piece_reads ts k) (λ c x. one_shown x c) c.args.texts.now c.loop-text.text-index c.text-item.result c.loop-text.out c.put.new.out c.loop-text.scope c.piece.new.scope c.loop-text.state c.piece.new.state c.in_ok-put.ensures.0 _ c.loop-text.invariant.means c.loop-text-test.true c.text-item.is (ok_at c.piece.result c.in_ok-put.ensures.0 (λ z. resolution z c.piece.new.state ≡ one_shown (piece_reads ts k c.text-item.result) c.loop-text.scope c.loop-text.state) c.in_ok-put.ensures.1 c.piece.ensures.means) (ok_at c.piece.result c.in_ok-put.ensures.0 (λ z. c.piece.new.scope ≡ c.loop-text.scope) c.in_ok-put.ensures.1 c.piece.ensures.kept) c.in_ok-put.ensures.2;
      kept = (ok_at c.piece.result c.in_ok-put.ensures.0 (λ z. c.piece.new.scope ≡ c.loop-text.scope) c.in_ok-put.ensures.1 c.piece.ensures.kept) ∙ c.loop-text.invariant.kept;
    }

pub pieces-loop-text-init : goal.pieces-loop-text-init
pieces-loop-text-init g t c =
    let ts = g.J.Judge.tests c.args.judge.now in
    let k = c.args.known.now in
    let st = c.args.state.now in
    record {
      means = parts_start (piece_reads ts k) (λ x. one_shown x c.args.scope.now) c.args.texts.now _ st c.new-out.ensures;
      kept = refl;
    }

pub pieces-returns : goal.pieces-returns
pieces-returns g t c =
    let ts = g.J.Judge.tests c.args.judge.now in
    let k = c.args.known.now in
    record {
      means = weaker c.into_shared.result _ _ c.into_shared.ensures (λ z d. parts_end (piece_reads ts k) (λ x. one_shown x c.loop-text.scope) c.args.texts.now c.loop-text.text-index c.loop-text.out z c.loop-text.state _ c.loop-text.invariant.means c.loop-text-test.false d);
      kept = always c.into_shared.result _ c.loop-text.invariant.kept;
    }

pub branches-loop-text-preserved : goal.branches-loop-text-preserved
branches-loop-text-preserved g t c =
    let ts = g.J.Judge.tests c.args.judge.now in
    let k = c.args.known.now in
    record {
      means = parts_step_at (branch_reads ts k) (λ c x. one_tried x c) c.args.texts.now c.loop-text.text-index c.text-item.result c.loop-text.out.items c.put_arm.new.out.items c.loop-text.scope c.branch-alloc.new.scope c.loop-text.state c.branch-alloc.new.state c.in_ok-put_arm.ensures.0 _ c.loop-text.invariant.means c.loop-text-test.true c.text-item.is (ok_at c.branch-alloc.result c.in_ok-put_arm.ensures.0 (λ z. resolution z c.branch-alloc.new.state ≡ one_tried (branch_reads ts k c.text-item.result) c.loop-text.scope c.loop-text.state) c.in_ok-put_arm.ensures.1 c.branch-alloc.ensures.means) (ok_at c.branch-alloc.result c.in_ok-put_arm.ensures.0 (λ z. c.branch-alloc.new.scope ≡ c.loop-text.scope) c.in_ok-put_arm.ensures.1 c.branch-alloc.ensures.kept) c.in_ok-put_arm.ensures.2;
      kept = (ok_at c.branch-alloc.result c.in_ok-put_arm.ensures.0 (λ z. c.branch-alloc.new.scope ≡ c.loop-text.scope) c.in_ok-put_arm.ensures.1 c.branch-alloc.ensures.kept) ∙ c.loop-text.invariant.kept;
    }

pub branches-loop-text-init : goal.branches-loop-text-init
branches-loop-text-init g t c =
    let ts = g.J.Judge.tests c.args.judge.now in
    let k = c.args.known.now in
    let st = c.args.state.now in
    record {
      means = parts_start (branch_reads ts k) (λ x. one_tried x c.args.scope.now) c.args.texts.now _ st c.new-out.ensures.items;
      kept = refl;
    }

pub branches-returns : goal.branches-returns
branches-returns g t c =
    let ts = g.J.Judge.tests c.args.judge.now in
    let k = c.args.known.now in
    record {
      means = parts_end (branch_reads ts k) (λ x. one_tried x c.loop-text.scope) c.args.texts.now c.loop-text.text-index c.loop-text.out.items _ c.loop-text.state _ c.loop-text.invariant.means c.loop-text-test.false refl;
      kept = c.loop-text.invariant.kept;
    }

pub evals-loop-text-preserved : goal.evals-loop-text-preserved
evals-loop-text-preserved g t c =
    let ts = g.J.Judge.tests c.args.judge.now in
    let k = c.args.known.now in
    parts_step (eval_reads ts k) (λ x. one_evaluated x c.args.types) c.args.texts.now c.loop-text.text-index c.text-item.result c.loop-text.out c.put.new.out c.loop-text.state c.eval.new.state c.in_ok-put.ensures.0 _ c.loop-text.invariant c.loop-text-test.true c.text-item.is (ok_at c.eval.result c.in_ok-put.ensures.0 (λ z. resolution z c.eval.new.state ≡ one_evaluated (eval_reads ts k c.text-item.result) c.args.types c.loop-text.state) c.in_ok-put.ensures.1 c.eval.ensures) c.in_ok-put.ensures.2

pub evals-loop-text-init : goal.evals-loop-text-init
evals-loop-text-init g t c =
    let ts = g.J.Judge.tests c.args.judge.now in
    let k = c.args.known.now in
    let st = c.args.state.now in
    parts_start (eval_reads ts k) (λ x. one_evaluated x c.args.types) c.args.texts.now _ st c.new-out.ensures

pub evals-returns : goal.evals-returns
evals-returns g t c =
    let ts = g.J.Judge.tests c.args.judge.now in
    let k = c.args.known.now in
    weaker c.into_shared.result _ _ c.into_shared.ensures (λ z d. parts_end (eval_reads ts k) (λ x. one_evaluated x c.args.types) c.args.texts.now c.loop-text.text-index c.loop-text.out z c.loop-text.state _ c.loop-text.invariant c.loop-text-test.false d)

pub block-loop-text-preserved : goal.block-loop-text-preserved
block-loop-text-preserved g t c =
    let ts = g.J.Judge.tests c.args.judge.now in
    let k = c.args.known.now in
    block_step (stmt_reads ts k) c.args.texts.now c.loop-text.text-index c.text-item.result c.loop-text.out c.put.new.out c.loop-text.scope c.stmt.new.scope c.loop-text.state c.stmt.new.state c.in_ok-put.ensures.0 _ c.loop-text.invariant c.loop-text-test.true c.text-item.is (ok_at c.stmt.result c.in_ok-put.ensures.0 (λ z. resolution (z, c.stmt.new.scope) c.stmt.new.state ≡ one_said (stmt_reads ts k c.text-item.result) c.loop-text.scope c.loop-text.state) c.in_ok-put.ensures.1 c.stmt.ensures) c.in_ok-put.ensures.2

pub block-loop-text-init : goal.block-loop-text-init
block-loop-text-init g t c =
    let ts = g.J.Judge.tests c.args.judge.now in
    let k = c.args.known.now in
    let st = c.args.state.now in
    block_start (stmt_reads ts k) c.args.texts.now _ c.args.scope.now st c.new-out.ensures

pub block-returns : goal.block-returns
block-returns g t c =
    let ts = g.J.Judge.tests c.args.judge.now in
    let k = c.args.known.now in
    let st = c.args.state.now in
    record {
      means = weaker c.end_block.result _ _ c.end_block.ensures.means (λ z d. block_end (stmt_reads ts k) c.args.texts.now c.loop-text.text-index c.loop-text.out c.loop-text.scope c.args.scope.now c.loop-text.state st z c.loop-text.invariant c.loop-text-test.false d);
      kept = always c.end_block.result _ (block_kept (stmt_reads ts k) c.args.texts.now c.loop-text.text-index c.loop-text.out c.loop-text.scope c.args.scope.now c.end_block.new.scope c.loop-text.state st c.len-visible.result c.loop-text.invariant c.loop-text-test.false c.len-visible.ensures c.end_block.ensures.kept);
    }

pub stmt-returns-in-Bind : goal.stmt-returns-in-Bind
stmt-returns-in-Bind g t c =
    let ts = g.J.Judge.tests c.args.judge.now in
    let k = c.args.known.now in
    let st = c.args.state.now in
    let sc = c.args.scope.now in
    let e = c.args.text.now in
    both_given c.expr-code.result c.bind.result _ _ _ _ c.bind.ensures c.expr-code.ensures.means c.expr-code.ensures.kept (λ y z m h d. says-Bind ts k e c.in-Bind.name c.in-Bind.value sc c.expr-code.new.scope c.bind.new.scope st c.expr-code.new.state c.bind.new.state y z c.in-Bind.is h m d)

pub stmt-returns-in-Return : goal.stmt-returns-in-Return
stmt-returns-in-Return g t c =
    let ts = g.J.Judge.tests c.args.judge.now in
    let k = c.args.known.now in
    let st = c.args.state.now in
    let sc = c.args.scope.now in
    let e = c.args.text.now in
    both_given c.expr.result c.return_statement.result _ _ _ _ c.return_statement.ensures c.expr.ensures.means c.expr.ensures.kept (λ y z m h d. says-Return ts k e c.in-Return.field-0 c.in-Return.value sc c.expr.new.scope st c.expr.new.state y z c.in-Return.is h m d)

pub stmt-returns-in-ReturnNothing : goal.stmt-returns-in-ReturnNothing
stmt-returns-in-ReturnNothing g t c =
    let ts = g.J.Judge.tests c.args.judge.now in
    let k = c.args.known.now in
    let st = c.args.state.now in
    let sc = c.args.scope.now in
    let e = c.args.text.now in
    says-ReturnNothing ts k e c.in-ReturnNothing.field-0 sc st c.in-ReturnNothing.is

pub stmt-returns-in-Do : goal.stmt-returns-in-Do
stmt-returns-in-Do g t c =
    let ts = g.J.Judge.tests c.args.judge.now in
    let k = c.args.known.now in
    let st = c.args.state.now in
    let sc = c.args.scope.now in
    let e = c.args.text.now in
    both_given c.expr-in-Do.result c.do_statement.result _ _ _ _ c.do_statement.ensures c.expr-in-Do.ensures.means c.expr-in-Do.ensures.kept (λ y z m h d. says-Do ts k e c.in-Do.value sc c.expr-in-Do.new.scope st c.expr-in-Do.new.state y z c.in-Do.is h m d)

pub piece-returns-in-Text : goal.piece-returns-in-Text
piece-returns-in-Text g t c =
    let ts = g.J.Judge.tests c.args.judge.now in
    let k = c.args.known.now in
    let st = c.args.state.now in
    let sc = c.args.scope.now in
    let e = c.args.text.now in
    record {
      means = weaker c.text.result _ _ c.text.ensures (λ z d. shows-Text ts k e c.in-Text.field-0 c.in-Text.bytes sc st z c.in-Text.is d);
      kept = always c.text.result _ refl;
    }

pub piece-returns-in-Show : goal.piece-returns-in-Show
piece-returns-in-Show g t c =
    let ts = g.J.Judge.tests c.args.judge.now in
    let k = c.args.known.now in
    let st = c.args.state.now in
    let sc = c.args.scope.now in
    let e = c.args.text.now in
    record {
      means = given c.expr.result c.show.result _ _ _ c.show.ensures c.expr.ensures.means (λ y z m d. shows-Show ts k e c.in-Show.value sc st c.expr.new.state y z c.in-Show.is m d);
      kept = given_on c.expr.result c.show.result _ _ _ c.show.ensures c.expr.ensures.kept (λ h. h);
    }

pub eval-returns-in_ok-site-in-Method : goal.eval-returns-in_ok-site-in-Method
eval-returns-in_ok-site-in-Method g t c =
    let ts = g.J.Judge.tests c.args.judge.now in
    let k = c.args.known.now in
    let st = c.args.state.now in
    let e = c.args.text.now in
    evals-Method ts k e c.in-Method.text c.args.types st c.method.new.state c.in_ok-site-in-Method.site (I.Define c.in_ok-site-in-Method.site) c.in-Method.is c.in_ok-site-in-Method.ensures refl

pub eval-returns-in-Do : goal.eval-returns-in-Do
eval-returns-in-Do g t c =
    let ts = g.J.Judge.tests c.args.judge.now in
    let k = c.args.known.now in
    let st = c.args.state.now in
    let e = c.args.text.now in
    given c.expr.result c.evaluate.result _ _ _ c.evaluate.ensures c.expr.ensures.means (λ y z m d. evals-Do ts k e c.in-Do.value c.args.types st c.expr.new.state y z c.in-Do.is (m ∙ ap (λ a. expr_reads ts k c.in-Do.value a st) c.bare_scope-scope.ensures) d)

pub branch-returns : goal.branch-returns
branch-returns g t c =
    let ts = g.J.Judge.tests c.args.judge.now in
    let k = c.args.known.now in
    let st = c.args.state.now in
    let sc = c.args.scope.now in
    let e = c.args.text.now in
    let kept1 = ok_at c.expr.result c.in_ok-test.ensures.0 (λ z. c.expr.new.scope ≡ sc) c.in_ok-test.ensures.1 c.expr.ensures.kept in
    record {
      means = tries ts k e c.as_slice.result.now sc c.expr.new.scope st c.expr.new.state c.block.new.state c.in_ok-test.test c.in_ok-test.ensures.0 c.in_ok-then.then (arm c.in_ok-test.test c.in_ok-then.then) c.in_ok-test.ensures.2 (ok_at c.expr.result c.in_ok-test.ensures.0 (λ z. resolution z c.expr.new.state ≡ expr_reads ts k e.test sc st) c.in_ok-test.ensures.1 c.expr.ensures.means) kept1 c.as_slice.ensures (ap (λ z. resolution z c.block.new.state) c.in_ok-then.ensures.2 ∙ ok_at c.block.result c.in_ok-then.ensures.0 (λ z. resolution z c.block.new.state ≡ block_of (map (stmt_reads ts k) c.as_slice.result.now) c.expr.new.scope c.expr.new.state) c.in_ok-then.ensures.1 c.block.ensures.means) refl;
      kept = ok_at c.block.result c.in_ok-then.ensures.0 (λ z. c.block.new.scope ≡ c.expr.new.scope) c.in_ok-then.ensures.1 c.block.ensures.kept ∙ kept1;
    }

pub method-returns-in_ok-number-in-Long : goal.method-returns-in_ok-number-in-Long
method-returns-in_ok-number-in-Long g t c =
    let ts = g.J.Judge.tests c.args.judge.now in
    let k = c.args.known.now in
    let st = c.args.state.now in
    let e = c.args.text.now in
    both_given c.block-code.result c.finish_method.result _ _ _ _ c.finish_method.ensures c.block-code.ensures.means c.block-code.ensures.kept (λ y z m h d. method-long ts k e c.in-Long.field-0 c.in-Long.head c.in-Long.body c.as_slice.result.now c.args.types c.in_ok-number-in-Long.opening c.block-code.new.scope st c.start_method.new.state c.block-code.new.state c.finish_method.new.state c.in_ok-number-in-Long.number z y c.in-Long.is c.in_ok-number-in-Long.ensures c.as_slice.ensures h m d)

pub method-returns-in_ok-number-in-Short : goal.method-returns-in_ok-number-in-Short
method-returns-in_ok-number-in-Short g t c =
    let ts = g.J.Judge.tests c.args.judge.now in
    let k = c.args.known.now in
    let st = c.args.state.now in
    let e = c.args.text.now in
    both_given c.expr-code.result c.finish_method-in-Short.result _ _ _ _ c.finish_method-in-Short.ensures c.expr-code.ensures.means c.expr-code.ensures.kept (λ y z m h d. method-short ts k e c.in-Short.field-0 c.in-Short.head c.in-Short.body c.get.result.now c.args.types c.in_ok-number-in-Short.opening c.expr-code.new.scope st c.start_method-in-Short.new.state c.expr-code.new.state c.finish_method-in-Short.new.state c.in_ok-number-in-Short.number z y c.in-Short.is c.in_ok-number-in-Short.ensures c.get.ensures h m d)

pub method-block-code-requires : goal.method-block-code-requires
method-block-code-requires g t c = λ κs h.
    let n = ap E.size-Method c.in-Long.is ∙ E.sized-Long c.in-Long.field-0 c.in-Long.head c.in-Long.body in
    let m = ap (λ z. most (λ x. E.size-Stmt x) z) c.as_slice.ensures in
    (omega (arith, n, m, c.decreases), h)
