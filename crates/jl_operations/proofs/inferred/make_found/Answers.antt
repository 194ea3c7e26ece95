use Rattle.std.proofs.Common.{◌≡◌, ◌∙◌, sym, subst, true, false, []}
use Rattle.std.proofs.Common.{◌∷◌, ◌<◌, ◌≤◌, arith}
use Rattle.jl_model.specs.Counts.{nodes}
use Rattle.jl_model.specs.SigRefusals.{BoundBroken}
use Rattle.jl_program.specs.Prelude.{plain}
use Rattle.jl_program.specs.Scope.{all_types}
use Rattle.jl_operations.specs.Inferred.{AreInside}
use Rattle.jl_operations.proofs.InferLemmas.{found_inside, found_struct, found_outside, found_large, found_made, bare_valid}
use Rattle.jl_operations.proofs.inferred.make_found.Goals as goal

pub is_outside-requires : goal.is_outside-requires
is_outside-requires c = subst (λ z. AreInside z c.args.ty.now) (sym c.table-table.ensures) (found_inside c.args.ready.now c.valid.ensures c.args.name c.args.values.now c.args.ty.now c.requires.ty c.requires.values)

pub returns-then-branch-clause-answer : goal.returns-then-branch-clause-answer
returns-then-branch-clause-answer c =
    found_outside c.args.ready.now c.valid.ensures c.args.name c.args.values.now c.args.ty.now c.requires.ty c.requires.values c.in_ok-fault.fault
    (subst (λ z. BoundBroken z (plain (c.args.ty.now ∷ []))) c.table-table.ensures (c.in_ok-is_outside.ensures.0 c.if-branch.true)) c.in_ok-fault.ensures

pub returns-then-branch-clause-valid : goal.returns-then-branch-clause-valid
returns-then-branch-clause-valid c = bare_valid c.args.ready.now c.valid.ensures c.args.name c.args.values.now c.in_ok-fault.fault c.requires.ty.struct c.requires.values c.in_ok-fault.ensures

pub make_struct-requires-clause-struct_type : goal.make_struct-requires-clause-struct_type
make_struct-requires-clause-struct_type c =
    let l : nodes c.args.ty.now ≤ 1024 = omega (arith, c.nodes_within.ensures, c.if-nodes_within-gt-MOST_TYPE_NODES.false) in
    found_struct c.args.ready.now c.valid.ensures c.args.name c.args.values.now c.args.ty.now c.requires.ty c.requires.values l

pub returns-then-nodes_within-gt-MOST_TYPE_NODES-clause-answer : goal.returns-then-nodes_within-gt-MOST_TYPE_NODES-clause-answer
returns-then-nodes_within-gt-MOST_TYPE_NODES-clause-answer c =
    let n : BoundBroken (all_types c.args.ready.now) (plain (c.args.ty.now ∷ [])) → ⊥
    = λ b. (let y : c.in_ok-is_outside.field-0 ≡ true = c.in_ok-is_outside.ensures.1 (subst (λ z. BoundBroken z (plain (c.args.ty.now ∷ []))) (sym c.table-table.ensures) b) in let f : true ≡ false = sym y ∙ c.if-branch.false in cc) in
    let l : 1024 < nodes c.args.ty.now = omega (arith, c.nodes_within.ensures, c.if-nodes_within-gt-MOST_TYPE_NODES.true) in
    found_large c.args.ready.now c.valid.ensures c.args.name c.args.values.now c.args.ty.now c.requires.ty c.requires.values n l

pub returns-clause-answer : goal.returns-clause-answer
returns-clause-answer c =
    let l : nodes c.args.ty.now ≤ 1024 = omega (arith, c.nodes_within.ensures, c.if-nodes_within-gt-MOST_TYPE_NODES.false) in
    found_made c.args.ready.now c.valid.ensures c.args.name c.args.values.now c.args.ty.now c.requires.ty c.requires.values c.make_struct.result
    (λ b. (let y : c.in_ok-is_outside.field-0 ≡ true = c.in_ok-is_outside.ensures.1 (subst (λ z. BoundBroken z (plain (c.args.ty.now ∷ []))) (sym c.table-table.ensures) b) in let f : true ≡ false = sym y ∙ c.if-branch.false in cc))
    l c.make_struct.ensures.answer

pub returns-clause-valid : goal.returns-clause-valid
returns-clause-valid c = c.make_struct.ensures.valid
