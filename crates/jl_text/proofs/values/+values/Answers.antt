use Rattle.std.proofs.Common.{◌≡◌, ◌++◌, map, rules, subst, to_z, of_z, w64}
use Rattle.jl_program.specs.declared.value.Compound.{Compound}
use Rattle.jl_program.specs.Text.{type_text, value_text, in_parentheses}
use Rattle.jl_text.proofs.PieceLemmas.{after-one}
use Rattle.jl_text.proofs.ValueTexts.{int-text, bool-text, nothing-text, task-text, struct-text}
use Rattle.jl_text.proofs.values.+values.Goals as goal

pub append_value-returns-in-Int : goal.append_value-returns-in-Int
append_value-returns-in-Int t c =
    let same : to_z w64 (of_z w64 c.in-Int.number) ≡ c.in-Int.number = search rules in
    rw (int-text c.args.program.now c.args.value.now c.in-Int.number c.in-Int.is, ← same) c.append_signed.ensures

pub append_value-returns-in-Bool : goal.append_value-returns-in-Bool
append_value-returns-in-Bool t c =
    rw (bool-text c.args.program.now c.args.value.now c.in-Bool.truth c.in-Bool.is, ← c.truth_text.ensures) c.append.ensures

pub append_value-returns-in-Nothing : goal.append_value-returns-in-Nothing
append_value-returns-in-Nothing t c = rw (nothing-text c.args.program.now c.args.value.now c.in-Nothing.is) c.append-in-Nothing.ensures

pub append_value-returns-in-Task : goal.append_value-returns-in-Task
append_value-returns-in-Task t c = rw (task-text c.args.program.now c.args.value.now c.in-Task.task c.in-Task.is) c.append_task.ensures

pub append_value-returns-in_ok-append_type-in-Struct : goal.append_value-returns-in_ok-append_type-in-Struct
append_value-returns-in_ok-append_type-in-Struct t c =
    let P = c.args.program.now in
    let made = c.in-Struct.made in
    let parts = c.parts_of-in-Struct in
    rw (struct-text P c.args.value.now made parts.result.now c.in-Struct.is parts.ensures)
    (after-one c.append_fields.result c.args.out.now c.append_fields.new.out c.append_type.new.out
    (type_text P made.ty) (in_parentheses (map (value_text P) parts.result.now)) (subst (λ (z : Compound). c.append_type.new.out ≡ c.args.out.now ++ type_text P z.ty) c.get.ensures c.in_ok-append_type-in-Struct.ensures) c.append_fields.ensures)
