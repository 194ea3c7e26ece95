use Rattle.std.proofs.Common.{rules, ◌≡◌, to_z, of_z, w64}
use Rattle.jl_value.proofs.ValueLemmas.{int_case, bool_case, task_case, tuple_case, struct_case, compound_case, compound_other, same_bool}
use Rattle.jl_value.proofs.identity.+egal.Goals as goal

pub egal-returns-in-Int-b : goal.egal-returns-in-Int-b
egal-returns-in-Int-b t c =
    let p : to_z w64 (of_z w64 c.in-Int.m) ≡ c.in-Int.m = search rules in
    let q : to_z w64 (of_z w64 c.in-Int-b.n) ≡ c.in-Int-b.n = search rules in
    int_case c.args.a.now c.args.b.now c.in-Int.m c.in-Int-b.n c.in-Int.is c.in-Int-b.is p q

pub egal-returns-in-Bool-b : goal.egal-returns-in-Bool-b
egal-returns-in-Bool-b t c = bool_case c.args.a.now c.args.b.now c.in-Bool.m c.in-Bool-b.n _ c.in-Bool.is c.in-Bool-b.is (same_bool c.in-Bool.m c.in-Bool-b.n)

pub egal-returns-in-Task-b : goal.egal-returns-in-Task-b
egal-returns-in-Task-b t c = task_case c.args.a.now c.args.b.now c.in-Task.m c.in-Task-b.n c.in-Task.is c.in-Task-b.is

pub egal-returns-in-Tuple-b : goal.egal-returns-in-Tuple-b
egal-returns-in-Tuple-b t c = tuple_case c.args.a.now c.args.b.now c.in-Tuple.x c.in-Tuple-b.y _ _ _ c.in-Tuple.is c.in-Tuple-b.is c.get.ensures c.get-in-Tuple-b.ensures c.egal_compounds.ensures

pub egal-returns-in-Struct-b : goal.egal-returns-in-Struct-b
egal-returns-in-Struct-b t c = struct_case c.args.a.now c.args.b.now c.in-Struct.x c.in-Struct-b.y _ _ _ c.in-Struct.is c.in-Struct-b.is c.get-in-Struct-b.ensures c.get-in-Struct-b-2.ensures c.egal_compounds-in-Struct-b.ensures

pub egal_compounds-returns-then-same : goal.egal_compounds-returns-then-same
egal_compounds-returns-then-same t c =
    compound_case c.args.a.now c.args.b.now c.as_slice.result.now c.as_slice-then-same.result.now c.egal_all.result
    (c.same.ensures.0 c.if-same.true) c.as_slice.ensures c.as_slice-then-same.ensures c.egal_all.ensures

pub egal_compounds-returns-else-same : goal.egal_compounds-returns-else-same
egal_compounds-returns-else-same t c = compound_other c.args.a.now c.args.b.now c.same.result c.same.ensures.1 c.if-same.false
