use Rattle.std.proofs.Common.{◌≡◌, ap, Err, true, false}
use Rattle.jl_model.specs.Refusals.{IsAllowed}
use Rattle.jl_norm.proofs.ToldLemmas.{is_allowed, may_add, bounded_right, memory_refused, large_given}
use Rattle.jl_norm.proofs.declaring.declare_new.Goals as goal

pub returns-then-is_too_many-clause-allowed : goal.returns-then-is_too_many-clause-allowed
returns-then-is_too_many-clause-allowed c =
    let b = c.in-Ok.ensures in
    (b.ordered.written, b.ordered.within.small, b.ordered.ordered, b.within, c.is_too_many.ensures.0 c.if-is_too_many.true)

pub add-requires : goal.add-requires
add-requires c =
    may_add c.args.table.now c.args.decl c.in-Ok.kept c.valid.ensures c.in-Ok.ensures (λ t. let e : c.is_too_many.result ≡ true = c.is_too_many.ensures.1 t in let f : c.is_too_many.result ≡ false = c.if-is_too_many.false in cc)
    (λ t. let e : c.has_twins.result ≡ true = c.has_twins.ensures.1 t in let f : c.has_twins.result ≡ false = c.if-has_twins.false in cc) c.requires.own

pub returns-clause-allowed : goal.returns-clause-allowed
returns-clause-allowed c =
    is_allowed c.args.table.now c.args.decl c.in-Ok.kept c.valid.ensures c.in-Ok.ensures (λ t. let e : c.is_too_many.result ≡ true = c.is_too_many.ensures.1 t in let f : c.is_too_many.result ≡ false = c.if-is_too_many.false in cc)
    (λ t. let e : c.has_twins.result ≡ true = c.has_twins.ensures.1 t in let f : c.has_twins.result ≡ false = c.if-has_twins.false in cc)

pub returns-in_err-add-clause-allowed : goal.returns-in_err-add-clause-allowed
returns-in_err-add-clause-allowed c =
    memory_refused c.args.table.now c.args.decl c.from_residual.result (λ _. IsAllowed c.args.table.now c.args.decl) c.from_residual.ensures.1 (bounded_right c.args.table.now c.args.decl c.in-Ok.kept c.in-Ok.ensures)

pub returns-in-Err-clause-large : goal.returns-in-Err-clause-large
returns-in-Err-clause-large c = λ w l. ap (λ z. Err z) (large_given c.args.table.now c.args.decl c.in-Err.fault c.in-Err.ensures w l)

pub returns-then-is_too_many-clause-large : goal.returns-then-is_too_many-clause-large
returns-then-is_too_many-clause-large c = λ w l. absurd ((bounded_right c.args.table.now c.args.decl c.in-Ok.kept c.in-Ok.ensures).sized l)

pub returns-then-has_twins-clause-large : goal.returns-then-has_twins-clause-large
returns-then-has_twins-clause-large c = λ w l. absurd ((bounded_right c.args.table.now c.args.decl c.in-Ok.kept c.in-Ok.ensures).sized l)

pub returns-in_err-add-clause-large : goal.returns-in_err-add-clause-large
returns-in_err-add-clause-large c = λ w l. absurd ((bounded_right c.args.table.now c.args.decl c.in-Ok.kept c.in-Ok.ensures).sized l)

pub returns-clause-large : goal.returns-clause-large
returns-clause-large c = λ w l. absurd ((bounded_right c.args.table.now c.args.decl c.in-Ok.kept c.in-Ok.ensures).sized l)
