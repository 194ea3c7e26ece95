use Rattle.std.proofs.Common.{◌-◌, subst, arith}
use Rattle.jl_causes.specs.KeyTexts.{names_of, type_at, types_at, parts_at, IsReadTo}
use Rattle.jl_causes.proofs.ReadLemmas.{parts_one, parts_end, parts_more}
use Rattle.jl_causes.proofs.type_text.+read_few.Goals as goal

pub returns-in-Some-after : goal.returns-in-Some-after
returns-in-Some-after t c =
    let names = names_of c.args.table.now in
    let text = c.args.text.now in
    let one = parts_one names c.args.many c.args.room text c.in-Some.rest.now c.in-Some.ty (omega (arith, c.if-many-eq0.false)) (subst (IsReadTo (type_at names (types_at names c.args.room) text)) c.in-Some.is c.in_ok-ty.ensures) in
    parts_end (parts_at names (c.args.many - 1) c.args.room) (parts_at names c.args.many c.args.room text) c.in-Some.rest.now c.in-Some.ty c.args.parts.now _ one c.in_ok-push.ensures c.in-Some-after.rest.now c.in-Some-after.ensures.0 c.in-Some-after.ensures.1

pub returns : goal.returns
returns t c =
    let names = names_of c.args.table.now in
    let text = c.args.text.now in
    let one = parts_one names c.args.many c.args.room text c.in-Some.rest.now c.in-Some.ty (omega (arith, c.if-many-eq0.false)) (subst (IsReadTo (type_at names (types_at names c.args.room) text)) c.in-Some.is c.in_ok-ty.ensures) in
    parts_more (parts_at names (c.args.many - 1) c.args.room) (parts_at names c.args.many c.args.room text) c.in-Some.rest.now c.in-Some.ty c.args.parts.now _ one c.in_ok-push.ensures c.in-Some-after-2.rest.now c.in-Some-after-3.rest.now _ c.in_ok-rest.rest
    c.in_default-after.ensures c.in-Some-after-2.ensures.0 c.in-Some-after-2.ensures.1 c.in-Some-after-3.ensures.0 c.in-Some-after-3.ensures.1 c.in_ok-rest.ensures
