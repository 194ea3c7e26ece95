use Rattle.std.proofs.Common.{ap, nat_eq}
use Rattle.jl_value.proofs.FieldLemmas.{plain_above, none_above}
use Rattle.jl_value.proofs.field.is_of_plain.Goals as goal

pub returns-in-Some : goal.returns-in-Some
returns-in-Some c =
    plain_above c.args.table.now c.valid.ensures c.args.of c.args.name c.args.xs.now c.in-Some.above.now (nat_eq c.len.result 0) c.requires.other c.in-Some.ensures c.requires.lower
    (ap (λ n. nat_eq n 0) c.len.ensures)

pub returns-in-None : goal.returns-in-None
returns-in-None c = none_above c.args.table.now c.valid.ensures c.args.of c.args.name c.args.xs.now c.requires.other c.in-None.ensures
