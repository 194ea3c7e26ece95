use Rattle.std.proofs.Common.{sym, subst, length}
use Rattle.jl_typeread.specs.Reads.{EndsAlone}
use Rattle.jl_typeread.proofs.Ends.{ends_alone}
use Rattle.jl_reflect.specs.Asked.{IsWhole, Finds}
use Rattle.jl_reflect.proofs.TextSteps.{text_found}
use Rattle.jl_reflect.proofs.type_text.read_text.Goals as goal

pub whole_type-requires : goal.whole_type-requires
whole_type-requires c = subst EndsAlone (sym c.as_slice.ensures) (ends_alone (length c.args.text.now) c.in-Ok.tokens c.in-Ok.ensures.end)

pub returns-in_ok-found-in-Ok : goal.returns-in_ok-found-in-Ok
returns-in_ok-found-in-Ok c =
    let text = c.args.text.now in
    let found = c.in_ok-found-in-Ok.found in
    text_found text c.if-text-gt-MOST_TYPE_BYTES.false c.in-Ok.tokens c.in-Ok.ensures.reads c.in-Ok.ensures.only found
    (subst (λ ts. Finds (IsWhole ts) found) c.as_slice.ensures c.in_ok-found-in-Ok.ensures)
