use Rattle.jl_typeread.specs.declared.fault.TypeFault.TheVariants.{BadType, TooDeep}
use Rattle.jl_typeread.specs.Lexemes.{lexemes}
use Rattle.jl_reflect.proofs.TextSteps.{fault_read, wrong_type, too_deep, not_last}
use Rattle.jl_reflect.proofs.type_text.whole_type.Goals as goal

pub returns-else-next-tokens : goal.returns-else-next-tokens
returns-else-next-tokens c = not_last c.args.tokens.now c.in-Ok.ty c.in-Ok.next c.in-Ok.ensures.reads c.if-next-tokens.false

pub returns-in-Err-BadType : goal.returns-in-Err-BadType
returns-in-Err-BadType c =
    let place = c.in-Err-BadType.field-0-0 in
    wrong_type c.args.tokens.now place (fault_read (lexemes c.args.tokens.now) c.in-Err-BadType.field-0 (BadType place) c.in-Err-BadType.field-0-is c.in-Err-BadType.ensures.reads)

pub returns-in-Err-TooDeep : goal.returns-in-Err-TooDeep
returns-in-Err-TooDeep c =
    let next = c.in-Err-TooDeep.field-0-0 in
    too_deep c.args.tokens.now next (fault_read (lexemes c.args.tokens.now) c.in-Err-TooDeep.field-0 (TooDeep next) c.in-Err-TooDeep.field-0-is c.in-Err-TooDeep.ensures.reads)
