use Rattle.std.proofs.Common.{sym, subst, length, Ok}
use Rattle.jl_typeread.specs.Reads.{EndsAlone}
use Rattle.jl_typeread.proofs.Ends.{ends_alone}
use Rattle.jl_reader.specs.Answers.{Reads}
use Rattle.jl_formed.proofs.Scripts.{script_formed}
use Rattle.core_cases.proofs.script.script_of.Goals as goal

pub read-requires : goal.read-requires
read-requires c = record { ends = subst EndsAlone (sym c.as_slice.ensures) (ends_alone (length c.args.text.now) c.in-Ok.tokens c.in-Ok.ensures.end) }

pub returns-in-Ok-read : goal.returns-in-Ok-read
returns-in-Ok-read c =
    let r : Reads c.in-Ok.tokens (Ok c.in-Ok-read.script) = subst (λ ts. Reads ts (Ok c.in-Ok-read.script)) c.as_slice.ensures c.in-Ok-read.ensures.reads in
    script_formed c.args.text.now c.in-Ok.tokens r.0 r.1 c.in-Ok-read.script c.in-Ok.ensures.reads r.2 r.4
