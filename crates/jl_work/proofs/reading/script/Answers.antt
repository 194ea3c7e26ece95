use Rattle.std.proofs.Common.{sym, subst, length}
use Rattle.jl_typeread.specs.Reads.{EndsAlone}
use Rattle.jl_typeread.proofs.Ends.{ends_alone}
use Rattle.jl_work.specs.Place.{token_line, syntax_line}
use Rattle.jl_work.proofs.ReadingLemmas.{line_along, no_tokens_line, no_script_line}
use Rattle.jl_work.proofs.reading.script.Goals as goal

pub returns-in-Err : goal.returns-in-Err
returns-in-Err c =
    line_along c.args.bytes.now (token_line c.args.bytes.now c.in-Err.fault) c.in_ok-token_line-in-Err.field-0 c.in_ok-token_line-in-Err.ensures.line
    (no_tokens_line c.args.bytes.now c.in-Err.fault c.in-Err.ensures.reads c.in_ok-token_line-in-Err.ensures.told)

pub read-requires : goal.read-requires
read-requires c = record { ends = subst EndsAlone (sym c.as_slice.ensures) (ends_alone (length c.args.bytes.now) c.in-Ok.tokens c.in-Ok.ensures.end) }

pub returns : goal.returns
returns c =
    line_along c.args.bytes.now (syntax_line c.args.bytes.now c.in-Err-read.fault) c.in_ok-syntax_line-in-Err-read.field-0 c.in_ok-syntax_line-in-Err-read.ensures.line
    (no_script_line c.args.bytes.now c.as_slice.result.now c.in-Err-read.fault (rw c.as_slice.ensures c.in-Ok.ensures.reads) c.in-Err-read.ensures.reads c.in_ok-syntax_line-in-Err-read.ensures.told)
