use Rattle.std.proofs.Common.{subst, sym}
use Rattle.std.specs.Str.{IsValidUpTo}
use Rattle.jl_token.specs.Grammar.{bad_utf8}
use Rattle.jl_token.proofs.Whole.{text-reads, never-utf8, refused-there}
use Rattle.jl_token.proofs.source.read_bytes.Goals as goal

pub returns-in-Ok-clause-reads : goal.returns-in-Ok-clause-reads
returns-in-Ok-clause-reads c = text-reads c.args.text.now c.in-Ok.text.now c.read.result c.in-Ok.ensures.cases.0 c.in-Ok.ensures.cases.1 c.read.ensures

pub returns-in-Ok-clause-bad_utf8 : goal.returns-in-Ok-clause-bad_utf8
returns-in-Ok-clause-bad_utf8 c = λ at bad. absurd (never-utf8 c.args.text.now at bad c.in-Ok.ensures.cases.1)

pub returns-in-Err-clause-reads : goal.returns-in-Err-clause-reads
returns-in-Err-clause-reads c = bad_utf8 c.args.text.now c.valid_up_to.result (subst (IsValidUpTo c.args.text.now) (sym c.valid_up_to.ensures) c.in-Err.ensures.cases.1)

pub returns-in-Err-clause-bad_utf8 : goal.returns-in-Err-clause-bad_utf8
returns-in-Err-clause-bad_utf8 c = refused-there c.args.text.now c.valid_up_to.result (subst (IsValidUpTo c.args.text.now) (sym c.valid_up_to.ensures) c.in-Err.ensures.cases.1)
