use Rattle.std.proofs.Common.{ap}
use Rattle.jl_sites.proofs.NoScriptLemmas.{is_of_syntax, without_script}
use Rattle.jl_sites.proofs.answer.sites_of.Goals as goal

pub returns-in-Err-Syntax : goal.returns-in-Err-Syntax
returns-in-Err-Syntax c = without_script c.args.bytes.now c.args.tokens.now c.in-Err-Syntax.field-0 c.requires.source c.in-Err-Syntax.ensures.reads (ap is_of_syntax c.in-Err-Syntax.field-0-is)

pub returns-in-Err-BadType : goal.returns-in-Err-BadType
returns-in-Err-BadType c = without_script c.args.bytes.now c.args.tokens.now c.in-Err-BadType.field-0 c.requires.source c.in-Err-BadType.ensures.reads (ap is_of_syntax c.in-Err-BadType.field-0-is)

pub returns-in-Err-TooDeep : goal.returns-in-Err-TooDeep
returns-in-Err-TooDeep c = without_script c.args.bytes.now c.args.tokens.now c.in-Err-TooDeep.field-0 c.requires.source c.in-Err-TooDeep.ensures.reads (ap is_of_syntax c.in-Err-TooDeep.field-0-is)
