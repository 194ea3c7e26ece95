use Rattle.std.proofs.Common.{ap, sym, subst, length}
use Rattle.jl_typeread.specs.Reads.{EndsAlone}
use Rattle.jl_typeread.proofs.Ends.{ends_alone}
use Rattle.jl_sites.proofs.NoScriptLemmas.{is_of_tokens, without_tokens}
use Rattle.jl_sites.proofs.answer.sites.Goals as goal

pub sites_of-requires-clause-ends : goal.sites_of-requires-clause-ends
sites_of-requires-clause-ends c = subst EndsAlone (sym c.as_slice.ensures) (ends_alone (length c.args.bytes.now) c.in-Ok.tokens c.in-Ok.ensures.end)

pub returns-in-Err-SourceTooLong : goal.returns-in-Err-SourceTooLong
returns-in-Err-SourceTooLong c = without_tokens c.args.bytes.now c.in-Err-SourceTooLong.field-0 c.in-Err-SourceTooLong.ensures.reads (ap is_of_tokens c.in-Err-SourceTooLong.field-0-is)

pub returns-in-Err-BadUtf8 : goal.returns-in-Err-BadUtf8
returns-in-Err-BadUtf8 c = without_tokens c.args.bytes.now c.in-Err-BadUtf8.field-0 c.in-Err-BadUtf8.ensures.reads (ap is_of_tokens c.in-Err-BadUtf8.field-0-is)

pub returns-in-Err-BadCharacter : goal.returns-in-Err-BadCharacter
returns-in-Err-BadCharacter c = without_tokens c.args.bytes.now c.in-Err-BadCharacter.field-0 c.in-Err-BadCharacter.ensures.reads (ap is_of_tokens c.in-Err-BadCharacter.field-0-is)

pub returns-in-Err-NumberTooLarge : goal.returns-in-Err-NumberTooLarge
returns-in-Err-NumberTooLarge c = without_tokens c.args.bytes.now c.in-Err-NumberTooLarge.field-0 c.in-Err-NumberTooLarge.ensures.reads (ap is_of_tokens c.in-Err-NumberTooLarge.field-0-is)

pub returns-in-Err-OpenString : goal.returns-in-Err-OpenString
returns-in-Err-OpenString c = without_tokens c.args.bytes.now c.in-Err-OpenString.field-0 c.in-Err-OpenString.ensures.reads (ap is_of_tokens c.in-Err-OpenString.field-0-is)

pub returns-in-Err-OpenComment : goal.returns-in-Err-OpenComment
returns-in-Err-OpenComment c = without_tokens c.args.bytes.now c.in-Err-OpenComment.field-0 c.in-Err-OpenComment.ensures.reads (ap is_of_tokens c.in-Err-OpenComment.field-0-is)
