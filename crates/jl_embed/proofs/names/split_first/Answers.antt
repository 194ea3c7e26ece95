use Rattle.std.proofs.lemmas.Str.{chars_past_char}
use Rattle.jl_embed.proofs.names.split_first.Goals as goal

pub returns-clause-split : goal.returns-clause-split
returns-clause-split c = chars_past_char c.args.text.now c.as_str.result.now c.in_ok-first.first c.utf8.text (cc (c.chars-rest.ensures.rest, c.in_ok-first.ensures.steps.0, c.as_str.ensures))
