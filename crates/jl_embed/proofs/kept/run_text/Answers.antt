use Rattle.jl_embed.proofs.TextLemmas.{refused_text}
use Rattle.jl_embed.proofs.kept.run_text.Goals as goal

pub returns-in-Err : goal.returns-in-Err
returns-in-Err g c = refused_text c.refusal.result c.args.text c.in-Err.line (rw c.in-Err.is at c.in_ok-kept.ensures) c.refusal.ensures
