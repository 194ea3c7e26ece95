use Rattle.jl_embed.proofs.TextLemmas.{run_so}
use Rattle.jl_embed.proofs.texts.run_ready.Goals as goal

pub returns : goal.returns
returns g c = run_so c.in_ok-due.due c.args.text.now c.args.ready.now c.with_whole_cache-setup.result c.requires c.with_whole_cache-setup.ensures.given c.with_whole_cache-setup.ensures.cache c.in_ok-due.ensures
