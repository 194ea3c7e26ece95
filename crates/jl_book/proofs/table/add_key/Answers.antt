use Rattle.std.proofs.Common.{◌∙◌}
use Rattle.jl_book.proofs.Finding.{put_last}
use Rattle.jl_book.proofs.table.add_key.Goals as goal

pub returns : goal.returns
returns c = c.in-Ok.ensures.keys ∙ put_last c.args.key c.args.keys.now.keys c.requires.new
