use Rattle.std.proofs.Common.{refl, []}
use Rattle.store_tests.proofs.IndexLemmas.{may_begin, on_ok}
use Rattle.store_tests.proofs.index.begin.Goals as goal

pub returns : goal.returns
returns c = on_ok c.note-noted.result _ _ (λ noted. noted [] c.requires (may_begin c.args.ready.now)) c.note-noted.ensures
