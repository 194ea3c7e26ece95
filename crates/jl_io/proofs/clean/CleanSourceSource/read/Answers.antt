-- What was left is what was copied and what is left now.
use Rattle.std.proofs.Common.{◌≡◌, take, drop, length, arith}
use Rattle.std.proofs.lemmas.Grind.{common_steps}
use Rattle.jl_io.proofs.MovedLemmas.{drop-copied}
use Rattle.jl_io.proofs.clean.CleanSourceSource.read.Goals as goal

pub returns-clause-gives : goal.returns-clause-gives
returns-clause-gives c =
    let source : c.copy_from_slice.new.self ≡ take c.min-count.result (drop c.self.inside.at c.self.inside.bytes.items) = grind (arith, common_steps) in
    let size : length c.copy_from_slice.new.self ≡ c.min-count.result = grind (arith, common_steps) in
    let whole = drop-copied c.self.inside.bytes.items c.copy_from_slice.new.self (drop c.min-count.result c.args.into.now) c.self.inside.at c.min-count.result source size in
    rw (← c.self.view_is) whole
