use Rattle.std.proofs.Common.{◌<◌, ◌≤◌, arith, length, subst, sym}
use Rattle.jl_cache.specs.declared.found.Miss.{Miss}
use Rattle.jl_calculus.specs.Ranges.{keys_of}
use Rattle.jl_calculus.specs.World.{world_of}
use Rattle.jl_program.specs.Prelude.{prelude_count}
use Rattle.jl_world.proofs.Growth.{keys_grow, worlds_grow}
use Rattle.store_tests.proofs.searches.resolve_none.Goals as goal

pub ask_none-requires-clause-key : goal.ask_none-requires-clause-key
ask_none-requires-clause-key g c =
    let still : c.in-Some.number < length (keys_of c.find.new.self.seen) = omega (arith, c.in-Some.ensures.key, keys_grow _ _ c.in-Miss.ensures.seen) in
    subst (λ (x : Miss g.row.N.Denot). x.key < length (keys_of c.find.new.self.seen)) (sym c.in-Miss.ensures.miss) still

pub ask_none-requires-clause-world : goal.ask_none-requires-clause-world
ask_none-requires-clause-world g c =
    let high : c.args.world ≤ world_of c.find.new.self.seen = omega (arith, c.in-Some.ensures.world.1, worlds_grow _ _ c.in-Miss.ensures.seen) in
    subst (λ (x : Miss g.row.N.Denot). (prelude_count ≤ x.world) × (x.world ≤ world_of c.find.new.self.seen)) (sym c.in-Miss.ensures.miss) (c.in-Some.ensures.world.0, high)
