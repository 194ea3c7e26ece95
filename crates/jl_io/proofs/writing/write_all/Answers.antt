-- A turn takes the next bytes, at least one of them.
use Rattle.std.proofs.Common.{◌≡◌, ◌-◌, length, take, drop, arith}
use Rattle.std.proofs.lemmas.Grind.{common_steps}
use Rattle.jl_io.proofs.MovedLemmas.{Takes-next}
use Rattle.jl_io.proofs.writing.write_all.Goals as goal

pub loop-done-preserved : goal.loop-done-preserved
loop-done-preserved g c =
    let rest : take (length c.args.bytes.now - c.loop-done.done) (drop c.loop-done.done c.args.bytes.now) ≡ drop c.loop-done.done c.args.bytes.now = grind (arith, common_steps) in (
      omega (arith, c.in_ok-done.ensures.quiet),
      grind (arith, common_steps, c.in_ok-done.ensures.within),
      Takes-next _ _ _ _ _ _ c.loop-done.invariant.2 (rw (← rest) c.in_ok-done.ensures.takes),
      λ start. absurd (omega (arith, c.in_ok-done.ensures.within)),
    )
