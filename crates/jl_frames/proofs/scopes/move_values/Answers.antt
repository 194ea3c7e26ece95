use Rattle.std.proofs.Common.{◌++◌, ◌∷◌, [], ap, ◌∙◌, List, arith}
use Rattle.jl_program.specs.declared.value.Value.{Value}
use Rattle.jl_frames.proofs.MoveLemmas.{first_left, last_moved}
use Rattle.jl_frames.proofs.scopes.move_values.Goals as goal

pub loop-place-preserved : goal.loop-place-preserved
loop-place-preserved c =
    let m = c.in_ok-move_last.ensures.moved in
    let i = c.loop-place.invariant in
    let less = c.in_ok-move_last.ensures.less in (
      m.2 ∙ ap (λ (ws : List Value). ws ++ m.0 ∷ []) i.0 ∙ last_moved c.args.values.now.items c.loop-place.values.items c.move_last.new.values.items c.args.slots.now.items m.0 i.1 m.1,
      first_left c.args.values.now.items c.loop-place.values.items c.move_last.new.values.items m.0 i.1 m.1,
      omega (arith, less, i.2),
      omega (arith, i.3),
    )
