use Rattle.std.proofs.Common.{◌≡◌, [], drop}
use Rattle.jl_task.specs.Skip.{skip_args}
use Rattle.jl_machine.specs.Lent.{now_of}
use Rattle.jl_machine.proofs.turns.go_args.Given as goal

-- the parts that are left, after the values that are open, lead to where all of them lead from the beginning
abbrev pub invariant-loop-i : goal.invariant-loop-i
invariant-loop-i l =
    (skip_args l.expr l.now.frames.open_values (drop l.i l.parts) (now_of l.now) ≡ skip_args l.expr l.initial.now.frames.open_values l.parts (now_of l.initial.now))
    × (l.now.frames.open_text ≡ [])
