use Rattle.std.proofs.Common.{◌≡◌, ◌≤◌, ◌++◌, take, length}
use Rattle.jl_frames.proofs.scopes.push_types.Given as goal

abbrev pub invariant-loop-ty : goal.invariant-loop-ty
invariant-loop-ty l = (l.types.items ≡ l.initial.types.items ++ take l.ty-index l.statics) × (length l.initial.types.items ≤ length l.types.items)
