use Rattle.std.proofs.Common.{◌≡◌, ◌++◌, drop}
use Rattle.jl_resolve_walk.proofs.top.own_decls.Given as goal

abbrev pub invariant-loop-decl : goal.invariant-loop-decl
invariant-loop-decl l = l.out ++ drop l.decl-index l.own ≡ l.own
