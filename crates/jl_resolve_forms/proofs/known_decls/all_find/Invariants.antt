use Rattle.std.proofs.Common.{◌≡◌, ◌++◌, drop}
use Rattle.jl_resolve_forms.specs.Parameters.{all_find}
use Rattle.jl_resolve_forms.proofs.known_decls.all_find.Given as goal

abbrev pub invariant-loop-decl : goal.invariant-loop-decl
invariant-loop-decl l = l.finds.items ++ all_find (drop l.decl-index l.decls) ≡ all_find l.decls
