use Rattle.std.proofs.Common.{◌≡◌, ◌++◌, ◌≤◌, drop, length}
use Rattle.jl_model.specs.Ancestors.{builtin_types}
use Rattle.jl_sig.proofs.ready.table_with.Given as goal

abbrev pub invariant-loop-decl : goal.invariant-loop-decl
invariant-loop-decl l = (length builtin_types ≤ length l.table) × (l.table ++ drop l.decl-index l.decls ≡ builtin_types ++ l.decls)
