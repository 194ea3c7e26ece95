use Rattle.std.proofs.Common.{◌≡◌, drop, map}
use Rattle.jl_written.specs.Reads.{prepend_types}
use Rattle.jl_written.specs.Signatures.{all_read}
use Rattle.jl_resolve_forms.specs.Expressions.{type_of}
use Rattle.jl_resolve_forms.proofs.methods.all_read.Given as goal

abbrev pub invariant-loop-param : goal.invariant-loop-param
invariant-loop-param l =
    prepend_types l.tys (all_read l.around.decls.now (map type_of (drop l.param-index l.params)) l.around.first l.reading)
    ≡ prepend_types l.initial.tys (all_read l.around.decls.now (map type_of l.params) l.around.first l.initial.reading)
