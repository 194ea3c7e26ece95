use Rattle.std.proofs.Common.{◌≡◌, drop, map}
use Rattle.jl_written.specs.Reads.{prepend_types}
use Rattle.jl_written.specs.Signatures.{all_read}
use Rattle.jl_grammar.specs.declared.tree.Field.{Field}
use Rattle.jl_declare.proofs.read.read_types.Given as goal

abbrev pub invariant-loop-field : goal.invariant-loop-field
invariant-loop-field l =
    prepend_types l.tys (all_read l.around.decls.now (map (λ (f : Field). f.ty) (drop l.field-index l.fields)) l.around.first l.reading)
    ≡ prepend_types l.initial.tys (all_read l.around.decls.now (map (λ (f : Field). f.ty) l.fields) l.around.first l.initial.reading)
