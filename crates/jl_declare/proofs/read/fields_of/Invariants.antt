use Rattle.std.proofs.Common.{◌≡◌, ◌++◌, drop}
use Rattle.jl_declare.specs.Declaration.{fields_of}
use Rattle.jl_declare.proofs.read.fields_of.Given as goal

abbrev pub invariant-loop-field : goal.invariant-loop-field
invariant-loop-field l = (l.out.items ++ fields_of (drop l.field-index l.fields) l.left) ≡ fields_of l.fields l.tys
