use Rattle.std.proofs.Common.{◌≡◌, ◌++◌, map, drop}
use Rattle.std.specs.List.{flat_map}
use Rattle.jl_model.specs.Rows.{forms}
use Rattle.jl_sig.specs.Built.{placed}
use Rattle.jl_sig.proofs.expansion.+forms.Given as goal

abbrev pub invariant-forms_of_each-loop-ty : goal.invariant-forms_of_each-loop-ty
invariant-forms_of_each-loop-ty l = (l.all.items ++ map (forms (placed l.places)) (drop l.ty-index l.types)) ≡ map (forms (placed l.places)) l.types

abbrev pub invariant-forms_of_all-loop-ty : goal.invariant-forms_of_all-loop-ty
invariant-forms_of_all-loop-ty l = (l.all.items ++ flat_map (forms (placed l.places)) (drop l.ty-index l.types)) ≡ flat_map (forms (placed l.places)) l.types
