use Rattle.jl_type_laws.proofs.DeclarationLemmas.{own_variables, bounds_known, parent_known, fields_known, named, clear}
use Rattle.jl_type_laws.proofs.declarations.law_declared_types.Goals as goal

pub returns : goal.returns
returns c = record {
  known = λ ds k ps p make is fs. record { bounds = bounds_known ds k ps p make is fs; parent = parent_known ds k ps p make is fs; fields = fields_known ds k ps p make is fs };
  own = own_variables;
  named = named;
  clear = clear;
}
