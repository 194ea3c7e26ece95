use Rattle.jl_operations.proofs.MadeLemmas.{made_constructed}
use Rattle.jl_operations.proofs.PreparedLemmas.{kept_struct, kept_made}
use Rattle.jl_operations.proofs.laws.law_kept_form.Goals as goal

pub returns-clause-constructed : goal.returns-clause-constructed
returns-clause-constructed c P statics t h = made_constructed P statics t h

pub returns-clause-struct_type : goal.returns-clause-struct_type
returns-clause-struct_type c ds declared t u h f = kept_struct ds declared t u h f

pub returns-clause-answer : goal.returns-clause-answer
returns-clause-answer c ds declared s u vs o a f m = kept_made ds declared s u vs o a f m
