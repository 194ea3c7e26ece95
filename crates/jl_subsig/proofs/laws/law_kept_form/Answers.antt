use Rattle.jl_subsig.proofs.KeptFormLemmas.{kept_is_alike, kept_is_scoped, kept_is_placed, kept_is_ordered, kept_is_normal}
use Rattle.jl_subsig.proofs.GlueLemmas.{kept_exists}
use Rattle.jl_subsig.proofs.laws.law_kept_form.Goals as goal

pub returns : goal.returns
returns c = record { exists = kept_exists; alike = kept_is_alike; scoped = kept_is_scoped; placed = kept_is_placed; ordered = kept_is_ordered; normal = kept_is_normal }
