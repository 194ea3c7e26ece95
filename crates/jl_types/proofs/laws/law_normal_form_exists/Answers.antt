use Rattle.jl_types.proofs.ExistLemmas.{exists}
use Rattle.jl_types.proofs.laws.law_normal_form_exists.Goals as goal

pub returns : goal.returns
returns c = λ ds h t. let r = exists ds h t in (r.0, r.1.form)
