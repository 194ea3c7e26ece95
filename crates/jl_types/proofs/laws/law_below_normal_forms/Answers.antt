use Rattle.jl_model.specs.Ancestors.{table_of}
use Rattle.jl_model.proofs.TransLemmas.{below_trans}
use Rattle.jl_model.proofs.DeclaredLemmas.{declared_lawful}
use Rattle.jl_types.proofs.laws.law_below_normal_forms.Goals as goal

pub returns : goal.returns
returns c = λ ds h t u a b p q.
    let n = table_of ds in
    let law = declared_lawful ds h in (
      (λ k. below_trans n law a t b p.equal.1 (below_trans n law t u b k q.equal.0)),
      (λ k. below_trans n law t a u p.equal.0 (below_trans n law a b u k q.equal.1)),
    )
