use Rattle.std.proofs.Common.{sym, subst}
use Rattle.jl_model.specs.Ancestors.{table_of}
use Rattle.jl_model.specs.Subtype.{Equal}
use Rattle.jl_model.proofs.NormalLemmas.{normal_same}
use Rattle.jl_model.proofs.TransLemmas.{equal_trans}
use Rattle.jl_model.proofs.DeclaredLemmas.{declared_lawful}
use Rattle.jl_types.proofs.laws.law_same_normal_form.Goals as goal

pub returns : goal.returns
returns c = λ ds h t u a b p q.
    let n = table_of ds in
    let law = declared_lawful ds h in
    let back : Equal n b u = (q.equal.1, q.equal.0) in (
      (λ e. normal_same n law a p.normal b q.normal (equal_trans n law a t b (p.equal.1, p.equal.0) (equal_trans n law t u b e q.equal))),
      (λ i. equal_trans n law t a u p.equal (subst (λ z. Equal n z u) (sym i) back)),
    )
