use Rattle.jl_calculus.proofs.BrokenLemmas.{one_broken}
use Rattle.jl_calculus.proofs.ToldBodies.{body_told}
use Rattle.jl_calculus.proofs.ToldFaults.{bad_told, other_told, other_is}
use Rattle.jl_calculus.proofs.answer_laws.law_fault_is_told.Goals as goal

pub returns : goal.returns
returns c = record {
  broken = λ ds d s well broken none. bad_told ds d s well (one_broken ds s broken) (λ r. none r.0 r.1);
  body = λ ds d statics t shut well broken none. body_told ds d statics t shut well broken (λ r. none r.0 r.1);
  other = λ ds ts us e. ((λ n none. other_told ds ts us e n (λ r. none r.0 r.1)), (λ h b. h (λ i first. other_is ds ts us i first b)));
}
