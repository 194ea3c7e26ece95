use Rattle.std.proofs.Common.{◌∙◌}
use Rattle.jl_calculus.proofs.OrderLemmas.{path_once, path_only, wait_same}
use Rattle.jl_calculus.proofs.history_laws.law_orders_are_whole.Goals as goal

pub returns : goal.returns
returns c = record {
  path = λ P es h task. (path_once P es h task, path_only P es h task);
  wait = λ P es h task. (λ l. wait_same P es h task ∙ path_once P es h task l, λ l. wait_same P es h task ∙ path_only P es h task l);
}
