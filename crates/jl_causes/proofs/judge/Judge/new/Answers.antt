use Rattle.jl_causes.proofs.judge.Judge.new.Goals as goal

pub returns : goal.returns
returns c = λ fuel. record {
  rows = c.in_ok-new.ensures fuel;
  tasks = c.in_ok-new-2.ensures fuel;
  places = c.in_ok-new-3.ensures fuel;
  many = c.in_ok-find_finished.ensures.many;
  each = c.in_ok-find_finished.ensures.each;
}
