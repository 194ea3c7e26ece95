use Rattle.std.proofs.Common.{◌∙◌, sym, ap}
use Rattle.jl_names.specs.Numbers.{renumber}
use Rattle.jl_names.proofs.EntryLemmas.{known_name}
use Rattle.jl_names.proofs.table.NameMap.add.Goals as goal

pub returns-in-Some-clause-added : goal.returns-in-Some-clause-added
returns-in-Some-clause-added c =
    known_name c.args.name.now c.args.number c.in-Some.before c.args.self.now c.put.new.self c.renumber.new.self
    (sym c.in_ok-before.ensures.before ∙ c.in-Some.is) c.in_ok-before.ensures.put (c.renumber.ensures ∙ ap (λ n. renumber c.put.new.self (n, c.in-Some.before)) c.as_slice.ensures)
