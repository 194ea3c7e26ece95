use Rattle.jl_program.specs.Scope.{all_types}
use Rattle.jl_calculus.specs.Ranges.{head_of}
use Rattle.jl_sig.specs.SigParts.{written_of}
use Rattle.jl_methods.specs.Filters.{ChangeApplies}
use Rattle.jl_methods.proofs.AppliesLemmas.{decided, concrete_in, head_applies_to, head_applies_from}
use Rattle.jl_methods.proofs.touch.change_applies.Goals as goal

pub applies-requires-clause-types : goal.applies-requires-clause-types
applies-requires-clause-types c =
    concrete_in (all_types c.args.ready.now) c.table.result.now c.args.key.now.types c.as_slice.result.now c.requires.key.types c.table.ensures c.as_slice.ensures

pub returns : goal.returns
returns c =
    let P = c.args.ready.now in
    let ts = c.args.key.now.types in
    let head = head_of P c.args.change in
    decided c.in_ok-found.found c.is_there.result (ChangeApplies P c.args.change ts) c.is_there.ensures
    (λ x e. head_applies_to P c.table.result.now (written_of c.sig_of.result.now) ts c.as_slice.result.now c.table.ensures c.as_slice.ensures head c.sig_of.ensures.written (c.in_ok-found.ensures.applies x e))
    (λ e a. c.in_ok-found.ensures.none e (head_applies_from P c.table.result.now (written_of c.sig_of.result.now) ts c.as_slice.result.now c.table.ensures c.as_slice.ensures head c.sig_of.ensures.written a))
