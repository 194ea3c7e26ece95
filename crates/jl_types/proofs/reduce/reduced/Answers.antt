use Rattle.std.proofs.Common.{◌≡◌, sym, subst, [], drop, List}
use Rattle.std.proofs.lemmas.List.{drop_all}
use Rattle.jl_model.specs.declared.ty.Ty.{Ty}
use Rattle.jl_model.specs.Ancestors.{table_of}
use Rattle.jl_types.specs.Reduce.{Reduces, reduced}
use Rattle.jl_types.proofs.ReduceLemmas.{candidate-at, inserted_candidates, reduce_step}
use Rattle.jl_types.proofs.reduce.reduced.Goals as goal

pub inserted-requires-clause-candidate : goal.inserted-requires-clause-candidate
inserted-requires-clause-candidate c = candidate-at c.args.table.now c.args.candidates.now c.loop-candidate.candidate-index c.candidate-item.result c.requires c.loop-candidate-test.true c.candidate-item.is

pub loop-candidate-preserved : goal.loop-candidate-preserved
loop-candidate-preserved c =
    let n = table_of c.args.table.now in
    let i = c.loop-candidate.candidate-index in
    let t = c.candidate-item.result in
    let k = candidate-at c.args.table.now c.args.candidates.now i t c.requires c.loop-candidate-test.true c.candidate-item.is in
    record {
      members = inserted_candidates c.args.table.now n c.loop-candidate.members.items t c.in_ok-members.members.items c.loop-candidate.invariant.members k c.in_ok-members.ensures;
      rest = reduce_step n c.args.candidates.now i t c.loop-candidate.members.items c.in_ok-members.members.items c.loop-candidate-test.true c.candidate-item.is c.in_ok-members.ensures c.loop-candidate.invariant.rest;
    }

pub returns : goal.returns
returns c =
    let n = table_of c.args.table.now in
    let ts = c.loop-candidate.members.items in
    let e : drop c.loop-candidate.candidate-index c.args.candidates.now ≡ [] = drop_all c.loop-candidate.candidate-index c.args.candidates.now c.loop-candidate-test.false in
    let P : List Ty → Type 0 = λ z. Reduces n z ts ts in
    c.loop-candidate.invariant.rest ts (subst P (sym e) (reduced ts))
