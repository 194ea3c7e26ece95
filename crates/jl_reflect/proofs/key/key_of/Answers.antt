use Rattle.jl_reflect.specs.Asked.{MeansKey}
use Rattle.jl_reflect.proofs.FormLemmas.{found_some}
use Rattle.jl_reflect.proofs.AskedLemmas.{key_once, key_proper}
use Rattle.jl_reflect.proofs.key.key_of.Goals as goal

pub returns-in-Some-clause-only : goal.returns-in-Some-clause-only
returns-in-Some-clause-only c =
    let P = c.args.ready.now in
    let name = c.args.name.now in
    let text = c.args.ty.now in
    let key = c.in-Some.key in
    λ other m. key_once P name text c.valid.ensures other key m (found_some (MeansKey P name text) c.in_ok-key.field-0 key c.in-Some.is c.in_ok-key.ensures)

pub returns-in-Some-clause-proper : goal.returns-in-Some-clause-proper
returns-in-Some-clause-proper c =
    let P = c.args.ready.now in
    let name = c.args.name.now in
    let text = c.args.ty.now in
    let key = c.in-Some.key in
    key_proper P name text key (found_some (MeansKey P name text) c.in_ok-key.field-0 key c.in-Some.is c.in_ok-key.ensures)
