use Rattle.std.proofs.Common.{subst, List, ◌++◌, ◌∷◌, [], drop}
use Rattle.jl_model.specs.declared.ty.Ty.{Ty}
use Rattle.jl_model.specs.Ancestors.{named}
use Rattle.jl_ambig.specs.Probes.{plain_structs, AreFirst}
use Rattle.jl_ambig.proofs.FirstLemmas.{none_first}
use Rattle.jl_ambig.proofs.probing.probe_types.Goals as goal

pub returns : goal.returns
returns c =
    let none_ = none_first c.new-types.result.items c.new-types.ensures.items in
    let one = c.in_ok-add_named.ensures [] none_ in
    let two = c.in_ok-add_named-2.ensures (named 4 ∷ []) one in
    let three = c.in_ok-add_named-3.ensures (named 4 ∷ named 5 ∷ []) two in
    let four = c.in_ok-add_named-4.ensures (named 4 ∷ named 5 ∷ named 6 ∷ []) three in
    let builtin : List Ty = named 4 ∷ named 5 ∷ named 6 ∷ named 7 ∷ [] in
    let structs = subst (λ ds. AreFirst (builtin ++ plain_structs 8 (drop 8 ds)) c.add_structs.new.types.items) c.table.ensures (c.in_ok-add_structs.ensures builtin four) in
    c.in_ok-add_keys.ensures (builtin ++ plain_structs 8 c.args.ready.now.decls) structs
