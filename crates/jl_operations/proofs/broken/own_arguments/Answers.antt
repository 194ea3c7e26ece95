use Rattle.std.proofs.lemmas.List.{drop_all}
use Rattle.jl_model.specs.Refusals.{given_from}
use Rattle.jl_sig.specs.Parts.{all_given}
use Rattle.jl_sig.proofs.ArgumentLemmas.{own_step, own_push, own_done}
use Rattle.jl_operations.proofs.broken.own_arguments.Goals as goal

pub loop-place-preserved : goal.loop-place-preserved
loop-place-preserved c =
    let k = c.args.name in
    let i = c.loop-place.place in
    let as_ = c.loop-place.own.items in
    let t = c.index-types-place.result in
    own_step k i c.args.types.now t (all_given as_) (all_given c.push.new.self.items) (given_from k 0 c.args.types.now) c.loop-place-test.true c.index-types-place.is
    (own_push as_ c.push.new.self.items k i c.in_ok-ty.ty t c.in_ok-push.ensures.items c.in_ok-ty.ensures) c.loop-place.invariant

pub returns : goal.returns
returns c =
    own_done c.args.name c.loop-place.place c.args.types.now (all_given c.loop-place.own.items) (given_from c.args.name 0 c.args.types.now) (drop_all c.loop-place.place c.args.types.now c.loop-place-test.false) c.loop-place.invariant
