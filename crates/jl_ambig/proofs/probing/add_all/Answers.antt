use Rattle.std.proofs.Common.{sym, subst, arith, ◌++◌, ◌∷◌, []}
use Rattle.std.proofs.lemmas.List.{take_all}
use Rattle.jl_ambig.specs.Probes.{AreFirst}
use Rattle.jl_ambig.proofs.TypeLemmas.{all_more, append_none}
use Rattle.jl_ambig.proofs.probing.add_all.Goals as goal

pub loop-ty-init : goal.loop-ty-init
loop-ty-init c = λ all h. subst (λ z. AreFirst z c.args.types.now.items) (sym (append_none all)) h

pub loop-ty-preserved : goal.loop-ty-preserved
loop-ty-preserved c = λ all h.
    all_more all c.args.more.now c.loop-ty.types.items c.add.new.types.items c.loop-ty.ty-index c.ty-item.result c.loop-ty-test.true c.ty-item.is
    (λ z k. subst (λ t. AreFirst (z ++ t ∷ []) c.add.new.types.items) c.in_ok-copy.ensures (c.in_ok-add.ensures z k)) (c.loop-ty.invariant all h)

pub returns : goal.returns
returns c = λ all h. subst (λ z. AreFirst (all ++ z) c.loop-ty.types.items) (take_all c.loop-ty.ty-index c.args.more.now (omega (arith, c.loop-ty-test.false))) (c.loop-ty.invariant all h)
