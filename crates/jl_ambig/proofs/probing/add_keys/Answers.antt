use Rattle.std.proofs.Common.{sym, subst, arith, ◌++◌}
use Rattle.std.specs.List.{flat_map}
use Rattle.std.proofs.lemmas.List.{take_all}
use Rattle.jl_model.specs.declared.ty.Key.{Key}
use Rattle.jl_calculus.specs.Ranges.{keys_of}
use Rattle.jl_ambig.specs.Probes.{AreFirst}
use Rattle.jl_ambig.proofs.TypeLemmas.{no_key, one_key, append_none}
use Rattle.jl_ambig.proofs.probing.add_keys.Goals as goal

pub loop-event-init : goal.loop-event-init
loop-event-init c = λ all h. subst (λ z. AreFirst z c.args.types.now.items) (sym (append_none all)) h

pub loop-event-preserved-in_default : goal.loop-event-preserved-in_default
loop-event-preserved-in_default c = λ all h.
    no_key all c.loop-event.types.items c.args.events.now c.loop-event.event-index c.event-item.result c.loop-event-test.true c.event-item.is c.in_default.ensures (c.loop-event.invariant all h)

pub loop-event-preserved : goal.loop-event-preserved
loop-event-preserved c = λ all h.
    one_key all c.loop-event.types.items c.add_all.new.types.items c.args.events.now c.loop-event.event-index c.event-item.result c.in-Some.key.now c.loop-event-test.true c.event-item.is c.in-Some.ensures
    (λ z k. subst (λ ts. AreFirst (z ++ ts) c.add_all.new.types.items) c.as_slice.ensures (c.in_ok-add_all.ensures z k)) (c.loop-event.invariant all h)

pub returns : goal.returns
returns c = λ all h.
    subst (λ z. AreFirst (all ++ flat_map (λ (k : Key). k.types) (keys_of z)) c.loop-event.types.items) (take_all c.loop-event.event-index c.args.events.now (omega (arith, c.loop-event-test.false))) (c.loop-event.invariant all h)
