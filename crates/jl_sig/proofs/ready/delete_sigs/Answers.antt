use Rattle.jl_program.specs.declared.tree.Delete.{Delete}
use Rattle.jl_sig.proofs.ReadyLemmas.{sigs_step}
use Rattle.jl_sig.proofs.ready.delete_sigs.Goals as goal

pub loop-place-preserved : goal.loop-place-preserved
loop-place-preserved c =
    sigs_step (λ (place : Delete). place.sig) c.args.table.now c.args.places.now c.loop-place.place-index c.place-item.result c.in_ok-sig.sig c.loop-place.sigs.items c.push.new.self.items c.loop-place-test.true
    c.place-item.is c.in_ok-sig.ensures.written c.in_ok-sig.ensures.kept c.in_ok-push.ensures.items c.loop-place.invariant
