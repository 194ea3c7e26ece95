use Rattle.std.proofs.Common.{sym, subst, ◌<◌, length}
use Rattle.jl_program.specs.declared.tree.Program.{Program}
use Rattle.jl_program.specs.declared.tree.Delete.{Delete}
use Rattle.jl_program.specs.Scope.{all_types}
use Rattle.jl_sig.specs.Prepared.{IsSigOf}
use Rattle.jl_sig.proofs.ReadyLemmas.{kept_at}
use Rattle.jl_sig.proofs.ready.Ready.delete_sig.Goals as goal

pub returns-clause-kept : goal.returns-clause-kept
returns-clause-kept c =
    let P = c.self.inside.program in
    subst (λ (z : Program). IsSigOf (all_types z) c.index.result.now) c.self.view_is
    (kept_at (λ (place : Delete). place.sig) (all_types P) P.deletes c.self.inside.places.items c.args.place c.index.result.now c.self.invariant.places_kept
    (subst (λ (z : Program). c.args.place < length z.deletes) (sym c.self.view_is) c.requires) c.index.ensures)
