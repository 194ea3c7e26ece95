use Rattle.std.proofs.Common.{sym, subst, length}
use Rattle.jl_calculus.specs.declared.history.Change.TheVariants as Ch
use Rattle.jl_calculus.specs.Ranges.{keys_of, Touches}
use Rattle.jl_calculus.specs.World.{changes}
use Rattle.jl_methods.specs.Links.{linked_in, IsNext, IsMadeBy}
use Rattle.jl_methods.proofs.AmongLemmas.{touching_next}
use Rattle.jl_methods.proofs.LinkLemmas.{in_order, site_bound, place_bound}
use Rattle.jl_methods.proofs.index.Index.next_touching.Goals as goal

pub returns : goal.returns
returns c = λ P es k h e.
    let w = c.args.world in
    let ss = linked_in c.args.self.now.sites in
    let ps = linked_in c.args.self.now.places in
    let defined = c.next_of-defined.result in
    let deleted = c.next_of-deleted.result in
    let a = subst (λ ns. IsNext (IsMadeBy ss.worlds ns) w defined) c.applying.ensures (c.next_of-defined.ensures (in_order P Ch.Def (length P.sites) (site_bound P) (changes es) (keys_of es) ss h.sites)) in
    let b = subst (λ ns. IsNext (IsMadeBy ps.worlds ns) w deleted) c.applying-2.ensures (c.next_of-deleted.ensures (in_order P Ch.Del (length P.deletes) (place_bound P) (changes es) (keys_of es) ps h.places)) in
    subst (IsNext (λ d. Touches P es d k) w) (sym c.earlier.ensures) (touching_next P es ss ps h.sites h.places c.args.key k e w defined deleted a b)
