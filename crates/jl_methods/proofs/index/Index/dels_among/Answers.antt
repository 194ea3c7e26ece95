use Rattle.std.proofs.Common.{length}
use Rattle.jl_calculus.specs.declared.history.Change.TheVariants as Ch
use Rattle.jl_calculus.specs.Ranges.{keys_of}
use Rattle.jl_calculus.specs.World.{changes}
use Rattle.jl_methods.specs.Links.{linked_in}
use Rattle.jl_methods.proofs.AmongLemmas.{have_latest_dels}
use Rattle.jl_methods.proofs.LinkLemmas.{in_order, place_bound}
use Rattle.jl_methods.proofs.index.Index.dels_among.Goals as goal

pub returns : goal.returns
returns c = λ P es k h applying.
    let ps = linked_in c.args.self.now.places in
    have_latest_dels P (changes es) (keys_of es) ps h.places c.args.places.now c.args.world c.in_ok-dels.dels.items
    (c.in_ok-dels.ensures (in_order P Ch.Del (length P.deletes) (place_bound P) (changes es) (keys_of es) ps h.places)) k applying
