use Rattle.std.proofs.Common.{◌∙◌, ap, sym, subst, take}
use Rattle.jl_program.specs.declared.tree.Program.{Program}
use Rattle.jl_choosing.proofs.PickLemmas.{latest_places}
use Rattle.jl_subsig.specs.Side.{Every}
use Rattle.jl_subsig.specs.Standing.{HasPlace}
use Rattle.jl_ambig.proofs.StandLemmas.{end_known}
use Rattle.jl_ambig.proofs.beyond.end_of.Goals as goal

pub last_deletion-requires-clause-places : goal.last_deletion-requires-clause-places
last_deletion-requires-clause-places c =
    subst (λ R. Every (HasPlace R) c.dels_of-dels.result.now) (sym c.ready-ready.ensures)
    (latest_places c.args.made.now.0 c.index-sites-at.result.function (take c.args.world c.args.made.now.1) c.dels_of-dels.result.now c.dels_of-dels.ensures)

pub returns : goal.returns
returns c =
    end_known c.args.made.now.0 c.ready-ready.result.now c.args.made.now.1 c.as_slice-sites.result.now c.args.site c.args.world c.in_ok-last.last c.index-sites-at.result c.dels_of-dels.result.now c.ready-ready.ensures
    (c.as_slice-sites.ensures ∙ ap (λ (p : Program). p.sites) c.program.ensures) c.requires.site c.index-sites-at.is c.requires.world c.dels_of-dels.ensures c.in_ok-last.ensures
