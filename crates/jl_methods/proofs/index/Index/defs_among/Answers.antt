use Rattle.std.proofs.Common.{◌∙◌, ◌≤◌, ap, sym, subst, length, take}
use Rattle.std.specs.List.{All}
use Rattle.std.specs.List.Sorted.{IsStrictlyIncreasing}
use Rattle.jl_calculus.specs.declared.history.Change.TheVariants as Ch
use Rattle.jl_calculus.specs.Definitions.{worlds, defs_in}
use Rattle.jl_calculus.specs.Ranges.{keys_of}
use Rattle.jl_calculus.specs.World.{changes}
use Rattle.jl_methods.specs.Filters.{defs_at}
use Rattle.jl_methods.specs.Latest.{HaveLatestOfSites}
use Rattle.jl_methods.specs.Links.{linked_in}
use Rattle.jl_methods.proofs.AmongLemmas.{latest_known, latest_rise, have_latest_defs}
use Rattle.jl_methods.proofs.LinkLemmas.{in_order, site_bound}
use Rattle.jl_methods.proofs.index.Index.defs_among.Goals as goal

pub make_defs-requires : goal.make_defs-requires
make_defs-requires c =
    let (P, index) = c.requires in
    let (es, h) = index in
    let ss = linked_in c.args.self.now.sites in
    let ws = c.in_ok-made.made.items in
    let are = c.in_ok-made.ensures (in_order P Ch.Def (length P.sites) (site_bound P) (changes es) (keys_of es) ss h.sites) in
    subst (λ ws. All (λ n. (1 ≤ n) × (n ≤ length c.as_slice.result.now)) ws) (sym c.as_slice-2.ensures.value)
    (subst (λ cs. All (λ n. (1 ≤ n) × (n ≤ length cs)) ws) (sym (c.as_slice.ensures.value ∙ h.known_changes)) (latest_known P (changes es) (keys_of es) ss h.sites c.args.sites.now c.args.world ws are))

pub returns-clause-latest : goal.returns-clause-latest
returns-clause-latest c = λ P es k h applying.
    let ss = linked_in c.args.self.now.sites in
    let w = c.args.world in
    let ws = c.in_ok-made.made.items in
    let are = c.in_ok-made.ensures (in_order P Ch.Def (length P.sites) (site_bound P) (changes es) (keys_of es) ss h.sites) in
    let is = c.in_ok-defs.ensures ∙ ap (λ ws. defs_at c.as_slice.result.now ws) c.as_slice-2.ensures.value ∙ ap (λ cs. defs_at cs ws) (c.as_slice.ensures.value ∙ h.known_changes) in
    subst (HaveLatestOfSites P k.types (defs_in P es k.function w)) (sym is) (have_latest_defs P (changes es) (keys_of es) ss h.sites c.args.sites.now w ws are k applying)

pub returns-clause-ordered : goal.returns-clause-ordered
returns-clause-ordered c =
    let (P, index) = c.requires in
    let (es, h) = index in
    let ss = linked_in c.args.self.now.sites in
    let ws = c.in_ok-made.made.items in
    let are = c.in_ok-made.ensures (in_order P Ch.Def (length P.sites) (site_bound P) (changes es) (keys_of es) ss h.sites) in
    let is = c.in_ok-defs.ensures ∙ ap (λ ws. defs_at c.as_slice.result.now ws) c.as_slice-2.ensures.value ∙ ap (λ cs. defs_at cs ws) (c.as_slice.ensures.value ∙ h.known_changes) in
    subst (λ ds. IsStrictlyIncreasing (worlds ds)) (sym is) (latest_rise P (changes es) (keys_of es) ss h.sites c.args.sites.now c.args.world ws are)
