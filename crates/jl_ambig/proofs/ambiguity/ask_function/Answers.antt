use Rattle.std.proofs.Common.{◌≡◌, ◌∙◌, ap, sym, subst, arith, ◌<◌, ◌++◌, length, take}
use Rattle.std.specs.List.{filter}
use Rattle.jl_program.specs.Valid.{IsValid}
use Rattle.jl_calculus.specs.Definitions.{HasSite}
use Rattle.jl_choosing.specs.ByFunction.{Rising}
use Rattle.jl_choosing.proofs.PickLemmas.{latest_sites, latest_places}
use Rattle.jl_subsig.specs.Side.{Every}
use Rattle.jl_subsig.specs.Standing.{HasPlace}
use Rattle.jl_ambig.specs.Asked.{has_components, AreAsked, AreFound, probes_of}
use Rattle.jl_ambig.proofs.AskLemmas.{are_asked, few_found}
use Rattle.jl_ambig.proofs.TwoLemmas.{filter_sites, filter_rises}
use Rattle.jl_ambig.proofs.ambiguity.ask_function.Goals as goal

pub with_components-requires : goal.with_components-requires
with_components-requires c =
    let P = c.args.made.now.0 in
    subst (λ R. Every (HasSite R) c.defs_of-latest.result.now) (sym c.ready-ready.ensures)
    (latest_sites P c.args.function (take c.args.world c.args.made.now.1) c.defs_of-latest.result.now c.defs_of-latest.ensures)

pub returns-then-len-lt2 : goal.returns-then-len-lt2
returns-then-len-lt2 c = λ es done same h.
    let P = c.args.made.now.0 in
    let latest = c.defs_of-latest.result.now in
    let e : c.in_ok-defs.defs.items ≡ filter (has_components P c.args.count) latest = subst (λ R. c.in_ok-defs.defs.items ≡ filter (has_components R c.args.count) latest) c.ready-ready.ensures c.in_ok-defs.ensures in
    let few : length (filter (has_components P c.args.count) latest) < 2 = omega (arith, ap length e, c.len.ensures, c.if-len-lt2.true) in
    few_found P es c.args.function c.args.count c.args.world c.args.made.now.1 same c.requires.world latest c.defs_of-latest.ensures (subst IsValid c.ready-ready.ensures c.valid.ensures) c.args.lists.now c.requires.long few
    done c.args.pairs.now.items h

pub ask_all-requires-clause-may : goal.ask_all-requires-clause-may
ask_all-requires-clause-may c =
    let P = c.args.made.now.0 in
    let Q = c.ready-ready.result.now in
    let latest = c.defs_of-latest.result.now in
    let p = has_components Q c.args.count in
    let e : c.as_slice.result.now ≡ filter p latest = c.as_slice.ensures.value ∙ c.in_ok-defs.ensures in
    let sites : Every (HasSite Q) latest = subst (λ R. Every (HasSite R) latest) (sym c.ready-ready.ensures)
    (latest_sites P c.args.function (take c.args.world c.args.made.now.1) latest c.defs_of-latest.ensures) in record {
      sites = subst (Every (HasSite Q)) (sym e) (filter_sites Q p latest sites);
      places = subst (λ R. Every (HasPlace R) c.dels_of-dels.result.now) (sym c.ready-ready.ensures)
          (latest_places P c.args.function (take c.args.world c.args.made.now.1) c.dels_of-dels.result.now c.dels_of-dels.ensures);
      ordered = subst (Rising 0) (sym e) (filter_rises 0 p latest c.defs_of-latest.ensures.rising);
    }

pub returns : goal.returns
returns c = λ es done same h.
    let P = c.args.made.now.0 in
    let Q = c.ready-ready.result.now in
    let r : Q ≡ P = c.ready-ready.ensures in
    let f = c.args.function in
    let n = c.args.count in
    let latest = c.defs_of-latest.result.now in
    let dels = c.dels_of-dels.result.now in
    let defs = c.as_slice.result.now in
    let e : defs ≡ filter (has_components P n) latest = subst (λ R. defs ≡ filter (has_components R n) latest) r (c.as_slice.ensures.value ∙ c.in_ok-defs.ensures) in
    let own : AreAsked P es f n (filter (has_components P n) latest) dels = are_asked P es f n c.args.world c.args.made.now.1 same c.requires.world latest c.defs_of-latest.ensures dels c.dels_of-dels.ensures in
    let asked : AreAsked Q es f n defs dels = subst (λ R. AreAsked R es f n defs dels) (sym r) (subst (λ ds. AreAsked P es f n ds dels) (sym e) own) in
    subst (λ R. AreFound R es (done ++ probes_of f c.args.lists.now) c.ask_all.new.pairs.items) r
    (c.in_ok-ask_all.ensures es f n done c.requires.long asked (subst (λ R. AreFound R es done c.args.pairs.now.items) (sym r) h))
