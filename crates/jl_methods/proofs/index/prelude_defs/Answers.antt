use Rattle.std.proofs.Common.{◌≡◌, ◌∙◌, ap, arith, ◌+◌, ◌<◌, length}
use Rattle.jl_calculus.specs.declared.history.Change.TheVariants as Ch
use Rattle.jl_methods.specs.Numbered.{put_at}
use Rattle.jl_methods.specs.Room.{items_of}
use Rattle.jl_methods.proofs.ChangeLemmas.{def}
use Rattle.jl_methods.proofs.FunctionLemmas.{many_sites, function_of_known}
use Rattle.jl_methods.proofs.PreludeLemmas.{prelude_step}
use Rattle.jl_methods.proofs.PutLemmas.{length_put}
use Rattle.jl_methods.proofs.index.prelude_defs.Goals as goal

pub reserve-requires : goal.reserve-requires
reserve-requires c =
    let P = c.args.ready.now in
    let site = c.loop-site.site in
    omega (arith, function_of_known P c.valid.ensures (Ch.Def site) (omega (arith, many_sites P c.valid.ensures, c.loop-site-test.true)), c.function_of-function.ensures, c.loop-site.invariant.0)

pub loop-site-preserved : goal.loop-site-preserved
loop-site-preserved c =
    let P = c.args.ready.now in
    let site = c.loop-site.site in
    let f = c.function_of-function.result in
    let ls = items_of c.loop-site.defs in
    let new = items_of c.put.new.self in
    let stands : site < length P.sites = omega (arith, many_sites P c.valid.ensures, c.loop-site-test.true) in
    let within : f < length ls = omega (arith, function_of_known P c.valid.ensures (Ch.Def site) stands, c.function_of-function.ensures, c.loop-site.invariant.0) in
    let put : new ≡ put_at ls f (def (site + 1) site) = c.put.ensures.put ∙ ap (λ ls. put_at ls f (def (site + 1) site)) c.reserve.ensures.kept in (
      ap length put ∙ length_put ls f (def (site + 1) site) ∙ c.loop-site.invariant.0,
      prelude_step P site f ls new c.loop-site-test.true stands c.function_of-function.ensures within put c.loop-site.invariant.1,
    )
