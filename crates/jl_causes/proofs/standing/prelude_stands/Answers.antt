use Rattle.std.proofs.Common.{◌≡◌, ◌+◌, sym, subst, arith, take, map, length}
use Rattle.std.proofs.lemmas.List.{take_all, length-take-le, length-map}
use Rattle.jl_program.specs.Prelude.{prelude_numbers}
use Rattle.jl_calculus.specs.declared.history.Change.TheVariants as Ch
use Rattle.jl_methods.proofs.FunctionLemmas.{many_sites}
use Rattle.jl_methods.proofs.PreludeLemmas.{first_changes, first_more}
use Rattle.jl_causes.specs.Stands.{AreStanding}
use Rattle.jl_causes.proofs.standing.prelude_stands.Goals as goal

pub loop-site-init : goal.loop-site-init
loop-site-init c = c.in_ok-standing.ensures

pub define-requires : goal.define-requires
define-requires c =
    let many = many_sites c.args.ready.now c.valid.ensures in
    omega (arith, many, c.loop-site-test.true, c.loop-site.invariant.all_made)

pub loop-site-preserved : goal.loop-site-preserved
loop-site-preserved c =
    let P = c.args.ready.now in
    let site = c.loop-site.site in
    let at : site + 1 ≡ length (first_changes site) + 1 = omega (arith, length-take-le site prelude_numbers (omega (arith, c.loop-site-test.true)), length-map (take site prelude_numbers) Ch.Def) in
    subst (λ cs. AreStanding P cs c.define.new.self) (sym (first_more site c.loop-site-test.true)) (c.in_ok-define.ensures P (first_changes site) c.loop-site.invariant at)

pub returns : goal.returns
returns c = subst (λ ns. AreStanding c.args.ready.now (map Ch.Def ns) c.loop-site.standing) (take_all c.loop-site.site prelude_numbers (omega (arith, c.loop-site-test.false))) c.loop-site.invariant
