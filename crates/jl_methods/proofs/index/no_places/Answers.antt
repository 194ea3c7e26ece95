use Rattle.std.proofs.Common.{◌≡◌, arith, map, length, subst, ap}
use Rattle.jl_program.specs.declared.tree.Program.{Program}
use Rattle.jl_program.specs.Prelude.{prelude_numbers}
use Rattle.jl_calculus.specs.declared.history.Change.TheVariants as Ch
use Rattle.jl_methods.specs.Links.{linked_in, AreEmptyLinks}
use Rattle.jl_methods.proofs.LinkLemmas.{linked_none, no_del_in}
use Rattle.jl_methods.proofs.index.no_places.Goals as goal

pub returns : goal.returns
returns c =
    let P = c.args.ready.now in
    let many : c.len.result ≡ length P.deletes = omega (arith, c.len.ensures, ap (λ (p : Program). length p.deletes) c.program.ensures) in
    linked_none P Ch.Del (length P.deletes) (map Ch.Def prelude_numbers) (linked_in c.in_ok-places.places) (λ n w. no_del_in prelude_numbers n w)
    (subst (λ n. AreEmptyLinks n (linked_in c.in_ok-places.places)) many c.in_ok-places.ensures)
