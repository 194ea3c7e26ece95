use Rattle.std.proofs.Common.{arith, ap, subst, sym, ◌≤◌, length}
use Rattle.jl_program.specs.declared.tree.Program.{Program}
use Rattle.store_tests.proofs.KeyLemmas.{simple_key}
use Rattle.store_tests.proofs.keys.make_key.Goals as goal

pub returns : goal.returns
returns c =
    simple_key c.args.ready.now c.valid.ensures.decls (record { function = c.args.function; types = c.in_ok-types.types })
    (omega (arith, c.if-len-function.false, c.len.ensures, ap (λ (p : Program). length p.functions) c.program.ensures))
    (subst (λ n. n ≤ 8) (sym c.in_ok-types.ensures.few) c.requires)
    c.in_ok-types.ensures.simple
