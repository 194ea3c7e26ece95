use Rattle.std.proofs.Common.{ap, arith, length, length-append, mod-lt, subst, sym, ◌%◌, ◌+◌, ◌∷◌, [], List}
use Rattle.jl_model.specs.declared.ty.Ty.{Ty}
use Rattle.jl_model.specs.declared.ty.Ty.TheViews as V
use Rattle.store_tests.specs.Simple.{AreSimple}
use Rattle.store_tests.proofs.KeyLemmas.{one_more}
use Rattle.store_tests.proofs.keys.make_types.Goals as goal

pub loop-preserved : goal.loop-preserved
loop-preserved c =
    let k = c.loop.rest % 4 in
    let pushed = c.in_ok-types.ensures in (
      subst AreSimple (sym pushed) (one_more c.loop.types.items k _ (mod-lt c.loop.rest (omega arith)) (ap (λ (xs : List Ty). V.Nominal (4 + k) xs) c.empty.ensures) c.loop.invariant.0),
      omega (arith, ap length pushed, length-append c.loop.types.items (V.Nominal (4 + k) c.empty.result ∷ []), c.loop.invariant.1),
    )
