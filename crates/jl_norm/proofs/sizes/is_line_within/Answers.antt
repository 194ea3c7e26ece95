use Rattle.std.proofs.Common.{sym, subst, map, arith, refl}
use Rattle.jl_model.specs.declared.ty.Ty.TheViews as V
use Rattle.jl_model.specs.Refusals.{AllWithinLimits}
use Rattle.jl_norm.proofs.AncestorLemmas.{ancestors_none}
use Rattle.jl_norm.proofs.sizes.is_line_within.Goals as goal

pub returns-else-name-count : goal.returns-else-name-count
returns-else-name-count c =
    let e = ancestors_none c.args.table.now c.args.decl.now c.in-Nominal.name c.in-Nominal.args c.in-Nominal.is (omega arith) in
    ((λ h. subst (λ z. AllWithinLimits (map (λ a. V.Nominal a.name a.args) z)) (sym e) tt), (λ h. refl))
