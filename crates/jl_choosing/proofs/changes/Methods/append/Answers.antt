use Rattle.std.proofs.Common.{◌∙◌, ap, sym, subst, ◌++◌, ◌∷◌, []}
use Rattle.jl_choosing.specs.ByFunction.{AreBefore}
use Rattle.jl_choosing.proofs.LatestLemmas.{kept_push, older_push}
use Rattle.jl_choosing.proofs.changes.Methods.append.Goals as goal

pub invariant_of-self-2 : goal.invariant_of-self-2
invariant_of-self-2 c =
    let m = c.self.inside in
    let def = c.args.def in
    let before = subst (AreBefore def.world) (sym c.self.view_is) c.requires in
    let more = c.push_reserved.ensures.items ∙ ap (λ xs. xs ++ def ∷ []) c.reserve.ensures.items in
    let new = c.push_reserved-2.ensures.items ∙ ap (λ xs. xs ++ def ∷ []) c.reserve-2.ensures.items in (
      kept_push def m.all.items m.latest.items c.push_reserved.new.self.items c.push_reserved-2.new.self.items c.self.invariant.0 before more new,
      older_push def m.all.items c.push_reserved.new.self.items m.older before more c.self.invariant.1,
    )
