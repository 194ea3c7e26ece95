use Rattle.std.proofs.Common.{◌∙◌, ap, sym, subst, ◌++◌, ◌∷◌, []}
use Rattle.jl_calculus.specs.declared.history.Del.{Del}
use Rattle.jl_methods.specs.Latest.{renewed, place_number, AreLatestOfPlaces}
use Rattle.jl_methods.proofs.LatestLemmas.{latest_more}
use Rattle.jl_choosing.specs.ByFunction.{AreDelsBefore}
use Rattle.jl_choosing.proofs.changes.Deletions.push.Goals as goal

pub invariant_of-self-2 : goal.invariant_of-self-2
invariant_of-self-2 c =
    let m = c.self.inside in
    let del = c.args.del in
    subst (λ xs. AreLatestOfPlaces xs c.renew_deletion.new.latest.items) (sym (c.push_reserved.ensures.items ∙ ap (λ xs. xs ++ del ∷ []) c.reserve.ensures.items))
    (subst (AreLatestOfPlaces (m.all.items ++ del ∷ [])) (sym (c.renew_deletion.ensures ∙ ap (λ xs. renewed place_number xs del) c.reserve-2.ensures.items))
    (latest_more place_number (λ (d : Del). d.world) (λ d. Unit {0}) m.all.items m.latest.items c.self.invariant del tt (subst (AreDelsBefore del.world) (sym c.self.view_is) c.requires)))
