use Rattle.std.proofs.Common.{◌≡◌, ◌∙◌, ap, subst, [], ◌∷◌, ◌++◌, take, drop}
use Rattle.std.specs.List.Sorted.{IsStrictlySortedBy}
use Rattle.jl_model.specs.Order.{term_cmp}
use Rattle.jl_ambig.specs.Asked.{IsThere, IsPlaceFor}
use Rattle.jl_ambig.specs.Probes.{AreFirst}
use Rattle.jl_ambig.proofs.FirstLemmas.{add_there, add_put}
use Rattle.jl_ambig.proofs.probing.add.Goals as goal

pub returns-in_default : goal.returns-in_default
returns-in_default c = λ all h.
    let old = c.args.types.now.items in
    let t = c.in_ok-ty.ty in
    let p : IsThere term_cmp t old = subst (λ xs. IsStrictlySortedBy term_cmp xs → IsThere term_cmp t xs) c.as_slice.ensures.value c.in_default.ensures.place h.rises in
    subst (λ z. AreFirst (all ++ z ∷ []) old) c.in_ok-ty.ensures (add_there all old t h p)

pub returns : goal.returns
returns c = λ all h.
    let old = c.args.types.now.items in
    let t = c.in_ok-ty.ty in
    let i = c.in-Some.place in
    let p : IsPlaceFor term_cmp t old i = subst (λ xs. IsStrictlySortedBy term_cmp xs → IsPlaceFor term_cmp t xs i) c.as_slice.ensures.value c.in-Some.ensures.place h.rises in
    let e : c.truncate.new.self.items ≡ take 32 (take i old ++ t ∷ drop i old) = c.truncate.ensures.items ∙ ap (take 32) c.in_ok-insert.ensures.items in
    subst (λ z. AreFirst (all ++ z ∷ []) c.truncate.new.self.items) c.in_ok-ty.ensures (add_put all old t h i p c.truncate.new.self.items e)
