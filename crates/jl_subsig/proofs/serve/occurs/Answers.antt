use Rattle.std.proofs.Common.{◌≡◌, ◌∙◌, sym, ap, refl, length, true, false, not, Bool}
use Rattle.std.specs.List.{list_all}
use Rattle.jl_model.specs.Rows.{standing}
use Rattle.jl_subsig.specs.Side.{sided}
use Rattle.jl_search.specs.Absent.{lacks}
use Rattle.jl_search.proofs.AbsentLemmas.{absent, present}
use Rattle.jl_subsig.proofs.NamedLemmas.{none_named, stands_there}
use Rattle.jl_subsig.proofs.serve.occurs.Goals as goal

not_true : (b : Bool) → not b ≡ true → b ≡ false
not_true true e = let c : false ≡ true = e in cc
not_true false e = refl

pub returns : goal.returns
returns c =
    let s = sided c.args.right.now in
    let row = c.args.other.now.parts in
    let v = c.args.variable in
    let m = length c.bounds.result.now in
    let e = ap (list_all (lacks m v)) (sym c.as_slice.ensures) in
    let small = ap length c.bounds.ensures in (
      (λ h. standing v row (present s v m row small (e ∙ sym c.all_lack.ensures ∙ not_true c.all_lack.result h))),
      (λ o. by_test c.all_lack.result refl (λ d. absent s v m row small (e ∙ sym c.all_lack.ensures ∙ d) (stands_there s row (none_named s.vars (sym c.requires.named ∙ c.if-is_named.false)) v o))),
    )
  where
    by_test : (b : Bool) → c.all_lack.result ≡ b → (c.all_lack.result ≡ true → ⊥) → not c.all_lack.result ≡ true
    by_test true e f = absurd (f e)
    by_test false e f = ap not e
