use Rattle.std.proofs.Common.{◌≡◌, ◌∙◌, sym, ap, Some, List, ℕ, slice_get}
use Rattle.std.proofs.lemmas.Option.{slice_get-get_or}
use Rattle.std.proofs.lemmas.Slice.Eq.{slice_eq-Decides}
use Rattle.std.proofs.lemmas.Bool.Decides.{Decides-eqb}
use Rattle.jl_reflect.proofs.key.is_named.Goals as goal

pub returns-in-Some : goal.returns-in-Some
returns-in-Some c =
    let at = c.in-Some.ensures.lookup in
    let names = c.args.functions.now in
    let here : slice_get names c.args.number ≡ Some c.in-Some.known.now = slice_get-get_or names c.args.number c.in-Some.known.now at.3.0 ∙ ap (λ z. Some z) (sym at.1) in
    let same = slice_eq-Decides Decides-eqb c.as_slice.result.now c.args.name.now c.eq.result c.eq.ensures in (
      (λ yes. here ∙ ap (λ z. Some z) (sym c.as_slice.ensures ∙ same.0 yes)),
      (λ e. same.1 (c.as_slice.ensures ∙ some_same c.in-Some.known.now c.args.name.now (sym here ∙ e))),
    )
  where
    some_same : (a b : List ℕ) → Some a ≡ Some b → a ≡ b
    some_same a b e = cc
