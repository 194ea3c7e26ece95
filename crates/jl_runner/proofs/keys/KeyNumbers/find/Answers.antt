use Rattle.std.proofs.Common.{◌≡◌, ◌∙◌, ap, sym, slice_get, List, Some, ℕ}
use Rattle.jl_model.specs.declared.ty.Key.{Key}
use Rattle.jl_runner.proofs.KeyLemmas.{found_key}
use Rattle.jl_runner.proofs.keys.KeyNumbers.find.Goals as goal

pub returns-in-Some : goal.returns-in-Some
returns-in-Some c =
    let is : c.in-Some.field-0-1.now ≡ c.args.key.now = found_key c.args.key.now c.self.inside.numbers.entries _ (sym c.in-Some.ensures.key) in
    (_, ap (λ (xs : List (Key × ℕ)). slice_get xs c.in-Some.field-0-0) (sym c.self.view_is) ∙ c.in-Some.ensures.entry ∙ ap (λ (k : Key). Some (k, c.in-Some.number.now)) is)
