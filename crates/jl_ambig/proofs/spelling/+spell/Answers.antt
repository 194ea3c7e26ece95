use Rattle.std.proofs.Common.{◌∙◌, sym, ap, ◌++◌, ◌∷◌, [], length, map, append_assoc}
use Rattle.std.specs.List.{flat_map}
use Rattle.std.proofs.lemmas.List.{length-map}
use Rattle.jl_model.specs.Order.{spelled}
use Rattle.jl_ambig.proofs.SpellLemmas.{flat-spelled}
use Rattle.jl_ambig.proofs.spelling.+spell.Goals as goal

pub push_all-loop-ty-init : goal.push_all-loop-ty-init
push_all-loop-ty-init t c =
    let ts = c.args.types.now in
    let old = c.args.out.now.items in
    rw c.in_ok-push.ensures.items
    (append_assoc old (length ts ∷ []) (flat_map spelled ts) ∙ ap (λ z. old ++ length ts ∷ z) (sym (flat-spelled ts)) ∙ ap (λ z. old ++ z ∷ flat_map (λ s. s) (map spelled ts)) (sym (length-map ts spelled)))
