-- A choice has one member of each list.
use Rattle.std.proofs.Common.{◌≡◌, sym, subst, refl, List, [], ◌∷◌, map, inl, inr}
use Rattle.jl_model.specs.declared.ty.Ty.{Ty}
use Rattle.jl_model.specs.Rows.{choices}
use Rattle.jl_search.proofs.HasLemmas.{Has, Picks, has_map, map_has, has_flat, flat_has}

pub has_choices : (tss : List (List Ty)) (us : List Ty) → Picks us tss → Has (choices tss) us
has_choices [] [] p = inl refl
has_choices [] (u ∷ us) p = absurd p
has_choices (ts ∷ tss) [] p = absurd p
has_choices (ts ∷ tss) (u ∷ us) p =
    has_flat (λ t. map (λ vs. t ∷ vs) (choices tss)) ts u (u ∷ us) p.0 (has_map (λ vs. u ∷ vs) (choices tss) us (has_choices tss us p.1))

no_head : (t : Ty) (ts : List Ty) → (t ∷ ts) ≡ [] → ⊥
no_head t ts e = cc

pub choices_has : (tss : List (List Ty)) (us : List Ty) → Has (choices tss) us → Picks us tss
choices_has [] [] h = tt
choices_has [] (u ∷ us) (inl e) = no_head u us (sym e)
choices_has [] (u ∷ us) (inr h) = absurd h
choices_has (ts ∷ tss) us h =
    let r = flat_has (λ t. map (λ vs. t ∷ vs) (choices tss)) ts us h in
    let q = map_has (λ vs. r.0 ∷ vs) (choices tss) us r.2 in
    subst (λ z. Picks z (ts ∷ tss)) q.2 (r.1, choices_has tss q.0 q.1)
