-- Lists by number.
use Rattle.std.proofs.Common.{◌≡◌, ◌∙◌, ap, refl, ℕ, zero, suc, ◌+◌, arith, List, [], ◌∷◌, ◌++◌, length, map, Option, None}
use Rattle.std.specs.Global.{Vec}
use Rattle.std.proofs.lemmas.List.{length_push}
use Rattle.jl_methods.specs.Numbered.{nth}
use Rattle.jl_methods.proofs.PutLemmas.{nth_add_none}
use Rattle.jl_causes.specs.Stands.{AllNone}

pub map_push : (vs : List (Vec ℕ)) (v : Vec ℕ) → map (λ (v : Vec _). v.items) (vs ++ v ∷ []) ≡ map (λ (v : Vec _). v.items) vs ++ v.items ∷ []
map_push [] v = refl
map_push (x ∷ vs) v = ap (λ xs. x.items ∷ xs) (map_push vs v)

pub empty_length : (vs ws : List (Vec ℕ)) (v : Vec ℕ) (n : ℕ) → ws ≡ vs ++ v ∷ [] → length (map (λ (v : Vec _). v.items) vs) ≡ n → length (map (λ (v : Vec _). v.items) ws) ≡ n + 1
empty_length vs ws v n is many = ap (λ xs. length (map (λ (v : Vec _). v.items) xs)) is ∙ ap length (map_push vs v) ∙ omega (arith, length_push (map (λ (v : Vec _). v.items) vs) v.items, many)

pub empty_more : (vs ws : List (Vec ℕ)) (v : Vec ℕ) → ws ≡ vs ++ v ∷ [] → v.items ≡ [] → ((n : ℕ) → nth (map (λ (v : Vec _). v.items) vs) n ≡ []) → (n : ℕ) → nth (map (λ (v : Vec _). v.items) ws) n ≡ []
empty_more vs ws v is none before n =
    ap (λ xs. nth (map (λ (v : Vec _). v.items) xs) n) is ∙ ap (λ ls. nth ls n) (map_push vs v ∙ ap (λ x. map (λ (v : Vec _). v.items) vs ++ x ∷ []) none)
    ∙ nth_add_none (map (λ (v : Vec _). v.items) vs) n ∙ before n

-- nothing was found of any place
pub none_at_first : AllNone []
none_at_first zero sites f = f
none_at_first (suc n) sites f = f

pub none_more : (xs : List (Option (Vec ℕ))) → AllNone xs → AllNone (xs ++ None ∷ [])
none_more [] h zero sites f = f
none_more [] h (suc n) sites f = h n sites f
none_more (x ∷ xs) h zero sites f = h zero sites f
none_more (x ∷ xs) h (suc n) sites f = none_more xs (λ p. h (suc p)) n sites f
