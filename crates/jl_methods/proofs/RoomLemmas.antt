-- A write to one of the lists, as its items tell it.
use Rattle.std.proofs.Common.{◌≡◌, ◌∙◌, ap, refl, ℕ, zero, suc, ◌<◌, arith, List, [], ◌∷◌, ◌++◌, length, map, get_or, set}
use Rattle.std.specs.Global.{Vec}
use Rattle.std.proofs.lemmas.List.{map-set, set-get_or}
use Rattle.jl_methods.specs.Numbered.{nth, put_at, change_at}

abbrev pub items : {T : Type 0} → List (Vec T) → List (List T)
items vs = map (λ (v : Vec _). v.items) vs

read_item : {T : Type 0} (vs : List (Vec T)) (n : ℕ) (v : Vec T) → n < length vs → v ≡ get_or vs n v → v.items ≡ nth (items vs) n
read_item [] n v l e = absurd (omega (arith, l))
read_item (w ∷ vs) zero v l e = ap (λ (v : Vec _). v.items) e
read_item (w ∷ vs) (suc n) v l e = read_item vs n v (omega (arith, l)) e

-- a list whose items stay
pub write_same : {T : Type 0} (vs : List (Vec T)) (n : ℕ) (v w : Vec T) → n < length vs → v ≡ get_or vs n v → w.items ≡ v.items → items (set vs n w) ≡ items vs
write_same vs n v w l e h =
    map-set (λ (v : Vec _). v.items) vs n w ∙ ap (set (items vs) n) (h ∙ read_item vs n v l e) ∙ set-get_or (items vs) n []

-- a list that gets one more element
pub write_put : {T : Type 0} (vs : List (Vec T)) (n : ℕ) (x : T) (v w : Vec T) → n < length vs → v ≡ get_or vs n v → w.items ≡ v.items ++ x ∷ []
    → items (set vs n w) ≡ put_at (items vs) n x
write_put vs n x v w l e h =
    map-set (λ (v : Vec _). v.items) vs n w ∙ ap (set (items vs) n) (h ∙ ap (λ xs. xs ++ x ∷ []) (read_item vs n v l e))

-- a list that is changed
pub write_change : {T : Type 0} (f : List T → List T) (vs : List (Vec T)) (n : ℕ) (v w : Vec T) → n < length vs → v ≡ get_or vs n v → w.items ≡ f v.items → items (set vs n w) ≡ change_at f (items vs) n
write_change f vs n v w l e h = map-set (λ (v : Vec _). v.items) vs n w ∙ ap (set (items vs) n) (h ∙ ap f (read_item vs n v l e))

pub length_items : {T : Type 0} (vs : List (Vec T)) → length (items vs) ≡ length vs
length_items [] = refl
length_items (v ∷ vs) = ap suc (length_items vs)
