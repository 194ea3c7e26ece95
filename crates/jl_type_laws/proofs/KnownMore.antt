-- The declared bounds of a valid list of declarations name types of the list alone, and have no variables.
use Rattle.std.proofs.Common.{◌≡◌, refl, ℕ, ◌+◌, ◌≤◌, arith, Bool, true, false, ◌&&◌, nat_lt, List, [], ◌∷◌, ◌++◌, length, length-append}
use Rattle.std.specs.List.{list_all}
use Rattle.jl_model.specs.declared.ty.Ty.{Ty}
use Rattle.jl_model.specs.declared.ty.Bound.{Bound}
use Rattle.jl_model.specs.declared.ty.Decl.{Decl}
use Rattle.jl_model.specs.Ancestors.{builtin_types}
use Rattle.jl_model.specs.Kept.{field_types}
use Rattle.jl_model.specs.Refusals.{bound_types, own, is_known_decl, is_placed_decl, is_placed_field, is_placed, IsReady, Declared, builtin, added}
use Rattle.jl_model.specs.Valid.{names_in, is_known, is_closed}
use Rattle.jl_model.proofs.DeclaredLemmas.{not_false}
use Rattle.jl_model.proofs.PutLemmas.{and_l, and_r, both_true}
use Rattle.jl_written.specs.declared.reading.Place.{Place}
use Rattle.jl_written.specs.declared.reading.Reading.{Reading}
use Rattle.jl_type_laws.specs.Carried.{Passes, BoundsHave, PlacesHave, ReadingHas}
use Rattle.jl_type_laws.specs.Scripts.{DeclsKnown, are_known}
use Rattle.jl_type_laws.proofs.CarryLemmas.{all_join}

lt_more : (k m n : ℕ) → m ≤ n → nat_lt k m ≡ true → nat_lt k n ≡ true
lt_more k m n l e = grind (arith, l, e)

names_more : (m n : ℕ) → m ≤ n → (ks : List ℕ) → list_all (λ k. nat_lt k m) ks ≡ true → list_all (λ k. nat_lt k n) ks ≡ true
names_more m n l [] h = refl
names_more m n l (k ∷ ks) h =
    both_true (nat_lt k n) (list_all (λ j. nat_lt j n) ks) (lt_more k m n l (and_l (nat_lt k m) (list_all (λ j. nat_lt j m) ks) h)) (names_more m n l ks (and_r (nat_lt k m) (list_all (λ j. nat_lt j m) ks) h))

-- a type that is known is known among more types
pub known_more : (m n : ℕ) → m ≤ n → (t : Ty) → is_known m t ≡ true → is_known n t ≡ true
known_more m n l t h = names_more m n l (names_in t) h

pub all_more : (m n : ℕ) → m ≤ n → (ts : List Ty) → list_all (is_known m) ts ≡ true → list_all (is_known n) ts ≡ true
all_more m n l [] h = refl
all_more m n l (t ∷ ts) h = both_true (is_known n t) (list_all (is_known n) ts) (known_more m n l t (and_l (is_known m t) (list_all (is_known m) ts) h)) (all_more m n l ts (and_r (is_known m t) (list_all (is_known m) ts) h))

pub decls_more : (m n : ℕ) → m ≤ n → (ds : List Decl) → are_known m ds ≡ true → are_known n ds ≡ true
decls_more m n l [] h = refl
decls_more m n l (d ∷ ds) h =
    both_true (list_all (is_known n) (bound_types d.params)) (are_known n ds) (all_more m n l (bound_types d.params) (and_l (list_all (is_known m) (bound_types d.params)) (are_known m ds) h))
    (decls_more m n l ds (and_r (list_all (is_known m) (bound_types d.params)) (are_known m ds) h))

bounds_more : (m n : ℕ) → m ≤ n → (bs : List Bound) → BoundsHave (Passes (is_known m)) bs → BoundsHave (Passes (is_known n)) bs
bounds_more m n l [] h = tt
bounds_more m n l (b ∷ bs) h = ((known_more m n l b.low h.0.0, known_more m n l b.high h.0.1), bounds_more m n l bs h.1)

places_more : (m n : ℕ) → m ≤ n → (ps : List Place) → PlacesHave (Passes (is_known m)) ps → PlacesHave (Passes (is_known n)) ps
places_more m n l [] h = tt
places_more m n l (p ∷ ps) h = (known_more m n l p.high h.0, places_more m n l ps h.1)

pub reading_more : (m n : ℕ) → m ≤ n → (r : Reading) → ReadingHas (Passes (is_known m)) r → ReadingHas (Passes (is_known n)) r
reading_more m n l r h = record { bounds = bounds_more m n l r.vars h.bounds; places = places_more m n l r.places h.places }

-- one more declaration
pub next_known : (ds : List Decl) (d : Decl) → DeclsKnown ds → list_all (is_known (length ds)) (bound_types d.params) ≡ true → list_all is_closed (bound_types d.params) ≡ true → DeclsKnown (ds ++ d ∷ [])
next_known ds d k h g =
    let e = length-append ds (d ∷ []) in
    let l : length ds ≤ length (ds ++ d ∷ []) = omega (arith, e) in
    let m = length (ds ++ d ∷ []) in
    record {
      builtins = let b = k.builtins in omega (arith, b, l);
      known = all_join (λ (x : Decl). list_all (is_known m) (bound_types x.params)) ds (d ∷ []) (decls_more (length ds) m l ds k.known)
          (both_true (list_all (is_known m) (bound_types d.params)) true (all_more (length ds) m l (bound_types d.params) h) refl);
      closed = all_join (λ (x : Decl). list_all is_closed (bound_types x.params)) ds (d ∷ []) k.closed (both_true (list_all is_closed (bound_types d.params)) true g refl);
    }

three_first : (a b c : Bool) → (a && b && c) ≡ true → a ≡ true
three_first true b c h = refl
three_first false b c h = cc

ready_known : (ds : List Decl) (d : Decl) → IsReady ds d → DeclsKnown ds → DeclsKnown (ds ++ d ∷ [])
ready_known ds d r k = next_known ds d k
    (three_first (list_all (is_known (length ds)) (bound_types d.params)) (is_known (length ds) d.parent) (list_all (is_known (length ds + own d.kind)) (field_types d.fields)) (not_false (is_known_decl ds d) r.allowed.known))
    (three_first (list_all is_closed (bound_types d.params)) (is_placed (length ds) d.parent) (list_all (is_placed_field (length ds)) (field_types d.fields)) (not_false (is_placed_decl ds d) r.allowed.placed))

pub builtins_known : DeclsKnown builtin_types
builtins_known = record { builtins = omega arith; known = refl; closed = refl }

pub declared_known : (ds : List Decl) → Declared ds → DeclsKnown ds
declared_known ds builtin = builtins_known
declared_known ds (added es d h r) = ready_known es d r (declared_known es h)
