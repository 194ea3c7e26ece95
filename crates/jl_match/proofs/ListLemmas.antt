-- Members of lists of numbers, and what holds of each.
use Rattle.std.proofs.Common.{◌≡◌, sym, ap, subst, refl, ℕ, zero, suc, ◌<◌, Bool, true, false, ◌||◌, nat_eq, eqb-true, arith, List, [], ◌∷◌, ◌++◌, map, length, slice_index_or, ◌⊎◌, inl, inr}
use Rattle.std.specs.List.{Contains, list_any}
use Rattle.jl_search.specs.Open.{EachVar}
use Rattle.jl_search.proofs.HasLemmas.{Has}

abbrev pub In : ℕ → List ℕ → Type 0
In v [] = ⊥
In v (n ∷ ns) = (v ≡ n) ⊎ In v ns

-- by index, and by member
in_at : (ns : List ℕ) (v k : ℕ) → k < length ns → slice_index_or ns k v ≡ v → In v ns
in_at [] v k h e = absurd (omega arith)
in_at (n ∷ ns) v zero h e = inl (sym e)
in_at (n ∷ ns) v (suc k) h e = inr (in_at ns v k (omega arith) e)

pub in_of : (ns : List ℕ) (v : ℕ) → Contains ns v → In v ns
in_of ns v c = in_at ns v c.0 c.1 c.2

pub of_in : (ns : List ℕ) (v : ℕ) → In v ns → Contains ns v
of_in [] v i = absurd i
of_in (n ∷ ns) v (inl e) = (0, omega arith, sym e)
of_in (n ∷ ns) v (inr i) = let c = of_in ns v i in (suc c.0, omega (arith, c.1), c.2)

pub in_left : (v : ℕ) (ms ns : List ℕ) → In v ms → In v (ms ++ ns)
in_left v [] ns i = absurd i
in_left v (m ∷ ms) ns (inl e) = inl e
in_left v (m ∷ ms) ns (inr i) = inr (in_left v ms ns i)

pub in_right : (v : ℕ) (ms ns : List ℕ) → In v ns → In v (ms ++ ns)
in_right v [] ns i = i
in_right v (m ∷ ms) ns i = inr (in_right v ms ns i)

pub in_either : (v : ℕ) (ms ns : List ℕ) → In v (ms ++ ns) → In v ms ⊎ In v ns
in_either v [] ns i = inr i
in_either v (m ∷ ms) ns (inl e) = inl (inl e)
in_either v (m ∷ ms) ns (inr i) = elim (in_either v ms ns i) [ inl j ↦ inl (inr j) | inr j ↦ inr j ]

pub in_map : (f : ℕ → ℕ) (w : ℕ) (ns : List ℕ) → In w ns → In (f w) (map f ns)
in_map f w [] i = absurd i
in_map f w (n ∷ ns) (inl e) = inl (ap f e)
in_map f w (n ∷ ns) (inr i) = inr (in_map f w ns i)

pub map_in : (f : ℕ → ℕ) (v : ℕ) (ns : List ℕ) → In v (map f ns) → (w : ℕ) × In w ns × (f w ≡ v)
map_in f v [] i = absurd i
map_in f v (n ∷ ns) (inl e) = (n, inl refl, sym e)
map_in f v (n ∷ ns) (inr i) = let r = map_in f v ns i in (r.0, inr r.1, r.2)

-- the test of membership
pub any_in : (v : ℕ) (ns : List ℕ) → list_any (nat_eq v) ns ≡ true → In v ns
any_in v [] h = let f : false ≡ true = h in cc
any_in v (k ∷ ks) h = pick (nat_eq v k) refl h (λ g. any_in v ks g)
  where
    pick : (b : Bool) → nat_eq v k ≡ b → (b || list_any (nat_eq v) ks) ≡ true → (list_any (nat_eq v) ks ≡ true → In v ks) → In v (k ∷ ks)
    pick true e g r = inl (eqb-true v k e)
    pick false e g r = inr (r g)

pub in_any : (v : ℕ) (ns : List ℕ) → In v ns → list_any (nat_eq v) ns ≡ true
in_any v [] i = absurd i
in_any v (k ∷ ks) (inl e) = let f : nat_eq v k ≡ true = grind (arith, e) in rw f refl
in_any v (k ∷ ks) (inr i) = let h = in_any v ks i in either (nat_eq v k) (list_any (nat_eq v) ks) h
  where
    either : (b c : Bool) → c ≡ true → (b || c) ≡ true
    either true c h = refl
    either false c h = h

-- what holds of each holds of a member
pub in_each : (P : ℕ → Type 0) (ns : List ℕ) → EachVar P ns → (v : ℕ) → In v ns → P v
in_each P [] e v i = absurd i
in_each P (k ∷ ks) e v (inl i) = subst P (sym i) e.0
in_each P (k ∷ ks) e v (inr i) = in_each P ks e.1 v i

pub each_of : (P : ℕ → Type 0) (ns : List ℕ) → ((v : ℕ) → In v ns → P v) → EachVar P ns
each_of P [] k = tt
each_of P (n ∷ ns) k = (k n (inl refl), each_of P ns (λ v i. k v (inr i)))

-- by member of a list of any type
pub has_in : (v : ℕ) (ns : List ℕ) → In v ns → Has ns v
has_in v [] i = absurd i
has_in v (n ∷ ns) (inl e) = inl (sym e)
has_in v (n ∷ ns) (inr i) = inr (has_in v ns i)

pub in_has : (v : ℕ) (ns : List ℕ) → Has ns v → In v ns
in_has v [] i = absurd i
in_has v (n ∷ ns) (inl e) = inl (sym e)
in_has v (n ∷ ns) (inr i) = inr (in_has v ns i)
