-- What a table of keys finds.
use Rattle.std.proofs.Common.{◌≡◌, ◌∙◌, refl, ap, sym, subst, ℕ, ⊎_elim, Bool, true, false, cond, ◌||◌, List, [], ◌∷◌, ◌++◌, length, slice_get, Some, if◌then◌else◌}
use Rattle.std.specs.List.{Contains, list_any, find}
use Rattle.indexmap.specs.IndexSet.{insert_key}
use Rattle.indexmap.proofs.CallerLemmas.{Contains-list_any}
use Rattle.jl_model.specs.declared.ty.Key.{Key}
use Rattle.jl_calculus.specs.declared.history.Event.{Event}
use Rattle.jl_calculus.specs.declared.history.Event.TheVariants as Ev
use Rattle.jl_calculus.specs.Ranges.{keys_of}
use Rattle.jl_calculus.proofs.GrowthLemmas.{keys_append}
use Rattle.jl_methods.proofs.FilterLemmas.{here_or_there, none_there}
use Rattle.jl_world.proofs.Lists.{get_push}
use Rattle.jl_book.proofs.KeyTests.{key_test, keys_same, key_own}

-- the key that is found is the one that was asked for
pub found_is : (key : Key) (ks : List Key) (x : Key) → find (key_test key) ks ≡ Some x → x ≡ key
found_is key [] x h = absurd cc
found_is key (k ∷ ks) x h = by (key_test key k) (λ e. keys_same key k e) h (found_is key ks x)
  where
    by : (b : Bool) → (b ≡ true → key ≡ k) → cond b (Some k) (find (key_test key) ks) ≡ Some x → (find (key_test key) ks ≡ Some x → x ≡ key) → x ≡ key
    by true e f rest = let at : key ≡ k = e cc in let is : k ≡ x = cc in cc
    by false e f rest = rest f

any_first : (a b : Bool) → (a || b) ≡ false → a ≡ true → ⊥
any_first true b h e = cc
any_first false b h e = cc

any_rest : (a b : Bool) → (a || b) ≡ false → b ≡ false
any_rest true b h = absurd cc
any_rest false b h = h

-- where none is found the key is not there
pub none_found : (key : Key) (ks : List Key) → list_any (key_test key) ks ≡ false → Contains ks key → ⊥
none_found key [] h c = none_there key [] refl c
none_found key (k ∷ ks) h c = ⊎_elim (λ (e : k ≡ key). any_first (key_test key k) (list_any (key_test key) ks) h (subst (λ z. key_test key z ≡ true) (sym e) (key_own key)))
    (λ r. none_found key ks (any_rest (key_test key k) (list_any (key_test key) ks) h) r) (here_or_there k key ks c)

-- a key that is not there is put last
pub put_last : (key : Key) (ks : List Key) → (Contains ks key → ⊥) → insert_key key_test ks key ≡ ks ++ key ∷ []
put_last key ks new = by (list_any (key_test key) ks) (λ e. new (Contains-list_any key_test keys_same ks key e))
  where
    by : (b : Bool) → (b ≡ true → ⊥) → (if b then ks else ks ++ key ∷ []) ≡ ks ++ key ∷ []
    by true lacks = absurd (lacks refl)
    by false lacks = refl

-- a key that was just added has the last number
pub named_last : (es all : List Event) (key : Key) (n : ℕ) → all ≡ es ++ Ev.Key key ∷ [] → n ≡ length (keys_of es) → slice_get (keys_of all) n ≡ Some key
named_last es all key n is at =
    let keys : keys_of all ≡ keys_of es ++ key ∷ [] = ap keys_of is ∙ keys_append es (Ev.Key key ∷ []) in
    (λ k. slice_get (keys k) (at k)) ∙ get_push (keys_of es) key
