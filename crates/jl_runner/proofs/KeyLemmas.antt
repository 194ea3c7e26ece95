-- The keys that a task has met keep their numbers.
use Rattle.std.proofs.Common.{◌≡◌, ◌∙◌, ap, sym, subst, ℕ, zero, suc, ◌⊎◌, inl, inr, Bool, true, false, cond, List, [], ◌∷◌, ◌++◌, Option, None, Some, slice_get, refl, is_some}
use Rattle.std.specs.Map.{lookup_key}
use Rattle.jl_model.specs.declared.ty.Key.{Key}
use Rattle.jl_calculus.specs.declared.history.Event.{Event}
use Rattle.jl_calculus.specs.Learnt.{IsNamed}
use Rattle.jl_world.specs.Views.{Begins}
use Rattle.jl_book.proofs.KeyTests.{key_test, keys_same}
use Rattle.jl_runner.specs.Keys.{AreNamed}
use Rattle.jl_runner.proofs.KnowingLemmas.{named_so}

nothing_there : (i : ℕ) (p : Key × ℕ) → slice_get {X = Key × ℕ} [] i ≡ Some p → ⊥
nothing_there i p h = cc

pub none_named : (es : List Event) (xs : List (Key × ℕ)) → xs ≡ [] → AreNamed es xs
none_named es xs e i key number at = absurd (nothing_there i (key, number) (ap (λ ys. slice_get ys i) (sym e) ∙ at))

pub named_more : (seen es : List Event) (xs : List (Key × ℕ)) → Begins seen es → AreNamed seen xs → AreNamed es xs
named_more seen es xs b h i key number at = named_so seen es number key b (h i key number at)

-- the last of a list is the one that was put there
pub last_or_before : {X : Type 0} (xs : List X) (x y : X) (i : ℕ) → slice_get (xs ++ x ∷ []) i ≡ Some y → (slice_get xs i ≡ Some y) ⊎ (x ≡ y)
last_or_before [] x y zero h = inr cc
last_or_before [] x y (suc i) h = absurd cc
last_or_before (z ∷ zs) x y zero h = inl h
last_or_before (z ∷ zs) x y (suc i) h = last_or_before zs x y i h

-- one more key that has its number
pub named_kept : (es : List Event) (old new : List (Key × ℕ)) (key : Key) (number : ℕ) → (new ≡ old) ⊎ (new ≡ old ++ (key, number) ∷ []) → IsNamed es number key → AreNamed es old → AreNamed es new
named_kept es old new key number (inl e) h all = subst (AreNamed es) (sym e) all
named_kept es old new key number (inr e) h all = subst (AreNamed es) (sym e) with_one
  where
    with_one : AreNamed es (old ++ (key, number) ∷ [])
    with_one i k n at = elim (last_or_before old (key, number) (k, n) i at) [
      | inl before ↦ all i k n before
      | inr last ↦ subst (λ (p : Key × ℕ). IsNamed es p.1 p.0) last h
    ]

pub none_is : {X : Type 0} (o : Option X) → is_some o ≡ false → o ≡ None
none_is None e = refl
none_is (Some x) e = absurd cc

-- the key that a table finds is the one that was asked for
pub found_key : (key : Key) (es : List (Key × ℕ)) (x : Key) → lookup_key (key_test key) es ≡ Some x → x ≡ key
found_key key [] x h = absurd cc
found_key key (e ∷ es) x h = by (key_test key e.0) (λ i. keys_same key e.0 i) h (found_key key es x)
  where
    by : (b : Bool) → (b ≡ true → key ≡ e.0) → cond b (Some e.0) (lookup_key (key_test key) es) ≡ Some x → (lookup_key (key_test key) es ≡ Some x → x ≡ key) → x ≡ key
    by true i f rest = let at : key ≡ e.0 = i cc in let is : e.0 ≡ x = cc in cc
    by false i f rest = rest f
