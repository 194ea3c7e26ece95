-- What is kept of two numbers stays right, and what is found is.
use Rattle.std.proofs.Common.{◌≡◌, ℕ, zero, suc, ◌<◌, ◌≤◌, List, [], ◌∷◌, ◌++◌, Option, Some, None, arith, refl, sym, ap, ◌∙◌, subst, slice_get, ◌⊎◌, inl, inr, set}
use Rattle.jl_model.specs.declared.ty.Key.{Key}
use Rattle.jl_model.specs.declared.ty.Ty.{Ty}
use Rattle.jl_task.specs.Knows.{Knows, Grew, IsMethod}
use Rattle.jl_task.specs.Kept.{AreKept, NoneKept, IsKept, IsPut}
use Rattle.jl_task.specs.Numbers.{two_numbers, TakesNumbers, AreNumbers, NoNumbers, IsNumber, IsOfNumbers, IsNumberPut}
use Rattle.jl_task.specs.Remembered.{AreRemembered}
use Rattle.jl_task.specs.declared.numbers.NumberSite.{NumberSite}
use Rattle.jl_task.specs.declared.table.Kept.{Kept}
use Rattle.jl_task.proofs.KeptLemmas.{method_more, kept_more, kept_with, none_right}

pub no_number_more : (xs : List NumberSite) (y : NumberSite) → 14 ≤ y.site → NoNumbers xs → NoNumbers (xs ++ y ∷ [])
no_number_more [] y le h zero x e = let q : y ≡ x = cc in subst (λ (z : NumberSite). 14 ≤ z.site) q le
no_number_more [] y le h (suc f) x e = absurd (cc)
no_number_more (z ∷ zs) y le h zero x e = h zero x e
no_number_more (z ∷ zs) y le h (suc f) x e = no_number_more zs y le (λ g. h (suc g)) f x e

pub no_number_first : NoNumbers []
no_number_first f x e = absurd (cc)

numbers_right : (k : Knows) (xs : List NumberSite) → NoNumbers xs → AreNumbers k xs
numbers_right k xs h = λ f x e lt. let le = h f x e in absurd (omega (arith, le, lt))

numbers_more : (k k' : Knows) (xs : List NumberSite) → Grew k k' → AreNumbers k xs → AreNumbers k' xs
numbers_more k k' xs g h = λ f x e lt. let t = h f x e lt in record { low = t.low; statics = t.statics; method = method_more k k' f two_numbers x.world x.site t.statics g t.method }

pub nothing_remembered : (k : Knows) (table : List (Option Kept)) (xs : List NumberSite) → NoneKept table → NoNumbers xs → AreRemembered k table xs
nothing_remembered k table xs h n = record { table_is = none_right k table h; numbers_are = numbers_right k xs n }

pub remembered_more : (k k' : Knows) (table : List (Option Kept)) (xs : List NumberSite) → Grew k k' → AreRemembered k table xs → AreRemembered k' table xs
remembered_more k k' table xs g h = record { table_is = kept_more k k' table g h.table_is; numbers_are = numbers_more k k' xs g h.numbers_are }

-- a call of two numbers is put at the place of its function
pub number_nowhere : (key : Key) (w site : ℕ) (xs : List NumberSite) → IsNumberPut key w site xs xs
number_nowhere key w site xs f x e = inl e

set_at : (y : NumberSite) (xs : List NumberSite) (p f : ℕ) (x : NumberSite) → slice_get (set xs p y) f ≡ Some x → (slice_get xs f ≡ Some x) ⊎ ((f ≡ p) × (x ≡ y))
set_at y [] p f x e = inl e
set_at y (z ∷ zs) zero zero x e = inr (refl, cc)
set_at y (z ∷ zs) zero (suc f) x e = inl e
set_at y (z ∷ zs) (suc p) zero x e = inl e
set_at y (z ∷ zs) (suc p) (suc f) x e = elim (set_at y zs p f x e) [ inl q ↦ inl q | inr q ↦ inr (ap suc q.0, q.1) ]

pub number_put : (key : Key) (w site : ℕ) (xs : List NumberSite) (p : ℕ) → p ≡ key.function → key.types ≡ two_numbers → IsNumberPut key w site xs (set xs p (record { world = w; site = site }))
number_put key w site xs p is types f x e = elim (set_at (record { world = w; site = site }) xs p f x e) [ inl q ↦ inl q | inr q ↦ inr (record { function = q.0 ∙ is; types = types; kept = q.1 }) ]

numbers_with : (k : Knows) (key : Key) (w site : ℕ) (statics : List Ty) (old new : List NumberSite) → IsNumberPut key w site old new → IsMethod k key.function key.types w site statics → AreNumbers k old → AreNumbers k new
numbers_with k key w site statics old new p m all = λ f x e lt. elim (p f x e) [ inl q ↦ all f x q lt | inr q ↦ here f x lt q ]
  where
    here : (f : ℕ) (x : NumberSite) → x.site < 14 → IsOfNumbers key w site f x → TakesNumbers k f x.world x.site
    here f x lt q = rw (q.function, q.kept) (record { low = rw q.kept at lt; statics = statics; method = rw q.types at m })

pub remembered_with : (k : Knows) (x : Kept) (table table' : List (Option Kept)) (xs xs' : List NumberSite) → IsPut x table table' → IsNumberPut x.key x.world x.site xs xs' → IsKept k x → AreRemembered k table xs → AreRemembered k table' xs'
remembered_with k x table table' xs xs' p q m h = record {
  table_is = kept_with k x table table' p m h.table_is;
  numbers_are = numbers_with k x.key x.world x.site x.statics xs xs' q m h.numbers_are;
}

pub number_right : (k : Knows) (xs : List NumberSite) (f w site : ℕ) → AreNumbers k xs → IsNumber xs f w site → TakesNumbers k f w site
number_right k xs f w site all n =
    let low : n.kept.site < 14 = let e = n.same in let l = n.low in omega (arith, e, l) in
    rw (← n.world, ← n.same) (all f n.kept n.at low)
