-- Types that differ and are sorted stand in order.
use Rattle.std.proofs.Common.{◌≡◌, ◌∙◌, sym, ap, subst, refl, ℕ, zero, suc, ◌+◌, ◌<◌, ◌≤◌, arith, add-one, true, false, List, [], ◌∷◌, length, map, get_or}
use Rattle.std.proofs.lemmas.List.{length-map}
use Rattle.std.specs.Ordering.{is_lt, ordering_reverse}
use Rattle.std.specs.List.{All, sum_by}
use Rattle.std.specs.List.Sorted.{IsPermutation, IsSorted, IsSortedBy}
use Rattle.std.specs.declared.cmp.Ordering.{Ordering}
use Rattle.std.specs.declared.cmp.Ordering.TheVariants.{Less, Equal, Greater}
use Rattle.std.proofs.lemmas.List.Elements.{All-nil, All-cons, All-head, All-tail}
use Rattle.std.proofs.lemmas.List.Sums.{sum_by-cons}
use Rattle.std.proofs.lemmas.List.Sorted.{All-permutation, IsPermutation-sym, sum_by-IsPermutation}
use Rattle.jl_model.specs.declared.ty.Ty.{Ty}
use Rattle.jl_model.specs.Order.{term_cmp}
use Rattle.jl_model.proofs.NormalLemmas.{In, first, later, Ascending, Ordered}
use Rattle.jl_model.proofs.OrderLemmas.{term_order, tied, tied_self}

-- MEMBERS
all_of : (P : Ty → Type 0) (ks : List Ty) → ((x : Ty) → In x ks → P x) → All P ks
all_of P [] f = All-nil P
all_of P (k ∷ ks) f = All-cons P k ks (f k (first k ks refl)) (all_of P ks (λ x i. f x (later k ks i)))

in_all : (P : Ty → Type 0) (x : Ty) (us : List Ty) → All P us → In x us → P x
in_all P x us a (first y ys e) = subst P (sym e) (All-head P y ys a)
in_all P x us a (later y ys i) = in_all P x ys (All-tail P y ys a) i

-- a list in another order has the same members
pub moved_in : (ks us : List Ty) → IsPermutation ks us → (x : Ty) → In x us → In x ks
moved_in ks us p x i = let P : Ty → Type 0 = λ z. In z ks in in_all P x us (All-permutation P ks us p (all_of P ks (λ z j. j))) i

pub moved_back : (ks us : List Ty) → IsPermutation ks us → (x : Ty) → In x ks → In x us
moved_back ks us p x i = moved_in us ks (IsPermutation-sym ks us p) x i

-- HOW OFTEN
abbrev tie_of : Ordering → ℕ
tie_of Less = 0
tie_of Equal = 1
tie_of Greater = 0

abbrev tie : Ty → Ty → ℕ
tie x y = tie_of (term_cmp x y)

abbrev count : Ty → List Ty → ℕ
count x ys = sum_by (tie x) ys

tie_apart : (o : Ordering) (x y : Ty) → term_cmp x y ≡ o → (x ≡ y → ⊥) → tie_of o ≡ 0
tie_apart Less x y e d = refl
tie_apart Equal x y e d = absurd (d (tied x y e))
tie_apart Greater x y e d = refl

count_none : (x : Ty) (ys : List Ty) → ((y : Ty) → In y ys → x ≡ y → ⊥) → count x ys ≡ 0
count_none x [] f = refl
count_none x (y ∷ ys) f =
    let a = tie_apart (term_cmp x y) x y refl (f y (first y ys refl)) in
    let b = count_none x ys (λ z i. f z (later y ys i)) in
    omega (arith, sum_by-cons (tie x) y ys)

-- each once
abbrev pub Distinct : List Ty → Type 0
Distinct [] = Unit {0}
Distinct (k ∷ ks) = ((y : Ty) → In y ks → k ≡ y → ⊥) × Distinct ks

count_at : (o : Ordering) (x k : Ty) (ks : List Ty) → term_cmp x k ≡ o → ((y : Ty) → In y ks → k ≡ y → ⊥) → count x ks ≤ 1 → tie_of o + count x ks ≤ 1
count_at Less x k ks e d h = omega arith
count_at Greater x k ks e d h = omega arith
count_at Equal x k ks e d h = let z = count_none x ks (λ y i f. d y i (sym (tied x k e) ∙ f)) in omega arith

count_once : (x : Ty) (ks : List Ty) → Distinct ks → count x ks ≤ 1
count_once x [] d = omega arith
count_once x (k ∷ ks) d = let h = count_at (term_cmp x k) x k ks refl d.0 (count_once x ks d.1) in omega (arith, sum_by-cons (tie x) k ks)

-- IN ORDER
sorted_tail : (x : Ty) (xs : List Ty) → IsSorted term_cmp (x ∷ xs) → IsSorted term_cmp xs
sorted_tail x xs s = λ k d l h. rw add-one (rw add-one at (s (suc k) d (omega arith) (omega arith)))

less_at : (o : Ordering) (x y : Ty) → term_cmp x y ≡ o → is_lt (term_cmp y x) ≡ false → (x ≡ y → ⊥) → o ≡ Less
less_at Less x y e h d = refl
less_at Equal x y e h d = absurd (d (tied x y e))
less_at Greater x y e h d =
    let f : is_lt (term_cmp y x) ≡ true = ap is_lt (term_order.antisymm y x ∙ ap ordering_reverse e) in
    let g : true ≡ false = sym f ∙ h in cc

pub ascending_from : (t u : Ty) (us : List Ty) → term_cmp t u ≡ Less → Ascending u us → Ascending t us
ascending_from t u [] l a = tt
ascending_from t u (v ∷ vs) l a = (term_order.trans t u v l a.0, ascending_from t u vs l a.1)

ordered_from : (us : List Ty) → IsSorted term_cmp us → ((x : Ty) → count x us ≤ 1) → Ordered us
ordered_from [] s c = tt
ordered_from (u ∷ []) s c = (tt, tt)
ordered_from (u ∷ v ∷ vs) s c =
    let d : u ≡ v → ⊥ = (λ e.
    let a : tie u u ≡ 1 = ap tie_of (tied_self u) in
    let b : tie u v ≡ 1 = ap (tie u) (sym e) ∙ a in
    let k = c u in
    omega (arith, sum_by-cons (tie u) u (v ∷ vs), sum_by-cons (tie u) v vs)) in
    let l : term_cmp u v ≡ Less = less_at (term_cmp u v) u v refl (s 0 u (omega arith) (omega arith)) d in
    let o = ordered_from (v ∷ vs) (sorted_tail u (v ∷ vs) s) (λ x. let k = c x in omega (arith, sum_by-cons (tie x) u (v ∷ vs))) in
    ((l, ascending_from u v vs l o.0), o)

pub sorted_ordered : (ks us : List Ty) → Distinct ks → IsPermutation ks us → IsSorted term_cmp us → Ordered us
sorted_ordered ks us d p s = ordered_from us s (λ x. let k = count_once x ks d in let e = sum_by-IsPermutation (tie x) ks us p in omega arith)

-- lists of what has a type
module _ {X : Type 0} (f : X → Ty) where
  at_map : (xs : List X) (k : ℕ) (d : Ty) (e : X) → k < length xs → get_or (map f xs) k d ≡ f (get_or xs k e)
  at_map [] k d e l = absurd (omega arith)
  at_map (x ∷ xs) zero d e l = refl
  at_map (x ∷ xs) (suc k) d e l = at_map xs k d e (omega arith)

  pub sorted_map : (xs : List X) → IsSortedBy (λ x y. is_lt (term_cmp (f x) (f y))) xs → IsSorted term_cmp (map f xs)
  sorted_map [] s = λ k d l h. absurd (omega arith)
  sorted_map (x ∷ xs) s = λ k d l h.
      let long : length (map f (x ∷ xs)) ≡ length (x ∷ xs) = length-map (x ∷ xs) f in
      let a = at_map (x ∷ xs) (k + 1) d x (omega arith) in
      let b = at_map (x ∷ xs) k d x (omega arith) in
      ap (λ z. is_lt (term_cmp z (get_or (map f (x ∷ xs)) k d))) a ∙ ap (λ z. is_lt (term_cmp (f (get_or (x ∷ xs) (k + 1) x)) z)) b ∙ s k x l (omega arith)
