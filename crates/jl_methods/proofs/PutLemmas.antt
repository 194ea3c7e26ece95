-- What one more element at the end of some of the lists makes of each of them.
use Rattle.std.proofs.Common.{◌≡◌, ◌∙◌, ap, sym, subst, refl, ℕ, zero, suc, ◌+◌, ◌<◌, ◌≤◌, ◌⊎◌, inl, inr, arith, Bool, true, false, ◌||◌, cond, nat_eq, List, [], ◌∷◌, ◌++◌, length, take, get_or, slice_get, Some}
use Rattle.std.specs.List.{All, Contains, list_any}
use Rattle.std.proofs.lemmas.Bool.{eqb-true, eqb-false}
use Rattle.std.proofs.lemmas.List.{append-nil, length-set, get_or-set_same, get_or-set_other}
use Rattle.std.proofs.lemmas.List.Elements.{All-head, All-tail, All-weaker}
use Rattle.jl_methods.specs.Numbered.{nth, put_at, put_each, change_at, RisesFrom}
use Rattle.jl_methods.proofs.FilterLemmas.{here, there, here_or_there}

-- ---- the list of a number

abbrev pub only_if : {T : Type 0} → Bool → T → List T
only_if b x = cond b (x ∷ []) []

abbrev pub is_in : ℕ → List ℕ → Bool
is_in n ns = list_any (nat_eq n) ns

pub nth_put_at : {T : Type 0} (ls : List (List T)) (n : ℕ) (x : T) (m : ℕ) → n < length ls → nth (put_at ls n x) m ≡ nth ls m ++ only_if (nat_eq n m) x
nth_put_at ls n x m l = by (nat_eq n m) refl
  where
    by : (b : Bool) → nat_eq n m ≡ b → nth (put_at ls n x) m ≡ nth ls m ++ only_if b x
    by true e =
        let q : n ≡ m = eqb-true n m e in
        subst (λ k. nth (put_at ls n x) k ≡ nth ls k ++ x ∷ []) q (get_or-set_same ls n (nth ls n ++ x ∷ []) [] l)
    by false e = get_or-set_other ls n m (nth ls n ++ x ∷ []) [] (λ q. eqb-false n m e (sym q)) ∙ sym (append-nil (nth ls m))

pub nth_add_none : {T : Type 0} (ls : List (List T)) (n : ℕ) → nth (ls ++ [] ∷ []) n ≡ nth ls n
nth_add_none [] zero = refl
nth_add_none [] (suc n) = refl
nth_add_none (l ∷ ls) zero = refl
nth_add_none (l ∷ ls) (suc n) = nth_add_none ls n

pub nth_add_old : {T : Type 0} (ls : List (List T)) (x : List T) (n : ℕ) → n < length ls → nth (ls ++ x ∷ []) n ≡ nth ls n
nth_add_old [] x n l = absurd (omega (arith, l))
nth_add_old (m ∷ ls) x zero l = refl
nth_add_old (m ∷ ls) x (suc n) l = nth_add_old ls x n (omega (arith, l))

pub nth_add_new : {T : Type 0} (ls : List (List T)) (x : List T) → nth (ls ++ x ∷ []) (length ls) ≡ x
nth_add_new [] x = refl
nth_add_new (m ∷ ls) x = nth_add_new ls x

-- ---- each of some numbers

none_in : (n : ℕ) (ns : List ℕ) (low : ℕ) → n < low → RisesFrom low ns → is_in n ns ≡ false
none_in n [] low l r = refl
none_in n (m ∷ ns) low l r = by (nat_eq n m) refl (none_in n ns (m + 1) (omega (arith, l, r.0)) r.1)
  where
    by : (b : Bool) → nat_eq n m ≡ b → is_in n ns ≡ false → (b || is_in n ns) ≡ false
    by true e h = absurd (omega (arith, l, r.0, eqb-true n m e))
    by false e h = h

pub length_put : {T : Type 0} (ls : List (List T)) (n : ℕ) (x : T) → length (put_at ls n x) ≡ length ls
length_put ls n x = length-set ls n (nth ls n ++ x ∷ [])

pub length_put_each : {T : Type 0} (ls : List (List T)) (ns : List ℕ) (x : T) → length (put_each ls ns x) ≡ length ls
length_put_each ls [] x = refl
length_put_each ls (n ∷ ns) x = length_put_each (put_at ls n x) ns x ∙ length_put ls n x

all_put : {T : Type 0} (ls : List (List T)) (n : ℕ) (ns : List ℕ) (x : T) → All (λ m. m < length ls) ns → All (λ m. m < length (put_at ls n x)) ns
all_put ls n ns x h = All-weaker (λ m. m < length ls) (λ m. m < length (put_at ls n x)) (λ m l. omega (arith, l, length_put ls n x)) ns h

-- one number has its element at the front of these, or behind
joined : {T : Type 0} (xs : List T) (x : T) (a b : Bool) → (a ≡ true → b ≡ false) → (xs ++ only_if a x) ++ only_if b x ≡ xs ++ only_if (a || b) x
joined xs x true true h = let q = h refl in cc
joined xs x true false h = append-nil (xs ++ x ∷ [])
joined xs x false b h = ap (λ ys. ys ++ only_if b x) (append-nil xs)

turned : (n m : ℕ) → nat_eq n m ≡ nat_eq m n
turned n m = by (nat_eq n m) refl (nat_eq m n) refl
  where
    by : (a : Bool) → nat_eq n m ≡ a → (b : Bool) → nat_eq m n ≡ b → a ≡ b
    by true e true f = refl
    by true e false f = absurd (eqb-false m n f (sym (eqb-true n m e)))
    by false e true f = absurd (eqb-false n m e (sym (eqb-true m n f)))
    by false e false f = refl

pub nth_put_each : {T : Type 0} (low : ℕ) (ls : List (List T)) (ns : List ℕ) (x : T) (m : ℕ) → RisesFrom low ns → All (λ n. n < length ls) ns → nth (put_each ls ns x) m ≡ nth ls m ++ only_if (is_in m ns) x
nth_put_each low ls [] x m r h = sym (append-nil (nth ls m))
nth_put_each low ls (n ∷ ns) x m r h =
    let first : n < length ls = All-head (λ k. k < length ls) n ns h in
    let others = All-tail (λ k. k < length ls) n ns h in
    let apart : nat_eq m n ≡ true → is_in m ns ≡ false = λ e. none_in m ns (n + 1) (omega (arith, eqb-true m n e)) r.1 in
    nth_put_each (n + 1) (put_at ls n x) ns x m r.1 (all_put ls n ns x others)
    ∙ ap (λ ys. ys ++ only_if (is_in m ns) x) (nth_put_at ls n x m first ∙ ap (λ b. nth ls m ++ only_if b x) (turned n m))
    ∙ joined (nth ls m) x (nat_eq m n) (is_in m ns) apart

-- ---- the list of a number changed

pub nth_change_at : {T : Type 0} (f : List T → List T) (ls : List (List T)) (n m : ℕ) → n < length ls → nth (change_at f ls n) m ≡ cond (nat_eq m n) (f (nth ls m)) (nth ls m)
nth_change_at f ls n m l = by (nat_eq m n) refl
  where
    by : (b : Bool) → nat_eq m n ≡ b → nth (change_at f ls n) m ≡ cond b (f (nth ls m)) (nth ls m)
    by true e =
        let q : n ≡ m = sym (eqb-true m n e) in
        subst (λ k. nth (change_at f ls n) k ≡ f (nth ls k)) q (get_or-set_same ls n (f (nth ls n)) [] l)
    by false e = get_or-set_other ls n m (f (nth ls n)) [] (λ q. eqb-false m n e q)

-- ---- one of some numbers

pub contained_if : (n : ℕ) (ns : List ℕ) → is_in n ns ≡ true → Contains ns n
contained_if n [] h = cc
contained_if n (m ∷ ns) h = by (nat_eq n m) refl h (contained_if n ns)
  where
    by : (b : Bool) → nat_eq n m ≡ b → (b || is_in n ns) ≡ true → (is_in n ns ≡ true → Contains ns n) → Contains (m ∷ ns) n
    by true e h more = here m n ns (sym (eqb-true n m e))
    by false e h more = there m n ns (more h)

pub contained_only_if : (n : ℕ) (ns : List ℕ) → is_in n ns ≡ false → Contains ns n → ⊥
contained_only_if n [] h (k, l, e) = omega (arith, l)
contained_only_if n (m ∷ ns) h c = by (nat_eq n m) refl h (contained_only_if n ns) (here_or_there m n ns c)
  where
    by : (b : Bool) → nat_eq n m ≡ b → (b || is_in n ns) ≡ false → (is_in n ns ≡ false → Contains ns n → ⊥) → (m ≡ n) ⊎ Contains ns n → ⊥
    by true e h more c = cc
    by false e h more (inl q) = eqb-false n m e (sym q)
    by false e h more (inr d) = more h d

-- ---- one of a list, by its number

pub get_known : {X : Type 0} (xs : List X) (n : ℕ) (x : X) → slice_get xs n ≡ Some x → n < length xs
get_known [] n x e = cc
get_known (y ∷ xs) zero x e = omega arith
get_known (y ∷ xs) (suc n) x e = omega (arith, get_known xs n x e)

pub get_more : {X : Type 0} (xs : List X) (y x : X) (n : ℕ) → slice_get xs n ≡ Some x → slice_get (xs ++ y ∷ []) n ≡ Some x
get_more [] y x n e = cc
get_more (z ∷ xs) y x zero e = e
get_more (z ∷ xs) y x (suc n) e = get_more xs y x n e

pub get_last : {X : Type 0} (xs : List X) (y : X) → slice_get (xs ++ y ∷ []) (length xs) ≡ Some y
get_last [] y = refl
get_last (z ∷ xs) y = get_last xs y

-- a default at the end changes nothing
pub get_add_default : {X : Type 0} (xs : List X) (d : X) (n : ℕ) → get_or (xs ++ d ∷ []) n d ≡ get_or xs n d
get_add_default [] d zero = refl
get_add_default [] d (suc n) = refl
get_add_default (x ∷ xs) d zero = refl
get_add_default (x ∷ xs) d (suc n) = get_add_default xs d n

pub get_push : {X : Type 0} (xs : List X) (y x : X) (n : ℕ) → slice_get (xs ++ y ∷ []) n ≡ Some x → (slice_get xs n ≡ Some x) ⊎ ((n ≡ length xs) × (y ≡ x))
get_push [] y x zero e = inr (refl, cc)
get_push [] y x (suc n) e = inl e
get_push (z ∷ xs) y x zero e = inl e
get_push (z ∷ xs) y x (suc n) e = by (get_push xs y x n e)
  where
    by : (slice_get xs n ≡ Some x) ⊎ ((n ≡ length xs) × (y ≡ x)) → (slice_get xs n ≡ Some x) ⊎ ((suc n ≡ suc (length xs)) × (y ≡ x))
    by (inl q) = inl q
    by (inr (q, r)) = inr (ap suc q, r)

pub take_within : {X : Type 0} (n : ℕ) (xs : List X) → length (take n xs) ≤ n
take_within zero xs = omega arith
take_within (suc n) [] = omega arith
take_within (suc n) (x ∷ xs) = omega (arith, take_within n xs)
