-- Forms, form by form, and how many there are.
use Rattle.std.proofs.Common.{◌≡◌, ◌∙◌, sym, ap, refl, ℕ, zero, suc, ◌+◌, ◌*◌, ◌<◌, min, arith, add-one, List, [], ◌∷◌, ◌++◌, map, length, drop, get_or, length-append}
use Rattle.std.specs.List.{flat_map}
use Rattle.std.proofs.lemmas.List.{length-map}
use Rattle.std.proofs.Math.Nat.{mul-suc, mul-zero, zero-mul, suc-mul, mul_assoc}
use Rattle.jl_model.specs.declared.ty.Ty.{Ty}
use Rattle.jl_model.specs.declared.ty.Ty.TheOpen.{Ty-F, Any, Union, Tuple, Nominal, Var}
use Rattle.jl_model.specs.declared.ty.Ty.TheViews.{out-Ty, rolls-Any, rolls-Union, rolls-Tuple, rolls-Nominal, rolls-Var}
use Rattle.jl_model.specs.declared.ty.Ty.TheViews as V
use Rattle.jl_model.specs.declared.ty.Ty.TheVariants as W
use Rattle.jl_model.specs.Rows.{choices, forms}
use Rattle.jl_model.proofs.FormLemmas.{is_any, is_union, is_tuple, is_nominal, is_var}
use Rattle.jl_types.proofs.FormEquations.{forms-any, forms-var, forms-union, forms-tuple, forms-nominal}

module _ (at : ℕ → List Ty) where
  pub sum-suc : (ts : List Ty) (i : ℕ) (t : Ty) → i < length ts → t ≡ get_or ts i t → length (flat_map (forms at) (drop i ts)) ≡ length (forms at t) + length (flat_map (forms at) (drop (i + 1) ts))
  sum-suc [] i t h e = absurd (omega arith)
  sum-suc (x ∷ xs) zero t h e = length-append (forms at x) (flat_map (forms at) xs) ∙ ap (λ z. length (forms at z) + length (flat_map (forms at) xs)) (sym e)
  sum-suc (x ∷ xs) (suc i) t h e = rw add-one (rw add-one at (sum-suc xs i t (omega arith) e))

  pub forms-flat : (ts : List Ty) (i : ℕ) (t : Ty) → i < length ts → t ≡ get_or ts i t → flat_map (forms at) (drop i ts) ≡ forms at t ++ flat_map (forms at) (drop (i + 1) ts)
  forms-flat [] i t h e = absurd (omega arith)
  forms-flat (x ∷ xs) zero t h e = ap (λ z. forms at z ++ flat_map (forms at) xs) (sym e)
  forms-flat (x ∷ xs) (suc i) t h e = rw add-one (rw add-one at (forms-flat xs i t (omega arith) e))

  pub forms-map : (ts : List Ty) (i : ℕ) (t : Ty) → i < length ts → t ≡ get_or ts i t → map (forms at) (drop i ts) ≡ forms at t ∷ map (forms at) (drop (i + 1) ts)
  forms-map [] i t h e = absurd (omega arith)
  forms-map (x ∷ xs) zero t h e = ap (λ z. forms at z ∷ map (forms at) xs) (sym e)
  forms-map (x ∷ xs) (suc i) t h e = rw add-one (rw add-one at (forms-map xs i t (omega arith) e))

-- how many choices there are
pub length-rows : (ts : List Ty) (tails : List (List Ty)) → length (flat_map (λ t. map (λ us. t ∷ us) tails) ts) ≡ length ts * length tails
length-rows [] tails = sym (zero-mul (length tails))
length-rows (t ∷ ts) tails =
    length-append (map (λ us. t ∷ us) tails) (flat_map (λ t. map (λ us. t ∷ us) tails) ts) ∙ ap (λ z. z + length (flat_map (λ t. map (λ us. t ∷ us) tails) ts)) (length-map tails (λ us. t ∷ us))
    ∙ ap (λ z. length tails + z) (length-rows ts tails) ∙ turn
  where
    turn : length tails + length ts * length tails ≡ suc (length ts) * length tails
    turn = let p : suc (length ts) * length tails ≡ length ts * length tails + length tails = suc-mul (length ts) (length tails) in omega (arith, p)

pub length-choices : (ts : List Ty) (tss : List (List Ty)) → length (choices (ts ∷ tss)) ≡ length ts * length (choices tss)
length-choices ts tss = length-rows ts (choices tss)

pub product-suc : (at : ℕ → List Ty) (ts : List Ty) (i : ℕ) (t : Ty) → i < length ts → t ≡ get_or ts i t → length (choices (map (forms at) (drop i ts))) ≡ length (forms at t) * length (choices (map (forms at) (drop (i + 1) ts)))
product-suc at ts i t h e = ap (λ z. length (choices z)) (forms-map at ts i t h e) ∙ length-choices (forms at t) (map (forms at) (drop (i + 1) ts))

pub lists-suc : (ls : List (List Ty)) (i : ℕ) (l : List Ty) → i < length ls → l ≡ get_or ls i l → length (choices (drop i ls)) ≡ length l * length (choices (drop (i + 1) ls))
lists-suc [] i l h e = absurd (omega arith)
lists-suc (x ∷ xs) zero l h e = length-choices x xs ∙ ap (λ z. length z * length (choices xs)) (sym e)
lists-suc (x ∷ xs) (suc i) l h e = rw add-one (rw add-one at (lists-suc xs i l (omega arith) e))

-- products that are capped
cap_mul : (a r : ℕ) → min (min a 257 * r) 257 ≡ min (a * r) 257
cap_mul a zero = let p : min a 257 * 0 ≡ 0 = mul-zero (min a 257) in let q : a * 0 ≡ 0 = mul-zero a in ap (λ z. min z 257) (p ∙ sym q)
cap_mul a (suc r) =
    let p : min a 257 * suc r ≡ min a 257 * r + min a 257 = mul-suc (min a 257) r in
    let q : a * suc r ≡ a * r + a = mul-suc a r in
    let h = cap_mul a r in
    omega arith

cap_right : (acc c r : ℕ) → min (min (acc * min c 257) 257 * r) 257 ≡ min (acc * (c * r)) 257
cap_right acc c r = cap_mul (acc * min c 257) r ∙ ap (λ z. min z 257) (mul_assoc acc (min c 257) r) ∙ swap acc (min c 257 * r) (c * r) (cap_mul c r)
  where
    swap : (k m n : ℕ) → min m 257 ≡ min n 257 → min (k * m) 257 ≡ min (k * n) 257
    swap zero m n e = ap (λ z. min z 257) (zero-mul m ∙ sym (zero-mul n))
    swap (suc k) m n e =
        let h = swap k m n e in
        let p : suc k * m ≡ k * m + m = suc-mul k m in
        let q : suc k * n ≡ k * n + n = suc-mul k n in
        omega (arith, p, q, h, e)

pub cap-step : (acc c new r t : ℕ) → new ≡ min (acc * min c 257) 257 → min (acc * (c * r)) 257 ≡ t → min (new * r) 257 ≡ t
cap-step acc c new r t e h = ap (λ z. min (z * r) 257) e ∙ cap_right acc c r ∙ h

-- forms with one alternative
plain_case : (at : ℕ → List Ty) (t : Ty) (x : Ty-F Ty) → out-Ty t ≡ x → ((ts : List Ty) → t ≡ V.Union ts → ⊥) → ((ts : List Ty) → t ≡ V.Tuple ts → ⊥) → ((v : ℕ) → t ≡ W.Var v → ⊥) → forms at t ≡ t ∷ []
plain_case at t Any e u v w = let i = is_any t e in ap (forms at) i ∙ forms-any at ∙ ap (λ z. z ∷ []) (sym i)
plain_case at t (Union ts) e u v w = absurd (u ts (is_union t ts e))
plain_case at t (Tuple ts) e u v w = absurd (v ts (is_tuple t ts e))
plain_case at t (Nominal k ts) e u v w = let i = is_nominal t k ts e in ap (forms at) i ∙ forms-nominal at k ts ∙ ap (λ z. z ∷ []) (sym i)
plain_case at t (Var x) e u v w = absurd (w x (is_var t x e))

pub plain_forms : (at : ℕ → List Ty) (t : Ty) → ((ts : List Ty) → t ≡ V.Union ts → ⊥) → ((ts : List Ty) → t ≡ V.Tuple ts → ⊥) → ((v : ℕ) → t ≡ W.Var v → ⊥) → forms at t ≡ t ∷ []
plain_forms at t u v w = plain_case at t (out-Ty t) refl u v w

pub no_choice : (rows : List (List Ty)) → min (length rows) 257 ≡ 0 → [] ≡ rows
no_choice [] e = refl
no_choice (r ∷ rs) e = absurd (omega (arith, e))

-- for the code
abbrev many : List Ty → ℕ
many ts = min (length ts) 257

pub any_count : (at : ℕ → List Ty) (t : Ty) → t ≡ W.Any → 1 ≡ min (length (forms at t)) 257
any_count at t e = sym (ap (λ z. many (forms at z)) e ∙ ap many (forms-any at))

pub nominal_count : (at : ℕ → List Ty) (t : Ty) (k : ℕ) (ts : List Ty) → t ≡ V.Nominal k ts → 1 ≡ min (length (forms at t)) 257
nominal_count at t k ts e = sym (ap (λ z. many (forms at z)) e ∙ ap many (forms-nominal at k ts))

pub union_count : (at : ℕ → List Ty) (t : Ty) (ts us : List Ty) (n : ℕ) → t ≡ V.Union ts → us ≡ ts → n ≡ min (length (flat_map (forms at) us)) 257 → n ≡ min (length (forms at t)) 257
union_count at t ts us n e f h = h ∙ ap (λ z. many (flat_map (forms at) z)) f ∙ sym (ap (λ z. many (forms at z)) e ∙ ap many (forms-union at ts))

pub tuple_count : (at : ℕ → List Ty) (t : Ty) (ts us : List Ty) (n : ℕ) → t ≡ V.Tuple ts → us ≡ ts → n ≡ min (length (choices (map (forms at) us))) 257 → n ≡ min (length (forms at t)) 257
tuple_count at t ts us n e f h =
    h ∙ ap (λ z. min (length (choices (map (forms at) z))) 257) f
    ∙ sym (ap (λ z. many (forms at z)) e ∙ ap many (forms-tuple at ts) ∙ ap (λ z. min z 257) (length-map (choices (map (forms at) ts)) (λ us. V.Tuple us)))

pub var_count : (at : ℕ → List Ty) (t : Ty) (v n m : ℕ) (us : List Ty) → t ≡ W.Var v → us ≡ at v → m ≡ length us → n ≡ min m 257 → n ≡ min (length (forms at t)) 257
var_count at t v n m us e f g h = h ∙ ap (λ z. min z 257) (g ∙ ap (λ z. length z) f) ∙ sym (ap (λ z. many (forms at z)) e ∙ ap many (forms-var at v))

pub product_step : (at : ℕ → List Ty) (ts : List Ty) (i : ℕ) (t : Ty) (acc c new whole : ℕ) → i < length ts → t ≡ get_or ts i t → c ≡ min (length (forms at t)) 257 → new ≡ min (acc * c) 257
    → min (acc * length (choices (map (forms at) (drop i ts)))) 257 ≡ whole → min (new * length (choices (map (forms at) (drop (i + 1) ts)))) 257 ≡ whole
product_step at ts i t acc c new whole lt e f g h =
    cap-step acc (length (forms at t)) new (length (choices (map (forms at) (drop (i + 1) ts)))) whole (g ∙ ap (λ z. min (acc * z) 257) f) (ap (λ z. min (acc * z) 257) (sym (product-suc at ts i t lt e)) ∙ h)

pub lists_step : (ls : List (List Ty)) (i : ℕ) (l : List Ty) (acc m c new whole : ℕ) → i < length ls → l ≡ get_or ls i l → m ≡ length l → c ≡ min m 257 → new ≡ min (acc * c) 257
    → min (acc * length (choices (drop i ls))) 257 ≡ whole → min (new * length (choices (drop (i + 1) ls))) 257 ≡ whole
lists_step ls i l acc m c new whole lt e n f g h =
    cap-step acc (length l) new (length (choices (drop (i + 1) ls))) whole (g ∙ ap (λ z. min (acc * z) 257) (f ∙ ap (λ z. min z 257) n)) (ap (λ z. min (acc * z) 257) (sym (lists-suc ls i l lt e)) ∙ h)

pub union_forms : (at : ℕ → List Ty) (t : Ty) (ts us all : List Ty) → t ≡ V.Union ts → us ≡ ts → all ≡ flat_map (forms at) us → all ≡ forms at t
union_forms at t ts us all e f h = h ∙ ap (flat_map (forms at)) f ∙ sym (ap (forms at) e ∙ forms-union at ts)

pub tuple_forms : (at : ℕ → List Ty) (t : Ty) (ts us all : List Ty) (lists rows : List (List Ty)) → t ≡ V.Tuple ts → us ≡ ts → lists ≡ map (forms at) us → rows ≡ choices lists → all ≡ map (λ us. V.Tuple us) rows → all ≡ forms at t
tuple_forms at t ts us all lists rows e f g h i =
    i ∙ ap (map (λ us. V.Tuple us)) (h ∙ ap choices (g ∙ ap (map (forms at)) f)) ∙ sym (ap (forms at) e ∙ forms-tuple at ts)

pub no_forms : (at : ℕ → List Ty) (t : Ty) (ts us all : List Ty) (n : ℕ) → t ≡ V.Tuple ts → us ≡ ts → n ≡ min (length (choices (map (forms at) us))) 257 → n ≡ 0 → all ≡ [] → all ≡ forms at t
no_forms at t ts us all n e f g z a =
    a ∙ ap (map (λ us. V.Tuple us)) (no_choice (choices (map (forms at) us)) (sym g ∙ z) ∙ ap (λ y. choices (map (forms at) y)) f) ∙ sym (ap (forms at) e ∙ forms-tuple at ts)

pub var_forms : (at : ℕ → List Ty) (t : Ty) (v : ℕ) (us all : List Ty) → t ≡ W.Var v → us ≡ at v → all ≡ us → all ≡ forms at t
var_forms at t v us all e f h = h ∙ f ∙ sym (ap (forms at) e ∙ forms-var at v)

pub ruleset choosing = (length-choices)
