-- Flags that are set one after another.
use Rattle.std.proofs.Common.{◌≡◌, ◌∙◌, sym, ap, refl, ℕ, zero, suc, ◌+◌, ◌≤◌, ◌<◌, arith, Bool, true, false, cond, ◌&&◌, ◌||◌, not, nat_eq, List, [], ◌∷◌, map, length, drop, get_or, slice_set}
use Rattle.std.specs.List.{list_all, list_any}
use Rattle.jl_model.specs.declared.ty.Ty.{Ty}
use Rattle.jl_model.specs.declared.ty.Bound.{Bound}
use Rattle.jl_model.specs.declared.ty.Written.{Written}
use Rattle.jl_model.specs.AllRows.{each_var}
use Rattle.jl_model.specs.Usable.{stands_in, is_outside_unions, is_usable}
use Rattle.jl_model.specs.Refusals.{bound_types}
use Rattle.jl_model.specs.Valid.{is_closed}
use Rattle.jl_sig.specs.Flags.{with_flag, is_below}
use Rattle.jl_sig.proofs.FormSteps.{drop_at}
use Rattle.jl_sig.proofs.StandLemmas.{met, met_closed, closed_stand}
use Rattle.jl_sig.proofs.UsableLemmas.{any-suc, all-suc}

pub with_same : (p q : ℕ → Bool) (b : Bool) (i : ℕ) (bs : List Bool) → ((v : ℕ) → p v ≡ q v) → with_flag p b i bs ≡ with_flag q b i bs
with_same p q b i [] h = refl
with_same p q b i (c ∷ bs) h = ap (λ t. cond t b c ∷ with_flag p b (i + 1) bs) (h i) ∙ ap (λ z. cond (q i) b c ∷ z) (with_same p q b (i + 1) bs h)

pub with_none : (p : ℕ → Bool) (b : Bool) (i : ℕ) (bs : List Bool) → ((v : ℕ) → p v ≡ false) → with_flag p b i bs ≡ bs
with_none p b i [] h = refl
with_none p b i (c ∷ bs) h = ap (λ t. cond t b c ∷ with_flag p b (i + 1) bs) (h i) ∙ ap (λ z. c ∷ z) (with_none p b (i + 1) bs h)

pub with_both : (p q : ℕ → Bool) (b : Bool) (i : ℕ) (bs : List Bool) → with_flag q b i (with_flag p b i bs) ≡ with_flag (λ v. p v || q v) b i bs
with_both p q b i [] = refl
with_both p q b i (c ∷ bs) = ap (λ z. cond (q i) b (cond (p i) b c) ∷ z) (with_both p q b (i + 1) bs) ∙ ap (λ z. z ∷ with_flag (λ v. p v || q v) b (i + 1) bs) (by (p i) (q i))
  where
    by : (x y : Bool) → cond y b (cond x b c) ≡ cond (x || y) b c
    by true true = refl
    by true false = refl
    by false y = refl

-- one variable
past : (n : ℕ) (b : Bool) (i : ℕ) (bs : List Bool) → n < i → with_flag (λ v. nat_eq v n) b i bs ≡ bs
past n b i [] l = refl
past n b i (c ∷ bs) l =
    let e : nat_eq i n ≡ false = grind (arith, l) in
    ap (λ t. cond t b c ∷ with_flag (λ v. nat_eq v n) b (i + 1) bs) e ∙ ap (λ z. c ∷ z) (past n b (i + 1) bs (omega (arith, l)))

one_at : (k i : ℕ) (b : Bool) (bs : List Bool) → with_flag (λ v. nat_eq v (i + k)) b i bs ≡ slice_set bs k b
one_at k i b [] = refl
one_at zero i b (c ∷ bs) =
    let e : nat_eq i (i + 0) ≡ true = grind arith in
    let l : i + 0 < i + 1 = omega arith in
    ap (λ t. cond t b c ∷ with_flag (λ v. nat_eq v (i + 0)) b (i + 1) bs) e ∙ ap (λ z. b ∷ z) (past (i + 0) b (i + 1) bs l)
one_at (suc k) i b (c ∷ bs) =
    let e : nat_eq i (i + suc k) ≡ false = grind arith in
    let s : i + suc k ≡ (i + 1) + k = omega arith in
    ap (λ t. cond t b c ∷ with_flag (λ v. nat_eq v (i + suc k)) b (i + 1) bs) e
    ∙ ap (λ n. c ∷ with_flag (λ v. nat_eq v n) b (i + 1) bs) s ∙ ap (λ z. c ∷ z) (one_at k (i + 1) b bs)

pub one_set : (n : ℕ) (b : Bool) (bs : List Bool) → slice_set bs n b ≡ with_flag (λ v. nat_eq v n) b 0 bs
one_set n b bs = let e : n ≡ 0 + n = omega arith in sym (ap (λ k. with_flag (λ v. nat_eq v k) b 0 bs) e ∙ one_at n 0 b bs)

beyond : (n : ℕ) (b : Bool) (i : ℕ) (bs : List Bool) → i + length bs ≤ n → with_flag (λ v. nat_eq v n) b i bs ≡ bs
beyond n b i [] l = refl
beyond n b i (c ∷ bs) l =
    let e : nat_eq i n ≡ false = grind (arith, l) in
    ap (λ t. cond t b c ∷ with_flag (λ v. nat_eq v n) b (i + 1) bs) e ∙ ap (λ z. c ∷ z) (beyond n b (i + 1) bs (omega (arith, l)))

pub none_set : (n : ℕ) (b : Bool) (bs : List Bool) → length bs ≤ n → bs ≡ with_flag (λ v. nat_eq v n) b 0 bs
none_set n b bs l = sym (beyond n b 0 bs (omega (arith, l)))

-- one type after another
module _ (p : ℕ → Ty → Bool) (b : Bool) (ts : List Ty) (i : ℕ) (t : Ty) (l : i < length ts) (e : t ≡ get_or ts i t) (bs fs : List Bool) where
  pub step_any : fs ≡ with_flag (λ v. p v t) b 0 bs → with_flag (λ v. list_any (p v) (drop (i + 1) ts)) b 0 fs ≡ with_flag (λ v. list_any (p v) (drop i ts)) b 0 bs
  step_any h =
      ap (with_flag (λ v. list_any (p v) (drop (i + 1) ts)) b 0) h ∙ with_both (λ v. p v t) (λ v. list_any (p v) (drop (i + 1) ts)) b 0 bs
      ∙ sym (with_same (λ v. list_any (p v) (drop i ts)) (λ v. p v t || list_any (p v) (drop (i + 1) ts)) b 0 bs (λ v. any-suc (p v) ts i t l e))

  pub step_all : fs ≡ with_flag (λ v. not (p v t)) b 0 bs → with_flag (λ v. not (list_all (p v) (drop (i + 1) ts))) b 0 fs ≡ with_flag (λ v. not (list_all (p v) (drop i ts))) b 0 bs
  step_all h =
      ap (with_flag (λ v. not (list_all (p v) (drop (i + 1) ts))) b 0) h ∙ with_both (λ v. not (p v t)) (λ v. not (list_all (p v) (drop (i + 1) ts))) b 0 bs
      ∙ sym (with_same (λ v. not (list_all (p v) (drop i ts))) (λ v. not (p v t) || not (list_all (p v) (drop (i + 1) ts))) b 0 bs (λ v. ap not (all-suc (p v) ts i t l e) ∙ apart (p v t) (list_all (p v) (drop (i + 1) ts))))
    where
      apart : (x y : Bool) → not (x && y) ≡ (not x || not y)
      apart true y = refl
      apart false y = refl

pub not_not : (b : Bool) → not (not b) ≡ b
not_not true = refl
not_not false = refl

-- no type is left
pub all_done : {A : Type 0} (xs : List A) (i : ℕ) → length xs ≤ i → drop i xs ≡ []
all_done [] zero l = refl
all_done [] (suc i) l = refl
all_done (x ∷ xs) zero l = absurd (omega (arith, l))
all_done (x ∷ xs) (suc i) l = all_done xs i (omega (arith, l))

-- both bounds of one variable after another
module _ (b : Bool) (bs : List Bound) (i : ℕ) (c : Bound) (l : i < length bs) (e : c ≡ get_or bs i c) (fs gs hs : List Bool) where
  bounds_next : (v : ℕ) → list_any (stands_in v) (bound_types (drop i bs)) ≡ (stands_in v c.low || (stands_in v c.high || list_any (stands_in v) (bound_types (drop (i + 1) bs))))
  bounds_next v = ap (λ z. list_any (stands_in v) (bound_types z)) (drop_at bs i c l e)

  pub step_bounds : gs ≡ with_flag (λ v. stands_in v c.low) b 0 fs → hs ≡ with_flag (λ v. stands_in v c.high) b 0 gs
      → with_flag (λ v. list_any (stands_in v) (bound_types (drop (i + 1) bs))) b 0 hs ≡ with_flag (λ v. list_any (stands_in v) (bound_types (drop i bs))) b 0 fs
  step_bounds g h =
      let rest : ℕ → Bool = λ v. list_any (stands_in v) (bound_types (drop (i + 1) bs)) in
      ap (with_flag rest b 0) (h ∙ ap (with_flag (λ v. stands_in v c.high) b 0) g)
      ∙ with_both (λ v. stands_in v c.high) rest b 0 (with_flag (λ v. stands_in v c.low) b 0 fs)
      ∙ with_both (λ v. stands_in v c.low) (λ v. stands_in v c.high || rest v) b 0 fs
      ∙ sym (with_same (λ v. list_any (stands_in v) (bound_types (drop i bs))) (λ v. stands_in v c.low || (stands_in v c.high || rest v)) b 0 fs bounds_next)

-- all variables
plain_flag : (a o : Bool) → cond (not o) false (cond a true false) ≡ (a && o)
plain_flag true true = refl
plain_flag true false = refl
plain_flag false true = refl
plain_flag false false = refl

flag_of : (a b c o : Bool) → cond (not o) false (cond c true (cond b false (cond a true false))) ≡ (cond c true (cond b false a) && o)
flag_of a b true true = refl
flag_of a b true false = refl
flag_of a true false true = refl
flag_of a true false false = refl
flag_of true false false true = refl
flag_of true false false false = refl
flag_of false false false true = refl
flag_of false false false false = refl

module _ (w : Written) where
  abbrev stands : ℕ → Bool
  stands v = list_any (stands_in v) w.parts

  abbrev in_bounds : ℕ → Bool
  in_bounds v = list_any (stands_in v) (bound_types w.vars)

  abbrev has_below : ℕ → Bool
  has_below v = list_any (is_below v) w.parts

  abbrev inside : ℕ → Bool
  inside v = not (list_all (is_outside_unions v) w.parts)

  -- where no variable stands in bounds
  closed_from : ((v : ℕ) → in_bounds v ≡ false) → (i : ℕ) (bs : List Bound) → with_flag inside false i (with_flag stands true i (map (λ (b : Bound). false) bs)) ≡ each_var (is_usable w) i bs
  closed_from h i [] = refl
  closed_from h i (b ∷ bs) =
      let o = list_all (is_outside_unions i) w.parts in
      ap (λ z. z ∷ with_flag inside false (i + 1) (with_flag stands true (i + 1) (map (λ (b : Bound). false) bs))) (plain_flag (stands i) o ∙ ap (λ z. z && o) (sym (met_closed w i (h i))))
      ∙ ap (λ z. is_usable w i ∷ z) (closed_from h (i + 1) bs)

  usable_from : (i : ℕ) (bs : List Bound) → with_flag inside false i (with_flag has_below true i (with_flag in_bounds false i (with_flag stands true i (map (λ (b : Bound). false) bs)))) ≡ each_var (is_usable w) i bs
  usable_from i [] = refl
  usable_from i (b ∷ bs) =
      let o = list_all (is_outside_unions i) w.parts in
      ap (λ z. z ∷ with_flag inside false (i + 1) (with_flag has_below true (i + 1) (with_flag in_bounds false (i + 1) (with_flag stands true (i + 1) (map (λ (b : Bound). false) bs)))))
      (flag_of (stands i) (in_bounds i) (has_below i) o ∙ ap (λ z. z && o) (sym (met w i)))
      ∙ ap (λ z. is_usable w i ∷ z) (usable_from (i + 1) bs)

  module _ (ps : List Ty) (vs : List Bound) (p : ps ≡ w.parts) (v : vs ≡ w.vars) (fs gs : List Bool) (f : fs ≡ map (λ (b : Bound). false) vs) (g : gs ≡ with_flag (λ v. list_any (stands_in v) ps) true 0 fs) where
    standing : gs ≡ with_flag stands true 0 (map (λ (b : Bound). false) w.vars)
    standing = g ∙ ap (λ z. with_flag (λ v. list_any (stands_in v) z) true 0 fs) p ∙ ap (with_flag stands true 0) (f ∙ ap (map (λ (b : Bound). false)) v)

    pub closed_steps : (hs : List Bool) → not (list_all is_closed (bound_types vs)) ≡ false → hs ≡ with_flag (λ v. not (list_all (is_outside_unions v) ps)) false 0 gs → hs ≡ each_var (is_usable w) 0 w.vars
    closed_steps hs c h =
        let k : list_all is_closed (bound_types w.vars) ≡ true = ap (λ z. list_all is_closed (bound_types z)) (sym v) ∙ not_true (list_all is_closed (bound_types vs)) c in
        h ∙ ap (λ z. with_flag (λ v. not (list_all (is_outside_unions v) z)) false 0 gs) p ∙ ap (with_flag inside false 0) standing ∙ closed_from (λ v. closed_stand v (bound_types w.vars) k) 0 w.vars
      where
        not_true : (b : Bool) → not b ≡ false → b ≡ true
        not_true true e = refl
        not_true false e = absurd (let x : true ≡ false = e in cc)

    pub usable_steps : (hs is js : List Bool) → hs ≡ with_flag (λ v. list_any (stands_in v) (bound_types vs)) false 0 gs → is ≡ with_flag (λ v. list_any (is_below v) ps) true 0 hs
        → js ≡ with_flag (λ v. not (list_all (is_outside_unions v) ps)) false 0 is → js ≡ each_var (is_usable w) 0 w.vars
    usable_steps hs is js h k j =
        let b : hs ≡ with_flag in_bounds false 0 (with_flag stands true 0 (map (λ (b : Bound). false) w.vars)) =
        h ∙ ap (λ z. with_flag (λ v. list_any (stands_in v) (bound_types z)) false 0 gs) v ∙ ap (with_flag in_bounds false 0) standing in
        let c : is ≡ with_flag has_below true 0 (with_flag in_bounds false 0 (with_flag stands true 0 (map (λ (b : Bound). false) w.vars))) =
        k ∙ ap (λ z. with_flag (λ v. list_any (is_below v) z) true 0 hs) p ∙ ap (with_flag has_below true 0) b in
        j ∙ ap (λ z. with_flag (λ v. not (list_all (is_outside_unions v) z)) false 0 is) p ∙ ap (with_flag inside false 0) c ∙ usable_from 0 w.vars
