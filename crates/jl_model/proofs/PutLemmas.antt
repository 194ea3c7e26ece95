-- Types put for variables: one after another, in types without variables, and in those where none stands in a union or tuple.
use Rattle.std.proofs.Common.{◌≡◌, ◌∙◌, sym, ap, refl, ℕ, zero, suc, Bool, true, false, ◌&&◌, List, [], ◌∷◌, ◌++◌, map}
use Rattle.std.specs.List.{flat_map, list_all}
use Rattle.jl_model.specs.declared.ty.Ty.{Ty}
use Rattle.jl_model.specs.declared.ty.Ty.TheOpen.{Ty-F, Any, Union, Tuple, Nominal, Var}
use Rattle.jl_model.specs.declared.ty.Ty.TheViews.{roll-Ty, rolls-Any, rolls-Union, rolls-Tuple, rolls-Nominal, rolls-Var}
use Rattle.jl_model.specs.declared.ty.Ty.TheViews as V
use Rattle.jl_model.specs.declared.ty.Ty.TheVariants as W
use Rattle.jl_model.specs.declared.ty.Ty.TheFolds.{para-Ty, para-roll-Ty}
use Rattle.jl_model.specs.Rows.{vars_in}
use Rattle.jl_model.specs.Subtype.{put, at}
use Rattle.jl_model.proofs.TypeInduction.{Each, by_cases}
use Rattle.jl_model.proofs.FormLemmas.{all_seconds, put-any, put-union, put-tuple, put-nominal, put-var, vars-union, vars-tuple, vars-nominal, vars-var}

pub and_l : (b c : Bool) → (b && c) ≡ true → b ≡ true
and_l true c h = refl
and_l false c h = cc

pub and_r : (b c : Bool) → (b && c) ≡ true → c ≡ true
and_r true c h = h
and_r false c h = cc

pub both_true : (b c : Bool) → b ≡ true → c ≡ true → (b && c) ≡ true
both_true b c e f = rw (e, f) refl

-- one after another
put_each : (f g : ℕ → Ty) (ts : List Ty) → Each (λ t. put f (put g t) ≡ put (λ v. put f (g v)) t) ts → map (put f) (map (put g) ts) ≡ map (put (λ v. put f (g v))) ts
put_each f g [] e = refl
put_each f g (t ∷ ts) e = let h = e.0 in let k = put_each f g ts e.1 in cc

pub put-put : (f g : ℕ → Ty) (t : Ty) → put f (put g t) ≡ put (λ v. put f (g v)) t
put-put f g = let h = λ (v : ℕ). put f (g v) in by_cases (λ t. put f (put g t) ≡ put h t) (record {
  any = ap (put f) (put-any g) ∙ put-any f ∙ sym (put-any h);
  union = λ ts e. ap (put f) (put-union g ts) ∙ put-union f (map (put g) ts) ∙ ap (λ us. V.Union us) (put_each f g ts e) ∙ sym (put-union h ts);
  tuple = λ ts e. ap (put f) (put-tuple g ts) ∙ put-tuple f (map (put g) ts) ∙ ap (λ us. V.Tuple us) (put_each f g ts e) ∙ sym (put-tuple h ts);
  nominal = λ k ts e. ap (put f) (put-nominal g k ts) ∙ put-nominal f k (map (put g) ts) ∙ ap (λ us. V.Nominal k us) (put_each f g ts e) ∙ sym (put-nominal h k ts);
  var = λ v. ap (put f) (put-var g v) ∙ sym (put-var h v);
})

pub put_all-put : (f g : ℕ → Ty) (ts : List Ty) → map (put f) (map (put g) ts) ≡ map (put (λ v. put f (g v))) ts
put_all-put f g [] = refl
put_all-put f g (t ∷ ts) = let h = put-put f g t in let k = put_all-put f g ts in cc

pub at-map : (f : ℕ → Ty) (xs : List Ty) (i : ℕ) → at (map (put f) xs) i ≡ put f (at xs i)
at-map f [] i = sym (put-any f)
at-map f (x ∷ xs) zero = refl
at-map f (x ∷ xs) (suc i) = at-map f xs i

fun_eq : (f g : ℕ → Ty) → ((v : ℕ) → f v ≡ g v) → f ≡ g
fun_eq f g h = λ i v. h v i

pub put_at-put : (ys xs ts : List Ty) → map (put (at ys)) (map (put (at xs)) ts) ≡ map (put (at (map (put (at ys)) xs))) ts
put_at-put ys xs ts =
    put_all-put (at ys) (at xs) ts ∙ ap (λ f. map (put f) ts) (fun_eq (λ v. put (at ys) (at xs v)) (at (map (put (at ys)) xs)) (λ v. sym (at-map (at ys) xs v)))

pub put_at-put_one : (ys xs : List Ty) (t : Ty) → put (at ys) (put (at xs) t) ≡ put (at (map (put (at ys)) xs)) t
put_at-put_one ys xs t =
    put-put (at ys) (at xs) t ∙ ap (λ f. put f t) (fun_eq (λ v. put (at ys) (at xs v)) (at (map (put (at ys)) xs)) (λ v. sym (at-map (at ys) xs v)))

-- without variables
no_vars_l : (ns ms : List ℕ) → ns ++ ms ≡ [] → ns ≡ []
no_vars_l [] ms e = refl
no_vars_l (n ∷ ns) ms e = cc

no_vars_r : (ns ms : List ℕ) → ns ++ ms ≡ [] → ms ≡ []
no_vars_r [] ms e = e
no_vars_r (n ∷ ns) ms e = cc

abbrev Stays : (ℕ → Ty) → Ty → Type 0
Stays f t = vars_in t ≡ [] → put f t ≡ t

stay_all : (f : ℕ → Ty) (ts : List Ty) → Each (Stays f) ts → flat_map vars_in ts ≡ [] → map (put f) ts ≡ ts
stay_all f [] e h = refl
stay_all f (t ∷ ts) e h =
    let p = e.0 (no_vars_l (vars_in t) (flat_map vars_in ts) h) in
    let q = stay_all f ts e.1 (no_vars_r (vars_in t) (flat_map vars_in ts) h) in cc

pub put-closed : (f : ℕ → Ty) (t : Ty) → vars_in t ≡ [] → put f t ≡ t
put-closed f = by_cases (Stays f) (record {
  any = λ h. put-any f;
  union = λ ts e h. put-union f ts ∙ ap (λ us. V.Union us) (stay_all f ts e (sym (vars-union ts) ∙ h));
  tuple = λ ts e h. put-tuple f ts ∙ ap (λ us. V.Tuple us) (stay_all f ts e (sym (vars-tuple ts) ∙ h));
  nominal = λ k ts e h. put-nominal f k ts ∙ ap (λ us. V.Nominal k us) (stay_all f ts e (sym (vars-nominal k ts) ∙ h));
  var = λ v h. let g : v ∷ [] ≡ [] = sym (vars-var v) ∙ h in cc;
})

-- no variable stands in a union or a tuple
abbrev pub is_empty : List ℕ → Bool
is_empty [] = true
is_empty (n ∷ ns) = false

empty_of : (ns : List ℕ) → is_empty ns ≡ true → ns ≡ []
empty_of [] h = refl
empty_of (n ∷ ns) h = cc

abbrev pub pattern_step : Ty-F (Ty × Bool) → Bool
pattern_step Any = true
pattern_step (Union es) = is_empty (flat_map (λ e. vars_in e.0) es)
pattern_step (Tuple es) = is_empty (flat_map (λ e. vars_in e.0) es)
pattern_step (Nominal _ es) = list_all (λ e. e.1) es
pattern_step (Var _) = true

abbrev pub is_pattern : Ty → Bool
is_pattern = para-Ty Bool pattern_step

flats_with : {A : Type 0} (f : Ty → A) (ts : List Ty) → flat_map (λ e. vars_in e.0) (map (λ t. let p : Ty × A = (t, f t) in p) ts) ≡ flat_map vars_in ts
flats_with f [] = refl
flats_with f (t ∷ ts) = ap (λ ns. vars_in t ++ ns) (flats_with f ts)

pub pattern-any : is_pattern W.Any ≡ true
pattern-any = ap is_pattern (sym rolls-Any) ∙ para-roll-Ty Bool pattern_step Any

pub pattern-union : (ts : List Ty) → is_pattern (V.Union ts) ≡ is_empty (flat_map vars_in ts)
pattern-union ts = ap is_pattern (sym (rolls-Union ts)) ∙ para-roll-Ty Bool pattern_step (Union ts) ∙ ap is_empty (flats_with is_pattern ts)

pub pattern-tuple : (ts : List Ty) → is_pattern (V.Tuple ts) ≡ is_empty (flat_map vars_in ts)
pattern-tuple ts = ap is_pattern (sym (rolls-Tuple ts)) ∙ para-roll-Ty Bool pattern_step (Tuple ts) ∙ ap is_empty (flats_with is_pattern ts)

pub pattern-nominal : (k : ℕ) (ts : List Ty) → is_pattern (V.Nominal k ts) ≡ list_all is_pattern ts
pattern-nominal k ts = ap is_pattern (sym (rolls-Nominal k ts)) ∙ para-roll-Ty Bool pattern_step (Nominal k ts) ∙ all_seconds is_pattern ts

pub pattern-var : (v : ℕ) → is_pattern (W.Var v) ≡ true
pattern-var v = ap is_pattern (sym (rolls-Var v)) ∙ para-roll-Ty Bool pattern_step (Var v)

-- a pattern is a type without variables, a variable, or a nominal type of patterns
pub data Pattern : Ty → Type 0 where
  closed : (t : Ty) → ((f : ℕ → Ty) → put f t ≡ t) → Pattern t
  variable : (v : ℕ) → Pattern (W.Var v)
  applied : (k : ℕ) (ts : List Ty) → list_all is_pattern ts ≡ true → Pattern (V.Nominal k ts)

closed_union : (ts : List Ty) → is_pattern (V.Union ts) ≡ true → Pattern (V.Union ts)
closed_union ts h = closed (V.Union ts) (λ f. put-closed f (V.Union ts) (vars-union ts ∙ empty_of (flat_map vars_in ts) (sym (pattern-union ts) ∙ h)))

closed_tuple : (ts : List Ty) → is_pattern (V.Tuple ts) ≡ true → Pattern (V.Tuple ts)
closed_tuple ts h = closed (V.Tuple ts) (λ f. put-closed f (V.Tuple ts) (vars-tuple ts ∙ empty_of (flat_map vars_in ts) (sym (pattern-tuple ts) ∙ h)))

pub pattern_of : (t : Ty) → is_pattern t ≡ true → Pattern t
pattern_of = by_cases (λ t. is_pattern t ≡ true → Pattern t) (record {
  any = λ h. closed W.Any put-any;
  union = λ ts e h. closed_union ts h;
  tuple = λ ts e h. closed_tuple ts h;
  nominal = λ k ts e h. applied k ts (sym (pattern-nominal k ts) ∙ h);
  var = λ v h. variable v;
})

-- patterns put in patterns are patterns
pub at_pattern : (xs : List Ty) (i : ℕ) → list_all is_pattern xs ≡ true → is_pattern (at xs i) ≡ true
at_pattern [] i h = pattern-any
at_pattern (x ∷ xs) zero h = and_l (is_pattern x) (list_all is_pattern xs) h
at_pattern (x ∷ xs) (suc i) h = at_pattern xs i (and_r (is_pattern x) (list_all is_pattern xs) h)

abbrev Kept : List Ty → Ty → Type 0
Kept xs t = is_pattern t ≡ true → is_pattern (put (at xs) t) ≡ true

kept_all : (xs ts : List Ty) → Each (Kept xs) ts → list_all is_pattern ts ≡ true → list_all is_pattern (map (put (at xs)) ts) ≡ true
kept_all xs [] e h = refl
kept_all xs (t ∷ ts) e h =
    both_true (is_pattern (put (at xs) t)) (list_all is_pattern (map (put (at xs)) ts))
    (e.0 (and_l (is_pattern t) (list_all is_pattern ts) h)) (kept_all xs ts e.1 (and_r (is_pattern t) (list_all is_pattern ts) h))

same_closed : (xs : List Ty) (t : Ty) → vars_in t ≡ [] → is_pattern t ≡ true → is_pattern (put (at xs) t) ≡ true
same_closed xs t e h = ap is_pattern (put-closed (at xs) t e) ∙ h

pub put_pattern : (xs : List Ty) → list_all is_pattern xs ≡ true → (t : Ty) → is_pattern t ≡ true → is_pattern (put (at xs) t) ≡ true
put_pattern xs k = by_cases (Kept xs) (record {
  any = λ h. ap is_pattern (put-any (at xs)) ∙ h;
  union = λ ts e h. same_closed xs (V.Union ts) (vars-union ts ∙ empty_of (flat_map vars_in ts) (sym (pattern-union ts) ∙ h)) h;
  tuple = λ ts e h. same_closed xs (V.Tuple ts) (vars-tuple ts ∙ empty_of (flat_map vars_in ts) (sym (pattern-tuple ts) ∙ h)) h;
  nominal = λ m ts e h. ap is_pattern (put-nominal (at xs) m ts) ∙ pattern-nominal m (map (put (at xs)) ts) ∙ kept_all xs ts e (sym (pattern-nominal m ts) ∙ h);
  var = λ v h. ap is_pattern (put-var (at xs) v) ∙ at_pattern xs v k;
})

pub put_patterns : (xs : List Ty) → list_all is_pattern xs ≡ true → (ts : List Ty) → list_all is_pattern ts ≡ true → list_all is_pattern (map (put (at xs)) ts) ≡ true
put_patterns xs k [] h = refl
put_patterns xs k (t ∷ ts) h =
    both_true (is_pattern (put (at xs) t)) (list_all is_pattern (map (put (at xs)) ts))
    (put_pattern xs k t (and_l (is_pattern t) (list_all is_pattern ts) h)) (put_patterns xs k ts (and_r (is_pattern t) (list_all is_pattern ts) h))
