-- Types put in for static parameters: what is put in is valid and has no variables, and the type's own variables stay.
use Rattle.std.proofs.Common.{◌≡◌, ◌∙◌, sym, ap, refl, ℕ, Bool, true, false, ◌&&◌, List, [], ◌∷◌, map}
use Rattle.std.specs.List.{flat_map, list_all}
use Rattle.std.proofs.lemmas.List.{length-map}
use Rattle.jl_model.specs.declared.ty.Ty.{Ty}
use Rattle.jl_model.specs.declared.ty.Ty.TheViews as V
use Rattle.jl_model.specs.declared.ty.Ty.TheVariants as W
use Rattle.jl_model.specs.Kinds.{places, plus_all, below_nominal, nowhere}
use Rattle.jl_model.specs.Rows.{vars_in}
use Rattle.jl_model.specs.SigRefusals.{is_argument, is_component}
use Rattle.jl_model.specs.Subtype.{put}
use Rattle.jl_model.specs.Valid.{is_closed}
use Rattle.jl_model.proofs.FormLemmas.{put-any, put-union, put-tuple, put-nominal, put-var, vars-any, vars-union, vars-tuple, vars-nominal, vars-var}
use Rattle.jl_model.proofs.PutLemmas.{and_l, and_r, both_true}
use Rattle.jl_model.proofs.TypeInduction.{Each, by_cases}
use Rattle.jl_types.specs.Form.{IsOfParts}
use Rattle.jl_types.proofs.PartsLemmas.{closed_parts, closed-any, closed-var}
use Rattle.jl_sig.proofs.FitLemmas.{argument-any, argument-union, argument-tuple, argument-nominal, component-any, component-union, component-tuple, component-nominal}
use Rattle.jl_sig.proofs.KindLemmas.{places-any, places-union, places-tuple, places-nominal}
use Rattle.jl_match.proofs.NameLemmas.{all-append}

pub each_all : (Q : Ty → Type 0) → ((t : Ty) → Q t) → (ts : List Ty) → Each Q ts
each_all Q q [] = tt
each_all Q q (t ∷ ts) = (q t, each_all Q q ts)

-- ---- the same types for the variables that stand in a type

module _ (p : ℕ → Bool) (f g : ℕ → Ty) (same : (v : ℕ) → p v ≡ true → f v ≡ g v) where
  abbrev Alike : Ty → Type 0
  Alike t = list_all p (vars_in t) ≡ true → put f t ≡ put g t

  alike_each : (ts : List Ty) → Each Alike ts → list_all p (flat_map vars_in ts) ≡ true → map (put f) ts ≡ map (put g) ts
  alike_each [] e h = refl
  alike_each (t ∷ ts) e h =
      let k : (list_all p (vars_in t) && list_all p (flat_map vars_in ts)) ≡ true = sym (all-append p (vars_in t) (flat_map vars_in ts)) ∙ h in
      let a = e.0 (and_l (list_all p (vars_in t)) (list_all p (flat_map vars_in ts)) k) in
      let b = alike_each ts e.1 (and_r (list_all p (vars_in t)) (list_all p (flat_map vars_in ts)) k) in
      cc

  pub put_alike : (t : Ty) → Alike t
  put_alike = by_cases Alike (record {
    any = λ h. put-any f ∙ sym (put-any g);
    union = λ ts e h. put-union f ts ∙ ap (λ us. V.Union us) (alike_each ts e (sym (ap (list_all p) (vars-union ts)) ∙ h)) ∙ sym (put-union g ts);
    tuple = λ ts e h. put-tuple f ts ∙ ap (λ us. V.Tuple us) (alike_each ts e (sym (ap (list_all p) (vars-tuple ts)) ∙ h)) ∙ sym (put-tuple g ts);
    nominal = λ k ts e h. put-nominal f k ts ∙ ap (λ us. V.Nominal k us) (alike_each ts e (sym (ap (list_all p) (vars-nominal k ts)) ∙ h)) ∙ sym (put-nominal g k ts);
    var = λ v h. put-var f v ∙ same v (and_l (p v) true (sym (ap (list_all p) (vars-var v)) ∙ h)) ∙ sym (put-var g v);
  })

  pub all_alike : (ts : List Ty) → list_all p (flat_map vars_in ts) ≡ true → map (put f) ts ≡ map (put g) ts
  all_alike ts h = alike_each ts (each_all Alike put_alike ts) h

-- ---- a test that goes by the parts, and that passes what is put in

module _ (p : Ty → Bool) (parts : IsOfParts p) (any : p W.Any ≡ true) (f : ℕ → Ty) (passes : (v : ℕ) → p (f v) ≡ true) where
  abbrev Passes : Ty → Type 0
  Passes t = p t ≡ true → p (put f t) ≡ true

  passes_each : (ts : List Ty) → Each Passes ts → list_all p ts ≡ true → list_all p (map (put f) ts) ≡ true
  passes_each [] e h = refl
  passes_each (t ∷ ts) e h = both_true (p (put f t)) (list_all p (map (put f) ts)) (e.0 (and_l (p t) (list_all p ts) h)) (passes_each ts e.1 (and_r (p t) (list_all p ts) h))

  pub put_passes : (t : Ty) → Passes t
  put_passes = by_cases Passes (record {
    any = λ h. ap p (put-any f) ∙ any;
    union = λ ts e h. ap p (put-union f ts) ∙ parts.union_is (map (put f) ts) ∙ passes_each ts e (sym (parts.union_is ts) ∙ h);
    tuple = λ ts e h. ap p (put-tuple f ts) ∙ parts.tuple_is (map (put f) ts) ∙ passes_each ts e (sym (parts.tuple_is ts) ∙ h);
    nominal = λ k ts e h. ap p (put-nominal f k ts) ∙ parts.others k ts (map (put f) ts) h (length-map ts (put f)) (passes_each ts e (parts.arguments k ts h));
    var = λ v h. ap p (put-var f v) ∙ passes v;
  })

  pub all_pass : (ts : List Ty) → list_all p ts ≡ true → list_all p (map (put f) ts) ≡ true
  all_pass ts h = passes_each ts (each_all Passes put_passes ts) h

-- ---- variables that stand where they may

-- what stands for a variable is closed where the other is, and may stand where a variable may
pub record IsLike (a b : Ty) : Type 0 where
  pub closed : is_closed a ≡ true → is_closed b ≡ true
  pub argument : is_argument b ≡ true
  pub component : is_component b ≡ true

module _ (h f : ℕ → Ty) (like : (v : ℕ) → IsLike (h v) (f v)) where
  abbrev Keeps : (Ty → Bool) → Ty → Type 0
  Keeps p t = p (put h t) ≡ true → p (put f t) ≡ true

  keeps_all : (p : Ty → Bool) (ts : List Ty) → Each (Keeps p) ts → list_all p (map (put h) ts) ≡ true → list_all p (map (put f) ts) ≡ true
  keeps_all p [] e k = refl
  keeps_all p (t ∷ ts) e k =
      both_true (p (put f t)) (list_all p (map (put f) ts)) (e.0 (and_l (p (put h t)) (list_all p (map (put h) ts)) k)) (keeps_all p ts e.1 (and_r (p (put h t)) (list_all p (map (put h) ts)) k))

  closed_kept : (t : Ty) → Keeps is_closed t
  closed_kept = by_cases (Keeps is_closed) (record {
    any = λ k. ap is_closed (put-any f) ∙ closed-any;
    union = λ ts e k. ap is_closed (put-union f ts) ∙ closed_parts.union_is (map (put f) ts) ∙ keeps_all is_closed ts e (sym (ap is_closed (put-union h ts) ∙ closed_parts.union_is (map (put h) ts)) ∙ k);
    tuple = λ ts e k. ap is_closed (put-tuple f ts) ∙ closed_parts.tuple_is (map (put f) ts) ∙ keeps_all is_closed ts e (sym (ap is_closed (put-tuple h ts) ∙ closed_parts.tuple_is (map (put h) ts)) ∙ k);
    nominal = λ m ts e k.
        (let c = sym (ap is_closed (put-nominal h m ts)) ∙ k in
        ap is_closed (put-nominal f m ts)
        ∙ closed_parts.others m (map (put h) ts) (map (put f) ts) c (length-map ts (put f) ∙ sym (length-map ts (put h))) (keeps_all is_closed ts e (closed_parts.arguments m (map (put h) ts) c)));
    var = λ v k. ap is_closed (put-var f v) ∙ (like v).closed (sym (ap is_closed (put-var h v)) ∙ k);
  })

  closeds_kept : (ts : List Ty) → list_all is_closed (map (put h) ts) ≡ true → list_all is_closed (map (put f) ts) ≡ true
  closeds_kept ts = keeps_all is_closed ts (each_all (Keeps is_closed) closed_kept ts)

  argument_kept : (t : Ty) → Keeps is_argument t
  argument_kept = by_cases (Keeps is_argument) (record {
    any = λ k. ap is_argument (put-any f) ∙ argument-any;
    union = λ ts e k. ap is_argument (put-union f ts) ∙ argument-union (map (put f) ts) ∙ closeds_kept ts (sym (ap is_argument (put-union h ts) ∙ argument-union (map (put h) ts)) ∙ k);
    tuple = λ ts e k. ap is_argument (put-tuple f ts) ∙ argument-tuple (map (put f) ts) ∙ closeds_kept ts (sym (ap is_argument (put-tuple h ts) ∙ argument-tuple (map (put h) ts)) ∙ k);
    nominal = λ m ts e k.
        ap is_argument (put-nominal f m ts) ∙ argument-nominal m (map (put f) ts) ∙ keeps_all is_argument ts e (sym (ap is_argument (put-nominal h m ts) ∙ argument-nominal m (map (put h) ts)) ∙ k);
    var = λ v k. ap is_argument (put-var f v) ∙ (like v).argument;
  })

  component_kept : (t : Ty) → Keeps is_component t
  component_kept = by_cases (Keeps is_component) (record {
    any = λ k. ap is_component (put-any f) ∙ component-any;
    union = λ ts e k.
        ap is_component (put-union f ts) ∙ component-union (map (put f) ts) ∙ keeps_all is_component ts e (sym (ap is_component (put-union h ts) ∙ component-union (map (put h) ts)) ∙ k);
    tuple = λ ts e k.
        ap is_component (put-tuple f ts) ∙ component-tuple (map (put f) ts) ∙ keeps_all is_component ts e (sym (ap is_component (put-tuple h ts) ∙ component-tuple (map (put h) ts)) ∙ k);
    nominal = λ m ts e k.
        ap is_component (put-nominal f m ts) ∙ component-nominal m (map (put f) ts)
        ∙ keeps_all is_argument ts (each_all (Keeps is_argument) argument_kept ts) (sym (ap is_component (put-nominal h m ts) ∙ component-nominal m (map (put h) ts)) ∙ k);
    var = λ v k. ap is_component (put-var f v) ∙ (like v).component;
  })

  pub arguments_kept : (ts : List Ty) → list_all is_argument (map (put h) ts) ≡ true → list_all is_argument (map (put f) ts) ≡ true
  arguments_kept ts = keeps_all is_argument ts (each_all (Keeps is_argument) argument_kept ts)

  pub components_kept : (ts : List Ty) → list_all is_component (map (put h) ts) ≡ true → list_all is_component (map (put f) ts) ≡ true
  components_kept ts = keeps_all is_component ts (each_all (Keeps is_component) component_kept ts)

-- ---- places of variables

module _ (v : ℕ) where
  none_all : (ts : List Ty) → Each (λ t. is_closed t ≡ true → places v t ≡ nowhere) ts → list_all is_closed ts ≡ true → plus_all (map (places v) ts) ≡ nowhere
  none_all [] e h = refl
  none_all (t ∷ ts) e h =
      let p = e.0 (and_l (is_closed t) (list_all is_closed ts) h) in
      let q = none_all ts e.1 (and_r (is_closed t) (list_all is_closed ts) h) in
      rw (p, q) refl

  pub closed_nowhere : (t : Ty) → is_closed t ≡ true → places v t ≡ nowhere
  closed_nowhere = by_cases (λ t. is_closed t ≡ true → places v t ≡ nowhere) (record {
    any = λ h. places-any v;
    union = λ ts e h. places-union v ts ∙ none_all ts e (sym (closed_parts.union_is ts) ∙ h);
    tuple = λ ts e h. places-tuple v ts ∙ none_all ts e (sym (closed_parts.tuple_is ts) ∙ h);
    nominal = λ k ts e h. places-nominal v k ts ∙ ap below_nominal (none_all ts e (closed_parts.arguments k ts h));
    var = λ w h. let f : false ≡ true = sym (closed-var w) ∙ h in cc;
  })

  module _ (f : ℕ → Ty) (like : (w : ℕ) → places v (f w) ≡ places v (W.Var w)) where
    same_each : (ts : List Ty) → Each (λ t. places v (put f t) ≡ places v t) ts → map (places v) (map (put f) ts) ≡ map (places v) ts
    same_each [] e = refl
    same_each (t ∷ ts) e = let p = e.0 in let q = same_each ts e.1 in cc

    pub same_places : (t : Ty) → places v (put f t) ≡ places v t
    same_places = by_cases (λ t. places v (put f t) ≡ places v t) (record {
      any = ap (places v) (put-any f);
      union = λ ts e. ap (places v) (put-union f ts) ∙ places-union v (map (put f) ts) ∙ ap plus_all (same_each ts e) ∙ sym (places-union v ts);
      tuple = λ ts e. ap (places v) (put-tuple f ts) ∙ places-tuple v (map (put f) ts) ∙ ap plus_all (same_each ts e) ∙ sym (places-tuple v ts);
      nominal = λ k ts e. ap (places v) (put-nominal f k ts) ∙ places-nominal v k (map (put f) ts) ∙ ap (λ z. below_nominal (plus_all z)) (same_each ts e) ∙ sym (places-nominal v k ts);
      var = λ w. ap (places v) (put-var f w) ∙ like w;
    })

    pub all_places : (ts : List Ty) → map (places v) (map (put f) ts) ≡ map (places v) ts
    all_places ts = same_each ts (each_all (λ t. places v (put f t) ≡ places v t) same_places ts)

-- ---- the variables that are left

module _ (p : ℕ → Bool) (f : ℕ → Ty) (left : (v : ℕ) → list_all p (vars_in (f v)) ≡ true) where
  abbrev Left : Ty → Type 0
  Left t = list_all p (vars_in (put f t)) ≡ true

  left_each : (ts : List Ty) → Each Left ts → list_all p (flat_map vars_in (map (put f) ts)) ≡ true
  left_each [] e = refl
  left_each (t ∷ ts) e =
      all-append p (vars_in (put f t)) (flat_map vars_in (map (put f) ts)) ∙ both_true (list_all p (vars_in (put f t))) (list_all p (flat_map vars_in (map (put f) ts))) e.0 (left_each ts e.1)

  left_put : (t : Ty) → Left t
  left_put = by_cases Left (record {
    any = ap (list_all p) (ap vars_in (put-any f) ∙ vars-any);
    union = λ ts e. ap (list_all p) (ap vars_in (put-union f ts) ∙ vars-union (map (put f) ts)) ∙ left_each ts e;
    tuple = λ ts e. ap (list_all p) (ap vars_in (put-tuple f ts) ∙ vars-tuple (map (put f) ts)) ∙ left_each ts e;
    nominal = λ k ts e. ap (list_all p) (ap vars_in (put-nominal f k ts) ∙ vars-nominal k (map (put f) ts)) ∙ left_each ts e;
    var = λ v. ap (list_all p) (ap vars_in (put-var f v)) ∙ left v;
  })

  pub all_left : (ts : List Ty) → list_all p (flat_map vars_in (map (put f) ts)) ≡ true
  all_left ts = left_each ts (each_all Left left_put ts)
