-- The equations of the definitions over types, one for each form.
use Rattle.std.proofs.Common.{◌≡◌, ◌∙◌, sym, ap, refl, ℕ, Bool, ◌&&◌, List, [], ◌∷◌, ◌++◌, map}
use Rattle.std.specs.List.{flat_map, list_all}
use Rattle.jl_model.specs.declared.ty.Ty.{Ty}
use Rattle.jl_model.specs.declared.ty.Ty.TheOpen.{Any, Union, Tuple, Nominal, Var}
use Rattle.jl_model.specs.declared.ty.Ty.TheViews.{out-Ty, roll-Ty, roll-out-Ty, rolls-Any, rolls-Union, rolls-Tuple, rolls-Nominal, rolls-Var}
use Rattle.jl_model.specs.declared.ty.Ty.TheViews as V
use Rattle.jl_model.specs.declared.ty.Ty.TheVariants as W
use Rattle.jl_model.specs.declared.ty.Ty.TheFolds.{fold-roll-Ty, para-roll-Ty}
use Rattle.jl_model.specs.Rows.{alts, choices, forms_step, vars_in, vars_step}
use Rattle.jl_model.specs.Subtype.{put, put_step}
use Rattle.jl_model.specs.Order.{spelled, spell_step, spell_all}

-- lists of pairs that were made from a list
module _ {A : Type 0} (f : Ty → A) where
  pub firsts : (ts : List Ty) → map (λ e. e.0) (map (λ t. let p : Ty × A = (t, f t) in p) ts) ≡ ts
  firsts [] = refl
  firsts (t ∷ ts) = ap (λ us. t ∷ us) (firsts ts)

  pub seconds : (ts : List Ty) → map (λ e. e.1) (map (λ t. let p : Ty × A = (t, f t) in p) ts) ≡ map f ts
  seconds [] = refl
  seconds (t ∷ ts) = ap (λ us. f t ∷ us) (seconds ts)

  pub all_firsts : (g : Ty → Bool) (ts : List Ty) → list_all (λ e. g e.0) (map (λ t. let p : Ty × A = (t, f t) in p) ts) ≡ list_all g ts
  all_firsts g [] = refl
  all_firsts g (t ∷ ts) = ap (λ b. g t && b) (all_firsts g ts)

pub all_seconds : (f : Ty → Bool) (ts : List Ty) → list_all (λ e. e.1) (map (λ t. let p : Ty × Bool = (t, f t) in p) ts) ≡ list_all f ts
all_seconds f [] = refl
all_seconds f (t ∷ ts) = ap (λ b. f t && b) (all_seconds f ts)

pub all_of : (f : Ty → Bool) (ts : List Ty) → list_all (λ b. b) (map f ts) ≡ list_all f ts
all_of f [] = refl
all_of f (t ∷ ts) = ap (λ b. f t && b) (all_of f ts)

pub flat_seconds : {B : Type 0} (f : Ty → List B) (ts : List Ty) → flat_map (λ e. e.1) (map (λ t. let p : Ty × List B = (t, f t) in p) ts) ≡ flat_map f ts
flat_seconds f [] = refl
flat_seconds f (t ∷ ts) = ap (λ us. f t ++ us) (flat_seconds f ts)

pub flat_of : {B : Type 0} (f : Ty → List B) (ts : List Ty) → flat_map (λ n. n) (map f ts) ≡ flat_map f ts
flat_of f [] = refl
flat_of f (t ∷ ts) = ap (λ ns. f t ++ ns) (flat_of f ts)

-- a type from its outermost form
pub is_any : (a : Ty) → out-Ty a ≡ Any → a ≡ W.Any
is_any a e = sym (roll-out-Ty a) ∙ ap roll-Ty e ∙ rolls-Any

pub is_union : (a : Ty) (xs : List Ty) → out-Ty a ≡ Union xs → a ≡ V.Union xs
is_union a xs e = sym (roll-out-Ty a) ∙ ap roll-Ty e ∙ rolls-Union xs

pub is_tuple : (a : Ty) (xs : List Ty) → out-Ty a ≡ Tuple xs → a ≡ V.Tuple xs
is_tuple a xs e = sym (roll-out-Ty a) ∙ ap roll-Ty e ∙ rolls-Tuple xs

pub is_nominal : (a : Ty) (k : ℕ) (xs : List Ty) → out-Ty a ≡ Nominal k xs → a ≡ V.Nominal k xs
is_nominal a k xs e = sym (roll-out-Ty a) ∙ ap roll-Ty e ∙ rolls-Nominal k xs

pub is_var : (a : Ty) (v : ℕ) → out-Ty a ≡ Var v → a ≡ W.Var v
is_var a v e = sym (roll-out-Ty a) ∙ ap roll-Ty e ∙ rolls-Var v

-- alternatives

pub alts-any : alts W.Any ≡ W.Any ∷ []
alts-any = ap alts (sym rolls-Any) ∙ para-roll-Ty (List Ty) (forms_step (λ v. W.Var v ∷ [])) Any

pub alts-var : (v : ℕ) → alts (W.Var v) ≡ W.Var v ∷ []
alts-var v = ap alts (sym (rolls-Var v)) ∙ para-roll-Ty (List Ty) (forms_step (λ v. W.Var v ∷ [])) (Var v)

pub alts-union : (ts : List Ty) → alts (V.Union ts) ≡ flat_map alts ts
alts-union ts = ap alts (sym (rolls-Union ts)) ∙ para-roll-Ty (List Ty) (forms_step (λ v. W.Var v ∷ [])) (Union ts) ∙ flat_seconds alts ts

pub alts-tuple : (ts : List Ty) → alts (V.Tuple ts) ≡ map (λ us. V.Tuple us) (choices (map alts ts))
alts-tuple ts = ap alts (sym (rolls-Tuple ts)) ∙ para-roll-Ty (List Ty) (forms_step (λ v. W.Var v ∷ [])) (Tuple ts) ∙ ap (λ z. map (λ us. V.Tuple us) (choices z)) (seconds alts ts)

pub alts-nominal : (k : ℕ) (ts : List Ty) → alts (V.Nominal k ts) ≡ V.Nominal k ts ∷ []
alts-nominal k ts = ap alts (sym (rolls-Nominal k ts)) ∙ para-roll-Ty (List Ty) (forms_step (λ v. W.Var v ∷ [])) (Nominal k ts) ∙ ap (λ z. V.Nominal k z ∷ []) (firsts alts ts)

-- types put for variables
module _ (f : ℕ → Ty) where
  pub put-any : put f W.Any ≡ W.Any
  put-any = ap (put f) (sym rolls-Any) ∙ fold-roll-Ty Ty (put_step f) Any

  pub put-union : (ts : List Ty) → put f (V.Union ts) ≡ V.Union (map (put f) ts)
  put-union ts = ap (put f) (sym (rolls-Union ts)) ∙ fold-roll-Ty Ty (put_step f) (Union ts)

  pub put-tuple : (ts : List Ty) → put f (V.Tuple ts) ≡ V.Tuple (map (put f) ts)
  put-tuple ts = ap (put f) (sym (rolls-Tuple ts)) ∙ fold-roll-Ty Ty (put_step f) (Tuple ts)

  pub put-nominal : (k : ℕ) (ts : List Ty) → put f (V.Nominal k ts) ≡ V.Nominal k (map (put f) ts)
  put-nominal k ts = ap (put f) (sym (rolls-Nominal k ts)) ∙ fold-roll-Ty Ty (put_step f) (Nominal k ts)

  pub put-var : (v : ℕ) → put f (W.Var v) ≡ f v
  put-var v = ap (put f) (sym (rolls-Var v)) ∙ fold-roll-Ty Ty (put_step f) (Var v)

-- the variables in a type
pub vars-any : vars_in W.Any ≡ []
vars-any = ap vars_in (sym rolls-Any) ∙ fold-roll-Ty (List ℕ) vars_step Any

pub vars-union : (ts : List Ty) → vars_in (V.Union ts) ≡ flat_map vars_in ts
vars-union ts = ap vars_in (sym (rolls-Union ts)) ∙ fold-roll-Ty (List ℕ) vars_step (Union ts) ∙ flat_of vars_in ts

pub vars-tuple : (ts : List Ty) → vars_in (V.Tuple ts) ≡ flat_map vars_in ts
vars-tuple ts = ap vars_in (sym (rolls-Tuple ts)) ∙ fold-roll-Ty (List ℕ) vars_step (Tuple ts) ∙ flat_of vars_in ts

pub vars-nominal : (k : ℕ) (ts : List Ty) → vars_in (V.Nominal k ts) ≡ flat_map vars_in ts
vars-nominal k ts = ap vars_in (sym (rolls-Nominal k ts)) ∙ fold-roll-Ty (List ℕ) vars_step (Nominal k ts) ∙ flat_of vars_in ts

pub vars-var : (v : ℕ) → vars_in (W.Var v) ≡ v ∷ []
vars-var v = ap vars_in (sym (rolls-Var v)) ∙ fold-roll-Ty (List ℕ) vars_step (Var v)

-- the spelling
pub spelled-any : spelled W.Any ≡ 1 ∷ []
spelled-any = ap spelled (sym rolls-Any) ∙ fold-roll-Ty (List ℕ) spell_step Any

pub spelled-var : (v : ℕ) → spelled (W.Var v) ≡ 5 ∷ v ∷ []
spelled-var v = ap spelled (sym (rolls-Var v)) ∙ fold-roll-Ty (List ℕ) spell_step (Var v)

pub spelled-nominal : (k : ℕ) (ts : List Ty) → spelled (V.Nominal k ts) ≡ 2 ∷ k ∷ spell_all (map spelled ts)
spelled-nominal k ts = ap spelled (sym (rolls-Nominal k ts)) ∙ fold-roll-Ty (List ℕ) spell_step (Nominal k ts)

pub spelled-tuple : (ts : List Ty) → spelled (V.Tuple ts) ≡ 3 ∷ spell_all (map spelled ts)
spelled-tuple ts = ap spelled (sym (rolls-Tuple ts)) ∙ fold-roll-Ty (List ℕ) spell_step (Tuple ts)

pub spelled-none : spelled (V.Union []) ≡ 0 ∷ []
spelled-none = ap spelled (sym (rolls-Union [])) ∙ fold-roll-Ty (List ℕ) spell_step (Union [])

pub spelled-union : (t : Ty) (ts : List Ty) → spelled (V.Union (t ∷ ts)) ≡ 4 ∷ spell_all (map spelled (t ∷ ts))
spelled-union t ts = ap spelled (sym (rolls-Union (t ∷ ts))) ∙ fold-roll-Ty (List ℕ) spell_step (Union (t ∷ ts))
