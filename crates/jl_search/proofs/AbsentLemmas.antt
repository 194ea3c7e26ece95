-- What the test that a variable does not stand somewhere tells.
use Rattle.std.proofs.Common.{◌≡◌, ◌∙◌, sym, ap, subst, refl, ℕ, ◌%◌, arith, Bool, true, false, ◌&&◌, not, nat_eq, eqb-true, List, [], ◌∷◌, ◌++◌, map, inl, inr}
use Rattle.std.specs.List.{flat_map, list_all}
use Rattle.jl_model.specs.declared.ty.Ty.{Ty}
use Rattle.jl_model.specs.declared.ty.Written.{Written}
use Rattle.jl_model.specs.Rows.{width, root, vars_in, Stands}
use Rattle.jl_model.proofs.TypeInduction.{Each, by_cases}
use Rattle.jl_model.proofs.FormLemmas.{vars-any, vars-union, vars-tuple, vars-nominal, vars-var}
use Rattle.jl_model.proofs.PutLemmas.{and_l, and_r}
use Rattle.jl_search.specs.Absent.{lacks}
use Rattle.jl_search.proofs.HasLemmas.{Has, has_left, has_right, has_split, has_map, map_has, has_of, of_has}
use Rattle.jl_search.proofs.OccurLemmas.{lack-any, lack-union, lack-tuple, lack-nominal, lack-var}

abbrev In : ℕ → List ℕ → Type 0
In v ns = Has ns v

module _ (m v : ℕ) where
  abbrev None : Ty → Type 0
  None u = lacks m v u ≡ true → (w : ℕ) → In w (vars_in u) → w % m ≡ v → ⊥

  none_all : (ts : List Ty) → Each None ts → list_all (lacks m v) ts ≡ true → (w : ℕ) → In w (flat_map vars_in ts) → w % m ≡ v → ⊥
  none_all [] e h w i d = i
  none_all (t ∷ ts) e h w i d = elim (has_split (vars_in t) (flat_map vars_in ts) w i) [
    | inl j ↦ e.0 (and_l (lacks m v t) (list_all (lacks m v) ts) h) w j d
    | inr j ↦ none_all ts e.1 (and_r (lacks m v t) (list_all (lacks m v) ts) h) w j d
  ]

  other : (w : ℕ) → not (nat_eq (w % m) v) ≡ true → w % m ≡ v → ⊥
  other w h d = let e : nat_eq (w % m) v ≡ true = grind (arith, d) in let f : false ≡ true = sym (ap not e) ∙ h in cc

  only_var : (w k : ℕ) → In k (w ∷ []) → not (nat_eq (w % m) v) ≡ true → k % m ≡ v → ⊥
  only_var w k (inl e) h d = other w h (ap (λ z. z % m) e ∙ d)
  only_var w k (inr i) h d = i

  pub lacks_none : (u : Ty) → None u
  lacks_none = by_cases None (record {
    any = λ h w i d. subst (In w) vars-any i;
    union = λ ts e h w i d. none_all ts e (sym (lack-union m v ts) ∙ h) w (subst (In w) (vars-union ts) i) d;
    tuple = λ ts e h w i d. none_all ts e (sym (lack-tuple m v ts) ∙ h) w (subst (In w) (vars-tuple ts) i) d;
    nominal = λ k ts e h w i d. none_all ts e (sym (lack-nominal m v k ts) ∙ h) w (subst (In w) (vars-nominal k ts) i) d;
    var = λ w h k i d. only_var w k (subst (In k) (vars-var w) i) (sym (lack-var m v w) ∙ h) d;
  })

  each_none : (ts : List Ty) → Each None ts
  each_none [] = tt
  each_none (t ∷ ts) = (lacks_none t, each_none ts)

  abbrev pub IsIn : List ℕ → Type 0
  IsIn ns = (w : ℕ) × In w ns × (w % m ≡ v)

  abbrev Some : Ty → Type 0
  Some u = lacks m v u ≡ false → IsIn (vars_in u)

  some_all : (ts : List Ty) → Each Some ts → list_all (lacks m v) ts ≡ false → IsIn (flat_map vars_in ts)
  some_all [] e h = let f : true ≡ false = h in cc
  some_all (t ∷ ts) e h = pick (lacks m v t) refl h (λ g. some_all ts e.1 g)
    where
      pick : (b : Bool) → lacks m v t ≡ b → (b && list_all (lacks m v) ts) ≡ false → (list_all (lacks m v) ts ≡ false → IsIn (flat_map vars_in ts)) → IsIn (vars_in t ++ flat_map vars_in ts)
      pick true i g k = let r = k g in (r.0, has_right (vars_in t) (flat_map vars_in ts) r.0 r.1, r.2)
      pick false i g k = let r = e.0 i in (r.0, has_left (vars_in t) (flat_map vars_in ts) r.0 r.1, r.2)

  same_number : (w : ℕ) (b : Bool) → nat_eq (w % m) v ≡ b → not b ≡ false → w % m ≡ v
  same_number w true e h = eqb-true (w % m) v e
  same_number w false e h = let f : true ≡ false = h in cc

  pub lacks_some : (u : Ty) → Some u
  lacks_some = by_cases Some (record {
    any = λ h. let f : true ≡ false = sym (lack-any m v) ∙ h in cc;
    union = λ ts e h. subst IsIn (sym (vars-union ts)) (some_all ts e (sym (lack-union m v ts) ∙ h));
    tuple = λ ts e h. subst IsIn (sym (vars-tuple ts)) (some_all ts e (sym (lack-tuple m v ts) ∙ h));
    nominal = λ k ts e h. subst IsIn (sym (vars-nominal k ts)) (some_all ts e (sym (lack-nominal m v k ts) ∙ h));
    var = λ w h. subst IsIn (sym (vars-var w)) (w, inl refl, same_number w (nat_eq (w % m) v) refl (sym (lack-var m v w) ∙ h));
  })

  each_some : (ts : List Ty) → Each Some ts
  each_some [] = tt
  each_some (t ∷ ts) = (lacks_some t, each_some ts)

-- a variable that stands nowhere in a row, and one that does
pub absent : (s : Written) (v m : ℕ) (parts : List Ty) → m ≡ width s → list_all (lacks m v) parts ≡ true → Stands s v parts → ⊥
absent s v m parts e h o =
    let r = map_has (root s) (flat_map vars_in parts) v (has_of (map (root s) (flat_map vars_in parts)) v o) in
    none_all m v parts (each_none m v parts) h r.0 r.1 (ap (λ z. r.0 % z) e ∙ r.2)

pub present : (s : Written) (v m : ℕ) (parts : List Ty) → m ≡ width s → list_all (lacks m v) parts ≡ false → Stands s v parts
present s v m parts e h =
    let r = some_all m v parts (each_some m v parts) h in
    let i : root s r.0 ≡ v = ap (λ z. r.0 % z) (sym e) ∙ r.2 in
    of_has (map (root s) (flat_map vars_in parts)) v (subst (λ z. Has (map (root s) (flat_map vars_in parts)) z) i (has_map (root s) (flat_map vars_in parts) r.0 r.1))
