-- Types that equal no other normal form of a bounded number of nodes than themselves.
use Rattle.std.proofs.Common.{◌≡◌, ◌∙◌, sym, ap, subst, refl, ℕ, zero, suc, ◌≤◌, arith, true, false, List, [], ◌∷◌, map}
use Rattle.jl_model.specs.declared.ty.Ty.{Ty}
use Rattle.jl_model.specs.declared.ty.Ty.TheOpen.{Tuple, Nominal}
use Rattle.jl_model.specs.declared.ty.Ty.TheViews.{out-Ty, outs-Any, outs-Nominal, outs-Tuple}
use Rattle.jl_model.specs.declared.ty.Ty.TheViews as V
use Rattle.jl_model.specs.declared.ty.Ty.TheVariants as W
use Rattle.jl_model.specs.Rows.{alts, choices}
use Rattle.jl_model.specs.Signature.{Both, both_end, both_more}
use Rattle.jl_model.specs.Subtype.{Table, opaque, put, at, Below}
use Rattle.jl_model.specs.Counts.{nodes}
use Rattle.jl_model.specs.Normal.{IsNormal, AllNormal, is_single, no_union, none as no_normal, more as more_normal, any as normal_any, var as normal_var, nominal as normal_nominal, tuple as normal_tuple, union as normal_union}
use Rattle.jl_types.specs.Ground.{Exact, AllExact, IsLower, AllLower, any, var, nominal, tuple, none, more}
use Rattle.jl_model.proofs.FormLemmas.{is_any, is_var, is_nominal, is_tuple, alts-any, alts-var, alts-nominal, alts-tuple, put-nominal, put-var}
use Rattle.jl_model.proofs.PutLemmas.{and_l, and_r}
use Rattle.std.specs.List.{list_all}
use Rattle.jl_model.proofs.AncestorLemmas.{Lawful}
use Rattle.jl_model.proofs.HeightLemmas.{Ways}
use Rattle.jl_model.proofs.NormalLemmas.{versus, tuple_same, nominal_same, any_same, var_same, kids_nominal, kids_tuple, normal_same}
use Rattle.jl_model.proofs.CountLemmas.{nodes_all, nodes-nominal, nodes-tuple}
use Rattle.jl_model.proofs.FillLemmas.{Filled, AllFilled, whole, open_place, over, filled_end, filled_more}

-- a smaller bound
pub all_exact_down : (n : Table) (l m : ℕ) → l ≤ m → (ts : List Ty) → AllExact n m ts → AllExact n l ts
all_exact_down n l m h [] e = tt
all_exact_down n l m h (t ∷ ts) e = ((λ u g s q. e.0 u g (omega arith) q), all_exact_down n l m h ts e.1)

mutual
  pub lower_down : (n : Table) (l m : ℕ) → l ≤ m → (t : Ty) → IsLower n m t → IsLower n l t
  lower_down n l m h t (any a e) = any t e
  lower_down n l m h t (var a v e) = var t v e
  lower_down n l m h t (nominal a k xs e q) = nominal t k xs e (all_exact_down n l m h xs q)
  lower_down n l m h t (tuple a xs e q) = tuple t xs e (all_lower_down n l m h xs q)

  pub all_lower_down : (n : Table) (l m : ℕ) → l ≤ m → (ts : List Ty) → AllLower n m ts → AllLower n l ts
  all_lower_down n l m h ts none = none
  all_lower_down n l m h ts (more t us p q) = more t us (lower_down n l m h t p) (all_lower_down n l m h us q)

-- its own single alternative
mutual
  pub lower_alts : (n : Table) (m : ℕ) (t : Ty) → IsLower n m t → alts t ≡ t ∷ []
  lower_alts n m t (any a e) = let i = is_any t e in ap alts i ∙ alts-any ∙ ap (λ z. z ∷ []) (sym i)
  lower_alts n m t (var a v e) = let i = is_var t v e in ap alts i ∙ alts-var v ∙ ap (λ z. z ∷ []) (sym i)
  lower_alts n m t (nominal a k xs e q) = let i = is_nominal t k xs e in ap alts i ∙ alts-nominal k xs ∙ ap (λ z. z ∷ []) (sym i)
  lower_alts n m t (tuple a xs e q) = let i = is_tuple t xs e in ap alts i ∙ alts-tuple xs ∙ ap (map (λ us. V.Tuple us)) (lower_choices n m xs q) ∙ ap (λ z. z ∷ []) (sym i)

  lower_choices : (n : Table) (m : ℕ) (ts : List Ty) → AllLower n m ts → choices (map alts ts) ≡ ts ∷ []
  lower_choices n m ts none = refl
  lower_choices n m ts (more t us p q) = let e = lower_alts n m t p in let f = lower_choices n m us q in rw (e, f) refl

module _ (n : Table) (law : Lawful n) where
  abbrev pub Pairs : List Ty → List Ty → Type 0
  Pairs = Both (Ways (Below n opaque))

  -- lists of them
  pub all_exact : (m : ℕ) (xs ys : List Ty) → AllExact n m xs → AllNormal n ys → nodes_all ys ≤ m → Pairs xs ys → xs ≡ ys
  all_exact m [] ys e g h both_end = refl
  all_exact m (x ∷ xs) [] e g h b = elim b [ ]
  all_exact m (x ∷ xs) (y ∷ ys) e (more_normal z zs g gs) h (both_more a b vs ws p r) =
      let i : x ≡ y = e.0 y g (omega arith) p in
      let j : xs ≡ ys = all_exact m xs ys e.1 gs (omega arith) r in
      cc

  exact_kids_nominal : (m : ℕ) (u : Ty) (k : ℕ) (xs : List Ty) → AllExact n m xs → IsNormal n u → nodes u ≤ m → (ys : List Ty) → out-Ty u ≡ Nominal k ys → Pairs xs ys → xs ≡ ys
  exact_kids_nominal m u k xs e g h ys o p =
      all_exact m xs ys e (kids_nominal n law u k ys g o) (omega (arith, ap nodes (is_nominal u k ys o), nodes-nominal k ys)) p

  exact_kids_tuple : (m : ℕ) (u : Ty) (xs : List Ty) → AllExact n m xs → IsNormal n u → nodes u ≤ m → (ys : List Ty) → out-Ty u ≡ Tuple ys → Pairs xs ys → xs ≡ ys
  exact_kids_tuple m u xs e g h ys o p =
      all_exact m xs ys e (kids_tuple n law u ys g o) (omega (arith, ap nodes (is_tuple u ys o), nodes-tuple ys)) p

  pub exact_nominal : (m : ℕ) (t : Ty) (k : ℕ) (xs : List Ty) → out-Ty t ≡ Nominal k xs → AllExact n m xs → Exact n m t
  exact_nominal m t k xs o e u g h q =
      versus n law t u (lower_alts n m t (nominal t k xs o e)) g q (λ a b. nominal_same n law t u k xs o (λ ys i w. exact_kids_nominal m u k xs e g h ys i w) a b)

  mutual
    pub lower_exact : (m : ℕ) (t : Ty) → IsLower n m t → Exact n m t
    lower_exact m t (any a e) u g h q = versus n law t u (lower_alts n m t (any t e)) g q (λ a b. any_same n law t u e a)
    lower_exact m t (var a v e) u g h q = versus n law t u (lower_alts n m t (var t v e)) g q (λ a b. var_same n law t u v e a b)
    lower_exact m t (nominal a k xs e p) u g h q = exact_nominal m t k xs e p u g h q
    lower_exact m t (tuple a xs e p) u g h q =
        versus n law t u (lower_alts n m t (tuple t xs e p)) g q (λ a b. tuple_same n law t u xs e (λ ys i w. exact_kids_tuple m u xs (all_lower_exact m xs p) g h ys i w) a b)

    pub all_lower_exact : (m : ℕ) (ts : List Ty) → AllLower n m ts → AllExact n m ts
    all_lower_exact m ts none = tt
    all_lower_exact m ts (more t us p q) = (lower_exact m t p, all_lower_exact m us q)

  -- normal forms
  pub normal_exact : (m : ℕ) (t : Ty) → IsNormal n t → Exact n m t
  normal_exact m t h u g s q = normal_same n law t h u g q

  pub normals_exact : (m : ℕ) (ts : List Ty) → AllNormal n ts → AllExact n m ts
  normals_exact m ts no_normal = tt
  normals_exact m ts (more_normal t us p q) = (normal_exact m t p, normals_exact m us q)

  mutual
    pub normal_lower : (m : ℕ) (t : Ty) → IsNormal n t → is_single t ≡ true → IsLower n m t
    normal_lower m t (normal_any a e) s = any t e
    normal_lower m t (normal_var a v e) s = var t v e
    normal_lower m t (normal_nominal a k xs e h) s = nominal t k xs e (normals_exact m xs h)
    normal_lower m t (normal_tuple a xs e h o) s = tuple t xs e (normals_lower m xs h o)
    normal_lower m t (normal_union a ts e h o p l) s = let f : false ≡ true = sym (ap no_union e) ∙ s in cc

    pub normals_lower : (m : ℕ) (ts : List Ty) → AllNormal n ts → list_all is_single ts ≡ true → AllLower n m ts
    normals_lower m ts no_normal s = none
    normals_lower m ts (more_normal t us p q) s = more t us (normal_lower m t p (and_l (is_single t) (list_all is_single us) s)) (normals_lower m us q (and_r (is_single t) (list_all is_single us) s))

  -- put in
  at_exact : (m : ℕ) (xs : List Ty) (v : ℕ) → AllExact n m xs → Exact n m (at xs v)
  at_exact m [] v e = normal_exact m W.Any (normal_any W.Any outs-Any)
  at_exact m (x ∷ xs) zero e = e.0
  at_exact m (x ∷ xs) (suc v) e = at_exact m xs v e.1

  mutual
    put_exact : (m : ℕ) (xs : List Ty) → AllExact n m xs → (t : Ty) → Filled n t → Exact n m (put (at xs) t)
    put_exact m xs e t (whole a f h) = normal_exact m (put (at xs) t) (subst (IsNormal n) (sym (f (at xs))) h)
    put_exact m xs e t (open_place v) = subst (Exact n m) (sym (put-var (at xs) v)) (at_exact m xs v e)
    put_exact m xs e t (over k ts h) =
        let us = map (put (at xs)) ts in
        subst (Exact n m) (sym (put-nominal (at xs) k ts)) (exact_nominal m (V.Nominal k us) k us (outs-Nominal k us) (puts_exact m xs e ts h))

    pub puts_exact : (m : ℕ) (xs : List Ty) → AllExact n m xs → (ts : List Ty) → AllFilled n ts → AllExact n m (map (put (at xs)) ts)
    puts_exact m xs e ts filled_end = tt
    puts_exact m xs e ts (filled_more t us p q) = (put_exact m xs e t p, puts_exact m xs e us q)
