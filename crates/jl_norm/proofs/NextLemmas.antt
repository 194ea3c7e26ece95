-- The order of types with a declaration as it is written, and with it as it is kept, is the same.
use Rattle.std.proofs.Common.{◌≡◌, ◌∙◌, sym, ap, subst, refl, ℕ, zero, suc, ◌+◌, ◌<◌, arith, Bool, true, false, cond, nat_eq, List, [], ◌∷◌, ◌++◌, map, length, get_or, Option, None, Some, ◌⊎◌, inl, inr}
use Rattle.std.specs.List.{list_all}
use Rattle.jl_model.specs.declared.ty.Ty.{Ty, out-Ty}
use Rattle.jl_model.specs.declared.ty.Ty.TheOpen.{Any, Union, Tuple, Nominal, Var}
use Rattle.jl_model.specs.declared.ty.Ty.TheViews.{outs-Any, outs-Union, outs-Tuple, outs-Nominal, outs-Var}
use Rattle.jl_model.specs.declared.ty.Ty.TheViews as V
use Rattle.jl_model.specs.declared.ty.Ty.TheVariants as W
use Rattle.jl_model.specs.declared.ty.Bound.{Bound}
use Rattle.jl_model.specs.declared.ty.Decl.{Decl}
use Rattle.jl_model.specs.Rows.{vars_in}
use Rattle.jl_model.specs.Signature.{Both, both_end, both_more}
use Rattle.jl_model.specs.Subtype.{Table, opaque, put, at, put_in, Below}
use Rattle.jl_model.specs.Ancestors.{Ancestor, vars_from, put_under, line_above, line_of, lines_after, args_of, up_in, table_of}
use Rattle.jl_model.specs.Normal.{IsNormalForm}
use Rattle.jl_model.specs.Valid.{is_known, is_closed}
use Rattle.jl_model.specs.Kept.{Argument, AllArguments, closed, variable, nominal as applied, arguments_end, arguments_more}
use Rattle.jl_model.specs.Refusals.{Declared, table_with}
use Rattle.jl_model.proofs.TypeInduction.{Each, by_cases}
use Rattle.jl_model.proofs.FormLemmas.{is_nominal, put-nominal}
use Rattle.jl_model.proofs.PutLemmas.{is_pattern, put-closed, put_at-put, and_l, and_r}
use Rattle.jl_model.proofs.AncestorLemmas.{Lawful, get_before, lines_snoc, each_true}
use Rattle.jl_model.proofs.SelfLemmas.{below_self}
use Rattle.jl_model.proofs.HeightLemmas.{Ways, equals_of}
use Rattle.jl_model.proofs.TransLemmas.{put_equal}
use Rattle.jl_model.proofs.KnownLemmas.{Known, nominal_known}
use Rattle.jl_model.proofs.DeclaredLemmas.{declared_lawful}
use Rattle.jl_norm.proofs.InheritLemmas.{Has, AllHave, has_any, has_var, has_union, has_tuple, has_nominal, have_none, have_more, have_each, union_has, tuple_has, nominal_has, inherits}
use Rattle.jl_types.proofs.PartsLemmas.{closed-any, closed-var, closed-union, closed-tuple, closed-nominal}
use Rattle.jl_norm.proofs.PartLemmas.{NoVar, AnyName, form_known}
use Rattle.jl_norm.proofs.KeepLemmas.{nominal_below}
use Rattle.jl_norm.proofs.OrderLemmas.{Nears}

-- TYPES WITHOUT VARIABLES
closed_each : (ts : List Ty) → Each (λ t. is_closed t ≡ true → Has NoVar AnyName t) ts → list_all is_closed ts ≡ true → AllHave NoVar AnyName ts
closed_each [] e h = have_none
closed_each (t ∷ ts) e h = have_more t ts (e.0 (and_l (is_closed t) (list_all is_closed ts) h)) (closed_each ts e.1 (and_r (is_closed t) (list_all is_closed ts) h))

pub closed_has : (t : Ty) → is_closed t ≡ true → Has NoVar AnyName t
closed_has = by_cases (λ t. is_closed t ≡ true → Has NoVar AnyName t) (record {
  any = λ h. has_any W.Any outs-Any;
  union = λ ts e h. has_union (V.Union ts) ts (outs-Union ts) (closed_each ts e (sym (closed-union ts) ∙ h));
  tuple = λ ts e h. has_tuple (V.Tuple ts) ts (outs-Tuple ts) (closed_each ts e (sym (closed-tuple ts) ∙ h));
  nominal = λ k ts e h. has_nominal (V.Nominal k ts) k ts (outs-Nominal k ts) tt (closed_each ts e (sym (closed-nominal k ts) ∙ h));
  var = λ v h. let f : false ≡ true = sym (closed-var v) ∙ h in cc;
})

each_from : (P Q : Ty → Type 0) (ts : List Ty) → Each (λ t. P t → Q t) ts → Each P ts → Each Q ts
each_from P Q [] e h = tt
each_from P Q (t ∷ ts) e h = (e.0 h.0, each_from P Q ts e.1 h.1)

no_var_has : (t : Ty) (v : ℕ) → out-Ty t ≡ Var v → Has NoVar AnyName t → ⊥
no_var_has t v o (has_any a e) = let f : Any ≡ Var v = sym e ∙ o in cc
no_var_has t v o (has_var a w e p) = p
no_var_has t v o (has_union a ts e h) = let f : Union ts ≡ Var v = sym e ∙ o in cc
no_var_has t v o (has_tuple a ts e h) = let f : Tuple ts ≡ Var v = sym e ∙ o in cc
no_var_has t v o (has_nominal a k ts e r h) = let f : Nominal k ts ≡ Var v = sym e ∙ o in cc

pub has_closed : (t : Ty) → Has NoVar AnyName t → is_closed t ≡ true
has_closed =
    let H = Has NoVar AnyName in
    let C = λ (t : Ty). is_closed t ≡ true in
    by_cases (λ t. H t → C t) (record {
      any = λ h. closed-any;
      union = λ ts e h. closed-union ts ∙ each_true is_closed ts (each_from H C ts e (have_each NoVar AnyName ts (union_has NoVar AnyName (V.Union ts) ts (outs-Union ts) h)));
      tuple = λ ts e h. closed-tuple ts ∙ each_true is_closed ts (each_from H C ts e (have_each NoVar AnyName ts (tuple_has NoVar AnyName (V.Tuple ts) ts (outs-Tuple ts) h)));
      nominal = λ k ts e h. closed-nominal k ts ∙ each_true is_closed ts (each_from H C ts e (have_each NoVar AnyName ts (nominal_has NoVar AnyName (V.Nominal k ts) k ts (outs-Nominal k ts) h).1));
      var = λ v h. absurd (no_var_has (W.Var v) v (outs-Var v) h);
    })

-- a normal form of a type without variables has none
pub form_closed : (n : Table) → Lawful n → (t u : Ty) → is_closed t ≡ true → IsNormalForm n t u → is_closed u ≡ true
form_closed n law t u c f = has_closed u (inherits NoVar AnyName n law (λ k xs ys r b. r) u f.normal t (closed_has t c) f.equal)

no_vars : (ns : List ℕ) → nat_eq (length ns) 0 ≡ true → ns ≡ []
no_vars [] h = refl
no_vars (n ∷ ns) h = let e : length (n ∷ ns) ≡ 0 = grind (arith, h) in absurd (omega arith)

put_same : (xs : List Ty) (t : Ty) → is_closed t ≡ true → put (at xs) t ≡ t
put_same xs t c = put-closed (at xs) t (no_vars (vars_in t) c)

-- ARGUMENTS THAT ARE KEPT
-- n is the table in which they are kept, and o one with the same order of the types below m
module _ (n o : Table) (m : ℕ) (law : Lawful n) (move : (t u : Ty) → Known m t → Known m u → Below n opaque t u → Below o opaque t u) where
  abbrev W_o : Ty → Ty → Type 0
  W_o = Ways (Below o opaque)

  turned : (as_ bs : List Ty) → Both W_o as_ bs → Both W_o bs as_
  turned as_ bs both_end = both_end
  turned as_ bs (both_more a b vs ws p r) = both_more b a ws vs (p.1, p.0) (turned vs ws r)

  mutual
    argument_ways : (t u : Ty) → Argument n t u → Known m t → (xs : List Ty) → W_o (put (at xs) u) (put (at xs) t)
    argument_ways t u (closed a b c f) k xs =
        let l = form_known n law m t u k f in
        let p : put (at xs) t ≡ t = put_same xs t c in
        let q : put (at xs) u ≡ u = put_same xs u (form_closed n law t u c f) in
        let w : W_o u t = (move u t l k f.equal.1, move t u k l f.equal.0) in
        subst (λ z. W_o z (put (at xs) t)) (sym q) (subst (λ z. W_o u z) (sym p) w)
    argument_ways t u (variable a v e) k xs = let b = below_self o (put (at xs) t) in (b, b)
    argument_ways t u (applied a b j ts us c e f q) k xs =
        let i = is_nominal t j ts e in
        let g = nominal_known m j ts (sym (ap (is_known m) i) ∙ k) in
        let w = arguments_ways ts us q g.1 xs in
        let back = turned (map (put (at xs)) us) (map (put (at xs)) ts) w in
        let p : put (at xs) t ≡ V.Nominal j (map (put (at xs)) ts) = ap (put (at xs)) i ∙ put-nominal (at xs) j ts in
        let r : put (at xs) u ≡ V.Nominal j (map (put (at xs)) us) = ap (put (at xs)) (is_nominal u j us f) ∙ put-nominal (at xs) j us in
        let s : W_o (V.Nominal j (map (put (at xs)) us)) (V.Nominal j (map (put (at xs)) ts)) =
        (nominal_below o j (map (put (at xs)) us) (map (put (at xs)) ts) w, nominal_below o j (map (put (at xs)) ts) (map (put (at xs)) us) back) in
        subst (λ z. W_o z (put (at xs) t)) (sym r) (subst (λ z. W_o (V.Nominal j (map (put (at xs)) us)) z) (sym p) s)

    pub arguments_ways : (ts us : List Ty) → AllArguments n ts us → Each (Known m) ts → (xs : List Ty) → Both W_o (map (put (at xs)) us) (map (put (at xs)) ts)
    arguments_ways ts us arguments_end k xs = both_end
    arguments_ways ts us (arguments_more t u vs ws p q) k xs =
        both_more (put (at xs) u) (put (at xs) t) (map (put (at xs)) ws) (map (put (at xs)) vs) (argument_ways t u p k.0 xs) (arguments_ways vs ws q k.1 xs)

-- TWO DECLARATIONS AFTER THE SAME ONES
-- the parents are no nominal types, or the same one with arguments that are equal in o, whatever is put in
pub data Alike (o : Table) (a b : Decl) : Type 0 where
  neither : ((ls : List (List Ancestor)) → line_above ls (out-Ty a.parent) ≡ []) → ((ls : List (List Ancestor)) → line_above ls (out-Ty b.parent) ≡ []) → Alike o a b
  parents : (p : ℕ) (ys ws : List Ty) → out-Ty a.parent ≡ Nominal p ys → out-Ty b.parent ≡ Nominal p ws
      → ((xs : List Ty) → Both (Ways (Below o opaque)) (map (put (at xs)) ws) (map (put (at xs)) ys)) → Alike o a b

-- no arguments, or equal ones
data NearBy (o : Table) : Option (List Ty) → Option (List Ty) → Type 0 where
  no_args : NearBy o None None
  equal_args : (zs ws : List Ty) → ((xs : List Ty) → Both (Ways (Below o opaque)) (map (put (at xs)) ws) (map (put (at xs)) zs)) → NearBy o (Some zs) (Some ws)

module _ (o : Table) where
  self_ways : (xs : List Ty) → Both (Ways (Below o opaque)) xs xs
  self_ways [] = both_end
  self_ways (x ∷ xs) = let b = below_self o x in both_more x x xs xs (b, b) (self_ways xs)

  near_self : (u : Option (List Ty)) → NearBy o u u
  near_self None = no_args
  near_self (Some zs) = equal_args zs zs (λ xs. self_ways (map (put (at xs)) zs))

  near_cond : (b : Bool) (us vs : List Ty) (u v : Option (List Ty)) → us ≡ vs → NearBy o u v → NearBy o (cond b (Some us) u) (cond b (Some vs) v)
  near_cond true us vs u v e w = subst (λ z. NearBy o (Some us) (Some z)) e (near_self (Some us))
  near_cond false us vs u v e w = w

  near_none : (u v : Option (List Ty)) → NearBy o u v → u ≡ None → v ≡ None
  near_none u v no_args e = refl
  near_none u v (equal_args zs ws f) e = let g : Some zs ≡ None = e in cc

  near_some : (u v : Option (List Ty)) → NearBy o u v → (zs : List Ty) → u ≡ Some zs
      → (ws : List Ty) × (v ≡ Some ws) × ((xs : List Ty) → Both (Ways (Below o opaque)) (map (put (at xs)) ws) (map (put (at xs)) zs))
  near_some u v no_args zs e = let g : None ≡ Some zs = e in cc
  near_some u v (equal_args ys ws f) zs e =
      let g : Some ys ≡ Some zs = e in
      let i : ys ≡ zs = cc in
      (ws, refl, subst (λ z. (xs : List Ty) → Both (Ways (Below o opaque)) (map (put (at xs)) ws) (map (put (at xs)) z)) i f)

  -- equal arguments put in patterns
  patterns_ways : Lawful o → (ps : List Ty) → list_all is_pattern ps ≡ true → (as_ bs : List Ty) → Both (Ways (Below o opaque)) as_ bs → Both (Ways (Below o opaque)) bs as_
      → Both (Ways (Below o opaque)) (map (put (at as_)) ps) (map (put (at bs)) ps)
  patterns_ways law [] g as_ bs e f = both_end
  patterns_ways law (p ∷ ps) g as_ bs e f =
      let h = and_l (is_pattern p) (list_all is_pattern ps) g in
      both_more (put (at as_) p) (put (at bs) p) (map (put (at as_)) ps) (map (put (at bs)) ps)
      (put_equal o law p h as_ bs (equals_of o as_ bs e), put_equal o law p h bs as_ (equals_of o bs as_ f))
      (patterns_ways law ps (and_r (is_pattern p) (list_all is_pattern ps) g) as_ bs e f)

  -- the ancestors of a parent, with equal arguments put in
  above_near : Lawful o → (ys ws vs : List Ty) → list_all is_pattern vs ≡ true → ((xs : List Ty) → Both (Ways (Below o opaque)) (map (put (at xs)) ws) (map (put (at xs)) ys))
      → (xs : List Ty) → Both (Ways (Below o opaque)) (map (put (at xs)) (map (put (at ws)) vs)) (map (put (at xs)) (map (put (at ys)) vs))
  above_near law ys ws vs g f xs =
      let as_ = map (put (at xs)) ws in
      let bs = map (put (at xs)) ys in
      let r = patterns_ways law vs g as_ bs (f xs) (back as_ bs (f xs)) in
      subst (λ z. Both (Ways (Below o opaque)) z (map (put (at xs)) (map (put (at ys)) vs))) (sym (put_at-put xs ws vs))
      (subst (λ z. Both (Ways (Below o opaque)) (map (put (at as_)) vs) z) (sym (put_at-put xs ys vs)) r)
    where
      back : (as_ bs : List Ty) → Both (Ways (Below o opaque)) as_ bs → Both (Ways (Below o opaque)) bs as_
      back as_ bs both_end = both_end
      back as_ bs (both_more a b us ts p r) = both_more b a ts us (p.1, p.0) (back us ts r)

pub args-under : (ys : List Ty) (m : ℕ) (as_ : List Ancestor) → args_of m (map (put_under ys) as_) ≡ put_in ys (args_of m as_)
args-under ys m [] = refl
args-under ys m (a ∷ as_) = pick (nat_eq m a.name) (args-under ys m as_)
  where
    pick : (b : Bool) → args_of m (map (put_under ys) as_) ≡ put_in ys (args_of m as_)
        → cond b (Some (map (put (at ys)) a.args)) (args_of m (map (put_under ys) as_)) ≡ put_in ys (cond b (Some a.args) (args_of m as_))
    pick true e = refl
    pick false e = e

vars_same : (i : ℕ) (bs cs : List Bound) → length bs ≡ length cs → vars_from i bs ≡ vars_from i cs
vars_same i [] [] e = refl
vars_same i [] (c ∷ cs) e = absurd (omega arith)
vars_same i (b ∷ bs) [] e = absurd (omega arith)
vars_same i (b ∷ bs) (c ∷ cs) e = ap (λ z. W.Var i ∷ z) (vars_same (i + 1) bs cs (omega arith))

pub get_last : {A : Type 0} (ls : List A) (x d : A) (k : ℕ) → k ≡ length ls → get_or (ls ++ x ∷ []) k d ≡ x
get_last [] x d zero h = refl
get_last [] x d (suc k) h = absurd (omega arith)
get_last (l ∷ ls) x d zero h = absurd (omega arith)
get_last (l ∷ ls) x d (suc k) h = get_last ls x d k (omega arith)

pub get_past : {A : Type 0} (ls : List A) (x d : A) (k : ℕ) → length ls < k → get_or (ls ++ x ∷ []) k d ≡ d
get_past [] x d zero h = absurd (omega arith)
get_past [] x d (suc k) h = refl
get_past (l ∷ ls) x d zero h = absurd (omega arith)
get_past (l ∷ ls) x d (suc k) h = get_past ls x d k (omega arith)

pub order_of : (a b : ℕ) → (a < b) ⊎ ((a ≡ b) ⊎ (b < a))
order_of zero zero = inr (inl refl)
order_of zero (suc b) = inl (omega arith)
order_of (suc a) zero = inr (inr (omega arith))
order_of (suc a) (suc b) = elim (order_of a b) [ inl h ↦ inl (omega arith) | inr g ↦ elim g [ inl h ↦ inr (inl (omega arith)) | inr h ↦ inr (inr (omega arith)) ] ]

module _ (ds : List Decl) (h : Declared ds) (a b : Decl) (law : Lawful (table_with ds b)) (long : length a.params ≡ length b.params) (alike : Alike (table_with ds b) a b) where
  abbrev o : Table
  o = table_with ds b

  abbrev ls : List (List Ancestor)
  ls = lines_after [] ds

  patterns_in : (p j : ℕ) (vs : List Ty) → args_of j (get_or ls p []) ≡ Some vs → list_all is_pattern vs ≡ true
  unfolding table_of
  patterns_in p j vs e = (declared_lawful ds h).patterns p j vs e

  above : (j : ℕ) → Alike o a b → NearBy o (args_of j (line_above ls (out-Ty a.parent))) (args_of j (line_above ls (out-Ty b.parent)))
  above j (neither e f) = subst (λ z. NearBy o (args_of j z) (args_of j (line_above ls (out-Ty b.parent)))) (sym (e ls)) (subst (λ z. NearBy o None (args_of j z)) (sym (f ls)) no_args)
  above j (parents p ys ws e f g) =
      let L = get_or ls p [] in
      let x : args_of j (line_above ls (out-Ty a.parent)) ≡ put_in ys (args_of j L) = ap (λ z. args_of j (line_above ls z)) e ∙ args-under ys j L in
      let y : args_of j (line_above ls (out-Ty b.parent)) ≡ put_in ws (args_of j L) = ap (λ z. args_of j (line_above ls z)) f ∙ args-under ws j L in
      subst (λ z. NearBy o z (args_of j (line_above ls (out-Ty b.parent)))) (sym x) (subst (λ z. NearBy o (put_in ys (args_of j L)) z) (sym y) (go (args_of j L) refl))
    where
      go : (u : Option (List Ty)) → args_of j (get_or ls p []) ≡ u → NearBy o (put_in ys u) (put_in ws u)
      go None i = no_args
      go (Some vs) i = equal_args (map (put (at ys)) vs) (map (put (at ws)) vs) (above_near o law ys ws vs (patterns_in p j vs i) g)

  near_line : (k j : ℕ) → NearBy o (args_of j (get_or (ls ++ line_of ls a ∷ []) k [])) (args_of j (get_or (ls ++ line_of ls b ∷ []) k []))
  near_line k j = elim (order_of k (length ls)) [
    | inl lt ↦
        subst (λ z. NearBy o (args_of j z) (args_of j (get_or (ls ++ line_of ls b ∷ []) k []))) (sym (get_before ls (line_of ls a) [] k lt))
        (subst (λ z. NearBy o (args_of j (get_or ls k [])) (args_of j z)) (sym (get_before ls (line_of ls b) [] k lt)) (near_self o (args_of j (get_or ls k []))))
    | inr g ↦ elim g [
      | inl e ↦
          subst (λ z. NearBy o (args_of j z) (args_of j (get_or (ls ++ line_of ls b ∷ []) k []))) (sym (get_last ls (line_of ls a) [] k e))
          (subst (λ z. NearBy o (args_of j (line_of ls a)) (args_of j z)) (sym (get_last ls (line_of ls b) [] k e))
          (near_cond o (nat_eq j (length ls)) (vars_from 0 a.params) (vars_from 0 b.params) (args_of j (line_above ls (out-Ty a.parent))) (args_of j (line_above ls (out-Ty b.parent))) (vars_same 0 a.params b.params long) (above j alike)))
      | inr gt ↦
          subst (λ z. NearBy o (args_of j z) (args_of j (get_or (ls ++ line_of ls b ∷ []) k []))) (sym (get_past ls (line_of ls a) [] k gt))
          (subst (λ z. NearBy o None (args_of j z)) (sym (get_past ls (line_of ls b) [] k gt)) no_args)
    ]
  ]

  near_up : (k j : ℕ) → NearBy o (up_in (ds ++ a ∷ []) k j) (up_in (ds ++ b ∷ []) k j)
  near_up k j =
      subst (λ z. NearBy o (args_of j (get_or z k [])) (up_in (ds ++ b ∷ []) k j)) (sym (lines_snoc [] ds a))
      (subst (λ z. NearBy o (args_of j (get_or (ls ++ line_of ls a ∷ []) k [])) (args_of j (get_or z k []))) (sym (lines_snoc [] ds b)) (near_line k j))

  pub nears_next : Nears (table_with ds a) (table_with ds b)
  unfolding table_of
  nears_next = record {
    neither = λ k j u. near_none o (up_in (ds ++ a ∷ []) k j) (up_in (ds ++ b ∷ []) k j) (near_up k j) u;
    both = λ k j zs u. near_some o (up_in (ds ++ a ∷ []) k j) (up_in (ds ++ b ∷ []) k j) (near_up k j) zs u;
  }
