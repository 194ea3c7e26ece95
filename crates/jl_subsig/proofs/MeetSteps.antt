-- What the test of left parts against right parts finds out, form by form.
use Rattle.std.proofs.Common.{◌≡◌, ◌∙◌, sym, ap, subst, refl, ℕ, zero, suc, ◌<◌, ◌%◌, arith, Bool, true, false, nat_eq, List, [], ◌∷◌, map, length, get_or, None, Some, ◌⊎◌, inl, inr, Result, Ok, Err, IfOk}
use Rattle.std.specs.List.{list_all}
use Rattle.jl_model.specs.declared.ty.Ty.{Ty}
use Rattle.jl_model.specs.declared.ty.Ty.TheOpen.{Ty-F, Any, Union, Tuple, Nominal, Var}
use Rattle.jl_model.specs.declared.ty.Ty.TheViews.{out-Ty, outs-Any, outs-Union, outs-Tuple, outs-Nominal, outs-Var}
use Rattle.jl_model.specs.declared.ty.Ty.TheViews as V
use Rattle.jl_model.specs.declared.ty.Ty.TheVariants as W
use Rattle.jl_model.specs.declared.ty.Decl.{Decl}
use Rattle.jl_model.specs.declared.ty.Written.{Written}
use Rattle.jl_model.specs.Ancestors.{table_of}
use Rattle.jl_model.specs.Kinds.{diagonal, bound}
use Rattle.jl_model.specs.Rows.{width, kind, root}
use Rattle.jl_model.specs.Subtype.{Table, Fixed, put, at, lifted, Below, Equals, Equal, equals_end, equals_more}
use Rattle.jl_model.specs.Signature.{Both, both_end, both_more, Meets, Meet, any, tuple, nominal, same, atom, raise_tuple, raise_nominal, meet_end, meet_more, is_diagonal}
use Rattle.jl_model.specs.Normal.{IsNormal, AllNormal, any as normal_any, nominal as normal_nominal, none, more}
use Rattle.jl_model.specs.Refusals.{Declared}
use Rattle.jl_model.proofs.FormLemmas.{is_nominal, is_var, put-nominal, put-var}
use Rattle.jl_model.proofs.PutLemmas.{put-closed}
use Rattle.jl_model.proofs.SelfLemmas.{equal_self}
use Rattle.jl_model.proofs.NormalLemmas.{normal_same, equals_same, kids_nominal}
use Rattle.jl_model.proofs.AncestorLemmas.{Lawful}
use Rattle.jl_model.proofs.DeclaredLemmas.{declared_lawful}
use Rattle.jl_types.proofs.GroundLemmas.{Tells}
use Rattle.jl_model.specs.SigRefusals.{is_argument}
use Rattle.jl_model.specs.Found.{raised}
use Rattle.jl_search.proofs.KindLemmas.{is_diag}
use Rattle.jl_subsig.specs.Side.{lift_to, IsRightPart, AreRightParts, right_any, right_variable, right_tuple, right_nominal, right_end, right_more}
use Rattle.jl_search.specs.Serving.{IsPlace}
use Rattle.jl_search.specs.Open.{IsOpen, AreOpen, closed, variable, applied, open_end, open_more}
use Rattle.jl_subsig.proofs.RightLemmas.{arguments_of}
use Rattle.jl_subsig.proofs.LeftLemmas.{lifted_at}

pub ok_iff : {E : Type 0} (r : Result Bool E) (P Q : Type 0) → (P → Q) → (Q → P) → IfOk r (λ yes. Tells yes P) → IfOk r (λ yes. Tells yes Q)
ok_iff (Ok b) P Q f g h = ((λ y. f (h.0 y)), (λ q. h.1 (g q)))
ok_iff (Err e) P Q f g h = tt

module _ (n : Table) (g : Fixed) (s : Written) (f : ℕ → Ty) where
  abbrev pub M : Ty → Ty → Type 0
  M = Meets n g s f

  pub meet_both : (ts us : List Ty) → Meet n g s f ts us → Both M ts us
  meet_both ts us meet_end = both_end
  meet_both ts us (meet_more x y xs ys p q) = both_more x y xs ys p (meet_both xs ys q)

  pub both_meet : (ts us : List Ty) → Both M ts us → Meet n g s f ts us
  both_meet ts us both_end = meet_end
  both_meet ts us (both_more x y xs ys p q) = meet_more x y xs ys p (both_meet xs ys q)

  -- a type that is no variable meets a tuple or a nominal type by its own form
  still_tuple : (t u : Ty) (ys : List Ty) → ((v : ℕ) → out-Ty t ≡ Var v → ⊥) → out-Ty u ≡ Tuple ys → M t u → (xs : List Ty) × (out-Ty t ≡ Tuple xs) × Both M xs ys
  still_tuple t u ys k e (any t2 u2 i) = let h : Any ≡ Tuple ys = sym i ∙ e in cc
  still_tuple t u ys k e (tuple t2 u2 xs zs i j q) = let h : Tuple zs ≡ Tuple ys = sym j ∙ e in let w : zs ≡ ys = cc in (xs, i, subst (Both M xs) w (meet_both xs zs q))
  still_tuple t u ys k e (nominal t2 u2 a b xs zs ws i j o q) = let h : Nominal b ws ≡ Tuple ys = sym j ∙ e in cc
  still_tuple t u ys k e (same t2 u2 v j d q) = let h : Var v ≡ Tuple ys = sym j ∙ e in cc
  still_tuple t u ys k e (atom t2 u2 v j d q) = let h : Var v ≡ Tuple ys = sym j ∙ e in cc
  still_tuple t u ys k e (raise_tuple t2 u2 v zs i j q) = absurd (k v i)
  still_tuple t u ys k e (raise_nominal t2 u2 v b zs i j q) = absurd (k v i)

  still_nominal : (t u : Ty) (m : ℕ) (ys : List Ty) → ((v : ℕ) → out-Ty t ≡ Var v → ⊥) → out-Ty u ≡ Nominal m ys → M t u → (zs : List Ty) × (lift_to n m (out-Ty t) ≡ Some zs) × Equals n zs (map (put f) ys)
  still_nominal t u m ys k e (any t2 u2 i) = let h : Any ≡ Nominal m ys = sym i ∙ e in cc
  still_nominal t u m ys k e (tuple t2 u2 xs zs i j q) = let h : Tuple zs ≡ Nominal m ys = sym j ∙ e in cc
  still_nominal t u m ys k e (nominal t2 u2 a b xs zs ws i j o q) =
      let h : Nominal b ws ≡ Nominal m ys = sym j ∙ e in
      let x : b ≡ m = cc in
      let y : ws ≡ ys = cc in
      (zs, ap (lift_to n m) i ∙ ap (lifted n a xs) (sym x) ∙ o, subst (λ z. Equals n zs (map (put f) z)) y q)
  still_nominal t u m ys k e (same t2 u2 v j d q) = let h : Var v ≡ Nominal m ys = sym j ∙ e in cc
  still_nominal t u m ys k e (atom t2 u2 v j d q) = let h : Var v ≡ Nominal m ys = sym j ∙ e in cc
  still_nominal t u m ys k e (raise_tuple t2 u2 v zs i j q) = absurd (k v i)
  still_nominal t u m ys k e (raise_nominal t2 u2 v b zs i j q) = absurd (k v i)

  pub var_only : (t u : Ty) (v : ℕ) → out-Ty u ≡ Var v → M t u → ((kind s v ≡ diagonal) × Equal n t (f v)) ⊎ ((kind s (root s v) ≡ bound) × Below n g t (f (root s v)))
  var_only t u v e (any t2 u2 i) = let h : Any ≡ Var v = sym i ∙ e in cc
  var_only t u v e (tuple t2 u2 xs zs i j q) = let h : Tuple zs ≡ Var v = sym j ∙ e in cc
  var_only t u v e (nominal t2 u2 k p xs zs ws i j o q) = let h : Nominal p ws ≡ Var v = sym j ∙ e in cc
  var_only t u v e (same t2 u2 w j d q) =
      let h : Var w ≡ Var v = sym j ∙ e in
      let a : w ≡ v = cc in
      inl (subst (λ z. (kind s z ≡ diagonal) × Equal n t (f z)) a (d, q))
  var_only t u v e (atom t2 u2 w j d q) =
      let h : Var w ≡ Var v = sym j ∙ e in
      let a : w ≡ v = cc in
      inr (subst (λ z. (kind s (root s z) ≡ bound) × Below n g t (f (root s z))) a (d, q))
  var_only t u v e (raise_tuple t2 u2 w zs i j q) = let h : Tuple zs ≡ Var v = sym j ∙ e in cc
  var_only t u v e (raise_nominal t2 u2 w p zs i j q) = let h : Nominal p zs ≡ Var v = sym j ∙ e in cc

  -- upper bounds are no variables
  module _ (still : (k v : ℕ) → out-Ty (g.high k) ≡ Var v → ⊥) where
    by_raise_tuple : (t u : Ty) (v : ℕ) (ys : List Ty) → out-Ty t ≡ Var v → out-Ty u ≡ Tuple ys → M t u → M (g.high v) u
    by_raise_tuple t u v ys d e (any t2 u2 i) = let h : Any ≡ Tuple ys = sym i ∙ e in cc
    by_raise_tuple t u v ys d e (tuple t2 u2 xs zs i j q) = let h : Tuple xs ≡ Var v = sym i ∙ d in cc
    by_raise_tuple t u v ys d e (nominal t2 u2 a b xs zs ws i j o q) = let h : Nominal a xs ≡ Var v = sym i ∙ d in cc
    by_raise_tuple t u v ys d e (same t2 u2 w j c q) = let h : Var w ≡ Tuple ys = sym j ∙ e in cc
    by_raise_tuple t u v ys d e (atom t2 u2 w j c q) = let h : Var w ≡ Tuple ys = sym j ∙ e in cc
    by_raise_tuple t u v ys d e (raise_tuple t2 u2 w zs i j q) = let h : Var w ≡ Var v = sym i ∙ d in let x : w ≡ v = cc in subst (λ z. M (g.high z) u) x q
    by_raise_tuple t u v ys d e (raise_nominal t2 u2 w b zs i j q) = let h : Nominal b zs ≡ Tuple ys = sym j ∙ e in cc

    by_raise_nominal : (t u : Ty) (v m : ℕ) (ys : List Ty) → out-Ty t ≡ Var v → out-Ty u ≡ Nominal m ys → M t u → M (g.high v) u
    by_raise_nominal t u v m ys d e (any t2 u2 i) = let h : Any ≡ Nominal m ys = sym i ∙ e in cc
    by_raise_nominal t u v m ys d e (tuple t2 u2 xs zs i j q) = let h : Tuple xs ≡ Var v = sym i ∙ d in cc
    by_raise_nominal t u v m ys d e (nominal t2 u2 a b xs zs ws i j o q) = let h : Nominal a xs ≡ Var v = sym i ∙ d in cc
    by_raise_nominal t u v m ys d e (same t2 u2 w j c q) = let h : Var w ≡ Nominal m ys = sym j ∙ e in cc
    by_raise_nominal t u v m ys d e (atom t2 u2 w j c q) = let h : Var w ≡ Nominal m ys = sym j ∙ e in cc
    by_raise_nominal t u v m ys d e (raise_tuple t2 u2 w zs i j q) = let h : Tuple zs ≡ Nominal m ys = sym j ∙ e in cc
    by_raise_nominal t u v m ys d e (raise_nominal t2 u2 w b zs i j q) = let h : Var w ≡ Var v = sym i ∙ d in let x : w ≡ v = cc in subst (λ z. M (g.high z) u) x q

    tuple_from : (t u : Ty) (ys : List Ty) (x : Ty-F Ty) → out-Ty t ≡ x → out-Ty u ≡ Tuple ys → M t u → (xs : List Ty) × (raised g x ≡ Tuple xs) × Both M xs ys
    tuple_from t u ys (Var v) d e m = still_tuple (g.high v) u ys (still v) e (by_raise_tuple t u v ys d e m)
    tuple_from t u ys Any d e m = let r = still_tuple t u ys (λ v o. (let h : Any ≡ Var v = sym d ∙ o in cc)) e m in (r.0, sym d ∙ r.1, r.2)
    tuple_from t u ys (Union ts) d e m = let r = still_tuple t u ys (λ v o. (let h : Union ts ≡ Var v = sym d ∙ o in cc)) e m in (r.0, sym d ∙ r.1, r.2)
    tuple_from t u ys (Tuple ts) d e m = let r = still_tuple t u ys (λ v o. (let h : Tuple ts ≡ Var v = sym d ∙ o in cc)) e m in (r.0, sym d ∙ r.1, r.2)
    tuple_from t u ys (Nominal k ts) d e m = let r = still_tuple t u ys (λ v o. (let h : Nominal k ts ≡ Var v = sym d ∙ o in cc)) e m in (r.0, sym d ∙ r.1, r.2)

    to_tuple : (t u : Ty) (xs ys : List Ty) (x : Ty-F Ty) → out-Ty t ≡ x → out-Ty u ≡ Tuple ys → raised g x ≡ Tuple xs → Both M xs ys → M t u
    to_tuple t u xs ys (Var v) d e r b = raise_tuple t u v ys d e (tuple (g.high v) u xs ys r e (both_meet xs ys b))
    to_tuple t u xs ys Any d e r b = let h : Any ≡ Tuple xs = r in cc
    to_tuple t u xs ys (Union ts) d e r b = let h : Union ts ≡ Tuple xs = r in cc
    to_tuple t u xs ys (Tuple ts) d e r b = tuple t u xs ys (d ∙ r) e (both_meet xs ys b)
    to_tuple t u xs ys (Nominal k ts) d e r b = let h : Nominal k ts ≡ Tuple xs = r in cc

    nominal_from : (t u : Ty) (m : ℕ) (ys : List Ty) (x : Ty-F Ty) → out-Ty t ≡ x → out-Ty u ≡ Nominal m ys → M t u → (zs : List Ty) × (lift_to n m (raised g x) ≡ Some zs) × Equals n zs (map (put f) ys)
    nominal_from t u m ys (Var v) d e b = still_nominal (g.high v) u m ys (still v) e (by_raise_nominal t u v m ys d e b)
    nominal_from t u m ys Any d e b = let r = still_nominal t u m ys (λ v o. (let h : Any ≡ Var v = sym d ∙ o in cc)) e b in (r.0, ap (lift_to n m) (sym d) ∙ r.1, r.2)
    nominal_from t u m ys (Union ts) d e b = let r = still_nominal t u m ys (λ v o. (let h : Union ts ≡ Var v = sym d ∙ o in cc)) e b in (r.0, ap (lift_to n m) (sym d) ∙ r.1, r.2)
    nominal_from t u m ys (Tuple ts) d e b = let r = still_nominal t u m ys (λ v o. (let h : Tuple ts ≡ Var v = sym d ∙ o in cc)) e b in (r.0, ap (lift_to n m) (sym d) ∙ r.1, r.2)
    nominal_from t u m ys (Nominal k ts) d e b = let r = still_nominal t u m ys (λ v o. (let h : Nominal k ts ≡ Var v = sym d ∙ o in cc)) e b in (r.0, ap (lift_to n m) (sym d) ∙ r.1, r.2)

    lifts_by : (t u : Ty) (m : ℕ) (zs ys : List Ty) (x : Ty-F Ty) → out-Ty t ≡ x → out-Ty u ≡ Nominal m ys → lift_to n m x ≡ Some zs → Equals n zs (map (put f) ys) → M t u
    lifts_by t u m zs ys Any d e l q = let h : None ≡ Some zs = l in cc
    lifts_by t u m zs ys (Union ts) d e l q = let h : None ≡ Some zs = l in cc
    lifts_by t u m zs ys (Tuple ts) d e l q = let h : None ≡ Some zs = l in cc
    lifts_by t u m zs ys (Var v) d e l q = let h : None ≡ Some zs = l in cc
    lifts_by t u m zs ys (Nominal k xs) d e l q = nominal t u k m xs zs ys d e l q

    to_nominal : (t u : Ty) (m : ℕ) (zs ys : List Ty) (x : Ty-F Ty) → out-Ty t ≡ x → out-Ty u ≡ Nominal m ys → lift_to n m (raised g x) ≡ Some zs → Equals n zs (map (put f) ys) → M t u
    to_nominal t u m zs ys (Var v) d e l q = raise_nominal t u v m ys d e (lifts_by (g.high v) u m zs ys (out-Ty (g.high v)) refl e l q)
    to_nominal t u m zs ys Any d e l q = lifts_by t u m zs ys Any d e l q
    to_nominal t u m zs ys (Union ts) d e l q = lifts_by t u m zs ys (Union ts) d e l q
    to_nominal t u m zs ys (Tuple ts) d e l q = lifts_by t u m zs ys (Tuple ts) d e l q
    to_nominal t u m zs ys (Nominal k xs) d e l q = lifts_by t u m zs ys (Nominal k xs) d e l q

    -- the steps
    pub any_step : (t u : Ty) → u ≡ W.Any → Tells true (M t u)
    any_step t u e = ((λ h. any t u (ap out-Ty e ∙ outs-Any)), (λ m. refl))

    pub tuple_step : {E : Type 0} (r : Result Bool E) (t u : Ty) (xs ys ws : List Ty) → raised g (out-Ty t) ≡ Tuple xs → u ≡ V.Tuple ys → ws ≡ ys → IfOk r (λ yes. Tells yes (Both M xs ws)) → IfOk r (λ yes. Tells yes (M t u))
    tuple_step r t u xs ys ws d e q h =
        let o : out-Ty u ≡ Tuple ys = ap out-Ty e ∙ outs-Tuple ys in
        ok_iff r (Both M xs ws) (M t u) (λ b. to_tuple t u xs ys (out-Ty t) refl o d (subst (Both M xs) q b))
        (λ m.
        let k = tuple_from t u ys (out-Ty t) refl o m in
        let i : Tuple k.0 ≡ Tuple xs = sym k.1 ∙ d in
        let j : k.0 ≡ xs = cc in
        subst (Both M xs) (sym q) (subst (λ z. Both M z ys) j k.2)) h

    pub no_tuple_step : (t u : Ty) (ys : List Ty) → u ≡ V.Tuple ys → ((xs : List Ty) → raised g (out-Ty t) ≡ Tuple xs → ⊥) → Tells false (M t u)
    no_tuple_step t u ys e h = ((λ x. let c : false ≡ true = x in cc), (λ m. let k = tuple_from t u ys (out-Ty t) refl (ap out-Ty e ∙ outs-Tuple ys) m in absurd (h k.0 k.1)))

    pub no_nominal_step : (t u : Ty) (m : ℕ) (ys : List Ty) → u ≡ V.Nominal m ys → None ≡ lift_to n m (raised g (out-Ty t)) → Tells false (M t u)
    no_nominal_step t u m ys e h = (
      (λ x. let c : false ≡ true = x in cc),
      (λ b. let k = nominal_from t u m ys (out-Ty t) refl (ap out-Ty e ∙ outs-Nominal m ys) b in let i : None ≡ Some k.0 = h ∙ k.1 in cc),
    )

equals_self : (n : Table) (xs : List Ty) → Equals n xs xs
equals_self n [] = equals_end
equals_self n (x ∷ xs) = let e = equal_self n x in equals_more x x xs xs e.0 e.1 (equals_self n xs)

-- types put in arguments
module _ (n : Table) (law : Lawful n) (vs : List Ty) (normal : (v : ℕ) → IsNormal n (at vs v)) where
  normal_head : (t : Ty) (ts : List Ty) → AllNormal n (t ∷ ts) → IsNormal n t
  normal_head t ts (more a b p q) = p

  normal_tail : (t : Ty) (ts : List Ty) → AllNormal n (t ∷ ts) → AllNormal n ts
  normal_tail t ts (more a b p q) = q

  mutual
    put_normal : (u : Ty) → IsOpen u → IsNormal n u → IsNormal n (put (at vs) u)
    put_normal u (closed t e) h = subst (IsNormal n) (sym (put-closed (at vs) u e)) h
    put_normal u (variable t v o) h = subst (IsNormal n) (sym (ap (put (at vs)) (is_var u v o) ∙ put-var (at vs) v)) (normal v)
    put_normal u (applied t k us o a) h =
        let ws = map (put (at vs)) us in
        subst (IsNormal n) (sym (ap (put (at vs)) (is_nominal u k us o) ∙ put-nominal (at vs) k us)) (normal_nominal (V.Nominal k ws) k ws (outs-Nominal k ws) (put_normals us a (kids_nominal n law u k us h o)))

    pub put_normals : (us : List Ty) → AreOpen us → AllNormal n us → AllNormal n (map (put (at vs)) us)
    put_normals us open_end h = none
    put_normals us (open_more u ws p q) h = more (put (at vs) u) (map (put (at vs)) ws) (put_normal u p (normal_head u ws h)) (put_normals ws q (normal_tail u ws h))

-- the parts of a right part
pub right_parts : (n : Table) (s : Written) (u : Ty) (us vs : List Ty) → u ≡ V.Tuple us → vs ≡ us → IsRightPart n s u → AreRightParts n s vs
right_parts n s u us vs e f h = subst (AreRightParts n s) (sym f) (go h)
  where
    o : out-Ty u ≡ Tuple us
    o = ap out-Ty e ∙ outs-Tuple us

    go : IsRightPart n s u → AreRightParts n s us
    go (right_any t i) = let c : Any ≡ Tuple us = sym i ∙ o in cc
    go (right_variable t v i p) = let c : Var v ≡ Tuple us = sym i ∙ o in cc
    go (right_tuple t ts i p) = let c : Tuple ts ≡ Tuple us = sym i ∙ o in let j : ts ≡ us = cc in subst (AreRightParts n s) j p
    go (right_nominal t k ts i p q) = let c : Nominal k ts ≡ Tuple us = sym i ∙ o in cc

pub right_arguments : (n : Table) (s : Written) (u : Ty) (k : ℕ) (us : List Ty) → u ≡ V.Nominal k us → IsRightPart n s u → AllNormal n us × (list_all is_argument us ≡ true)
right_arguments n s u k us e h = go h
  where
    o : out-Ty u ≡ Nominal k us
    o = ap out-Ty e ∙ outs-Nominal k us

    go : IsRightPart n s u → AllNormal n us × (list_all is_argument us ≡ true)
    go (right_any t i) = let c : Any ≡ Nominal k us = sym i ∙ o in cc
    go (right_variable t v i p) = let c : Var v ≡ Nominal k us = sym i ∙ o in cc
    go (right_tuple t ts i p) = let c : Tuple ts ≡ Nominal k us = sym i ∙ o in cc
    go (right_nominal t m ts i p q) = let c : Nominal m ts ≡ Nominal k us = sym i ∙ o in let j : ts ≡ us = cc in (subst (AllNormal n) j p, subst (λ z. list_all is_argument z ≡ true) j q)

pub right_place : (n : Table) (s : Written) (u : Ty) (w : ℕ) → u ≡ W.Var w → IsRightPart n s u → IsPlace s w
right_place n s u w e h = go h
  where
    o : out-Ty u ≡ Var w
    o = ap out-Ty e ∙ outs-Var w

    go : IsRightPart n s u → IsPlace s w
    go (right_any t i) = let c : Any ≡ Var w = sym i ∙ o in cc
    go (right_variable t v i p) = let c : Var v ≡ Var w = sym i ∙ o in let j : v ≡ w = cc in subst (IsPlace s) j p
    go (right_tuple t ts i p) = let c : Tuple ts ≡ Var w = sym i ∙ o in cc
    go (right_nominal t k ts i p q) = let c : Nominal k ts ≡ Var w = sym i ∙ o in cc

pub no_right_union : (n : Table) (s : Written) (u : Ty) (us : List Ty) → u ≡ V.Union us → IsRightPart n s u → ⊥
no_right_union n s u us e h = go h
  where
    o : out-Ty u ≡ Union us
    o = ap out-Ty e ∙ outs-Union us

    go : IsRightPart n s u → ⊥
    go (right_any t i) = let c : Any ≡ Union us = sym i ∙ o in cc
    go (right_variable t v i p) = let c : Var v ≡ Union us = sym i ∙ o in cc
    go (right_tuple t ts i p) = let c : Tuple ts ≡ Union us = sym i ∙ o in cc
    go (right_nominal t k ts i p q) = let c : Nominal k ts ≡ Union us = sym i ∙ o in cc

pub right-at : (n : Table) (s : Written) (us : List Ty) (i : ℕ) (u : Ty) → AreRightParts n s us → i < length us → u ≡ get_or us i u → IsRightPart n s u
right-at n s us i u right_end l e = absurd (omega arith)
right-at n s us zero u (right_more t ts p q) l e = subst (IsRightPart n s) (sym e) p
right-at n s us (suc i) u (right_more t ts p q) l e = right-at n s ts i u q (omega arith) e

module _ (ds : List Decl) (declared : Declared ds) (g : Fixed) (s : Written) (vs : List Ty) where
  abbrev o : Table
  o = table_of ds

  -- the arguments of the ancestor are those of the part
  pub nominal_step : (still : (k v : ℕ) → out-Ty (g.high k) ≡ Var v → ⊥) → (t u : Ty) (m : ℕ) (ys ws zs : List Ty) (x : Bool) → ((v : ℕ) → IsNormal o (at vs v)) → IsRightPart o s u → AllNormal o zs → u ≡ V.Nominal m ys
      → Some zs ≡ lift_to o m (raised g (out-Ty t)) → ws ≡ ys → Tells x (map (put (at vs)) ws ≡ zs) → Tells x (Meets o g s (at vs) t u)
  nominal_step still t u m ys ws zs x normal part lifts e l p h =
      let law = declared_lawful ds declared in
      let b : out-Ty u ≡ Nominal m ys = ap out-Ty e ∙ outs-Nominal m ys in
      let q = right_arguments o s u m ys e part in
      let puts : AllNormal o (map (put (at vs)) ys) = put_normals o law vs normal ys (arguments_of ys q.1) q.0 in (
        (λ y.
            let z : zs ≡ map (put (at vs)) ys = sym (h.0 y) ∙ ap (map (put (at vs))) p in
            to_nominal o g s (at vs) still t u m zs ys (out-Ty t) refl b (sym l) (subst (Equals o zs) z (equals_self o zs))),
        (λ k.
            let w = nominal_from o g s (at vs) still t u m ys (out-Ty t) refl b k in
            let j : Some zs ≡ Some w.0 = l ∙ w.1 in
            let i : w.0 ≡ zs = cc in
            let eq : Equals o zs (map (put (at vs)) ys) = subst (λ z. Equals o z (map (put (at vs)) ys)) i w.2 in
            h.1 (ap (map (put (at vs))) p ∙ sym (equals_same o law zs (map (put (at vs)) ys) lifts puts eq))),
      )

  -- a variable or an atom
  module _ (t u : Ty) (w k : ℕ) (value : Ty) (r : Bool) (e : u ≡ W.Var w) (i : k ≡ root s w) (v : value ≡ at vs k) where
    out_is : out-Ty u ≡ Var w
    out_is = ap out-Ty e ∙ outs-Var w

    diagonal_case : IsNormal o t → IsNormal o value → kind s w ≡ diagonal → root s w ≡ w → Tells r (t ≡ value) → Tells r (Meets o g s (at vs) t u)
    diagonal_case left right d own h =
        let z : value ≡ at vs w = v ∙ ap (at vs) (i ∙ own) in (
          (λ y. same t u w out_is d (subst (Equal o t) (h.0 y ∙ z) (equal_self o t))),
          (λ m. elim (var_only o g s (at vs) t u w out_is m) [
            | inl q ↦ h.1 (normal_same o (declared_lawful ds declared) t left value right (subst (Equal o t) (sym z) q.1))
            | inr q ↦ let c : diagonal ≡ bound = sym d ∙ ap (kind s) (sym own) ∙ q.0 in cc
          ]),
        )

    atom_case : kind s (root s w) ≡ bound → (kind s w ≡ diagonal → ⊥) → Tells r (Below o g t value) → Tells r (Meets o g s (at vs) t u)
    atom_case d other h =
        let z : value ≡ at vs (root s w) = v ∙ ap (at vs) i in (
          (λ y. atom t u w out_is d (subst (Below o g t) z (h.0 y))),
          (λ m. elim (var_only o g s (at vs) t u w out_is m) [
            | inl q ↦ absurd (other q.0)
            | inr q ↦ h.1 (subst (Below o g t) (sym z) q.1)
          ]),
        )

    pub variable_step : (b : Bool) → IsPlace s w → b ≡ is_diagonal (kind s k) → IsNormal o t → IsNormal o value → (b ≡ true → Tells r (t ≡ value)) → (b ≡ false → Tells r (Below o g t value)) → Tells r (Meets o g s (at vs) t u)
    variable_step true place c left right f h = elim place.1 [
      | inl q ↦ diagonal_case left right q.0 q.1 (f refl)
      | inr q ↦ let d : kind s (root s w) ≡ diagonal = ap (kind s) (sym i) ∙ is_diag (kind s k) (sym c) in let x : diagonal ≡ bound = sym d ∙ q.0 in cc
    ]
    variable_step false place c left right f h = elim place.1 [
      | inl q ↦ let d : kind s k ≡ diagonal = ap (kind s) (i ∙ q.1) ∙ q.0 in let x : false ≡ true = c ∙ ap is_diagonal d in cc
      | inr q ↦ atom_case q.0 q.1 (h refl)
    ]

pub root_low : (s : Written) (vs : List Ty) (w : ℕ) → length vs ≡ width s → root s w < width s → w % length vs < length vs
root_low s vs w e h = subst (λ z. w % z < z) (sym e) h

pub root_below : (s : Written) (vs : List Ty) (w : ℕ) → length vs ≡ width s → root s w < width s → w % length vs < width s
root_below s vs w e h = subst (λ z. w % z < width s) (sym e) h

-- the arguments of an ancestor of a left part
pub lifts_normal : (ds : List Decl) → Declared ds → (m : ℕ) (x : Ty-F Ty) (zs : List Ty) → ((k : ℕ) (xs : List Ty) → x ≡ Nominal k xs → AllNormal (table_of ds) xs) → Some zs ≡ lift_to (table_of ds) m x → AllNormal (table_of ds) zs
lifts_normal ds h m Any zs f e = let c : Some zs ≡ None = e in cc
lifts_normal ds h m (Union ts) zs f e = let c : Some zs ≡ None = e in cc
lifts_normal ds h m (Tuple ts) zs f e = let c : Some zs ≡ None = e in cc
lifts_normal ds h m (Var v) zs f e = let c : Some zs ≡ None = e in cc
lifts_normal ds h m (Nominal k xs) zs f e = (lifted_at ds h k m xs zs (nat_eq k m) refl (f k xs refl) (sym e)).0

pub all_normal : (n : Table) (m : ℕ) (vs : List Ty) → length vs ≡ m → ((v : ℕ) → v < m → IsNormal n (at vs v)) → (v : ℕ) → IsNormal n (at vs v)
all_normal n m vs e h v = by_place vs v (λ w l. h w (subst (λ z. w < z) e l))
  where
    by_place : (vs : List Ty) (v : ℕ) → ((w : ℕ) → w < length vs → IsNormal n (at vs w)) → IsNormal n (at vs v)
    by_place [] v h = normal_any W.Any outs-Any
    by_place (t ∷ ts) zero h = h 0 (omega arith)
    by_place (t ∷ ts) (suc v) h = by_place ts v (λ w l. h (suc w) (omega (arith, l)))
