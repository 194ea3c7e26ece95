-- Tables that agree on the types below a number have the same order, and the same normal forms, of types over these.
use Rattle.std.proofs.Common.{◌≡◌, ◌∙◌, sym, ap, subst, refl, ℕ, zero, suc, ◌<◌, arith, Bool, true, false, ◌&&◌, cond, nat_eq, nat_lt, List, [], ◌∷◌, ◌++◌, map, Option, None, Some, ◌⊎◌, inl, inr}
use Rattle.std.specs.List.{flat_map, list_all}
use Rattle.jl_model.specs.declared.ty.Ty.{Ty}
use Rattle.jl_model.specs.declared.ty.Ty.TheOpen.{Any, Union, Tuple, Nominal, Var}
use Rattle.jl_model.specs.declared.ty.Ty.TheViews.{out-Ty, roll-Ty, rolls-Any, rolls-Union, rolls-Tuple, rolls-Nominal, rolls-Var}
use Rattle.jl_model.specs.declared.ty.Ty.TheViews as V
use Rattle.jl_model.specs.declared.ty.Ty.TheVariants as W
use Rattle.jl_model.specs.declared.ty.Ty.TheFolds.{fold-roll-Ty}
use Rattle.jl_model.specs.Rows.{alts, choices}
use Rattle.jl_model.specs.Signature.{Both, both_end, both_more}
use Rattle.jl_model.specs.Subtype.{Table, opaque, put, at, put_in, lifted, Below}
use Rattle.jl_model.specs.Valid.{names_in, names_step, is_known}
use Rattle.jl_model.specs.Normal.{Leads, Members, IsNormal, AllNormal, any, var, nominal, tuple, union, none, more}
use Rattle.jl_model.proofs.TypeInduction.{Each, by_cases}
use Rattle.jl_model.proofs.FormLemmas.{is_union, is_tuple, is_nominal, flat_of, alts-any, alts-var, alts-union, alts-tuple, alts-nominal, put-any, put-union, put-tuple, put-nominal, put-var}
use Rattle.jl_model.proofs.PutLemmas.{and_l, and_r, both_true}
use Rattle.jl_model.proofs.AncestorLemmas.{IsKeptByPut, each_true, true_each}
use Rattle.jl_model.proofs.HeightLemmas.{SomeBy, this, that, CoverBy, nothing, another, Ways, PartBy, by_any, by_tuple, by_nominal, by_self, BelowAt, high, back}

names-any : names_in W.Any ≡ []
names-any = ap names_in (sym rolls-Any) ∙ fold-roll-Ty (List ℕ) names_step Any

names-var : (v : ℕ) → names_in (W.Var v) ≡ []
names-var v = ap names_in (sym (rolls-Var v)) ∙ fold-roll-Ty (List ℕ) names_step (Var v)

names-union : (ts : List Ty) → names_in (V.Union ts) ≡ flat_map names_in ts
names-union ts = ap names_in (sym (rolls-Union ts)) ∙ fold-roll-Ty (List ℕ) names_step (Union ts) ∙ flat_of names_in ts

names-tuple : (ts : List Ty) → names_in (V.Tuple ts) ≡ flat_map names_in ts
names-tuple ts = ap names_in (sym (rolls-Tuple ts)) ∙ fold-roll-Ty (List ℕ) names_step (Tuple ts) ∙ flat_of names_in ts

names-nominal : (k : ℕ) (ts : List Ty) → names_in (V.Nominal k ts) ≡ k ∷ flat_map names_in ts
names-nominal k ts = ap names_in (sym (rolls-Nominal k ts)) ∙ fold-roll-Ty (List ℕ) names_step (Nominal k ts) ∙ ap (λ ks. k ∷ ks) (flat_of names_in ts)

all_append : (p : ℕ → Bool) (ks js : List ℕ) → list_all p (ks ++ js) ≡ (list_all p ks && list_all p js)
all_append p [] js = refl
all_append p (k ∷ ks) js = ap (λ b. p k && b) (all_append p ks js) ∙ and_assoc (p k) (list_all p ks) (list_all p js)
  where
    and_assoc : (a b c : Bool) → (a && (b && c)) ≡ ((a && b) && c)
    and_assoc true b c = refl
    and_assoc false b c = refl

module _ (m : ℕ) where
  abbrev pub Known : Ty → Type 0
  Known t = is_known m t ≡ true

  abbrev below_m : ℕ → Bool
  below_m k = nat_lt k m

  all_flat : (ts : List Ty) → list_all below_m (flat_map names_in ts) ≡ list_all (is_known m) ts
  all_flat [] = refl
  all_flat (t ∷ ts) = all_append below_m (names_in t) (flat_map names_in ts) ∙ ap (λ b. is_known m t && b) (all_flat ts)

  pub known-any : Known W.Any
  known-any = ap (list_all below_m) names-any

  pub known-var : (v : ℕ) → Known (W.Var v)
  known-var v = ap (list_all below_m) (names-var v)

  pub known-union : (ts : List Ty) → is_known m (V.Union ts) ≡ list_all (is_known m) ts
  known-union ts = ap (list_all below_m) (names-union ts) ∙ all_flat ts

  pub known-tuple : (ts : List Ty) → is_known m (V.Tuple ts) ≡ list_all (is_known m) ts
  known-tuple ts = ap (list_all below_m) (names-tuple ts) ∙ all_flat ts

  pub known-nominal : (k : ℕ) (ts : List Ty) → is_known m (V.Nominal k ts) ≡ (nat_lt k m && list_all (is_known m) ts)
  known-nominal k ts = ap (list_all below_m) (names-nominal k ts) ∙ ap (λ b. nat_lt k m && b) (all_flat ts)

  -- the parts
  pub union_known : (ts : List Ty) → Known (V.Union ts) → Each Known ts
  union_known ts h = true_each (is_known m) ts (sym (known-union ts) ∙ h)

  pub tuple_known : (ts : List Ty) → Known (V.Tuple ts) → Each Known ts
  tuple_known ts h = true_each (is_known m) ts (sym (known-tuple ts) ∙ h)

  pub nominal_known : (k : ℕ) (ts : List Ty) → Known (V.Nominal k ts) → (k < m) × Each Known ts
  nominal_known k ts h =
      let g : (nat_lt k m && list_all (is_known m) ts) ≡ true = sym (known-nominal k ts) ∙ h in
      let lt : nat_lt k m ≡ true = and_l (nat_lt k m) (list_all (is_known m) ts) g in
      (grind (arith, lt), true_each (is_known m) ts (and_r (nat_lt k m) (list_all (is_known m) ts) g))

  pub known_union : (ts : List Ty) → Each Known ts → Known (V.Union ts)
  known_union ts e = known-union ts ∙ each_true (is_known m) ts e

  pub known_tuple : (ts : List Ty) → Each Known ts → Known (V.Tuple ts)
  known_tuple ts e = known-tuple ts ∙ each_true (is_known m) ts e

  pub known_nominal : (k : ℕ) (ts : List Ty) → nat_lt k m ≡ true → Each Known ts → Known (V.Nominal k ts)
  known_nominal k ts h e = known-nominal k ts ∙ both_true (nat_lt k m) (list_all (is_known m) ts) h (each_true (is_known m) ts e)

  -- types put in
  at_known : (ys : List Ty) (v : ℕ) → Each Known ys → Known (at ys v)
  at_known [] v e = known-any
  at_known (y ∷ ys) zero e = e.0
  at_known (y ∷ ys) (suc v) e = at_known ys v e.1

  put_each : (ys ts : List Ty) → Each (λ t. Known t → Known (put (at ys) t)) ts → Each Known ts → Each Known (map (put (at ys)) ts)
  put_each ys [] h e = tt
  put_each ys (t ∷ ts) h e = (h.0 e.0, put_each ys ts h.1 e.1)

  put_known : (ys : List Ty) → Each Known ys → (t : Ty) → Known t → Known (put (at ys) t)
  put_known ys e = by_cases (λ t. Known t → Known (put (at ys) t)) (record {
    any = λ h. ap (is_known m) (put-any (at ys)) ∙ h;
    union = λ ts f h. ap (is_known m) (put-union (at ys) ts) ∙ known_union (map (put (at ys)) ts) (put_each ys ts f (union_known ts h));
    tuple = λ ts f h. ap (is_known m) (put-tuple (at ys) ts) ∙ known_tuple (map (put (at ys)) ts) (put_each ys ts f (tuple_known ts h));
    nominal = λ k ts f h. ap (is_known m) (put-nominal (at ys) k ts)
        ∙ known_nominal k (map (put (at ys)) ts) (and_l (nat_lt k m) (list_all (is_known m) ts) (sym (known-nominal k ts) ∙ h)) (put_each ys ts f (nominal_known k ts h).1);
    var = λ v h. ap (is_known m) (put-var (at ys) v) ∙ at_known ys v e;
  })

  pub known_kept : IsKeptByPut Known
  known_kept = record { variable = known-var; puts = put_known }

  pub put_all_known : (ys : List Ty) → Each Known ys → (ts : List Ty) → Each Known ts → Each Known (map (put (at ys)) ts)
  put_all_known ys e [] f = tt
  put_all_known ys e (t ∷ ts) f = (put_known ys e t f.0, put_all_known ys e ts f.1)

  -- alternatives
  append : (ts us : List Ty) → Each Known ts → Each Known us → Each Known (ts ++ us)
  append [] us e f = f
  append (t ∷ ts) us e f = (e.0, append ts us e.1 f)

  abbrev AltsKnown : Ty → Type 0
  AltsKnown t = Known t → Each Known (alts t)

  flat : (ts : List Ty) → Each AltsKnown ts → Each Known ts → Each Known (flat_map alts ts)
  flat [] e h = tt
  flat (t ∷ ts) e h = append (alts t) (flat_map alts ts) (e.0 h.0) (flat ts e.1 h.1)

  abbrev EachList : List (List Ty) → Type 0
  EachList [] = Unit {0}
  EachList (ts ∷ tss) = Each Known ts × EachList tss

  lists_append : (ss ts : List (List Ty)) → EachList ss → EachList ts → EachList (ss ++ ts)
  lists_append [] ts e f = f
  lists_append (s ∷ ss) ts e f = (e.0, lists_append ss ts e.1 f)

  lists_cons : (a : Ty) (tss : List (List Ty)) → Known a → EachList tss → EachList (map (λ us. a ∷ us) tss)
  lists_cons a [] f e = tt
  lists_cons a (ts ∷ tss) f e = ((f, e.0), lists_cons a tss f e.1)

  lists_first : (ss : List Ty) (tss : List (List Ty)) → Each Known ss → EachList tss → EachList (flat_map (λ t. map (λ us. t ∷ us) tss) ss)
  lists_first [] tss e f = tt
  lists_first (a ∷ ss) tss e f = lists_append (map (λ us. a ∷ us) tss) (flat_map (λ t. map (λ us. t ∷ us) tss) ss) (lists_cons a tss e.0 f) (lists_first ss tss e.1 f)

  lists : (ts : List Ty) → Each AltsKnown ts → Each Known ts → EachList (choices (map alts ts))
  lists [] e h = (tt, tt)
  lists (t ∷ ts) e h = lists_first (alts t) (choices (map alts ts)) (e.0 h.0) (lists ts e.1 h.1)

  tuples : (tss : List (List Ty)) → EachList tss → Each Known (map (λ us. V.Tuple us) tss)
  tuples [] e = tt
  tuples (us ∷ tss) e = (known_tuple us e.0, tuples tss e.1)

  pub alts_known : (t : Ty) → Known t → Each Known (alts t)
  alts_known = by_cases AltsKnown (record {
    any = λ h. subst (Each Known) (sym alts-any) (h, tt);
    union = λ ts e h. subst (Each Known) (sym (alts-union ts)) (flat ts e (union_known ts h));
    tuple = λ ts e h. subst (Each Known) (sym (alts-tuple ts)) (tuples (choices (map alts ts)) (lists ts e (tuple_known ts h)));
    nominal = λ k ts e h. subst (Each Known) (sym (alts-nominal k ts)) (h, tt);
    var = λ v h. subst (Each Known) (sym (alts-var v)) (h, tt);
  })

-- two tables have the same ancestors of the types below m, over such types
pub record Agree (n o : Table) (m : ℕ) : Type 0 where
  pub same : (k j : ℕ) → k < m → n.up k j ≡ o.up k j
  pub known : (k j : ℕ) (xs : List Ty) → k < m → n.up k j ≡ Some xs → Each (Known m) xs

pub agree_back : (n o : Table) (m : ℕ) → Agree n o m → Agree o n m
agree_back n o m a = record {
  same = λ k j l. sym (a.same k j l);
  known = λ k j xs l u. a.known k j xs l (a.same k j l ∙ u);
}

module _ (n o : Table) (m : ℕ) (agree : Agree n o m) where
  abbrev K : Ty → Type 0
  K = Known m

  lifted_same : (k j : ℕ) (xs : List Ty) → k < m → lifted n k xs j ≡ lifted o k xs j
  lifted_same k j xs l = ap (λ z. cond (nat_eq k j) (Some xs) (put_in xs z)) (agree.same k j l)

  same_or : (b : Bool) → (b ≡ true) ⊎ (b ≡ false)
  same_or true = inl refl
  same_or false = inr refl

  far_known : (k j : ℕ) (xs zs : List Ty) (u : Option (List Ty)) → n.up k j ≡ u → put_in xs u ≡ Some zs → k < m → Each K xs → Each K zs
  far_known k j xs zs None e h l g = let f : None ≡ Some zs = h in cc
  far_known k j xs zs (Some ys) e h l g =
      let f : Some (map (put (at xs)) ys) ≡ Some zs = h in
      let i : map (put (at xs)) ys ≡ zs = cc in
      subst (Each K) i (put_all_known m xs g ys (agree.known k j ys l e))

  lifted_known : (k j : ℕ) (xs zs : List Ty) → lifted n k xs j ≡ Some zs → k < m → Each K xs → Each K zs
  lifted_known k j xs zs u l g = elim (same_or (nat_eq k j)) [
    | inl t ↦
        let a : lifted n k xs j ≡ Some xs = rw t refl in
        let f : Some xs ≡ Some zs = sym a ∙ u in
        let i : xs ≡ zs = cc in
        subst (Each K) i g
    | inr f ↦
        let a : lifted n k xs j ≡ put_in xs (n.up k j) = rw f refl in
        far_known k j xs zs (n.up k j) refl (sym a ∙ u) l g
  ]

  module _ (R S : Ty → Ty → Type 0) (move : (x y : Ty) → K x → K y → R x y → S x y) where
    both_move : (xs ys : List Ty) → Each K xs → Each K ys → Both R xs ys → Both S xs ys
    both_move xs ys e f both_end = both_end
    both_move xs ys e f (both_more x y vs ws p r) = both_more x y vs ws (move x y e.0 f.0 p) (both_move vs ws e.1 f.1 r)

    ways_move : (xs ys : List Ty) → Each K xs → Each K ys → Both (Ways R) xs ys → Both (Ways S) xs ys
    ways_move xs ys e f both_end = both_end
    ways_move xs ys e f (both_more x y vs ws p r) = both_more x y vs ws (move x y e.0 f.0 p.0, move y x f.0 e.0 p.1) (ways_move vs ws e.1 f.1 r)

    part_move : (t u : Ty) → K t → K u → PartBy n R t u → PartBy o S t u
    part_move t u p q (by_any a b e) = by_any t u e
    part_move t u p q (by_self a b v d e) = by_self t u v d e
    part_move t u p q (by_tuple a b xs ys d e h) =
        by_tuple t u xs ys d e (both_move xs ys (tuple_known m xs (sym (ap (is_known m) (is_tuple t xs d)) ∙ p)) (tuple_known m ys (sym (ap (is_known m) (is_tuple u ys e)) ∙ q)) h)
    part_move t u p q (by_nominal a b k j xs zs ys d e l h) =
        let r = nominal_known m k xs (sym (ap (is_known m) (is_nominal t k xs d)) ∙ p) in
        let s = nominal_known m j ys (sym (ap (is_known m) (is_nominal u j ys e)) ∙ q) in
        by_nominal t u k j xs zs ys d e (sym (lifted_same k j xs r.0) ∙ l) (ways_move zs ys (lifted_known k j xs zs l r.0 r.1) s.1 h)

    some_move : (t : Ty) (us : List Ty) → K t → Each K us → SomeBy (PartBy n R) t us → SomeBy (PartBy o S) t us
    some_move t us p q (this a u vs h) = this t u vs (part_move t u p q.0 h)
    some_move t us p q (that a u vs h) = that t u vs (some_move t vs p q.1 h)

    cover_move : (ts us : List Ty) → Each K ts → Each K us → CoverBy (PartBy n R) ts us → CoverBy (PartBy o S) ts us
    cover_move ts us p q (nothing vs) = nothing us
    cover_move ts us p q (another t rs vs h c) = another t rs us (some_move t us p.0 q h) (cover_move rs us p.1 q c)

  height_move : (h : ℕ) (t u : Ty) → K t → K u → BelowAt n h t u → BelowAt o h t u
  height_move zero t u p q b = b
  height_move (suc h) t u p q b = cover_move (BelowAt n h) (BelowAt o h) (height_move h) (alts t) (alts u) (alts_known m t p) (alts_known m u q) b

  pub below_move : (t u : Ty) → K t → K u → Below n opaque t u → Below o opaque t u
  below_move t u p q b = let r = high n t u b in back o r.0 t u (height_move r.0 t u p q r.1)

module _ (n o : Table) (m : ℕ) (agree : Agree n o m) where
  leads_move : (t : Ty) (ts : List Ty) → Known m t → Each (Known m) ts → Leads n t ts → Leads o t ts
  leads_move t [] p q h = tt
  leads_move t (u ∷ us) p q h =
      let away = below_move o n m (agree_back n o m agree) in
      (h.0, ((λ b. h.1.0 (away t u p q.0 b)), (λ b. h.1.1 (away u t q.0 p b))), leads_move t us p q.1 h.2)

  members_move : (ts : List Ty) → Each (Known m) ts → Members n ts → Members o ts
  members_move [] q h = tt
  members_move (t ∷ ts) q h = (leads_move t ts q.0 q.1 h.0, members_move ts q.1 h.1)

  mutual
    pub normal_move : (t : Ty) → Known m t → IsNormal n t → IsNormal o t
    normal_move t p (any a e) = any t e
    normal_move t p (var a v e) = var t v e
    normal_move t p (nominal a k xs e h) = nominal t k xs e (normals_move xs (nominal_known m k xs (sym (ap (is_known m) (is_nominal t k xs e)) ∙ p)).1 h)
    normal_move t p (tuple a xs e h s) = tuple t xs e (normals_move xs (tuple_known m xs (sym (ap (is_known m) (is_tuple t xs e)) ∙ p)) h) s
    normal_move t p (union a ts e h s g l) =
        let q = union_known m ts (sym (ap (is_known m) (is_union t ts e)) ∙ p) in
        union t ts e (normals_move ts q h) s (members_move ts q g) l

    normals_move : (ts : List Ty) → Each (Known m) ts → AllNormal n ts → AllNormal o ts
    normals_move ts p none = none
    normals_move ts p (more t us h r) = more t us (normal_move t p.0 h) (normals_move us p.1 r)
