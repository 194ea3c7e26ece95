-- Types that differ in equal arguments alone: their forms, their order, and the order over fixed variables with such bounds.
use Rattle.std.proofs.Common.{◌≡◌, ◌∙◌, sym, ap, subst, refl, ℕ, Bool, true, false, nat_eq, List, [], ◌∷◌, ◌++◌, map, Some}
use Rattle.std.specs.List.{flat_map, list_all}
use Rattle.jl_model.specs.declared.ty.Ty.{Ty}
use Rattle.jl_model.specs.declared.ty.Ty.TheOpen.{Var}
use Rattle.jl_model.specs.declared.ty.Ty.TheViews.{outs-Any, outs-Union, outs-Tuple, outs-Nominal, outs-Var}
use Rattle.jl_model.specs.declared.ty.Ty.TheViews as V
use Rattle.jl_model.specs.declared.ty.Ty.TheVariants as W
use Rattle.jl_model.specs.declared.ty.Written.{Written}
use Rattle.jl_model.specs.Kinds.{bound}
use Rattle.jl_model.specs.Rows.{alts, kind, root, vars_in}
use Rattle.jl_model.specs.Signature.{Both, both_end, both_more, Meets, Meet, any as meets_any, tuple as meets_tuple, nominal as meets_nominal, same, atom, raise_tuple, raise_nominal, meet_end, meet_more}
use Rattle.jl_model.specs.Subtype.{Table, Fixed, opaque, put, at, put_in, lifted, Below, Covered, Found, Part, Parts, Equals, below, none as covered_none, more as covered_more, here, there, raise, any as part_any, tuple as part_tuple, nominal as part_nominal, self, own, under, parts_end, parts_more, equals_end, equals_more, Equal}
use Rattle.jl_model.proofs.TypeInduction.{Each, by_cases}
use Rattle.jl_model.proofs.FormLemmas.{is_union, is_tuple, is_nominal, vars-union, vars-tuple, vars-nominal}
use Rattle.jl_model.proofs.PutLemmas.{is_pattern, and_l, and_r}
use Rattle.jl_model.proofs.SelfLemmas.{equal_self}
use Rattle.jl_model.proofs.AncestorLemmas.{Lawful}
use Rattle.jl_model.proofs.TransLemmas.{equal_trans, put_equal, near, far}
use Rattle.jl_types.specs.Form.{AllSettle, any, var, union, tuple, nominal, none, more}
use Rattle.jl_types.proofs.SettleLemmas.{Grows, settles_equal}
use Rattle.jl_subsig.specs.Alike.{EqualArguments, Alike}
use Rattle.jl_subsig.proofs.PairLemmas.{pairs_end, pairs_more, TyPairs, all_of_pairs, settle_tuple, settle_nominal, settle_var, settle_any}
use Rattle.jl_search.proofs.EqualLemmas.{turned}
use Rattle.jl_subsig.proofs.OrderLemmas.{before, after, before_covered, up_of}
use Rattle.jl_search.proofs.LiftLemmas.{covered_from, alt_fine}
use Rattle.jl_subsume.proofs.PutBelowLemmas.{equals_put}

module _ (n : Table) where
  abbrev A : Ty → Ty → Type 0
  A = Alike n

  abbrev Q : Ty → Ty → Type 0
  Q = EqualArguments n

  -- alike types are equal
  anything : Grows Q (λ t. Unit {0})
  anything = record { any = tt; var = λ v. tt; nominal = λ k ts us b. tt; tuple = λ us e. tt }

  pub alike_equal : (t u : Ty) → A t u → Equal n t u
  alike_equal t u h = settles_equal n Q (λ x y q. q.0) (λ t. Unit {0}) anything t u h

  pub both_equals : (ts us : List Ty) → Both Q ts us → Equals n ts us
  both_equals ts us both_end = equals_end
  both_equals ts us (both_more t u vs ws p r) = equals_more t u vs ws p.0.0 p.0.1 (both_equals vs ws r)

  pub all_vars : (ts us : List Ty) → Both Q ts us → flat_map vars_in ts ≡ flat_map vars_in us
  all_vars ts us both_end = refl
  all_vars ts us (both_more t u vs ws p r) = ap (λ z. z ++ flat_map vars_in vs) p.1 ∙ ap (λ z. vars_in u ++ z) (all_vars vs ws r)

  both_turned : (ts us : List Ty) → Both Q ts us → Both Q us ts
  both_turned ts us both_end = both_end
  both_turned ts us (both_more t u vs ws p r) = both_more u t ws vs ((p.0.1, p.0.0), sym p.1) (both_turned vs ws r)

  both_self : (ts : List Ty) → Both Q ts ts
  both_self [] = both_end
  both_self (t ∷ ts) = both_more t t ts ts (equal_self n t, refl) (both_self ts)

  mutual
    -- the same variables
    pub alike_vars : (t u : Ty) → A t u → vars_in t ≡ vars_in u
    alike_vars t u (any a e) = refl
    alike_vars t u (var a v e) = refl
    alike_vars t u (union a b ts us e f h) = ap vars_in (is_union t ts e) ∙ vars-union ts ∙ all_alike_vars ts us h ∙ sym (ap vars_in (is_union u us f) ∙ vars-union us)
    alike_vars t u (tuple a b ts us e f h) = ap vars_in (is_tuple t ts e) ∙ vars-tuple ts ∙ all_alike_vars ts us h ∙ sym (ap vars_in (is_tuple u us f) ∙ vars-tuple us)
    alike_vars t u (nominal a b k ts us e f h) = ap vars_in (is_nominal t k ts e) ∙ vars-nominal k ts ∙ all_vars ts us h ∙ sym (ap vars_in (is_nominal u k us f) ∙ vars-nominal k us)

    all_alike_vars : (ts us : List Ty) → AllSettle Q ts us → flat_map vars_in ts ≡ flat_map vars_in us
    all_alike_vars ts us none = refl
    all_alike_vars ts us (more t u vs ws p r) = ap (λ z. z ++ flat_map vars_in vs) (alike_vars t u p) ∙ ap (λ z. vars_in u ++ z) (all_alike_vars vs ws r)

  mutual
    pub alike_turned : (t u : Ty) → A t u → A u t
    alike_turned t u (any a e) = any t e
    alike_turned t u (var a v e) = var t v e
    alike_turned t u (union a b ts us e f h) = union u t us ts f e (all_turned ts us h)
    alike_turned t u (tuple a b ts us e f h) = tuple u t us ts f e (all_turned ts us h)
    alike_turned t u (nominal a b k ts us e f h) = nominal u t k us ts f e (both_turned ts us h)

    all_turned : (ts us : List Ty) → AllSettle Q ts us → AllSettle Q us ts
    all_turned ts us none = none
    all_turned ts us (more t u vs ws p r) = more u t ws vs (alike_turned t u p) (all_turned vs ws r)

  all_self : (ts : List Ty) → Each (λ t. A t t) ts → AllSettle Q ts ts
  all_self [] e = none
  all_self (t ∷ ts) e = more t t ts ts e.0 (all_self ts e.1)

  pub alike_self : (t : Ty) → A t t
  alike_self = by_cases (λ t. A t t) (record {
    any = any W.Any outs-Any;
    union = λ ts e. union (V.Union ts) (V.Union ts) ts ts (outs-Union ts) (outs-Union ts) (all_self ts e);
    tuple = λ ts e. tuple (V.Tuple ts) (V.Tuple ts) ts ts (outs-Tuple ts) (outs-Tuple ts) (all_self ts e);
    nominal = λ k ts e. nominal (V.Nominal k ts) (V.Nominal k ts) k ts ts (outs-Nominal k ts) (outs-Nominal k ts) (both_self ts);
    var = λ v. var (W.Var v) v (outs-Var v);
  })

  pub pairs_vars : (ts us : List Ty) → TyPairs A ts us → flat_map vars_in ts ≡ flat_map vars_in us
  pairs_vars ts us h = all_alike_vars ts us (all_of_pairs Q ts us h)

  pub pairs_turned : (ts us : List Ty) → TyPairs A ts us → TyPairs A us ts
  pairs_turned ts us pairs_end = pairs_end
  pairs_turned ts us (pairs_more t u vs ws p r) = pairs_more u t ws vs (alike_turned t u p) (pairs_turned vs ws r)

-- the order over fixed variables with equal bounds
pub record SameFixed (n : Table) (g h : Fixed) : Type 0 where
  pub low : (v : ℕ) → Equal n (g.low v) (h.low v)
  pub high : (v : ℕ) → Alike n (g.high v) (h.high v)
  pub root : (v : ℕ) → g.root v ≡ h.root v

module _ (n : Table) (law : Lawful n) (g h : Fixed) (same_fixed : SameFixed n g h) where
  -- what is covered stays so where other bounds that equal them are raised
  higher : (v : ℕ) (us : List Ty) → Covered n h (alts (g.high v)) us → Covered n h (alts (h.high v)) us
  higher v us c = covered_from n h (alts (h.high v)) us (λ x i.
      let r = up_of n law h (h.high v) (g.high v) (alike_equal n (g.high v) (h.high v) (same_fixed.high v)).1 x i in
      before_covered n law h x r.0 (alts (g.high v)) us c (alt_fine n opaque (h.high v) x i).0 (alt_fine n opaque (g.high v) r.0 r.1).0 r.2 r.1)

  mutual
    pub below_there : (t u : Ty) → Below n g t u → Below n h t u
    below_there t u (below i a b c) = below h t u (covered_there (alts t) (alts u) c)

    covered_there : (ts us : List Ty) → Covered n g ts us → Covered n h ts us
    covered_there ts us (covered_none i vs) = covered_none h us
    covered_there ts us (covered_more i t ss vs f c) = covered_more h t ss us (found_there t us f) (covered_there ss us c)

    found_there : (t : Ty) (us : List Ty) → Found n g t us → Found n h t us
    found_there t us (here i a u vs p) = here h t u vs (part_there t u p)
    found_there t us (there i a u vs f) = there h t u vs (found_there t vs f)
    found_there t us (raise i a v vs e c) = raise h t v us e (higher v us (covered_there (alts (g.high v)) us c))

    part_there : (t u : Ty) → Part n g t u → Part n h t u
    part_there t u (part_any i a b e) = part_any h t u e
    part_there t u (part_tuple i a b xs ys d e p) = part_tuple h t u xs ys d e (parts_there xs ys p)
    part_there t u (part_nominal i a b k m xs zs ys d e l q) = part_nominal h t u k m xs zs ys d e l q
    part_there t u (self i a b v d e) = self h t u v d e
    part_there t u (own i a b v d e) = own h t u v d (e ∙ ap (λ (z : ℕ). Var z) (same_fixed.root v))
    part_there t u (under i a b w e p) = under h t u w e (after n law h t (g.low w) (h.low w) (below_there t (g.low w) p) (same_fixed.low w).0)

    parts_there : (xs ys : List Ty) → Parts n g xs ys → Parts n h xs ys
    parts_there xs ys (parts_end i) = parts_end h
    parts_there xs ys (parts_more i x y vs ws b p) = parts_more h x y vs ws (below_there x y b) (parts_there vs ws p)

-- equal arguments of an ancestor
module _ (n : Table) (law : Lawful n) where
  put_equals : (os xs ys : List Ty) → list_all is_pattern os ≡ true → Equals n xs ys → Equals n (map (put (at xs)) os) (map (put (at ys)) os)
  put_equals [] xs ys p e = equals_end
  put_equals (o ∷ os) xs ys p e =
      let i = and_l (is_pattern o) (list_all is_pattern os) p in
      equals_more (put (at xs) o) (put (at ys) o) (map (put (at xs)) os) (map (put (at ys)) os) (put_equal n law o i xs ys e) (put_equal n law o i ys xs (turned n xs ys e))
      (put_equals os xs ys (and_r (is_pattern o) (list_all is_pattern os) p) e)

  lifted_by : (k m : ℕ) (xs ys zs : List Ty) (b : Bool) → nat_eq k m ≡ b → Equals n xs ys → lifted n k xs m ≡ Some zs → (ws : List Ty) × (lifted n k ys m ≡ Some ws) × Equals n zs ws
  lifted_by k m xs ys zs true e q l =
      let i = near n law k m xs zs e l in
      let a : lifted n k ys m ≡ Some ys = rw e refl in
      (ys, a, subst (λ z. Equals n z ys) i q)
  lifted_by k m xs ys zs false e q l =
      let r = far n law k m xs zs e l in
      let a : lifted n k ys m ≡ put_in ys (n.up k m) = rw e refl in
      (map (put (at ys)) r.0, a ∙ ap (put_in ys) r.1, subst (λ z. Equals n z (map (put (at ys)) r.0)) r.2 (put_equals r.0 xs ys (law.patterns k m r.0 r.1) q))

  pub lifted_equal : (k m : ℕ) (xs ys zs : List Ty) → Equals n xs ys → lifted n k xs m ≡ Some zs → (ws : List Ty) × (lifted n k ys m ≡ Some ws) × Equals n zs ws
  lifted_equal k m xs ys zs q l = lifted_by k m xs ys zs (nat_eq k m) refl q l

  pub equals_trans : (xs ys zs : List Ty) → Equals n xs ys → Equals n ys zs → Equals n xs zs
  equals_trans xs ys zs equals_end q = q
  equals_trans xs ys zs (equals_more x y vs ws p p2 r) (equals_more a z bs cs q q2 s) =
      let e = equal_trans n law x y z (p, p2) (q, q2) in equals_more x z vs cs e.0 e.1 (equals_trans vs ws cs r s)

  module _ (g h : Fixed) (same_fixed : SameFixed n g h) (s s2 : Written) (kinds : (v : ℕ) → kind s v ≡ kind s2 v) (roots : (v : ℕ) → root s v ≡ root s2 v) (f : ℕ → Ty) where
    abbrev Same : Ty → Ty → Type 0
    Same = EqualArguments n

    mutual
      -- parts that are alike meet alike
      pub meets_alike : (x y u w : Ty) → Alike n x u → Alike n y w → Meets n g s f x y → Meets n h s2 f u w
      meets_alike x y u w p q (meets_any a b e) = meets_any u w (settle_any Same y w e q)
      meets_alike x y u w p q (meets_tuple a b xs ys d e m) =
          let i = settle_tuple Same x u xs d p in
          let j = settle_tuple Same y w ys e q in
          meets_tuple u w i.0 j.0 i.1 j.1 (meet_alike xs ys i.0 j.0 i.2 j.2 m)
      meets_alike x y u w p q (meets_nominal a b k m xs zs ys d e l o) =
          let i = settle_nominal Same x u k xs d p in
          let j = settle_nominal Same y w m ys e q in
          let r = lifted_equal k m xs i.0 zs (both_equals n xs i.0 i.2) l in
          meets_nominal u w k m i.0 r.0 j.0 i.1 j.1 r.1
          (equals_trans r.0 zs (map (put f) j.0) (turned n zs r.0 r.2) (equals_trans zs (map (put f) ys) (map (put f) j.0) o (equals_put n law f ys j.0 (both_equals n ys j.0 j.2))))
      meets_alike x y u w p q (same a b v e d o) =
          let i = alike_equal n x u p in
          same u w v (settle_var Same y w v e q) (sym (kinds v) ∙ d) (equal_trans n law u x (f v) (i.1, i.0) o)
      meets_alike x y u w p q (atom a b v e d o) =
          let i = alike_equal n x u p in
          let r = roots v in
          let c : kind s2 (root s2 v) ≡ bound = ap (kind s2) (sym r) ∙ sym (kinds (root s v)) ∙ d in
          let k : Below n h u (f (root s v)) = before n law h u x (f (root s v)) i.1 (below_there n law g h same_fixed x (f (root s v)) o) in
          atom u w v (settle_var Same y w v e q) c (subst (λ z. Below n h u (f z)) r k)
      meets_alike x y u w p q (raise_tuple a b v ys d e m) =
          let j = settle_tuple Same y w ys e q in
          raise_tuple u w v j.0 (settle_var Same x u v d p) j.1 (meets_alike (g.high v) y (h.high v) w (same_fixed.high v) q m)
      meets_alike x y u w p q (raise_nominal a b v k ys d e m) =
          let j = settle_nominal Same y w k ys e q in
          raise_nominal u w v k j.0 (settle_var Same x u v d p) j.1 (meets_alike (g.high v) y (h.high v) w (same_fixed.high v) q m)

      pub meet_alike : (xs ys us ws : List Ty) → AllSettle Same xs us → AllSettle Same ys ws → Meet n g s f xs ys → Meet n h s2 f us ws
      meet_alike xs ys us ws none none meet_end = meet_end
      meet_alike xs ys us ws none (more y w cs ds q qs) m = elim m [ ]
      meet_alike xs ys us ws (more x u as_ bs p ps) none m = elim m [ ]
      meet_alike xs ys us ws (more x u as_ bs p ps) (more y w cs ds q qs) (meet_more x2 y2 es fs m ms) = meet_more u w bs ds (meets_alike x y u w p q m) (meet_alike as_ cs bs ds ps qs ms)
