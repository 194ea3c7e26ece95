-- Two rows one below the other, and the substitutions put one into the other.
use Rattle.std.proofs.Common.{◌≡◌, ◌∙◌, sym, ap, subst, refl, ℕ, ◌<◌, true, List, [], ◌∷◌, map, Some, inl, inr}
use Rattle.std.specs.List.{flat_map}
use Rattle.jl_model.specs.declared.ty.Ty.{Ty}
use Rattle.jl_model.specs.declared.ty.Ty.TheOpen.{Any, Tuple, Nominal, Var}
use Rattle.jl_model.specs.declared.ty.Ty.TheViews.{out-Ty, outs-Any, outs-Tuple, outs-Nominal}
use Rattle.jl_model.specs.declared.ty.Ty.TheViews as V
use Rattle.jl_model.specs.declared.ty.Ty.TheVariants as W
use Rattle.jl_model.specs.declared.ty.Written.{Written}
use Rattle.jl_model.specs.Kinds.{Kind, unused, once, diagonal, bound}
use Rattle.jl_model.specs.Rows.{alts, width, low, high, kind, root, vars_in, Occurs, bounding}
use Rattle.jl_model.specs.Signature.{Row, IsRow, Both, both_end, both_more, Serves, fixed, top, is_diagonal, Meets, Meet, any, tuple, nominal, same, atom, raise_tuple, raise_nominal, meet_end, meet_more}
use Rattle.jl_model.specs.Subtype.{Table, Fixed, opaque, put, lifted, Below, Covered, Found, Part, Parts, Equals, below, none, more, here, there, raise, any as part_any, tuple as part_tuple, nominal as part_nominal, self, own, under, parts_end, parts_more}
use Rattle.jl_model.proofs.TypeInduction.{Each, by_cases}
use Rattle.jl_model.proofs.FormLemmas.{is_any, is_tuple, is_nominal, is_var, alts-nominal, put-any, put-union, put-tuple, put-nominal, put-var, vars-any, vars-union, vars-tuple, vars-nominal, vars-var}
use Rattle.jl_model.proofs.PutLemmas.{put-closed}
use Rattle.jl_model.proofs.SelfLemmas.{own_arguments}
use Rattle.jl_model.proofs.AncestorLemmas.{Lawful}
use Rattle.jl_model.proofs.BelowLemmas.{below_any}
use Rattle.jl_model.proofs.TransLemmas.{lifted_again}
use Rattle.jl_subsume.specs.Scoped.{IsScoped, IsOrdered}
use Rattle.jl_search.proofs.HasLemmas.{Has, Picks, has_split, has_flat, of_has, has_none}
use Rattle.jl_subsume.proofs.FormsLemmas.{tuple_form}
use Rattle.jl_search.proofs.PartLemmas.{Plain, plain_any, plain_tuple, plain_nominal, plain_var, AllPlain, all_end, all_more, plain_map, plain_single, tuple_parts, var_number, head_plain, tail_plain}
use Rattle.jl_search.proofs.LiftLemmas.{lift, alt_fine, below_found, found_below, found_single, found_in, part_single, by_alts, equals_self}
use Rattle.jl_subsume.proofs.ScopeLemmas.{IsSlot, Never, Bare, Small, alts_within, alts_closed, closed_plain, rigid_plain, root_own, low_none, low_at, high_at, top_within, slot_high, diagonal_small, occurs_small}
use Rattle.jl_subsume.proofs.PutBelowLemmas.{comes, put_to, put_nominal, equals_put, lifted_put}
use Rattle.jl_search.proofs.EqualLemmas.{turned}
use Rattle.jl_subsig.proofs.AlikeLemmas.{lifted_equal, equals_trans}
use Rattle.jl_subsume.proofs.SureLemmas.{Sure, AllSure, sure_end, sure_more, sure_tuple, sure_nominal, sure_var, sure_of}
use Rattle.jl_subsig.proofs.OrderLemmas.{after}
use Rattle.jl_subsig.proofs.LeftBelowLemmas.{left_of, high_rigid, raise_below, tuple_left}
use Rattle.jl_subsig.proofs.MiddleLemmas.{Sits, sits_any, sits_tuple, sits_raised, sits_nominal, sits_var, AllSit, sit_end, sit_more, sits_meet, rigid_sits, at_var, from_put, from_left, dom_small, put_top, put_low}

-- no variable stands at a covariant place
abbrev pub Anything : List Ty → Type 0
Anything xs = Unit {0}

abbrev pub Loose : Ty → Type 0
Loose = Plain Never Anything

abbrev pub AllLoose : List Ty → Type 0
AllLoose = AllPlain Never Anything

pub loose_of : (Q : List Ty → Type 0) (u : Ty) → Plain Never Q u → Loose u
loose_of Q u p = plain_map Never Never Q Anything (λ k i. i) (λ xs q. tt) u p

pub loose_alone : (u : Ty) → Loose u → (x : Ty) → Has (alts u) x → Loose x
loose_alone u p x h = elim (subst (λ z. Has z x) (plain_single Never Anything u p) h) [ inl e ↦ subst Loose e p | inr i ↦ absurd i ]

module _ (f : ℕ → Ty) where
  mutual
    pub loose_put : (u : Ty) → Loose u → Loose (put f u)
    loose_put u (plain_any x e) = plain_any (put f u) (ap out-Ty (ap (put f) (is_any u e) ∙ put-any f) ∙ outs-Any)
    loose_put u (plain_tuple x us e p) = plain_tuple (put f u) (map (put f) us) (ap out-Ty (ap (put f) (is_tuple u us e) ∙ put-tuple f us) ∙ outs-Tuple (map (put f) us)) (all_loose_put us p)
    loose_put u (plain_nominal x k xs e q) = plain_nominal (put f u) k (map (put f) xs) (ap out-Ty (ap (put f) (is_nominal u k xs e) ∙ put-nominal f k xs) ∙ outs-Nominal k (map (put f) xs)) tt
    loose_put u (plain_var x k e q) = absurd q

    pub all_loose_put : (us : List Ty) → AllLoose us → AllLoose (map (put f) us)
    all_loose_put us all_end = all_end
    all_loose_put us (all_more x xs p r) = all_more (put f x) (map (put f) xs) (loose_put x p) (all_loose_put xs r)

module _ (n : Table) (law : Lawful n) (a : Written) (ascope : IsScoped a) (aordered : IsOrdered n a) (l : Row) (lrow : IsRow n a l)
    (b : Written) (bscope : IsScoped b) (m : Row) (mrow : IsRow n b m) (f : ℕ → Ty) (serves : Serves n (fixed a l) b m f)
    (over : (v w : ℕ) → Has (vars_in (f v)) w → Occurs a w l.parts) where
  abbrev pub G : Fixed
  G = fixed a l

  abbrev pub K : Fixed
  K = fixed b m

  abbrev pub B : Ty → Ty → Type 0
  B = Below n G

  abbrev pub Left : Ty → Type 0
  Left = Plain (IsSlot a) (Small a ascope)

  abbrev pub Lefts : List Ty → Type 0
  Lefts = AllPlain (IsSlot a) (Small a ascope)

  abbrev pub Middle : Ty → Type 0
  Middle = Plain (IsSlot b) (Small b bscope)

  abbrev pub Middles : List Ty → Type 0
  Middles = AllPlain (IsSlot b) (Small b bscope)

  abbrev pub Rigid : Ty → Type 0
  Rigid = Plain Never (Small b bscope)

  abbrev pub Rigids : List Ty → Type 0
  Rigids = AllPlain Never (Small b bscope)

  abbrev pub S : Ty → Ty → Type 0
  S = Sits n law a ascope aordered l lrow b bscope m mrow f serves over

  abbrev pub Ss : List Ty → List Ty → Type 0
  Ss = AllSit n law a ascope aordered l lrow b bscope m mrow f serves over

  -- over variables of the middle row
  abbrev pub Dom : ℕ → Type 0
  Dom v = Occurs b v m.parts

  abbrev pub Over : Ty → Type 0
  Over t = (k : ℕ) → Has (vars_in t) k → Dom k

  pub trans_left : (x y z : Ty) → Left x → B x y → B y z → B x z
  trans_left = from_left n law a ascope aordered l lrow b bscope m mrow f serves over

  small : (v : ℕ) → Dom v → v < width b
  small = dom_small n law a ascope aordered l lrow b bscope m mrow f serves over

  -- types put in are over the variables of the left row
  abbrev PutOver : Ty → Type 0
  PutOver t = (w : ℕ) → Has (vars_in (put f t)) w → Occurs a w l.parts

  put_over_each : (ts : List Ty) → Each PutOver ts → (w : ℕ) → Has (flat_map vars_in (map (put f) ts)) w → Occurs a w l.parts
  put_over_each [] e w h = absurd h
  put_over_each (t ∷ ts) e w h = elim (has_split (vars_in (put f t)) (flat_map vars_in (map (put f) ts)) w h) [ inl i ↦ e.0 w i | inr i ↦ put_over_each ts e.1 w i ]

  pub put_over : (t : Ty) → PutOver t
  put_over = by_cases PutOver (record {
    any = λ w h. absurd (has_none (vars_in (put f W.Any)) w (ap vars_in (put-any f) ∙ vars-any) h);
    union = λ ts e w h. put_over_each ts e w (subst (λ z. Has z w) (ap vars_in (put-union f ts) ∙ vars-union (map (put f) ts)) h);
    tuple = λ ts e w h. put_over_each ts e w (subst (λ z. Has z w) (ap vars_in (put-tuple f ts) ∙ vars-tuple (map (put f) ts)) h);
    nominal = λ k ts e w h. put_over_each ts e w (subst (λ z. Has z w) (ap vars_in (put-nominal f k ts) ∙ vars-nominal k (map (put f) ts)) h);
    var = λ v w h. over v w (subst (λ z. Has z w) (ap vars_in (put-var f v)) h);
  })

  each_put_over : (ts : List Ty) → Each PutOver ts
  each_put_over [] = tt
  each_put_over (t ∷ ts) = (put_over t, each_put_over ts)

  put_small : (xs : List Ty) → Small a ascope (map (put f) xs)
  put_small xs w h = occurs_small a ascope n l lrow w (put_over_each xs (each_put_over xs) w h)

  pub put_is_tuple : (u : Ty) (us : List Ty) → out-Ty u ≡ Tuple us → out-Ty (put f u) ≡ Tuple (map (put f) us)
  put_is_tuple u us e = ap out-Ty (ap (put f) (is_tuple u us e) ∙ put-tuple f us) ∙ outs-Tuple (map (put f) us)

  pub put_is_nominal : (u : Ty) (k : ℕ) (xs : List Ty) → out-Ty u ≡ Nominal k xs → out-Ty (put f u) ≡ Nominal k (map (put f) xs)
  put_is_nominal u k xs e = ap out-Ty (ap (put f) (is_nominal u k xs e) ∙ put-nominal f k xs) ∙ outs-Nominal k (map (put f) xs)

  -- a rigid form with types put in is one of the left, and sits at the form
  mutual
    pub rigid_put : (d : Ty) → Rigid d → Plain Never (Small a ascope) (put f d)
    rigid_put d (plain_any x e) = plain_any (put f d) (ap out-Ty (ap (put f) (is_any d e) ∙ put-any f) ∙ outs-Any)
    rigid_put d (plain_tuple x us e p) = plain_tuple (put f d) (map (put f) us) (put_is_tuple d us e) (all_rigid_put us p)
    rigid_put d (plain_nominal x k xs e q) = plain_nominal (put f d) k (map (put f) xs) (put_is_nominal d k xs e) (put_small xs)
    rigid_put d (plain_var x k e q) = absurd q

    all_rigid_put : (us : List Ty) → Rigids us → AllPlain Never (Small a ascope) (map (put f) us)
    all_rigid_put us all_end = all_end
    all_rigid_put us (all_more x xs p r) = all_more (put f x) (map (put f) xs) (rigid_put x p) (all_rigid_put xs r)

  mutual
    rigid_meets : (d : Ty) → Rigid d → Meets n G b f (put f d) d
    rigid_meets d (plain_any x e) = any (put f d) d e
    rigid_meets d (plain_tuple x us e p) = tuple (put f d) d (map (put f) us) us (put_is_tuple d us e) e (all_rigid_meet us p)
    rigid_meets d (plain_nominal x k xs e q) =
        let ys = map (put f) xs in
        nominal (put f d) d k k ys ys xs (put_is_nominal d k xs e) e (own_arguments n k ys) (equals_self n ys)
    rigid_meets d (plain_var x k e q) = absurd q

    all_rigid_meet : (us : List Ty) → Rigids us → Meet n G b f (map (put f) us) us
    all_rigid_meet us all_end = meet_end
    all_rigid_meet us (all_more x xs p r) = meet_more (put f x) x (map (put f) xs) xs (rigid_meets x p) (all_rigid_meet xs r)

  pub rigid_self : (d : Ty) → Rigid d → S (put f d) d
  rigid_self d p = rigid_sits n law a ascope aordered l lrow b bscope m mrow f serves over (put f d) d p (rigid_meets d p)

  pub rigid_middle : (d : Ty) → Rigid d → Middle d
  rigid_middle d p = rigid_plain b bscope d p

  pub rigid_left : (d : Ty) → Rigid d → Left (put f d)
  rigid_left d p = left_of n a ascope l lrow (put f d) (rigid_put d p)

  pub high_of : (y : Ty) (k : ℕ) → out-Ty y ≡ Var k → Middle y → Rigid (K.high k)
  high_of y k e p = slot_high n b m bscope mrow k (var_number (IsSlot b) (Small b bscope) y k e p)

  pub sits_high : (x y : Ty) (k : ℕ) → out-Ty y ≡ Var k → S x y → B x (put f (K.high k))
  sits_high x y k e (sits_any t u d) = let i : Var k ≡ Any = sym e ∙ d in cc
  sits_high x y k e (sits_tuple t u xs ys d o p) = let i : Var k ≡ Tuple ys = sym e ∙ o in cc
  sits_high x y k e (sits_raised t u j ys d o p) = let i : Var k ≡ Tuple ys = sym e ∙ o in cc
  sits_high x y k e (sits_nominal t u j ys o p) = let i : Var k ≡ Nominal j ys = sym e ∙ o in cc
  sits_high x y k e (sits_var t u j o p c) = let i : Var j ≡ Var k = sym o ∙ e in let q : j ≡ k = cc in subst (λ z. B x (put f (K.high z))) q c

  -- at a tuple: the parts, and how the whole is built of them
  pub record Split (x : Ty) (ys : List Ty) : Type 0 where
    pub parts : List Ty
    pub stand : Lefts parts
    pub sit : Ss parts ys
    pub below : (w : Ty) → B (V.Tuple parts) w → B x w
    pub meets : (c : Written) (D : ℕ → Ty) (z : Ty) (zs : List Ty) → out-Ty z ≡ Tuple zs → Meet n G c D parts zs → Meets n G c D x z

  pub split : (x y : Ty) (ys : List Ty) → out-Ty y ≡ Tuple ys → Left x → S x y → Split x ys
  split x y ys e p (sits_any t u d) = let i : Tuple ys ≡ Any = sym e ∙ d in cc
  split x y ys e p (sits_tuple t u xs vs d o q) =
      let i : Tuple vs ≡ Tuple ys = sym o ∙ e in let c : vs ≡ ys = cc in
      record {
        parts = xs;
        stand = tuple_parts (IsSlot a) (Small a ascope) x xs d p;
        sit = subst (λ z. Ss xs z) c q;
        below = λ w h. subst (λ z. B z w) (sym (is_tuple x xs d)) h;
        meets = λ c D z zs h k. tuple x z xs zs d h k;
      }
  split x y ys e p (sits_raised t u k vs d o q) =
      let c = left_of n a ascope l lrow (G.high k) (high_rigid n a ascope l lrow x k d p) in
      let r = split (G.high k) y ys e c q in
      record {
        parts = r.parts;
        stand = r.stand;
        sit = r.sit;
        below = λ w h. raise_below n a ascope l lrow x k w d (r.below w h);
        meets = λ c D z zs h j. raise_tuple x z k zs d h (r.meets c D z zs h j);
      }
  split x y ys e p (sits_nominal t u j vs o q) = let i : Tuple ys ≡ Nominal j vs = sym e ∙ o in cc
  split x y ys e p (sits_var t u j o q c) = let i : Tuple ys ≡ Var j = sym e ∙ o in cc

  -- at a nominal type
  pub chain : (k j q : ℕ) (xs os us rs ts : List Ty) → lifted n k xs j ≡ Some os → Equals n os us → lifted n j us q ≡ Some rs → Equals n rs ts → (ws : List Ty) × (lifted n k xs q ≡ Some ws) × Equals n ws ts
  chain k j q xs os us rs ts d e h i =
      let r = lifted_equal n law j q us os rs (turned n os us e) h in
      (r.0, lifted_again n law k j q xs os r.0 d r.1, equals_trans n law r.0 rs ts (turned n rs r.0 r.2) i)

  nominal_part : (x y u : Ty) (j q : ℕ) (ys rs us : List Ty) → out-Ty y ≡ Nominal j ys → out-Ty u ≡ Nominal q us → lifted n j ys q ≡ Some rs → Equals n rs us → Meets n G b f x y → B x (put f u)
  nominal_part x y u j q ys rs us e o h w (any t t2 d) = let i : Nominal j ys ≡ Any = sym e ∙ d in cc
  nominal_part x y u j q ys rs us e o h w (tuple t t2 xs vs d i p) = let c : Nominal j ys ≡ Tuple vs = sym e ∙ i in cc
  nominal_part x y u j q ys rs us e o h w (nominal t t2 k i xs os vs d c s p) =
      let g : Nominal i vs ≡ Nominal j ys = sym c ∙ e in
      let is : i ≡ j = cc in
      let vs_is : vs ≡ ys = cc in
      let s2 : lifted n k xs j ≡ Some os = subst (λ z. lifted n k xs z ≡ Some os) is s in
      let p2 : Equals n os (map (put f) ys) = subst (λ z. Equals n os (map (put f) z)) vs_is p in
      let r = chain k j q xs os (map (put f) ys) (map (put f) rs) (map (put f) us) s2 p2 (lifted_put n law f j q ys rs h) (equals_put n law f rs us w) in
      let u2 : put f u ≡ V.Nominal q (map (put f) us) = ap (put f) (is_nominal u q us o) ∙ put-nominal f q us in
      let x_single : alts x ≡ x ∷ [] = let i = is_nominal x k xs d in ap alts i ∙ alts-nominal k xs ∙ ap (λ z. z ∷ []) (sym i) in
      subst (λ z. B x z) (sym u2)
      (part_single n G x (V.Nominal q (map (put f) us)) x_single (alts-nominal q (map (put f) us))
      (part_nominal G x (V.Nominal q (map (put f) us)) k q xs r.0 (map (put f) us) d (outs-Nominal q (map (put f) us)) r.1 r.2))
  nominal_part x y u j q ys rs us e o h w (same t t2 v d i p) = let c : Nominal j ys ≡ Var v = sym e ∙ d in cc
  nominal_part x y u j q ys rs us e o h w (atom t t2 v d i p) = let c : Nominal j ys ≡ Var v = sym e ∙ d in cc
  nominal_part x y u j q ys rs us e o h w (raise_tuple t t2 v vs d i p) = let c : Nominal j ys ≡ Tuple vs = sym e ∙ i in cc
  nominal_part x y u j q ys rs us e o h w (raise_nominal t t2 v i vs d c p) = raise_below n a ascope l lrow x v (put f u) d (nominal_part (G.high v) y u j q ys rs us e o h w p)

  -- BELOW, with the types put in
  over_alts : (t : Ty) → Over t → (x : Ty) → Has (alts t) x → Over x
  over_alts t o x h v i = o v (alts_within t x h v i)

  over_member : (t : Ty) (ts : List Ty) → out-Ty t ≡ Tuple ts → Over t → (x : Ty) → Has ts x → Over x
  over_member t ts e o x h v i = o v (subst (λ z. Has z v) (sym (ap vars_in (is_tuple t ts e) ∙ vars-tuple ts)) (has_flat vars_in ts x v h i))

  over_var : (t : Ty) (w : ℕ) → out-Ty t ≡ Var w → Over t → Dom w
  over_var t w e o = o w (subst (λ z. Has z w) (sym (ap vars_in (is_var t w e) ∙ vars-var w)) (inl refl))

  over_none : (t : Ty) → vars_in t ≡ [] → Over t
  over_none t e v i = absurd (has_none (vars_in t) v e i)

  var_is : (t : Ty) (w : ℕ) → out-Ty t ≡ Var w → put f t ≡ f w
  var_is t w e = ap (put f) (is_var t w e) ∙ put-var f w

  low_is : (w : ℕ) → Dom w → put f (K.low w) ≡ low b w
  low_is w d = ap (put f) (low_at n b m w (small w d)) ∙ put-closed f (low b w) (low_none b bscope w)

  rigid_single : (d : Ty) → Rigid d → alts d ≡ d ∷ []
  rigid_single d p = plain_single Never (Small b bscope) d p

  rigid_has : (d : Ty) → Rigid d → Has (alts d) d
  rigid_has d p = subst (λ z. Has z d) (sym (rigid_single d p)) (inl refl)

  only_one : (y c : Ty) → alts y ≡ y ∷ [] → Has (alts y) c → y ≡ c
  only_one y c e h = elim (subst (λ z. Has z c) e h) [ inl i ↦ i | inr r ↦ absurd r ]

  var_below : (x y : Ty) (v : ℕ) → out-Ty y ≡ Var v → S x y → B x (f (root b v))
  var_below x y v e s = elim (at_var n law a ascope aordered l lrow b bscope m mrow f serves over x y v e (sits_meet n law a ascope aordered l lrow b bscope m mrow f serves over x y s)) [
    | inl r ↦ subst (λ z. B x (f z)) (sym (root_own b v (diagonal_small b bscope v r.0))) (lift n G x (f v) r.1.0)
    | inr r ↦ r.1
  ]

  mutual
    pub sits_below : (x y w : Ty) → S x y → Left x → Middle y → Over w → Below n K y w → B x (put f w)
    sits_below x y w s p q o (below i t u c) =
        sits_covered x y (alts y) (alts w) (put f w) s p q (over_alts w o) (λ u h. put_to n law f w u h) c (λ u h. only_one y u (plain_single (IsSlot b) (Small b bscope) y q) h)
        (subst (λ z. Has z y) (sym (plain_single (IsSlot b) (Small b bscope) y q)) (inl refl))

    sits_covered : (x y : Ty) (ts us : List Ty) (w : Ty) → S x y → Left x → Middle y → ((u : Ty) → Has us u → Over u) → ((u : Ty) → Has us u → Below n opaque (put f u) w) → Covered n K ts us
        → ((u : Ty) → Has ts u → y ≡ u) → Has ts y → B x w
    sits_covered x y ts us w s p q o k (none i vs) e h = absurd h
    sits_covered x y ts us w s p q o k (more i t ss vs g c) e h =
        let j : y ≡ t = e t (inl refl) in sits_found x t us w (subst (λ z. S x z) j s) p (subst Middle j q) o k g

    sits_found : (x y : Ty) (us : List Ty) (w : Ty) → S x y → Left x → Middle y → ((u : Ty) → Has us u → Over u) → ((u : Ty) → Has us u → Below n opaque (put f u) w) → Found n K y us → B x w
    sits_found x y us w s p q o k (here i t u vs h) = after n law G x (put f u) w (sits_part x y u s p q (o u (inl refl)) h) (k u (inl refl))
    sits_found x y us w s p q o k (there i t u vs h) = sits_found x y vs w s p q (λ z j. o z (inr j)) (λ z j. k z (inr j)) h
    sits_found x y us w s p q o k (raise i t v vs e c) =
        let d = K.high v in
        let g = high_of y v e q in
        let up : B (put f d) w = sits_covered (put f d) d (alts d) us w (rigid_self d g) (rigid_left d g) (rigid_middle d g) o k c (λ u h. only_one d u (rigid_single d g) h) (rigid_has d g) in
        trans_left x (put f d) w p (sits_high x y v e s) up

    sits_part : (x y u : Ty) → S x y → Left x → Middle y → Over u → Part n K y u → B x (put f u)
    sits_part x y u s p q o (part_any i t v e) = subst (λ z. B x z) (sym (ap (put f) (is_any u e) ∙ put-any f)) (lift n G x W.Any (below_any n x))
    sits_part x y u s p q o (part_tuple i t v ys us d e h) =
        let r = split x y ys d p s in
        let c = sits_parts r.parts ys us r.sit r.stand (tuple_parts (IsSlot b) (Small b bscope) y ys d q) (over_member u us e o) h in
        subst (λ z. B x z) (sym (ap (put f) (is_tuple u us e) ∙ put-tuple f us)) (r.below (V.Tuple (map (put f) us)) (tuple_left n a ascope l lrow r.parts (map (put f) us) r.stand c))
    sits_part x y u s p q o (part_nominal i t v j k ys rs us d e h w) =
        nominal_part x y u j k ys rs us d e h w (sits_meet n law a ascope aordered l lrow b bscope m mrow f serves over x y s)
    sits_part x y u s p q o (self i t v w d e) =
        let c = root_own b w (small w (over_var u w e o)) in
        subst (λ z. B x z) (sym (var_is u w e)) (subst (λ z. B x (f z)) c (var_below x y w d s))
    sits_part x y u s p q o (own i t v w d e) = subst (λ z. B x z) (sym (var_is u (root b w) e)) (var_below x y w d s)
    sits_part x y u s p q o (under i t v w e h) =
        let d = over_var u w e o in
        let none_in : vars_in (K.low w) ≡ [] = ap vars_in (low_at n b m w (small w d)) ∙ low_none b bscope w in
        let c : B x (low b w) = subst (λ z. B x z) (low_is w d) (sits_below x y (K.low w) s p q (over_none (K.low w) none_in) h) in
        subst (λ z. B x z) (sym (var_is u w e)) (trans_left x (low b w) (f w) p c (put_low n law a ascope aordered l lrow b bscope m mrow f serves over w d))

    sits_parts : (xs ys us : List Ty) → Ss xs ys → Lefts xs → Middles ys → ((u : Ty) → Has us u → Over u) → Parts n K ys us → Both B xs (map (put f) us)
    sits_parts xs ys us sit_end p q o (parts_end i) = both_end
    sits_parts xs ys us (sit_more x2 y2 vs2 ws2 s ss) p q o (parts_more i y u ws zs h r) =
        both_more x2 (put f u) vs2 (map (put f) zs) (sits_below x2 y u s (head_plain (IsSlot a) (Small a ascope) x2 vs2 p) (head_plain (IsSlot b) (Small b bscope) y ws q) (o u (inl refl)) h)
        (sits_parts vs2 ws zs ss (tail_plain (IsSlot a) (Small a ascope) x2 vs2 p) (tail_plain (IsSlot b) (Small b bscope) y ws q) (λ z j. o z (inr j)) r)

  -- a type without variables
  closed_rigid : (d : Ty) → Plain Never Bare d → Rigid d
  closed_rigid d p = plain_map Never Never Bare (Small b bscope) (λ k i. i) (λ xs q v i. absurd (has_none (flat_map vars_in xs) v q i)) d p

  pub closed_below : (t w : Ty) → vars_in t ≡ [] → Over w → Below n K t w → B t (put f w)
  closed_below t w e o h = by_alts n G t (put f w) (λ d i.
      let g = closed_rigid d (closed_plain b bscope t e d i) in
      subst (λ z. B z (put f w)) (put-closed f d (alts_closed t d e i))
      (sits_found (put f d) d (alts w) (put f w) (rigid_self d g) (rigid_left d g) (rigid_middle d g) (over_alts w o) (λ u j. put_to n law f w u j) (below_found n K t w d h i)))

  -- a type over the middle variables below one whose alternatives are rigid
  both_single : (ws us : List Ty) → AllLoose us → Both B ws us → B (V.Tuple ws) (V.Tuple us)
  both_single ws us p h = found_below n G (V.Tuple ws) (V.Tuple us) (λ c i.
      let r = tuple_form (λ v. W.Var v ∷ []) ws c i in
      let t = V.Tuple us in
      let has : Has (alts t) t = subst (λ z. Has z t) (sym (plain_single Never Anything t (plain_tuple t us (outs-Tuple us) p))) (inl refl) in
      subst (λ z. Found n G z (alts t)) r.2 (found_in n G (alts t) (V.Tuple r.0) t has (part_tuple G (V.Tuple r.0) t r.0 us (outs-Tuple r.0) (outs-Tuple us) (picked r.0 ws us r.1 h))))
    where
      picked : (cs ws us : List Ty) → Picks cs (map alts ws) → Both B ws us → Parts n G cs us
      picked [] ws us p both_end = parts_end G
      picked (c ∷ cs) ws us p both_end = absurd p
      picked [] ws us p (both_more w u vs zs b r) = absurd p
      picked (c ∷ cs) ws us p (both_more w u vs zs b r) = parts_more G c u cs zs (found_single n G c u (alt_fine n G w c p.0).0 (below_found n G w u c b p.0)) (picked cs vs zs p.1 r)

  -- the upper bound of a variable of the row is over variables of the row
  high_over : (v : ℕ) → Dom v → Over (K.high v)
  high_over v d k i =
      bounding k v m.parts d (of_has (vars_in (high b v)) k (top_within n b m bscope mrow v k (subst (λ z. Has (vars_in z) k) (high_at n b m v (small v d)) i)))

  mutual
    pub put_below : (t w : Ty) → Over t → ((u : Ty) → Has (alts w) u → Loose u) → Below n K t w → B (put f t) (put f w)
    put_below t w o p (below i x y c) = found_below n G (put f t) (put f w) (λ d h.
        let r = comes f t d h in
        below_found n G (put f r.0) (put f w) d (covered_put (alts t) (alts w) (put f w) (over_alts t o) p (λ u j. put_to n law f w u j) c r.0 r.1) r.2)

    covered_put : (ts us : List Ty) (w : Ty) → ((t : Ty) → Has ts t → Over t) → ((u : Ty) → Has us u → Loose u) → ((u : Ty) → Has us u → Below n opaque (put f u) w) → Covered n K ts us → (t : Ty) → Has ts t → B (put f t) w
    covered_put ts us w o p k (none i vs) t h = absurd h
    covered_put ts us w o p k (more i x ss vs g c) t (inl e) = subst (λ z. B (put f z) w) e (found_put x us w (o x (inl refl)) p k g)
    covered_put ts us w o p k (more i x ss vs g c) t (inr h) = covered_put ss us w (λ z j. o z (inr j)) p k c t h

    found_put : (t : Ty) (us : List Ty) (w : Ty) → Over t → ((u : Ty) → Has us u → Loose u) → ((u : Ty) → Has us u → Below n opaque (put f u) w) → Found n K t us → B (put f t) w
    found_put t us w o p k (here i x u vs h) = after n law G (put f t) (put f u) w (part_put t u o (p u (inl refl)) h) (k u (inl refl))
    found_put t us w o p k (there i x u vs h) = found_put t vs w o (λ z j. p z (inr j)) (λ z j. k z (inr j)) h
    found_put t us w o p k (raise i x v vs e c) =
        let d = over_var t v e o in
        let up : B (put f (K.high v)) w = found_below n G (put f (K.high v)) w (λ z j.
        let r = comes f (K.high v) z j in
        below_found n G (put f r.0) w z (covered_put (alts (K.high v)) us w (over_alts (K.high v) (high_over v d)) p k c r.0 r.1) r.2) in
        let top_up : B (put f (top b m v)) w = subst (λ z. B (put f z) w) (high_at n b m v (small v d)) up in
        subst (λ z. B z w) (sym (var_is t v e))
        (from_put n law a ascope aordered l lrow b bscope m mrow f serves over v (put f (top b m v)) w (put_top n law a ascope aordered l lrow b bscope m mrow f serves over v d) top_up)

    part_put : (t u : Ty) → Over t → Loose u → Part n K t u → B (put f t) (put f u)
    part_put t u o p (part_any i x y e) = subst (λ z. B (put f t) z) (sym (ap (put f) (is_any u e) ∙ put-any f)) (lift n G (put f t) W.Any (below_any n (put f t)))
    part_put t u o p (part_tuple i x y ts us d e h) =
        let q = tuple_parts Never Anything u us e p in
        subst (λ z. B z (put f u)) (sym (ap (put f) (is_tuple t ts d) ∙ put-tuple f ts))
        (subst (λ z. B (V.Tuple (map (put f) ts)) z) (sym (ap (put f) (is_tuple u us e) ∙ put-tuple f us))
        (both_single (map (put f) ts) (map (put f) us) (all_loose_put f us q) (parts_put ts us (over_member t ts d o) q h)))
    part_put t u o p (part_nominal i x y k j ts zs us d e h q) = lift n G (put f t) (put f u) (put_nominal n law f t u k j ts zs us d e h (equals_put n law f zs us q))
    part_put t u o p (self i x y v d e) = absurd (var_number Never Anything u v e p)
    part_put t u o p (own i x y v d e) = absurd (var_number Never Anything u (root b v) e p)
    part_put t u o p (under i x y v e h) = absurd (var_number Never Anything u v e p)

    parts_put : (ts us : List Ty) → ((t : Ty) → Has ts t → Over t) → AllLoose us → Parts n K ts us → Both B (map (put f) ts) (map (put f) us)
    parts_put ts us o p (parts_end i) = both_end
    parts_put ts us o p (parts_more i t u vs ws h r) =
        both_more (put f t) (put f u) (map (put f) vs) (map (put f) ws) (put_below t u (o t (inl refl)) (loose_alone u (head_plain Never Anything u ws p)) h)
        (parts_put vs ws (λ z j. o z (inr j)) (tail_plain Never Anything u ws p) r)

  pub diagonal_of : (k : Kind) → is_diagonal k ≡ true → k ≡ diagonal
  diagonal_of unused e = cc
  diagonal_of once e = cc
  diagonal_of diagonal e = refl
  diagonal_of bound e = cc

  -- concrete types stay concrete
  mutual
    pub sure_put : (u : Ty) → Over u → Sure n K u → Sure n G (put f u)
    sure_put u o (sure_tuple t ts e p) = sure_tuple (put f u) (map (put f) ts) (put_is_tuple u ts e) (all_sure_put ts (over_member u ts e o) p)
    sure_put u o (sure_nominal t k xs e p) = sure_nominal (put f u) k (map (put f) xs) (put_is_nominal u k xs e) p
    sure_put u o (sure_var t v e p) =
        let d = over_var u v e o in
        subst (Sure n G) (sym (var_is u v e)) (sure_of n G (f v) (serves.sure v d (diagonal_of (kind b v) p)))

    all_sure_put : (us : List Ty) → ((u : Ty) → Has us u → Over u) → AllSure n K us → AllSure n G (map (put f) us)
    all_sure_put us o sure_end = sure_end
    all_sure_put us o (sure_more t ts p q) = sure_more (put f t) (map (put f) ts) (sure_put t (o t (inl refl)) p) (all_sure_put ts (λ c i. o c (inr i)) q)
