-- Normal forms that are equal types are the same.
use Rattle.std.proofs.Common.{◌≡◌, ◌∙◌, sym, ap, subst, refl, ℕ, ◌<◌, arith, Bool, true, false, nat_eq, List, [], ◌∷◌, map, length, ◌⊎◌, inl, inr}
use Rattle.std.specs.List.{list_all}
use Rattle.std.specs.declared.cmp.Ordering.TheVariants.{Less}
use Rattle.jl_model.specs.declared.ty.Ty.{Ty}
use Rattle.jl_model.specs.declared.ty.Ty.TheOpen.{Any, Union, Tuple, Nominal, Var}
use Rattle.jl_model.specs.declared.ty.Ty.TheViews.{out-Ty}
use Rattle.jl_model.specs.declared.ty.Ty.TheViews as V
use Rattle.jl_model.specs.Rows.{alts, choices}
use Rattle.jl_model.specs.Signature.{Both, both_end, both_more}
use Rattle.jl_model.specs.Subtype.{Table, opaque, Below, Equals}
use Rattle.jl_model.specs.Members.{EachBelow, BelowSome}
use Rattle.jl_model.specs.Order.{term_cmp}
use Rattle.jl_model.specs.Normal.{no_union, is_single, Unrelated, Leads, Members, IsNormal, AllNormal, any, var, nominal, tuple, union, none, more}
use Rattle.jl_model.proofs.FormLemmas.{is_any, is_union, is_tuple, is_nominal, is_var, alts-any, alts-var, alts-tuple, alts-nominal}
use Rattle.jl_model.proofs.PutLemmas.{and_l, and_r}
use Rattle.jl_model.proofs.AncestorLemmas.{Lawful, eq_of, flip}
use Rattle.jl_model.proofs.TransLemmas.{far, near, below_trans}
use Rattle.jl_model.proofs.HeightLemmas.{Ways, PartBy, by_any, by_tuple, by_nominal, by_self}
use Rattle.jl_model.proofs.BelowLemmas.{below_union, below_some, below_part, equals_both}
use Rattle.jl_model.proofs.OrderLemmas.{term_order, not_less}

-- a member of a list
pub data In (x : Ty) : List Ty → Type 0 where
  first : (y : Ty) (ys : List Ty) → x ≡ y → In x (y ∷ ys)
  later : (y : Ty) (ys : List Ty) → In x ys → In x (y ∷ ys)

abbrev pub Ascending : Ty → List Ty → Type 0
Ascending t [] = Unit {0}
Ascending t (u ∷ us) = (term_cmp t u ≡ Less) × Ascending t us

less_in : (t x : Ty) (ts : List Ty) → Ascending t ts → In x ts → term_cmp t x ≡ Less
less_in t x ts a (first y ys e) = rw e a.0
less_in t x ts a (later y ys i) = less_in t x ys a.1 i

-- lists in order with the same members are the same
abbrev pub Ordered : List Ty → Type 0
Ordered [] = Unit {0}
Ordered (t ∷ ts) = Ascending t ts × Ordered ts

heads_same : (t u : Ty) (ts us : List Ty) → Ascending t ts → Ascending u us → In t (u ∷ us) → In u (t ∷ ts) → t ≡ u
heads_same t u ts us a b (first y ys e) j = e
heads_same t u ts us a b (later y ys i) (first z zs e) = sym e
heads_same t u ts us a b (later y ys i) (later z zs j) =
    absurd (not_less t (term_order.trans t u t (less_in t u ts a j) (less_in u t us b i)))

same_order : (ts us : List Ty) → Ordered ts → Ordered us → ((x : Ty) → In x ts → In x us) → ((x : Ty) → In x us → In x ts) → ts ≡ us
same_order [] [] a b f g = refl
same_order [] (u ∷ us) a b f g = elim (g u (first u us refl)) [ ]
same_order (t ∷ ts) [] a b f g = elim (f t (first t ts refl)) [ ]
same_order (t ∷ ts) (u ∷ us) a b f g =
    let e : t ≡ u = heads_same t u ts us a.0 b.0 (f t (first t ts refl)) (g u (first u us refl)) in
    let r : ts ≡ us = same_order ts us a.1 b.1 (λ x i. down x u us t ts a.0 e i (f x (later t ts i))) (λ x i. down x t ts u us b.0 (sym e) i (g x (later u us i))) in
    cc
  where
    down : (x u : Ty) (us : List Ty) (t : Ty) (ts : List Ty) → Ascending t ts → t ≡ u → In x ts → In x (u ∷ us) → In x us
    down x u us t ts a e i (later y ys j) = j
    down x u us t ts a e i (first y ys d) = absurd (not_less t (ap (term_cmp t) (e ∙ sym d) ∙ less_in t x ts a i))

-- a normal type that is no union is its own single alternative
mutual
  pub single_alts : (n : Table) (t : Ty) → IsNormal n t → is_single t ≡ true → alts t ≡ t ∷ []
  single_alts n t (any a e) s = let i = is_any t e in ap alts i ∙ alts-any ∙ ap (λ z. z ∷ []) (sym i)
  single_alts n t (var a v e) s = let i = is_var t v e in ap alts i ∙ alts-var v ∙ ap (λ z. z ∷ []) (sym i)
  single_alts n t (nominal a k xs e h) s = let i = is_nominal t k xs e in ap alts i ∙ alts-nominal k xs ∙ ap (λ z. z ∷ []) (sym i)
  single_alts n t (tuple a xs e h o) s = let i = is_tuple t xs e in ap alts i ∙ alts-tuple xs ∙ ap (map (λ us. V.Tuple us)) (single_choices n xs h o) ∙ ap (λ z. z ∷ []) (sym i)
  single_alts n t (union a ts e h o m l) s = let f : false ≡ true = sym (ap no_union e) ∙ s in cc

  single_choices : (n : Table) (ts : List Ty) → AllNormal n ts → list_all is_single ts ≡ true → choices (map alts ts) ≡ ts ∷ []
  single_choices n ts none o = refl
  single_choices n ts (more t us h r) o =
      let e = single_alts n t h (and_l (is_single t) (list_all is_single us) o) in
      let f = single_choices n us r (and_r (is_single t) (list_all is_single us) o) in
      rw (e, f) refl

-- one type in a list
pub all_in : (n : Table) (ts : List Ty) (x : Ty) → AllNormal n ts → In x ts → IsNormal n x
all_in n ts x none i = elim i [ ]
all_in n ts x (more t us h r) (first y ys e) = subst (IsNormal n) (sym e) h
all_in n ts x (more t us h r) (later y ys i) = all_in n us x r i

pub single_in : (x : Ty) (ts : List Ty) → list_all is_single ts ≡ true → In x ts → is_single x ≡ true
single_in x ts o (first y ys e) = ap is_single e ∙ and_l (is_single y) (list_all is_single ys) o
single_in x ts o (later y ys i) = single_in x ys (and_r (is_single y) (list_all is_single ys) o) i

module _ (n : Table) where
  abbrev B : Ty → Ty → Type 0
  B = Below n opaque

  pub leads_ascend : (t : Ty) (ts : List Ty) → Leads n t ts → Ascending t ts
  leads_ascend t [] h = tt
  leads_ascend t (u ∷ us) h = (h.0, leads_ascend t us h.2)

  pub members_ordered : (ts : List Ty) → Members n ts → Ordered ts
  members_ordered [] h = tt
  members_ordered (t ∷ ts) h = (leads_ascend t ts h.0, members_ordered ts h.1)

  unrelated_in : (t x : Ty) (ts : List Ty) → Leads n t ts → In x ts → Unrelated n t x
  unrelated_in t x ts h (first y ys e) = rw e h.1
  unrelated_in t x ts h (later y ys i) = unrelated_in t x ys h.2 i

  -- members that are below one another are one
  pub members_same : (x y : Ty) (ts : List Ty) → Members n ts → In x ts → In y ts → B x y → x ≡ y
  members_same x y ts h (first t us d) (first u vs e) b = d ∙ sym e
  members_same x y ts h (first t us d) (later u vs j) b = absurd ((unrelated_in t y us h.0 j).0 (subst (λ z. B z y) d b))
  members_same x y ts h (later t us i) (first u vs e) b = absurd ((unrelated_in t x us h.0 i).1 (subst (λ z. B x z) e b))
  members_same x y ts h (later t us i) (later u vs j) b = members_same x y us h.1 i j b

  pub each_in : (x u : Ty) (ts : List Ty) → EachBelow n ts u → In x ts → B x u
  each_in x u ts h (first y ys e) = subst (λ z. B z u) (sym e) h.0
  each_in x u ts h (later y ys i) = each_in x u ys h.1 i

  pub some_in : (x : Ty) (us : List Ty) → BelowSome n x us → (u : Ty) × In u us × B x u
  some_in x [] h = absurd h
  some_in x (u ∷ us) (inl b) = (u, first u us refl, b)
  some_in x (u ∷ us) (inr h) = let r = some_in x us h in (r.0, later u us r.1, r.2)

module _ (n : Table) (law : Lawful n) where
  abbrev pub Same : Ty → Ty → Type 0
  Same a b = Ways (Below n opaque) a b

  -- unions
  member_of : (ts us : List Ty) → AllNormal n ts → list_all is_single ts ≡ true → Members n ts → AllNormal n us → list_all is_single us ≡ true
      → Below n opaque (V.Union ts) (V.Union us) → Below n opaque (V.Union us) (V.Union ts)
      → ((x y : Ty) → In x ts → In y us → Same x y → x ≡ y) → (x : Ty) → In x ts → In x us
  member_of ts us nt st mt nu su p q same x i =
      let a = single_alts n x (all_in n ts x nt i) (single_in x ts st i) in
      let r = some_in n x us (below_some n x us a (each_in n x (V.Union us) ts (below_union n ts (V.Union us) p) i)) in
      let u = r.0 in
      let b = single_alts n u (all_in n us u nu r.1) (single_in u us su r.1) in
      let s = some_in n u ts (below_some n u ts b (each_in n u (V.Union ts) us (below_union n us (V.Union ts) q) r.1)) in
      let e : x ≡ s.0 = members_same n x s.0 ts mt i s.1 (below_trans n law x u s.0 r.2 s.2) in
      let back : Below n opaque u x = subst (λ z. Below n opaque u z) (sym e) s.2 in
      let f : x ≡ u = same x u i r.1 (r.2, back) in
      subst (λ z. In z us) (sym f) r.1

  -- a union of none or several is no other type
  no_single : (a : Ty) (ts : List Ty) → alts a ≡ a ∷ [] → Members n ts → (length ts ≡ 1 → ⊥) → Same a (V.Union ts) → ⊥
  no_single a ts e m l s =
      let r = some_in n a ts (below_some n a ts e s.0) in
      let each = below_union n ts a s.1 in
      all_one ts r.0 r.1 m l (λ x i. members_same n x r.0 ts m i r.1 (below_trans n law x a r.0 (each_in n x a ts each i) r.2))
    where
      all_one : (ts : List Ty) (u : Ty) → In u ts → Members n ts → (length ts ≡ 1 → ⊥) → ((x : Ty) → In x ts → x ≡ u) → ⊥
      all_one [] u i m l h = elim i [ ]
      all_one (t ∷ []) u i m l h = l refl
      all_one (t ∷ v ∷ ts) u i m l h =
          let p : t ≡ v = h t (first t (v ∷ ts) refl) ∙ sym (h v (later t (v ∷ ts) (first v ts refl))) in
          not_less t (ap (term_cmp t) p ∙ m.0.0)

  -- types with one alternative each
  pub any_same : (a b : Ty) → out-Ty a ≡ Any → PartBy n (Below n opaque) a b → a ≡ b
  any_same a b o (by_any t u e) = is_any a o ∙ sym (is_any b e)
  any_same a b o (by_tuple t u xs ys d e p) = let f : Any ≡ Tuple xs = sym o ∙ d in cc
  any_same a b o (by_nominal t u k m xs zs ys d e l p) = let f : Any ≡ Nominal k xs = sym o ∙ d in cc
  any_same a b o (by_self t u v d e) = let f : Any ≡ Var v = sym o ∙ d in cc

  pub var_same : (a b : Ty) (v : ℕ) → out-Ty a ≡ Var v → PartBy n (Below n opaque) a b → PartBy n (Below n opaque) b a → a ≡ b
  var_same a b v o (by_any t u e) q = sym (any_same b a e q)
  var_same a b v o (by_tuple t u xs ys d e p) q = let f : Var v ≡ Tuple xs = sym o ∙ d in cc
  var_same a b v o (by_nominal t u k m xs zs ys d e l p) q = let f : Var v ≡ Nominal k xs = sym o ∙ d in cc
  var_same a b v o (by_self t u w d e) q = is_var a w d ∙ sym (is_var b w e)

  tuple_back : (a b : Ty) (xs ys : List Ty) → out-Ty a ≡ Tuple xs → out-Ty b ≡ Tuple ys → PartBy n (Below n opaque) a b → Both (Below n opaque) xs ys
  tuple_back a b xs ys o i (by_any t u e) = let f : Tuple ys ≡ Any = sym i ∙ e in cc
  tuple_back a b xs ys o i (by_tuple t u vs ws d e p) =
      let f : Tuple xs ≡ Tuple vs = sym o ∙ d in
      let g : Tuple ys ≡ Tuple ws = sym i ∙ e in
      let v : vs ≡ xs = cc in
      let w : ws ≡ ys = cc in
      subst (λ z. Both (Below n opaque) z ys) v (subst (λ z. Both (Below n opaque) vs z) w p)
  tuple_back a b xs ys o i (by_nominal t u k m vs zs ws d e l p) = let f : Tuple xs ≡ Nominal k vs = sym o ∙ d in cc
  tuple_back a b xs ys o i (by_self t u v d e) = let f : Tuple xs ≡ Var v = sym o ∙ d in cc

  both_ways : (xs ys : List Ty) → Both (Below n opaque) xs ys → Both (Below n opaque) ys xs → Both Same xs ys
  both_ways xs ys both_end both_end = both_end
  both_ways xs ys (both_more x y vs ws p r) (both_more z t us os q s) = both_more x y vs ws (p, q) (both_ways vs ws r s)

  pub tuple_same : (a b : Ty) (xs : List Ty) → out-Ty a ≡ Tuple xs → ((ys : List Ty) → out-Ty b ≡ Tuple ys → Both Same xs ys → xs ≡ ys) → PartBy n (Below n opaque) a b → PartBy n (Below n opaque) b a → a ≡ b
  tuple_same a b xs o kids (by_any t u e) q = sym (any_same b a e q)
  tuple_same a b xs o kids (by_nominal t u k m vs zs ws d e l p) q = let f : Tuple xs ≡ Nominal k vs = sym o ∙ d in cc
  tuple_same a b xs o kids (by_self t u v d e) q = let f : Tuple xs ≡ Var v = sym o ∙ d in cc
  tuple_same a b xs o kids (by_tuple t u vs ys d e p) q =
      let f : Tuple xs ≡ Tuple vs = sym o ∙ d in
      let v : vs ≡ xs = cc in
      let g : xs ≡ ys = kids ys e (both_ways xs ys (subst (λ z. Both (Below n opaque) z ys) v p) (tuple_back b a ys xs e o q)) in
      is_tuple a xs o ∙ ap (λ z. V.Tuple z) g ∙ sym (is_tuple b ys e)

  -- a nominal type that is below another is that type or comes after it
  lower : (b a : Ty) (k m : ℕ) (ys xs : List Ty) → out-Ty b ≡ Nominal m ys → out-Ty a ≡ Nominal k xs → nat_eq k m ≡ false → PartBy n (Below n opaque) b a → k < m
  lower b a k m ys xs o i h (by_any t u e) = let f : Nominal k xs ≡ Any = sym i ∙ e in cc
  lower b a k m ys xs o i h (by_tuple t u vs ws d e p) = let f : Nominal m ys ≡ Tuple vs = sym o ∙ d in cc
  lower b a k m ys xs o i h (by_self t u v d e) = let f : Nominal m ys ≡ Var v = sym o ∙ d in cc
  lower b a k m ys xs o i h (by_nominal t u j q vs zs ws d e l p) =
      let f : Nominal m ys ≡ Nominal j vs = sym o ∙ d in
      let g : Nominal k xs ≡ Nominal q ws = sym i ∙ e in
      let m_is : m ≡ j = cc in
      let k_is : k ≡ q = cc in
      let h2 : nat_eq j q ≡ false = ap (λ z. nat_eq z q) (sym m_is) ∙ ap (nat_eq m) (sym k_is) ∙ flip k m h in
      let r = far n law j q vs zs h2 l in
      let below : q < j = law.falls j q r.0 h2 r.1 in
      omega arith

  pub nominal_same : (a b : Ty) (k : ℕ) (xs : List Ty) → out-Ty a ≡ Nominal k xs → ((ys : List Ty) → out-Ty b ≡ Nominal k ys → Both Same xs ys → xs ≡ ys) → PartBy n (Below n opaque) a b → PartBy n (Below n opaque) b a → a ≡ b
  nominal_same a b k xs o kids (by_any t u e) q = sym (any_same b a e q)
  nominal_same a b k xs o kids (by_tuple t u vs ws d e p) q = let f : Nominal k xs ≡ Tuple vs = sym o ∙ d in cc
  nominal_same a b k xs o kids (by_self t u v d e) q = let f : Nominal k xs ≡ Var v = sym o ∙ d in cc
  nominal_same a b k xs o kids (by_nominal t u j m vs zs ys d e l p) q =
      let f : Nominal k xs ≡ Nominal j vs = sym o ∙ d in
      let j_is : j ≡ k = cc in
      let v_is : vs ≡ xs = cc in
      elim (same_or (nat_eq j m)) [
        | inl s ↦
            let z : vs ≡ zs = near n law j m vs zs s l in
            let m_is : m ≡ k = sym (eq_of j m s) ∙ j_is in
            let e2 : out-Ty b ≡ Nominal k ys = e ∙ ap (λ (i : ℕ). Nominal i ys) m_is in
            let g : xs ≡ ys = kids ys e2 (subst (λ y. Both Same y ys) (sym z ∙ v_is) p) in
            is_nominal a k xs o ∙ ap (λ y. V.Nominal k y) g ∙ sym (is_nominal b k ys e2)
        | inr h ↦
            let up : m < j = (let r = far n law j m vs zs h l in law.falls j m r.0 h r.1) in
            let down : j < m = lower b a j m ys vs e d h q in
            absurd (omega arith)
      ]
    where
      same_or : (b : Bool) → (b ≡ true) ⊎ (b ≡ false)
      same_or true = inl refl
      same_or false = inr refl

  -- the arguments or parts of a normal type
  pub kids_nominal : (b : Ty) (k : ℕ) (ys : List Ty) → IsNormal n b → out-Ty b ≡ Nominal k ys → AllNormal n ys
  kids_nominal b k ys (any t e) o = let f : Any ≡ Nominal k ys = sym e ∙ o in cc
  kids_nominal b k ys (var t v e) o = let f : Var v ≡ Nominal k ys = sym e ∙ o in cc
  kids_nominal b k ys (tuple t xs e h s) o = let f : Tuple xs ≡ Nominal k ys = sym e ∙ o in cc
  kids_nominal b k ys (union t ts e h s m l) o = let f : Union ts ≡ Nominal k ys = sym e ∙ o in cc
  kids_nominal b k ys (nominal t j xs e h) o = let f : Nominal j xs ≡ Nominal k ys = sym e ∙ o in let v : xs ≡ ys = cc in subst (AllNormal n) v h

  pub kids_tuple : (b : Ty) (ys : List Ty) → IsNormal n b → out-Ty b ≡ Tuple ys → AllNormal n ys
  kids_tuple b ys (any t e) o = let f : Any ≡ Tuple ys = sym e ∙ o in cc
  kids_tuple b ys (var t v e) o = let f : Var v ≡ Tuple ys = sym e ∙ o in cc
  kids_tuple b ys (nominal t k xs e h) o = let f : Nominal k xs ≡ Tuple ys = sym e ∙ o in cc
  kids_tuple b ys (union t ts e h s m l) o = let f : Union ts ≡ Tuple ys = sym e ∙ o in cc
  kids_tuple b ys (tuple t xs e h s) o = let f : Tuple xs ≡ Tuple ys = sym e ∙ o in let v : xs ≡ ys = cc in subst (AllNormal n) v h

  -- against a union, and against a type with one alternative
  pub versus : (a b : Ty) → alts a ≡ a ∷ [] → IsNormal n b → Same a b → (PartBy n (Below n opaque) a b → PartBy n (Below n opaque) b a → a ≡ b) → a ≡ b
  versus a b e (union t ts o h s m l) same f = absurd (no_single a ts e m l (subst (Same a) (is_union b ts o) same))
  versus a b e (any t o) same f = let g = single_alts n b (any b o) (ap no_union o) in f (below_part n a b e g same.0) (below_part n b a g e same.1)
  versus a b e (var t v o) same f = let g = single_alts n b (var b v o) (ap no_union o) in f (below_part n a b e g same.0) (below_part n b a g e same.1)
  versus a b e (nominal t k ys o h) same f = let g = single_alts n b (nominal b k ys o h) (ap no_union o) in f (below_part n a b e g same.0) (below_part n b a g e same.1)
  versus a b e (tuple t ys o h s) same f = let g = single_alts n b (tuple b ys o h s) (ap no_union o) in f (below_part n a b e g same.0) (below_part n b a g e same.1)

  union_same : (a b : Ty) (ts : List Ty) → out-Ty a ≡ Union ts → AllNormal n ts → list_all is_single ts ≡ true → Members n ts → (length ts ≡ 1 → ⊥) → IsNormal n b → Same a b
      → ((x y : Ty) → In x ts → IsNormal n y → Same x y → x ≡ y) → a ≡ b
  union_same a b ts o h s m l (union t us p hu su mu lu) same f =
      let a_is = is_union a ts o in
      let b_is = is_union b us p in
      let up : Below n opaque (V.Union ts) (V.Union us) = subst (λ z. Below n opaque z (V.Union us)) a_is (subst (λ z. Below n opaque a z) b_is same.0) in
      let down : Below n opaque (V.Union us) (V.Union ts) = subst (λ z. Below n opaque z (V.Union ts)) b_is (subst (λ z. Below n opaque b z) a_is same.1) in
      let into = member_of ts us h s m hu su up down (λ x y i j w. f x y i (all_in n us y hu j) w) in
      let onto = member_of us ts hu su mu h s down up (λ x y i j w. sym (f y x j (all_in n us x hu i) (w.1, w.0))) in
      a_is ∙ ap (λ z. V.Union z) (same_order ts us (members_ordered n ts m) (members_ordered n us mu) into onto) ∙ sym b_is
  union_same a b ts o h s m l (any t p) same f =
      absurd (no_single b ts (single_alts n b (any b p) (ap no_union p)) m l (subst (Same b) (is_union a ts o) (same.1, same.0)))
  union_same a b ts o h s m l (var t v p) same f =
      absurd (no_single b ts (single_alts n b (var b v p) (ap no_union p)) m l (subst (Same b) (is_union a ts o) (same.1, same.0)))
  union_same a b ts o h s m l (nominal t k ys p g) same f =
      absurd (no_single b ts (single_alts n b (nominal b k ys p g) (ap no_union p)) m l (subst (Same b) (is_union a ts o) (same.1, same.0)))
  union_same a b ts o h s m l (tuple t ys p g q) same f =
      absurd (no_single b ts (single_alts n b (tuple b ys p g q) (ap no_union p)) m l (subst (Same b) (is_union a ts o) (same.1, same.0)))

  mutual
    pub normal_same : (a : Ty) → IsNormal n a → (b : Ty) → IsNormal n b → Same a b → a ≡ b
    normal_same a (any t e) b h same = versus a b (single_alts n a (any a e) (ap no_union e)) h same (λ p q. any_same a b e p)
    normal_same a (var t v e) b h same = versus a b (single_alts n a (var a v e) (ap no_union e)) h same (λ p q. var_same a b v e p q)
    normal_same a (nominal t k xs e g) b h same =
        versus a b (single_alts n a (nominal a k xs e g) (ap no_union e)) h same
        (λ p q. nominal_same a b k xs e (λ ys o w. all_same xs g ys (kids_nominal b k ys h o) w) p q)
    normal_same a (tuple t xs e g s) b h same =
        versus a b (single_alts n a (tuple a xs e g s) (ap no_union e)) h same
        (λ p q. tuple_same a b xs e (λ ys o w. all_same xs g ys (kids_tuple b ys h o) w) p q)
    normal_same a (union t ts e g s m l) b h same = union_same a b ts e g s m l h same (λ x y i ny w. in_same ts g x i y ny w)

    pub all_same : (xs : List Ty) → AllNormal n xs → (ys : List Ty) → AllNormal n ys → Both Same xs ys → xs ≡ ys
    all_same xs none ys h both_end = refl
    all_same xs (more x us g gs) ys none w = elim w [ ]
    all_same xs (more x us g gs) ys (more y vs hy hs) (both_more p q ps qs w r) =
        let e = normal_same x g y hy w in
        let f = all_same us gs vs hs r in
        cc

    in_same : (ts : List Ty) → AllNormal n ts → (x : Ty) → In x ts → (y : Ty) → IsNormal n y → Same x y → x ≡ y
    in_same ts none x i y h w = elim i [ ]
    in_same ts (more t us g gs) x (first z zs e) y h w = e ∙ normal_same t g y h (subst (λ z. Same z y) e w)
    in_same ts (more t us g gs) x (later z zs i) y h w = in_same us gs x i y h w

  -- equal arguments are the same
  pub equals_same : (xs ys : List Ty) → AllNormal n xs → AllNormal n ys → Equals n xs ys → xs ≡ ys
  equals_same xs ys g h e = all_same xs g ys h (equals_both n xs ys e)
