-- A normal form has no variables and nominal types but those of the type, up to equal arguments.
use Rattle.std.proofs.Common.{◌≡◌, ◌∙◌, sym, ap, subst, refl, ℕ, ◌<◌, arith, Bool, true, false, nat_eq, List, [], ◌∷◌, ◌++◌, map, ◌⊎◌, inl, inr}
use Rattle.std.specs.List.{flat_map, list_all}
use Rattle.jl_model.specs.declared.ty.Ty.{Ty}
use Rattle.jl_model.specs.declared.ty.Ty.TheOpen.{Any, Union, Tuple, Nominal, Var}
use Rattle.jl_model.specs.declared.ty.Ty.TheViews.{out-Ty, outs-Any, outs-Union, outs-Tuple, outs-Nominal, outs-Var}
use Rattle.jl_model.specs.declared.ty.Ty.TheViews as V
use Rattle.jl_model.specs.Rows.{alts, choices}
use Rattle.jl_model.specs.Signature.{Both, both_end, both_more}
use Rattle.jl_model.specs.Subtype.{Table, opaque, Below, Part}
use Rattle.jl_model.specs.Normal.{no_union, is_single, Members, IsNormal, AllNormal, any, var, nominal, tuple, union, none, more}
use Rattle.jl_model.proofs.TypeInduction.{Each, by_cases}
use Rattle.jl_model.proofs.FormLemmas.{is_union, alts-any, alts-var, alts-union, alts-tuple, alts-nominal}
use Rattle.jl_model.proofs.AncestorLemmas.{Lawful, eq_of, flip}
use Rattle.jl_model.proofs.SelfLemmas.{Fine, alts_fine}
use Rattle.jl_model.proofs.HeightLemmas.{SomeBy, this, that, CoverBy, nothing, another, Ways, PartBy, by_any, by_tuple, by_nominal, by_self, below_of}
use Rattle.jl_model.proofs.TransLemmas.{far, near, below_trans}
use Rattle.jl_model.proofs.BelowLemmas.{covers, below_part, part_below, below_union, below_some}
use Rattle.jl_model.proofs.NormalLemmas.{In, first, later, single_alts, all_in, single_in, members_same, each_in, some_in, any_same, var_same}

-- each variable of a type passes P, and each nominal type of it R
module _ (P : ℕ → Type 0) (R : ℕ → List Ty → Type 0) where
  mutual
    pub data Has : Ty → Type 0 where
      has_any : (t : Ty) → out-Ty t ≡ Any → Has t
      has_var : (t : Ty) (v : ℕ) → out-Ty t ≡ Var v → P v → Has t
      has_union : (t : Ty) (ts : List Ty) → out-Ty t ≡ Union ts → AllHave ts → Has t
      has_tuple : (t : Ty) (ts : List Ty) → out-Ty t ≡ Tuple ts → AllHave ts → Has t
      has_nominal : (t : Ty) (k : ℕ) (ts : List Ty) → out-Ty t ≡ Nominal k ts → R k ts → AllHave ts → Has t

    pub data AllHave : List Ty → Type 0 where
      have_none : AllHave []
      have_more : (t : Ty) (ts : List Ty) → Has t → AllHave ts → AllHave (t ∷ ts)

  pub have_each : (ts : List Ty) → AllHave ts → Each Has ts
  have_each ts have_none = tt
  have_each ts (have_more t us h r) = (h, have_each us r)

  pub each_have : (ts : List Ty) → Each Has ts → AllHave ts
  each_have [] e = have_none
  each_have (t ∷ ts) e = have_more t ts e.0 (each_have ts e.1)

  pub union_has : (t : Ty) (ts : List Ty) → out-Ty t ≡ Union ts → Has t → AllHave ts
  union_has t ts o (has_any a e) = let f : Any ≡ Union ts = sym e ∙ o in cc
  union_has t ts o (has_var a v e p) = let f : Var v ≡ Union ts = sym e ∙ o in cc
  union_has t ts o (has_union a us e h) = let f : Union us ≡ Union ts = sym e ∙ o in let g : us ≡ ts = cc in subst AllHave g h
  union_has t ts o (has_tuple a us e h) = let f : Tuple us ≡ Union ts = sym e ∙ o in cc
  union_has t ts o (has_nominal a k us e r h) = let f : Nominal k us ≡ Union ts = sym e ∙ o in cc

  pub tuple_has : (t : Ty) (ts : List Ty) → out-Ty t ≡ Tuple ts → Has t → AllHave ts
  tuple_has t ts o (has_any a e) = let f : Any ≡ Tuple ts = sym e ∙ o in cc
  tuple_has t ts o (has_var a v e p) = let f : Var v ≡ Tuple ts = sym e ∙ o in cc
  tuple_has t ts o (has_union a us e h) = let f : Union us ≡ Tuple ts = sym e ∙ o in cc
  tuple_has t ts o (has_tuple a us e h) = let f : Tuple us ≡ Tuple ts = sym e ∙ o in let g : us ≡ ts = cc in subst AllHave g h
  tuple_has t ts o (has_nominal a k us e r h) = let f : Nominal k us ≡ Tuple ts = sym e ∙ o in cc

  pub nominal_has : (t : Ty) (k : ℕ) (ts : List Ty) → out-Ty t ≡ Nominal k ts → Has t → R k ts × AllHave ts
  nominal_has t k ts o (has_any a e) = let f : Any ≡ Nominal k ts = sym e ∙ o in cc
  nominal_has t k ts o (has_var a v e p) = let f : Var v ≡ Nominal k ts = sym e ∙ o in cc
  nominal_has t k ts o (has_union a us e h) = let f : Union us ≡ Nominal k ts = sym e ∙ o in cc
  nominal_has t k ts o (has_tuple a us e h) = let f : Tuple us ≡ Nominal k ts = sym e ∙ o in cc
  nominal_has t k ts o (has_nominal a j us e r h) =
      let f : Nominal j us ≡ Nominal k ts = sym e ∙ o in
      let i : j ≡ k = cc in
      let g : us ≡ ts = cc in
      (subst (R k) g (subst (λ z. R z us) i r), subst AllHave g h)

  -- alternatives
  append : (ts us : List Ty) → Each Has ts → Each Has us → Each Has (ts ++ us)
  append [] us e f = f
  append (t ∷ ts) us e f = (e.0, append ts us e.1 f)

  abbrev AltsHave : Ty → Type 0
  AltsHave t = Has t → Each Has (alts t)

  flat : (ts : List Ty) → Each AltsHave ts → Each Has ts → Each Has (flat_map alts ts)
  flat [] e h = tt
  flat (t ∷ ts) e h = append (alts t) (flat_map alts ts) (e.0 h.0) (flat ts e.1 h.1)

  abbrev EachList : List (List Ty) → Type 0
  EachList [] = Unit {0}
  EachList (ts ∷ tss) = Each Has ts × EachList tss

  lists_append : (ss ts : List (List Ty)) → EachList ss → EachList ts → EachList (ss ++ ts)
  lists_append [] ts e f = f
  lists_append (s ∷ ss) ts e f = (e.0, lists_append ss ts e.1 f)

  lists_cons : (a : Ty) (tss : List (List Ty)) → Has a → EachList tss → EachList (map (λ us. a ∷ us) tss)
  lists_cons a [] f e = tt
  lists_cons a (ts ∷ tss) f e = ((f, e.0), lists_cons a tss f e.1)

  lists_first : (ss : List Ty) (tss : List (List Ty)) → Each Has ss → EachList tss → EachList (flat_map (λ t. map (λ us. t ∷ us) tss) ss)
  lists_first [] tss e f = tt
  lists_first (a ∷ ss) tss e f = lists_append (map (λ us. a ∷ us) tss) (flat_map (λ t. map (λ us. t ∷ us) tss) ss) (lists_cons a tss e.0 f) (lists_first ss tss e.1 f)

  lists : (ts : List Ty) → Each AltsHave ts → Each Has ts → EachList (choices (map alts ts))
  lists [] e h = (tt, tt)
  lists (t ∷ ts) e h = lists_first (alts t) (choices (map alts ts)) (e.0 h.0) (lists ts e.1 h.1)

  tuples : (tss : List (List Ty)) → EachList tss → Each Has (map (λ us. V.Tuple us) tss)
  tuples [] e = tt
  tuples (us ∷ tss) e = (has_tuple (V.Tuple us) us (outs-Tuple us) (each_have us e.0), tuples tss e.1)

  pub alts_have : (t : Ty) → Has t → Each Has (alts t)
  alts_have = by_cases AltsHave (record {
    any = λ h. subst (Each Has) (sym alts-any) (h, tt);
    union = λ ts e h. subst (Each Has) (sym (alts-union ts)) (flat ts e (have_each ts (union_has (V.Union ts) ts (outs-Union ts) h)));
    tuple = λ ts e h. subst (Each Has) (sym (alts-tuple ts)) (tuples (choices (map alts ts)) (lists ts e (have_each ts (tuple_has (V.Tuple ts) ts (outs-Tuple ts) h))));
    nominal = λ k ts e h. subst (Each Has) (sym (alts-nominal k ts)) (h, tt);
    var = λ v h. subst (Each Has) (sym (alts-var v)) (h, tt);
  })

  module _ (n : Table) (law : Lawful n) where
    abbrev B : Ty → Ty → Type 0
    B = Below n opaque

    abbrev Same : Ty → Ty → Type 0
    Same a b = B a b × B b a

    -- an alternative that equals a type with one alternative
    record Partner (u : Ty) : Type 0 where
      pub other : Ty
      pub has : Has other
      pub alone : alts other ≡ other ∷ []
      pub under : PartBy n B other u
      pub over : PartBy n B u other

    one_below : (a b : Ty) → alts a ≡ a ∷ [] → alts b ≡ b ∷ [] → Part n opaque a b → PartBy n B a b
    one_below a b e f p =
        let c : CoverBy (Part n opaque) (a ∷ []) (b ∷ []) = another a [] (b ∷ []) (this a b [] p) (nothing (b ∷ [])) in
        below_part n a b e f (below_of n a b (subst (λ z. CoverBy (Part n opaque) z (alts b)) (sym e) (subst (λ z. CoverBy (Part n opaque) (a ∷ []) z) (sym f) c)))

    only : (a u : Ty) → SomeBy (Part n opaque) a (u ∷ []) → Part n opaque a u
    only a u (this t s us p) = p
    only a u (that t s us f) = elim f [ ]

    search_partner : (u : Ty) (ts : List Ty) → alts u ≡ u ∷ [] → Each Has ts → Each (Fine n) ts → SomeBy (Part n opaque) u ts → CoverBy (Part n opaque) ts (u ∷ []) → Partner u
    search_partner u [] e h g f c = elim f [ ]
    search_partner u (a ∷ ts) e h g (this t s us p) (another x xs ys q c) =
        record { other = a; has = h.0; alone = g.0.0; under = one_below a u g.0.0 e (only a u q); over = one_below u a e g.0.0 p }
    search_partner u (a ∷ ts) e h g (that t s us f) (another x xs ys q c) = search_partner u ts e h.1 g.1 f c

    first_of : (u : Ty) (ts : List Ty) → CoverBy (Part n opaque) (u ∷ []) ts → SomeBy (Part n opaque) u ts
    first_of u ts (another a xs ys f c) = f

    partner : (u t : Ty) → alts u ≡ u ∷ [] → Has t → Same t u → Partner u
    partner u t e h s =
        let down = subst (λ z. CoverBy (Part n opaque) z (alts t)) e (covers n u t s.1) in
        let up = subst (λ z. CoverBy (Part n opaque) (alts t) z) e (covers n t u s.0) in
        search_partner u (alts t) e (alts_have t h) (alts_fine n t) (first_of u (alts t) down) up

    module _ (equal : (k : ℕ) (xs ys : List Ty) → R k xs → Both (Ways B) xs ys → R k ys) where
      same_or : (b : Bool) → (b ≡ true) ⊎ (b ≡ false)
      same_or true = inl refl
      same_or false = inr refl

      both_ways : (xs ys : List Ty) → Both B xs ys → Both B ys xs → Both (Ways B) xs ys
      both_ways xs ys both_end both_end = both_end
      both_ways xs ys (both_more x y vs ws p r) (both_more z t us os q s) = both_more x y vs ws (p, q) (both_ways vs ws r s)

      turned : (xs ys : List Ty) → Both (Ways B) xs ys → Both (Ways B) ys xs
      turned xs ys both_end = both_end
      turned xs ys (both_more x y vs ws p r) = both_more y x ws vs (p.1, p.0) (turned vs ws r)

      -- the type u = k{ys} and a partner a
      abbrev Kids : List Ty → Type 0
      Kids ys = (xs : List Ty) → AllHave xs → Both (Ways B) xs ys → AllHave ys

      -- an upper nominal type is the same one or comes before
      upper : (u a : Ty) (k j : ℕ) (ys xs : List Ty) → out-Ty u ≡ Nominal k ys → out-Ty a ≡ Nominal j xs → nat_eq k j ≡ false → PartBy n B u a → j < k
      upper u a k j ys xs o i h (by_any t w e) = let f : Nominal j xs ≡ Any = sym i ∙ e in cc
      upper u a k j ys xs o i h (by_tuple t w vs ws d e p) = let f : Nominal k ys ≡ Tuple vs = sym o ∙ d in cc
      upper u a k j ys xs o i h (by_self t w v d e) = let f : Nominal k ys ≡ Var v = sym o ∙ d in cc
      upper u a k j ys xs o i h (by_nominal t w p q vs zs ws d e l b) =
          let f : Nominal k ys ≡ Nominal p vs = sym o ∙ d in
          let g : Nominal j xs ≡ Nominal q ws = sym i ∙ e in
          let p_is : k ≡ p = cc in
          let q_is : j ≡ q = cc in
          let h2 : nat_eq p q ≡ false = ap (λ z. nat_eq z q) (sym p_is) ∙ ap (nat_eq k) (sym q_is) ∙ h in
          let r = far n law p q vs zs h2 l in
          let below : q < p = law.falls p q r.0 h2 r.1 in
          omega arith

      nominal_inherits : (u a : Ty) (k : ℕ) (ys : List Ty) → out-Ty u ≡ Nominal k ys → Kids ys → Has a → PartBy n B a u → PartBy n B u a → Has u
      nominal_inherits u a k ys o kids h p (by_any t w e) = subst Has (any_same n law a u e p) h
      nominal_inherits u a k ys o kids h p (by_tuple t w vs ws d e q) = let f : Nominal k ys ≡ Tuple vs = sym o ∙ d in cc
      nominal_inherits u a k ys o kids h p (by_self t w v d e) = let f : Nominal k ys ≡ Var v = sym o ∙ d in cc
      nominal_inherits u a k ys o kids h p (by_nominal t w i j vs zs xs d e l q) =
          let f : Nominal k ys ≡ Nominal i vs = sym o ∙ d in
          let i_is : i ≡ k = cc in
          let v_is : vs ≡ ys = cc in
          let g = nominal_has a j xs e h in
          elim (same_or (nat_eq i j)) [
            | inl s ↦
                let z : vs ≡ zs = near n law i j vs zs s l in
                let j_is : j ≡ k = sym (eq_of i j s) ∙ i_is in
                let back : Both (Ways B) xs ys = turned ys xs (subst (λ y. Both (Ways B) y xs) (sym z ∙ v_is) q) in
                has_nominal u k ys o (equal k xs ys (subst (λ y. R y xs) j_is g.0) back) (kids xs g.1 back)
            | inr s ↦
                let up : j < i = (let r = far n law i j vs zs s l in law.falls i j r.0 s r.1) in
                let down : i < j = upper a u j i xs vs e (o ∙ ap (λ z. Nominal z ys) (sym i_is) ∙ ap (λ z. Nominal i z) (sym v_is)) (flip i j s) p in
                absurd (omega arith)
          ]

      tuple_parts : (a b : Ty) (xs ys : List Ty) → out-Ty a ≡ Tuple xs → out-Ty b ≡ Tuple ys → PartBy n B a b → Both B xs ys
      tuple_parts a b xs ys o i (by_any t u e) = let f : Tuple ys ≡ Any = sym i ∙ e in cc
      tuple_parts a b xs ys o i (by_tuple t u vs ws d e p) =
          let f : Tuple xs ≡ Tuple vs = sym o ∙ d in
          let g : Tuple ys ≡ Tuple ws = sym i ∙ e in
          let v : vs ≡ xs = cc in
          let w : ws ≡ ys = cc in
          subst (λ z. Both B z ys) v (subst (λ z. Both B vs z) w p)
      tuple_parts a b xs ys o i (by_nominal t u k m vs zs ws d e l p) = let f : Tuple xs ≡ Nominal k vs = sym o ∙ d in cc
      tuple_parts a b xs ys o i (by_self t u v d e) = let f : Tuple xs ≡ Var v = sym o ∙ d in cc

      tuple_inherits : (u a : Ty) (ys : List Ty) → out-Ty u ≡ Tuple ys → Kids ys → Has a → PartBy n B a u → PartBy n B u a → Has u
      tuple_inherits u a ys o kids h p (by_any t w e) = subst Has (any_same n law a u e p) h
      tuple_inherits u a ys o kids h p (by_nominal t w i j vs zs xs d e l q) = let f : Tuple ys ≡ Nominal i vs = sym o ∙ d in cc
      tuple_inherits u a ys o kids h p (by_self t w v d e) = let f : Tuple ys ≡ Var v = sym o ∙ d in cc
      tuple_inherits u a ys o kids h p (by_tuple t w vs xs d e q) =
          let f : Tuple ys ≡ Tuple vs = sym o ∙ d in
          let v_is : vs ≡ ys = cc in
          has_tuple u ys o (kids xs (tuple_has a xs e h) (both_ways xs ys (tuple_parts a u xs ys e o p) (subst (λ z. Both B z xs) v_is q)))

      -- a member of a union in normal form equals an alternative
      member_partner : (t : Ty) (us : List Ty) → Has t → AllNormal n us → list_all is_single us ≡ true → Members n us → Same t (V.Union us) → (w : Ty) → In w us → (a : Ty) × Has a × Same a w
      member_partner t us h nu su mu s w i =
          let alone_w = single_alts n w (all_in n us w nu i) (single_in w us su i) in
          let down = subst (λ z. CoverBy (Part n opaque) z (alts t)) alone_w (covers n w t (each_in n w t us (below_union n us t s.1) i)) in
          pick (alts t) (alts_have t h) (alts_fine n t) (first_of w (alts t) down) (covers n t (V.Union us) s.0)
        where
          some_member : (a : Ty) → alts a ≡ a ∷ [] → SomeBy (Part n opaque) a (alts (V.Union us)) → (u : Ty) × In u us × B a u
          some_member a e f =
              let c : CoverBy (Part n opaque) (a ∷ []) (alts (V.Union us)) = another a [] (alts (V.Union us)) f (nothing (alts (V.Union us))) in
              let b : B a (V.Union us) = below_of n a (V.Union us) (subst (λ z. CoverBy (Part n opaque) z (alts (V.Union us))) (sym e) c) in
              some_in n a us (below_some n a us e b)

          pick : (ts : List Ty) → Each Has ts → Each (Fine n) ts → SomeBy (Part n opaque) w ts → CoverBy (Part n opaque) ts (alts (V.Union us)) → (a : Ty) × Has a × Same a w
          pick [] e f g c = elim g [ ]
          pick (a ∷ ts) e f (this x y ys p) (another x2 xs ys2 q c) =
              let alone_w = single_alts n w (all_in n us w nu i) (single_in w us su i) in
              let low : B w a = part_below n w a alone_w f.0.0 (one_below w a alone_w f.0.0 p) in
              let r = some_member a f.0.0 q in
              let same : w ≡ r.0 = members_same n w r.0 us mu i r.1 (below_trans n law w a r.0 low r.2) in
              (a, e.0, (subst (λ z. B a z) (sym same) r.2, low))
          pick (a ∷ ts) e f (that x y ys g) (another x2 xs ys2 q c) = pick ts e.1 f.1 g c

      mutual
        pub inherits : (u : Ty) → IsNormal n u → (t : Ty) → Has t → Same t u → Has u
        inherits u (any a e) t h s = has_any u e
        inherits u (var a v e) t h s =
            let r = partner u t (single_alts n u (var u v e) (ap no_union e)) h s in
            subst Has (sym (var_same n law u r.other v e r.over r.under)) r.has
        inherits u (nominal a k ys e g) t h s =
            let r = partner u t (single_alts n u (nominal u k ys e g) (ap no_union e)) h s in
            nominal_inherits u r.other k ys e (λ xs j w. all_inherit ys g xs j w) r.has r.under r.over
        inherits u (tuple a ys e g o) t h s =
            let r = partner u t (single_alts n u (tuple u ys e g o) (ap no_union e)) h s in
            tuple_inherits u r.other ys e (λ xs j w. all_inherit ys g xs j w) r.has r.under r.over
        inherits u (union a us e g o m l) t h s =
            let is = is_union u us e in
            has_union u us e (members_inherit us g (member_partner t us h g o m (subst (λ z. B t z) is s.0, subst (λ z. B z t) is s.1)))

        all_inherit : (ys : List Ty) → AllNormal n ys → (xs : List Ty) → AllHave xs → Both (Ways B) xs ys → AllHave ys
        all_inherit ys none xs h both_end = have_none
        all_inherit ys (more y vs g gs) xs have_none w = elim w [ ]
        all_inherit ys (more y vs g gs) xs (have_more x us h hs) (both_more p q ps qs w r) = have_more y vs (inherits y g x h w) (all_inherit vs gs us hs r)

        members_inherit : (us : List Ty) → AllNormal n us → ((w : Ty) → In w us → (a : Ty) × Has a × Same a w) → AllHave us
        members_inherit us none f = have_none
        members_inherit us (more w ws g gs) f =
            let r = f w (first w ws refl) in
            have_more w ws (inherits w g r.0 r.1 r.2) (members_inherit ws gs (λ z i. f z (later w ws i)))
