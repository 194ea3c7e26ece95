-- The types that serve for a row are those that stand at the places of a variable in the signature as it is written.
use Rattle.std.proofs.Common.{◌≡◌, ◌∙◌, sym, ap, subst, refl, ℕ, ◌<◌, cond, nat_eq, List, [], ◌∷◌, map, None, Some, inl}
use Rattle.std.specs.List.{flat_map}
use Rattle.jl_model.specs.declared.ty.Ty.{Ty}
use Rattle.jl_model.specs.declared.ty.Ty.TheOpen.{Any, Tuple, Nominal, Var}
use Rattle.jl_model.specs.declared.ty.Ty.TheViews.{out-Ty, outs-Nominal}
use Rattle.jl_model.specs.declared.ty.Ty.TheViews as V
use Rattle.jl_model.specs.declared.ty.Ty.TheVariants as W
use Rattle.jl_model.specs.declared.ty.Decl.{Decl}
use Rattle.jl_model.specs.declared.ty.Written.{Written}
use Rattle.jl_model.specs.Ancestors.{table_of}
use Rattle.jl_model.specs.Kinds.{diagonal, once}
use Rattle.jl_model.specs.Rows.{alts, choices, forms, width, high, kind, root, place_of, vars_in}
use Rattle.jl_model.specs.Subtype.{Table, opaque, put, lifted, Below, Covered, Found, Part, Equals, Equal, below, none as nothing, more, here, there}
use Rattle.jl_model.specs.Signature.{Both, both_end, both_more}
use Rattle.jl_model.specs.Found.{first, raised, parts_of, or_none, ancestor, find_arg, find_inner, find_outer, outer, inner}
use Rattle.jl_model.specs.Refusals.{Declared}
use Rattle.jl_model.proofs.TypeInduction.{Each}
use Rattle.jl_model.proofs.FormLemmas.{is_any, is_union, is_tuple, is_nominal, is_var, alts-nominal, put-tuple, put-nominal, put-var, vars-tuple, vars-var}
use Rattle.jl_model.proofs.HeightLemmas.{PartBy, by_any, by_tuple, by_nominal, by_self, equals_of}
use Rattle.jl_model.proofs.BelowLemmas.{below_part}
use Rattle.jl_model.proofs.DeclaredLemmas.{declared_lawful}
use Rattle.jl_model.proofs.SelfLemmas.{Fine, alts_fine}
use Rattle.jl_model.proofs.TransLemmas.{below_trans}
use Rattle.jl_model.proofs.NormalLemmas.{In as Among, first as among_first, later as among_later}
use Rattle.jl_search.specs.Open.{AreOpen}
use Rattle.jl_match.proofs.ListLemmas.{In, in_left, in_right}
use Rattle.jl_search.proofs.GoodLemmas.{Good, good_map, good_both, good_same, bare_good, at_var}
use Rattle.jl_search.proofs.FindLemmas as L
use Rattle.jl_search.proofs.OpenFound.{args_good}
use Rattle.jl_match.proofs.TupleLemmas.{below_tuple, each_in}
use Rattle.jl_match.proofs.SubstLemmas.{put_below, tuples_in}
use Rattle.jl_match.proofs.ConcreteLemmas.{Concrete, concrete_lone, concrete_turns}
use Rattle.jl_match.proofs.KindLemmas.{Comp, comp_any, comp_var, comp_union, comp_tuple, comp_nominal, Comps, comps_end, comps_more}
use Rattle.jl_match.proofs.RowForms.{choices_by, only}
use Rattle.jl_types.proofs.FormEquations.{forms-tuple, forms-nominal, forms-var}
use Rattle.jl_match.proofs.FitLemmas.{both_put}
use Rattle.jl_match.proofs.RowLemmas.{IsLeft, each_unit, left_forms}

-- an alternative is below its type
module _ (n : Table) where
  among_found : (a : Ty) (us : List Ty) → Part n opaque a a → Among a us → Found n opaque a us
  among_found a us p (among_first y ys e) = here opaque a y ys (subst (Part n opaque a) e p)
  among_found a us p (among_later y ys i) = there opaque a y ys (among_found a ys p i)

  alternative_below : (t a : Ty) → Among a (alts t) → Below n opaque a t
  alternative_below t a i =
      let f = each_in (Fine n) a (alts t) (alts_fine n t) i in
      below opaque a t (subst (λ z. Covered n opaque z (alts t)) (sym f.0) (more opaque a [] (alts t) (among_found a (alts t) f.1 i) (nothing opaque (alts t))))

module _ (ds : List Decl) (declared : Declared ds) (s : Written) (f : ℕ → Ty) (v : ℕ) where
  abbrev n : Table
  n = table_of ds

  -- the types put for variables and atoms
  abbrev F : ℕ → Ty
  F w = f (root s w)

  abbrev Same : Ty → Type 0
  Same y = Equal n y (F v)

  abbrev at : ℕ → List Ty
  at w = place_of s w (kind s w)

  abbrev G : Ty → List Ty
  G = forms at

  abbrev B : Ty → Ty → Type 0
  B t u = Below n opaque t (put F u)

  nominal_good : (u : Ty) (k : ℕ) (ts : List Ty) → out-Ty u ≡ Nominal k ts → AreOpen ts → (x : Ty) → IsLeft n x → PartBy n (Below n opaque) x (V.Nominal k (map (put F) ts)) → Good Same v (find_inner n opaque v u x) (inner u)
  nominal_good u k ts o p x h (by_any a c i) = let e : Nominal k (map (put F) ts) ≡ Any = sym (outs-Nominal k (map (put F) ts)) ∙ i in cc
  nominal_good u k ts o p x h (by_tuple a c xs ws i l q) = let e : Nominal k (map (put F) ts) ≡ Tuple ws = sym (outs-Nominal k (map (put F) ts)) ∙ l in cc
  nominal_good u k ts o p x h (by_self a c w i l) = let e : Nominal k (map (put F) ts) ≡ Var w = sym (outs-Nominal k (map (put F) ts)) ∙ l in cc
  nominal_good u k ts o p x h (by_nominal a c j m xs zs ws i l q z) =
      let e : Nominal k (map (put F) ts) ≡ Nominal m ws = sym (outs-Nominal k (map (put F) ts)) ∙ l in
      let g : m ≡ k = cc in
      let r : ws ≡ map (put F) ts = cc in
      let lift : lifted n j xs k ≡ Some zs = ap (lifted n j xs) (sym g) ∙ q in
      let left = left_forms ds declared in
      let d = is_nominal u k ts o in
      let a = left.argument j k xs zs (subst (IsLeft n) (is_nominal x j xs i) h) lift in
      good_same Same v (find_inner n opaque v u x) (first (map (find_arg v) ts) zs) (inner u) (flat_map vars_in ts)
      (ap (λ y. find_inner n opaque v y x) d ∙ L.inner-find-nominal n opaque v x k ts ∙ ap (λ y. first (map (find_arg v) ts) (ancestor n k (raised opaque y))) i
      ∙ ap (λ y. first (map (find_arg v) ts) (or_none y)) lift)
      (ap inner d ∙ L.inner-nominal k ts)
      (good_map (λ y. Same y × Unit {0}) Same v (λ y q. q.0) (first (map (find_arg v) ts) zs) (flat_map vars_in ts)
      (args_good ds declared F v (λ y. Unit {0}) (λ m xs h. each_unit xs) ts p zs a.0 a.1 (subst (Equals n zs) r (equals_of n zs ws z))))

  mutual
    inner_good : (u : Ty) → Comp s u → (a : Ty) → Among a (G u) → (x : Ty) → IsLeft n x → B x a → Good Same v (find_inner n opaque v u x) (inner u)
    inner_good u (comp_any t o) a i x h b =
        let m = is_any u o in
        bare_good Same v (find_inner n opaque v u x) (inner u) (ap (λ z. find_inner n opaque v z x) m ∙ L.inner-find-any n opaque v x) (ap inner m ∙ L.inner-any)
    inner_good u (comp_var t w o l) a i x h b =
        let m = is_var u w o in
        bare_good Same v (find_inner n opaque v u x) (inner u) (ap (λ z. find_inner n opaque v z x) m ∙ L.inner-find-var n opaque v x w) (ap inner m ∙ L.inner-var w)
    inner_good u (comp_union t ts o p) a i x h b =
        let m = is_union u ts o in
        bare_good Same v (find_inner n opaque v u x) (inner u) (ap (λ z. find_inner n opaque v z x) m ∙ L.inner-find-union n opaque v x ts) (ap inner m ∙ L.inner-union ts)
    inner_good u (comp_tuple t ts o p) a i x h b =
        let m = is_tuple u ts o in
        let r = tuples_in a (choices (map G ts)) (subst (Among a) (ap G m ∙ forms-tuple at ts) i) in
        let q = below_tuple n (declared_lawful ds declared) x (map (put F) r.0) (concrete_lone n x h.concrete) (subst (Below n opaque x) (ap (put F) r.1 ∙ put-tuple F r.0) b) in
        let left = left_forms ds declared in
        let k : Each (IsLeft n) q.0 = left.part q.0 (subst (IsLeft n) (is_tuple x q.0 q.1) h) in
        good_same Same v (find_inner n opaque v u x) (first (map (find_inner n opaque v) ts) q.0) (inner u) (flat_map inner ts)
        (ap (λ z. find_inner n opaque v z x) m ∙ L.inner-find-tuple n opaque v x ts ∙ ap (λ z. first (map (find_inner n opaque v) ts) (parts_of (raised opaque z))) q.1)
        (ap inner m ∙ L.inner-tuple ts)
        (inners_good ts p r.0 (choices_by G r.0 ts r.2) q.0 k (both_put ds declared s f q.0 r.0 q.2))
    inner_good u (comp_nominal t k ts o p e) a i x h b =
        let m : a ≡ V.Nominal k ts = only a (V.Nominal k ts) (subst (Among a) (ap G (is_nominal u k ts o) ∙ forms-nominal at k ts) i) in
        let w = map (put F) ts in
        nominal_good u k ts o p x h (below_part n x (V.Nominal k w) (concrete_lone n x h.concrete) (alts-nominal k w) (subst (Below n opaque x) (ap (put F) m ∙ put-nominal F k ts) b))

    pub inners_good : (us : List Ty) → Comps s us → (as_ : List Ty) → Both (λ a w. Among a (G w)) as_ us → (xs : List Ty) → Each (IsLeft n) xs → Both B xs as_
        → Good Same v (first (map (find_inner n opaque v) us) xs) (flat_map inner us)
    inners_good us comps_end as_ both_end xs h b = tt
    inners_good us (comps_more u ws p q) as_ (both_more a w cs vs i j) xs h (both_more x c ys ds_ b d) =
        good_both Same v (find_inner n opaque v u x) (first (map (find_inner n opaque v) ws) ys) (inner u) (flat_map inner ws)
        (inner_good u p a i x h.0 b) (inners_good ws q cs j ys h.1 d)

  -- at the covariant places, where `at_place` says what is known of a type at a place of v: P, given Q if v stands in the row there
  module _ (P : Ty → Type 0) (Q : Type 0) (at_place : (w : ℕ) → w < width s → v ≡ w → (a : Ty) → Among a (at w) → (In v (vars_in a) → Q) → (x : Ty) → IsLeft n x → B x a → P x) where
    abbrev Sure : List ℕ → Type 0
    Sure ns = In v ns → Q

    mutual
      outer_good : (u : Ty) → Comp s u → (a : Ty) → Among a (G u) → Sure (vars_in a) → (x : Ty) → IsLeft n x → B x a → Good P v (find_outer opaque v u x) (outer u)
      outer_good u (comp_any t o) a i c x h b =
          let m = is_any u o in
          bare_good P v (find_outer opaque v u x) (outer u) (ap (λ z. find_outer opaque v z x) m ∙ L.outer-find-any opaque v x) (ap outer m ∙ L.outer-any)
      outer_good u (comp_var t w o l) a i c x h b =
          let m = is_var u w o in
          good_same P v (find_outer opaque v u x) (cond (nat_eq v w) (Some x) None) (outer u) (w ∷ [])
          (ap (λ z. find_outer opaque v z x) m ∙ L.outer-find-var opaque v x w) (ap outer m ∙ L.outer-var w)
          (at_var P v w x (nat_eq v w) refl (λ e. at_place w l e a (subst (Among a) (ap G m ∙ forms-var at w) i) c x h b))
      outer_good u (comp_union t ts o p) a i c x h b =
          let m = is_union u ts o in
          bare_good P v (find_outer opaque v u x) (outer u) (ap (λ z. find_outer opaque v z x) m ∙ L.outer-find-union opaque v x ts) (ap outer m ∙ L.outer-union ts)
      outer_good u (comp_tuple t ts o p) a i c x h b =
          let m = is_tuple u ts o in
          let r = tuples_in a (choices (map G ts)) (subst (Among a) (ap G m ∙ forms-tuple at ts) i) in
          let q = below_tuple n (declared_lawful ds declared) x (map (put F) r.0) (concrete_lone n x h.concrete) (subst (Below n opaque x) (ap (put F) r.1 ∙ put-tuple F r.0) b) in
          let left = left_forms ds declared in
          let k : Each (IsLeft n) q.0 = left.part q.0 (subst (IsLeft n) (is_tuple x q.0 q.1) h) in
          let g : Sure (flat_map vars_in r.0) = λ j. c (subst (In v) (sym (ap vars_in r.1 ∙ vars-tuple r.0)) j) in
          good_same P v (find_outer opaque v u x) (first (map (find_outer opaque v) ts) q.0) (outer u) (flat_map outer ts)
          (ap (λ z. find_outer opaque v z x) m ∙ L.outer-find-tuple opaque v x ts ∙ ap (λ z. first (map (find_outer opaque v) ts) (parts_of (raised opaque z))) q.1)
          (ap outer m ∙ L.outer-tuple ts)
          (outers_good ts p r.0 (choices_by G r.0 ts r.2) g q.0 k (both_put ds declared s f q.0 r.0 q.2))
      outer_good u (comp_nominal t k ts o p e) a i c x h b =
          let m = is_nominal u k ts o in
          bare_good P v (find_outer opaque v u x) (outer u) (ap (λ z. find_outer opaque v z x) m ∙ L.outer-find-nominal opaque v x k ts) (ap outer m ∙ L.outer-nominal k ts)

      pub outers_good : (us : List Ty) → Comps s us → (as_ : List Ty) → Both (λ a w. Among a (G w)) as_ us → Sure (flat_map vars_in as_) → (xs : List Ty) → Each (IsLeft n) xs → Both B xs as_
          → Good P v (first (map (find_outer opaque v) us) xs) (flat_map outer us)
      outers_good us comps_end as_ both_end c xs h b = tt
      outers_good us (comps_more u ws p q) as_ (both_more a w cs vs i j) g xs h (both_more x c ys ds_ b d) =
          good_both P v (find_outer opaque v u x) (first (map (find_outer opaque v) ws) ys) (outer u) (flat_map outer ws)
          (outer_good u p a i (λ k. g (in_left v (vars_in a) (flat_map vars_in cs) k)) x h.0 b)
          (outers_good ws q cs j (λ k. g (in_right v (vars_in a) (flat_map vars_in cs) k)) ys h.1 d)

  module _ (is_diag : kind s v ≡ diagonal) where
    -- a type at a place of a diagonal variable equals what is put for it, if that is concrete
    same_at : (w : ℕ) → w < width s → v ≡ w → (a : Ty) → Among a (at w) → (In v (vars_in a) → Concrete n (F v)) → (x : Ty) → IsLeft n x → B x a → Same x
    same_at w l e a i c x h b =
        let d : kind s w ≡ diagonal = ap (kind s) (sym e) ∙ is_diag in
        let m : a ≡ W.Var w = only a (W.Var w) (subst (λ k. Among a (place_of s w k)) d i) in
        let r : F w ≡ F v = ap F (sym e) in
        let y : Below n opaque x (F v) = subst (Below n opaque x) (ap (put F) m ∙ put-var F w ∙ r) b in
        let k : Concrete n (F v) = c (subst (In v) (sym (ap vars_in m ∙ vars-var w)) (inl e)) in
        (y, concrete_turns ds declared (F v) k x h.concrete y)

    pub diagonals_good : (us : List Ty) → Comps s us → (as_ : List Ty) → Both (λ a w. Among a (G w)) as_ us → (In v (flat_map vars_in as_) → Concrete n (F v)) → (xs : List Ty) → Each (IsLeft n) xs → Both B xs as_
        → Good Same v (first (map (find_outer opaque v) us) xs) (flat_map outer us)
    diagonals_good = outers_good Same (Concrete n (F v)) same_at

  module _ (is_once : kind s v ≡ once) where
    -- a type at the place of a variable with one place is below its upper bound, with the types put for the variables in it
    below_at : (w : ℕ) → w < width s → v ≡ w → (a : Ty) → Among a (at w) → (In v (vars_in a) → Unit {0}) → (x : Ty) → IsLeft n x → B x a → Below n opaque x (put F (high s v))
    below_at w l e a i c x h b =
        let o : kind s w ≡ once = ap (kind s) (sym e) ∙ is_once in
        let j : Among a (alts (high s w)) = subst (λ k. Among a (place_of s w k)) o i in
        let k : Among a (alts (high s v)) = subst (λ z. Among a (alts (high s z))) (sym e) j in
        let law = declared_lawful ds declared in
        below_trans n law x (put F a) (put F (high s v)) b (put_below n law F a (high s v) (alternative_below n (high s v) a k))

    pub onces_good : (us : List Ty) → Comps s us → (as_ : List Ty) → Both (λ a w. Among a (G w)) as_ us → (xs : List Ty) → Each (IsLeft n) xs → Both B xs as_
        → Good (λ y. Below n opaque y (put F (high s v))) v (first (map (find_outer opaque v) us) xs) (flat_map outer us)
    onces_good us p as_ b xs h d = outers_good (λ y. Below n opaque y (put F (high s v))) (Unit {0}) below_at us p as_ b (λ i. tt) xs h d
