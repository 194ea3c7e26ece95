-- Below is kept where types are put for variables that lie between their bounds.
use Rattle.std.proofs.Common.{◌≡◌, ◌∙◌, sym, ap, subst, refl, ℕ, Bool, true, false, nat_eq, List, [], ◌∷◌, map, Some, ◌⊎◌, inl, inr}
use Rattle.jl_model.specs.declared.ty.Ty.{Ty}
use Rattle.jl_model.specs.declared.ty.Ty.TheOpen.{Any, Tuple, Nominal, Var}
use Rattle.jl_model.specs.declared.ty.Ty.TheViews.{out-Ty, outs-Any, outs-Tuple, outs-Nominal}
use Rattle.jl_model.specs.declared.ty.Ty.TheViews as V
use Rattle.jl_model.specs.declared.ty.Ty.TheVariants as W
use Rattle.jl_model.specs.Rows.{alts, vars_in}
use Rattle.jl_model.specs.Signature.{Both, both_end, both_more}
use Rattle.jl_model.specs.Subtype.{Table, Fixed, opaque, put, at, put_in, lifted, Below, Covered, Found, Part, Parts, Equals, below, none, more, here, there, raise, any, tuple, nominal, self, own, under, parts_end, parts_more, equals_end, equals_more}
use Rattle.jl_model.proofs.TypeInduction.{Each, by_cases}
use Rattle.jl_model.proofs.FormLemmas.{is_any, is_tuple, is_nominal, is_var, alts-union, alts-nominal, put-any, put-union, put-tuple, put-nominal, put-var, vars-tuple, vars-var}
use Rattle.jl_model.proofs.PutLemmas.{put_all-put, at-map}
use Rattle.jl_model.proofs.SelfLemmas.{below_self}
use Rattle.jl_model.proofs.AncestorLemmas.{Lawful}
use Rattle.jl_model.proofs.HeightLemmas.{found_any, part_any}
use Rattle.jl_model.proofs.BelowLemmas.{below_any}
use Rattle.jl_model.proofs.TransLemmas.{below_trans, near, far}
use Rattle.jl_search.proofs.HasLemmas.{Has, Picks, has_map, map_has, has_flat}
use Rattle.jl_subsume.proofs.FormsLemmas.{union_form, form_union, tuple_form, form_tuple, any_form, nominal_form, var_form, form_any, form_nominal, form_var}
use Rattle.jl_search.proofs.LiftLemmas.{each_has, found_in, below_found, found_below, single_found, alt_fine, alt_below, part_single}
use Rattle.jl_subsume.proofs.ScopeLemmas.{alts_within}

-- each alternative of a type with types put in comes from an alternative of the type, and back
abbrev alone : ℕ → List Ty
alone v = W.Var v ∷ []

module _ (f : ℕ → Ty) where
  abbrev Comes : Ty → Type 0
  Comes t = (c : Ty) → Has (alts (put f t)) c → (a : Ty) × Has (alts t) a × Has (alts (put f a)) c

  picks_come : (ts : List Ty) → Each Comes ts → (us : List Ty) → Picks us (map alts (map (put f) ts)) → (as_ : List Ty) × Picks as_ (map alts ts) × Picks us (map alts (map (put f) as_))
  picks_come [] e [] p = ([], tt, tt)
  picks_come [] e (u ∷ us) p = absurd p
  picks_come (t ∷ ts) e [] p = absurd p
  picks_come (t ∷ ts) e (u ∷ us) p =
      let r = e.0 u p.0 in
      let q = picks_come ts e.1 us p.1 in
      (r.0 ∷ q.0, (r.1, q.1), (r.2, q.2))

  pub comes : (t : Ty) → Comes t
  comes = by_cases Comes (record {
    any = λ c h. (W.Any, form_any alone, h);
    union = λ ts e c h.
        let r = union_form alone (map (put f) ts) c (subst (λ z. Has (alts z) c) (put-union f ts) h) in
        let q = map_has (put f) ts r.0 r.1 in
        let p = each_has Comes ts e q.0 q.1 c (subst (λ z. Has (alts z) c) (sym q.2) r.2) in
        (p.0, form_union alone ts q.0 p.0 q.1 p.1, p.2);
    tuple = λ ts e c h.
        let r = tuple_form alone (map (put f) ts) c (subst (λ z. Has (alts z) c) (put-tuple f ts) h) in
        let q = picks_come ts e r.0 r.1 in (
          V.Tuple q.0,
          form_tuple alone ts q.0 q.1,
          subst (λ z. Has (alts z) c) (sym (put-tuple f q.0)) (subst (λ z. Has (alts (V.Tuple (map (put f) q.0))) z) r.2 (form_tuple alone (map (put f) q.0) r.0 q.2)),
        );
    nominal = λ k ts e c h. (V.Nominal k ts, form_nominal alone k ts, h);
    var = λ v c h. (W.Var v, form_var alone v (W.Var v) (inl refl), h);
  })

  abbrev Goes : Ty → Type 0
  Goes t = (a c : Ty) → Has (alts t) a → Has (alts (put f a)) c → Has (alts (put f t)) c

  picks_go : (ts : List Ty) → Each Goes ts → (as_ cs : List Ty) → Picks as_ (map alts ts) → Picks cs (map alts (map (put f) as_)) → Picks cs (map alts (map (put f) ts))
  picks_go [] e [] cs p q = q
  picks_go [] e (a ∷ as_) cs p q = absurd p
  picks_go (t ∷ ts) e [] cs p q = absurd p
  picks_go (t ∷ ts) e (a ∷ as_) [] p q = absurd q
  picks_go (t ∷ ts) e (a ∷ as_) (c ∷ cs) p q = (e.0 a c p.0 q.0, picks_go ts e.1 as_ cs p.1 q.1)

  pub goes : (t : Ty) → Goes t
  goes = by_cases Goes (record {
    any = λ a c h i. subst (λ z. Has (alts (put f z)) c) (sym (any_form alone a h)) i;
    union = λ ts e a c h i.
        let r = union_form alone ts a h in
        let j = each_has Goes ts e r.0 r.1 a c r.2 i in
        subst (λ z. Has (alts z) c) (sym (put-union f ts)) (form_union alone (map (put f) ts) (put f r.0) c (has_map (put f) ts r.0 r.1) j);
    tuple = λ ts e a c h i.
        let r = tuple_form alone ts a h in
        let j : Has (alts (put f (V.Tuple r.0))) c = subst (λ z. Has (alts (put f z)) c) (sym r.2) i in
        let q = tuple_form alone (map (put f) r.0) c (subst (λ z. Has (alts z) c) (put-tuple f r.0) j) in
        subst (λ z. Has (alts z) c) (sym (put-tuple f ts))
        (subst (λ z. Has (alts (V.Tuple (map (put f) ts))) z) q.2 (form_tuple alone (map (put f) ts) q.0 (picks_go ts e r.0 q.0 r.1 q.1)));
    nominal = λ k ts e a c h i. subst (λ z. Has (alts (put f z)) c) (sym (nominal_form alone k ts a h)) i;
    var = λ v a c h i. subst (λ z. Has (alts (put f z)) c) (elim (var_form alone v a h) [ inl e ↦ sym e | inr b ↦ absurd b ]) i;
  })

module _ (n : Table) where
  abbrev B : Ty → Ty → Type 0
  B = Below n opaque

  -- with nothing known of the variables, what is found is below one of the list
  any_some : (us : List Ty) → Found n opaque W.Any us → (b : Ty) × Has us b × (out-Ty b ≡ Any)
  any_some us (here g t u vs p) = (u, inl refl, part_any n u p)
  any_some us (there g t u vs f) = let r = any_some vs f in (r.0, inr r.1, r.2)
  any_some us (raise g t v vs e c) = let k : Any ≡ Var v = sym outs-Any ∙ e in cc

  pub found_some : (t : Ty) (us : List Ty) → Found n opaque t us → (b : Ty) × Has us b × Part n opaque t b
  found_some t us (here g a u vs p) = (u, inl refl, p)
  found_some t us (there g a u vs f) = let r = found_some t vs f in (r.0, inr r.1, r.2)
  found_some t us (raise g a v vs e c) = let r = any_some us (found_any n us c) in (r.0, r.1, any opaque t r.0 r.2)

  pub parts_of_both : (xs ys : List Ty) → Both B xs ys → Parts n opaque xs ys
  parts_of_both xs ys both_end = parts_end opaque
  parts_of_both xs ys (both_more x y vs ws p r) = parts_more opaque x y vs ws p (parts_of_both vs ws r)

  pub none_below : (u : Ty) → B (V.Union []) u
  none_below u = below opaque (V.Union []) u (subst (λ z. Covered n opaque z (alts u)) (sym (alts-union [])) (none opaque (alts u)))

  -- an alternative below a type is below one of its alternatives
  pub alt_some : (c u : Ty) → alts c ≡ c ∷ [] → B c u → (b : Ty) × Has (alts u) b × B c b
  alt_some c u e p =
      let r = found_some c (alts u) (single_found n opaque c u e p) in
      (r.0, r.1, part_single n opaque c r.0 e (alt_fine n opaque u r.0 r.1).0 r.2)

  module _ (law : Lawful n) where
    pick_above : (xs ys : List Ty) → Both B xs ys → (cs : List Ty) → Picks cs (map alts xs) → (bs : List Ty) × Picks bs (map alts ys) × Both B cs bs
    pick_above xs ys both_end [] p = ([], tt, both_end)
    pick_above xs ys both_end (c ∷ cs) p = absurd p
    pick_above xs ys (both_more x y vs ws b r) [] p = absurd p
    pick_above xs ys (both_more x y vs ws b r) (c ∷ cs) p =
        let f = alt_fine n opaque x c p.0 in
        let s = alt_some c y f.0 (below_trans n law c x y (alt_below n opaque x c p.0) b) in
        let q = pick_above vs ws r cs p.1 in
        (s.0 ∷ q.0, (s.1, q.1), both_more c s.0 cs q.0 s.2 q.2)

    -- tuples, part by part
    pub tuple_below : (xs ys : List Ty) → Both B xs ys → B (V.Tuple xs) (V.Tuple ys)
    tuple_below xs ys b = found_below n opaque (V.Tuple xs) (V.Tuple ys) (λ c h.
        let r = tuple_form alone xs c h in
        let q = pick_above xs ys b r.0 r.1 in
        subst (λ z. Found n opaque z (alts (V.Tuple ys))) r.2
        (found_in n opaque (alts (V.Tuple ys)) (V.Tuple r.0) (V.Tuple q.0) (form_tuple alone ys q.0 q.1)
        (tuple opaque (V.Tuple r.0) (V.Tuple q.0) r.0 q.0 (outs-Tuple r.0) (outs-Tuple q.0) (parts_of_both r.0 q.0 q.2))))

    -- what comes of a type lies below what each of its alternatives comes to, and above it
    pub put_from : (f : ℕ → Ty) (t w : Ty) → ((a : Ty) → Has (alts t) a → B (put f a) w) → B (put f t) w
    put_from f t w k = found_below n opaque (put f t) w (λ c h. let r = comes f t c h in below_found n opaque (put f r.0) w c (k r.0 r.1) r.2)

    pub put_to : (f : ℕ → Ty) (t a : Ty) → Has (alts t) a → B (put f a) (put f t)
    put_to f t a h = found_below n opaque (put f a) (put f t) (λ c i. found_in n opaque (alts (put f t)) c c (goes f t a c h i) (alt_fine n opaque (put f a) c i).1)

    -- ancestors of a type with types put in
    same_or : (b : Bool) → (b ≡ true) ⊎ (b ≡ false)
    same_or true = inl refl
    same_or false = inr refl

    put_through : (f : ℕ → Ty) (xs zs : List Ty) → map (put f) (map (put (at xs)) zs) ≡ map (put (at (map (put f) xs))) zs
    put_through f xs zs = put_all-put f (at xs) zs ∙ ap (λ h. map (put h) zs) (fun_is (λ v. put f (at xs v)) (at (map (put f) xs)) (λ v. sym (at-map f xs v)))
      where
        fun_is : (h k : ℕ → Ty) → ((v : ℕ) → h v ≡ k v) → h ≡ k
        fun_is h k e = λ i v. e v i

    pub lifted_put : (f : ℕ → Ty) (k m : ℕ) (xs zs : List Ty) → lifted n k xs m ≡ Some zs → lifted n k (map (put f) xs) m ≡ Some (map (put f) zs)
    lifted_put f k m xs zs e = elim (same_or (nat_eq k m)) [
      | inl t ↦
          let s : xs ≡ zs = near n law k m xs zs t e in
          let a : lifted n k (map (put f) xs) m ≡ Some (map (put f) xs) = rw t refl in
          a ∙ ap (λ z. Some (map (put f) z)) s
      | inr o ↦
          let r = far n law k m xs zs o e in
          let a : lifted n k (map (put f) xs) m ≡ put_in (map (put f) xs) (n.up k m) = rw o refl in
          a ∙ ap (put_in (map (put f) xs)) r.1 ∙ ap (λ z. Some z) (sym (put_through f xs r.0)) ∙ ap (λ z. Some (map (put f) z)) r.2
    ]

    pub nominal_below : (k m : ℕ) (xs zs ys : List Ty) → lifted n k xs m ≡ Some zs → Equals n zs ys → B (V.Nominal k xs) (V.Nominal m ys)
    nominal_below k m xs zs ys e q =
        part_single n opaque (V.Nominal k xs) (V.Nominal m ys) (alts-nominal k xs) (alts-nominal m ys)
        (nominal opaque (V.Nominal k xs) (V.Nominal m ys) k m xs zs ys (outs-Nominal k xs) (outs-Nominal m ys) e q)

    -- the variables of a set, with types that lie between their bounds
    pub record Env (f : ℕ → Ty) (g : Fixed) (Dom : ℕ → Type 0) : Type 0 where
      pub lows : (w : ℕ) → Dom w → B (put f (g.low w)) (f w)
      pub highs : (w : ℕ) → Dom w → B (f w) (put f (g.high w))
      pub roots : (w : ℕ) → Dom w → B (f w) (f (g.root w))
      pub low_dom : (w : ℕ) → Dom w → (v : ℕ) → Has (vars_in (g.low w)) v → Dom v
      pub high_dom : (w : ℕ) → Dom w → (v : ℕ) → Has (vars_in (g.high w)) v → Dom v

    abbrev pub Over : (ℕ → Type 0) → Ty → Type 0
    Over Dom t = (v : ℕ) → Has (vars_in t) v → Dom v

    abbrev pub Everywhere : ℕ → Type 0
    Everywhere v = Unit {0}

    module _ (f : ℕ → Ty) where
      pub env_opaque : Env f opaque Everywhere
      env_opaque = record {
        lows = λ w d. subst (λ z. B z (f w)) (sym (put-union f [])) (none_below (f w));
        highs = λ w d. subst (λ z. B (f w) z) (sym (put-any f)) (below_any n (f w));
        roots = λ w d. below_self n (f w);
        low_dom = λ w d v h. tt;
        high_dom = λ w d v h. tt;
      }

      over_member : (Dom : ℕ → Type 0) (t : Ty) (ts : List Ty) → out-Ty t ≡ Tuple ts → Over Dom t → (x : Ty) → Has ts x → Over Dom x
      over_member Dom t ts e o x h v i = o v (subst (λ z. Has z v) (sym (ap vars_in (is_tuple t ts e) ∙ vars-tuple ts)) (has_flat vars_in ts x v h i))

      over_alts : (Dom : ℕ → Type 0) (t : Ty) → Over Dom t → (x : Ty) → Has (alts t) x → Over Dom x
      over_alts Dom t o x h v i = o v (alts_within t x h v i)

      over_var : (Dom : ℕ → Type 0) (t : Ty) (w : ℕ) → out-Ty t ≡ Var w → Over Dom t → Dom w
      over_var Dom t w e o = o w (subst (λ z. Has z w) (sym (ap vars_in (is_var t w e) ∙ vars-var w)) (inl refl))

      var_is : (t : Ty) (w : ℕ) → out-Ty t ≡ Var w → put f t ≡ f w
      var_is t w e = ap (put f) (is_var t w e) ∙ put-var f w

      pub put_nominal : (t u : Ty) (k m : ℕ) (xs zs ys : List Ty) → out-Ty t ≡ Nominal k xs → out-Ty u ≡ Nominal m ys → lifted n k xs m ≡ Some zs
          → Equals n (map (put f) zs) (map (put f) ys) → B (put f t) (put f u)
      put_nominal t u k m xs zs ys d e l q =
          subst (λ z. B z (put f u)) (sym (ap (put f) (is_nominal t k xs d) ∙ put-nominal f k xs))
          (subst (λ z. B (V.Nominal k (map (put f) xs)) z) (sym (ap (put f) (is_nominal u m ys e) ∙ put-nominal f m ys))
          (nominal_below k m (map (put f) xs) (map (put f) zs) (map (put f) ys) (lifted_put f k m xs zs l) q))

      mutual
        pub put_below : (g : Fixed) (Dom : ℕ → Type 0) → Env f g Dom → (t u : Ty) → Over Dom t → Over Dom u → Below n g t u → B (put f t) (put f u)
        put_below g Dom env t u o p (below h a b c) =
            put_from f t (put f u) (put_covered g Dom env (alts t) (alts u) (put f u) (over_alts Dom t o) (over_alts Dom u p) (put_to f u) c)

        pub put_covered : (g : Fixed) (Dom : ℕ → Type 0) → Env f g Dom → (ts us : List Ty) (w : Ty) → ((x : Ty) → Has ts x → Over Dom x) → ((x : Ty) → Has us x → Over Dom x)
            → ((x : Ty) → Has us x → B (put f x) w) → Covered n g ts us → (a : Ty) → Has ts a → B (put f a) w
        put_covered g Dom env ts us w o p k (none h vs) a i = absurd i
        put_covered g Dom env ts us w o p k (more h t ss vs q c) a (inl e) = subst (λ z. B (put f z) w) e (put_found g Dom env t us w (o t (inl refl)) p k q)
        put_covered g Dom env ts us w o p k (more h t ss vs q c) a (inr i) = put_covered g Dom env ss us w (λ x j. o x (inr j)) p k c a i

        put_found : (g : Fixed) (Dom : ℕ → Type 0) → Env f g Dom → (t : Ty) (us : List Ty) (w : Ty) → Over Dom t → ((x : Ty) → Has us x → Over Dom x)
            → ((x : Ty) → Has us x → B (put f x) w) → Found n g t us → B (put f t) w
        put_found g Dom env t us w o p k (here h a u vs q) = below_trans n law (put f t) (put f u) w (put_part g Dom env t u o (p u (inl refl)) q) (k u (inl refl))
        put_found g Dom env t us w o p k (there h a u vs q) = put_found g Dom env t vs w o (λ x j. p x (inr j)) (λ x j. k x (inr j)) q
        put_found g Dom env t us w o p k (raise h a v vs e c) =
            let d = over_var Dom t v e o in
            let high_over : Over Dom (g.high v) = env.high_dom v d in
            let b : B (put f (g.high v)) w = put_from f (g.high v) w (put_covered g Dom env (alts (g.high v)) us w (over_alts Dom (g.high v) high_over) p k c) in
            subst (λ z. B z w) (sym (var_is t v e)) (below_trans n law (f v) (put f (g.high v)) w (env.highs v d) b)

        put_part : (g : Fixed) (Dom : ℕ → Type 0) → Env f g Dom → (t u : Ty) → Over Dom t → Over Dom u → Part n g t u → B (put f t) (put f u)
        put_part g Dom env t u o p (any h a b e) = subst (λ z. B (put f t) z) (sym (ap (put f) (is_any u e) ∙ put-any f)) (below_any n (put f t))
        put_part g Dom env t u o p (tuple h a b xs ys d e q) =
            let r = put_parts g Dom env xs ys (over_member Dom t xs d o) (over_member Dom u ys e p) q in
            subst (λ z. B z (put f u)) (sym (ap (put f) (is_tuple t xs d) ∙ put-tuple f xs))
            (subst (λ z. B (V.Tuple (map (put f) xs)) z) (sym (ap (put f) (is_tuple u ys e) ∙ put-tuple f ys)) (tuple_below (map (put f) xs) (map (put f) ys) r))
        put_part g Dom env t u o p (nominal h a b k m xs zs ys d e l q) = put_nominal t u k m xs zs ys d e l (put_equals g Dom env zs ys q)
        put_part g Dom env t u o p (self h a b v d e) = subst (λ z. B z (put f u)) (var_is u v e ∙ sym (var_is t v d)) (below_self n (put f u))
        put_part g Dom env t u o p (own h a b v d e) =
            subst (λ z. B z (put f u)) (sym (var_is t v d)) (subst (λ z. B (f v) z) (sym (var_is u (g.root v) e)) (env.roots v (over_var Dom t v d o)))
        put_part g Dom env t u o p (under h a b w e q) =
            let d = over_var Dom u w e p in
            let r = put_below g Dom env t (g.low w) o (env.low_dom w d) q in
            subst (λ z. B (put f t) z) (sym (var_is u w e)) (below_trans n law (put f t) (put f (g.low w)) (f w) r (env.lows w d))

        put_parts : (g : Fixed) (Dom : ℕ → Type 0) → Env f g Dom → (xs ys : List Ty) → ((x : Ty) → Has xs x → Over Dom x) → ((x : Ty) → Has ys x → Over Dom x)
            → Parts n g xs ys → Both B (map (put f) xs) (map (put f) ys)
        put_parts g Dom env xs ys o p (parts_end h) = both_end
        put_parts g Dom env xs ys o p (parts_more h x y vs ws b q) =
            both_more (put f x) (put f y) (map (put f) vs) (map (put f) ws) (put_below g Dom env x y (o x (inl refl)) (p y (inl refl)) b)
            (put_parts g Dom env vs ws (λ z j. o z (inr j)) (λ z j. p z (inr j)) q)

        -- equal types stay equal
        put_equals : (g : Fixed) (Dom : ℕ → Type 0) → Env f g Dom → (xs ys : List Ty) → Equals n xs ys → Equals n (map (put f) xs) (map (put f) ys)
        put_equals g Dom env xs ys equals_end = equals_end
        put_equals g Dom env xs ys (equals_more x y vs ws p q r) =
            equals_more (put f x) (put f y) (map (put f) vs) (map (put f) ws) (put_below opaque Everywhere env_opaque x y (λ v h. tt) (λ v h. tt) p)
            (put_below opaque Everywhere env_opaque y x (λ v h. tt) (λ v h. tt) q) (put_equals g Dom env vs ws r)

      pub equals_put : (xs ys : List Ty) → Equals n xs ys → Equals n (map (put f) xs) (map (put f) ys)
      equals_put xs ys e = put_equals opaque Everywhere env_opaque xs ys e

      -- with nothing known of the variables, whatever is put
      pub put_opaque : (t u : Ty) → Below n opaque t u → B (put f t) (put f u)
      put_opaque t u b = put_below opaque Everywhere env_opaque t u (λ v h. tt) (λ v h. tt) b
