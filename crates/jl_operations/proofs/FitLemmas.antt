-- Where the signature of a struct's fields applies, each argument is of its field's type with what was inferred put in.
use Rattle.std.proofs.Common.{◌≡◌, ◌∙◌, sym, ap, subst, refl, ℕ, ◌+◌, ◌<◌, ◌⊎◌, inl, inr, true, false, not, List, [], ◌∷◌, ◌++◌, map}
use Rattle.std.specs.List.{flat_map, list_all, list_any}
use Rattle.std.proofs.Math.Nat.{mod-eq_of_lt, add-mul-mod_self_left}
use Rattle.jl_model.specs.declared.ty.Ty.{Ty}
use Rattle.jl_model.specs.declared.ty.Ty.TheViews as V
use Rattle.jl_model.specs.declared.ty.Ty.TheVariants as W
use Rattle.jl_model.specs.declared.ty.Decl.{Decl}
use Rattle.jl_model.specs.declared.ty.Written.{Written}
use Rattle.jl_model.specs.Ancestors.{table_of}
use Rattle.jl_model.specs.Kinds.{Kind, unused, once, diagonal, bound}
use Rattle.jl_model.specs.Members.{BelowSome}
use Rattle.jl_model.specs.Refusals.{Declared}
use Rattle.jl_model.specs.Rows.{alts, choices, forms, width, high, kind, root, atom, atoms, place_of, vars_in}
use Rattle.jl_model.specs.Signature.{Both, both_end, both_more}
use Rattle.jl_model.specs.Subtype.{Table, opaque, put, Below, Equal}
use Rattle.jl_model.specs.Usable.{stands_in, is_outside_unions}
use Rattle.jl_model.proofs.AncestorLemmas.{true_each}
use Rattle.jl_model.proofs.BelowLemmas.{some_below, below_any}
use Rattle.jl_model.proofs.DeclaredLemmas.{declared_lawful}
use Rattle.jl_model.proofs.FormLemmas.{is_any, is_union, is_tuple, is_nominal, is_var, put-any, put-tuple, put-nominal, put-var, vars-any, vars-union, vars-tuple, vars-nominal, vars-var}
use Rattle.jl_model.proofs.NormalLemmas.{In as Among, first as among_first, later as among_later}
use Rattle.jl_model.proofs.PutLemmas.{and_r, put-closed}
use Rattle.jl_model.proofs.SelfLemmas.{below_self}
use Rattle.jl_model.proofs.TransLemmas.{below_trans}
use Rattle.jl_model.proofs.TypeInduction.{Each}
use Rattle.jl_types.proofs.FormEquations.{forms-var, forms-union, forms-tuple, forms-nominal}
use Rattle.jl_search.specs.Open.{EachVar}
use Rattle.jl_search.proofs.EqualLemmas.{nominals, args_agree}
use Rattle.jl_sig.proofs.UsableLemmas.{stands-union, outside-union, outside-tuple}
use Rattle.jl_match.specs.Stands.{StandsAt, alone, inside, StandsIn, first, later}
use Rattle.jl_match.proofs.ConcreteLemmas.{concrete_lone}
use Rattle.jl_match.proofs.FitLemmas.{both_put}
use Rattle.jl_match.proofs.KindLemmas.{Inner, Comp, comp_any, comp_var, comp_union, comp_tuple, comp_nominal, Comps, comps_end, comps_more}
use Rattle.jl_match.proofs.ListLemmas.{In, in_either, in_any, in_each}
use Rattle.jl_match.proofs.RowForms.{choices_by, only}
use Rattle.jl_match.proofs.RowLemmas.{IsLeft, left_forms}
use Rattle.jl_match.proofs.SubstLemmas.{tuples_in}
use Rattle.jl_match.proofs.TupleLemmas.{below_tuple, tuple_below}
use Rattle.jl_operations.proofs.GoodLemmas.{none_left, none_right}

-- ---- lists

among_either : (a : Ty) (xs ys : List Ty) → Among a (xs ++ ys) → Among a xs ⊎ Among a ys
among_either a [] ys i = inr i
among_either a (x ∷ xs) ys (among_first y zs e) = inl (among_first x xs e)
among_either a (x ∷ xs) ys (among_later y zs i) = elim (among_either a xs ys i) [ inl j ↦ inl (among_later x xs j) | inr j ↦ inr j ]

nothing_in : (ns : List ℕ) → ((v : ℕ) → In v ns → ⊥) → ns ≡ []
nothing_in [] h = refl
nothing_in (n ∷ ns) h = absurd (h n (inl refl))

-- a variable that stands in none of these types
stands_none : (v : ℕ) (ts : List Ty) → not (list_any (stands_in v) ts) ≡ true → In v (flat_map vars_in ts) → ⊥
stands_none v ts h i =
    let e : list_any (stands_in v) ts ≡ true = sym (stands-union v ts) ∙ in_any v (vars_in (V.Union ts)) (subst (In v) (sym (vars-union ts)) i) in
    let f : false ≡ true = sym (ap not e) ∙ h in cc

module _ (ds : List Decl) (declared : Declared ds) (s : Written) (f : ℕ → Ty) where
  abbrev n : Table
  n = table_of ds

  abbrev F : ℕ → Ty
  F w = f (root s w)

  abbrev at : ℕ → List Ty
  at w = place_of s w (kind s w)

  abbrev G : Ty → List Ty
  G = forms at

  abbrev B : Ty → Ty → Type 0
  B t u = Below n opaque t (put F u)

  -- the variables of components are those of the signature
  mutual
    low_in : (u : Ty) → Comp s u → (v : ℕ) → In v (vars_in u) → v < width s
    low_in u (comp_any t o) v i = absurd (subst (In v) (ap vars_in (is_any u o) ∙ vars-any) i)
    low_in u (comp_var t w o l) v i = elim (subst (In v) (ap vars_in (is_var u w o) ∙ vars-var w) i) [ inl e ↦ subst (λ z. z < width s) (sym e) l | inr e ↦ absurd e ]
    low_in u (comp_union t ts o p) v i = lows_in ts p v (subst (In v) (ap vars_in (is_union u ts o) ∙ vars-union ts) i)
    low_in u (comp_tuple t ts o p) v i = lows_in ts p v (subst (In v) (ap vars_in (is_tuple u ts o) ∙ vars-tuple ts) i)
    low_in u (comp_nominal t k ts o p e) v i = (in_each (Inner s) (flat_map vars_in ts) e v (subst (In v) (ap vars_in (is_nominal u k ts o) ∙ vars-nominal k ts) i)).0

    lows_in : (us : List Ty) → Comps s us → (v : ℕ) → In v (flat_map vars_in us) → v < width s
    lows_in us comps_end v i = absurd i
    lows_in us (comps_more u ws p q) v i = elim (in_either v (vars_in u) (flat_map vars_in ws) i) [ inl j ↦ low_in u p v j | inr j ↦ lows_in ws q v j ]

  -- ---- a component without variables

  lones : (xs : List Ty) → Each (IsLeft n) xs → Each (λ t. alts t ≡ t ∷ []) xs
  lones [] k = tt
  lones (x ∷ xs) k = (concrete_lone n x k.0.concrete, lones xs k.1)

  mutual
    closed_fit : (u : Ty) → Comp s u → vars_in u ≡ [] → (a : Ty) → Among a (G u) → (x : Ty) → IsLeft n x → B x a → Below n opaque x u
    closed_fit u (comp_any t o) c a i x h b = subst (Below n opaque x) (sym (is_any u o)) (below_any n x)
    closed_fit u (comp_var t w o l) c a i x h b = let g : w ∷ [] ≡ [] = sym (ap vars_in (is_var u w o) ∙ vars-var w) ∙ c in cc
    closed_fit u (comp_union t ts o p) c a i x h b =
        let m = is_union u ts o in
        let e = sym (ap vars_in m ∙ vars-union ts) ∙ c in
        subst (Below n opaque x) (sym m) (some_below n x ts (concrete_lone n x h.concrete) (some_fit ts p e a (subst (Among a) (ap G m ∙ forms-union at ts) i) x h b))
    closed_fit u (comp_tuple t ts o p) c a i x h b =
        let m = is_tuple u ts o in
        let e = sym (ap vars_in m ∙ vars-tuple ts) ∙ c in
        let r = tuples_in a (choices (map G ts)) (subst (Among a) (ap G m ∙ forms-tuple at ts) i) in
        let q = below_tuple n (declared_lawful ds declared) x (map (put F) r.0) (concrete_lone n x h.concrete) (subst (Below n opaque x) (ap (put F) r.1 ∙ put-tuple F r.0) b) in
        let left = left_forms ds declared in
        let k : Each (IsLeft n) q.0 = left.part q.0 (subst (IsLeft n) (is_tuple x q.0 q.1) h) in
        subst (Below n opaque x) (sym m)
        (tuple_below n x q.0 ts q.1 (concrete_lone n x h.concrete) (lones q.0 k) (closeds_fit ts p e r.0 (choices_by G r.0 ts r.2) q.0 k (both_put ds declared s f q.0 r.0 q.2)))
    closed_fit u (comp_nominal t k ts o p e) c a i x h b =
        let m : a ≡ V.Nominal k ts = only a (V.Nominal k ts) (subst (Among a) (ap G (is_nominal u k ts o) ∙ forms-nominal at k ts) i) in
        subst (Below n opaque x) (put-closed F u c) (subst (λ z. Below n opaque x (put F z)) (m ∙ sym (is_nominal u k ts o)) b)

    some_fit : (us : List Ty) → Comps s us → flat_map vars_in us ≡ [] → (a : Ty) → Among a (flat_map G us) → (x : Ty) → IsLeft n x → B x a → BelowSome n x us
    some_fit us comps_end c a i x h b = elim i [ ]
    some_fit us (comps_more u ws p q) c a i x h b = elim (among_either a (G u) (flat_map G ws) i) [
      | inl j ↦ inl (closed_fit u p (none_left (vars_in u) (flat_map vars_in ws) c) a j x h b)
      | inr j ↦ inr (some_fit ws q (none_right (vars_in u) (flat_map vars_in ws) c) a j x h b)
    ]

    closeds_fit : (us : List Ty) → Comps s us → flat_map vars_in us ≡ [] → (as_ : List Ty) → Both (λ a w. Among a (G w)) as_ us → (xs : List Ty) → Each (IsLeft n) xs → Both B xs as_ → Both (Below n opaque) xs us
    closeds_fit us comps_end c as_ both_end xs h both_end = both_end
    closeds_fit us (comps_more u ws p q) c as_ (both_more a w cs vs i j) xs h (both_more x y ys zs b d) =
        both_more x u ys ws (closed_fit u p (none_left (vars_in u) (flat_map vars_in ws) c) a i x h.0 b) (closeds_fit ws q (none_right (vars_in u) (flat_map vars_in ws) c) cs j ys h.1 d)

  -- ---- what was inferred

  module _ (g : ℕ → Ty) (fields all : List Ty) (equal : (v : ℕ) → v < width s → (kind s v ≡ diagonal) ⊎ (kind s v ≡ bound) → Equal n (g v) (f v))
      (single : (v : ℕ) → v < width s → kind s v ≡ once → (y : Ty) → StandsIn v y fields all → y ≡ g v) where
    -- where y stands at a place of v in this, it does so in the whole
    abbrev Whole : Ty → Ty → Type 0
    Whole u x = (v : ℕ) (y : Ty) → StandsAt v y u x → StandsIn v y fields all

    abbrev Outside : Ty → Type 0
    Outside u = (v : ℕ) → v < width s → is_outside_unions v u ≡ true

    own_root : (v : ℕ) → v < width s → F v ≡ f v
    own_root v l = ap f (mod-eq_of_lt l)

    atom_is : (v i : ℕ) (us : List Ty) → v < width s → (a : Ty) → Among a (atoms s v i us) → put F a ≡ f v
    atom_is v i [] l a j = elim j [ ]
    atom_is v i (u ∷ us) l a (among_first y ys e) = ap (put F) e ∙ put-var F (atom s v i) ∙ ap f (add-mul-mod_self_left v (width s) (i + 1) ∙ mod-eq_of_lt l)
    atom_is v i (u ∷ us) l a (among_later y ys j) = atom_is v (i + 1) us l a j

    from_equal : (v : ℕ) (x : Ty) → v < width s → (kind s v ≡ diagonal) ⊎ (kind s v ≡ bound) → Below n opaque x (f v) → Below n opaque x (g v)
    from_equal v x l k b = below_trans n (declared_lawful ds declared) x (f v) (g v) b (equal v l k).1

    var_fit : (v : ℕ) (k : Kind) → kind s v ≡ k → v < width s → (a : Ty) → Among a (place_of s v k) → (x : Ty) → B x a → ((y : Ty) → y ≡ x → StandsIn v y fields all) → Below n opaque x (g v)
    var_fit v unused e l a i x b w = elim i [ ]
    var_fit v once e l a i x b w = subst (Below n opaque x) (single v l e x (w x refl)) (below_self n x)
    var_fit v diagonal e l a i x b w = from_equal v x l (inl e) (subst (Below n opaque x) (ap (put F) (only a (W.Var v) i) ∙ put-var F v ∙ own_root v l) b)
    var_fit v bound e l a i x b w = from_equal v x l (inr e) (subst (Below n opaque x) (atom_is v 0 (alts (high s v)) l a i) b)

    agree_at : (v : ℕ) → Inner s v → Equal n (F v) (g v)
    agree_at v h = let q = equal v h.0 (inr h.1) in subst (λ z. Equal n z (g v)) (sym (own_root v h.0)) (q.1, q.0)

    agrees : (ns : List ℕ) → EachVar (Inner s) ns → EachVar (λ v. Equal n (F v) (g v)) ns
    agrees [] e = tt
    agrees (k ∷ ks) e = (agree_at k e.0, agrees ks e.1)

    put_parts : (xs us : List Ty) → Both (λ x u. Below n opaque x (put g u)) xs us → Both (Below n opaque) xs (map (put g) us)
    put_parts xs us both_end = both_end
    put_parts xs us (both_more x u ys ws b d) = both_more x (put g u) ys (map (put g) ws) b (put_parts ys ws d)

    union_closed : (ts : List Ty) → Comps s ts → Outside (V.Union ts) → flat_map vars_in ts ≡ []
    union_closed ts p h = nothing_in (flat_map vars_in ts) (λ v i. stands_none v ts (sym (outside-union v ts) ∙ h v (lows_in ts p v i)) i)

    tail_true : (v : ℕ) (ws : List Ty) (u : Ty) → list_all (is_outside_unions v) (u ∷ ws) ≡ true → list_all (is_outside_unions v) ws ≡ true
    tail_true v ws u h = and_r (is_outside_unions v u) (list_all (is_outside_unions v) ws) h

    mutual
      fit : (u : Ty) → Comp s u → Outside u → (a : Ty) → Among a (G u) → (x : Ty) → IsLeft n x → B x a → Whole u x → Below n opaque x (put g u)
      fit u (comp_any t o) out a i x h b w = subst (Below n opaque x) (sym (ap (put g) (is_any u o) ∙ put-any g)) (below_any n x)
      fit u (comp_var t v o l) out a i x h b w =
          let m = is_var u v o in
          subst (Below n opaque x) (sym (ap (put g) m ∙ put-var g v))
          (var_fit v (kind s v) refl l a (subst (Among a) (ap G m ∙ forms-var at v) i) x b (λ y e. w v y (alone u x o (sym e))))
      fit u (comp_union t ts o p) out a i x h b w =
          let m = is_union u ts o in
          let e = union_closed ts p (subst Outside m out) in
          let c : vars_in u ≡ [] = ap vars_in m ∙ vars-union ts ∙ e in
          subst (Below n opaque x) (sym (put-closed g u c)) (closed_fit u (comp_union t ts o p) c a i x h b)
      fit u (comp_tuple t ts o p) out a i x h b w =
          let m = is_tuple u ts o in
          let r = tuples_in a (choices (map G ts)) (subst (Among a) (ap G m ∙ forms-tuple at ts) i) in
          let q = below_tuple n (declared_lawful ds declared) x (map (put F) r.0) (concrete_lone n x h.concrete) (subst (Below n opaque x) (ap (put F) r.1 ∙ put-tuple F r.0) b) in
          let left = left_forms ds declared in
          let k : Each (IsLeft n) q.0 = left.part q.0 (subst (IsLeft n) (is_tuple x q.0 q.1) h) in
          let inner = fits ts p (λ v l. sym (outside-tuple v ts) ∙ subst Outside m out v l) r.0 (choices_by G r.0 ts r.2) q.0 k (both_put ds declared s f q.0 r.0 q.2) (λ v y z. w v y (inside u x ts q.0 o q.1 z)) in
          subst (Below n opaque x) (sym (ap (put g) m ∙ put-tuple g ts)) (tuple_below n x q.0 (map (put g) ts) q.1 (concrete_lone n x h.concrete) (lones q.0 k) (put_parts q.0 ts inner))
      fit u (comp_nominal t k ts o p e) out a i x h b w =
          let m : a ≡ V.Nominal k ts = only a (V.Nominal k ts) (subst (Among a) (ap G (is_nominal u k ts o) ∙ forms-nominal at k ts) i) in
          let c = subst (Below n opaque x) (ap (put F) m ∙ put-nominal F k ts) b in
          let same = nominals n k (map (put F) ts) (map (put g) ts) (args_agree n F g ts p (agrees (flat_map vars_in ts) e)) in
          subst (Below n opaque x) (sym (ap (put g) (is_nominal u k ts o) ∙ put-nominal g k ts))
          (below_trans n (declared_lawful ds declared) x (V.Nominal k (map (put F) ts)) (V.Nominal k (map (put g) ts)) c same.0)

      pub fits : (us : List Ty) → Comps s us → ((v : ℕ) → v < width s → list_all (is_outside_unions v) us ≡ true) → (as_ : List Ty) → Both (λ a w. Among a (G w)) as_ us → (xs : List Ty) → Each (IsLeft n) xs → Both B xs as_
          → ((v : ℕ) (y : Ty) → StandsIn v y us xs → StandsIn v y fields all) → Both (λ x u. Below n opaque x (put g u)) xs us
      fits us comps_end out as_ both_end xs h both_end w = both_end
      fits us (comps_more u ws p q) out as_ (both_more a c cs vs i j) xs h (both_more x y ys zs b d) w =
          both_more x u ys ws
          (fit u p (λ v l. (true_each (is_outside_unions v) (u ∷ ws) (out v l)).0) a i x h.0 b (λ v z k. w v z (first u x ws ys k)))
          (fits ws q (λ v l. tail_true v ws u (out v l)) cs j ys h.1 d (λ v z k. w v z (later u x ws ys k)))
