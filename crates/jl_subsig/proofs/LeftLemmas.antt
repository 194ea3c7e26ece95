-- What holds of a left row by its making, and of the order over its variables.
use Rattle.std.proofs.Common.{◌≡◌, ◌∙◌, sym, ap, subst, refl, ℕ, zero, suc, ◌+◌, Bool, true, false, nat_eq, List, [], ◌∷◌, ◌++◌, map, get_or, Some, ◌⊎◌, inl, inr}
use Rattle.std.specs.List.{flat_map, list_all}
use Rattle.jl_model.specs.declared.ty.Ty.{Ty}
use Rattle.jl_model.specs.declared.ty.Ty.TheOpen.{Ty-F, Any, Union, Tuple, Nominal, Var}
use Rattle.jl_model.specs.declared.ty.Ty.TheViews.{out-Ty, outs-Union, outs-Tuple, outs-Nominal, outs-Var, rolls-Any, rolls-Union, rolls-Tuple, rolls-Nominal}
use Rattle.jl_model.specs.declared.ty.Ty.TheViews as V
use Rattle.jl_model.specs.declared.ty.Ty.TheVariants as W
use Rattle.jl_model.specs.declared.ty.Ty.TheFolds.{para-roll-Ty}
use Rattle.jl_model.specs.declared.ty.Bound.{Bound}
use Rattle.jl_model.specs.declared.ty.Decl.{Decl}
use Rattle.jl_model.specs.declared.ty.Written.{Written}
use Rattle.jl_model.specs.Ancestors.{table_of}
use Rattle.jl_model.specs.Kinds.{Kind, unused, once, diagonal, bound}
use Rattle.jl_model.specs.Rows.{alts, free, high, kind, root, vars_in, Occurs, standing, bounding}
use Rattle.jl_model.specs.Found.{risen, risen_form, rising}
use Rattle.jl_model.specs.Signature.{Row, IsRow, top, fixed, is_diagonal}
use Rattle.jl_model.specs.Subtype.{Table, Fixed, opaque, put, at, lifted, Equal, is_concrete}
use Rattle.jl_model.specs.Normal.{IsNormal, AllNormal, is_single, no_union, none, more, any as normal_any, var as normal_var, nominal as normal_nominal, tuple as normal_tuple, union as normal_union}
use Rattle.jl_model.specs.Refusals.{Declared, bound_types, Given, given_from, given_in, given_step}
use Rattle.jl_model.proofs.TypeInduction.{Each, by_cases}
use Rattle.jl_model.proofs.FormLemmas.{firsts, flat_seconds, alts-union, is_union, is_tuple, is_nominal, is_var, put-any, put-union, put-tuple, put-nominal, put-var, vars-any, vars-union, vars-tuple, vars-nominal, vars-var}
use Rattle.jl_model.proofs.SelfLemmas.{below_self}
use Rattle.jl_model.proofs.TransLemmas.{near, far}
use Rattle.jl_model.proofs.FillLemmas.{ancestors_normal}
use Rattle.jl_model.proofs.AncestorLemmas.{Lawful}
use Rattle.jl_model.proofs.DeclaredLemmas.{declared_lawful}
use Rattle.jl_subsume.specs.Scoped.{IsScoped, IsOrdered, HasNormalArguments}
use Rattle.jl_search.proofs.HasLemmas.{Has, has_left, has_right, has_split, has_map, has_flat, flat_has, of_has, has_none}
use Rattle.jl_search.proofs.PartLemmas.{Plain, plain_any, plain_tuple, plain_nominal, plain_var, AllPlain, all_end, all_more, plain_map, plain_single, tuple_parts, nominal_arguments, var_number}
use Rattle.jl_subsume.proofs.MadeLemmas.{Seeds}
use Rattle.jl_search.proofs.LiftLemmas.{lift, alt_fine}
use Rattle.jl_subsume.proofs.ScopeLemmas.{IsSlot, Never, Small, SmallN, row_plain_n, rigid_plain_n, bound_plain_n, root_own, slot_high_by, chosen_plain, slot_occurs, occurs_small, diagonal_small, alts_within, high_at, top_within, top_other, top_diagonal, which}
use Rattle.jl_subsume.proofs.SureLemmas.{Sure, AllSure, sure_more, sure_of, of_sure, sure_equal, sure_parts, sure_number, not_any}
use Rattle.jl_subsig.proofs.OrderLemmas.{before, after}
use Rattle.jl_subsume.proofs.PutBelowLemmas.{none_below}
use Rattle.jl_subsig.proofs.EnvLemmas.{left_trans, closed_trans}
use Rattle.jl_search.proofs.MeetLemmas.{LeftForms, Laws}
use Rattle.jl_search.proofs.ValueLaw.{BoundForms}
use Rattle.jl_search.proofs.BoundLeads.{IsGood, bound_forms}
use Rattle.jl_model.proofs.NormalLemmas.{kids_nominal, single_alts}
use Rattle.jl_model.proofs.PutLemmas.{and_l, and_r, both_true}

-- the arguments in a type
pub given-any : given_in W.Any ≡ []
given-any = ap given_in (sym rolls-Any) ∙ para-roll-Ty (List Given) given_step Any

pub given-union : (ts : List Ty) → given_in (V.Union ts) ≡ flat_map given_in ts
given-union ts = ap given_in (sym (rolls-Union ts)) ∙ para-roll-Ty (List Given) given_step (Union ts) ∙ flat_seconds given_in ts

pub given-tuple : (ts : List Ty) → given_in (V.Tuple ts) ≡ flat_map given_in ts
given-tuple ts = ap given_in (sym (rolls-Tuple ts)) ∙ para-roll-Ty (List Given) given_step (Tuple ts) ∙ flat_seconds given_in ts

pub given-nominal : (k : ℕ) (ts : List Ty) → given_in (V.Nominal k ts) ≡ given_from k 0 ts ++ flat_map given_in ts
given-nominal k ts =
    ap given_in (sym (rolls-Nominal k ts)) ∙ para-roll-Ty (List Given) given_step (Nominal k ts)
    ∙ ap (λ z. given_from k 0 z ++ flat_map (λ e. e.1) (map (λ t. let p : Ty × List Given = (t, given_in t) in p) ts)) (firsts given_in ts)
    ∙ ap (λ z. given_from k 0 ts ++ z) (flat_seconds given_in ts)

module _ (n : Table) where
  abbrev pub NormalIn : Ty → Type 0
  NormalIn t = (x : Given) → Has (given_in t) x → IsNormal n x.ty

  from_normal : (k i : ℕ) (ts : List Ty) → ((x : Given) → Has (given_from k i ts) x → IsNormal n x.ty) → AllNormal n ts
  from_normal k i [] h = none
  from_normal k i (t ∷ ts) h = more t ts (h (record { of = k; place = i; ty = t }) (inl refl)) (from_normal k (i + 1) ts (λ x j. h x (inr j)))

  normal_member : (t : Ty) (ts : List Ty) → given_in t ≡ flat_map given_in ts → NormalIn t → (u : Ty) → Has ts u → NormalIn u
  normal_member t ts e m u h x i = m x (subst (λ z. Has z x) (sym e) (has_flat given_in ts u x h i))

  pub normal_seeds : Seeds NormalIn (AllNormal n)
  normal_seeds = record {
    union = λ ts m u h. normal_member (V.Union ts) ts (given-union ts) m u h;
    tuple = λ ts m u h. normal_member (V.Tuple ts) ts (given-tuple ts) m u h;
    nominal = λ k ts m. from_normal k 0 ts (λ x h. m x (subst (λ z. Has z x) (sym (given-nominal k ts)) (has_left (given_from k 0 ts) (flat_map given_in ts) x h)));
  }

pub high_in : (bs : List Bound) (v : ℕ) → Has (bound_types bs) (get_or bs v free).high ⊎ ((get_or bs v free).high ≡ W.Any)
high_in [] v = inr refl
high_in (b ∷ bs) zero = inl (inr (inl refl))
high_in (b ∷ bs) (suc v) = elim (high_in bs v) [ inl h ↦ inl (inr (inr h)) | inr e ↦ inr e ]

-- variables in types put in
at_within : (xs : List Ty) (i w : ℕ) → Has (vars_in (at xs i)) w → Has (flat_map vars_in xs) w
at_within [] i w h = absurd (has_none (vars_in W.Any) w vars-any h)
at_within (x ∷ xs) zero w h = has_left (vars_in x) (flat_map vars_in xs) w h
at_within (x ∷ xs) (suc i) w h = has_right (vars_in x) (flat_map vars_in xs) w (at_within xs i w h)

module _ (xs : List Ty) where
  abbrev InPut : Ty → Type 0
  InPut t = (w : ℕ) → Has (vars_in (put (at xs) t)) w → Has (flat_map vars_in xs) w

  in_each : (ts : List Ty) → Each InPut ts → (w : ℕ) → Has (flat_map vars_in (map (put (at xs)) ts)) w → Has (flat_map vars_in xs) w
  in_each [] e w h = absurd h
  in_each (t ∷ ts) e w h = elim (has_split (vars_in (put (at xs) t)) (flat_map vars_in (map (put (at xs)) ts)) w h) [ inl i ↦ e.0 w i | inr i ↦ in_each ts e.1 w i ]

  in_put : (t : Ty) → InPut t
  in_put = by_cases InPut (record {
    any = λ w h. absurd (has_none (vars_in (put (at xs) W.Any)) w (ap vars_in (put-any (at xs)) ∙ vars-any) h);
    union = λ ts e w h. in_each ts e w (subst (λ z. Has z w) (ap vars_in (put-union (at xs) ts) ∙ vars-union (map (put (at xs)) ts)) h);
    tuple = λ ts e w h. in_each ts e w (subst (λ z. Has z w) (ap vars_in (put-tuple (at xs) ts) ∙ vars-tuple (map (put (at xs)) ts)) h);
    nominal = λ k ts e w h. in_each ts e w (subst (λ z. Has z w) (ap vars_in (put-nominal (at xs) k ts) ∙ vars-nominal k (map (put (at xs)) ts)) h);
    var = λ v w h. at_within xs v w (subst (λ z. Has z w) (ap vars_in (put-var (at xs) v)) h);
  })

  each_in_put : (ts : List Ty) → Each InPut ts
  each_in_put [] = tt
  each_in_put (t ∷ ts) = (in_put t, each_in_put ts)

  pub all_in_put : (ts : List Ty) (w : ℕ) → Has (flat_map vars_in (map (put (at xs)) ts)) w → Has (flat_map vars_in xs) w
  all_in_put ts w h = in_each ts (each_in_put ts) w h

module _ (ds : List Decl) (declared : Declared ds) where
  abbrev pub order : Table
  order = table_of ds

  law : Lawful order
  law = declared_lawful ds declared

  pub lifted_at : (k m : ℕ) (xs zs : List Ty) (b : Bool) → nat_eq k m ≡ b → AllNormal order xs → lifted order k xs m ≡ Some zs → AllNormal order zs × ((w : ℕ) → Has (flat_map vars_in zs) w → Has (flat_map vars_in xs) w)
  unfolding table_of
  lifted_at k m xs zs true e g l =
      let i = near order law k m xs zs e l in
      (subst (AllNormal order) i g, λ w h. subst (λ z. Has (flat_map vars_in z) w) (sym i) h)
  lifted_at k m xs zs false e g l =
      let r = far order law k m xs zs e l in
      (subst (AllNormal order) r.2 (ancestors_normal ds declared k m r.0 xs r.1 g), λ w h. all_in_put xs r.0 w (subst (λ z. Has (flat_map vars_in z) w) (sym r.2) h))

  module _ (a : Written) (scope : IsScoped a) (ordered : IsOrdered order a) (normals : HasNormalArguments order a) (l : Row) (row : IsRow order a l) where
    abbrev pub G : Fixed
    G = fixed a l

    abbrev pub names : List ℕ
    names = map (root a) (flat_map vars_in l.parts)

    pub normal_bound : (v : ℕ) → NormalIn order (high a v)
    normal_bound v = by_place (high_in a.vars v)
      where
        by_place : Has (bound_types a.vars) (high a v) ⊎ (high a v ≡ W.Any) → NormalIn order (high a v)
        by_place (inl h) x i =
            normals x (of_has (flat_map given_in (bound_types a.vars ++ a.parts)) x (has_flat given_in (bound_types a.vars ++ a.parts) (high a v) x (has_left (bound_types a.vars) a.parts (high a v) h) i))
        by_place (inr e) x i = absurd (has_none (given_in (high a v)) x (ap given_in e ∙ given-any) i)

    pub normal_component : (t : Ty) → Has a.parts t → NormalIn order t
    normal_component t h x i =
        normals x (of_has (flat_map given_in (bound_types a.vars ++ a.parts)) x (has_flat given_in (bound_types a.vars ++ a.parts) t x (has_right (bound_types a.vars) a.parts t h) i))

    -- arguments are normal forms
    abbrev pub Good : List Ty → Type 0
    Good = AllNormal order

    abbrev pub Made : Ty → Type 0
    Made = NormalIn order

    pub made_seeds : Seeds Made Good
    made_seeds = normal_seeds order

    pub made_bound : (v : ℕ) → Made (high a v)
    made_bound = normal_bound

    abbrev pub Shape : List Ty → Type 0
    Shape = SmallN a scope Good Made made_seeds made_bound

    abbrev pub Dom : ℕ → Type 0
    Dom w = Occurs a w l.parts

    plains : AllPlain (IsSlot a) Shape l.parts
    plains = row_plain_n a scope Good Made made_seeds made_bound order l row normal_component

    -- what may stand in the row, over variables that occur in it
    pub record IsLeft (t : Ty) : Type 0 where
      pub stands : Plain (IsSlot a) Shape t
      pub known : (k : ℕ) → Has (vars_in t) k → Dom (root a k)

    -- over variables of the row
    abbrev pub IsOver : Ty → Type 0
    IsOver t = (w : ℕ) → Has (vars_in t) w → Dom w

    -- what may be found: a normal form over variables of the row
    pub record IsValue (t : Ty) : Type 0 where
      pub normal : IsNormal order t
      pub over : IsOver t

    left_each : (xs : List Ty) → AllPlain (IsSlot a) Shape xs → ((k : ℕ) → Has (flat_map vars_in xs) k → Dom (root a k)) → Each IsLeft xs
    left_each xs all_end k = tt
    left_each xs (all_more x ys p q) k =
        (record { stands = p; known = λ v i. k v (has_left (vars_in x) (flat_map vars_in ys) v i) }, left_each ys q (λ v i. k v (has_right (vars_in x) (flat_map vars_in ys) v i)))

    pub lefts : Each IsLeft l.parts
    lefts = left_each l.parts plains (λ k i. standing (root a k) l.parts (of_has (map (root a) (flat_map vars_in l.parts)) (root a k) (has_map (root a) (flat_map vars_in l.parts) k i)))

    left_parts : (xs : List Ty) → IsLeft (V.Tuple xs) → Each IsLeft xs
    left_parts xs p = left_each xs (tuple_parts (IsSlot a) Shape (V.Tuple xs) xs (outs-Tuple xs) p.stands) (λ k i. p.known k (subst (λ z. Has z k) (sym (vars-tuple xs)) i))

    raise_left : (v : ℕ) → IsLeft (W.Var v) → IsLeft (G.high v) × ((w : ℕ) → out-Ty (G.high v) ≡ Var w → ⊥)
    raise_left v p =
        let d = var_number (IsSlot a) Shape (W.Var v) v (outs-Var v) p.stands in
        let c = slot_high_by order a l scope row Shape (bound_plain_n a scope Good Made made_seeds made_bound) v d in
        let o : Dom (root a v) = p.known v (subst (λ z. Has z v) (sym (vars-var v)) (inl refl)) in (
          record {
            stands = rigid_plain_n a scope Good Made made_seeds made_bound (G.high v) c;
            known = λ k i. (let z = slot_occurs order a l scope row v d o k i in subst Dom (sym (root_own a k (occurs_small a scope order l row k z))) z);
          },
          λ w e. var_number Never Shape (G.high v) w e c,
        )

    -- arguments
    value_each : (zs : List Ty) → AllNormal order zs → ((w : ℕ) → Has (flat_map vars_in zs) w → Dom w) → Each IsValue zs
    value_each zs none h = tt
    value_each zs (more z ys n g) h = (
      record { normal = n; over = λ w i. h w (has_left (vars_in z) (flat_map vars_in ys) w i) },
      value_each ys g (λ w i. h w (has_right (vars_in z) (flat_map vars_in ys) w i)),
    )

    lifted_values : (k m : ℕ) (xs zs : List Ty) → AllNormal order xs → ((w : ℕ) → Has (flat_map vars_in xs) w → Dom w) → lifted order k xs m ≡ Some zs → AllNormal order zs × Each IsValue zs
    lifted_values k m xs zs g h e =
        let r = lifted_at k m xs zs (nat_eq k m) refl g e in
        (r.0, value_each zs r.0 (λ w i. h w (r.1 w i)))

    argument_left : (k m : ℕ) (xs zs : List Ty) → IsLeft (V.Nominal k xs) → lifted order k xs m ≡ Some zs → AllNormal order zs × Each IsValue zs
    argument_left k m xs zs p e =
        let s = nominal_arguments (IsSlot a) Shape (V.Nominal k xs) k xs (outs-Nominal k xs) p.stands in
        lifted_values k m xs zs s.1 (λ w j. subst Dom (root_own a w (s.0 w j)) (p.known w (subst (λ z. Has z w) (sym (vars-nominal k xs)) j))) e

    nominal_normal : (k : ℕ) (xs : List Ty) → IsNormal order (V.Nominal k xs) → AllNormal order xs
    nominal_normal k xs q = kids_nominal order law (V.Nominal k xs) k xs q (outs-Nominal k xs)

    argument_value : (k m : ℕ) (xs zs : List Ty) → IsValue (V.Nominal k xs) → lifted order k xs m ≡ Some zs → AllNormal order zs × Each IsValue zs
    argument_value k m xs zs p e = lifted_values k m xs zs (nominal_normal k xs p.normal) (λ w j. p.over w (subst (λ z. Has z w) (sym (vars-nominal k xs)) j)) e

    inside : (m : ℕ) (xs : List Ty) → IsValue (V.Nominal m xs) → Each IsValue xs
    inside m xs p = value_each xs (nominal_normal m xs p.normal) (λ w j. p.over w (subst (λ z. Has z w) (sym (vars-nominal m xs)) j))

    -- a part of a row is a normal form
    mutual
      normal_part : (D : ℕ → Type 0) (t : Ty) → Plain D Shape t → IsNormal order t × (is_single t ≡ true)
      normal_part D t (plain_any x e) = (normal_any t e, ap no_union e)
      normal_part D t (plain_var x k e d) = (normal_var t k e, ap no_union e)
      normal_part D t (plain_nominal x k xs e q) = (normal_nominal t k xs e q.1, ap no_union e)
      normal_part D t (plain_tuple x us e p) = let r = normal_parts D us p in (normal_tuple t us e r.0 r.1, ap no_union e)

      normal_parts : (D : ℕ → Type 0) (us : List Ty) → AllPlain D Shape us → AllNormal order us × (list_all is_single us ≡ true)
      normal_parts D us all_end = (none, refl)
      normal_parts D us (all_more x xs p q) =
          let r = normal_part D x p in
          let s = normal_parts D xs q in
          (more x xs r.0 s.0, both_true (is_single x) (list_all is_single xs) r.1 s.1)

    -- a concrete left part has no atoms
    mutual
      sure_over : (t : Ty) → Plain (IsSlot a) Shape t → ((k : ℕ) → Has (vars_in t) k → Dom (root a k)) → Sure order G t → IsOver t
      sure_over t (plain_any x e) k s w i = absurd (not_any order G t e s)
      sure_over t (plain_tuple x us e p) k s w i =
          let v : vars_in t ≡ flat_map vars_in us = ap vars_in (is_tuple t us e) ∙ vars-tuple us in
          all_over us p (λ j h. k j (subst (λ z. Has z j) (sym v) h)) (sure_parts order G t us e s) w (subst (λ z. Has z w) v i)
      sure_over t (plain_nominal x m xs e q) k s w i =
          subst Dom (root_own a w (q.0 w (subst (λ z. Has z w) (ap vars_in (is_nominal t m xs e) ∙ vars-nominal m xs) i))) (k w i)
      sure_over t (plain_var x m e d) k s w i =
          let j : m ≡ w = elim (subst (λ z. Has z w) (ap vars_in (is_var t m e) ∙ vars-var m) i) [ inl j ↦ j | inr b ↦ absurd b ] in
          let u : kind a w ≡ diagonal = diagonal_of (kind a w) (subst (λ z. is_diagonal (kind a z) ≡ true) j (sure_number order G t m e s)) in
          subst Dom (root_own a w (diagonal_small a scope w u)) (k w i)
        where
          diagonal_of : (k : Kind) → is_diagonal k ≡ true → k ≡ diagonal
          diagonal_of unused e = cc
          diagonal_of once e = cc
          diagonal_of diagonal e = refl
          diagonal_of bound e = cc

      all_over : (us : List Ty) → AllPlain (IsSlot a) Shape us → ((k : ℕ) → Has (flat_map vars_in us) k → Dom (root a k)) → AllSure order G us → (w : ℕ) → Has (flat_map vars_in us) w → Dom w
      all_over us all_end k s w i = absurd i
      all_over us (all_more x xs p r) k (sure_more t ts s ss) w i = elim (has_split (vars_in x) (flat_map vars_in xs) w i) [
        | inl j ↦ sure_over x p (λ m h. k m (has_left (vars_in x) (flat_map vars_in xs) m h)) s w j
        | inr j ↦ all_over xs r (λ m h. k m (has_right (vars_in x) (flat_map vars_in xs) m h)) ss w j
      ]

    sure_left : (t u : Ty) → IsLeft t → Equal order t u → is_concrete order G u ≡ true → (is_concrete order G t ≡ true) × IsValue t
    sure_left t u p e c =
        let s = sure_equal order law G (IsSlot a) Shape t u p.stands e (sure_of order G u c) in
        (of_sure order G t s, record { normal = (normal_part (IsSlot a) t p.stands).0; over = sure_over t p.stands p.known s })

    pub left_forms : LeftForms order G IsLeft IsValue
    left_forms = record { part = left_parts; raise = raise_left; argument = argument_left; inside = inside; sure = sure_left }

    pub left_laws : Laws order G IsLeft
    left_laws = record {
      lift = lift order G;
      before = before order law G;
      trans = λ t u v p b c. left_trans order law a scope ordered l row t u v (plain_map (IsSlot a) (IsSlot a) Shape (Small a scope) (λ k d. d) (λ xs q. q.0) t p.stands) b c;
      trans_closed = λ t u v e b c. closed_trans order law a scope ordered l row t u v e b c;
      after = after order law G;
      none = none_below order;
      self = below_self order;
    }

    -- TYPES FOUND, below an upper bound
    good_plain : (c : Ty) → Plain Never Shape c → IsOver c → IsGood order IsValue c
    good_plain c p o = (
      (λ v e. var_number Never Shape c v e p),
      λ k m xs zs e l. (let s = nominal_arguments Never Shape c k xs e p in
          lifted_values k m xs zs s.1 (λ w j. o w (subst (λ z. Has z w) (sym (ap vars_in (is_nominal c k xs e) ∙ vars-nominal k xs)) j)) l),
    )

    good_value : (c : Ty) → IsValue c → ((v : ℕ) → out-Ty c ≡ Var v → ⊥) → IsGood order IsValue c
    good_value c p k = (k, λ j m xs zs e l. argument_value j m xs zs (subst IsValue (is_nominal c j xs e) p) l)

    -- the alternatives of the upper bound of a variable of the row
    high_alternative : (w : ℕ) → Dom w → (c : Ty) → Has (alts (G.high w)) c → Plain Never Shape c × IsOver c
    high_alternative w o c e =
        let small = occurs_small a scope order l row w o in
        let h : Has (alts (top a l w)) c = subst (λ z. Has (alts z) c) (high_at order a l w small) e in
        (top_alternative w c h, λ v i. bounding v w l.parts o (of_has (vars_in (high a w)) v (top_within order a l scope row w v (alts_within (top a l w) c h v i))))
      where
        top_alternative : (w : ℕ) (c : Ty) → Has (alts (top a l w)) c → Plain Never Shape c
        top_alternative w c h = elim (which (kind a w)) [
          | inr f ↦ bound_plain_n a scope Good Made made_seeds made_bound w c (subst (λ z. Has (alts z) c) (top_other order a l w f) h)
          | inl d ↦
              let p = chosen_plain order a l scope row Shape (bound_plain_n a scope Good Made made_seeds made_bound) w d in
              let i : Has (l.chosen w ∷ []) c = subst (λ z. Has z c) (plain_single Never Shape (l.chosen w) p) (subst (λ z. Has (alts z) c) (top_diagonal order a l w d) h) in
              elim i [ inl q ↦ subst (Plain Never Shape) q p | inr q ↦ absurd q ]
        ]

    union_kids : (t : Ty) (ts : List Ty) → out-Ty t ≡ Union ts → IsNormal order t → AllNormal order ts × (list_all is_single ts ≡ true)
    union_kids t ts o (normal_any x e) = let c : Union ts ≡ Any = sym o ∙ e in cc
    union_kids t ts o (normal_var x v e) = let c : Union ts ≡ Var v = sym o ∙ e in cc
    union_kids t ts o (normal_nominal x k xs e g) = let c : Union ts ≡ Nominal k xs = sym o ∙ e in cc
    union_kids t ts o (normal_tuple x xs e g h) = let c : Union ts ≡ Tuple xs = sym o ∙ e in cc
    union_kids t ts o (normal_union x us e g h i j) =
        let c : Union us ≡ Union ts = sym e ∙ o in let d : us ≡ ts = cc in (subst (AllNormal order) d g, subst (λ z. list_all is_single z ≡ true) d h)

    -- the alternatives of a normal form are normal forms
    single_or : (x : Ty-F Ty) → (no_union x ≡ true) ⊎ ((ts : List Ty) × (x ≡ Union ts))
    single_or Any = inl refl
    single_or (Union ts) = inr (ts, refl)
    single_or (Tuple ts) = inl refl
    single_or (Nominal j ts) = inl refl
    single_or (Var v) = inl refl

    normal_among : (ts : List Ty) → AllNormal order ts → list_all is_single ts ≡ true → (c : Ty) → Has (flat_map alts ts) c → IsNormal order c
    normal_among ts none s c h = absurd h
    normal_among ts (more t us p q) s c h = elim (has_split (alts t) (flat_map alts us) c h) [
      | inl i ↦
          let j : Has (t ∷ []) c = subst (λ z. Has z c) (single_alts order t p (and_l (is_single t) (list_all is_single us) s)) i in
          elim j [ inl k ↦ subst (IsNormal order) k p | inr k ↦ absurd k ]
      | inr i ↦ normal_among us q (and_r (is_single t) (list_all is_single us) s) c i
    ]

    pub normal_alternative : (t : Ty) → IsNormal order t → (c : Ty) → Has (alts t) c → IsNormal order c
    normal_alternative t p c h = elim (single_or (out-Ty t)) [
      | inl s ↦ elim (subst (λ z. Has z c) (single_alts order t p s) h) [ inl i ↦ subst (IsNormal order) i p | inr i ↦ absurd i ]
      | inr u ↦
          let k = union_kids t u.0 u.1 p in
          normal_among u.0 k.0 k.1 c (subst (λ z. Has z c) (ap alts (is_union t u.0 u.1) ∙ alts-union u.0) h)
    ]

    -- what is found among the alternatives of a value
    good_rising : (t : Ty) → IsValue t → (c : Ty) → Has (rising G t) c → IsGood order IsValue c
    good_rising t p c h =
        let r = flat_has (λ x. alts (risen G x)) (alts t) c h in
        let over : IsOver r.0 = λ w i. p.over w (alts_within t r.0 r.1 w i) in
        by_form r.0 (normal_alternative t p.normal r.0 r.1) over (alt_fine order opaque t r.0 r.1).0 (out-Ty r.0) refl r.2
      where
        itself : (x : Ty) → IsNormal order x → IsOver x → alts x ≡ x ∷ [] → risen G x ≡ x → ((v : ℕ) → out-Ty x ≡ Var v → ⊥) → Has (alts (risen G x)) c → IsGood order IsValue c
        itself x k o s e f h = elim (subst (λ z. Has z c) (ap alts e ∙ s) h) [
          | inl i ↦ subst (IsGood order IsValue) i (good_value x (record { normal = k; over = o }) f)
          | inr i ↦ absurd i
        ]

        by_form : (x : Ty) → IsNormal order x → IsOver x → alts x ≡ x ∷ [] → (y : Ty-F Ty) → out-Ty x ≡ y → Has (alts (risen G x)) c → IsGood order IsValue c
        by_form x k o s Any i h = itself x k o s (ap (risen_form G x) i) (λ v j. (let b : Any ≡ Var v = sym i ∙ j in cc)) h
        by_form x k o s (Union ts) i h = itself x k o s (ap (risen_form G x) i) (λ v j. (let b : Union ts ≡ Var v = sym i ∙ j in cc)) h
        by_form x k o s (Tuple ts) i h = itself x k o s (ap (risen_form G x) i) (λ v j. (let b : Tuple ts ≡ Var v = sym i ∙ j in cc)) h
        by_form x k o s (Nominal j ts) i h = itself x k o s (ap (risen_form G x) i) (λ v m. (let b : Nominal j ts ≡ Var v = sym i ∙ m in cc)) h
        by_form x k o s (Var w) i h =
            let d : Dom w = o w (subst (λ z. Has z w) (sym (ap vars_in (is_var x w i) ∙ vars-var w)) (inl refl)) in
            let r = high_alternative w d c (subst (λ z. Has (alts z) c) (ap (risen_form G x) i) h) in
            good_plain c r.0 r.1

    single_left : (t : Ty) → IsLeft t → alts t ≡ t ∷ []
    single_left t p = plain_single (IsSlot a) Shape t p.stands

    pub left_bounds : BoundForms order G IsLeft IsValue
    left_bounds = bound_forms order G IsLeft IsValue left_forms single_left good_rising
