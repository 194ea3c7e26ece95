-- Concrete types that are below a signature are below every signature above it.
use Rattle.std.proofs.Common.{◌≡◌, ◌∙◌, sym, ap, subst, refl, ℕ, ◌<◌, true, List, [], ◌∷◌, ◌++◌, map, inl, inr, IsTrue}
use Rattle.std.specs.List.{flat_map, list_all, Contains}
use Rattle.jl_model.specs.declared.ty.Ty.{Ty}
use Rattle.jl_model.specs.declared.ty.Ty.TheOpen.{Tuple, Var}
use Rattle.jl_model.specs.declared.ty.Ty.TheViews.{out-Ty, outs-Tuple, outs-Nominal}
use Rattle.jl_model.specs.declared.ty.Ty.TheViews as V
use Rattle.jl_model.specs.declared.ty.Ty.TheVariants as W
use Rattle.jl_model.specs.declared.ty.Written.{Written}
use Rattle.jl_model.specs.Kinds.{Kind, unused, once, diagonal, bound}
use Rattle.jl_model.specs.Rows.{forms, alts, width, low, kind, root, place_of, components, vars_in, Stands, Occurs, standing, bounding, high}
use Rattle.jl_model.specs.Signature.{Row, IsRow, Both, both_end, both_more, Serves, fixed, top, is_diagonal, Applicable, Meets, Meet, any, tuple, nominal, same, atom, raise_tuple, raise_nominal, meet_end, meet_more, RowBelow, SigBelow}
use Rattle.jl_model.specs.Subtype.{Table, Fixed, opaque, put, Below, Covered, Found, Part, Parts, Equals, below, none, more, here, there, raise, any as part_any, tuple as part_tuple, nominal as part_nominal, self, own, under, parts_end, parts_more, is_concrete}
use Rattle.jl_model.proofs.TypeInduction.{Each, by_cases}
use Rattle.jl_model.proofs.FormLemmas.{is_any, is_tuple, is_nominal, is_var, put-any, put-union, put-tuple, put-nominal, put-var, vars-any, vars-union, vars-tuple, vars-nominal, vars-var}
use Rattle.jl_model.proofs.PutLemmas.{put-closed, put-put, put_all-put}
use Rattle.jl_model.proofs.SelfLemmas.{below_self}
use Rattle.jl_model.proofs.AncestorLemmas.{Lawful}
use Rattle.jl_model.proofs.BelowLemmas.{below_any}
use Rattle.jl_model.proofs.TransLemmas.{below_trans}
use Rattle.jl_subsume.specs.Scoped.{IsScoped}
use Rattle.jl_search.proofs.HasLemmas.{Has, has_left, has_right, has_split, has_flat, has_map, has_of, of_has, has_none}
use Rattle.jl_search.proofs.PickLemmas.{has_choices, choices_has}
use Rattle.jl_search.proofs.PartLemmas.{Plain, plain_any, plain_tuple, plain_nominal, plain_var, AllPlain, all_end, all_more, plain_single, tuple_parts, nominal_arguments, var_number}
use Rattle.jl_subsume.proofs.ScopeLemmas.{IsSlot, Small, Never, Bare, alts_within, root_own, own_small, low_none, low_at, high_at, top_small, top_within, row_plain, rigid_plain, slot_high, slot_occurs, occurs_small, diagonal_small}
use Rattle.jl_subsume.proofs.PutBelowLemmas.{Env, Over, put_from, put_to, put_below, put_covered, put_opaque, put_nominal, equals_put, tuple_below, nominal_below, lifted_put}
use Rattle.jl_subsume.proofs.SureLemmas.{Sure, AllSure, sure_end, sure_more, sure_tuple, sure_nominal, sure_var, sure_of, of_sure, all_sure_of, sure_parts}
use Rattle.jl_subsume.proofs.FitLemmas.{Fits, AllFit, fit_end, fit_more, fit_put, fit_tuple, fit_high, fit_rigid, F, all_refit}

-- types that agree on the variables of others
module _ (f g : ℕ → Ty) where
  abbrev Agrees : Ty → Type 0
  Agrees t = ((v : ℕ) → Has (vars_in t) v → f v ≡ g v) → put f t ≡ put g t

  agree_each : (ts : List Ty) → Each Agrees ts → ((v : ℕ) → Has (flat_map vars_in ts) v → f v ≡ g v) → map (put f) ts ≡ map (put g) ts
  agree_each [] e h = refl
  agree_each (t ∷ ts) e h =
      let p = e.0 (λ v i. h v (has_left (vars_in t) (flat_map vars_in ts) v i)) in
      let q = agree_each ts e.1 (λ v i. h v (has_right (vars_in t) (flat_map vars_in ts) v i)) in rw (p, q) refl

  agrees : (t : Ty) → Agrees t
  agrees = by_cases Agrees (record {
    any = λ h. put-any f ∙ sym (put-any g);
    union = λ ts e h. put-union f ts ∙ ap (λ z. V.Union z) (agree_each ts e (λ v i. h v (subst (λ z. Has z v) (sym (vars-union ts)) i))) ∙ sym (put-union g ts);
    tuple = λ ts e h. put-tuple f ts ∙ ap (λ z. V.Tuple z) (agree_each ts e (λ v i. h v (subst (λ z. Has z v) (sym (vars-tuple ts)) i))) ∙ sym (put-tuple g ts);
    nominal = λ k ts e h. put-nominal f k ts ∙ ap (λ z. V.Nominal k z) (agree_each ts e (λ v i. h v (subst (λ z. Has z v) (sym (vars-nominal k ts)) i))) ∙ sym (put-nominal g k ts);
    var = λ v h. put-var f v ∙ h v (subst (λ z. Has z v) (sym (vars-var v)) (inl refl)) ∙ sym (put-var g v);
  })

  all_agree_each : (ts : List Ty) → Each Agrees ts
  all_agree_each [] = tt
  all_agree_each (t ∷ ts) = (agrees t, all_agree_each ts)

  pub all_agree : (ts : List Ty) → ((v : ℕ) → Has (flat_map vars_in ts) v → f v ≡ g v) → map (put f) ts ≡ map (put g) ts
  all_agree ts h = agree_each ts (all_agree_each ts) h

-- types without variables put in leave none
module _ (f : ℕ → Ty) (closed : (v : ℕ) → vars_in (f v) ≡ []) where
  abbrev Emptied : Ty → Type 0
  Emptied t = vars_in (put f t) ≡ []

  emptied_each : (ts : List Ty) → Each Emptied ts → flat_map vars_in (map (put f) ts) ≡ []
  emptied_each [] e = refl
  emptied_each (t ∷ ts) e = ap (λ z. z ++ flat_map vars_in (map (put f) ts)) e.0 ∙ emptied_each ts e.1

  pub emptied : (t : Ty) → Emptied t
  emptied = by_cases Emptied (record {
    any = ap vars_in (put-any f) ∙ vars-any;
    union = λ ts e. ap vars_in (put-union f ts) ∙ vars-union (map (put f) ts) ∙ emptied_each ts e;
    tuple = λ ts e. ap vars_in (put-tuple f ts) ∙ vars-tuple (map (put f) ts) ∙ emptied_each ts e;
    nominal = λ k ts e. ap vars_in (put-nominal f k ts) ∙ vars-nominal k (map (put f) ts) ∙ emptied_each ts e;
    var = λ v. ap vars_in (put-var f v) ∙ closed v;
  })

mutual
  pub bare_vars : (c : Ty) → Plain Never Bare c → vars_in c ≡ []
  bare_vars c (plain_any x e) = ap vars_in (is_any c e) ∙ vars-any
  bare_vars c (plain_tuple x us e p) = ap vars_in (is_tuple c us e) ∙ vars-tuple us ∙ all_bare_vars us p
  bare_vars c (plain_nominal x k xs e p) = ap vars_in (is_nominal c k xs e) ∙ vars-nominal k xs ∙ p
  bare_vars c (plain_var x k e p) = absurd p

  all_bare_vars : (us : List Ty) → AllPlain Never Bare us → flat_map vars_in us ≡ []
  all_bare_vars us all_end = refl
  all_bare_vars us (all_more x xs p r) = ap (λ z. z ++ flat_map vars_in xs) (bare_vars x p) ∙ all_bare_vars xs r

module _ (n : Table) (law : Lawful n) (a : Written) (scope : IsScoped a) (r : Row) (row : IsRow n a r) (f : ℕ → Ty) (serves : Serves n opaque a r f) where
  abbrev H : ℕ → Ty
  H = F n law a scope r row f serves

  abbrev K : Fixed
  K = fixed a r

  abbrev Dom : ℕ → Type 0
  Dom v = Occurs a v r.parts

  abbrev Fit : Ty → Ty → Type 0
  Fit = Fits n law H K

  abbrev B : Ty → Ty → Type 0
  B = Below n opaque

  small : (v : ℕ) → Dom v → v < width a
  small v d = occurs_small a scope n r row v d

  H_small : (v : ℕ) → v < width a → H v ≡ f v
  H_small v l = ap f (root_own a v l)

  H_is : (v : ℕ) → Dom v → H v ≡ f v
  H_is v d = H_small v (small v d)

  env : Env n law H K Dom
  env = record {
    lows = λ w d.
        let t = low a w in
        let b : B t (f w) = subst (λ z. B z (f w)) (put-closed f t (low_none a scope w)) (serves.least w d) in
        let c : put H (K.low w) ≡ t = ap (put H) (low_at n a r w (small w d)) ∙ put-closed H t (low_none a scope w) in
        subst (λ z. B z (H w)) (sym c) (subst (λ z. B t z) (sym (H_is w d)) b);
    highs = λ w d.
        let t = top a r w in
        let e : put f t ≡ put H t = agrees f H t (λ k h. sym (H_small k (top_small n a r scope row w k h))) in
        let c : put H (K.high w) ≡ put H t = ap (put H) (high_at n a r w (small w d)) in
        subst (λ z. B (H w) z) (e ∙ sym c) (subst (λ z. B z (put f t)) (sym (H_is w d)) (serves.most w d));
    roots = λ w d. subst (λ z. B (H w) z) (ap H (sym (root_own a w (small w d)))) (below_self n (H w));
    low_dom = λ w d v h. absurd (has_none (vars_in (K.low w)) v (ap vars_in (low_at n a r w (small w d)) ∙ low_none a scope w) h);
    high_dom = λ w d v h. bounding v w r.parts d (of_has (vars_in (high a w)) v (top_within n a r scope row w v (subst (λ z. Has (vars_in z) v) (high_at n a r w (small w d)) h)));
  }

  over_var : (t : Ty) (w : ℕ) → out-Ty t ≡ Var w → Over n law Dom t → Dom w
  over_var t w e o = o w (subst (λ z. Has z w) (sym (ap vars_in (is_var t w e) ∙ vars-var w)) (inl refl))

  over_member : (t : Ty) (ts : List Ty) → out-Ty t ≡ Tuple ts → Over n law Dom t → (x : Ty) → Has ts x → Over n law Dom x
  over_member t ts e o x h v i = o v (subst (λ z. Has z v) (sym (ap vars_in (is_tuple t ts e) ∙ vars-tuple ts)) (has_flat vars_in ts x v h i))

  var_is : (t : Ty) (w : ℕ) → out-Ty t ≡ Var w → put H t ≡ H w
  var_is t w e = ap (put H) (is_var t w e) ∙ put-var H w

  fit_var : (t x : Ty) (k : ℕ) → out-Ty x ≡ Var k → Fit t x → B t (H k)
  fit_var t x k e p = subst (λ z. B t z) (var_is x k e) (fit_put n law H K t x p)

  -- a left part: what stands at its covariant places, and the variables of its arguments, are of the row
  abbrev There : ℕ → Type 0
  There k = IsSlot a k × Dom (root a k)

  abbrev Overs : List Ty → Type 0
  Overs xs = (v : ℕ) → Has (flat_map vars_in xs) v → Dom v

  abbrev Standing : Ty → Type 0
  Standing = Plain There Overs

  mutual
    stand : (x : Ty) → Plain (IsSlot a) (Small a scope) x → ((k : ℕ) → Has (vars_in x) k → Dom (root a k)) → Standing x
    stand x (plain_any y e) o = plain_any x e
    stand x (plain_tuple y us e p) o = plain_tuple x us e (all_stand us p (λ k h. o k (subst (λ z. Has z k) (sym (ap vars_in (is_tuple x us e) ∙ vars-tuple us)) h)))
    stand x (plain_nominal y k xs e q) o =
        plain_nominal x k xs e (λ v h. subst Dom (root_own a v (q v h)) (o v (subst (λ z. Has z v) (sym (ap vars_in (is_nominal x k xs e) ∙ vars-nominal k xs)) h)))
    stand x (plain_var y k e d) o = plain_var x k e (d, o k (subst (λ z. Has z k) (sym (ap vars_in (is_var x k e) ∙ vars-var k)) (inl refl)))

    all_stand : (xs : List Ty) → AllPlain (IsSlot a) (Small a scope) xs → ((k : ℕ) → Has (flat_map vars_in xs) k → Dom (root a k)) → AllPlain There Overs xs
    all_stand xs all_end o = all_end
    all_stand xs (all_more y ys p q) o =
        all_more y ys (stand y p (λ k h. o k (has_left (vars_in y) (flat_map vars_in ys) k h))) (all_stand ys q (λ k h. o k (has_right (vars_in y) (flat_map vars_in ys) k h)))

  -- the bound of what stands at a covariant place
  high_over : (v : ℕ) → There v → Over n law Dom (K.high v)
  high_over v d j i = slot_occurs n a r scope row v d.0 d.1 j i

  high_standing : (v : ℕ) → There v → Standing (K.high v)
  high_standing v d =
      stand (K.high v) (rigid_plain a scope (K.high v) (slot_high n a r scope row v d.0))
      (λ k h. (let o = high_over v d k h in subst Dom (sym (root_own a k (small k o))) o))

  single_has : (x : Ty) → Standing x → Has (alts x) x
  single_has x p = subst (λ z. Has z x) (sym (plain_single There Overs x p)) (inl refl)

  alt_is : (x c : Ty) → Standing x → Has (alts x) c → x ≡ c
  alt_is x c p h = elim (subst (λ z. Has z c) (plain_single There Overs x p) h) [ inl e ↦ e | inr b ↦ absurd b ]

  over_alts : (t : Ty) → Over n law Dom t → (x : Ty) → Has (alts t) x → Over n law Dom x
  over_alts t o x h v i = o v (alts_within t x h v i)

  low_over : (w : ℕ) → Dom w → Over n law Dom (K.low w)
  low_over w d = env.low_dom w d

  mutual
    -- what fits a left part is below what the part is below, with the types put in
    fit_below : (t x u : Ty) → Sure n opaque t → Standing x → Fit t x → Over n law Dom u → Below n K x u → B t (put H u)
    fit_below t x u s p q o (below g b c d) = fit_covered t x (alts x) (alts u) (put H u) s p q (over_alts u o) (λ c h. put_to n law H u c h) d (λ c h. alt_is x c p h) (single_has x p)

    fit_covered : (t x : Ty) (ts us : List Ty) (w : Ty) → Sure n opaque t → Standing x → Fit t x → ((c : Ty) → Has us c → Over n law Dom c) → ((c : Ty) → Has us c → B (put H c) w)
        → Covered n K ts us → ((c : Ty) → Has ts c → x ≡ c) → Has ts x → B t w
    fit_covered t x ts us w s p q o k (none g vs) e h = absurd h
    fit_covered t x ts us w s p q o k (more g y ss vs fo c) e h =
        let i : x ≡ y = e y (inl refl) in
        fit_found t y us w s (subst Standing i p) (subst (λ z. Fit t z) i q) o k fo

    fit_found : (t x : Ty) (us : List Ty) (w : Ty) → Sure n opaque t → Standing x → Fit t x → ((c : Ty) → Has us c → Over n law Dom c) → ((c : Ty) → Has us c → B (put H c) w)
        → Found n K x us → B t w
    fit_found t x us w s p q o k (here g y u vs h) = below_trans n law t (put H u) w (fit_part t x u s p q (o u (inl refl)) h) (k u (inl refl))
    fit_found t x us w s p q o k (there g y u vs h) = fit_found t x vs w s p q (λ c i. o c (inr i)) (λ c i. k c (inr i)) h
    fit_found t x us w s p q o k (raise g y v vs e c) =
        let d = var_number There Overs x v e p in
        let b : B (put H (K.high v)) w = put_from n law H (K.high v) w (put_covered n law H K Dom env (alts (K.high v)) us w (over_alts (K.high v) (high_over v d)) o k c) in
        below_trans n law t (put H (K.high v)) w (fit_high n law H K t x v e q) b

    fit_part : (t x u : Ty) → Sure n opaque t → Standing x → Fit t x → Over n law Dom u → Part n K x u → B t (put H u)
    fit_part t x u s p q o (part_any g y v e) = subst (λ z. B t z) (sym (ap (put H) (is_any u e) ∙ put-any H)) (below_any n t)
    fit_part t x u s p q o (part_tuple g y v xs ys d e ps) =
        let r2 = fit_tuple n law H K t x xs d q in
        let b = fit_parts r2.0 xs ys (sure_parts n opaque t r2.0 r2.1 s) (tuple_parts There Overs x xs d p) r2.2 (over_member u ys e o) ps in
        subst (λ z. B z (put H u)) (sym (is_tuple t r2.0 r2.1)) (subst (λ z. B (V.Tuple r2.0) z) (sym (ap (put H) (is_tuple u ys e) ∙ put-tuple H ys)) (tuple_below n law r2.0 (map (put H) ys) b))
    fit_part t x u s p q o (part_nominal g y v k m xs zs ys d e l c) =
        below_trans n law t (put H x) (put H u) (fit_put n law H K t x q) (put_nominal n law H x u k m xs zs ys d e l (equals_put n law H zs ys c))
    fit_part t x u s p q o (self g y v w d e) = subst (λ z. B t z) (sym (var_is u w e)) (fit_var t x w d q)
    fit_part t x u s p q o (own g y v w d e) =
        let i : root a (root a w) ≡ root a w = root_own a (root a w) (small (root a w) (over_var u (root a w) e o)) in
        subst (λ z. B t z) (sym (var_is u (root a w) e ∙ ap f i)) (fit_var t x w d q)
    fit_part t x u s p q o (under g y v w e b) =
        let d = over_var u w e o in
        subst (λ z. B t z) (sym (var_is u w e)) (below_trans n law t (put H (K.low w)) (H w) (fit_below t x (K.low w) s p q (low_over w d) b) (env.lows w d))

    fit_parts : (ts xs us : List Ty) → AllSure n opaque ts → AllPlain There Overs xs → AllFit n law H K ts xs → ((c : Ty) → Has us c → Over n law Dom c)
        → Parts n K xs us → Both B ts (map (put H) us)
    fit_parts ts xs us s p fit_end o (parts_end g) = both_end
    fit_parts ts xs us (sure_more t2 us2 s ss) (all_more x2 xs2 p ps) (fit_more t x vs ws q qs) o (parts_more g x3 y is js b bs) =
        both_more t (put H y) vs (map (put H) js) (fit_below t x y s p q (o y (inl refl)) b) (fit_parts vs ws js ss ps qs (λ c i. o c (inr i)) bs)

  -- THE RIGHT ROW: b is above, and h puts types over the variables of the left row for its own.
  module _ (b : Written) (bscope : IsScoped b) (h : ℕ → Ty) (over : (v : ℕ) → Over n law Dom (h v)) where
    abbrev D : ℕ → Ty
    D v = put H (h v)

    abbrev E : ℕ → Ty
    E v = D (root b v)

    abbrev RightStands : Ty → Type 0
    RightStands = Plain (IsSlot b) (Small b bscope)

    right_var : (y : Ty) (v : ℕ) → out-Ty y ≡ Var v → put E y ≡ E v
    right_var y v e = ap (put E) (is_var y v e) ∙ put-var E v

    high_fits : (t x : Ty) (v : ℕ) → out-Ty x ≡ Var v → Sure n opaque t → Standing x → Fit t x → Fit t (K.high v) × Standing (K.high v)
    high_fits t x v e s p q =
        let d = var_number There Overs x v e p in
        (fit_rigid n law H K (Small a scope) t (K.high v) s (slot_high n a r scope row v d.0) (fit_high n law H K t x v e q), high_standing v d)

    mutual
      meets_put : (t x y : Ty) → Sure n opaque t → Standing x → Fit t x → RightStands y → Meets n K b h x y → B t (put E y)
      meets_put t x y s p q c (any x2 y2 e) = subst (λ z. B t z) (sym (ap (put E) (is_any y e) ∙ put-any E)) (below_any n t)
      meets_put t x y s p q c (tuple x2 y2 xs ys d e m) =
          let r2 = fit_tuple n law H K t x xs d q in
          let k = meet_put r2.0 xs ys (sure_parts n opaque t r2.0 r2.1 s) (tuple_parts There Overs x xs d p) r2.2 (tuple_parts (IsSlot b) (Small b bscope) y ys e c) m in
          subst (λ z. B z (put E y)) (sym (is_tuple t r2.0 r2.1)) (subst (λ z. B (V.Tuple r2.0) z) (sym (ap (put E) (is_tuple y ys e) ∙ put-tuple E ys)) (tuple_below n law r2.0 (map (put E) ys) k))
      meets_put t x y s p q c (nominal x2 y2 k m xs zs ys d e l w) =
          let small_ys = nominal_arguments (IsSlot b) (Small b bscope) y m ys e c in
          let i : map (put H) (map (put h) ys) ≡ map (put E) ys = put_all-put H h ys ∙ all_agree D E ys (λ v j. ap D (sym (root_own b v (small_ys v j)))) in
          let u : Equals n (map (put H) zs) (map (put E) ys) = subst (λ z. Equals n (map (put H) zs) z) i (equals_put n law H zs (map (put h) ys) w) in
          let g : B (V.Nominal k (map (put H) xs)) (V.Nominal m (map (put E) ys)) = nominal_below n law k m (map (put H) xs) (map (put H) zs) (map (put E) ys) (lifted_put n law H k m xs zs l) u in
          let o : B (put H x) (put E y) = subst (λ z. B z (put E y)) (sym (ap (put H) (is_nominal x k xs d) ∙ put-nominal H k xs))
          (subst (λ z. B (V.Nominal k (map (put H) xs)) z) (sym (ap (put E) (is_nominal y m ys e) ∙ put-nominal E m ys)) g) in
          below_trans n law t (put H x) (put E y) (fit_put n law H K t x q) o
      meets_put t x y s p q c (same x2 y2 v e d w) =
          let l : v < width b = diagonal_small b bscope v d in
          let i : put E y ≡ put H (h v) = right_var y v e ∙ ap D (root_own b v l) in
          subst (λ z. B t z) (sym i) (below_trans n law t (put H x) (put H (h v)) (fit_put n law H K t x q) (put_opaque n law H x (h v) w.0))
      meets_put t x y s p q c (atom x2 y2 v e d w) =
          subst (λ z. B t z) (sym (right_var y v e)) (fit_below t x (h (root b v)) s p q (over (root b v)) w)
      meets_put t x y s p q c (raise_tuple x2 y2 v ys d e m) = let k = high_fits t x v d s p q in meets_put t (K.high v) y s k.1 k.0 c m
      meets_put t x y s p q c (raise_nominal x2 y2 v m ys d e w) = let k = high_fits t x v d s p q in meets_put t (K.high v) y s k.1 k.0 c w

      meet_put : (ts xs ys : List Ty) → AllSure n opaque ts → AllPlain There Overs xs → AllFit n law H K ts xs → AllPlain (IsSlot b) (Small b bscope) ys
          → Meet n K b h xs ys → Both B ts (map (put E) ys)
      meet_put ts xs ys s p fit_end c meet_end = both_end
      meet_put ts xs ys (sure_more t2 us2 s ss) (all_more x2 xs2 p ps) (fit_more t x vs ws q qs) all_end m = elim m [ ]
      meet_put ts xs ys (sure_more t2 us2 s ss) (all_more x2 xs2 p ps) (fit_more t x vs ws q qs) (all_more y2 ys2 c cs) (meet_more x3 y is js m ms) =
          both_more t (put E y) vs (map (put E) js) (meets_put t x y s p q c m) (meet_put vs ws js ss ps qs cs ms)

    -- concrete types over the variables of the left row stay concrete
    mutual
      sure_put : (u : Ty) → Over n law Dom u → Sure n K u → Sure n opaque (put H u)
      sure_put u o (sure_tuple t ts e p) =
          sure_tuple (put H u) (map (put H) ts) (ap out-Ty (ap (put H) (is_tuple u ts e) ∙ put-tuple H ts) ∙ outs-Tuple (map (put H) ts)) (all_sure_put ts (over_member u ts e o) p)
      sure_put u o (sure_nominal t k xs e p) =
          sure_nominal (put H u) k (map (put H) xs) (ap out-Ty (ap (put H) (is_nominal u k xs e) ∙ put-nominal H k xs) ∙ outs-Nominal k (map (put H) xs)) p
      sure_put u o (sure_var t v e p) =
          let d = over_var u v e o in
          let k : kind a v ≡ diagonal = diagonal_of (kind a v) p in
          let c : is_concrete n opaque (f v) ≡ true = serves.sure v d k in
          subst (Sure n opaque) (sym (var_is u v e ∙ H_is v d)) (sure_of n opaque (f v) c)
        where
          diagonal_of : (k : Kind) → is_diagonal k ≡ true → k ≡ diagonal
          diagonal_of unused e = cc
          diagonal_of once e = cc
          diagonal_of diagonal e = refl
          diagonal_of bound e = cc

      all_sure_put : (us : List Ty) → ((c : Ty) → Has us c → Over n law Dom c) → AllSure n K us → AllSure n opaque (map (put H) us)
      all_sure_put us o sure_end = sure_end
      all_sure_put us o (sure_more t ts p q) = sure_more (put H t) (map (put H) ts) (sure_put t (o t (inl refl)) p) (all_sure_put ts (λ c i. o c (inr i)) q)

    -- types over the variables of the left row put in
    over_each : (ts : List Ty) → Each (λ t. Over n law Dom (put h t)) ts → (w : ℕ) → Has (flat_map vars_in (map (put h) ts)) w → Dom w
    over_each [] e w i = absurd i
    over_each (t ∷ ts) e w i = elim (has_split (vars_in (put h t)) (flat_map vars_in (map (put h) ts)) w i) [ inl j ↦ e.0 w j | inr j ↦ over_each ts e.1 w j ]

    put_over : (t : Ty) → Over n law Dom (put h t)
    put_over = by_cases (λ t. Over n law Dom (put h t)) (record {
      any = λ w i. absurd (has_none (vars_in (put h W.Any)) w (ap vars_in (put-any h) ∙ vars-any) i);
      union = λ ts e w i. over_each ts e w (subst (λ z. Has z w) (ap vars_in (put-union h ts) ∙ vars-union (map (put h) ts)) i);
      tuple = λ ts e w i. over_each ts e w (subst (λ z. Has z w) (ap vars_in (put-tuple h ts) ∙ vars-tuple (map (put h) ts)) i);
      nominal = λ k ts e w i. over_each ts e w (subst (λ z. Has z w) (ap vars_in (put-nominal h k ts) ∙ vars-nominal k (map (put h) ts)) i);
      var = λ v w i. over v w (subst (λ z. Has z w) (ap vars_in (put-var h v)) i);
    })

    -- the types serve the right row
    right_serves : (q : Row) → IsRow n b q → Serves n K b q h → Serves n opaque b q D
    right_serves q brow w = record {
      least = λ v o.
          let t = low b v in
          let i : put h t ≡ t = put-closed h t (low_none b bscope v) in
          let c : B (put H t) (put H (h v)) = put_below n law H K Dom env t (h v) (nothing_over t (low_none b bscope v)) (over v) (subst (λ z. Below n K z (h v)) i (w.least v o)) in
          subst (λ z. B z (D v)) (put-closed H t (low_none b bscope v) ∙ sym (put-closed D t (low_none b bscope v))) c;
      most = λ v o.
          let t = top b q v in
          let c : B (put H (h v)) (put H (put h t)) = put_below n law H K Dom env (h v) (put h t) (over v) (put_over t) (w.most v o) in
          subst (λ z. B (D v) z) (put-put H h t) c;
      sure = λ v o d. of_sure n opaque (D v) (sure_put (h v) (over v) (sure_of n K (h v) (w.sure v o d)));
    }
      where
        nothing_over : (t : Ty) → vars_in t ≡ [] → Over n law Dom t
        nothing_over t e v i = absurd (has_none (vars_in t) v e i)

mapped : (n : Table) (f : ℕ → Ty) (ts us : List Ty) → Both (λ t u. Below n opaque t (put f u)) ts us → Both (Below n opaque) ts (map (put f) us)
mapped n f ts us both_end = both_end
mapped n f ts us (both_more x y vs ws p r) = both_more x (put f y) vs (map (put f) ws) p (mapped n f vs ws r)

unmapped : (n : Table) (f : ℕ → Ty) (ts us : List Ty) → Both (Below n opaque) ts (map (put f) us) → Both (λ t u. Below n opaque t (put f u)) ts us
unmapped n f [] [] b = both_end
unmapped n f [] (u ∷ us) b = elim b [ ]
unmapped n f (t ∷ ts) [] b = elim b [ ]
unmapped n f (t ∷ ts) (u ∷ us) (both_more x y vs ws p r) = both_more t u ts us p (unmapped n f ts us r)

-- two rows with the same variables in their parts have the same variables
moved : (a : Written) (xs ys : List Ty) → ((v : ℕ) → Stands a v xs → Stands a v ys) → (v : ℕ) (row : List Ty) → row ≡ xs → Occurs a v row → Occurs a v ys
moved a xs ys k v row e (standing x y o) = standing v ys (k v (subst (λ z. Stands a v z) e o))
moved a xs ys k v row e (bounding x w y o c) = bounding v w ys (moved a xs ys k w row e o) c

pub subsumed : (n : Table) → Lawful n → (a b : Written) → IsScoped a → IsScoped b → (ts : List Ty) → IsTrue (list_all (is_concrete n opaque) ts) → SigBelow n a b → Applicable n a ts → Applicable n b ts
subsumed n law a b scope bscope ts concrete order (r, f, row, serves, closed, both) =
    let sures = all_sure_of n opaque ts concrete in
    let picks = choices_has (map (forms (λ v. place_of a v (kind a v))) a.parts) r.parts (has_of (components a) r.parts row.parts) in
    let known : (k : ℕ) → Has (flat_map vars_in r.parts) k → Has (map (root a) (flat_map vars_in r.parts)) (root a k) = λ k i. has_map (root a) (flat_map vars_in r.parts) k i in
    let o = all_refit n law a scope r row f serves a.parts r.parts ts (λ p h v i. own_small a scope v (has_flat vars_in a.parts p v h i)) picks known sures (mapped n (λ k. f (root a k)) ts r.parts both) in
    let l : Row = record { parts = o.list; chosen = r.chosen } in
    let there : (v : ℕ) → Stands a v l.parts → Stands a v r.parts = λ v c. subst (λ z. Contains z v) o.roots c in
    let back : (v : ℕ) → Stands a v r.parts → Stands a v l.parts = λ v c. subst (λ z. Contains z v) (sym o.roots) c in
    let lrow : IsRow n a l = record {
      parts = of_has (components a) o.list (has_choices (map (forms (λ v. place_of a v (kind a v))) a.parts) o.list o.are_forms);
      chosen = λ v d c. row.chosen v d (there v c);
      other = λ v c. row.other v (λ i. c (back v i));
    } in
    let s = order l lrow in
    let q : RowBelow n a l b s.0 = s.2 in
    let over : (v : ℕ) → Over n law (λ w. Occurs a w r.parts) (q.0 v) = λ v w i. moved a l.parts r.parts there w l.parts refl (q.2 v w (of_has (vars_in (q.0 v)) w i)) in
    let roots_known : (k : ℕ) → Has (flat_map vars_in l.parts) k → Occurs a (root a k) r.parts
    = λ k i. standing (root a k) r.parts (there (root a k) (of_has (map (root a) (flat_map vars_in l.parts)) (root a k) (has_map (root a) (flat_map vars_in l.parts) k i))) in
    let H : ℕ → Ty = λ k. f (root a k) in (
      s.0,
      λ v. put H (q.0 v),
      s.1,
      right_serves n law a scope r row f serves b bscope q.0 over s.0 s.1 q.1,
      λ v. emptied H (λ k. closed (root a k)) (q.0 v),
      unmapped n (λ v. put H (q.0 (root b v))) ts s.0.parts
          (meet_put n law a scope r row f serves b bscope q.0 over ts l.parts s.0.parts sures (all_stand n law a scope r row f serves l.parts (row_plain a scope n l lrow) roots_known) o.fit (row_plain b bscope n s.0 s.1) q.3),
    )
