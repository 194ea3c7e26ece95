-- Concrete types that fit the parts of a row: each is below the types put for the variables there, and below the bounds that the
-- row's atoms and diagonal variables have.
use Rattle.std.proofs.Common.{◌≡◌, ◌∙◌, sym, ap, subst, refl, ℕ, ◌<◌, List, [], ◌∷◌, ◌++◌, map, inl, inr}
use Rattle.std.proofs.lemmas.List.{map-append}
use Rattle.std.specs.List.{flat_map}
use Rattle.jl_model.specs.declared.ty.Ty.{Ty}
use Rattle.jl_model.specs.declared.ty.Ty.TheOpen.{Any, Tuple, Nominal, Var}
use Rattle.jl_model.specs.declared.ty.Ty.TheViews.{out-Ty, outs-Any, outs-Tuple, outs-Nominal, outs-Var}
use Rattle.jl_model.specs.declared.ty.Ty.TheViews as V
use Rattle.jl_model.specs.declared.ty.Ty.TheVariants as W
use Rattle.jl_model.specs.declared.ty.Written.{Written}
use Rattle.jl_model.specs.Kinds.{Kind, unused, once, diagonal, bound}
use Rattle.jl_model.specs.Rows.{forms, alts, width, high, kind, atom, root, place_of, vars_in, standing}
use Rattle.jl_model.specs.Signature.{Row, IsRow, Both, both_end, both_more, Serves, fixed, top, by_kind}
use Rattle.jl_model.specs.Subtype.{Table, Fixed, opaque, put, Below}
use Rattle.jl_model.proofs.TypeInduction.{Each, by_cases}
use Rattle.jl_model.proofs.FormLemmas.{is_any, is_tuple, is_var, put-any, put-tuple, put-var, vars-union, vars-tuple, vars-var}
use Rattle.jl_model.proofs.AncestorLemmas.{Lawful}
use Rattle.jl_model.proofs.HeightLemmas.{PartBy, by_any, by_tuple, by_nominal, by_self}
use Rattle.jl_model.proofs.BelowLemmas.{below_any, below_part}
use Rattle.jl_model.proofs.TransLemmas.{below_trans}
use Rattle.jl_subsume.specs.Scoped.{IsScoped}
use Rattle.jl_search.proofs.HasLemmas.{Has, Picks, has_left, has_right, has_flat, of_has}
use Rattle.jl_subsume.proofs.FormsLemmas.{any_form, union_form, form_union, tuple_form, form_tuple, nominal_form, var_form, form_var}
use Rattle.jl_search.proofs.PartLemmas.{Plain, plain_any, plain_tuple, plain_nominal, plain_var, AllPlain, all_end, all_more}
use Rattle.jl_search.proofs.LiftLemmas.{each_has, alt_fine, alt_below}
use Rattle.jl_subsume.proofs.ScopeLemmas.{root_own, root_atom, at_atoms, an_atom, Never, Small, high_at, high_atom, bound_plain, top_small}
use Rattle.jl_subsume.proofs.PutBelowLemmas.{comes, alt_some, tuple_below}
use Rattle.jl_search.proofs.SeekLemmas.{agrees}
use Rattle.jl_subsume.proofs.SureLemmas.{Sure, AllSure, sure_end, sure_more, sure_single, sure_parts}

module _ (n : Table) (law : Lawful n) where
  abbrev B : Ty → Ty → Type 0
  B = Below n opaque

  abbrev S : Ty → Type 0
  S = Sure n opaque

  both_trans : (xs ys zs : List Ty) → Both B xs ys → Both B ys zs → Both B xs zs
  both_trans xs ys zs both_end both_end = both_end
  both_trans xs ys zs (both_more x y vs ws p r) (both_more h z is js q s) = both_more x z vs js (below_trans n law x y z p q) (both_trans vs ws js r s)

  part_tuple : (t c : Ty) (us : List Ty) → S t → out-Ty c ≡ Tuple us → PartBy n B t c → (ts : List Ty) × (out-Ty t ≡ Tuple ts) × Both B ts us
  part_tuple t c us s e (by_any x y f) = let d : Tuple us ≡ Any = sym e ∙ f in cc
  part_tuple t c us s e (by_tuple x y xs ys f g p) = let d : Tuple ys ≡ Tuple us = sym g ∙ e in let i : ys ≡ us = cc in (xs, f, subst (λ z. Both B xs z) i p)
  part_tuple t c us s e (by_nominal x y k m xs zs ys f g l p) = let d : Tuple us ≡ Nominal m ys = sym e ∙ g in cc
  part_tuple t c us s e (by_self x y v f g) = let d : Tuple us ≡ Var v = sym e ∙ g in cc

  -- a concrete type below a tuple is a tuple
  single_tuple : (t c : Ty) (us : List Ty) → S t → alts c ≡ c ∷ [] → out-Ty c ≡ Tuple us → B t c → (ts : List Ty) × (out-Ty t ≡ Tuple ts) × Both B ts us
  single_tuple t c us s i e b = part_tuple t c us s e (below_part n t c (sure_single n opaque t s) i b)

  picked : (cs ws : List Ty) → Picks cs (map alts ws) → Both B cs ws
  picked [] [] p = both_end
  picked [] (w ∷ ws) p = absurd p
  picked (c ∷ cs) [] p = absurd p
  picked (c ∷ cs) (w ∷ ws) p = both_more c w cs ws (alt_below n opaque w c p.0) (picked cs ws p.1)

  pub under_tuple : (t : Ty) (ws : List Ty) → S t → B t (V.Tuple ws) → (ts : List Ty) × (out-Ty t ≡ Tuple ts) × Both B ts ws
  under_tuple t ws s b =
      let r = alt_some n t (V.Tuple ws) (sure_single n opaque t s) b in
      let q = tuple_form (λ v. W.Var v ∷ []) ws r.0 r.1 in
      let p = single_tuple t r.0 q.0 s (alt_fine n opaque (V.Tuple ws) r.0 r.1).0 (ap out-Ty (sym q.2) ∙ outs-Tuple q.0) r.2 in
      (p.0, p.1, both_trans p.0 q.0 ws p.2 (picked q.0 ws q.1))

  -- F puts types for variables and atoms, and G bounds them
  module _ (F : ℕ → Ty) (G : Fixed) where
    mutual
      pub data Fits : Ty → Ty → Type 0 where
        fits_any : (t x : Ty) → out-Ty x ≡ Any → Fits t x
        fits_tuple : (t x : Ty) (ts us : List Ty) → out-Ty t ≡ Tuple ts → out-Ty x ≡ Tuple us → AllFit ts us → Fits t x
        fits_nominal : (t x : Ty) (k : ℕ) (xs : List Ty) → out-Ty x ≡ Nominal k xs → B t (put F x) → Fits t x
        fits_var : (t x : Ty) (k : ℕ) → out-Ty x ≡ Var k → B t (F k) → B t (put F (G.high k)) → Fits t x

      pub data AllFit : List Ty → List Ty → Type 0 where
        fit_end : AllFit [] []
        fit_more : (t x : Ty) (ts xs : List Ty) → Fits t x → AllFit ts xs → AllFit (t ∷ ts) (x ∷ xs)

    -- what fits is below the part with the types put in
    mutual
      pub fit_put : (t x : Ty) → Fits t x → B t (put F x)
      fit_put t x (fits_any s y e) = subst (λ z. B t z) (sym (ap (put F) (is_any x e) ∙ put-any F)) (below_any n t)
      fit_put t x (fits_tuple s y ts us e d p) =
          subst (λ z. B z (put F x)) (sym (is_tuple t ts e)) (subst (λ z. B (V.Tuple ts) z) (sym (ap (put F) (is_tuple x us d) ∙ put-tuple F us)) (tuple_below n law ts (map (put F) us) (all_put ts us p)))
      fit_put t x (fits_nominal s y k xs e b) = b
      fit_put t x (fits_var s y k e b c) = subst (λ z. B t z) (sym (ap (put F) (is_var x k e) ∙ put-var F k)) b

      all_put : (ts us : List Ty) → AllFit ts us → Both B ts (map (put F) us)
      all_put ts us fit_end = both_end
      all_put ts us (fit_more t x ss xs p r) = both_more t (put F x) ss (map (put F) xs) (fit_put t x p) (all_put ss xs r)

    pub fit_tuple : (t x : Ty) (us : List Ty) → out-Ty x ≡ Tuple us → Fits t x → (ts : List Ty) × (out-Ty t ≡ Tuple ts) × AllFit ts us
    fit_tuple t x us e (fits_any s y d) = let f : Tuple us ≡ Any = sym e ∙ d in cc
    fit_tuple t x us e (fits_tuple s y ts vs d i p) = let f : Tuple vs ≡ Tuple us = sym i ∙ e in let c : vs ≡ us = cc in (ts, d, subst (λ z. AllFit ts z) c p)
    fit_tuple t x us e (fits_nominal s y k xs d b) = let f : Tuple us ≡ Nominal k xs = sym e ∙ d in cc
    fit_tuple t x us e (fits_var s y k d b c) = let f : Tuple us ≡ Var k = sym e ∙ d in cc

    pub fit_high : (t x : Ty) (v : ℕ) → out-Ty x ≡ Var v → Fits t x → B t (put F (G.high v))
    fit_high t x v e (fits_any s y d) = let f : Var v ≡ Any = sym e ∙ d in cc
    fit_high t x v e (fits_tuple s y ts vs d i p) = let f : Tuple vs ≡ Var v = sym i ∙ e in cc
    fit_high t x v e (fits_nominal s y k xs d b) = let f : Var v ≡ Nominal k xs = sym e ∙ d in cc
    fit_high t x v e (fits_var s y k d b c) = let f : Var k ≡ Var v = sym d ∙ e in let i : k ≡ v = cc in subst (λ z. B t (put F (G.high z))) i c

    -- what is below a form without variables at covariant places fits it
    module _ (Q : List Ty → Type 0) where
      mutual
        pub fit_rigid : (t c : Ty) → S t → Plain Never Q c → B t (put F c) → Fits t c
        fit_rigid t c s (plain_any x e) b = fits_any t c e
        fit_rigid t c s (plain_tuple x us e p) b =
            let r = under_tuple t (map (put F) us) s (subst (λ z. B t z) (ap (put F) (is_tuple c us e) ∙ put-tuple F us) b) in
            fits_tuple t c r.0 us r.1 e (all_rigid r.0 us (sure_parts n opaque t r.0 r.1 s) p r.2)
        fit_rigid t c s (plain_nominal x k xs e q) b = fits_nominal t c k xs e b
        fit_rigid t c s (plain_var x k e d) b = absurd d

        all_rigid : (ts us : List Ty) → AllSure n opaque ts → AllPlain Never Q us → Both B ts (map (put F) us) → AllFit ts us
        all_rigid [] us s all_end both_end = fit_end
        all_rigid (t ∷ ts) us s all_end b = elim b [ ]
        all_rigid ts us sure_end (all_more u vs h k) b = elim b [ ]
        all_rigid ts us (sure_more t ss p q) (all_more u vs h k) (both_more x y xs ys b r) = fit_more x u xs vs (fit_rigid x u p h b) (all_rigid xs vs q k r)

-- THE LEFT ROW: the atoms of a row that applies are taken so that the types fit.
module _ (n : Table) (law : Lawful n) (a : Written) (scope : IsScoped a) (r : Row) (row : IsRow n a r) (f : ℕ → Ty) (serves : Serves n opaque a r f) where
  abbrev pub F : ℕ → Ty
  F k = f (root a k)

  abbrev pub G : Fixed
  G = fixed a r

  abbrev pub names : List ℕ
  names = map (root a) (flat_map vars_in r.parts)

  abbrev places_in : ℕ → List Ty
  places_in v = place_of a v (kind a v)

  abbrev Known : Ty → Type 0
  Known x = (k : ℕ) → Has (vars_in x) k → Has names (root a k)

  -- another form of p that t fits, with the same variables
  pub record Other (p x t : Ty) : Type 0 where
    pub form : Ty
    pub is_form : Has (forms places_in p) form
    pub roots : map (root a) (vars_in form) ≡ map (root a) (vars_in x)
    pub fits : Fits n law F G t form

  pub record Others (ps xs ts : List Ty) : Type 0 where
    pub list : List Ty
    pub are_forms : Picks list (map (forms places_in) ps)
    pub roots : map (root a) (flat_map vars_in list) ≡ map (root a) (flat_map vars_in xs)
    pub fit : AllFit n law F G ts list

  abbrev Own : Ty → Type 0
  Own p = (v : ℕ) → Has (vars_in p) v → v < width a

  abbrev Refits : Ty → Type 0
  Refits p = Own p → (x : Ty) → Has (forms places_in p) x → Known x → (t : Ty) → S n law t → B n law t (put F x) → Other p x t

  refit_member : (ps : List Ty) (x t : Ty) → Each Refits ps → ((p : Ty) → Has ps p → Own p) → (p : Ty) → Has ps p → Has (forms places_in p) x → Known x → S n law t → B n law t (put F x) → Other p x t
  refit_member ps x t e o p h i k s b = each_has Refits ps e p h (o p h) x i k t s b

  refit_each : (ps xs ts : List Ty) → Each Refits ps → ((p : Ty) → Has ps p → Own p) → Picks xs (map (forms places_in) ps) → ((k : ℕ) → Has (flat_map vars_in xs) k → Has names (root a k))
      → AllSure n opaque ts → Both (B n law) ts (map (put F) xs) → Others ps xs ts
  refit_each [] [] ts e o p k sure_end both_end = record { list = []; are_forms = tt; roots = refl; fit = fit_end }
  refit_each [] [] ts e o p k (sure_more t us s ss) b = elim b [ ]
  refit_each [] (x ∷ xs) ts e o p k s b = absurd p
  refit_each (p ∷ ps) (x ∷ xs) ts e o h k sure_end b = elim b [ ]
  refit_each (p ∷ ps) [] ts e o h k s b = absurd h
  refit_each (p ∷ ps) (x ∷ xs) ts e o h k (sure_more t us s ss) (both_more w y ws ys b bs) =
      let one = e.0 (o p (inl refl)) x h.0 (λ v i. k v (has_left (vars_in x) (flat_map vars_in xs) v i)) t s b in
      let rest = refit_each ps xs us e.1 (λ q i. o q (inr i)) h.1 (λ v i. k v (has_right (vars_in x) (flat_map vars_in xs) v i)) ss bs in
      record {
        list = one.form ∷ rest.list;
        are_forms = (one.is_form, rest.are_forms);
        roots = map-append (root a) (vars_in one.form) (flat_map vars_in rest.list) ∙ ap (λ z. z ++ map (root a) (flat_map vars_in rest.list)) one.roots
            ∙ ap (λ z. map (root a) (vars_in x) ++ z) rest.roots ∙ sym (map-append (root a) (vars_in x) (flat_map vars_in xs));
        fit = fit_more t one.form us rest.list one.fits rest.fit;
      }

  -- at a variable
  top_put : (v : ℕ) → put f (top a r v) ≡ put F (top a r v)
  top_put v = agrees f F (top a r v) (λ w h. sym (ap f (root_own a w (top_small n a r scope row v w h))))

  below_high : (v : ℕ) → v < width a → Has names v → B n law (f v) (put F (top a r v))
  below_high v l h = subst (λ z. B n law (f v) z) (top_put v) (serves.most v (standing v r.parts (of_has names v h)))

  F_own : (v : ℕ) → v < width a → F v ≡ f v
  F_own v l = ap f (root_own a v l)

  F_atom : (v i : ℕ) → v < width a → F (atom a v i) ≡ f v
  F_atom v i l = ap f (root_atom a v i l)

  put_var : (x t : Ty) (k : ℕ) → x ≡ W.Var k → B n law t (put F x) → B n law t (F k)
  put_var x t k e b = subst (λ z. B n law t z) (ap (put F) e ∙ put-var F k) b

  root_of : (x : Ty) (k : ℕ) → x ≡ W.Var k → map (root a) (vars_in x) ≡ root a k ∷ []
  root_of x k e = ap (λ z. map (root a) (vars_in z)) e ∙ ap (map (root a)) (vars-var k)

  known_var : (x : Ty) (k : ℕ) → x ≡ W.Var k → Known x → Has names (root a k)
  known_var x k e h = h k (subst (λ z. Has z k) (sym (ap vars_in e ∙ vars-var k)) (inl refl))

  form_at : (v : ℕ) (k : Kind) → kind a v ≡ k → (x : Ty) → Has (place_of a v k) x → Has (forms places_in (W.Var v)) x
  form_at v k e x h = form_var places_in v x (subst (λ z. Has (place_of a v z) x) (sym e) h)

  refit_at : (v : ℕ) → v < width a → (k : Kind) → kind a v ≡ k → (x : Ty) → Has (place_of a v k) x → Known x → (t : Ty) → S n law t → B n law t (put F x) → Other (W.Var v) x t
  refit_at v l unused e x h k t s b = absurd h
  refit_at v l once e x h k t s b =
      record {
        form = x;
        is_form = form_at v once e x h;
        roots = refl;
        fits = fit_rigid n law F G (Small a scope) t x s (bound_plain a scope v x h) b;
      }
  refit_at v l diagonal e x (inr h) k t s b = absurd h
  refit_at v l diagonal e x (inl h) k t s b =
      let c : B n law t (F v) = put_var x t v (sym h) b in
      let d : Has names v = subst (λ z. Has names z) (root_own a v l) (known_var x v (sym h) k) in
      let top_is : B n law t (put F (G.high v)) = subst (λ z. B n law t (put F z)) (sym (high_at n a r v l)) (below_trans n law t (f v) (put F (top a r v)) (subst (λ z. B n law t z) (F_own v l) c) (below_high v l d)) in
      record {
        form = x;
        is_form = form_at v diagonal e x (inl h);
        roots = refl;
        fits = fits_var t x v (ap out-Ty (sym h) ∙ outs-Var v) c top_is;
      }
  refit_at v l bound e x h k t s b =
      let q = at_atoms a v (alts (high a v)) x h in
      let i : ℕ = q.0 in
      let c : B n law t (f v) = subst (λ z. B n law t z) (F_atom v i l) (put_var x t (atom a v i) q.1 b) in
      let d : Has names v = subst (λ z. Has names z) (root_atom a v i l) (known_var x (atom a v i) q.1 k) in
      let not_chosen : top a r v ≡ high a v = ap (λ z. by_kind z (r.chosen v) (high a v)) e in
      let up : B n law t (put F (high a v)) = subst (λ z. B n law t (put F z)) not_chosen (below_trans n law t (f v) (put F (top a r v)) c (below_high v l d)) in
      let w = alt_some n t (put F (high a v)) (sure_single n opaque t s) up in
      let u = comes F (high a v) w.0 w.1 in
      let m = an_atom a v (alts (high a v)) u.0 u.1 in
      let j : ℕ = m.0 in
      let y : Ty = W.Var (atom a v j) in
      record {
        form = y;
        is_form = form_at v bound e y m.1;
        roots = root_of y (atom a v j) refl ∙ ap (λ z. z ∷ []) (root_atom a v j l ∙ sym (root_atom a v i l)) ∙ sym (root_of x (atom a v i) q.1);
        fits = fits_var t y (atom a v j) (outs-Var (atom a v j)) (subst (λ z. B n law t z) (sym (F_atom v j l)) c)
            (subst (λ z. B n law t (put F z)) (sym (high_atom n a r v j l ∙ m.2)) (below_trans n law t w.0 (put F u.0) w.2 (alt_below n opaque (put F u.0) w.0 u.2)));
      }

  member_own : (p : Ty) (ps : List Ty) → vars_in p ≡ flat_map vars_in ps → Own p → (q : Ty) → Has ps q → Own q
  member_own p ps e o q h v i = o v (subst (λ z. Has z v) (sym e) (has_flat vars_in ps q v h i))

  refit_tuple : (ps : List Ty) → Each Refits ps → Refits (V.Tuple ps)
  refit_tuple ps e o x h k t s b =
      let r = tuple_form places_in ps x h in
      let c : B n law t (V.Tuple (map (put F) r.0)) = subst (λ z. B n law t z) (ap (put F) (sym r.2) ∙ put-tuple F r.0) b in
      let q = under_tuple n law t (map (put F) r.0) s c in
      let v : vars_in x ≡ flat_map vars_in r.0 = ap vars_in (sym r.2) ∙ vars-tuple r.0 in
      let w = refit_each ps r.0 q.0 e (member_own (V.Tuple ps) ps (vars-tuple ps) o) r.1 (λ m i. k m (subst (λ z. Has z m) (sym v) i)) (sure_parts n opaque t q.0 q.1 s) q.2 in
      record {
        form = V.Tuple w.list;
        is_form = form_tuple places_in ps w.list w.are_forms;
        roots = ap (map (root a)) (vars-tuple w.list) ∙ w.roots ∙ ap (map (root a)) (sym v);
        fits = fits_tuple t (V.Tuple w.list) q.0 w.list q.1 (outs-Tuple w.list) w.fit;
      }

  refit_union : (ps : List Ty) → Each Refits ps → Refits (V.Union ps)
  refit_union ps e o x h k t s b =
      let r = union_form places_in ps x h in
      let w = refit_member ps x t e (member_own (V.Union ps) ps (vars-union ps) o) r.0 r.1 r.2 k s b in
      record { form = w.form; is_form = form_union places_in ps r.0 w.form r.1 w.is_form; roots = w.roots; fits = w.fits }

  pub refits : (p : Ty) → Refits p
  refits = by_cases Refits (record {
    any = λ o x h k t s b. record { form = x; is_form = h; roots = refl; fits = fits_any t x (ap out-Ty (sym (any_form places_in x h)) ∙ outs-Any) };
    union = refit_union;
    tuple = refit_tuple;
    nominal = λ m ps e o x h k t s b. record { form = x; is_form = h; roots = refl; fits = fits_nominal t x m ps (ap out-Ty (sym (nominal_form places_in m ps x h)) ∙ outs-Nominal m ps) b };
    var = λ v o x h k t s b. refit_at v (o v (subst (λ z. Has z v) (sym (vars-var v)) (inl refl))) (kind a v) refl x (var_form places_in v x h) k t s b;
  })

  each_refits : (ps : List Ty) → Each Refits ps
  each_refits [] = tt
  each_refits (p ∷ ps) = (refits p, each_refits ps)

  pub all_refit : (ps xs ts : List Ty) → ((p : Ty) → Has ps p → Own p) → Picks xs (map (forms places_in) ps) → ((k : ℕ) → Has (flat_map vars_in xs) k → Has names (root a k))
      → AllSure n opaque ts → Both (B n law) ts (map (put F) xs) → Others ps xs ts
  all_refit ps xs ts o p k s b = refit_each ps xs ts (each_refits ps) o p k s b
