-- A row in the middle: its atoms are taken so that the left parts that meet it are below the bounds of its variables, with types put in.
use Rattle.std.proofs.Common.{◌≡◌, ◌∙◌, sym, ap, subst, refl, ℕ, ◌<◌, true, false, List, [], ◌∷◌, ◌++◌, map, ◌⊎◌, inl, inr}
use Rattle.std.proofs.lemmas.List.{map-append}
use Rattle.std.specs.List.{flat_map}
use Rattle.jl_model.specs.declared.ty.Ty.{Ty}
use Rattle.jl_model.specs.declared.ty.Ty.TheOpen.{Any, Tuple, Nominal, Var}
use Rattle.jl_model.specs.declared.ty.Ty.TheViews.{out-Ty, outs-Any, outs-Tuple, outs-Nominal, outs-Var}
use Rattle.jl_model.specs.declared.ty.Ty.TheViews as V
use Rattle.jl_model.specs.declared.ty.Ty.TheVariants as W
use Rattle.jl_model.specs.declared.ty.Written.{Written}
use Rattle.jl_model.specs.Kinds.{Kind, unused, once, diagonal, bound}
use Rattle.jl_model.specs.Rows.{forms, alts, width, low, high, kind, atom, root, place_of, vars_in, Occurs}
use Rattle.jl_model.specs.Signature.{Row, IsRow, Serves, fixed, top, by_kind, Meets, Meet, any, tuple, nominal, same, atom as at_atom, raise_tuple, raise_nominal, meet_end, meet_more}
use Rattle.jl_model.specs.Subtype.{Table, Fixed, opaque, put, Below, Equal}
use Rattle.jl_model.proofs.TypeInduction.{Each, by_cases}
use Rattle.jl_model.proofs.FormLemmas.{vars-union, vars-tuple, vars-var}
use Rattle.jl_model.proofs.PutLemmas.{put-closed}
use Rattle.jl_model.proofs.AncestorLemmas.{Lawful}
use Rattle.jl_subsume.specs.Scoped.{IsScoped, IsOrdered}
use Rattle.jl_search.proofs.HasLemmas.{Has, Picks, has_left, has_right, has_flat}
use Rattle.jl_subsume.proofs.FormsLemmas.{any_form, union_form, form_union, tuple_form, form_tuple, nominal_form, var_form, form_var}
use Rattle.jl_search.proofs.PartLemmas.{Plain, AllPlain, tuple_parts, var_number, head_plain, tail_plain}
use Rattle.jl_search.proofs.LiftLemmas.{each_has, alt_below}
use Rattle.jl_subsume.proofs.PutBelowLemmas.{comes}
use Rattle.jl_subsume.proofs.ScopeLemmas.{IsSlot, Never, Small, is_less, root_own, root_atom, atom_past, at_atoms, an_atom, low_none, high_at, high_atom, bound_plain, diagonal_small, occurs_small}
use Rattle.jl_subsig.proofs.OrderLemmas.{before, after}
use Rattle.jl_subsig.proofs.EnvLemmas.{left_trans, own_trans}
use Rattle.jl_subsig.proofs.LeftBelowLemmas.{left_of, high_rigid, alt_of_left}

module _ (n : Table) (law : Lawful n) (a : Written) (ascope : IsScoped a) (aordered : IsOrdered n a) (l : Row) (lrow : IsRow n a l)
    (b : Written) (bscope : IsScoped b) (m : Row) (mrow : IsRow n b m) (f : ℕ → Ty) (serves : Serves n (fixed a l) b m f)
    (over : (v w : ℕ) → Has (vars_in (f v)) w → Occurs a w l.parts) where
  abbrev pub G : Fixed
  G = fixed a l

  abbrev pub K : Fixed
  K = fixed b m

  abbrev pub B : Ty → Ty → Type 0
  B = Below n G

  abbrev pub Left : Ty → Type 0
  Left = Plain (IsSlot a) (Small a ascope)

  abbrev pub Lefts : List Ty → Type 0
  Lefts = AllPlain (IsSlot a) (Small a ascope)

  -- the variables of the middle row
  abbrev pub Dom : ℕ → Type 0
  Dom v = Occurs b v m.parts

  -- no variable stands at a covariant place
  abbrev pub Rigid : Ty → Type 0
  Rigid = Plain Never (Small b bscope)

  abbrev pub Rigids : List Ty → Type 0
  Rigids = AllPlain Never (Small b bscope)

  -- the types put for the variables lie between the bounds, and below goes on from them
  pub put_small : (v w : ℕ) → Has (vars_in (f v)) w → w < width a
  put_small v w h = occurs_small a ascope n l lrow w (over v w h)

  pub from_put : (v : ℕ) (x z : Ty) → B (f v) x → B x z → B (f v) z
  from_put v x z p q = own_trans n law a ascope aordered l lrow (f v) x z (put_small v) p q

  pub from_left : (x y z : Ty) → Left x → B x y → B y z → B x z
  from_left x y z p q r = left_trans n law a ascope aordered l lrow x y z p q r

  pub dom_small : (v : ℕ) → Dom v → v < width b
  dom_small v h = occurs_small b bscope n m mrow v h

  pub put_top : (v : ℕ) → Dom v → B (f v) (put f (top b m v))
  put_top v h = serves.most v h

  pub put_low : (v : ℕ) → Dom v → B (low b v) (f v)
  put_low v h = subst (λ z. B z (f v)) (put-closed f (low b v) (low_none b bscope v)) (serves.least v h)

  mutual
    -- a left part meets a part of the middle row, and is below the bounds of the variables there, with types put in
    pub data Sits : Ty → Ty → Type 0 where
      sits_any : (x y : Ty) → out-Ty y ≡ Any → Sits x y
      sits_tuple : (x y : Ty) (xs ys : List Ty) → out-Ty x ≡ Tuple xs → out-Ty y ≡ Tuple ys → AllSit xs ys → Sits x y
      sits_raised : (x y : Ty) (k : ℕ) (ys : List Ty) → out-Ty x ≡ Var k → out-Ty y ≡ Tuple ys → Sits (G.high k) y → Sits x y
      sits_nominal : (x y : Ty) (j : ℕ) (ys : List Ty) → out-Ty y ≡ Nominal j ys → Meets n G b f x y → Sits x y
      sits_var : (x y : Ty) (k : ℕ) → out-Ty y ≡ Var k → Meets n G b f x y → B x (put f (K.high k)) → Sits x y

    pub data AllSit : List Ty → List Ty → Type 0 where
      sit_end : AllSit [] []
      sit_more : (x y : Ty) (xs ys : List Ty) → Sits x y → AllSit xs ys → AllSit (x ∷ xs) (y ∷ ys)

  mutual
    pub sits_meet : (x y : Ty) → Sits x y → Meets n G b f x y
    sits_meet x y (sits_any t u e) = any x y e
    sits_meet x y (sits_tuple t u xs ys d e p) = tuple x y xs ys d e (all_meet xs ys p)
    sits_meet x y (sits_raised t u k ys d e p) = raise_tuple x y k ys d e (sits_meet (G.high k) y p)
    sits_meet x y (sits_nominal t u j ys e p) = p
    sits_meet x y (sits_var t u k e p c) = p

    all_meet : (xs ys : List Ty) → AllSit xs ys → Meet n G b f xs ys
    all_meet xs ys sit_end = meet_end
    all_meet xs ys (sit_more x y vs ws p r) = meet_more x y vs ws (sits_meet x y p) (all_meet vs ws r)

  -- against a form without variables at covariant places
  mutual
    pub rigid_sits : (x y : Ty) → Rigid y → Meets n G b f x y → Sits x y
    rigid_sits x y p (any t u e) = sits_any x y e
    rigid_sits x y p (tuple t u xs ys d e q) = sits_tuple x y xs ys d e (all_rigid_sit xs ys (tuple_parts Never (Small b bscope) y ys e p) q)
    rigid_sits x y p (nominal t u k j xs zs ys d e o q) = sits_nominal x y j ys e (nominal x y k j xs zs ys d e o q)
    rigid_sits x y p (same t u v e d q) = absurd (var_number Never (Small b bscope) y v e p)
    rigid_sits x y p (at_atom t u v e d q) = absurd (var_number Never (Small b bscope) y v e p)
    rigid_sits x y p (raise_tuple t u v ys d e q) = sits_raised x y v ys d e (rigid_sits (G.high v) y p q)
    rigid_sits x y p (raise_nominal t u v j ys d e q) = sits_nominal x y j ys e (raise_nominal x y v j ys d e q)

    all_rigid_sit : (xs ys : List Ty) → Rigids ys → Meet n G b f xs ys → AllSit xs ys
    all_rigid_sit xs ys p meet_end = sit_end
    all_rigid_sit xs ys p (meet_more x y vs ws q r) = sit_more x y vs ws (rigid_sits x y (head_plain Never (Small b bscope) y ws p) q) (all_rigid_sit vs ws (tail_plain Never (Small b bscope) y ws p) r)

  -- at a variable
  pub at_var : (x y : Ty) (k : ℕ) → out-Ty y ≡ Var k → Meets n G b f x y → ((kind b k ≡ diagonal) × Equal n x (f k)) ⊎ ((kind b (root b k) ≡ bound) × B x (f (root b k)))
  at_var x y k e (any t u d) = let i : Var k ≡ Any = sym e ∙ d in cc
  at_var x y k e (tuple t u xs ys d o q) = let i : Var k ≡ Tuple ys = sym e ∙ o in cc
  at_var x y k e (nominal t u j i xs zs ys d o h q) = let c : Var k ≡ Nominal i ys = sym e ∙ o in cc
  at_var x y k e (same t u v d o q) =
      let i : Var v ≡ Var k = sym d ∙ e in let j : v ≡ k = cc in
      inl (subst (λ z. kind b z ≡ diagonal) j o, subst (λ z. Equal n x (f z)) j q)
  at_var x y k e (at_atom t u v d o q) =
      let i : Var v ≡ Var k = sym d ∙ e in let j : v ≡ k = cc in
      inr (subst (λ z. kind b (root b z) ≡ bound) j o, subst (λ z. B x (f (root b z))) j q)
  at_var x y k e (raise_tuple t u v ys d o q) = let i : Var k ≡ Tuple ys = sym e ∙ o in cc
  at_var x y k e (raise_nominal t u v j ys d o q) = let i : Var k ≡ Nominal j ys = sym e ∙ o in cc

  -- at a tuple
  record AtTuple (x : Ty) (ys : List Ty) : Type 0 where
    pub parts : List Ty
    pub stand : Lefts parts
    pub meet : Meet n G b f parts ys
    pub build : (w : Ty) (ws : List Ty) → out-Ty w ≡ Tuple ws → AllSit parts ws → Sits x w

  at_tuple : (x y : Ty) (ys : List Ty) → out-Ty y ≡ Tuple ys → Left x → Meets n G b f x y → AtTuple x ys
  at_tuple x y ys e p (any t u d) = let i : Tuple ys ≡ Any = sym e ∙ d in cc
  at_tuple x y ys e p (tuple t u xs vs d o q) =
      let i : Tuple vs ≡ Tuple ys = sym o ∙ e in let c : vs ≡ ys = cc in
      record { parts = xs; stand = tuple_parts (IsSlot a) (Small a ascope) x xs d p; meet = subst (λ z. Meet n G b f xs z) c q; build = λ w ws h s. sits_tuple x w xs ws d h s }
  at_tuple x y ys e p (nominal t u j i xs zs vs d o h q) = let c : Tuple ys ≡ Nominal i vs = sym e ∙ o in cc
  at_tuple x y ys e p (same t u v d o q) = let c : Tuple ys ≡ Var v = sym e ∙ d in cc
  at_tuple x y ys e p (at_atom t u v d o q) = let c : Tuple ys ≡ Var v = sym e ∙ d in cc
  at_tuple x y ys e p (raise_tuple t u v vs d o q) =
      let c = left_of n a ascope l lrow (G.high v) (high_rigid n a ascope l lrow x v d p) in
      let r = at_tuple (G.high v) y ys e c q in
      record { parts = r.parts; stand = r.stand; meet = r.meet; build = λ w ws h s. sits_raised x w v ws d h (r.build w ws h s) }
  at_tuple x y ys e p (raise_nominal t u v j vs d o q) = let c : Tuple ys ≡ Nominal j vs = sym e ∙ o in cc

  -- THE ATOMS TAKEN ANEW.
  abbrev places_in : ℕ → List Ty
  places_in v = place_of b v (kind b v)

  abbrev Known : Ty → Type 0
  Known y = (k : ℕ) → Has (vars_in y) k → Dom (root b k)

  abbrev Own : Ty → Type 0
  Own p = (v : ℕ) → Has (vars_in p) v → v < width b

  pub record Other (p y x : Ty) : Type 0 where
    pub form : Ty
    pub is_form : Has (forms places_in p) form
    pub roots : map (root b) (vars_in form) ≡ map (root b) (vars_in y)
    pub sits : Sits x form

  pub record Others (ps ys xs : List Ty) : Type 0 where
    pub list : List Ty
    pub are_forms : Picks list (map (forms places_in) ps)
    pub roots : map (root b) (flat_map vars_in list) ≡ map (root b) (flat_map vars_in ys)
    pub sit : AllSit xs list

  abbrev Retakes : Ty → Type 0
  Retakes p = Own p → (y : Ty) → Has (forms places_in p) y → Known y → (x : Ty) → Left x → Meets n G b f x y → Other p y x

  retake_each : (ps ys xs : List Ty) → Each Retakes ps → ((p : Ty) → Has ps p → Own p) → Picks ys (map (forms places_in) ps) → ((k : ℕ) → Has (flat_map vars_in ys) k → Dom (root b k))
      → Lefts xs → Meet n G b f xs ys → Others ps ys xs
  retake_each [] [] xs e o p k s meet_end = record { list = []; are_forms = tt; roots = refl; sit = sit_end }
  retake_each [] (y ∷ ys) xs e o p k s q = absurd p
  retake_each (p ∷ ps) [] xs e o h k s q = absurd h
  retake_each (p ∷ ps) (y ∷ ys) xs e o h k s (meet_more x w vs ws q qs) =
      let one = e.0 (o p (inl refl)) y h.0 (λ v i. k v (has_left (vars_in y) (flat_map vars_in ys) v i)) x (head_plain (IsSlot a) (Small a ascope) x vs s) q in
      let rest = retake_each ps ys vs e.1 (λ u i. o u (inr i)) h.1 (λ v i. k v (has_right (vars_in y) (flat_map vars_in ys) v i)) (tail_plain (IsSlot a) (Small a ascope) x vs s) qs in
      record {
        list = one.form ∷ rest.list;
        are_forms = (one.is_form, rest.are_forms);
        roots = map-append (root b) (vars_in one.form) (flat_map vars_in rest.list) ∙ ap (λ z. z ++ map (root b) (flat_map vars_in rest.list)) one.roots
            ∙ ap (λ z. map (root b) (vars_in y) ++ z) rest.roots ∙ sym (map-append (root b) (vars_in y) (flat_map vars_in ys));
        sit = sit_more x one.form vs rest.list one.sits rest.sit;
      }

  known_var : (y : Ty) (k : ℕ) → y ≡ W.Var k → Known y → Dom (root b k)
  known_var y k e h = h k (subst (λ z. Has z k) (sym (ap vars_in e ∙ vars-var k)) (inl refl))

  root_of : (y : Ty) (k : ℕ) → y ≡ W.Var k → map (root b) (vars_in y) ≡ root b k ∷ []
  root_of y k e = ap (λ z. map (root b) (vars_in z)) e ∙ ap (map (root b)) (vars-var k)

  form_at : (v : ℕ) (k : Kind) → kind b v ≡ k → (y : Ty) → Has (place_of b v k) y → Has (forms places_in (W.Var v)) y
  form_at v k e y h = form_var places_in v y (subst (λ z. Has (place_of b v z) y) (sym e) h)

  retake_diagonal : (v : ℕ) → v < width b → kind b v ≡ diagonal → (y : Ty) → y ≡ W.Var v → Known y → (x : Ty) → Left x → Meets n G b f x y → B x (put f (K.high v))
  retake_diagonal v i e y h k x p q = elim (at_var x y v (ap out-Ty h ∙ outs-Var v) q) [
    | inl r ↦
        let d : Dom v = subst Dom (root_own b v i) (known_var y v h k) in
        subst (λ z. B x (put f z)) (sym (high_at n b m v i)) (before n law G x (f v) (put f (top b m v)) r.1.0 (put_top v d))
    | inr r ↦ let c : diagonal ≡ bound = sym e ∙ sym (ap (kind b) (root_own b v i)) ∙ r.0 in cc
  ]

  below_put : (v i : ℕ) → v < width b → (x y : Ty) → y ≡ W.Var (atom b v i) → Meets n G b f x y → B x (f v)
  below_put v i o x y h q = elim (at_var x y (atom b v i) (ap out-Ty h ∙ outs-Var (atom b v i)) q) [
    | inl r ↦
        let c = is_less (atom b v i) (width b) (diagonal_small b bscope (atom b v i) r.0) in
        let d : true ≡ false = sym c ∙ atom_past b v i o in cc
    | inr r ↦ subst (λ z. B x (f z)) (root_atom b v i o) r.1
  ]

  retake_bound : (v : ℕ) → v < width b → kind b v ≡ bound → (y : Ty) → Has (place_of b v bound) y → Known y → (x : Ty) → Left x → Meets n G b f x y → Other (W.Var v) y x
  retake_bound v o e y h k x p q =
      let r = at_atoms b v (alts (high b v)) y h in
      let i : ℕ = r.0 in
      let c = below_put v i o x y r.1 q in
      let d : Dom v = subst Dom (root_atom b v i o) (known_var y (atom b v i) r.1 k) in
      let top_is : top b m v ≡ high b v = ap (λ z. by_kind z (m.chosen v) (high b v)) e in
      let u = alt_of_left n a ascope l lrow x (put f (high b v)) p (subst (λ z. B x (put f z)) top_is (from_left x (f v) (put f (top b m v)) p c (put_top v d))) in
      let t = comes f (high b v) u.0 u.1 in
      let under : B x (put f t.0) = after n law G x u.0 (put f t.0) u.2 (alt_below n opaque (put f t.0) u.0 t.2) in
      let s = an_atom b v (alts (high b v)) t.0 t.1 in
      let j : ℕ = s.0 in
      let w : Ty = W.Var (atom b v j) in
      let rj = root_atom b v j o in
      let meets : Meets n G b f x w = at_atom x w (atom b v j) (outs-Var (atom b v j)) (ap (kind b) rj ∙ e) (subst (λ z. B x (f z)) (sym rj) c) in
      record {
        form = w;
        is_form = form_at v bound e w s.1;
        roots = root_of w (atom b v j) refl ∙ ap (λ z. z ∷ []) (rj ∙ sym (root_atom b v i o)) ∙ sym (root_of y (atom b v i) r.1);
        sits = sits_var x w (atom b v j) (outs-Var (atom b v j)) meets (subst (λ z. B x (put f z)) (sym (high_atom n b m v j o ∙ s.2)) under);
      }

  retake_at : (v : ℕ) → v < width b → (k : Kind) → kind b v ≡ k → (y : Ty) → Has (place_of b v k) y → Known y → (x : Ty) → Left x → Meets n G b f x y → Other (W.Var v) y x
  retake_at v o unused e y h k x p q = absurd h
  retake_at v o once e y h k x p q = record { form = y; is_form = form_at v once e y h; roots = refl; sits = rigid_sits x y (bound_plain b bscope v y h) q }
  retake_at v o diagonal e y (inr h) k x p q = absurd h
  retake_at v o diagonal e y (inl h) k x p q = record {
    form = y;
    is_form = form_at v diagonal e y (inl h);
    roots = refl;
    sits = sits_var x y v (ap out-Ty (sym h) ∙ outs-Var v) q (retake_diagonal v o e y (sym h) k x p q);
  }
  retake_at v o bound e y h k x p q = retake_bound v o e y h k x p q

  member_own : (p : Ty) (ps : List Ty) → vars_in p ≡ flat_map vars_in ps → Own p → (q : Ty) → Has ps q → Own q
  member_own p ps e o q h v i = o v (subst (λ z. Has z v) (sym e) (has_flat vars_in ps q v h i))

  retake_tuple : (ps : List Ty) → Each Retakes ps → Retakes (V.Tuple ps)
  retake_tuple ps e o y h k x p q =
      let r = tuple_form places_in ps y h in
      let t = at_tuple x y r.0 (ap out-Ty (sym r.2) ∙ outs-Tuple r.0) p q in
      let v : vars_in y ≡ flat_map vars_in r.0 = ap vars_in (sym r.2) ∙ vars-tuple r.0 in
      let w = retake_each ps r.0 t.parts e (member_own (V.Tuple ps) ps (vars-tuple ps) o) r.1 (λ j i. k j (subst (λ z. Has z j) (sym v) i)) t.stand t.meet in
      record {
        form = V.Tuple w.list;
        is_form = form_tuple places_in ps w.list w.are_forms;
        roots = ap (map (root b)) (vars-tuple w.list) ∙ w.roots ∙ ap (map (root b)) (sym v);
        sits = t.build (V.Tuple w.list) w.list (outs-Tuple w.list) w.sit;
      }

  retake_union : (ps : List Ty) → Each Retakes ps → Retakes (V.Union ps)
  retake_union ps e o y h k x p q =
      let r = union_form places_in ps y h in
      let w = each_has Retakes ps e r.0 r.1 (member_own (V.Union ps) ps (vars-union ps) o r.0 r.1) y r.2 k x p q in
      record { form = w.form; is_form = form_union places_in ps r.0 w.form r.1 w.is_form; roots = w.roots; sits = w.sits }

  pub retakes : (p : Ty) → Retakes p
  retakes = by_cases Retakes (record {
    any = λ o y h k x p q. record { form = y; is_form = h; roots = refl; sits = sits_any x y (ap out-Ty (sym (any_form places_in y h)) ∙ outs-Any) };
    union = retake_union;
    tuple = retake_tuple;
    nominal = λ j ps e o y h k x p q. record { form = y; is_form = h; roots = refl; sits = sits_nominal x y j ps (ap out-Ty (sym (nominal_form places_in j ps y h)) ∙ outs-Nominal j ps) q };
    var = λ v o y h k x p q. retake_at v (o v (subst (λ z. Has z v) (sym (vars-var v)) (inl refl))) (kind b v) refl y (var_form places_in v y h) k x p q;
  })

  each_retakes : (ps : List Ty) → Each Retakes ps
  each_retakes [] = tt
  each_retakes (p ∷ ps) = (retakes p, each_retakes ps)

  pub all_retake : (ps ys xs : List Ty) → ((p : Ty) → Has ps p → Own p) → Picks ys (map (forms places_in) ps) → ((k : ℕ) → Has (flat_map vars_in ys) k → Dom (root b k))
      → Lefts xs → Meet n G b f xs ys → Others ps ys xs
  all_retake ps ys xs o p k s q = retake_each ps ys xs (each_retakes ps) o p k s q
