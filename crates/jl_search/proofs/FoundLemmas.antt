-- Values are found: where some types serve for a row, the types found serve.
use Rattle.std.proofs.Common.{◌≡◌, ◌∙◌, sym, ap, subst, refl, ℕ, true, cond, nat_eq, nat_lt, List, [], ◌∷◌, map, None, Some, ◌⊎◌}
use Rattle.std.specs.List.{flat_map}
use Rattle.jl_model.specs.declared.ty.Ty.{Ty}
use Rattle.jl_model.specs.declared.ty.Ty.TheOpen.{Ty-F, Any, Union, Tuple, Nominal, Var}
use Rattle.jl_model.specs.declared.ty.Ty.TheViews.{out-Ty}
use Rattle.jl_model.specs.declared.ty.Decl.{Decl}
use Rattle.jl_model.specs.declared.ty.Written.{Written}
use Rattle.jl_model.specs.Ancestors.{table_of}
use Rattle.jl_model.specs.Kinds.{diagonal, bound}
use Rattle.jl_model.specs.Rows.{width, kind, root, vars_in, Stands, Occurs}
use Rattle.jl_model.specs.Subtype.{Table, Fixed, Below, Equal, is_concrete}
use Rattle.jl_model.specs.Signature.{Row, Meets, Meet, any, tuple, nominal, same, atom, raise_tuple, raise_nominal, meet_end, meet_more}
use Rattle.jl_model.specs.Refusals.{Declared}
use Rattle.jl_model.proofs.TypeInduction.{Each}
use Rattle.jl_model.proofs.FormLemmas.{is_any, is_tuple, is_nominal, is_var}
use Rattle.jl_model.specs.Found.{first, raised, parts_of, or_none, ancestor, find_arg, find_inner, find_outer, outer, inner}
use Rattle.jl_search.specs.Open.{AreOpen, EachVar}
use Rattle.jl_search.proofs.HasLemmas.{Has}
use Rattle.jl_search.proofs.GoodLemmas.{Good, good_both, good_same, bare_good, at_var, split}
use Rattle.jl_search.proofs.FindLemmas as L
use Rattle.jl_search.proofs.OpenFound.{args_good}
use Rattle.jl_search.proofs.PartLemmas.{tuple_parts, nominal_arguments, head_plain, tail_plain}
use Rattle.jl_search.proofs.MeetLemmas.{LeftForms, AnyNumber, IsPart, AreParts}

-- what holds of a right row by its making
pub record RightRow (s : Written) (r : Row) : Type 0 where
  pub forms : AreParts r.parts
  pub inner_kind : (v : ℕ) → Has (flat_map inner r.parts) v → (kind s v ≡ bound) × (root s v ≡ v)
  pub places : (v : ℕ) → Stands s v r.parts → Has (flat_map inner r.parts) v ⊎ ((w : ℕ) × Has (flat_map outer r.parts) w × (root s w ≡ v))
  pub occur : (w : ℕ) → Has (flat_map outer r.parts) w → Stands s (root s w) r.parts
  pub occur_inner : (v : ℕ) → Has (flat_map inner r.parts) v → Stands s v r.parts
  pub outer_kind : (w : ℕ) → Has (flat_map outer r.parts) w → kind s (root s w) ≡ diagonal → root s w ≡ w
  pub diagonal_root : (w : ℕ) → Has (flat_map outer r.parts) w → kind s w ≡ diagonal → root s w ≡ w
  pub range : (v : ℕ) → Occurs s v r.parts → nat_lt v (width s) ≡ true

-- what is found equals what was put
module _ (ds : List Decl) (declared : Declared ds) (g : Fixed) (s : Written) (f : ℕ → Ty) (v : ℕ) (p o : Ty → Type 0) (forms : LeftForms (table_of ds) g p o) where
  abbrev n : Table
  n = table_of ds

  abbrev Same : Ty → Type 0
  Same y = Equal n y (f v) × o y

  -- the form of a type that is no variable is not raised
  steady : (x : Ty-F Ty) → ((w : ℕ) → x ≡ Var w → ⊥) → raised g x ≡ x
  steady Any k = refl
  steady (Union ts) k = refl
  steady (Tuple ts) k = refl
  steady (Nominal m ts) k = refl
  steady (Var w) k = absurd (k w refl)

  -- a variable and its upper bound have the same raised form
  raises : (t : Ty) (w : ℕ) → out-Ty t ≡ Var w → ((z : ℕ) → out-Ty (g.high w) ≡ Var z → ⊥) → raised g (out-Ty t) ≡ raised g (out-Ty (g.high w))
  raises t w e k = ap (raised g) e ∙ sym (steady (out-Ty (g.high w)) k)

  mutual
    inner_good : (t u : Ty) → IsPart u → p t → Meets n g s f t u → Good Same v (find_inner n g v u t) (inner u)
    inner_good t u k l (any t2 u2 i) =
        let m = is_any u i in
        bare_good Same v (find_inner n g v u t) (inner u) (ap (λ z. find_inner n g v z t) m ∙ L.inner-find-any n g v t) (ap inner m ∙ L.inner-any)
    inner_good t u k l (tuple t2 u2 xs ys i j z) =
        let m = is_tuple u ys j in
        good_same Same v (find_inner n g v u t) (first (map (find_inner n g v) ys) xs) (inner u) (flat_map inner ys)
        (ap (λ z. find_inner n g v z t) m ∙ L.inner-find-tuple n g v t ys ∙ ap (λ z. first (map (find_inner n g v) ys) (parts_of (raised g z))) i)
        (ap inner m ∙ L.inner-tuple ys)
        (inners_good xs ys (tuple_parts AnyNumber AreOpen u ys j k) (forms.part xs (subst p (is_tuple t xs i) l)) z)
    inner_good t u k l (nominal t2 u2 kk mm xs zs ys i j e z) =
        let m = is_nominal u mm ys j in
        good_same Same v (find_inner n g v u t) (first (map (find_arg v) ys) zs) (inner u) (flat_map vars_in ys)
        (ap (λ z. find_inner n g v z t) m ∙ L.inner-find-nominal n g v t mm ys ∙ ap (λ z. first (map (find_arg v) ys) (ancestor n mm (raised g z))) i
        ∙ ap (λ z. first (map (find_arg v) ys) (or_none z)) e)
        (ap inner m ∙ L.inner-nominal mm ys)
        (let a = forms.argument kk mm xs zs (subst p (is_nominal t kk xs i) l) e in args_good ds declared f v o forms.inside ys (nominal_arguments AnyNumber AreOpen u mm ys j k) zs a.0 a.1 z)
    inner_good t u k l (same t2 u2 w j d e) =
        let m = is_var u w j in
        bare_good Same v (find_inner n g v u t) (inner u) (ap (λ z. find_inner n g v z t) m ∙ L.inner-find-var n g v t w) (ap inner m ∙ L.inner-var w)
    inner_good t u k l (atom t2 u2 w j d e) =
        let m = is_var u w j in
        bare_good Same v (find_inner n g v u t) (inner u) (ap (λ z. find_inner n g v z t) m ∙ L.inner-find-var n g v t w) (ap inner m ∙ L.inner-var w)
    inner_good t u k l (raise_tuple t2 u2 w ys i j z) =
        let m = is_tuple u ys j in
        let h = forms.raise w (subst p (is_var t w i) l) in
        good_same Same v (find_inner n g v u t) (find_inner n g v u (g.high w)) (inner u) (inner u)
        (ap (λ z. find_inner n g v z t) m ∙ L.inner-find-tuple n g v t ys ∙ ap (λ z. first (map (find_inner n g v) ys) (parts_of z)) (raises t w i h.1)
        ∙ sym (L.inner-find-tuple n g v (g.high w) ys) ∙ sym (ap (λ z. find_inner n g v z (g.high w)) m))
        refl (inner_good (g.high w) u k h.0 z)
    inner_good t u k l (raise_nominal t2 u2 w mm ys i j z) =
        let m = is_nominal u mm ys j in
        let h = forms.raise w (subst p (is_var t w i) l) in
        good_same Same v (find_inner n g v u t) (find_inner n g v u (g.high w)) (inner u) (inner u)
        (ap (λ z. find_inner n g v z t) m ∙ L.inner-find-nominal n g v t mm ys ∙ ap (λ z. first (map (find_arg v) ys) (ancestor n mm z)) (raises t w i h.1)
        ∙ sym (L.inner-find-nominal n g v (g.high w) mm ys) ∙ sym (ap (λ z. find_inner n g v z (g.high w)) m))
        refl (inner_good (g.high w) u k h.0 z)

    pub inners_good : (ts us : List Ty) → AreParts us → Each p ts → Meet n g s f ts us → Good Same v (first (map (find_inner n g v) us) ts) (flat_map inner us)
    inners_good ts us k l meet_end = tt
    inners_good ts us k l (meet_more x y xs ys c z) =
        good_both Same v (find_inner n g v y x) (first (map (find_inner n g v) ys) xs) (inner y) (flat_map inner ys)
        (inner_good x y (head_plain AnyNumber AreOpen y ys k) l.0 c) (inners_good xs ys (tail_plain AnyNumber AreOpen y ys k) l.1 z)

  -- at covariant places, where P holds of the types there
  module _ (P : Ty → Type 0) (K : ℕ → Type 0) (at_same : (t : Ty) (w : ℕ) → v ≡ w → p t → K w → kind s w ≡ diagonal → Equal n t (f w) → P t)
      (at_atoms : (t : Ty) (w : ℕ) → v ≡ w → p t → K w → kind s (root s w) ≡ bound → Below n g t (f (root s w)) → P t) where
    mutual
      outer_good : (t u : Ty) → IsPart u → p t → EachVar K (outer u) → Meets n g s f t u → Good P v (find_outer g v u t) (outer u)
      outer_good t u k l c (any t2 u2 i) =
          let m = is_any u i in
          bare_good P v (find_outer g v u t) (outer u) (ap (λ z. find_outer g v z t) m ∙ L.outer-find-any g v t) (ap outer m ∙ L.outer-any)
      outer_good t u k l c (tuple t2 u2 xs ys i j z) =
          let m = is_tuple u ys j in
          good_same P v (find_outer g v u t) (first (map (find_outer g v) ys) xs) (outer u) (flat_map outer ys)
          (ap (λ z. find_outer g v z t) m ∙ L.outer-find-tuple g v t ys ∙ ap (λ z. first (map (find_outer g v) ys) (parts_of (raised g z))) i)
          (ap outer m ∙ L.outer-tuple ys)
          (outers_good xs ys (tuple_parts AnyNumber AreOpen u ys j k) (forms.part xs (subst p (is_tuple t xs i) l)) (subst (EachVar K) (ap outer m ∙ L.outer-tuple ys) c) z)
      outer_good t u k l c (nominal t2 u2 kk mm xs zs ys i j e z) =
          let m = is_nominal u mm ys j in
          bare_good P v (find_outer g v u t) (outer u) (ap (λ z. find_outer g v z t) m ∙ L.outer-find-nominal g v t mm ys) (ap outer m ∙ L.outer-nominal mm ys)
      outer_good t u k l c (same t2 u2 w j d e) =
          let m = is_var u w j in
          let r : EachVar K (w ∷ []) = subst (EachVar K) (ap outer m ∙ L.outer-var w) c in
          good_same P v (find_outer g v u t) (cond (nat_eq v w) (Some t) None) (outer u) (w ∷ [])
          (ap (λ z. find_outer g v z t) m ∙ L.outer-find-var g v t w) (ap outer m ∙ L.outer-var w)
          (at_var P v w t (nat_eq v w) refl (λ x. at_same t w x l r.0 d e))
      outer_good t u k l c (atom t2 u2 w j d e) =
          let m = is_var u w j in
          let r : EachVar K (w ∷ []) = subst (EachVar K) (ap outer m ∙ L.outer-var w) c in
          good_same P v (find_outer g v u t) (cond (nat_eq v w) (Some t) None) (outer u) (w ∷ [])
          (ap (λ z. find_outer g v z t) m ∙ L.outer-find-var g v t w) (ap outer m ∙ L.outer-var w)
          (at_var P v w t (nat_eq v w) refl (λ x. at_atoms t w x l r.0 d e))
      outer_good t u k l c (raise_tuple t2 u2 w ys i j z) =
          let m = is_tuple u ys j in
          let h = forms.raise w (subst p (is_var t w i) l) in
          good_same P v (find_outer g v u t) (find_outer g v u (g.high w)) (outer u) (outer u)
          (ap (λ z. find_outer g v z t) m ∙ L.outer-find-tuple g v t ys ∙ ap (λ z. first (map (find_outer g v) ys) (parts_of z)) (raises t w i h.1)
          ∙ sym (L.outer-find-tuple g v (g.high w) ys) ∙ sym (ap (λ z. find_outer g v z (g.high w)) m))
          refl (outer_good (g.high w) u k h.0 c z)
      outer_good t u k l c (raise_nominal t2 u2 w mm ys i j z) =
          let m = is_nominal u mm ys j in
          bare_good P v (find_outer g v u t) (outer u) (ap (λ z. find_outer g v z t) m ∙ L.outer-find-nominal g v t mm ys) (ap outer m ∙ L.outer-nominal mm ys)

      outers_good : (ts us : List Ty) → AreParts us → Each p ts → EachVar K (flat_map outer us) → Meet n g s f ts us
          → Good P v (first (map (find_outer g v) us) ts) (flat_map outer us)
      outers_good ts us k l c meet_end = tt
      outers_good ts us k l c (meet_more x y xs ys d z) =
          let r = split K (outer y) (flat_map outer ys) c in
          good_both P v (find_outer g v y x) (first (map (find_outer g v) ys) xs) (outer y) (flat_map outer ys)
          (outer_good x y (head_plain AnyNumber AreOpen y ys k) l.0 r.0 d) (outers_good xs ys (tail_plain AnyNumber AreOpen y ys k) l.1 r.1 z)

  abbrev SameSure : Ty → Type 0
  SameSure y = Equal n y (f v) × (is_concrete n g y ≡ true) × o y

  -- what is put for the variable is concrete where it stands at one of these places, which are its own there
  abbrev pub Known : ℕ → Type 0
  Known w = v ≡ w → (is_concrete n g (f w) ≡ true) × (root s w ≡ w)

  -- of a diagonal variable
  pub diagonals_good : kind s v ≡ diagonal → (ts us : List Ty) → AreParts us → Each p ts → EachVar Known (flat_map outer us) → Meet n g s f ts us
      → Good SameSure v (first (map (find_outer g v) us) ts) (flat_map outer us)
  diagonals_good is_diag = outers_good SameSure Known
      (λ t w x l r d e. let Q : ℕ → Type 0 = λ y. Equal n t (f y) in let a = forms.sure t (f w) l e (r x).0 in (subst Q (sym x) e, a.0, a.1))
      (λ t w x l r d e.
      let c : kind s (root s w) ≡ diagonal = ap (kind s) (r x).1 ∙ ap (kind s) (sym x) ∙ is_diag in let b : diagonal ≡ bound = sym c ∙ d in cc)

  -- of an atom of the variable k
  abbrev pub IsAtomOf : ℕ → ℕ → Type 0
  IsAtomOf k w = v ≡ w → (kind s w ≡ diagonal → ⊥) × (root s w ≡ k)

  pub atoms_good : (k : ℕ) (ts us : List Ty) → AreParts us → Each p ts → EachVar (IsAtomOf k) (flat_map outer us) → Meet n g s f ts us
      → Good (λ y. Below n g y (f k) × p y) v (first (map (find_outer g v) us) ts) (flat_map outer us)
  atoms_good k = outers_good (λ y. Below n g y (f k) × p y) (IsAtomOf k)
      (λ t w x l r d e. absurd ((r x).0 d))
      (λ t w x l r d e. (subst (λ z. Below n g t (f z)) (r x).1 e, l))
