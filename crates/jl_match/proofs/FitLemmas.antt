-- A concrete normal type meets a part of a row exactly where it is below the part with the types put in.
use Rattle.std.proofs.Common.{◌≡◌, ◌∙◌, sym, ap, subst, refl, ℕ, true, false, List, [], ◌∷◌, map, ◌⊎◌, inl, inr}
use Rattle.std.specs.List.{flat_map}
use Rattle.jl_model.specs.declared.ty.Ty.{Ty}
use Rattle.jl_model.specs.declared.ty.Ty.TheOpen.{Any, Tuple, Nominal, Var}
use Rattle.jl_model.specs.declared.ty.Ty.TheViews.{out-Ty, outs-Tuple, outs-Nominal}
use Rattle.jl_model.specs.declared.ty.Ty.TheViews as V
use Rattle.jl_model.specs.declared.ty.Ty.TheVariants as W
use Rattle.jl_model.specs.declared.ty.Decl.{Decl}
use Rattle.jl_model.specs.declared.ty.Written.{Written}
use Rattle.jl_model.specs.Ancestors.{table_of}
use Rattle.jl_model.specs.Kinds.{diagonal, bound}
use Rattle.jl_model.specs.Rows.{kind, root, vars_in}
use Rattle.jl_model.specs.Subtype.{Table, opaque, put, lifted, Below, Equals}
use Rattle.jl_model.specs.Signature.{Both, both_end, both_more, Meets, Meet, any, tuple, nominal, same, atom, raise_tuple, raise_nominal, meet_end, meet_more}
use Rattle.jl_model.specs.Refusals.{Declared}
use Rattle.jl_model.proofs.TypeInduction.{Each}
use Rattle.jl_model.proofs.FormLemmas.{is_any, is_tuple, is_nominal, is_var, alts-nominal, put-any, put-tuple, put-nominal, put-var, vars-nominal, vars-var}
use Rattle.jl_model.proofs.PutLemmas.{put-closed}
use Rattle.jl_model.proofs.HeightLemmas.{PartBy, by_any, by_tuple, by_nominal, by_self, equals_of}
use Rattle.jl_model.proofs.BelowLemmas.{below_any, below_part, part_below, equals_both}
use Rattle.jl_model.proofs.DeclaredLemmas.{declared_lawful}
use Rattle.jl_model.specs.Found.{outer, inner}
use Rattle.jl_match.specs.KeptRow.{IsArgument, AreArguments, closed, variable, applied, arguments_end, arguments_more, IsPart, AreParts, any as part_any, variable as part_variable, tuple as part_tuple, nominal as part_nominal, parts_end, parts_more}
use Rattle.jl_search.specs.Open.{EachVar}
use Rattle.jl_search.proofs.GoodLemmas.{split}
use Rattle.jl_search.proofs.FindLemmas as L
use Rattle.jl_match.proofs.PartLemmas.{parts_in, arguments_in, head_part, tail_parts}
use Rattle.jl_match.proofs.TupleLemmas.{tuple_below, below_tuple}
use Rattle.jl_match.proofs.ConcreteLemmas.{Concrete, concrete-var, parts_concrete, concrete_lone, all_lone, concrete_turns}

-- what is put for the variables of arguments alone counts
module _ (n : Table) (f h : ℕ → Ty) where
  mutual
    arg_alike : (u : Ty) → IsArgument n u → EachVar (λ v. f v ≡ h v) (vars_in u) → put f u ≡ put h u
    arg_alike u (closed t e g) a = put-closed f u e ∙ sym (put-closed h u e)
    arg_alike u (variable t v o) a =
        let i = is_var u v o in
        let b : EachVar (λ v. f v ≡ h v) (v ∷ []) = subst (EachVar (λ v. f v ≡ h v)) (ap vars_in i ∙ vars-var v) a in
        ap (put f) i ∙ put-var f v ∙ b.0 ∙ sym (put-var h v) ∙ sym (ap (put h) i)
    arg_alike u (applied t k us o g) a =
        let i = is_nominal u k us o in
        let r = args_alike us g (subst (EachVar (λ v. f v ≡ h v)) (ap vars_in i ∙ vars-nominal k us) a) in
        ap (put f) i ∙ put-nominal f k us ∙ ap (λ z. V.Nominal k z) r ∙ sym (put-nominal h k us) ∙ sym (ap (put h) i)

    pub args_alike : (us : List Ty) → AreArguments n us → EachVar (λ v. f v ≡ h v) (flat_map vars_in us) → map (put f) us ≡ map (put h) us
    args_alike us arguments_end a = refl
    args_alike us (arguments_more u vs p q) a =
        let r = split (λ v. f v ≡ h v) (vars_in u) (flat_map vars_in vs) a in
        let e = arg_alike u p r.0 in
        let g = args_alike vs q r.1 in
        cc

module _ (ds : List Decl) (declared : Declared ds) (s : Written) (f : ℕ → Ty) where
  abbrev n : Table
  n = table_of ds

  -- the types put for variables and atoms
  abbrev F : ℕ → Ty
  F v = f (root s v)

  abbrev pub Own : ℕ → Type 0
  Own v = F v ≡ f v

  -- a diagonal variable at its own place with a concrete type, or an atom
  abbrev pub Placed : ℕ → Type 0
  Placed w = ((kind s w ≡ diagonal) × (F w ≡ f w) × Concrete n (f w)) ⊎ (kind s (root s w) ≡ bound)

  abbrev pub Diagonal : ℕ → Type 0
  Diagonal w = kind s w ≡ diagonal → F w ≡ f w

  put_args : (u : Ty) (m : ℕ) (ys : List Ty) → out-Ty u ≡ Nominal m ys → IsPart n u → EachVar Own (inner u) → map (put F) ys ≡ map (put f) ys
  put_args u m ys j k a =
      args_alike n F f ys (arguments_in n u m ys j k) (subst (EachVar Own) (ap inner (is_nominal u m ys j) ∙ L.inner-nominal m ys) a)

  concrete_at : (t u : Ty) → t ≡ u → Concrete n t → Concrete n u
  concrete_at t u e c = subst (Concrete n) e c

  variable_left : (t : Ty) (v : ℕ) → out-Ty t ≡ Var v → Concrete n t → ⊥
  variable_left t v i c = let e : true ≡ false = sym (concrete_at t (W.Var v) (is_var t v i) c) ∙ concrete-var n v in cc

  put_both : (xs ys : List Ty) → Both (λ t u. Below n opaque t (put F u)) xs ys → Both (Below n opaque) xs (map (put F) ys)
  put_both xs ys both_end = both_end
  put_both xs ys (both_more x y vs ws b q) = both_more x (put F y) vs (map (put F) ws) b (put_both vs ws q)

  pub both_put : (xs ys : List Ty) → Both (Below n opaque) xs (map (put F) ys) → Both (λ t u. Below n opaque t (put F u)) xs ys
  both_put [] [] b = both_end
  both_put (x ∷ xs) [] b = elim b [ ]
  both_put [] (y ∷ ys) b = elim b [ ]
  both_put (x ∷ xs) (y ∷ ys) (both_more a c vs ws p q) = both_more x y xs ys p (both_put xs ys q)

  mutual
    pub meets_below : (t u : Ty) → IsPart n u → EachVar Own (inner u) → EachVar Diagonal (outer u) → Concrete n t → Meets n opaque s f t u → Below n opaque t (put F u)
    meets_below t u k a b c (any t2 u2 i) = let p = ap (put F) (is_any u i) ∙ put-any F in rw p (below_any n t)
    meets_below t u k a b c (tuple t2 u2 xs ys i j q) =
        let m = is_tuple u ys j in
        let p = ap (put F) m ∙ put-tuple F ys in
        let e = parts_concrete n xs (concrete_at t (V.Tuple xs) (is_tuple t xs i) c) in
        let r = meet_below xs ys (parts_in n u ys j k) (subst (EachVar Own) (ap inner m ∙ L.inner-tuple ys) a) (subst (EachVar Diagonal) (ap outer m ∙ L.outer-tuple ys) b) e q in
        rw p (tuple_below n t xs (map (put F) ys) i (concrete_lone n t c) (all_lone n xs e) (put_both xs ys r))
    meets_below t u k a b c (nominal t2 u2 kk mm xs zs ys i j o q) =
        let p = ap (put F) (is_nominal u mm ys j) ∙ put-nominal F mm ys ∙ ap (λ z. V.Nominal mm z) (put_args u mm ys j k a) in
        let w = map (put f) ys in
        rw p (part_below n t (V.Nominal mm w) (concrete_lone n t c) (alts-nominal mm w) (by_nominal t (V.Nominal mm w) kk mm xs zs w i (outs-Nominal mm w) o (equals_both n zs w q)))
    meets_below t u k a b c (same t2 u2 v j d e) =
        let r : EachVar Diagonal (v ∷ []) = subst (EachVar Diagonal) (ap outer (is_var u v j) ∙ L.outer-var v) b in
        let p = ap (put F) (is_var u v j) ∙ put-var F v ∙ r.0 d in
        rw p e.0
    meets_below t u k a b c (atom t2 u2 v j d e) = let p = ap (put F) (is_var u v j) ∙ put-var F v in rw p e
    meets_below t u k a b c (raise_tuple t2 u2 v ys i j q) = absurd (variable_left t v i c)
    meets_below t u k a b c (raise_nominal t2 u2 v m ys i j q) = absurd (variable_left t v i c)

    pub meet_below : (ts us : List Ty) → AreParts n us → EachVar Own (flat_map inner us) → EachVar Diagonal (flat_map outer us) → Each (Concrete n) ts → Meet n opaque s f ts us
        → Both (λ t u. Below n opaque t (put F u)) ts us
    meet_below ts us k a b c meet_end = both_end
    meet_below ts us k a b c (meet_more x y xs ys p q) =
        let r = split Own (inner y) (flat_map inner ys) a in
        let z = split Diagonal (outer y) (flat_map outer ys) b in
        both_more x y xs ys (meets_below x y (head_part n y ys k) r.0 z.0 c.0 p) (meet_below xs ys (tail_parts n y ys k) r.1 z.1 c.1 q)

  var_meets : (t u : Ty) (v : ℕ) → out-Ty u ≡ Var v → Placed v → Concrete n t → Below n opaque t (put F u) → Meets n opaque s f t u
  var_meets t u v j (inl d) c b =
      let x : Below n opaque t (f v) = subst (Below n opaque t) (ap (put F) (is_var u v j) ∙ put-var F v ∙ d.1) b in
      same t u v j d.0 (x, concrete_turns ds declared (f v) d.2 t c x)
  var_meets t u v j (inr d) c b = atom t u v j d (subst (Below n opaque t) (ap (put F) (is_var u v j) ∙ put-var F v) b)

  nominal_meets : (t u : Ty) (m : ℕ) (ys : List Ty) → out-Ty u ≡ Nominal m ys → PartBy n (Below n opaque) t (V.Nominal m (map (put f) ys)) → Meets n opaque s f t u
  nominal_meets t u m ys j (by_any a c i) = let e : Nominal m (map (put f) ys) ≡ Any = sym (outs-Nominal m (map (put f) ys)) ∙ i in cc
  nominal_meets t u m ys j (by_tuple a c xs ws i l q) = let e : Nominal m (map (put f) ys) ≡ Tuple ws = sym (outs-Nominal m (map (put f) ys)) ∙ l in cc
  nominal_meets t u m ys j (by_self a c v i l) = let e : Nominal m (map (put f) ys) ≡ Var v = sym (outs-Nominal m (map (put f) ys)) ∙ l in cc
  nominal_meets t u m ys j (by_nominal a c k p xs zs ws i l h q) =
      let e : Nominal m (map (put f) ys) ≡ Nominal p ws = sym (outs-Nominal m (map (put f) ys)) ∙ l in
      let g : p ≡ m = cc in
      let r : ws ≡ map (put f) ys = cc in
      nominal t u k m xs zs ys i j (ap (lifted n k xs) (sym g) ∙ h) (subst (Equals n zs) r (equals_of n zs ws q))

  mutual
    pub below_meets : (u : Ty) → IsPart n u → (t : Ty) → EachVar Own (inner u) → EachVar Placed (outer u) → Concrete n t → Below n opaque t (put F u) → Meets n opaque s f t u
    below_meets u (part_any a i) t own b c x = any t u i
    below_meets u (part_variable a v j) t own b c x =
        let r : EachVar Placed (v ∷ []) = subst (EachVar Placed) (ap outer (is_var u v j) ∙ L.outer-var v) b in
        var_meets t u v j r.0 c x
    below_meets u (part_tuple a ys j k) t own b c x =
        let m = is_tuple u ys j in
        let r = below_tuple n (declared_lawful ds declared) t (map (put F) ys) (concrete_lone n t c) (subst (Below n opaque t) (ap (put F) m ∙ put-tuple F ys) x) in
        let e = parts_concrete n r.0 (concrete_at t (V.Tuple r.0) (is_tuple t r.0 r.1) c) in
        tuple t u r.0 ys r.1 j
        (below_meet ys k r.0 (subst (EachVar Own) (ap inner m ∙ L.inner-tuple ys) own) (subst (EachVar Placed) (ap outer m ∙ L.outer-tuple ys) b) e (both_put r.0 ys r.2))
    below_meets u (part_nominal a m ys j k) t own b c x =
        let w = map (put f) ys in
        let y : Below n opaque t (V.Nominal m w) = subst (Below n opaque t) (ap (put F) (is_nominal u m ys j) ∙ put-nominal F m ys ∙ ap (λ z. V.Nominal m z) (put_args u m ys j (part_nominal u m ys j k) own)) x in
        nominal_meets t u m ys j (below_part n t (V.Nominal m w) (concrete_lone n t c) (alts-nominal m w) y)

    pub below_meet : (us : List Ty) → AreParts n us → (ts : List Ty) → EachVar Own (flat_map inner us) → EachVar Placed (flat_map outer us) → Each (Concrete n) ts
        → Both (λ t u. Below n opaque t (put F u)) ts us → Meet n opaque s f ts us
    below_meet us parts_end ts own b c both_end = meet_end
    below_meet us (parts_more u vs p q) ts own b c (both_more x y xs ys d e) =
        let r = split Own (inner u) (flat_map inner vs) own in
        let z = split Placed (outer u) (flat_map outer vs) b in
        meet_more x u xs vs (below_meets u p x r.0 z.0 c.0 d) (below_meet vs q xs r.1 z.1 c.1 e)
