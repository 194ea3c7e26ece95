-- Equal lists of arguments, and equal types put for the variables of arguments.
use Rattle.std.proofs.Common.{◌≡◌, ◌∙◌, ap, subst, ℕ, List, [], ◌∷◌, map}
use Rattle.std.specs.List.{flat_map}
use Rattle.jl_model.specs.declared.ty.Ty.{Ty}
use Rattle.jl_model.specs.declared.ty.Ty.TheViews.{outs-Nominal}
use Rattle.jl_model.specs.declared.ty.Ty.TheViews as V
use Rattle.jl_model.specs.declared.ty.Decl.{Decl}
use Rattle.jl_model.specs.Ancestors.{table_of}
use Rattle.jl_model.specs.Rows.{vars_in}
use Rattle.jl_model.specs.Subtype.{Table, opaque, put, Below, Equals, Equal, equals_end, equals_more}
use Rattle.jl_model.specs.Normal.{IsNormal, AllNormal, none, more, nominal}
use Rattle.jl_model.specs.Refusals.{Declared}
use Rattle.jl_model.proofs.FormLemmas.{is_nominal, is_var, alts-nominal, put-nominal, put-var, vars-nominal, vars-var}
use Rattle.jl_model.proofs.PutLemmas.{put-closed}
use Rattle.jl_model.proofs.SelfLemmas.{own_arguments, equal_self}
use Rattle.jl_model.proofs.HeightLemmas.{by_nominal}
use Rattle.jl_model.proofs.BelowLemmas.{equals_both, part_below}
use Rattle.jl_model.proofs.AncestorLemmas.{Lawful}
use Rattle.jl_model.proofs.TransLemmas.{equal_trans}
use Rattle.jl_model.proofs.NormalLemmas.{normal_same}
use Rattle.jl_model.proofs.DeclaredLemmas.{declared_lawful}
use Rattle.jl_types.proofs.ExistLemmas.{exists}
use Rattle.jl_search.specs.Open.{EachVar, IsOpen, AreOpen, closed, variable, applied, open_end, open_more}
use Rattle.jl_search.proofs.GoodLemmas.{split}

module _ (n : Table) where
  pub turned : (xs ys : List Ty) → Equals n xs ys → Equals n ys xs
  turned [] [] e = equals_end
  turned [] (y ∷ ys) e = elim e [ ]
  turned (x ∷ xs) [] e = elim e [ ]
  turned (x ∷ xs) (y ∷ ys) (equals_more a b vs ws p q r) = equals_more y x ys xs q p (turned xs ys r)

  one_way : (k : ℕ) (xs ys : List Ty) → Equals n xs ys → Below n opaque (V.Nominal k xs) (V.Nominal k ys)
  one_way k xs ys e =
      part_below n (V.Nominal k xs) (V.Nominal k ys) (alts-nominal k xs) (alts-nominal k ys)
      (by_nominal (V.Nominal k xs) (V.Nominal k ys) k k xs xs ys (outs-Nominal k xs) (outs-Nominal k ys) (own_arguments n k xs) (equals_both n xs ys e))

  -- equal arguments make equal nominal types
  pub nominals : (k : ℕ) (xs ys : List Ty) → Equals n xs ys → Equal n (V.Nominal k xs) (V.Nominal k ys)
  nominals k xs ys e = (one_way k xs ys e, one_way k ys xs (turned xs ys e))

  -- equal types put for the variables of arguments
  module _ (f h : ℕ → Ty) where
    abbrev pub Agree : ℕ → Type 0
    Agree w = Equal n (f w) (h w)

    mutual
      pub arg_agrees : (u : Ty) → IsOpen u → EachVar Agree (vars_in u) → Equal n (put f u) (put h u)
      arg_agrees u (closed t e) a = let p = put-closed f u e in let q = put-closed h u e in rw (p, q) (equal_self n u)
      arg_agrees u (variable t v o) a =
          let i = is_var u v o in
          let b : EachVar Agree (v ∷ []) = subst (EachVar Agree) (ap vars_in i ∙ vars-var v) a in
          let p = ap (put f) i ∙ put-var f v in
          let q = ap (put h) i ∙ put-var h v in
          rw (p, q) b.0
      arg_agrees u (applied t k us o g) a =
          let i = is_nominal u k us o in
          let r = args_agree us g (subst (EachVar Agree) (ap vars_in i ∙ vars-nominal k us) a) in
          let p = ap (put f) i ∙ put-nominal f k us in
          let q = ap (put h) i ∙ put-nominal h k us in
          rw (p, q) (nominals k (map (put f) us) (map (put h) us) r)

      pub args_agree : (us : List Ty) → AreOpen us → EachVar Agree (flat_map vars_in us) → Equals n (map (put f) us) (map (put h) us)
      args_agree us open_end a = equals_end
      args_agree us (open_more u vs p q) a =
          let r = split Agree (vars_in u) (flat_map vars_in vs) a in
          let e = arg_agrees u p r.0 in
          equals_more (put f u) (put h u) (map (put f) vs) (map (put h) vs) e.0 e.1 (args_agree vs q r.1)

-- In the table of valid declarations
module _ (ds : List Decl) (declared : Declared ds) where
  abbrev n : Table
  n = table_of ds

  law : Lawful n
  law = declared_lawful ds declared

  pub chained : (xs ys zs : List Ty) → Equals n xs ys → Equals n ys zs → Equals n xs zs
  chained [] [] zs p q = q
  chained [] (y ∷ ys) zs p q = elim p [ ]
  chained (x ∷ xs) [] zs p q = elim p [ ]
  chained (x ∷ xs) (y ∷ ys) [] p q = elim q [ ]
  chained (x ∷ xs) (y ∷ ys) (z ∷ zs) (equals_more a b as_ bs p p2 r) (equals_more c d cs es q q2 t) =
      let e = equal_trans n law x y z (p, p2) (q, q2) in equals_more x z xs zs e.0 e.1 (chained xs ys zs r t)

  -- the normal forms of a list
  forms : (ys : List Ty) → (zs : List Ty) × AllNormal n zs × Equals n zs ys
  forms [] = ([], none, equals_end)
  forms (y ∷ ys) =
      let r = exists ds declared y in
      let s = forms ys in
      (r.0 ∷ s.0, more r.0 s.0 r.1.form.normal s.1, equals_more r.0 y s.0 ys r.1.form.equal.1 r.1.form.equal.0 s.2)

  -- a normal form that equals a nominal type is one of that number, with equal arguments
  pub nominal_form : (x : Ty) (m : ℕ) (ys : List Ty) → IsNormal n x → Equal n x (V.Nominal m ys) → (xs : List Ty) × (x ≡ V.Nominal m xs) × Equals n xs ys × AllNormal n xs
  nominal_form x m ys g e =
      let r = forms ys in
      let w = V.Nominal m r.0 in
      let a : Equal n x w = equal_trans n law x (V.Nominal m ys) w e (nominals n m ys r.0 (turned n r.0 ys r.2)) in
      (r.0, normal_same n law x g w (nominal w m r.0 (outs-Nominal m r.0) r.1) a, r.2, r.1)
