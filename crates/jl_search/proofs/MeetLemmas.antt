-- Where types meet the parts of a row, they meet them with equal types put at invariant and diagonal places and greater ones
-- at atoms.
use Rattle.std.proofs.Common.{◌≡◌, ◌∙◌, ap, subst, ℕ, true, List, [], ◌∷◌, map, Some}
use Rattle.std.specs.List.{flat_map}
use Rattle.jl_model.specs.declared.ty.Ty.{Ty}
use Rattle.jl_model.specs.declared.ty.Ty.TheOpen.{Var}
use Rattle.jl_model.specs.declared.ty.Ty.TheViews.{out-Ty}
use Rattle.jl_model.specs.declared.ty.Ty.TheViews as V
use Rattle.jl_model.specs.declared.ty.Ty.TheVariants as W
use Rattle.jl_model.specs.Rows.{vars_in}
use Rattle.jl_model.specs.Subtype.{lifted, is_concrete}
use Rattle.jl_model.specs.Normal.{AllNormal}
use Rattle.jl_model.specs.declared.ty.Decl.{Decl}
use Rattle.jl_model.specs.declared.ty.Written.{Written}
use Rattle.jl_model.specs.Ancestors.{table_of}
use Rattle.jl_model.specs.Kinds.{diagonal, bound}
use Rattle.jl_model.specs.Rows.{kind, root}
use Rattle.jl_model.specs.Subtype.{Table, Fixed, opaque, put, Below, Equal}
use Rattle.jl_model.specs.Signature.{Meets, Meet, any, tuple, nominal, same, atom, raise_tuple, raise_nominal, meet_end, meet_more}
use Rattle.jl_model.specs.Refusals.{Declared}
use Rattle.jl_model.proofs.FormLemmas.{is_tuple, is_nominal, is_var}
use Rattle.jl_model.proofs.TransLemmas.{equal_trans}
use Rattle.jl_model.proofs.DeclaredLemmas.{declared_lawful}
use Rattle.jl_model.specs.Found.{outer, inner}
use Rattle.jl_model.proofs.TypeInduction.{Each}
use Rattle.jl_search.proofs.PartLemmas.{Plain, AllPlain, tuple_parts, nominal_arguments, head_plain, tail_plain}
use Rattle.jl_search.proofs.GoodLemmas.{split}
use Rattle.jl_search.proofs.FindLemmas as L
use Rattle.jl_search.proofs.EqualLemmas.{args_agree, chained}
use Rattle.jl_search.specs.Open.{AreOpen, EachVar}

-- a part of a row: no union stands at a covariant place
abbrev pub AnyNumber : ℕ → Type 0
AnyNumber v = Unit {0}

abbrev pub IsPart : Ty → Type 0
IsPart = Plain AnyNumber AreOpen

abbrev pub AreParts : List Ty → Type 0
AreParts = AllPlain AnyNumber AreOpen

-- what holds of the parts of a left row
pub record LeftForms (n : Table) (g : Fixed) (p o : Ty → Type 0) : Type 0 where
  pub part : (xs : List Ty) → p (V.Tuple xs) → Each p xs
  pub raise : (v : ℕ) → p (W.Var v) → p (g.high v) × ((w : ℕ) → out-Ty (g.high v) ≡ Var w → ⊥)
  pub argument : (k m : ℕ) (xs zs : List Ty) → p (V.Nominal k xs) → lifted n k xs m ≡ Some zs → AllNormal n zs × Each o zs
  pub inside : (m : ℕ) (xs : List Ty) → o (V.Nominal m xs) → Each o xs
  pub sure : (t u : Ty) → p t → Equal n t u → is_concrete n g u ≡ true → (is_concrete n g t ≡ true) × o t

-- the laws of below for the left variables
pub record Laws (n : Table) (g : Fixed) (p : Ty → Type 0) : Type 0 where
  pub lift : (t u : Ty) → Below n opaque t u → Below n g t u
  pub before : (t u v : Ty) → Below n opaque t u → Below n g u v → Below n g t v
  pub trans : (t u v : Ty) → p t → Below n g t u → Below n g u v → Below n g t v
  pub trans_closed : (t u v : Ty) → vars_in t ≡ [] → Below n g t u → Below n g u v → Below n g t v
  pub after : (t u v : Ty) → Below n g t u → Below n opaque u v → Below n g t v
  pub none : (t : Ty) → Below n opaque (V.Union []) t
  pub self : (t : Ty) → Below n opaque t t

module _ (ds : List Decl) (declared : Declared ds) (g : Fixed) (p o : Ty → Type 0) (laws : Laws (table_of ds) g p) (forms : LeftForms (table_of ds) g p o) (s : Written) (f h : ℕ → Ty) where
  abbrev n : Table
  n = table_of ds

  abbrev pub Agree : ℕ → Type 0
  Agree w = Equal n (f w) (h w)

  abbrev pub Rises : ℕ → Type 0
  Rises w = (kind s w ≡ diagonal → Equal n (f w) (h w)) × (kind s (root s w) ≡ bound → Below n g (f (root s w)) (h (root s w)))

  mutual
    pub too : (t u : Ty) → IsPart u → p t → EachVar Agree (inner u) → EachVar Rises (outer u) → Meets n g s f t u → Meets n g s h t u
    too t u k l a b (any t2 u2 i) = any t u i
    too t u k l a b (tuple t2 u2 xs ys i j q) =
        let m = is_tuple u ys j in
        tuple t u xs ys i j
        (too_all xs ys (tuple_parts AnyNumber AreOpen u ys j k) (forms.part xs (subst p (is_tuple t xs i) l)) (subst (EachVar Agree) (ap inner m ∙ L.inner-tuple ys) a) (subst (EachVar Rises) (ap outer m ∙ L.outer-tuple ys) b) q)
    too t u k l a b (nominal t2 u2 kk mm xs zs ys i j e q) =
        let m = is_nominal u mm ys j in
        nominal t u kk mm xs zs ys i j e
        (chained ds declared zs (map (put f) ys) (map (put h) ys) q
        (args_agree n f h ys (nominal_arguments AnyNumber AreOpen u mm ys j k) (subst (EachVar Agree) (ap inner m ∙ L.inner-nominal mm ys) a)))
    too t u k l a b (same t2 u2 v j d e) =
        let r : EachVar Rises (v ∷ []) = subst (EachVar Rises) (ap outer (is_var u v j) ∙ L.outer-var v) b in
        same t u v j d (equal_trans n (declared_lawful ds declared) t (f v) (h v) e (r.0.0 d))
    too t u k l a b (atom t2 u2 v j d e) =
        let r : EachVar Rises (v ∷ []) = subst (EachVar Rises) (ap outer (is_var u v j) ∙ L.outer-var v) b in
        atom t u v j d (laws.trans t (f (root s v)) (h (root s v)) l e (r.0.1 d))
    too t u k l a b (raise_tuple t2 u2 v ys i j q) = raise_tuple t u v ys i j (too (g.high v) u k (forms.raise v (subst p (is_var t v i) l)).0 a b q)
    too t u k l a b (raise_nominal t2 u2 v m ys i j q) = raise_nominal t u v m ys i j (too (g.high v) u k (forms.raise v (subst p (is_var t v i) l)).0 a b q)

    pub too_all : (ts us : List Ty) → AreParts us → Each p ts → EachVar Agree (flat_map inner us) → EachVar Rises (flat_map outer us) → Meet n g s f ts us → Meet n g s h ts us
    too_all ts us k l a b meet_end = meet_end
    too_all ts us k l a b (meet_more x y xs ys m q) =
        let r = split Agree (inner y) (flat_map inner ys) a in
        let z = split Rises (outer y) (flat_map outer ys) b in
        meet_more x y xs ys (too x y (head_plain AnyNumber AreOpen y ys k) l.0 r.0 z.0 m) (too_all xs ys (tail_plain AnyNumber AreOpen y ys k) l.1 r.1 z.1 q)
