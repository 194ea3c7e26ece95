-- What the test of a row finds out, form by form.
use Rattle.std.proofs.Common.{◌≡◌, ◌∙◌, sym, ap, subst, refl, ℕ, zero, suc, ◌<◌, ◌%◌, arith, Bool, true, false, List, [], ◌∷◌, map, length, get_or, None, Some, ◌⊎◌, inl, inr, Result, Ok, Err, IfOk}
use Rattle.std.specs.List.{flat_map}
use Rattle.jl_model.specs.declared.ty.Ty.{Ty}
use Rattle.jl_model.specs.declared.ty.Ty.TheOpen.{Any, Union, Tuple, Nominal, Var}
use Rattle.jl_model.specs.declared.ty.Ty.TheViews.{out-Ty, outs-Any, outs-Union, outs-Tuple, outs-Nominal, outs-Var}
use Rattle.jl_model.specs.declared.ty.Ty.TheViews as V
use Rattle.jl_model.specs.declared.ty.Ty.TheVariants as W
use Rattle.jl_model.specs.declared.ty.Decl.{Decl}
use Rattle.jl_model.specs.declared.ty.Written.{Written}
use Rattle.jl_model.specs.Ancestors.{table_of}
use Rattle.jl_model.specs.Kinds.{Kind, unused, once, diagonal, bound}
use Rattle.jl_model.specs.Rows.{width, kind, root}
use Rattle.jl_model.specs.Subtype.{Table, opaque, put, at, lifted, Below, Equals, Equal, equals_end, equals_more}
use Rattle.jl_model.specs.Signature.{Both, both_end, both_more, Meets, Meet, any, tuple, nominal, same, atom, raise_tuple, raise_nominal, meet_end, meet_more, is_diagonal}
use Rattle.jl_model.specs.Normal.{IsNormal, AllNormal, any as normal_any, nominal as normal_nominal, none, more}
use Rattle.jl_model.specs.Valid.{is_known}
use Rattle.jl_model.specs.Refusals.{Declared}
use Rattle.jl_model.proofs.FormLemmas.{is_tuple, is_nominal, is_var, put-nominal, put-var}
use Rattle.jl_model.proofs.PutLemmas.{put-closed}
use Rattle.jl_model.proofs.SelfLemmas.{equal_self}
use Rattle.jl_model.proofs.NormalLemmas.{normal_same, equals_same, kids_nominal, kids_tuple}
use Rattle.jl_model.proofs.DeclaredLemmas.{declared_lawful}
use Rattle.jl_types.specs.Ground.{IsGround}
use Rattle.jl_types.proofs.GroundLemmas.{Tells, normal-at, all-at}
use Rattle.jl_model.specs.Found.{outer}
use Rattle.jl_match.specs.KeptRow.{IsArgument, AreArguments, closed, variable, applied, arguments_end, arguments_more, IsPart, AreParts, any as part_any, variable as part_variable, tuple as part_tuple, nominal as part_nominal, parts_end, parts_more, IsKeptPart, AreKeptParts, AreGround}
use Rattle.jl_search.specs.Serving.{IsPlace}
use Rattle.jl_search.specs.Open.{EachVar}
use Rattle.jl_search.proofs.GoodLemmas.{split}
use Rattle.jl_search.proofs.FindLemmas as L
use Rattle.jl_match.proofs.PartLemmas.{parts_in, arguments_in}
use Rattle.jl_match.proofs.RowLemmas.{lifted_normal}
use Rattle.jl_match.proofs.KnownLemmas.{known_parts}

pub ok_iff : {E : Type 0} (r : Result Bool E) (P Q : Type 0) → (P → Q) → (Q → P) → IfOk r (λ yes. Tells yes P) → IfOk r (λ yes. Tells yes Q)
ok_iff (Ok b) P Q f g h = ((λ y. f (h.0 y)), (λ q. h.1 (g q)))
ok_iff (Err e) P Q f g h = tt

module _ (n : Table) (s : Written) (f : ℕ → Ty) where
  abbrev pub M : Ty → Ty → Type 0
  M = Meets n opaque s f

  pub meet_both : (ts us : List Ty) → Meet n opaque s f ts us → Both M ts us
  meet_both ts us meet_end = both_end
  meet_both ts us (meet_more x y xs ys p q) = both_more x y xs ys p (meet_both xs ys q)

  pub both_meet : (ts us : List Ty) → Both M ts us → Meet n opaque s f ts us
  both_meet ts us both_end = meet_end
  both_meet ts us (both_more x y xs ys p q) = meet_more x y xs ys p (both_meet xs ys q)

  -- nothing is above Any but Any
  any_tuple : (t u : Ty) (ys : List Ty) → out-Ty t ≡ Any → out-Ty u ≡ Tuple ys → M t u → ⊥
  any_tuple t u ys a e (any t2 u2 i) = let g : Any ≡ Tuple ys = sym i ∙ e in cc
  any_tuple t u ys a e (tuple t2 u2 xs zs i j q) = let g : Any ≡ Tuple xs = sym a ∙ i in cc
  any_tuple t u ys a e (nominal t2 u2 k m xs zs ws i j o q) = let g : Any ≡ Nominal k xs = sym a ∙ i in cc
  any_tuple t u ys a e (same t2 u2 v j d q) = let g : Var v ≡ Tuple ys = sym j ∙ e in cc
  any_tuple t u ys a e (atom t2 u2 v j d q) = let g : Var v ≡ Tuple ys = sym j ∙ e in cc
  any_tuple t u ys a e (raise_tuple t2 u2 v zs i j q) = let g : Any ≡ Var v = sym a ∙ i in cc
  any_tuple t u ys a e (raise_nominal t2 u2 v m zs i j q) = let g : Any ≡ Var v = sym a ∙ i in cc

  any_nominal : (t u : Ty) (m : ℕ) (ys : List Ty) → out-Ty t ≡ Any → out-Ty u ≡ Nominal m ys → M t u → ⊥
  any_nominal t u m ys a e (any t2 u2 i) = let g : Any ≡ Nominal m ys = sym i ∙ e in cc
  any_nominal t u m ys a e (tuple t2 u2 xs zs i j q) = let g : Any ≡ Tuple xs = sym a ∙ i in cc
  any_nominal t u m ys a e (nominal t2 u2 k p xs zs ws i j o q) = let g : Any ≡ Nominal k xs = sym a ∙ i in cc
  any_nominal t u m ys a e (same t2 u2 v j d q) = let g : Var v ≡ Nominal m ys = sym j ∙ e in cc
  any_nominal t u m ys a e (atom t2 u2 v j d q) = let g : Var v ≡ Nominal m ys = sym j ∙ e in cc
  any_nominal t u m ys a e (raise_tuple t2 u2 v zs i j q) = let g : Any ≡ Var v = sym a ∙ i in cc
  any_nominal t u m ys a e (raise_nominal t2 u2 v p zs i j q) = let g : Any ≡ Var v = sym a ∙ i in cc

  pub tuple_only : (t u : Ty) (ys : List Ty) → out-Ty u ≡ Tuple ys → M t u → (xs : List Ty) × (out-Ty t ≡ Tuple xs) × Both M xs ys
  tuple_only t u ys e (any t2 u2 i) = let g : Any ≡ Tuple ys = sym i ∙ e in cc
  tuple_only t u ys e (tuple t2 u2 xs zs i j q) =
      let g : Tuple zs ≡ Tuple ys = sym j ∙ e in
      let w : zs ≡ ys = cc in
      (xs, i, subst (Both M xs) w (meet_both xs zs q))
  tuple_only t u ys e (nominal t2 u2 k m xs zs ws i j o q) = let g : Nominal m ws ≡ Tuple ys = sym j ∙ e in cc
  tuple_only t u ys e (same t2 u2 v j d q) = let g : Var v ≡ Tuple ys = sym j ∙ e in cc
  tuple_only t u ys e (atom t2 u2 v j d q) = let g : Var v ≡ Tuple ys = sym j ∙ e in cc
  tuple_only t u ys e (raise_tuple t2 u2 v zs i j q) = absurd (any_tuple W.Any u ys outs-Any e q)
  tuple_only t u ys e (raise_nominal t2 u2 v m zs i j q) = let g : Nominal m zs ≡ Tuple ys = sym j ∙ e in cc

  -- how a type meets a nominal one
  pub record Lifts (t : Ty) (m : ℕ) (ys : List Ty) : Type 0 where
    pub name : ℕ
    pub own : List Ty
    pub above : List Ty
    pub is : out-Ty t ≡ Nominal name own
    pub lifts : lifted n name own m ≡ Some above
    pub equal : Equals n above (map (put f) ys)

  pub nominal_only : (t u : Ty) (m : ℕ) (ys : List Ty) → out-Ty u ≡ Nominal m ys → M t u → Lifts t m ys
  nominal_only t u m ys e (any t2 u2 i) = let g : Any ≡ Nominal m ys = sym i ∙ e in cc
  nominal_only t u m ys e (tuple t2 u2 xs zs i j q) = let g : Tuple zs ≡ Nominal m ys = sym j ∙ e in cc
  nominal_only t u m ys e (nominal t2 u2 k p xs zs ws i j o q) =
      let g : Nominal p ws ≡ Nominal m ys = sym j ∙ e in
      let a : p ≡ m = cc in
      let b : ws ≡ ys = cc in
      record { name = k; own = xs; above = zs; is = i; lifts = ap (lifted n k xs) (sym a) ∙ o; equal = subst (λ z. Equals n zs (map (put f) z)) b q }
  nominal_only t u m ys e (same t2 u2 v j d q) = let g : Var v ≡ Nominal m ys = sym j ∙ e in cc
  nominal_only t u m ys e (atom t2 u2 v j d q) = let g : Var v ≡ Nominal m ys = sym j ∙ e in cc
  nominal_only t u m ys e (raise_tuple t2 u2 v zs i j q) = let g : Tuple zs ≡ Nominal m ys = sym j ∙ e in cc
  nominal_only t u m ys e (raise_nominal t2 u2 v p zs i j q) = absurd (any_nominal W.Any u m ys outs-Any e q)

  pub var_only : (t u : Ty) (v : ℕ) → out-Ty u ≡ Var v → M t u → ((kind s v ≡ diagonal) × Equal n t (f v)) ⊎ ((kind s (root s v) ≡ bound) × Below n opaque t (f (root s v)))
  var_only t u v e (any t2 u2 i) = let g : Any ≡ Var v = sym i ∙ e in cc
  var_only t u v e (tuple t2 u2 xs zs i j q) = let g : Tuple zs ≡ Var v = sym j ∙ e in cc
  var_only t u v e (nominal t2 u2 k p xs zs ws i j o q) = let g : Nominal p ws ≡ Var v = sym j ∙ e in cc
  var_only t u v e (same t2 u2 w j d q) =
      let g : Var w ≡ Var v = sym j ∙ e in
      let a : w ≡ v = cc in
      inl (subst (λ z. (kind s z ≡ diagonal) × Equal n t (f z)) a (d, q))
  var_only t u v e (atom t2 u2 w j d q) =
      let g : Var w ≡ Var v = sym j ∙ e in
      let a : w ≡ v = cc in
      inr (subst (λ z. (kind s (root s z) ≡ bound) × Below n opaque t (f (root s z))) a (d, q))
  var_only t u v e (raise_tuple t2 u2 w zs i j q) = let g : Tuple zs ≡ Var v = sym j ∙ e in cc
  var_only t u v e (raise_nominal t2 u2 w p zs i j q) = let g : Nominal p zs ≡ Var v = sym j ∙ e in cc

  pub any_case : (t u : Ty) → u ≡ W.Any → Tells true (M t u)
  any_case t u e = ((λ h. any t u (ap out-Ty e ∙ outs-Any)), (λ m. refl))

  pub tuple_case : {E : Type 0} (r : Result Bool E) (t u : Ty) (xs ys vs ws : List Ty) → t ≡ V.Tuple xs → u ≡ V.Tuple ys → vs ≡ xs → ws ≡ ys → IfOk r (λ yes. Tells yes (Both M vs ws)) → IfOk r (λ yes. Tells yes (M t u))
  tuple_case r t u xs ys vs ws d e p q h =
      let o : out-Ty u ≡ Tuple ys = ap out-Ty e ∙ outs-Tuple ys in
      let a : out-Ty t ≡ Tuple xs = ap out-Ty d ∙ outs-Tuple xs in
      ok_iff r (Both M vs ws) (M t u)
      (λ b. tuple t u xs ys a o (both_meet xs ys (subst (λ z. Both M z ys) p (subst (Both M vs) q b))))
      (λ m.
      let k = tuple_only t u ys o m in
      let g : Tuple k.0 ≡ Tuple xs = sym k.1 ∙ a in
      let i : k.0 ≡ xs = cc in
      subst (λ z. Both M z ws) (sym p) (subst (Both M xs) (sym q) (subst (λ z. Both M z ys) i k.2))) h

  pub no_tuple : (t u : Ty) (ys : List Ty) → u ≡ V.Tuple ys → ((xs : List Ty) → t ≡ V.Tuple xs → ⊥) → Tells false (M t u)
  no_tuple t u ys e h =
      ((λ x. let g : false ≡ true = x in cc), (λ m. let k = tuple_only t u ys (ap out-Ty e ∙ outs-Tuple ys) m in absurd (h k.0 (is_tuple t k.0 k.1))))

  pub no_nominal : (t u : Ty) (m : ℕ) (ys : List Ty) → u ≡ V.Nominal m ys → ((k : ℕ) (xs : List Ty) → t ≡ V.Nominal k xs → ⊥) → Tells false (M t u)
  no_nominal t u m ys e h =
      ((λ x. let g : false ≡ true = x in cc), (λ q. let k = nominal_only t u m ys (ap out-Ty e ∙ outs-Nominal m ys) q in absurd (h k.name k.own (is_nominal t k.name k.own k.is))))

  -- no ancestor of that number
  pub not_above : (t u : Ty) (k m : ℕ) (xs ys : List Ty) → t ≡ V.Nominal k xs → u ≡ V.Nominal m ys → None ≡ lifted n k xs m → Tells false (M t u)
  not_above t u k m xs ys d e l = (
    (λ x. let g : false ≡ true = x in cc),
    (λ q.
        let w = nominal_only t u m ys (ap out-Ty e ∙ outs-Nominal m ys) q in
        let i : Nominal w.name w.own ≡ Nominal k xs = sym w.is ∙ ap out-Ty d ∙ outs-Nominal k xs in
        let a : w.name ≡ k = cc in
        let b : w.own ≡ xs = cc in
        let j : None ≡ Some w.above = l ∙ sym (ap (λ z. lifted n z xs m) a) ∙ sym (ap (λ z. lifted n w.name z m) b) ∙ w.lifts in cc),
  )

-- types put in arguments
module _ (n : Table) (vs : List Ty) (normal : AllNormal n vs) where
  at_value : (ts : List Ty) (v : ℕ) → AllNormal n ts → IsNormal n (at ts v)
  at_value ts v none = normal_any W.Any outs-Any
  at_value ts zero (more t us p q) = p
  at_value ts (suc v) (more t us p q) = at_value us v q

  mutual
    put_normal : (u : Ty) → IsArgument n u → IsNormal n (put (at vs) u)
    put_normal u (closed t e h) = subst (IsNormal n) (sym (put-closed (at vs) u e)) h
    put_normal u (variable t v o) = subst (IsNormal n) (sym (ap (put (at vs)) (is_var u v o) ∙ put-var (at vs) v)) (at_value vs v normal)
    put_normal u (applied t k us o h) =
        let ws = map (put (at vs)) us in
        subst (IsNormal n) (sym (ap (put (at vs)) (is_nominal u k us o) ∙ put-nominal (at vs) k us)) (normal_nominal (V.Nominal k ws) k ws (outs-Nominal k ws) (put_normals us h))

    pub put_normals : (us : List Ty) → AreArguments n us → AllNormal n (map (put (at vs)) us)
    put_normals us arguments_end = none
    put_normals us (arguments_more u ws p q) = more (put (at vs) u) (map (put (at vs)) ws) (put_normal u p) (put_normals ws q)

equals_self : (n : Table) (xs : List Ty) → Equals n xs xs
equals_self n [] = equals_end
equals_self n (x ∷ xs) = let e = equal_self n x in equals_more x x xs xs e.0 e.1 (equals_self n xs)

is_diag : (k : Kind) → is_diagonal k ≡ true → k ≡ diagonal
is_diag unused h = let e : false ≡ true = h in cc
is_diag once h = let e : false ≡ true = h in cc
is_diag diagonal h = refl
is_diag bound h = let e : false ≡ true = h in cc

module _ (ds : List Decl) (declared : Declared ds) (s : Written) (vs : List Ty) where
  abbrev o : Table
  o = table_of ds

  -- the arguments of the ancestor are those of the part
  pub same_args : (t u : Ty) (k m : ℕ) (xs ys ws zs : List Ty) (r : Bool) → AllNormal o vs → IsPart o u → IsNormal o t → t ≡ V.Nominal k xs → u ≡ V.Nominal m ys → Some zs ≡ lifted o k xs m → ws ≡ ys
      → Tells r (map (put (at vs)) ws ≡ zs) → Tells r (Meets o opaque s (at vs) t u)
  same_args t u k m xs ys ws zs r normal part left d e l p h =
      let law = declared_lawful ds declared in
      let a : out-Ty t ≡ Nominal k xs = ap out-Ty d ∙ outs-Nominal k xs in
      let b : out-Ty u ≡ Nominal m ys = ap out-Ty e ∙ outs-Nominal m ys in
      let puts : AllNormal o (map (put (at vs)) ys) = put_normals o vs normal ys (arguments_in o u m ys b part) in
      let lifts : AllNormal o zs = lifted_normal ds declared k m xs zs (kids_nominal o law t k xs left a) (sym l) in (
        (λ y.
            let q : zs ≡ map (put (at vs)) ys = sym (h.0 y) ∙ ap (map (put (at vs))) p in
            nominal t u k m xs zs ys a b (sym l) (subst (Equals o zs) q (equals_self o zs))),
        (λ q.
            let w = nominal_only o s (at vs) t u m ys b q in
            let i : Nominal w.name w.own ≡ Nominal k xs = sym w.is ∙ a in
            let c : w.name ≡ k = cc in
            let g : w.own ≡ xs = cc in
            let j : Some zs ≡ Some w.above = l ∙ sym (ap (λ z. lifted o z xs m) c) ∙ sym (ap (λ z. lifted o w.name z m) g) ∙ w.lifts in
            let x : w.above ≡ zs = cc in
            let eq : Equals o zs (map (put (at vs)) ys) = subst (λ z. Equals o z (map (put (at vs)) ys)) x w.equal in
            h.1 (ap (map (put (at vs))) p ∙ sym (equals_same o law zs (map (put (at vs)) ys) lifts puts eq))),
      )

  -- a variable or an atom
  module _ (t u : Ty) (w k : ℕ) (value : Ty) (r : Bool) (e : u ≡ W.Var w) (i : k ≡ root s w) (v : value ≡ at vs k) where
    out_is : out-Ty u ≡ Var w
    out_is = ap out-Ty e ∙ outs-Var w

    diagonal_case : IsNormal o t → IsNormal o value → kind s w ≡ diagonal → root s w ≡ w → Tells r (t ≡ value) → Tells r (Meets o opaque s (at vs) t u)
    diagonal_case left right d own h =
        let z : value ≡ at vs w = v ∙ ap (at vs) (i ∙ own) in (
          (λ y. same t u w out_is d (subst (Equal o t) (h.0 y ∙ z) (equal_self o t))),
          (λ m. elim (var_only o s (at vs) t u w out_is m) [
            | inl q ↦ h.1 (normal_same o (declared_lawful ds declared) t left value right (subst (Equal o t) (sym z) q.1))
            | inr q ↦ let c : diagonal ≡ bound = sym d ∙ ap (kind s) (sym own) ∙ q.0 in cc
          ]),
        )

    atom_case : kind s (root s w) ≡ bound → (kind s w ≡ diagonal → ⊥) → Tells r (Below o opaque t value) → Tells r (Meets o opaque s (at vs) t u)
    atom_case d other h =
        let z : value ≡ at vs (root s w) = v ∙ ap (at vs) i in (
          (λ y. atom t u w out_is d (subst (Below o opaque t) z (h.0 y))),
          (λ m. elim (var_only o s (at vs) t u w out_is m) [
            | inl q ↦ absurd (other q.0)
            | inr q ↦ h.1 (subst (Below o opaque t) (sym z) q.1)
          ]),
        )

    pub variable_case : (b : Bool) → IsPlace s w → b ≡ is_diagonal (kind s k) → IsNormal o t → IsNormal o value → (b ≡ true → Tells r (t ≡ value)) → (b ≡ false → Tells r (Below o opaque t value)) → Tells r (Meets o opaque s (at vs) t u)
    variable_case true place c left right f g = elim place.1 [
      | inl q ↦ diagonal_case left right q.0 q.1 (f refl)
      | inr q ↦ let d : kind s (root s w) ≡ diagonal = ap (kind s) (sym i) ∙ is_diag (kind s k) (sym c) in let x : diagonal ≡ bound = sym d ∙ q.0 in cc
    ]
    variable_case false place c left right f g = elim place.1 [
      | inl q ↦ let d : kind s k ≡ diagonal = ap (kind s) (i ∙ q.1) ∙ q.0 in let x : false ≡ true = c ∙ ap is_diagonal d in cc
      | inr q ↦ atom_case q.0 q.1 (g refl)
    ]

-- no part is a union
pub no_union : (n : Table) (u : Ty) (us : List Ty) → u ≡ V.Union us → IsPart n u → ⊥
no_union n u us e (part_any t i) = let f : Any ≡ Union us = sym i ∙ ap out-Ty e ∙ outs-Union us in cc
no_union n u us e (part_variable t v i) = let f : Var v ≡ Union us = sym i ∙ ap out-Ty e ∙ outs-Union us in cc
no_union n u us e (part_tuple t ts i p) = let f : Tuple ts ≡ Union us = sym i ∙ ap out-Ty e ∙ outs-Union us in cc
no_union n u us e (part_nominal t k ts i p) = let f : Nominal k ts ≡ Union us = sym i ∙ ap out-Ty e ∙ outs-Union us in cc

-- parts of lists
pub part-at : (ds : List Decl) (s : Written) (us : List Ty) (i : ℕ) (u : Ty) → AreKeptParts ds s us → i < length us → u ≡ get_or us i u → IsKeptPart ds s u
part-at ds s us i u h l e = record { part = one us i u h.parts l e; covariant = each us i u h.covariant l e }
  where
    one : (us : List Ty) (i : ℕ) (u : Ty) → AreParts (table_of ds) us → i < length us → u ≡ get_or us i u → IsPart (table_of ds) u
    one us i u parts_end l e = absurd (omega arith)
    one us zero u (parts_more t ts p q) l e = subst (IsPart (table_of ds)) (sym e) p
    one us (suc i) u (parts_more t ts p q) l e = one ts i u q (omega arith) e

    each : (us : List Ty) (i : ℕ) (u : Ty) → EachVar (IsPlace s) (flat_map outer us) → i < length us → u ≡ get_or us i u → EachVar (IsPlace s) (outer u)
    each [] i u h l e = absurd (omega arith)
    each (t ∷ ts) zero u h l e = subst (λ z. EachVar (IsPlace s) (outer z)) (sym e) (split (IsPlace s) (outer t) (flat_map outer ts) h).0
    each (t ∷ ts) (suc i) u h l e = each ts i u (split (IsPlace s) (outer t) (flat_map outer ts) h).1 (omega arith) e

pub tuple_parts : (ds : List Decl) (s : Written) (u : Ty) (us vs : List Ty) → u ≡ V.Tuple us → vs ≡ us → IsKeptPart ds s u → AreKeptParts ds s vs
tuple_parts ds s u us vs e p h =
    subst (AreKeptParts ds s) (sym p) (record {
      parts = parts_in (table_of ds) u us (ap out-Ty e ∙ outs-Tuple us) h.part;
      covariant = subst (EachVar (IsPlace s)) (ap outer e ∙ L.outer-tuple us) h.covariant;
    })

pub tuple_ground : (ds : List Decl) → Declared ds → (t : Ty) (ts vs : List Ty) → t ≡ V.Tuple ts → vs ≡ ts → IsGround ds t → AreGround ds vs
tuple_ground ds declared t ts vs e p h = record {
  normal = subst (AllNormal (table_of ds)) (sym p) (kids_tuple (table_of ds) (declared_lawful ds declared) t ts h.normal (ap out-Ty e ∙ outs-Tuple ts));
  known = known_parts (length ds) t ts vs e p h.known;
}

pub ground_at : (ds : List Decl) (ts : List Ty) (i : ℕ) (t : Ty) → AreGround ds ts → i < length ts → t ≡ get_or ts i t → IsGround ds t
ground_at ds ts i t h l e = record { normal = normal-at (table_of ds) ts i t h.normal l e; known = all-at (is_known (length ds)) ts i t h.known l e }

pub place_of : (s : Written) (u : Ty) (w : ℕ) → u ≡ W.Var w → EachVar (IsPlace s) (outer u) → IsPlace s w
place_of s u w e h = (subst (EachVar (IsPlace s)) (ap outer e ∙ L.outer-var w) h).0

pub root_low : (s : Written) (vs : List Ty) (w : ℕ) → length vs ≡ width s → root s w < width s → w % length vs < length vs
root_low s vs w e h = subst (λ z. w % z < z) (sym e) h

pub root_below : (s : Written) (vs : List Ty) (w : ℕ) → length vs ≡ width s → root s w < width s → w % length vs < width s
root_below s vs w e h = subst (λ z. w % z < width s) (sym e) h

pub get-same : {A : Type 0} (vs : List A) (i : ℕ) (d x : A) → i < length vs → x ≡ get_or vs i x → x ≡ get_or vs i d
get-same [] i d x h e = absurd (omega arith)
get-same (v ∷ vs) zero d x h e = e
get-same (v ∷ vs) (suc i) d x h e = get-same vs i d x (omega arith) e
