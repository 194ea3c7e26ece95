-- Types as the table keeps them: their parts, and what they become where normal forms are put in.
use Rattle.std.proofs.Common.{◌≡◌, ◌∙◌, sym, ap, subst, refl, ℕ, zero, suc, ◌<◌, arith, true, nat_eq, List, [], ◌∷◌, map, length, get_or}
use Rattle.std.specs.List.{list_all}
use Rattle.jl_model.specs.declared.ty.Ty.{Ty}
use Rattle.jl_model.specs.declared.ty.Ty.TheOpen.{Any, Union, Tuple, Nominal, Var}
use Rattle.jl_model.specs.declared.ty.Ty.TheViews.{out-Ty, outs-Any, outs-Union, outs-Tuple, outs-Nominal}
use Rattle.jl_model.specs.declared.ty.Ty.TheViews as V
use Rattle.jl_model.specs.declared.ty.Ty.TheVariants as W
use Rattle.jl_model.specs.declared.ty.Decl.{Decl}
use Rattle.jl_model.specs.Ancestors.{table_of}
use Rattle.jl_model.specs.Rows.{vars_in}
use Rattle.jl_model.specs.Subtype.{Table, put, at}
use Rattle.jl_model.specs.Normal.{IsNormal, AllNormal, any as normal_any, nominal as normal_nominal, none, more}
use Rattle.jl_model.specs.Valid.{is_known}
use Rattle.jl_model.specs.Kept.{Argument, AllArguments, closed, variable, nominal as applied, arguments_end, arguments_more, Settled, AllSettled, plain, variable as alone, union, tuple, nominal as named_type, settled_end, settled_more}
use Rattle.jl_model.proofs.FormLemmas.{is_nominal, is_var, put-nominal, put-var}
use Rattle.jl_model.proofs.PutLemmas.{put-closed}
use Rattle.jl_model.proofs.AncestorLemmas.{each_true, true_each}
use Rattle.jl_model.proofs.KnownLemmas.{Known, union_known, tuple_known, nominal_known, known_nominal, put_all_known}
use Rattle.jl_types.specs.Ground.{IsGround}
use Rattle.jl_types.proofs.GroundLemmas.{all-at, normal-at, nominal_args}
use Rattle.jl_value.specs.Fields.{IsFieldType, AreFieldTypes, AreArguments}

no_vars : (ns : List ℕ) → nat_eq (length ns) 0 ≡ true → ns ≡ []
no_vars [] h = refl
no_vars (n ∷ ns) h = let e : length (n ∷ ns) ≡ 0 = grind (arith, h) in absurd (omega arith)

-- the parts of each form
module _ (n : Table) where
  settled_union : (t u : Ty) (ts us : List Ty) → out-Ty t ≡ Union ts → out-Ty u ≡ Union us → Settled n t u → AllSettled n ts us
  settled_union t u ts us o p (plain a e) = let f : Union ts ≡ Any = sym o ∙ e in cc
  settled_union t u ts us o p (alone a v e) = let f : Union ts ≡ Var v = sym o ∙ e in cc
  settled_union t u ts us o p (tuple a b vs ws d e h) = let f : Union ts ≡ Tuple vs = sym o ∙ d in cc
  settled_union t u ts us o p (named_type a b k vs ws d e h) = let f : Union ts ≡ Nominal k vs = sym o ∙ d in cc
  settled_union t u ts us o p (union a b vs ws d e h) =
      let f : Union ts ≡ Union vs = sym o ∙ d in
      let g : Union us ≡ Union ws = sym p ∙ e in
      let x : vs ≡ ts = cc in
      let y : ws ≡ us = cc in
      subst (λ z. AllSettled n z us) x (subst (λ z. AllSettled n vs z) y h)

  settled_tuple : (t u : Ty) (ts us : List Ty) → out-Ty t ≡ Tuple ts → out-Ty u ≡ Tuple us → Settled n t u → AllSettled n ts us
  settled_tuple t u ts us o p (plain a e) = let f : Tuple ts ≡ Any = sym o ∙ e in cc
  settled_tuple t u ts us o p (alone a v e) = let f : Tuple ts ≡ Var v = sym o ∙ e in cc
  settled_tuple t u ts us o p (union a b vs ws d e h) = let f : Tuple ts ≡ Union vs = sym o ∙ d in cc
  settled_tuple t u ts us o p (named_type a b k vs ws d e h) = let f : Tuple ts ≡ Nominal k vs = sym o ∙ d in cc
  settled_tuple t u ts us o p (tuple a b vs ws d e h) =
      let f : Tuple ts ≡ Tuple vs = sym o ∙ d in
      let g : Tuple us ≡ Tuple ws = sym p ∙ e in
      let x : vs ≡ ts = cc in
      let y : ws ≡ us = cc in
      subst (λ z. AllSettled n z us) x (subst (λ z. AllSettled n vs z) y h)

  settled_nominal : (t u : Ty) (k : ℕ) (ts us : List Ty) → out-Ty t ≡ Nominal k ts → out-Ty u ≡ Nominal k us → Settled n t u → AllArguments n ts us
  settled_nominal t u k ts us o p (plain a e) = let f : Nominal k ts ≡ Any = sym o ∙ e in cc
  settled_nominal t u k ts us o p (alone a v e) = let f : Nominal k ts ≡ Var v = sym o ∙ e in cc
  settled_nominal t u k ts us o p (union a b vs ws d e h) = let f : Nominal k ts ≡ Union vs = sym o ∙ d in cc
  settled_nominal t u k ts us o p (tuple a b vs ws d e h) = let f : Nominal k ts ≡ Tuple vs = sym o ∙ d in cc
  settled_nominal t u k ts us o p (named_type a b j vs ws d e h) =
      let f : Nominal k ts ≡ Nominal j vs = sym o ∙ d in
      let g : Nominal k us ≡ Nominal j ws = sym p ∙ e in
      let x : vs ≡ ts = cc in
      let y : ws ≡ us = cc in
      subst (λ z. AllArguments n z us) x (subst (λ z. AllArguments n vs z) y h)

  settled_at : (ts us : List Ty) (i : ℕ) (t : Ty) → AllSettled n ts us → ts ≡ us → i < length ts → t ≡ get_or ts i t → Settled n t t
  settled_at ts us i t settled_end e lt f = absurd (omega arith)
  settled_at ts us zero t (settled_more a b vs ws p q) e lt f =
      let g : b ≡ a = cc in
      let h : Settled n a a = subst (λ z. Settled n a z) g p in
      subst (λ z. Settled n z z) (sym f) h
  settled_at ts us (suc i) t (settled_more a b vs ws p q) e lt f = let g : vs ≡ ws = cc in settled_at vs ws i t q g (omega arith) f

  -- normal forms put in arguments
  at_normal : (xs : List Ty) (v : ℕ) → AllNormal n xs → IsNormal n (at xs v)
  at_normal xs v none = normal_any W.Any outs-Any
  at_normal xs zero (more t ts p q) = p
  at_normal xs (suc v) (more t ts p q) = at_normal ts v q

  mutual
    argument_normal : (xs : List Ty) → AllNormal n xs → (t u : Ty) → Argument n t u → t ≡ u → IsNormal n (put (at xs) t)
    argument_normal xs h t u (closed a b c f) e = subst (IsNormal n) (sym (put-closed (at xs) t (no_vars (vars_in t) c) ∙ e)) f.normal
    argument_normal xs h t u (variable a v o) e = subst (IsNormal n) (sym (ap (put (at xs)) (is_var t v o) ∙ put-var (at xs) v)) (at_normal xs v h)
    argument_normal xs h t u (applied a b k ts us c o p q) e =
        let f : Nominal k ts ≡ Nominal k us = sym o ∙ ap out-Ty e ∙ p in
        let g : ts ≡ us = cc in
        let ps = map (put (at xs)) ts in
        subst (IsNormal n) (sym (ap (put (at xs)) (is_nominal t k ts o) ∙ put-nominal (at xs) k ts)) (normal_nominal (V.Nominal k ps) k ps (outs-Nominal k ps) (arguments_normal xs h ts us q g))

    arguments_normal : (xs : List Ty) → AllNormal n xs → (ts us : List Ty) → AllArguments n ts us → ts ≡ us → AllNormal n (map (put (at xs)) ts)
    arguments_normal xs h ts us arguments_end e = none
    arguments_normal xs h ts us (arguments_more t u vs ws p q) e =
        let f : t ≡ u = cc in
        let g : vs ≡ ws = cc in
        more (put (at xs) t) (map (put (at xs)) vs) (argument_normal xs h t u p f) (arguments_normal xs h vs ws q g)

-- of a field's type
pub union_fields : (ds : List Decl) (t : Ty) (ts vs : List Ty) → t ≡ V.Union ts → vs ≡ ts → IsFieldType ds t → AreFieldTypes ds vs
union_fields ds t ts vs e f h =
    let o : out-Ty t ≡ Union ts = ap out-Ty e ∙ outs-Union ts in
    subst (AreFieldTypes ds) (sym f) (record {
      settled = settled_union (table_of ds) t t ts ts o o h.settled;
      known = each_true (is_known (length ds)) ts (union_known (length ds) ts (sym (ap (is_known (length ds)) e) ∙ h.known));
    })

pub tuple_fields : (ds : List Decl) (t : Ty) (ts vs : List Ty) → t ≡ V.Tuple ts → vs ≡ ts → IsFieldType ds t → AreFieldTypes ds vs
tuple_fields ds t ts vs e f h =
    let o : out-Ty t ≡ Tuple ts = ap out-Ty e ∙ outs-Tuple ts in
    subst (AreFieldTypes ds) (sym f) (record {
      settled = settled_tuple (table_of ds) t t ts ts o o h.settled;
      known = each_true (is_known (length ds)) ts (tuple_known (length ds) ts (sym (ap (is_known (length ds)) e) ∙ h.known));
    })

pub field_at : (ds : List Decl) (ts : List Ty) (i : ℕ) (t : Ty) → AreFieldTypes ds ts → i < length ts → t ≡ get_or ts i t → IsFieldType ds t
field_at ds ts i t h lt e = record { settled = settled_at (table_of ds) ts ts i t h.settled refl lt e; known = all-at (is_known (length ds)) ts i t h.known lt e }

pub nominal_ground : (ds : List Decl) (t : Ty) (k : ℕ) (ts vs zs xs : List Ty) → t ≡ V.Nominal k ts → vs ≡ ts → zs ≡ map (put (at xs)) vs → IsFieldType ds t → AreArguments ds xs → IsGround ds (V.Nominal k zs)
nominal_ground ds t k ts vs zs xs e f g h a =
    let m = length ds in
    let o : out-Ty t ≡ Nominal k ts = ap out-Ty e ∙ outs-Nominal k ts in
    let ps = map (put (at xs)) ts in
    let z : ps ≡ zs = sym (g ∙ ap (map (put (at xs))) f) in
    let kn : Known m (V.Nominal k ts) = sym (ap (is_known m) e) ∙ h.known in
    let r = nominal_known m k ts kn in
    subst (λ y. IsGround ds (V.Nominal k y)) z (record {
      normal = normal_nominal (V.Nominal k ps) k ps (outs-Nominal k ps) (arguments_normal (table_of ds) xs a.normal ts ts (settled_nominal (table_of ds) t t k ts ts o o h.settled) refl);
      known = known_nominal m k ps (grind (arith, r.0)) (put_all_known m xs (true_each (is_known m) xs a.known) ts r.1);
    })

pub argument_ground : (ds : List Decl) (xs : List Ty) (i : ℕ) (x : Ty) → AreArguments ds xs → i < length xs → x ≡ get_or xs i x → IsGround ds x
argument_ground ds xs i x h lt e = record { normal = normal-at (table_of ds) xs i x h.normal lt e; known = all-at (is_known (length ds)) xs i x h.known lt e }

pub nominal_arguments : (ds : List Decl) (t : Ty) (k : ℕ) (ts vs : List Ty) → t ≡ V.Nominal k ts → vs ≡ ts → IsGround ds t → AreArguments ds vs
nominal_arguments ds t k ts vs e f g =
    let m = length ds in
    let r = nominal_known m k ts (sym (ap (is_known m) e) ∙ g.known) in
    record {
      normal = nominal_args ds t k ts vs e f g;
      known = ap (list_all (is_known m)) f ∙ each_true (is_known m) ts r.1;
    }
