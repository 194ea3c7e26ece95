-- What is kept of a declaration is kept as it stands, in the table with it: a declaration d, and what it is kept as, e.
use Rattle.std.proofs.Common.{◌≡◌, ◌∙◌, sym, ap, subst, refl, ℕ, arith, List, ◌∷◌, map, length}
use Rattle.jl_model.specs.declared.ty.Ty.{Ty, out-Ty}
use Rattle.jl_model.specs.declared.ty.Ty.TheViews as V
use Rattle.jl_model.specs.declared.ty.Bound.{Bound}
use Rattle.jl_model.specs.declared.ty.Decl.{Decl}
use Rattle.jl_model.specs.Signature.{Both, both_end, both_more}
use Rattle.jl_model.specs.Subtype.{Table, opaque, put, at, Below}
use Rattle.jl_model.specs.Ancestors.{line_above, table_of}
use Rattle.jl_model.specs.Normal.{IsNormalForm}
use Rattle.jl_model.specs.Valid.{is_known}
use Rattle.jl_model.specs.Kept.{field_types, Argument, AllArguments, closed, variable, nominal as applied, arguments_end, arguments_more, Settled, AllSettled, plain, variable as alone, union, tuple, nominal, settled_end, settled_more, Bounds, bounds_end, bounds_more, IsKept}
use Rattle.jl_model.specs.Refusals.{Declared, table_with, bound_types}
use Rattle.jl_model.proofs.FormLemmas.{is_nominal}
use Rattle.jl_model.proofs.AncestorLemmas.{Lawful}
use Rattle.jl_model.proofs.SelfLemmas.{equal_self}
use Rattle.jl_model.proofs.HeightLemmas.{Ways}
use Rattle.jl_model.proofs.KnownLemmas.{Known, nominal_known, agree_back, below_move}
use Rattle.jl_model.proofs.FillLemmas.{declared_agree}
use Rattle.jl_norm.proofs.InheritLemmas.{Has, AllHave, has_union, has_tuple, has_nominal, have_none, have_more, union_has, tuple_has, nominal_has, inherits}
use Rattle.jl_types.proofs.PartsLemmas.{closed-nominal}
use Rattle.jl_norm.proofs.KeepLemmas.{nominal_below, argument_nominal}
use Rattle.jl_norm.proofs.OrderLemmas.{below_near, normal_like}
use Rattle.jl_norm.proofs.NextLemmas.{Alike, neither, parents, nears_next, arguments_ways, form_closed}

-- ARGUMENTS AND SETTLED TYPES ARE EQUAL, AND HAVE THE SAME PROPERTIES
module _ (n : Table) where
  turned : (ts us : List Ty) → Both (Ways (Below n opaque)) ts us → Both (Ways (Below n opaque)) us ts
  turned ts us both_end = both_end
  turned ts us (both_more t u vs ws p r) = both_more u t ws vs (p.1, p.0) (turned vs ws r)

  mutual
    pub argument_equal : (t u : Ty) → Argument n t u → Ways (Below n opaque) t u
    argument_equal t u (closed a b c f) = f.equal
    argument_equal t u (variable a v o) = equal_self n t
    argument_equal t u (applied a b k ts us c o p q) =
        let w = arguments_equal ts us q in
        let i = is_nominal t k ts o in
        let j = is_nominal u k us p in
        let s : Ways (Below n opaque) (V.Nominal k ts) (V.Nominal k us) = (nominal_below n k ts us w, nominal_below n k us ts (turned ts us w)) in
        subst (λ z. Ways (Below n opaque) z u) (sym i) (subst (λ z. Ways (Below n opaque) (V.Nominal k ts) z) (sym j) s)

    pub arguments_equal : (ts us : List Ty) → AllArguments n ts us → Both (Ways (Below n opaque)) ts us
    arguments_equal ts us arguments_end = both_end
    arguments_equal ts us (arguments_more t u vs ws p q) = both_more t u vs ws (argument_equal t u p) (arguments_equal vs ws q)

  module _ (law : Lawful n) (P : ℕ → Type 0) (R : ℕ → List Ty → Type 0) (equal : (k : ℕ) (xs ys : List Ty) → R k xs → Both (Ways (Below n opaque)) xs ys → R k ys) where
    mutual
      argument_has : (t u : Ty) → Argument n t u → Has P R t → Has P R u
      argument_has t u (closed a b c f) h = inherits P R n law equal u f.normal t h f.equal
      argument_has t u (variable a v o) h = h
      argument_has t u (applied a b k ts us c o p q) h =
          let g = nominal_has P R t k ts o h in
          has_nominal u k us p (equal k ts us g.0 (arguments_equal ts us q)) (arguments_have ts us q g.1)

      arguments_have : (ts us : List Ty) → AllArguments n ts us → AllHave P R ts → AllHave P R us
      arguments_have ts us arguments_end h = have_none
      arguments_have ts us (arguments_more t u vs ws p q) (have_more x xs h r) = have_more u ws (argument_has t u p h) (arguments_have vs ws q r)

    mutual
      pub settled_has : (t u : Ty) → Settled n t u → Has P R t → Has P R u
      settled_has t u (plain a o) h = h
      settled_has t u (alone a v o) h = h
      settled_has t u (union a b ts us o p q) h = has_union u us p (all_settled_have ts us q (union_has P R t ts o h))
      settled_has t u (tuple a b ts us o p q) h = has_tuple u us p (all_settled_have ts us q (tuple_has P R t ts o h))
      settled_has t u (nominal a b k ts us o p q) h =
          let g = nominal_has P R t k ts o h in
          has_nominal u k us p (equal k ts us g.0 (arguments_equal ts us q)) (arguments_have ts us q g.1)

      pub all_settled_have : (ts us : List Ty) → AllSettled n ts us → AllHave P R ts → AllHave P R us
      all_settled_have ts us settled_end h = have_none
      all_settled_have ts us (settled_more t u vs ws p q) (have_more x xs h r) = have_more u ws (settled_has t u p h) (all_settled_have vs ws q r)

    pub bounds_have : (bs cs : List Bound) → Bounds n bs cs → AllHave P R (bound_types bs) → AllHave P R (bound_types cs)
    bounds_have bs cs bounds_end h = have_none
    bounds_have bs cs (bounds_more b c as_ es l u q) (have_more x xs g (have_more y ys k r)) =
        have_more c.low (c.high ∷ bound_types es) (inherits P R n law equal c.low l.normal b.low g l.equal)
        (have_more c.high (bound_types es) (inherits P R n law equal c.high u.normal b.high k u.equal) (bounds_have as_ es q r))

pub bounds_long : (n : Table) (bs cs : List Bound) → Bounds n bs cs → length bs ≡ length cs
bounds_long n bs cs bounds_end = refl
bounds_long n bs cs (bounds_more b c as_ es l u q) = let h = bounds_long n as_ es q in omega arith

-- ONE ORDER OF TYPES
-- the parents
settled_alike : (n o : Table) (m : ℕ) → Lawful n → ((t u : Ty) → Known m t → Known m u → Below n opaque t u → Below o opaque t u) → (d e : Decl) → Known m d.parent → Settled n d.parent e.parent → Alike o d e
settled_alike n o m law move d e k s = go d.parent e.parent s refl refl
  where
    go : (t u : Ty) → Settled n t u → t ≡ d.parent → u ≡ e.parent → Alike o d e
    go t u (plain a q) i j = neither (λ ls. ap (line_above ls) (ap out-Ty (sym i) ∙ q)) (λ ls. ap (line_above ls) (ap out-Ty (sym j) ∙ q))
    go t u (alone a v q) i j = neither (λ ls. ap (line_above ls) (ap out-Ty (sym i) ∙ q)) (λ ls. ap (line_above ls) (ap out-Ty (sym j) ∙ q))
    go t u (union a b ts us p q r) i j = neither (λ ls. ap (line_above ls) (ap out-Ty (sym i) ∙ p)) (λ ls. ap (line_above ls) (ap out-Ty (sym j) ∙ q))
    go t u (tuple a b ts us p q r) i j = neither (λ ls. ap (line_above ls) (ap out-Ty (sym i) ∙ p)) (λ ls. ap (line_above ls) (ap out-Ty (sym j) ∙ q))
    go t u (nominal a b c ts us p q r) i j =
        let known = (nominal_known m c ts (sym (ap (is_known m) (is_nominal t c ts p)) ∙ ap (is_known m) i ∙ k)).1 in
        parents c ts us (ap out-Ty (sym i) ∙ p) (ap out-Ty (sym j) ∙ q) (λ xs. arguments_ways n o m law move ts us r known xs)

-- the same parents the other way round
alike_back : (o : Table) (d e : Decl) → Alike o d e → Alike o e d
alike_back o d e (neither f g) = neither g f
alike_back o d e (parents p ys ws f g h) = parents p ws ys g f (λ xs. turned o (map (put (at xs)) ws) (map (put (at xs)) ys) (h xs))

module _ (ds : List Decl) (d e : Decl) (h : Declared ds) (law_d : Lawful (table_with ds d)) (law_e : Lawful (table_with ds e)) (k : Known (length ds) d.parent) (s : Settled (table_with ds d) d.parent e.parent)
    (long : length d.params ≡ length e.params) where
  abbrev n_d : Table
  n_d = table_with ds d

  abbrev n_e : Table
  n_e = table_with ds e

  known_there : (t u : Ty) → Known (length ds) t → Known (length ds) u → Below n_d opaque t u → Below n_e opaque t u
  known_there t u p q b =
      below_move (table_of ds) n_e (length ds) (declared_agree ds e h) t u p q
      (below_move n_d (table_of ds) (length ds) (agree_back (table_of ds) n_d (length ds) (declared_agree ds d h)) t u p q b)

  -- the order with d, and the order with what d is kept as, are one
  pub order_there : (t u : Ty) → Below n_d opaque t u → Below n_e opaque t u
  order_there = below_near n_d n_e law_e (nears_next ds h d e law_e long (settled_alike n_d n_e (length ds) law_d known_there d e k s))

  pub order_back : (t u : Ty) → Below n_e opaque t u → Below n_d opaque t u
  order_back = below_near n_e n_d law_d (nears_next ds h e d law_d (sym long) (alike_back n_d d e (settled_alike n_d n_d (length ds) law_d (λ t u p q b. b) d e k s)))

  normal_there : (t u : Ty) → IsNormalForm n_d t u → IsNormalForm n_e u u
  normal_there t u f = record { normal = normal_like n_d n_e order_there order_back u f.normal; equal = equal_self n_e u }

  -- what is kept is kept as it stands
  mutual
    argument_again : (t u : Ty) → Argument n_d t u → Argument n_e u u
    argument_again t u (closed a b c f) = closed u u (form_closed n_d law_d t u c f) (normal_there t u f)
    argument_again t u (variable a v o) = variable u v o
    argument_again t u (applied a b j ts us c o p q) =
        let i = is_nominal u j us p in
        subst (Argument n_e u) (sym i) (argument_nominal n_e u j us us i (closed-nominal j) (arguments_again ts us q))

    arguments_again : (ts us : List Ty) → AllArguments n_d ts us → AllArguments n_e us us
    arguments_again ts us arguments_end = arguments_end
    arguments_again ts us (arguments_more t u vs ws p q) = arguments_more u u ws ws (argument_again t u p) (arguments_again vs ws q)

  mutual
    settled_again : (t u : Ty) → Settled n_d t u → Settled n_e u u
    settled_again t u (plain a o) = plain u o
    settled_again t u (alone a v o) = alone u v o
    settled_again t u (union a b ts us o p q) = union u u us us p p (all_settled_again ts us q)
    settled_again t u (tuple a b ts us o p q) = tuple u u us us p p (all_settled_again ts us q)
    settled_again t u (nominal a b j ts us o p q) = nominal u u j us us p p (arguments_again ts us q)

    all_settled_again : (ts us : List Ty) → AllSettled n_d ts us → AllSettled n_e us us
    all_settled_again ts us settled_end = settled_end
    all_settled_again ts us (settled_more t u vs ws p q) = settled_more u u ws ws (settled_again t u p) (all_settled_again vs ws q)

  bounds_again : (bs cs : List Bound) → Bounds n_d bs cs → Bounds n_e cs cs
  bounds_again bs cs bounds_end = bounds_end
  bounds_again bs cs (bounds_more b c as_ es l u q) = bounds_more c c es es (normal_there b.low c.low l) (normal_there b.high c.high u) (bounds_again as_ es q)

  pub kept_again : IsKept n_d d e → IsKept n_e e e
  kept_again kept = record {
    name = refl;
    kind = refl;
    params = bounds_again d.params e.params kept.params;
    parent = settled_again d.parent e.parent kept.parent;
    field_names = refl;
    fields = all_settled_again (field_types d.fields) (field_types e.fields) kept.fields;
  }
