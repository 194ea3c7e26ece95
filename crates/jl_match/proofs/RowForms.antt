-- The rows of a signature: the forms of its parts, with the kinds of their variables.
use Rattle.std.proofs.Common.{◌≡◌, ◌∙◌, sym, ap, subst, refl, ℕ, zero, suc, ◌+◌, ◌<◌, arith, List, [], ◌∷◌, ◌++◌, map, length, slice_index_or, ◌⊎◌, inl, inr}
use Rattle.std.proofs.Math.Nat.{mod-eq_of_lt, add-mul-mod_self_left}
use Rattle.std.specs.List.{flat_map, Contains}
use Rattle.jl_model.specs.declared.ty.Ty.{Ty}
use Rattle.jl_model.specs.declared.ty.Ty.TheOpen.{Any, Tuple, Nominal, Var}
use Rattle.jl_model.specs.declared.ty.Ty.TheViews.{out-Ty, outs-Any, outs-Tuple, outs-Nominal, outs-Var, rolls-Any, rolls-Union, rolls-Tuple, rolls-Nominal, rolls-Var}
use Rattle.jl_model.specs.declared.ty.Ty.TheViews as V
use Rattle.jl_model.specs.declared.ty.Ty.TheVariants as W
use Rattle.jl_model.specs.declared.ty.Written.{Written}
use Rattle.jl_model.specs.Kinds.{Kind, unused, once, diagonal, bound}
use Rattle.jl_model.specs.Rows.{choices, forms, alts, width, high, kind, root, atom, atoms, place_of, components, vars_in}
use Rattle.jl_model.specs.Signature.{Both, both_end, both_more}
use Rattle.jl_model.proofs.TypeInduction.{Each, by_cases}
use Rattle.jl_model.proofs.FormLemmas.{is_any, is_union, is_tuple, is_nominal, is_var, alts-any, alts-union, alts-tuple, alts-nominal, vars-union, vars-tuple, vars-nominal, vars-var}
use Rattle.jl_model.proofs.NormalLemmas.{In as Among, first, later}
use Rattle.jl_search.specs.Open.{EachVar, AreOpen, closed, open_end, open_more}
use Rattle.jl_match.proofs.TupleLemmas.{InRows, row_first, row_later, choice_of}
use Rattle.jl_match.proofs.SubstLemmas.{tuples_in}
use Rattle.jl_match.proofs.KindLemmas.{Inner, Comp, comp_any, comp_var, comp_union, comp_tuple, comp_nominal, Comps, comps_end, comps_more}
use Rattle.jl_types.proofs.FormEquations.{forms-any, forms-var, forms-union, forms-tuple, forms-nominal}

-- what is chosen from lists
pub choices_by : (g : Ty → List Ty) (r ws : List Ty) → InRows r (choices (map g ws)) → Both (λ a w. Among a (g w)) r ws
choices_by g r [] (row_first s ss e) = rw e both_end
choices_by g r [] (row_later s ss i) = elim i [ ]
choices_by g r (w ∷ ws) i =
    let c = choice_of r (g w) (choices (map g ws)) i in
    let e = c.is in
    rw e (both_more c.head w c.tail ws c.here (choices_by g c.tail ws c.rest))

pub rows_at : (rs : List (List Ty)) (r : List Ty) (k : ℕ) → k < length rs → slice_index_or rs k r ≡ r → InRows r rs
rows_at [] r k h e = absurd (omega arith)
rows_at (s ∷ ss) r zero h e = row_first s ss (sym e)
rows_at (s ∷ ss) r (suc k) h e = row_later s ss (rows_at ss r k (omega arith) e)

among_either : (a : Ty) (xs ys : List Ty) → Among a (xs ++ ys) → Among a xs ⊎ Among a ys
among_either a [] ys i = inr i
among_either a (x ∷ xs) ys (first y zs e) = inl (first x xs e)
among_either a (x ∷ xs) ys (later y zs i) = elim (among_either a xs ys i) [ inl j ↦ inl (later x xs j) | inr j ↦ inr j ]

pub only : (a t : Ty) → Among a (t ∷ []) → a ≡ t
only a t (first y ys e) = e
only a t (later y ys i) = elim i [ ]

module _ (s : Written) where
  -- an atom for an alternative of the upper bound
  abbrev pub IsAtom : ℕ → Type 0
  IsAtom w = (i : ℕ) × (i < length (alts (high s (root s w)))) × (w ≡ atom s (root s w) i)

  -- what may stand at a covariant place of a row
  abbrev pub Place : ℕ → Type 0
  Place w = (root s w < width s) × (((kind s w ≡ diagonal) × (root s w ≡ w)) ⊎ ((kind s (root s w) ≡ bound) × IsAtom w))

  -- an upper bound that mentions variables
  pub record IsNamedHigh (v : ℕ) : Type 0 where
    pub number : ℕ
    pub args : List Ty
    pub is_high : high s v ≡ V.Nominal number args
    pub opened : AreOpen args
    pub inside : EachVar (Inner s) (flat_map vars_in args)

  abbrev pub IsHigh : ℕ → Type 0
  IsHigh v = (vars_in (high s v) ≡ []) ⊎ IsNamedHigh v

  mutual
    -- a part of a row, with the kinds of its variables
    pub data Form : Ty → Type 0 where
      form_any : (t : Ty) → out-Ty t ≡ Any → Form t
      form_var : (t : Ty) (w : ℕ) → out-Ty t ≡ Var w → Place w → Form t
      form_tuple : (t : Ty) (ts : List Ty) → out-Ty t ≡ Tuple ts → Forms ts → Form t
      form_nominal : (t : Ty) (k : ℕ) (ts : List Ty) → out-Ty t ≡ Nominal k ts → AreOpen ts → EachVar (Inner s) (flat_map vars_in ts) → Form t

    pub data Forms : List Ty → Type 0 where
      forms_end : Forms []
      forms_more : (t : Ty) (ts : List Ty) → Form t → Forms ts → Forms (t ∷ ts)

  -- the alternatives of a type without variables
  closed_args : (ts : List Ty) → flat_map vars_in ts ≡ [] → AreOpen ts
  closed_args [] e = open_end
  closed_args (t ∷ ts) e = let r = both_empty (vars_in t) (flat_map vars_in ts) e in open_more t ts (closed t r.0) (closed_args ts r.1)
    where
      both_empty : (ms ns : List ℕ) → (ms ++ ns) ≡ [] → (ms ≡ []) × (ns ≡ [])
      both_empty [] ns e = (refl, e)
      both_empty (m ∷ ms) ns e = cc

  both_none : (ms ns : List ℕ) → (ms ++ ns) ≡ [] → (ms ≡ []) × (ns ≡ [])
  both_none [] ns e = (refl, e)
  both_none (m ∷ ms) ns e = cc

  abbrev Plain : Ty → Type 0
  Plain t = vars_in t ≡ [] → (a : Ty) → Among a (alts t) → Form a

  plain_union : (ts : List Ty) → Each Plain ts → flat_map vars_in ts ≡ [] → (a : Ty) → Among a (flat_map alts ts) → Form a
  plain_union [] e h a i = elim i [ ]
  plain_union (t ∷ ts) e h a i =
      let r = both_none (vars_in t) (flat_map vars_in ts) h in
      elim (among_either a (alts t) (flat_map alts ts) i) [ inl j ↦ e.0 r.0 a j | inr j ↦ plain_union ts e.1 r.1 a j ]

  plain_parts : (ts r : List Ty) → Each Plain ts → flat_map vars_in ts ≡ [] → Both (λ a w. Among a (alts w)) r ts → Forms r
  plain_parts [] [] e h b = forms_end
  plain_parts [] (x ∷ r) e h b = elim b [ ]
  plain_parts (t ∷ ts) [] e h b = elim b [ ]
  plain_parts (t ∷ ts) (x ∷ r) e h (both_more a w as_ us i b) =
      let q = both_none (vars_in t) (flat_map vars_in ts) h in forms_more x r (e.0 q.0 x i) (plain_parts ts r e.1 q.1 b)

  pub plain_alts : (t : Ty) → Plain t
  plain_alts = by_cases Plain (record {
    any = λ h a i. form_any a (ap out-Ty (only a W.Any (subst (Among a) alts-any i)) ∙ outs-Any);
    union = λ ts e h a i. plain_union ts e (sym (vars-union ts) ∙ h) a (subst (Among a) (alts-union ts) i);
    tuple = λ ts e h a i.
        let r = tuples_in a (choices (map alts ts)) (subst (Among a) (alts-tuple ts) i) in
        form_tuple a r.0 (ap out-Ty r.1 ∙ outs-Tuple r.0) (plain_parts ts r.0 e (sym (vars-tuple ts) ∙ h) (choices_by alts r.0 ts r.2));
    nominal = λ k ts e h a i.
        let n = sym (vars-nominal k ts) ∙ h in
        form_nominal a k ts (ap out-Ty (only a (V.Nominal k ts) (subst (Among a) (alts-nominal k ts) i)) ∙ outs-Nominal k ts) (closed_args ts n) (subst (EachVar (Inner s)) (sym n) tt);
    var = λ v h. let f : v ∷ [] ≡ [] = sym (vars-var v) ∙ h in cc;
  })

  -- atoms
  atom_root : (v i : ℕ) → v < width s → root s (atom s v i) ≡ v
  atom_root v i l = add-mul-mod_self_left v (width s) (i + 1) ∙ mod-eq_of_lt l

  is_atom : (v i : ℕ) → root s (atom s v i) ≡ v → i < length (alts (high s v)) → IsAtom (atom s v i)
  is_atom v i r h = (i, subst (λ z. i < length (alts (high s z))) (sym r) h, ap (λ z. atom s z i) (sym r))

  atoms_good : (v i : ℕ) (us : List Ty) → v < width s → kind s v ≡ bound → i + length us ≡ length (alts (high s v)) → (a : Ty) → Among a (atoms s v i us) → Form a
  atoms_good v i [] l d n a j = elim j [ ]
  atoms_good v i (u ∷ us) l d n a (first y ys e) =
      let r = atom_root v i l in
      form_var a (atom s v i) (ap out-Ty e ∙ outs-Var (atom s v i)) (subst (λ z. z < width s) (sym r) l, inr (ap (kind s) r ∙ d, is_atom v i r (omega (arith, n))))
  atoms_good v i (u ∷ us) l d n a (later y ys j) = atoms_good v (i + 1) us l d (omega (arith, n)) a j

  -- the alternatives of an upper bound
  pub high_alts : (v : ℕ) → IsHigh v → (a : Ty) → Among a (alts (high s v)) → Form a
  high_alts v (inl e) a i = plain_alts (high s v) e a i
  high_alts v (inr h) a i =
      form_nominal a h.number h.args (ap out-Ty (only a (V.Nominal h.number h.args) (subst (Among a) (ap alts h.is_high ∙ alts-nominal h.number h.args) i)) ∙ outs-Nominal h.number h.args) h.opened h.inside

  module _ (highs : (v : ℕ) → v < width s → IsHigh v) where
    place_good : (v : ℕ) (k : Kind) → kind s v ≡ k → v < width s → (a : Ty) → Among a (place_of s v k) → Form a
    place_good v unused e l a i = elim i [ ]
    place_good v once e l a i = high_alts v (highs v l) a i
    place_good v diagonal e l a i =
        let r : root s v ≡ v = mod-eq_of_lt l in
        form_var a v (ap out-Ty (only a (W.Var v) i) ∙ outs-Var v) (subst (λ z. z < width s) (sym r) l, inl (e, r))
    place_good v bound e l a i = atoms_good v 0 (alts (high s v)) l e (omega arith) a i

    abbrev G : Ty → List Ty
    G = forms (λ v. place_of s v (kind s v))

    mutual
      pub form_good : (u : Ty) → Comp s u → (a : Ty) → Among a (G u) → Form a
      form_good u (comp_any t o) a i = form_any a (ap out-Ty (only a W.Any (subst (Among a) (ap G (is_any u o) ∙ forms-any (λ v. place_of s v (kind s v))) i)) ∙ outs-Any)
      form_good u (comp_var t v o l) a i = place_good v (kind s v) refl l a (subst (Among a) (ap G (is_var u v o) ∙ forms-var (λ v. place_of s v (kind s v)) v) i)
      form_good u (comp_union t ts o p) a i = union_good ts p a (subst (Among a) (ap G (is_union u ts o) ∙ forms-union (λ v. place_of s v (kind s v)) ts) i)
      form_good u (comp_tuple t ts o p) a i =
          let r = tuples_in a (choices (map G ts)) (subst (Among a) (ap G (is_tuple u ts o) ∙ forms-tuple (λ v. place_of s v (kind s v)) ts) i) in
          form_tuple a r.0 (ap out-Ty r.1 ∙ outs-Tuple r.0) (parts_good ts p r.0 (choices_by G r.0 ts r.2))
      form_good u (comp_nominal t k ts o p e) a i =
          form_nominal a k ts (ap out-Ty (only a (V.Nominal k ts) (subst (Among a) (ap G (is_nominal u k ts o) ∙ forms-nominal (λ v. place_of s v (kind s v)) k ts) i)) ∙ outs-Nominal k ts) p e

      union_good : (us : List Ty) → Comps s us → (a : Ty) → Among a (flat_map G us) → Form a
      union_good us comps_end a i = elim i [ ]
      union_good us (comps_more u ws p q) a i = elim (among_either a (G u) (flat_map G ws) i) [ inl j ↦ form_good u p a j | inr j ↦ union_good ws q a j ]

      parts_good : (us : List Ty) → Comps s us → (r : List Ty) → Both (λ a w. Among a (G w)) r us → Forms r
      parts_good us comps_end r both_end = forms_end
      parts_good us (comps_more u ws p q) r (both_more a w as_ vs i b) = forms_more a as_ (form_good u p a i) (parts_good ws q as_ b)

    pub row_forms : Comps s s.parts → (r : List Ty) → Contains (components s) r → Forms r
    row_forms p r c = parts_good s.parts p r (choices_by G r s.parts (rows_at (components s) r c.0 c.1 c.2))
