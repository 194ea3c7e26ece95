-- When what is left of candidates makes a normal form, and when no normal form of it is small.
use Rattle.std.proofs.Common.{◌≡◌, ◌∙◌, sym, ap, subst, refl, ◌<◌, ◌≤◌, arith, true, List, [], ◌∷◌, length, inl, inr}
use Rattle.std.specs.List.{list_all}
use Rattle.jl_model.specs.declared.ty.Ty.{Ty}
use Rattle.jl_model.specs.declared.ty.Ty.TheOpen.{Union}
use Rattle.jl_model.specs.declared.ty.Ty.TheViews.{out-Ty, outs-Union}
use Rattle.jl_model.specs.declared.ty.Ty.TheViews as V
use Rattle.jl_model.specs.Rows.{alts}
use Rattle.jl_model.specs.Subtype.{Table, opaque, Below, Equal}
use Rattle.jl_model.specs.Members.{EachBelow, BelowSome}
use Rattle.jl_model.specs.Counts.{nodes}
use Rattle.jl_model.specs.Order.{term_cmp}
use Rattle.jl_model.specs.Normal.{IsNormal, AllNormal, is_single, no_union, Leads, Members, any, var, nominal, tuple, union}
use Rattle.jl_model.proofs.FormLemmas.{is_union}
use Rattle.jl_model.proofs.AncestorLemmas.{Lawful}
use Rattle.jl_model.proofs.TransLemmas.{below_trans}
use Rattle.jl_model.proofs.OrderLemmas.{not_less}
use Rattle.jl_model.proofs.BelowLemmas.{below_union, below_some}
use Rattle.jl_model.proofs.NormalLemmas.{In, first, later, Ascending, Ordered, members_same, each_in, some_in, all_in, single_in, single_alts}
use Rattle.jl_model.proofs.CountLemmas.{nodes_all, nodes-union}
use Rattle.jl_types.specs.Ground.{IsLower}
use Rattle.jl_types.specs.Reduce.{BelowNoSmall}
use Rattle.jl_types.proofs.ExactLemmas.{lower_alts, lower_exact}
use Rattle.jl_types.proofs.ReduceLemmas.{le_or}
use Rattle.jl_types.proofs.ApartLemmas.{Apart, NoneBelow}

pub no_small_in : (n : Table) (t x : Ty) (ts : List Ty) → BelowNoSmall n t ts → In x ts → nodes x ≤ 1024 → Below n opaque t x → ⊥
no_small_in n t x ts h (first y ys e) s b = h.0 (subst (λ z. nodes z ≤ 1024) e s) (subst (λ z. Below n opaque t z) e b)
no_small_in n t x ts h (later y ys i) s b = no_small_in n t x ys h.1 i s b

none_in : (n : Table) (t x : Ty) (ts : List Ty) → NoneBelow n ts t → In x ts → nodes t ≤ 1024 → Below n opaque x t → ⊥
none_in n t x ts h (first y ys e) s b = h.0 s (subst (λ z. Below n opaque z t) e b)
none_in n t x ts h (later y ys i) s b = none_in n t x ys h.1 i s b

-- of those apart, one below another that is small is that one
pub apart_same : (n : Table) (x y : Ty) (ts : List Ty) → Apart n ts → In x ts → In y ts → nodes y ≤ 1024 → Below n opaque x y → x ≡ y
apart_same n x y ts h (first t us d) (first u vs e) s b = d ∙ sym e
apart_same n x y ts h (first t us d) (later u vs j) s b = absurd (no_small_in n t y us h.0 j s (subst (λ z. Below n opaque z y) d b))
apart_same n x y ts h (later t us i) (first u vs e) s b = absurd (none_in n t x us h.1 i (subst (λ z. nodes z ≤ 1024) e s) (subst (λ z. Below n opaque x z) e b))
apart_same n x y ts h (later t us i) (later u vs j) s b = apart_same n x y us h.2 i j s b

-- NORMAL: small ones in order
leads_all : (n : Table) (t : Ty) (us : List Ty) → Ascending t us → ((u : Ty) → In u us → Below n opaque t u → t ≡ u) → ((u : Ty) → In u us → Below n opaque u t → u ≡ t) → Leads n t us
leads_all n t [] a f g = tt
leads_all n t (u ∷ us) a f g =
    let i = first u us refl in (
      a.0,
      ((λ b. not_less t (ap (term_cmp t) (f u i b) ∙ a.0)), (λ b. not_less t (ap (term_cmp t) (sym (g u i b)) ∙ a.0))),
      leads_all n t us a.1 (λ v j. f v (later u us j)) (λ v j. g v (later u us j)),
    )

pub members_all : (n : Table) (ts : List Ty) → Ordered ts → ((x y : Ty) → In x ts → In y ts → Below n opaque x y → x ≡ y) → Members n ts
members_all n [] o f = tt
members_all n (t ∷ ts) o f = (
  leads_all n t ts o.0 (λ u i. f t u (first t ts refl) (later t ts i)) (λ u i. f u t (later t ts i) (first t ts refl)),
  members_all n ts o.1 (λ x y i j. f x y (later t ts i) (later t ts j)),
)

pub ordered_normal : (n : Table) (ts : List Ty) → AllNormal n ts → list_all is_single ts ≡ true → Ordered ts → ((x y : Ty) → In x ts → In y ts → Below n opaque x y → x ≡ y) → (length ts ≡ 1 → ⊥) → IsNormal n (V.Union ts)
ordered_normal n ts h s o f l = union (V.Union ts) ts (outs-Union ts) h s (members_all n ts o f) l

-- LARGE: no small normal form is equal
pub nodes_in : (x : Ty) (ts : List Ty) → In x ts → nodes x ≤ nodes_all ts
nodes_in x ts (first y ys e) = let f : nodes x ≡ nodes y = ap nodes e in omega arith
nodes_in x ts (later y ys i) = let h = nodes_in x ys i in omega arith

pub below_in : (n : Table) (x y : Ty) (ts : List Ty) → In y ts → Below n opaque x y → BelowSome n x ts
below_in n x y ts (first z zs e) b = inl (subst (λ w. Below n opaque x w) e b)
below_in n x y ts (later z zs i) b = inr (below_in n x y zs i b)

module _ (n : Table) (law : Lawful n) (ks : List Ty) (apart : Apart n ks) (lower : (x : Ty) → In x ks → IsLower n 1024 x) where
  abbrev B : Ty → Ty → Type 0
  B = Below n opaque

  -- a large one is not below a small normal form that is no union, where this is below what is left
  not_under : (h u : Ty) → In h ks → 1024 < nodes h → IsNormal n u → alts u ≡ u ∷ [] → nodes u ≤ 1024 → B h u → BelowSome n u ks → ((x : Ty) → In x ks → B u x → B x u) → ⊥
  not_under h u i l g a s b c back =
      let r = some_in n u ks c in
      let e : r.0 ≡ u = lower_exact n law 1024 r.0 (lower r.0 r.1) u g s (back r.0 r.1 r.2, r.2) in
      let f : h ≡ r.0 = apart_same n h r.0 ks apart i r.1 (subst (λ z. nodes z ≤ 1024) (sym e) s) (below_trans n law h u r.0 b r.2) in
      let k : nodes h ≡ nodes u = ap nodes (f ∙ e) in
      omega arith

  small_not : (h u : Ty) → In h ks → 1024 < nodes h → IsNormal n u → nodes u ≤ 1024 → Equal n (V.Union ks) u → ⊥
  small_not h u i l g s q = by_form g
    where
      each : EachBelow n ks u
      each = below_union n ks u q.0

      single : alts u ≡ u ∷ [] → ⊥
      single a = not_under h u i l g a s (each_in n h u ks each i) (below_some n u ks a q.1) (λ x j b. each_in n x u ks each j)

      members : (ts : List Ty) → out-Ty u ≡ Union ts → AllNormal n ts → list_all is_single ts ≡ true → Members n ts → ⊥
      members ts o hs ss ms =
          let is = is_union u ts o in
          let ups : EachBelow n ts (V.Union ks) = below_union n ts (V.Union ks) (subst (λ z. B z (V.Union ks)) is q.1) in
          let a = lower_alts n 1024 h (lower h i) in
          let r = some_in n h ts (below_some n h ts a (subst (B h) is (each_in n h u ks each i))) in
          let m = r.0 in
          let am = single_alts n m (all_in n ts m hs r.1) (single_in m ts ss r.1) in
          let small : nodes m ≤ 1024 = omega (arith, nodes_in m ts r.1, ap nodes is, nodes-union ts) in
          not_under h m i l (all_in n ts m hs r.1) am small r.2 (below_some n m ks am (each_in n m (V.Union ks) ts ups r.1)) (λ x j b.
          let ax = lower_alts n 1024 x (lower x j) in
          let w = some_in n x ts (below_some n x ts ax (subst (B x) is (each_in n x u ks each j))) in
          let same : m ≡ w.0 = members_same n m w.0 ts ms r.1 w.1 (below_trans n law m x w.0 b w.2) in
          subst (B x) (sym same) w.2)

      by_form : IsNormal n u → ⊥
      by_form (any t o) = single (single_alts n u (any u o) (ap no_union o))
      by_form (var t v o) = single (single_alts n u (var u v o) (ap no_union o))
      by_form (nominal t k xs o e) = single (single_alts n u (nominal u k xs o e) (ap no_union o))
      by_form (tuple t xs o e f) = single (single_alts n u (tuple u xs o e f) (ap no_union o))
      by_form (union t ts o e f m k) = members ts o e f m

  pub large_left : (h u : Ty) → In h ks → 1024 < nodes h → IsNormal n u → Equal n (V.Union ks) u → 1024 < nodes u
  large_left h u i l g q = elim (le_or (nodes u) 1024) [ inl s ↦ absurd (small_not h u i l g s q) | inr k ↦ k ]
