-- The alternatives of a type, where a fixed variable stands for those of its upper bound.
use Rattle.std.proofs.Common.{◌≡◌, ◌∙◌, sym, ap, subst, refl, ℕ, suc, true, false, nat_lt, List, [], ◌∷◌, ◌++◌, length, get_or, append-nil, ◌⊎◌, inl, inr}
use Rattle.std.specs.List.{flat_map, list_all}
use Rattle.jl_model.specs.declared.ty.Ty.{Ty}
use Rattle.jl_model.specs.declared.ty.Ty.TheOpen.{Ty-F, Any, Union, Tuple, Nominal, Var}
use Rattle.jl_model.specs.declared.ty.Ty.TheViews.{out-Ty, outs-Union, outs-Var}
use Rattle.jl_model.specs.declared.ty.Ty.TheViews as V
use Rattle.jl_model.specs.declared.ty.Ty.TheVariants as W
use Rattle.jl_model.specs.declared.ty.Decl.{Decl}
use Rattle.jl_model.specs.Ancestors.{table_of}
use Rattle.jl_model.specs.Rows.{alts, width, high, kind, vars_in}
use Rattle.jl_model.specs.Signature.{is_diagonal}
use Rattle.jl_model.specs.Subtype.{Table, Fixed, at}
use Rattle.jl_model.specs.Normal.{IsNormal, AllNormal, none, more, no_union, is_single}
use Rattle.jl_model.specs.Valid.{is_known}
use Rattle.jl_model.specs.Found.{risen, risen_form, rising}
use Rattle.jl_model.proofs.FormLemmas.{is_union, is_var, alts-union, alts-var, vars-union}
use Rattle.jl_model.proofs.PutLemmas.{both_true}
use Rattle.jl_model.proofs.NormalLemmas.{single_alts}
use Rattle.jl_types.specs.Ground.{AreSingles}
use Rattle.jl_types.proofs.GroundLemmas.{union_singles}
use Rattle.jl_sig.specs.declared.row.SigRow.{SigRow}
use Rattle.jl_sig.specs.declared.sig.Sig.{Sig}
use Rattle.jl_sig.specs.SigParts.{kept_of, diagonals_of}
use Rattle.jl_search.proofs.KindLemmas.{is_diag, less_or}
use Rattle.jl_search.proofs.HasLemmas.{Has, has_flat, has_none, none_has, all_has}
use Rattle.jl_subsig.specs.Side.{held, IsItem, IsAlternative, AreHeld}
use Rattle.jl_subsig.proofs.HighLemmas.{high_normal, high_item, high_fast}
use Rattle.jl_subsig.proofs.FixedLemmas.{Fast, fast_closed}
use Rattle.jl_subsig.proofs.HeldLemmas as H

-- an alternative of an upper bound has no other
pub one_alternative : (ds : List Decl) (t : Ty) → IsAlternative ds t → alts t ≡ t ∷ []
one_alternative ds t h = single_alts (table_of ds) t (high_normal ds t h.high) h.single

pub two_alternatives : (t x : Ty) (xs : List Ty) → t ≡ x → xs ≡ x ∷ [] → alts t ≡ t ∷ [] → alts t ≡ xs
two_alternatives t x xs e f h = h ∙ ap (λ z. z ∷ []) e ∙ sym f

get_in : (us : List Ty) (c : Ty) → Has us c → (i : ℕ) × (at us i ≡ c)
get_in [] c h = absurd h
get_in (u ∷ us) c (inl e) = (0, e)
get_in (u ∷ us) c (inr h) = let r = get_in us c h in (suc r.0, r.1)

in_normal : (n : Table) (ts : List Ty) → AllNormal n ts → (t : Ty) → Has ts t → IsNormal n t
in_normal n ts none t i = absurd i
in_normal n ts (more x xs p q) t (inl e) = subst (IsNormal n) e p
in_normal n ts (more x xs p q) t (inr i) = in_normal n xs q t i

-- alternatives one by one
pub record Risen (ds : List Decl) (t : Ty) : Type 0 where
  pub item : IsItem ds t
  pub single : is_single t ≡ true
  pub fast : Fast t

risen_of : (ds : List Decl) (t : Ty) → IsAlternative ds t → Risen ds t
risen_of ds t h = record { item = high_item ds t h.high; single = h.single; fast = high_fast ds t h.high }

module _ (ds : List Decl) (s : Sig) (r : SigRow) (h : AreHeld ds s r) where
  abbrev G : Fixed
  G = held s r

  -- a diagonal variable and an atom have one alternative
  pub alternative_of : (k : ℕ) → (nat_lt k (width (kept_of s)) ≡ false) ⊎ (get_or (diagonals_of s) k false ≡ true) → IsAlternative ds ((held s r).high k)
  alternative_of k (inl e) = H.past_alternative ds s r h k e
  alternative_of k (inr d) = elim (less_or k (width (kept_of s))) [
    | inl l ↦ H.own_alternative ds s r h k l (is_diag (kind (kept_of s) k) (sym (h.told.diagonals k) ∙ d))
    | inr e ↦ H.past_alternative ds s r h k e
  ]

  -- of all fixed variables
  high_risen : (k : ℕ) (c : Ty) → Has (alts ((held s r).high k)) c → Risen ds c
  high_risen k c i = elim (less_or k (width (kept_of s))) [
    | inr e ↦ one k c (H.past_alternative ds s r h k e) i
    | inl l ↦ elim (H.true_or (is_diagonal (kind (kept_of s) k))) [
      | inl d ↦ one k c (H.own_alternative ds s r h k l (is_diag (kind (kept_of s) k) d)) i
      | inr d ↦
          let e : (held s r).high k ≡ high (kept_of s) k = H.own_high s r h.told k l ∙ H.other_kind (kind (kept_of s) k) (at r.chosen k) (high (kept_of s) k) d in
          let j = get_in (alts (high (kept_of s) k)) c (subst (λ z. Has (alts z) c) e i) in
          risen_of ds c (subst (IsAlternative ds) j.1 (h.atom k j.0 l))
    ]
  ]
    where
      one : (k : ℕ) (c : Ty) → IsAlternative ds ((held s r).high k) → Has (alts ((held s r).high k)) c → Risen ds c
      one k c a i = elim (subst (λ z. Has z c) (one_alternative ds ((held s r).high k) a) i) [ inl e ↦ subst (Risen ds) e (risen_of ds ((held s r).high k) a) | inr b ↦ absurd b ]

  -- a type that is no variable stands for itself
  still_form : (t : Ty) (x : Ty-F Ty) → out-Ty t ≡ x → Fast t → risen_form (held s r) t x ≡ t
  still_form t Any e f = refl
  still_form t (Union ts) e f = refl
  still_form t (Tuple ts) e f = refl
  still_form t (Nominal k ts) e f = refl
  still_form t (Var v) e f = absurd (f v e)

  pub still : (t : Ty) → Fast t → risen (held s r) t ≡ t
  still t f = still_form t (out-Ty t) refl f

  single_rising : (t : Ty) → alts t ≡ t ∷ [] → Fast t → rising (held s r) t ≡ t ∷ []
  single_rising t e f = ap (flat_map (λ a. alts (risen (held s r) a))) e ∙ append-nil (alts (risen (held s r) t)) ∙ ap alts (still t f) ∙ e

  -- the members of a union
  singles_alts : (ts : List Ty) → AreSingles ds ts → ((t : Ty) → Has ts t → Fast t) → (flat_map alts ts ≡ ts) × (flat_map (λ a. alts (risen (held s r) a)) ts ≡ ts)
  singles_alts ts h f = all ts (λ t i. (let e = in_normal (table_of ds) ts h.normal t i in single_alts (table_of ds) t e (all_has is_single ts t h.single i))) f
    where
      all : (ts : List Ty) → ((t : Ty) → Has ts t → alts t ≡ t ∷ []) → ((t : Ty) → Has ts t → Fast t) → (flat_map alts ts ≡ ts) × (flat_map (λ a. alts (risen (held s r) a)) ts ≡ ts)
      all [] e f = (refl, refl)
      all (t ∷ ts) e f =
          let q = all ts (λ x i. e x (inr i)) (λ x i. f x (inr i)) in
          let a : alts t ≡ t ∷ [] = e t (inl refl) in
          let b : alts (risen (held s r) t) ≡ t ∷ [] = ap alts (still t (f t (inl refl))) ∙ a in
          let c : alts t ++ flat_map alts ts ≡ t ∷ ts = ap (λ z. z ++ flat_map alts ts) a ∙ ap (λ z. t ∷ z) q.0 in
          let d : alts (risen (held s r) t) ++ flat_map (λ a. alts (risen (held s r) a)) ts ≡ t ∷ ts = ap (λ z. z ++ flat_map (λ a. alts (risen (held s r) a)) ts) b ∙ ap (λ z. t ∷ z) q.1 in
          (c, d)

  pub union_rising : (t : Ty) (ts vs : List Ty) → t ≡ V.Union ts → vs ≡ ts → IsItem ds t → rising (held s r) t ≡ vs
  union_rising t ts vs e f i =
      let c : vars_in t ≡ [] = i.whole (ap no_union (ap out-Ty e ∙ outs-Union ts)) in
      let g : AreSingles ds ts = union_singles ds t ts ts e refl (record { normal = i.normal; known = i.known }) in
      let k : flat_map vars_in ts ≡ [] = sym (ap vars_in e ∙ vars-union ts) ∙ c in
      let q = singles_alts ts g (λ x j. fast_closed x (none_has (vars_in x) (λ v w. has_none (flat_map vars_in ts) v k (has_flat vars_in ts x v j w)))) in
      ap (flat_map (λ a. alts (risen (held s r) a))) (ap alts e ∙ alts-union ts ∙ q.0) ∙ q.1 ∙ sym f

  pub var_rising : (t : Ty) (k : ℕ) → t ≡ W.Var k → rising (held s r) t ≡ alts ((held s r).high k)
  var_rising t k e =
      ap (flat_map (λ a. alts (risen (held s r) a))) (ap alts e ∙ alts-var k) ∙ append-nil (alts (risen (held s r) (W.Var k))) ∙ ap (λ z. alts (risen_form (held s r) (W.Var k) z)) (outs-Var k)

  no_union_of : (t : Ty) (x : Ty-F Ty) → out-Ty t ≡ x → ((ts : List Ty) → t ≡ V.Union ts → ⊥) → is_single t ≡ true
  no_union_of t Any e f = ap no_union e
  no_union_of t (Union ts) e f = absurd (f ts (is_union t ts e))
  no_union_of t (Tuple ts) e f = ap no_union e
  no_union_of t (Nominal k ts) e f = ap no_union e
  no_union_of t (Var v) e f = ap no_union e

  pub other_rising : (t : Ty) (vs : List Ty) → IsItem ds t → ((ts : List Ty) → t ≡ V.Union ts → ⊥) → ((v : ℕ) → t ≡ W.Var v → ⊥) → vs ≡ t ∷ [] → rising (held s r) t ≡ vs
  other_rising t vs i f g e = single_rising t (single_alts (table_of ds) t i.normal (no_union_of t (out-Ty t) refl f)) (λ v o. g v (is_var t v o)) ∙ sym e

  -- what stands for an item
  pub rising_risen : (t : Ty) → IsItem ds t → (c : Ty) → Has (rising (held s r) t) c → Risen ds c
  rising_risen t i c j = by_form (out-Ty t) refl
    where
      itself : is_single t ≡ true → Fast t → Risen ds c
      itself s f = elim (subst (λ z. Has z c) (single_rising t (single_alts (table_of ds) t i.normal s) f) j) [ inl e ↦ subst (Risen ds) e (record { item = i; single = s; fast = f }) | inr b ↦ absurd b ]

      by_form : (x : Ty-F Ty) → out-Ty t ≡ x → Risen ds c
      by_form Any e = itself (ap no_union e) (λ v o. (let b : Any ≡ Var v = sym e ∙ o in cc))
      by_form (Tuple ts) e = itself (ap no_union e) (λ v o. (let b : Tuple ts ≡ Var v = sym e ∙ o in cc))
      by_form (Nominal k ts) e = itself (ap no_union e) (λ v o. (let b : Nominal k ts ≡ Var v = sym e ∙ o in cc))
      by_form (Var k) e = high_risen k c (subst (λ z. Has z c) (var_rising t k (is_var t k e)) j)
      by_form (Union ts) e =
          let w = is_union t ts e in
          let g : AreSingles ds ts = union_singles ds t ts ts w refl (record { normal = i.normal; known = i.known }) in
          let k : flat_map vars_in ts ≡ [] = sym (ap vars_in w ∙ vars-union ts) ∙ i.whole (ap no_union e) in
          let m = subst (λ z. Has z c) (union_rising t ts ts w refl i) j in
          let d : vars_in c ≡ [] = none_has (vars_in c) (λ v u. has_none (flat_map vars_in ts) v k (has_flat vars_in ts c v m u)) in
          record { item = record { normal = in_normal (table_of ds) ts g.normal c m; known = all_has (is_known (length ds)) ts c g.known m; whole = λ x. d }; single = all_has is_single ts c g.single m; fast = fast_closed c d }

  all_known : (ts : List Ty) → ((c : Ty) → Has ts c → Risen ds c) → list_all (is_known (length ds)) ts ≡ true
  all_known [] f = refl
  all_known (t ∷ ts) f = both_true (is_known (length ds) t) (list_all (is_known (length ds)) ts) (f t (inl refl)).item.known (all_known ts (λ c i. f c (inr i)))

  pub rising_known : (t : Ty) (vs : List Ty) → IsItem ds t → rising (held s r) t ≡ vs → list_all (is_known (length ds)) vs ≡ true
  rising_known t vs i e = subst (λ z. list_all (is_known (length ds)) z ≡ true) e (all_known (rising (held s r) t) (rising_risen t i))
