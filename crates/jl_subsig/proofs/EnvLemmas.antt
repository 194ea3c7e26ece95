-- The order over the variables of a row, held fixed, whose bounds are in order.
use Rattle.std.proofs.Common.{◌≡◌, ◌∙◌, sym, ap, subst, refl, ℕ, ◌<◌, arith, Bool, true, false, nat_lt, List, [], ◌∷◌, map, get_or, ◌⊎◌, inl, inr}
use Rattle.std.specs.List.{flat_map}
use Rattle.jl_model.specs.declared.ty.Ty.{Ty}
use Rattle.jl_model.specs.declared.ty.Ty.TheViews as V
use Rattle.jl_model.specs.declared.ty.Ty.TheVariants as W
use Rattle.jl_model.specs.declared.ty.Written.{Written}
use Rattle.jl_model.specs.Kinds.{diagonal}
use Rattle.jl_model.specs.Rows.{alts, width, low, high, kind, atom, root, vars_in}
use Rattle.jl_model.specs.Signature.{Row, IsRow, by_kind, top, fixed}
use Rattle.jl_model.specs.Subtype.{Table, Fixed, opaque, Below}
use Rattle.jl_model.proofs.FormLemmas.{is_any, is_tuple, is_nominal, is_var, vars-any, vars-tuple, vars-nominal, vars-var}
use Rattle.jl_model.proofs.BelowLemmas.{below_any}
use Rattle.jl_model.proofs.AncestorLemmas.{Lawful}
use Rattle.jl_subsume.specs.Scoped.{IsScoped, IsOrdered}
use Rattle.jl_search.proofs.HasLemmas.{Has, has_split, has_of, of_has, has_none}
use Rattle.jl_search.proofs.PartLemmas.{Plain, plain_any, plain_tuple, plain_nominal, plain_var, AllPlain, all_end, all_more, plain_single}
use Rattle.jl_subsume.proofs.ScopeLemmas.{IsSlot, slot_diagonal, slot_atom, Never, Small, bound_plain, root_own, root_atom, alts_within, high_small, low_at, high_at, high_atom, top_small, top_diagonal, top_other, which, has_or}
use Rattle.jl_subsume.proofs.PutBelowLemmas.{none_below}
use Rattle.jl_subsig.proofs.OrderLemmas.{trans, Ordered}

module _ (n : Table) (law : Lawful n) (a : Written) (scope : IsScoped a) (ordered : IsOrdered n a) (l : Row) (row : IsRow n a l) where
  abbrev G : Fixed
  G = fixed a l

  abbrev names : List ℕ
  names = map (root a) (flat_map vars_in l.parts)

  -- the order over the variables of the row
  data Ok : ℕ → Type 0 where
    ok_own : (k : ℕ) → k < width a → Ok k
    ok_slot : (k : ℕ) → IsSlot a k → Ok k

  root_small : (k : ℕ) → IsSlot a k → root a k < width a
  root_small k (slot_diagonal v i e) = subst (λ z. z < width a) (sym (root_own a v i)) i
  root_small k (slot_atom v i j e h) = subst (λ z. z < width a) (sym (root_atom a v i j)) j

  ok_root_root : (k : ℕ) → Ok k → root a (root a k) ≡ root a k
  ok_root_root k (ok_own v i) = ap (root a) (root_own a v i)
  ok_root_root k (ok_slot v d) = root_own a (root a v) (root_small v d)

  slot_ok : (k : ℕ) → IsSlot a k → (j : ℕ) → Has (vars_in (G.high k)) j → j < width a
  slot_ok k (slot_diagonal v l2 e) j h = top_small n a l scope row v j (subst (λ z. Has (vars_in z) j) (high_at n a l v l2) h)
  slot_ok k (slot_atom v i l2 e m) j h = high_small a scope v j (alts_within (high a v) (get_or (alts (high a v)) i W.Any) m j (subst (λ z. Has (vars_in z) j) (high_atom n a l v i l2) h))

  ok_ok : (k : ℕ) → Ok k → (j : ℕ) → Has (vars_in (G.high k)) j → Ok j
  ok_ok k (ok_own v i) j h = ok_own j (top_small n a l scope row v j (subst (λ z. Has (vars_in z) j) (high_at n a l v i) h))
  ok_ok k (ok_slot v d) j h = ok_own j (slot_ok v d j h)

  own_root : (k : ℕ) → k < width a → (c : Ty) → Has (alts (G.high k)) c → Has (alts (G.high (root a k))) c
  own_root k i c h = subst (λ z. Has (alts (G.high z)) c) (sym (root_own a k i)) h

  slot_root : (k : ℕ) → IsSlot a k → (c : Ty) → Has (alts (G.high k)) c → Has (alts (G.high (root a k))) c
  slot_root k (slot_diagonal v i e) c h = own_root v i c h
  slot_root k (slot_atom v i j e m) c h =
      let u : Ty = get_or (alts (high a v)) i W.Any in
      let single : alts u ≡ u ∷ [] = plain_single Never (Small a scope) u (bound_plain a scope v u m) in
      let h2 : Has (u ∷ []) c = subst (λ z. Has z c) (ap alts (high_atom n a l v i j) ∙ single) h in
      let is_u : u ≡ c = elim h2 [ inl q ↦ q | inr b ↦ absurd b ] in
      let high_is : G.high (root a (atom a v i)) ≡ high a v = ap (G.high) (root_atom a v i j) ∙ high_at n a l v j ∙ ap (λ z. by_kind z (l.chosen v) (high a v)) e in
      subst (λ z. Has (alts z) c) (sym high_is) (subst (λ z. Has (alts (high a v)) z) is_u m)

  ok_high : (k : ℕ) → Ok k → (c : Ty) → Has (alts (G.high k)) c → Has (alts (G.high (root a k))) c
  ok_high k (ok_own v i) c h = own_root v i c h
  ok_high k (ok_slot v d) c h = slot_root v d c h

  number_or : (z : ℕ) → (z < width a) ⊎ (nat_lt z (width a) ≡ false)
  number_or z = by_test (nat_lt z (width a)) refl
    where
      by_test : (b : Bool) → nat_lt z (width a) ≡ b → (z < width a) ⊎ (nat_lt z (width a) ≡ false)
      by_test true e = inl (grind (arith, e))
      by_test false e = inr e

  low_past : (z : ℕ) → nat_lt z (width a) ≡ false → G.low z ≡ V.Union []
  low_past z e = rw e refl

  low_or : (z : ℕ) → (root a z ≡ z) ⊎ (G.low z ≡ V.Union [])
  low_or z = elim (number_or z) [ inl i ↦ inl (root_own a z i) | inr e ↦ inr (low_past z e) ]

  low_top : (z : ℕ) → z < width a → Below n opaque (low a z) (top a l z)
  low_top z i = elim (which (kind a z)) [
    | inl d ↦ subst (λ u. Below n opaque (low a z) u) (sym (top_diagonal n a l z d)) (low_chosen z d)
    | inr f ↦ subst (λ u. Below n opaque (low a z) u) (sym (top_other n a l z f)) (ordered z i)
  ]
    where
      low_chosen : (z : ℕ) → kind a z ≡ diagonal → Below n opaque (low a z) (l.chosen z)
      low_chosen z d = elim (has_or names z) [
        | inl h ↦ (row.chosen z d (of_has names z h)).1
        | inr f ↦ subst (λ u. Below n opaque (low a z) u) (sym (row.other z (λ o. f (has_of names z o)))) (below_any n (low a z))
      ]

  low_high : (z : ℕ) → Below n opaque (G.low z) (G.high z)
  low_high z = elim (number_or z) [
    | inl i ↦ subst (λ u. Below n opaque u (G.high z)) (sym (low_at n a l z i)) (subst (λ u. Below n opaque (low a z) u) (sym (high_at n a l z i)) (low_top z i))
    | inr e ↦ subst (λ u. Below n opaque u (G.high z)) (sym (low_past z e)) (none_below n (G.high z))
  ]

  orders : Ordered n law G Ok
  orders = record { root_root = ok_root_root; high_root = ok_high; low_root = low_or; low_high = low_high; high_ok = ok_ok }

  mutual
    fine_left : (t : Ty) → Plain (IsSlot a) (Small a scope) t → (k : ℕ) → Has (vars_in t) k → Ok k
    fine_left t (plain_any x e) k i = absurd (has_none (vars_in t) k (ap vars_in (is_any t e) ∙ vars-any) i)
    fine_left t (plain_tuple x us e p) k i = all_fine us p k (subst (λ z. Has z k) (ap vars_in (is_tuple t us e) ∙ vars-tuple us) i)
    fine_left t (plain_nominal x m xs e q) k i = ok_own k (q k (subst (λ z. Has z k) (ap vars_in (is_nominal t m xs e) ∙ vars-nominal m xs) i))
    fine_left t (plain_var x m e d) k i = elim (subst (λ z. Has z k) (ap vars_in (is_var t m e) ∙ vars-var m) i) [ inl j ↦ subst Ok j (ok_slot m d) | inr b ↦ absurd b ]

    all_fine : (us : List Ty) → AllPlain (IsSlot a) (Small a scope) us → (k : ℕ) → Has (flat_map vars_in us) k → Ok k
    all_fine us all_end k i = absurd i
    all_fine us (all_more x xs p r) k i = elim (has_split (vars_in x) (flat_map vars_in xs) k i) [ inl j ↦ fine_left x p k j | inr j ↦ all_fine xs r k j ]

  -- below goes on from what stands in the row, from types over its own variables, and from types without variables
  pub left_trans : (t u v : Ty) → Plain (IsSlot a) (Small a scope) t → Below n G t u → Below n G u v → Below n G t v
  left_trans t u v p b c = trans n law G Ok orders t u v (fine_left t p) b c

  pub own_trans : (t u v : Ty) → ((k : ℕ) → Has (vars_in t) k → k < width a) → Below n G t u → Below n G u v → Below n G t v
  own_trans t u v o b c = trans n law G Ok orders t u v (λ k i. ok_own k (o k i)) b c

  pub closed_trans : (t u v : Ty) → vars_in t ≡ [] → Below n G t u → Below n G u v → Below n G t v
  closed_trans t u v e b c = trans n law G Ok orders t u v (λ k i. absurd (has_none (vars_in t) k e i)) b c
