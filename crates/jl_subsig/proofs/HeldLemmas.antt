-- What is kept of the bounds of fixed variables.
use Rattle.std.proofs.Common.{◌≡◌, ◌∙◌, sym, ap, subst, refl, ℕ, zero, suc, ◌-◌, ◌/◌, ◌%◌, ◌<◌, arith, Bool, true, false, cond, nat_lt, mod-lt, List, [], ◌∷◌, map, length, get_or, ◌⊎◌, inl, inr}
use Rattle.jl_model.specs.declared.ty.Ty.{Ty}
use Rattle.jl_model.specs.declared.ty.Ty.TheOpen.{Var}
use Rattle.jl_model.specs.declared.ty.Ty.TheViews.{out-Ty, outs-Any}
use Rattle.jl_model.specs.declared.ty.Ty.TheViews as V
use Rattle.jl_model.specs.declared.ty.Ty.TheVariants as W
use Rattle.jl_model.specs.declared.ty.Bound.{Bound}
use Rattle.jl_model.specs.declared.ty.Decl.{Decl}
use Rattle.jl_model.specs.Ancestors.{table_of}
use Rattle.jl_model.specs.Kinds.{Kind, unused, once, diagonal, bound}
use Rattle.jl_model.specs.Rows.{alts, free, width, low, high, kind, root, vars_in}
use Rattle.jl_model.specs.Signature.{by_kind, is_diagonal}
use Rattle.jl_model.specs.Subtype.{Table, at}
use Rattle.jl_model.specs.Normal.{no_union}
use Rattle.jl_model.proofs.FormLemmas.{alts-any, vars-union}
use Rattle.jl_model.proofs.NormalLemmas.{single_alts}
use Rattle.jl_sig.specs.declared.row.SigRow.{SigRow}
use Rattle.jl_sig.specs.declared.sig.Sig.{Sig}
use Rattle.jl_sig.specs.SigParts.{kept_of, bounded_of, diagonals_of, alternatives_of}
use Rattle.jl_search.proofs.KindLemmas.{is_diag, less_or}
use Rattle.jl_subsig.specs.Side.{held, tops, IsHighForm, IsAlternative, IsTold, AreHeld}
use Rattle.jl_subsume.proofs.ScopeLemmas.{is_less}
use Rattle.jl_search.proofs.HasLemmas.{Has}
use Rattle.jl_subsig.proofs.HighLemmas.{high_any, high_normal, high_self, form_fast}

pub true_or : (b : Bool) → (b ≡ true) ⊎ (b ≡ false)
true_or true = inl refl
true_or false = inr refl

pub other_kind : (k : Kind) (t u : Ty) → is_diagonal k ≡ false → by_kind k t u ≡ u
other_kind unused t u h = refl
other_kind once t u h = refl
other_kind diagonal t u h = let e : true ≡ false = h in cc
other_kind bound t u h = refl

-- the alternatives of a bound in the list
get_alts : (bs : List Bound) (j : ℕ) → j < length bs → get_or (map (λ (b : Bound). alts b.high) bs) j [] ≡ alts (get_or bs j free).high
get_alts [] j h = absurd (omega arith)
get_alts (b ∷ bs) zero h = refl
get_alts (b ∷ bs) (suc j) h = get_alts bs j (omega arith)

no_bound : (bs : List Bound) (j : ℕ) → length bs ≡ 0 → get_or bs j free ≡ free
no_bound [] j h = refl
no_bound (b ∷ bs) j h = absurd (omega arith)

no_alts : (xs : List (List Ty)) (j : ℕ) → length xs ≡ 0 → get_or xs j [] ≡ []
no_alts [] j h = refl
no_alts (x ∷ xs) j h = absurd (omega arith)

one_any : (us : List Ty) (i : ℕ) → us ≡ W.Any ∷ [] → get_or us i W.Any ≡ W.Any
one_any us zero e = ap (λ z. get_or z zero W.Any) e
one_any us (suc i) e = ap (λ z. get_or z (suc i) W.Any) e

-- the upper bounds
module _ (s : Sig) (r : SigRow) (told : IsTold s r) where
  abbrev m : ℕ
  m = width (kept_of s)

  pub atom_high : (k : ℕ) → nat_lt k m ≡ false → (held s r).high k ≡ at (alts (high (kept_of s) (root (kept_of s) k))) (k / m - 1)
  atom_high k e = rw e refl

  pub no_high : (k : ℕ) → nat_lt k m ≡ false → m ≡ 0 → (held s r).high k ≡ W.Any
  no_high k e z = atom_high k e ∙ one_any (alts (high (kept_of s) (root (kept_of s) k))) (k / m - 1) (ap (λ (b : Bound). alts b.high) (no_bound (kept_of s).vars (root (kept_of s) k) z) ∙ alts-any)

  pub atom_in : (k : ℕ) → 0 < m → k % m < m
  atom_in k p = mod-lt k p

  pub own_high : (k : ℕ) → k < m → (held s r).high k ≡ by_kind (kind (kept_of s) k) (at r.chosen k) (high (kept_of s) k)
  own_high k l = let e = is_less k m l in rw e refl

  -- as they are kept and in normal form
  module _ (bs : List Bound) (long : length bs ≡ m) where
    past_form : (k : ℕ) → nat_lt k m ≡ false
        → cond (nat_lt k m) (cond (get_or (diagonals_of s) k false) (at r.chosen k) (get_or bs k free).high) (at (get_or (alternatives_of s) (k % m) []) (k / m - 1)) ≡ at (get_or (alternatives_of s) (k % m) []) (k / m - 1)
    past_form k e = rw e refl

    past_at : (k : ℕ) → nat_lt k m ≡ false → tops bs s r k ≡ at (get_or (alternatives_of s) (k % m) []) (k / m - 1)
    past_at k e = ap (λ z. cond (nat_lt k z) (cond (get_or (diagonals_of s) k false) (at r.chosen k) (get_or bs k free).high) (at (get_or (alternatives_of s) (k % z) []) (k / z - 1))) long ∙ past_form k e

    pub top_past : (k : ℕ) → nat_lt k m ≡ false → tops bs s r k ≡ (held s r).high k
    top_past k e = elim (less_or 0 m) [
      | inl p ↦
          let b : get_or (alternatives_of s) (k % m) [] ≡ alts (high (kept_of s) (k % m)) = ap (λ z. get_or z (k % m) []) told.alternatives ∙ get_alts (kept_of s).vars (k % m) (atom_in k p) in
          past_at k e ∙ ap (λ z. at z (k / m - 1)) b ∙ sym (atom_high k e)
      | inr f ↦
          let z : m ≡ 0 = grind (arith, f) in
          let b : get_or (alternatives_of s) (k % m) [] ≡ [] = no_alts (alternatives_of s) (k % m) (told.long.alternatives ∙ z) in
          past_at k e ∙ ap (λ z. at z (k / m - 1)) b ∙ sym (no_high k e z)
    ]

    pub top_own : (k : ℕ) → k < m → tops bs s r k ≡ cond (is_diagonal (kind (kept_of s) k)) (at r.chosen k) (get_or bs k free).high
    top_own k l =
        let e : nat_lt k (length bs) ≡ true = ap (nat_lt k) long ∙ is_less k m l in
        own_form e ∙ ap (λ z. cond z (at r.chosen k) (get_or bs k free).high) (told.diagonals k)
      where
        own_form : nat_lt k (length bs) ≡ true → tops bs s r k ≡ cond (get_or (diagonals_of s) k false) (at r.chosen k) (get_or bs k free).high
        own_form e = rw e refl

  pub top_kept : (k : ℕ) → tops (kept_of s).vars s r k ≡ (held s r).high k
  top_kept k = elim (less_or k m) [
    | inr e ↦ top_past (kept_of s).vars refl k e
    | inl l ↦ elim (true_or (is_diagonal (kind (kept_of s) k))) [
      | inl d ↦ top_own (kept_of s).vars refl k l ∙ ap (λ z. cond z (at r.chosen k) (high (kept_of s) k)) d ∙ sym (own_high k l ∙ ap (λ z. by_kind z (at r.chosen k) (high (kept_of s) k)) (is_diag (kind (kept_of s) k) d))
      | inr d ↦ top_own (kept_of s).vars refl k l ∙ ap (λ z. cond z (at r.chosen k) (high (kept_of s) k)) d ∙ sym (own_high k l ∙ other_kind (kind (kept_of s) k) (at r.chosen k) (high (kept_of s) k) d)
    ]
  ]

module _ (ds : List Decl) (s : Sig) (r : SigRow) (h : AreHeld ds s r) where
  abbrev n : Table
  n = table_of ds

  pub low_at : (k : ℕ) → k < width (kept_of s) → (held s r).low k ≡ low (kept_of s) k
  low_at k l = let e = is_less k (width (kept_of s)) l in rw e refl

  pub low_past : (k : ℕ) → nat_lt k (width (kept_of s)) ≡ false → (held s r).low k ≡ V.Union []
  low_past k e = rw e refl

  pub low_none : (k : ℕ) → vars_in ((held s r).low k) ≡ []
  low_none k = elim (less_or k (width (kept_of s))) [
    | inl l ↦ ap vars_in (low_at k l) ∙ (h.lows k l).closed
    | inr e ↦ ap vars_in (low_past k e) ∙ vars-union []
  ]

  pub past_alternative : (k : ℕ) → nat_lt k (width (kept_of s)) ≡ false → IsAlternative ds ((held s r).high k)
  past_alternative k e = elim (less_or 0 (width (kept_of s))) [
    | inl p ↦ subst (IsAlternative ds) (sym (atom_high s r h.told k e)) (h.atom (k % width (kept_of s)) (k / width (kept_of s) - 1) (atom_in s r h.told k p))
    | inr f ↦ subst (IsAlternative ds) (sym (no_high s r h.told k e (grind (arith, f)))) (record { high = high_any ds; single = ap no_union outs-Any })
  ]

  -- a diagonal variable takes an alternative
  pub own_alternative : (v : ℕ) → v < width (kept_of s) → kind (kept_of s) v ≡ diagonal → IsAlternative ds ((held s r).high v)
  own_alternative v l e = subst (IsAlternative ds) (sym (own_high s r h.told v l ∙ ap (λ z. by_kind z (at r.chosen v) (high (kept_of s) v)) e)) (h.chosen v l e)

  -- each alternative of an upper bound is one
  one_of : (t c : Ty) → IsAlternative ds t → Has (alts t) c → IsAlternative ds c
  one_of t c a i = elim (subst (λ z. Has z c) (single_alts (table_of ds) t (high_normal ds t a.high) a.single) i) [ inl e ↦ subst (IsAlternative ds) e a | inr b ↦ absurd b ]

  get_in : (us : List Ty) (c : Ty) → Has us c → (i : ℕ) × (at us i ≡ c)
  get_in [] c i = absurd i
  get_in (u ∷ us) c (inl e) = (0, e)
  get_in (u ∷ us) c (inr i) = let q = get_in us c i in (suc q.0, q.1)

  pub alternative_in : (k : ℕ) (c : Ty) → Has (alts ((held s r).high k)) c → IsAlternative ds c
  alternative_in k c i = elim (less_or k (width (kept_of s))) [
    | inr e ↦ one_of ((held s r).high k) c (past_alternative k e) i
    | inl l ↦ elim (true_or (is_diagonal (kind (kept_of s) k))) [
      | inl d ↦ one_of ((held s r).high k) c (own_alternative k l (is_diag (kind (kept_of s) k) d)) i
      | inr d ↦
          let e : (held s r).high k ≡ high (kept_of s) k = own_high s r h.told k l ∙ other_kind (kind (kept_of s) k) (at r.chosen k) (high (kept_of s) k) d in
          let j = get_in (alts (high (kept_of s) k)) c (subst (λ z. Has (alts z) c) e i) in
          subst (IsAlternative ds) j.1 (h.atom k j.0 l)
    ]
  ]

  pub top_form : (k : ℕ) → IsHighForm ds ((held s r).high k) (tops (bounded_of s).vars s r k)
  top_form k = elim (less_or k (width (kept_of s))) [
    | inr e ↦ subst (IsHighForm ds ((held s r).high k)) (sym (top_past s r h.told (bounded_of s).vars h.wide k e)) (high_self ds ((held s r).high k) (past_alternative k e).high)
    | inl l ↦ elim (true_or (is_diagonal (kind (kept_of s) k))) [
      | inl d ↦
          let a : tops (bounded_of s).vars s r k ≡ at r.chosen k = top_own s r h.told (bounded_of s).vars h.wide k l ∙ ap (λ z. cond z (at r.chosen k) (high (bounded_of s) k)) d in
          let b : (held s r).high k ≡ at r.chosen k = own_high s r h.told k l ∙ ap (λ z. by_kind z (at r.chosen k) (high (kept_of s) k)) (is_diag (kind (kept_of s) k) d) in
          subst (IsHighForm ds ((held s r).high k)) (sym a) (subst (λ z. IsHighForm ds z (at r.chosen k)) (sym b) (high_self ds (at r.chosen k) (h.chosen k l (is_diag (kind (kept_of s) k) d)).high))
      | inr d ↦
          let a : tops (bounded_of s).vars s r k ≡ high (bounded_of s) k = top_own s r h.told (bounded_of s).vars h.wide k l ∙ ap (λ z. cond z (at r.chosen k) (high (bounded_of s) k)) d in
          let b : (held s r).high k ≡ high (kept_of s) k = own_high s r h.told k l ∙ other_kind (kind (kept_of s) k) (at r.chosen k) (high (kept_of s) k) d in
          subst (IsHighForm ds ((held s r).high k)) (sym a) (subst (λ z. IsHighForm ds z (high (bounded_of s) k)) (sym b) (h.highs k l))
    ]
  ]

  -- an upper bound is no variable
  pub high_still : (k v : ℕ) → out-Ty ((held s r).high k) ≡ Var v → ⊥
  high_still k v e = form_fast ds ((held s r).high k) (tops (bounded_of s).vars s r k) (top_form k) v e
