-- What the code that drops members needs.
use Rattle.std.proofs.Common.{◌≡◌, ◌∙◌, sym, ap, subst, ℕ, zero, suc, ◌+◌, ◌<◌, ◌≤◌, arith, add-one, Bool, true, false, ◌⊎◌, inl, inr, List, [], ◌∷◌, ◌++◌, length, drop, get_or, append_assoc}
use Rattle.jl_model.specs.declared.ty.Ty.{Ty}
use Rattle.jl_model.specs.declared.ty.Decl.{Decl}
use Rattle.jl_model.specs.Counts.{nodes}
use Rattle.jl_model.specs.Subtype.{Table, opaque, Below}
use Rattle.jl_types.specs.Ground.{IsGround, Lower}
use Rattle.jl_types.specs.Reduce.{Candidate, Candidates, BelowNoSmall, Thinned, thin_end, kept, dropped, Inserted, covered, small, large, Reduces, insert}
use Rattle.jl_types.proofs.GroundLemmas.{lower_to}

pub candidate-at : (ds : List Decl) (ts : List Ty) (i : ℕ) (t : Ty) → Candidates ds ts → i < length ts → t ≡ get_or ts i t → Candidate ds t
candidate-at ds [] i t h lt e = absurd (omega arith)
candidate-at ds (x ∷ xs) zero t h lt e = subst (Candidate ds) (sym e) h.0
candidate-at ds (x ∷ xs) (suc i) t h lt e = candidate-at ds xs i t h.1 (omega arith) e

pub candidate_ground : (ds : List Decl) (t : Ty) → Candidate ds t → nodes t ≤ 1024 → IsGround ds t
candidate_ground ds t h s = record { normal = h.normal s; known = h.lower.known }

pub candidate_lower : (ds : List Decl) (t u : Ty) → Candidate ds t → nodes u ≤ 1024 → Lower ds (nodes u) t
candidate_lower ds t u h s = lower_to ds 1024 (nodes u) t s h.lower

pub none_at : (n : Table) (c : Ty) (ts : List Ty) (i : ℕ) (t : Ty) → i < length ts → t ≡ get_or ts i t → (nodes t ≤ 1024 → Below n opaque c t → ⊥) → BelowNoSmall n c (drop (i + 1) ts) → BelowNoSmall n c (drop i ts)
none_at n c [] i t lt e h k = absurd (omega arith)
none_at n c (x ∷ xs) zero t lt e h k = let P : Ty → Type 0 = λ z. nodes z ≤ 1024 → Below n opaque c z → ⊥ in (subst P e h, k)
none_at n c (x ∷ xs) (suc i) t lt e h k = rw add-one at (none_at n c xs i t (omega arith) e h) (rw add-one at k)

pub drop_is : (ts : List Ty) (i : ℕ) (t : Ty) → i < length ts → t ≡ get_or ts i t → drop i ts ≡ t ∷ drop (i + 1) ts
drop_is [] i t lt e = absurd (omega arith)
drop_is (x ∷ xs) zero t lt e = ap (λ z. z ∷ xs) (sym e)
drop_is (x ∷ xs) (suc i) t lt e = rw add-one (rw add-one at (drop_is xs i t (omega arith) e))

pub thin_keep : (n : Table) (c : Ty) (ts : List Ty) (i : ℕ) (t : Ty) (old new : List Ty) → i < length ts → t ≡ get_or ts i t → (Below n opaque t c → ⊥) → new ≡ old ++ t ∷ []
    → ((us : List Ty) → Thinned n c (drop i ts) us → Thinned n c ts (old ++ us)) → (us : List Ty) → Thinned n c (drop (i + 1) ts) us → Thinned n c ts (new ++ us)
thin_keep n c ts i t old new lt e h s k us d =
    let P : List Ty → Type 0 = λ z. Thinned n c z (t ∷ us) in
    subst (Thinned n c ts) (sym (ap (λ z. z ++ us) s ∙ append_assoc old (t ∷ []) us)) (k (t ∷ us) (subst P (sym (drop_is ts i t lt e)) (kept t (drop (i + 1) ts) us h d)))

pub thin_drop : (n : Table) (c : Ty) (ts : List Ty) (i : ℕ) (t : Ty) (old : List Ty) → i < length ts → t ≡ get_or ts i t → Below n opaque t c
    → ((us : List Ty) → Thinned n c (drop i ts) us → Thinned n c ts (old ++ us)) → (us : List Ty) → Thinned n c (drop (i + 1) ts) us → Thinned n c ts (old ++ us)
thin_drop n c ts i t old lt e h k us d =
    let P : List Ty → Type 0 = λ z. Thinned n c z us in
    k us (subst P (sym (drop_is ts i t lt e)) (dropped t (drop (i + 1) ts) us h d))

thinned_candidates : (ds : List Decl) (n : Table) (c : Ty) (ts us : List Ty) → Candidates ds ts → Thinned n c ts us → Candidates ds us
thinned_candidates ds n c ts us h thin_end = tt
thinned_candidates ds n c ts us h (kept t ss vs d k) = (h.0, thinned_candidates ds n c ss vs h.1 k)
thinned_candidates ds n c ts us h (dropped t ss vs d k) = thinned_candidates ds n c ss us h.1 k

candidates_snoc : (ds : List Decl) (ts : List Ty) (c : Ty) → Candidates ds ts → Candidate ds c → Candidates ds (ts ++ c ∷ [])
candidates_snoc ds [] c h k = (k, tt)
candidates_snoc ds (t ∷ ts) c h k = (h.0, candidates_snoc ds ts c h.1 k)

pub inserted_candidates : (ds : List Decl) (n : Table) (ts : List Ty) (c : Ty) (us : List Ty) → Candidates ds ts → Candidate ds c → Inserted n ts c us → Candidates ds us
inserted_candidates ds n ts c us h k (covered b) = h
inserted_candidates ds n ts c us h k (small vs s b d) = candidates_snoc ds vs c (thinned_candidates ds n c ts vs h d) k
inserted_candidates ds n ts c us h k (large s b) = candidates_snoc ds ts c h k

pub reduce_step : (n : Table) (cs : List Ty) (i : ℕ) (c : Ty) (ts us : List Ty) → i < length cs → c ≡ get_or cs i c → Inserted n ts c us
    → ((vs : List Ty) → Reduces n (drop i cs) ts vs → Reduces n cs [] vs) → (vs : List Ty) → Reduces n (drop (i + 1) cs) us vs → Reduces n cs [] vs
reduce_step n cs i c ts us lt e h k vs r =
    let P : List Ty → Type 0 = λ z. Reduces n z ts vs in
    k vs (subst P (sym (drop_is cs i c lt e)) (insert c (drop (i + 1) cs) ts us vs h r))

pub le_or : (a b : ℕ) → (a ≤ b) ⊎ (b < a)
le_or zero b = inl (omega arith)
le_or (suc a) zero = inr (omega arith)
le_or (suc a) (suc b) = elim (le_or a b) [ inl l ↦ inl (omega arith) | inr g ↦ inr (omega arith) ]

pub not_small : (k : ℕ) (r : Bool) → (r ≡ true → k ≤ 1024) × (k ≤ 1024 → r ≡ true) → r ≡ false → 1024 < k
not_small k r h e = elim (le_or k 1024) [ inl l ↦ (let f : r ≡ true = h.1 l in cc) | inr g ↦ g ]
