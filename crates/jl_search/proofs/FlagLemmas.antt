-- The flags tell which variables are those of a row.
use Rattle.std.proofs.Common.{◌≡◌, ◌∙◌, sym, ap, ap₂, subst, refl, ℕ, zero, suc, ◌+◌, ◌*◌, ◌<◌, ◌≤◌, ◌%◌, ◌↔◌, arith, add-one, Bool, true, false, ◌&&◌, ◌||◌, not, List, [], ◌∷◌, drop, length, get_or, slice_set, ◌⊎◌, inl, inr}
use Rattle.std.proofs.lemmas.List.{get_or-drop, drop-set}
use Rattle.std.proofs.lemmas.Nat.{mod-mul-add}
use Rattle.std.specs.List.{list_all, Contains}
use Rattle.jl_model.specs.declared.ty.Ty.{Ty}
use Rattle.jl_model.specs.declared.ty.Bound.{Bound}
use Rattle.jl_model.specs.declared.ty.Written.{Written}
use Rattle.jl_model.specs.Rows.{width, free, high, vars_in, Stands, Occurs, standing, bounding}
use Rattle.jl_model.proofs.FormLemmas.{vars-any}
use Rattle.jl_types.proofs.TableLemmas.{get-past}
use Rattle.jl_search.specs.Absent.{lacks}
use Rattle.jl_search.specs.Occurring.{in_flagged, is_flagged, flags, IsInOrder}
use Rattle.jl_search.proofs.HasLemmas.{Has, has_of, of_has, has_none}
use Rattle.jl_search.proofs.AbstractLemmas.{same_or}
use Rattle.jl_search.proofs.ValueLemmas.{below_or}
use Rattle.jl_search.proofs.AbsentLemmas.{lacks_none, lacks_some, absent, present}

abbrev flag : List Bool → ℕ → Bool
flag fs v = get_or fs v false

abbrev top_at : List Bound → ℕ → Ty
top_at bs v = (get_or bs v free).high

or_case : (a b : Bool) → (a || b) ≡ true → (a ≡ true) ⊎ (b ≡ true)
or_case true b h = inl refl
or_case false b h = inr h

or_left : (a b : Bool) → a ≡ true → (a || b) ≡ true
or_left true b h = refl
or_left false b h = let c : false ≡ true = h in cc

or_right : (a b : Bool) → b ≡ true → (a || b) ≡ true
or_right true b h = refl
or_right false b h = h

and_case : (a b : Bool) → (a && not b) ≡ true → (a ≡ true) × (b ≡ false)
and_case true true h = let c : false ≡ true = h in cc
and_case true false h = (refl, refl)
and_case false b h = let c : false ≡ true = h in cc

and_both : (a b : Bool) → a ≡ true → b ≡ false → (a && not b) ≡ true
and_both a b h k = rw (h, k) refl

not_false : (a : Bool) → not a ≡ true → a ≡ false
not_false true h = let c : false ≡ true = h in cc
not_false false h = refl

module _ (m : ℕ) where
  -- the variable in whose bound it stands
  record Holder (v : ℕ) (bs : List Bound) (fs : List Bool) : Type 0 where
    index : ℕ
    small : index < length bs
    flagged : flag fs index ≡ true
    stands : lacks m v (top_at bs index) ≡ false

  holder : (v : ℕ) (bs : List Bound) (fs : List Bool) → in_flagged m v bs fs ≡ true → Holder v bs fs
  holder v [] fs h = let c : false ≡ true = h in cc
  holder v (b ∷ bs) [] h = let c : false ≡ true = h in cc
  holder v (b ∷ bs) (f ∷ fs) h = elim (or_case (f && not (lacks m v b.high)) (in_flagged m v bs fs) h) [
    | inl k ↦ let p = and_case f (lacks m v b.high) k in record { index = 0; small = omega arith; flagged = p.0; stands = p.1 }
    | inr k ↦ let r = holder v bs fs k in record { index = suc r.index; small = omega (arith, r.small); flagged = r.flagged; stands = r.stands }
  ]

  held : (v : ℕ) (bs : List Bound) (fs : List Bool) (i : ℕ) → i < length bs → flag fs i ≡ true → lacks m v (top_at bs i) ≡ false → in_flagged m v bs fs ≡ true
  held v [] fs i l h k = absurd (omega (arith, l))
  held v (b ∷ bs) [] i l h k = let c : false ≡ true = h in cc
  held v (b ∷ bs) (f ∷ fs) zero l h k = or_left (f && not (lacks m v b.high)) (in_flagged m v bs fs) (and_both f (lacks m v b.high) h k)
  held v (b ∷ bs) (f ∷ fs) (suc i) l h k = or_right (f && not (lacks m v b.high)) (in_flagged m v bs fs) (held v bs fs i (omega (arith, l)) h k)

  pub long_flags : (row : List Ty) (v : ℕ) (bs : List Bound) → length (flags m row v bs) ≡ length bs
  long_flags row v [] = refl
  long_flags row v (b ∷ bs) = ap suc (long_flags row (v + 1) bs)

  flag_at : (row : List Ty) (v : ℕ) (bs : List Bound) (i : ℕ) → i < length bs
      → flag (flags m row v bs) i ≡ is_flagged m row (v + i) (drop (suc i) bs) (drop (suc i) (flags m row v bs))
  flag_at row v [] i l = absurd (omega (arith, l))
  flag_at row v (b ∷ bs) zero l = let e : v ≡ v + 0 = omega arith in ap (λ z. is_flagged m row z bs (flags m row (v + 1) bs)) e
  flag_at row v (b ∷ bs) (suc i) l =
      let e : v + 1 + i ≡ v + suc i = omega arith in
      flag_at row (v + 1) bs i (omega (arith, l)) ∙ ap (λ z. is_flagged m row z (drop (suc i) bs) (drop (suc i) (flags m row (v + 1) bs))) e

drop_one : {A : Type 0} (xs : List A) (i : ℕ) (d : A) → i < length xs → drop i xs ≡ get_or xs i d ∷ drop (i + 1) xs
drop_one [] i d l = absurd (omega (arith, l))
drop_one (x ∷ xs) zero d l = refl
drop_one (x ∷ xs) (suc i) d l = rw add-one (rw add-one at (drop_one xs i d (omega (arith, l))))

-- one more flag
pub next_flags : (m : ℕ) (row : List Ty) (bs : List Bound) (fs : List Bool) (i v : ℕ) (f : Bool) → length fs ≡ length bs → i < length bs → v ≡ i
    → f ≡ is_flagged m row i (drop (i + 1) bs) (drop (i + 1) fs) → drop (i + 1) fs ≡ flags m row (i + 1) (drop (i + 1) bs) → drop v (slice_set fs i f) ≡ flags m row v (drop v bs)
next_flags m row bs fs i v f long l e h k =
    let b = drop_one bs i free l in
    let first : drop i (slice_set fs i f) ≡ f ∷ drop (i + 1) fs = drop-set fs i f (omega (arith, l, long)) in
    let rest : f ∷ drop (i + 1) fs ≡ flags m row i (get_or bs i free ∷ drop (i + 1) bs) = ap₂ (λ y ys. y ∷ ys) (h ∙ ap (is_flagged m row i (drop (i + 1) bs)) k) k in
    ap (λ z. drop z (slice_set fs i f)) e ∙ first ∙ rest ∙ ap (flags m row i) (sym b) ∙ ap (λ z. flags m row z (drop z bs)) (sym e)

small_mod : (k m : ℕ) → k < m → k % m ≡ k
small_mod k m l =
    let e : 0 * m + k ≡ k = grind arith in
    sym (ap (λ z. z % m) e) ∙ mod-mul-add 0 m k l

gap : (v w : ℕ) → v < w → (d : ℕ) × (suc v + d ≡ w)
gap v zero l = absurd (omega (arith, l))
gap zero (suc w) l = (w, omega arith)
gap (suc v) (suc w) l = let r = gap v w (omega (arith, l)) in (r.0, omega (arith, r.1))

small_drop : {A : Type 0} (xs : List A) (n d : ℕ) → n + d < length xs → d < length (drop n xs)
small_drop [] n d l = absurd (omega (arith, l))
small_drop (x ∷ xs) zero d l = omega (arith, l)
small_drop (x ∷ xs) (suc n) d l = small_drop xs n d (omega (arith, l))

drop_small : {A : Type 0} (xs : List A) (n d : ℕ) → d < length (drop n xs) → n + d < length xs
drop_small [] zero d l = absurd (omega (arith, l))
drop_small [] (suc n) d l = absurd (omega (arith, l))
drop_small (x ∷ xs) zero d l = omega (arith, l)
drop_small (x ∷ xs) (suc n) d l = let k = drop_small xs n d l in omega (arith, k)

module _ (s : Written) (ordered : IsInOrder s) (row : List Ty) where
  abbrev F : List Bool
  F = flags (width s) row 0 s.vars

  long : length F ≡ width s
  long = long_flags (width s) row 0 s.vars

  at_flag : (v : ℕ) → v < width s → flag F v ≡ is_flagged (width s) row v (drop (suc v) s.vars) (drop (suc v) F)
  at_flag v l = let e : 0 + v ≡ v = omega arith in flag_at (width s) row 0 s.vars v l ∙ ap (λ z. is_flagged (width s) row z (drop (suc v) s.vars) (drop (suc v) F)) e

  -- a variable past the last has no bound
  in_high : (v w : ℕ) → Contains (vars_in (high s w)) v → w < width s
  in_high v w c = elim (below_or w (width s)) [
    | inl l ↦ l
    | inr l ↦ absurd (has_none (vars_in (high s w)) v (ap (λ (b : Bound). vars_in b.high) (get-past s.vars w free l) ∙ vars-any) (has_of (vars_in (high s w)) v c))
  ]

  abbrev stands : ℕ → Bool
  stands v = not (list_all (lacks (width s) v) row)

  abbrev later : ℕ → Bool
  later v = in_flagged (width s) v (drop (suc v) s.vars) (drop (suc v) F)

  complete : (v : ℕ) (xs : List Ty) → Occurs s v xs → xs ≡ row → v < width s → flag F v ≡ true
  complete v xs (standing w ys o) e l =
      let f : list_all (lacks (width s) v) row ≡ false = elim (same_or (list_all (lacks (width s) v) row)) [
        | inl t ↦ absurd (absent s v (width s) row refl t (subst (λ z. Stands s v z) e o))
        | inr t ↦ t
      ] in
      at_flag v l ∙ or_left (stands v) (later v) (ap not f)
  complete v xs (bounding u w ys o c) e l =
      let j : w < width s = in_high v w c in
      let d = gap v w (ordered w v j c) in
      let h : flag F w ≡ true = complete w xs o e j in
      let p : flag (drop (suc v) F) d.0 ≡ true = get_or-drop (suc v) F d.0 false ∙ ap (flag F) d.1 ∙ h in
      let q : top_at (drop (suc v) s.vars) d.0 ≡ high s w = ap (λ (b : Bound). b.high) (get_or-drop (suc v) s.vars d.0 free ∙ ap (λ z. get_or s.vars z free) d.1) in
      let i : d.0 < length (drop (suc v) s.vars) = small_drop s.vars (suc v) d.0 (subst (λ z. z < width s) (sym d.1) j) in
      let t : lacks (width s) v (high s w) ≡ false = elim (same_or (lacks (width s) v (high s w))) [
        | inl t ↦ absurd (lacks_none (width s) v (high s w) t v (has_of (vars_in (high s w)) v c) (small_mod v (width s) l))
        | inr t ↦ t
      ] in
      at_flag v l ∙ or_right (stands v) (later v) (held (width s) v (drop (suc v) s.vars) (drop (suc v) F) d.0 i p (ap (lacks (width s) v) q ∙ t))

  sound : (m v : ℕ) → width s ≤ v + m → v < width s → flag F v ≡ true → Occurs s v row
  sound zero v i l h = absurd (omega (arith, i, l))
  sound (suc m) v i l h = elim (or_case (stands v) (later v) (sym (at_flag v l) ∙ h)) [
    | inl k ↦ standing v row (present s v (width s) row refl (not_false (list_all (lacks (width s) v) row) k))
    | inr k ↦
        let r = holder (width s) v (drop (suc v) s.vars) (drop (suc v) F) k in
        let w : ℕ = suc v + r.index in
        let j : w < width s = drop_small s.vars (suc v) r.index r.small in
        let p : flag F w ≡ true = sym (get_or-drop (suc v) F r.index false) ∙ r.flagged in
        let q : high s w ≡ top_at (drop (suc v) s.vars) r.index = ap (λ (b : Bound). b.high) (sym (get_or-drop (suc v) s.vars r.index free)) in
        let t = lacks_some (width s) v (high s w) (ap (lacks (width s) v) q ∙ r.stands) in
        let a : t.0 < w = ordered w t.0 j (of_has (vars_in (high s w)) t.0 t.1) in
        let b : t.0 ≡ v = sym (small_mod t.0 (width s) (omega (arith, a, j))) ∙ t.2 in
        bounding v w row (sound m w (omega (arith, i)) j p) (of_has (vars_in (high s w)) v (subst (λ z. Has (vars_in (high s w)) z) b t.1))
  ]

  pub told : (v : ℕ) → v < width s → (flag F v ≡ true) ↔ Occurs s v row
  told v l = (λ h. sound (width s) v (omega arith) l h, λ o. complete v row o refl l)
