-- A variable has no place where it stands in no type.
use Rattle.std.proofs.Common.{◌≡◌, ◌∙◌, sym, ap, refl, ℕ, zero, suc, ◌+◌, ◌<◌, ◌↔◌, arith, Bool, true, false, cond, ◌||◌, not, nat_eq, List, [], ◌∷◌, map, length, IsTrue}
use Rattle.std.specs.List.{list_any}
use Rattle.jl_model.specs.declared.ty.Ty.{Ty}
use Rattle.jl_model.specs.declared.ty.Bound.{Bound}
use Rattle.jl_model.specs.declared.ty.Written.{Written}
use Rattle.jl_model.specs.AllRows.{each_var}
use Rattle.jl_model.specs.Kinds.{Places, places, plus_all, kind_of, unused, once, diagonal, bound}
use Rattle.jl_model.specs.Rows.{kind}
use Rattle.jl_model.specs.Refusals.{bound_types}
use Rattle.jl_model.specs.SigRefusals.{UnusedVariable}
use Rattle.jl_model.specs.Usable.{stands_in}
use Rattle.jl_sig.specs.Flags.{with_flag}
use Rattle.jl_sig.proofs.FlagLemmas.{with_both}
use Rattle.jl_sig.proofs.StandLemmas.{all_hidden, all_had, unused_places, kind_parts, kind_stands}

no_place : (p : Places) → kind_of p ≡ unused → (p.covariant ≡ 0) × (p.invariant ≡ 0)
no_place p = by (nat_eq p.invariant 0) (nat_eq p.covariant 0) (nat_eq p.covariant 1) refl refl
  where
    by : (i c d : Bool) → nat_eq p.invariant 0 ≡ i → nat_eq p.covariant 0 ≡ c → cond i (cond c unused (cond d once diagonal)) bound ≡ unused → (p.covariant ≡ 0) × (p.invariant ≡ 0)
    by true true d e f h = (grind (arith, f), grind (arith, e))
    by true false true e f h = absurd (let g : once ≡ unused = h in cc)
    by true false false e f h = absurd (let g : diagonal ≡ unused = h in cc)
    by false c d e f h = absurd (let g : bound ≡ unused = h in cc)

module _ (w : Written) where
  abbrev stands : ℕ → Bool
  stands v = list_any (stands_in v) w.parts || list_any (stands_in v) (bound_types w.vars)

  unused_is : (v : ℕ) → stands v ≡ false → kind w v ≡ unused
  unused_is v h =
      let a = neither (list_any (stands_in v) w.parts) (list_any (stands_in v) (bound_types w.vars)) h in
      let n = all_hidden v w.parts a.0 in
      kind_parts w v a.1 ∙ unused_places (plus_all (map (places v) w.parts)) n.0 n.1
    where
      neither : (x y : Bool) → (x || y) ≡ false → (x ≡ false) × (y ≡ false)
      neither true y e = absurd (let f : true ≡ false = e in cc)
      neither false y e = (refl, e)

  used_is : (v : ℕ) → kind w v ≡ unused → stands v ≡ false
  used_is v h = by (list_any (stands_in v) w.parts) (list_any (stands_in v) (bound_types w.vars)) refl refl
    where
      by : (x y : Bool) → list_any (stands_in v) w.parts ≡ x → list_any (stands_in v) (bound_types w.vars) ≡ y → (x || y) ≡ false
      by x true d e = absurd (let f : bound ≡ unused = sym (kind_stands w v e) ∙ h in cc)
      by false false d e = refl
      by true false d e =
          let n = no_place (plus_all (map (places v) w.parts)) (sym (kind_parts w v e) ∙ h) in
          let q = all_had v w.parts d in
          absurd (omega (arith, q, n.0, n.1))

  -- the flags of all variables
  flags_from : (i : ℕ) (bs : List Bound) → with_flag stands true i (map (λ (b : Bound). false) bs) ≡ each_var stands i bs
  flags_from i [] = refl
  flags_from i (b ∷ bs) = ap (λ z. z ∷ with_flag stands true (i + 1) (map (λ (b : Bound). false) bs)) (same (stands i)) ∙ ap (λ z. stands i ∷ z) (flags_from (i + 1) bs)
    where
      same : (b : Bool) → cond b true false ≡ b
      same true = refl
      same false = refl

clear_at : (f : ℕ → Bool) (i : ℕ) (bs : List Bound) → list_any not (each_var f i bs) ≡ true → (v : ℕ) × ((v < length bs) × (f (i + v) ≡ false))
clear_at f i [] h = absurd (let g : false ≡ true = h in cc)
clear_at f i (b ∷ bs) h = by (f i) refl h (clear_at f (i + 1) bs)
  where
    by : (c : Bool) → f i ≡ c → (not c || list_any not (each_var f (i + 1) bs)) ≡ true → (list_any not (each_var f (i + 1) bs) ≡ true → (v : ℕ) × ((v < length bs) × (f (i + 1 + v) ≡ false)))
        → (v : ℕ) × ((v < suc (length bs)) × (f (i + v) ≡ false))
    by false e g r = let z : i + 0 ≡ i = omega arith in (zero, (omega arith, ap f z ∙ e))
    by true e g r =
        let w = r g in
        let l = w.1.0 in
        let z : i + suc w.0 ≡ i + 1 + w.0 = omega arith in
        (suc w.0, (omega (arith, l), ap f z ∙ w.1.1))

clear_of : (f : ℕ → Bool) (i : ℕ) (bs : List Bound) (v : ℕ) → v < length bs → f (i + v) ≡ false → list_any not (each_var f i bs) ≡ true
clear_of f i [] v l h = absurd (omega (arith, l))
clear_of f i (b ∷ bs) zero l h = let z : i ≡ i + 0 = omega arith in ap (λ c. not c || list_any not (each_var f (i + 1) bs)) (ap f z ∙ h)
clear_of f i (b ∷ bs) (suc v) l h = let z : i + 1 + v ≡ i + suc v = omega arith in ap (λ c. not (f i) || c) (clear_of f (i + 1) bs v (omega (arith, l)) (ap f z ∙ h)) ∙ any (f i)
  where
    any : (c : Bool) → (not c || true) ≡ true
    any true = refl
    any false = refl

pub unused_told : (w : Written) (ps : List Ty) (us vs : List Bound) (fs gs is hs : List Bool) (b : Bool) → ps ≡ w.parts → us ≡ w.vars → vs ≡ w.vars → fs ≡ map (λ (b : Bound). false) vs → gs ≡ with_flag (λ v. list_any (stands_in v) ps) true 0 fs
    → is ≡ with_flag (λ v. list_any (stands_in v) (bound_types us)) true 0 gs → hs ≡ is → b ≡ list_any not hs → IsTrue b ↔ UnusedVariable w
unused_told w ps us vs fs gs is hs b p u v f g i h e = (
  λ t.
      let r = clear_at (stands w) 0 w.vars (sym whole ∙ t) in
      let z : 0 + r.0 ≡ r.0 = omega arith in
      (r.0, r.1.0, unused_is w r.0 (ap (stands w) (sym z) ∙ r.1.1)),
  λ u.
      let z : 0 + u.0 ≡ u.0 = omega arith in
      whole ∙ clear_of (stands w) 0 w.vars u.0 u.1 (ap (stands w) z ∙ used_is w u.0 u.2),
)
  where
    whole : b ≡ list_any not (each_var (stands w) 0 w.vars)
    whole =
        e ∙ ap (list_any not)
        (h ∙ i ∙ ap (λ z. with_flag (λ v. list_any (stands_in v) (bound_types z)) true 0 gs) u
        ∙ ap (with_flag (λ v. list_any (stands_in v) (bound_types w.vars)) true 0)
        (g ∙ ap (λ z. with_flag (λ v. list_any (stands_in v) z) true 0 fs) p ∙ ap (with_flag (λ v. list_any (stands_in v) w.parts) true 0) (f ∙ ap (map (λ (b : Bound). false)) v))
        ∙ with_both (λ v. list_any (stands_in v) w.parts) (λ v. list_any (stands_in v) (bound_types w.vars)) true 0 (map (λ (b : Bound). false) w.vars)
        ∙ flags_from w 0 w.vars)
