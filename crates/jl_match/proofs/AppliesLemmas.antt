-- From rows to the signature.
use Rattle.std.proofs.Common.{◌≡◌, ◌∙◌, sym, subst, ℕ, zero, suc, ◌+◌, ◌<◌, arith, add-one, Bool, true, false, List, [], ◌∷◌, length, get_or, drop, inl, inr}
use Rattle.jl_model.specs.declared.ty.Ty.{Ty}
use Rattle.jl_model.specs.declared.ty.Decl.{Decl}
use Rattle.jl_model.specs.declared.ty.Written.{Written}
use Rattle.jl_model.specs.Ancestors.{table_of}
use Rattle.jl_model.specs.Rows.{width, vars_in}
use Rattle.jl_model.specs.Subtype.{Table}
use Rattle.jl_model.specs.Signature.{Row, IsRow, Applicable}
use Rattle.jl_model.specs.Refusals.{Declared}
use Rattle.jl_model.proofs.DeclaredLemmas.{declared_lawful}
use Rattle.jl_match.specs.KeptRow.{Fits, IsKeptRow, StandsFor}
use Rattle.jl_match.specs.SigRows.{kept_row, AreKeptRows, AllStand, SomeStands, AreRowsOf}
use Rattle.jl_sig.specs.declared.row.SigRow.{SigRow}
use Rattle.jl_match.proofs.StandLemmas.{there, back}

-- no types for the variables serve for any of the rows
abbrev pub NoneFits : Table → Written → List Ty → List SigRow → Type 0
NoneFits n t ts [] = Unit {0}
NoneFits n t ts (k ∷ ks) = ((f : ℕ → Ty) → Fits n t (kept_row k) ts f → ⊥) × NoneFits n t ts ks

pub one_more : (n : Table) (t : Written) (ts : List Ty) (ks : List SigRow) (i : ℕ) (k : SigRow) → i < length ks → k ≡ get_or ks i k → ((f : ℕ → Ty) → Fits n t (kept_row k) ts f → ⊥) → NoneFits n t ts (drop (i + 1) ks) → NoneFits n t ts (drop i ks)
one_more n t ts [] i k l e h r = absurd (omega arith)
one_more n t ts (x ∷ ks) zero k l e h r = (subst (λ (z : SigRow). (f : ℕ → Ty) → Fits n t (kept_row z) ts f → ⊥) e h, r)
one_more n t ts (x ∷ ks) (suc i) k l e h r =
    let q : NoneFits n t ts (drop (suc i) ks) = rw add-one at r in
    let w : NoneFits n t ts (drop (i + 1) ks) = rw add-one q in
    one_more n t ts ks i k (omega arith) e h w

pub kept-at : (ds : List Decl) (t : Written) (ks : List SigRow) (i : ℕ) (k : SigRow) → AreKeptRows ds t ks → i < length ks → k ≡ get_or ks i k → (length k.chosen ≡ width t) × IsKeptRow ds t (kept_row k)
kept-at ds t [] i k h l e = absurd (omega arith)
kept-at ds t (x ∷ ks) zero k h l e = subst (λ (z : SigRow). (length z.chosen ≡ width t) × IsKeptRow ds t (kept_row z)) (sym e) (h.0, h.1)
kept-at ds t (x ∷ ks) (suc i) k h l e = kept-at ds t ks i k h.2 (omega arith) e

stands-at : (n : Table) (s t : Written) (ks : List SigRow) (i : ℕ) (k : SigRow) → AllStand n s t ks → i < length ks → k ≡ get_or ks i k → (r : Row) × IsRow n s r × StandsFor n s t r (kept_row k)
stands-at n s t [] i k h l e = absurd (omega arith)
stands-at n s t (x ∷ ks) zero k h l e = subst (λ (z : SigRow). (r : Row) × IsRow n s r × StandsFor n s t r (kept_row z)) (sym e) h.0
stands-at n s t (x ∷ ks) (suc i) k h l e = stands-at n s t ks i k h.1 (omega arith) e

module _ (ds : List Decl) (declared : Declared ds) (s t : Written) (ks : List SigRow) (rows : AreRowsOf (table_of ds) s t ks) (ts : List Ty) where
  abbrev n : Table
  n = table_of ds

  pub applicable : (i : ℕ) (k : SigRow) → i < length ks → k ≡ get_or ks i k → (f : ℕ → Ty) → Fits n t (kept_row k) ts f → ((v : ℕ) → vars_in (f v) ≡ []) → Applicable n s ts
  applicable i k l e f h c =
      let r = stands-at n s t ks i k rows.each l e in
      let g = back n (declared_lawful ds declared) s t r.0 (kept_row k) r.2 ts f h in
      (r.0, f, r.1, g.serves, c, g.below)

  none_stands : (r : Row) (f : ℕ → Ty) → Fits n s r ts f → (ks : List SigRow) → SomeStands n s t r ks → NoneFits n t ts ks → ⊥
  none_stands r f h [] x y = x
  none_stands r f h (k ∷ ks) (inl x) y = y.0 f (there n (declared_lawful ds declared) s t r (kept_row k) x ts f h)
  none_stands r f h (k ∷ ks) (inr x) y = none_stands r f h ks x y.1

  pub not_applicable : NoneFits n t ts ks → Applicable n s ts → ⊥
  not_applicable y a = none_stands a.0 a.1 (record { serves = a.3; below = a.5 }) ks (rows.all a.0 a.2) y

pub both_ways : {b : Bool} → b ≡ true → b ≡ false → ⊥
both_ways h e = let f : true ≡ false = sym h ∙ e in cc
