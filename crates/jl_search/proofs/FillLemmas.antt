-- The list of the values found.
use Rattle.std.proofs.Common.{◌≡◌, ◌∙◌, sym, ap, subst, refl, ℕ, zero, suc, ◌+◌, ◌<◌, arith, List, [], ◌∷◌, ◌++◌, length, get_or, Option, None}
use Rattle.jl_model.specs.declared.ty.Ty.{Ty}
use Rattle.jl_model.specs.declared.ty.Ty.TheVariants as W
use Rattle.jl_model.specs.declared.ty.Bound.{Bound}
use Rattle.jl_model.specs.declared.ty.Written.{Written}
use Rattle.jl_model.specs.Rows.{vars_in}
use Rattle.jl_model.specs.Subtype.{Table, Fixed, put, at}
use Rattle.jl_model.specs.Signature.{Row, top}
use Rattle.jl_model.specs.Found.{or_type, hits, filled}
use Rattle.jl_model.proofs.AncestorLemmas.{get_before, long-snoc}
use Rattle.jl_search.proofs.HasLemmas.{Has}
use Rattle.jl_search.proofs.AbstractLemmas.{get_end}
use Rattle.jl_search.proofs.SeekLemmas.{agrees}

module _ (n : Table) (g : Fixed) (s : Written) (r : Row) (ts : List Ty) where
  abbrev pub fill : List Ty → List (Option Ty) → List Ty
  fill = filled n g s r ts

  abbrev next : List Ty → Option Ty → Ty
  next done o = or_type o (put (at done) (top s r (length done)))

  -- what is there stays
  keeps : (done : List Ty) (os : List (Option Ty)) (v : ℕ) → v < length done → at (fill done os) v ≡ at done v
  keeps done [] v l = refl
  keeps done (o ∷ os) v l =
      let e = long-snoc done (next done o) in
      keeps (done ++ next done o ∷ []) os v (omega (arith, e, l)) ∙ get_before done (next done o) W.Any v l

  pub long_fill : (done : List Ty) (os : List (Option Ty)) → length (fill done os) ≡ length done + length os
  long_fill done [] = omega arith
  long_fill done (o ∷ os) = omega (arith, long_fill (done ++ next done o ∷ []) os, long-snoc done (next done o))

  -- a value is what is found, else the upper bound with the values put in
  pub fill_at : (done : List Ty) (os : List (Option Ty)) (i : ℕ) → i < length os
      → ((w : ℕ) → Has (vars_in (top s r (length done + i))) w → w < length done + i)
      → at (fill done os) (length done + i) ≡ or_type (get_or os i None) (put (at (fill done os)) (top s r (length done + i)))
  fill_at done [] i l h = absurd (omega (arith, l))
  fill_at done (o ∷ os) zero l h =
      let d : length done + 0 ≡ length done = omega arith in
      let x = next done o in
      let e = long-snoc done x in
      let k : at (fill done (o ∷ os)) (length done) ≡ x = keeps (done ++ x ∷ []) os (length done) (omega (arith, e)) ∙ get_end done x W.Any in
      let same : put (at done) (top s r (length done)) ≡ put (at (fill done (o ∷ os))) (top s r (length done))
      = agrees (at done) (at (fill done (o ∷ os))) (top s r (length done)) (λ w j. sym (keeps done (o ∷ os) w (omega (arith, d, h w (subst (λ z. Has (vars_in (top s r z)) w) (sym d) j))))) in
      subst (λ z. at (fill done (o ∷ os)) z ≡ or_type o (put (at (fill done (o ∷ os))) (top s r z))) (sym d) (k ∙ ap (or_type o) same)
  fill_at done (o ∷ os) (suc i) l h =
      let x = next done o in
      let e = long-snoc done x in
      let d : length (done ++ x ∷ []) + i ≡ length done + suc i = omega (arith, e) in
      subst (λ z. at (fill done (o ∷ os)) z ≡ or_type (get_or os i None) (put (at (fill done (o ∷ os))) (top s r z))) d
      (fill_at (done ++ x ∷ []) os i (omega (arith, l)) (λ w j. (let q = h w (subst (λ z. Has (vars_in (top s r z)) w) d j) in omega (arith, q, d))))

  pub long_hits : (v : ℕ) (bs : List Bound) → length (hits n g s r ts v bs) ≡ length bs
  long_hits v [] = refl
  long_hits v (b ∷ bs) = ap suc (long_hits (v + 1) bs)
