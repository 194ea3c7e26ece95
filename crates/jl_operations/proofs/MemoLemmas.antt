-- What is prepared stays right, and what is found is.
use Rattle.std.proofs.Common.{◌≡◌, ℕ, zero, suc, List, [], ◌∷◌, ◌++◌, Option, Some, None, sym, subst, inl, inr, set, MatchOption}
use Rattle.jl_model.specs.declared.ty.Ty.{Ty}
use Rattle.jl_model.specs.declared.ty.Bound.{Bound}
use Rattle.jl_model.specs.declared.ty.Decl.{Decl}
use Rattle.jl_model.specs.declared.ty.Written.{Written}
use Rattle.jl_model.specs.Refusals.{Declared}
use Rattle.jl_program.specs.declared.tree.Program.{Program}
use Rattle.jl_program.specs.declared.value.Value.{Value}
use Rattle.jl_program.specs.Scope.{all_types}
use Rattle.jl_calculus.specs.declared.history.Outcome.{Outcome}
use Rattle.jl_calculus.specs.Operations.{make_struct}
use Rattle.jl_calculus.specs.Statics.{with_statics}
use Rattle.jl_operations.specs.declared.prepared.Prepared.{Prepared}
use Rattle.jl_operations.specs.declared.written.Kept.{Kept}
use Rattle.jl_operations.specs.Bodies.{IsBodySig, IsKeptAs}
use Rattle.jl_operations.specs.Conditions.{IsWrittenIn}
use Rattle.jl_operations.specs.Constructed.{made_of}
use Rattle.jl_operations.specs.Memo.{IsFormed, IsFormedIf, IsRight, AreRight, NonePrepared, IsAmong, IsOf, IsPut}
use Rattle.jl_operations.proofs.PreparedLemmas.{alone_stays, kept_made}

-- ---- what is prepared stays right

pub right_with : (ds : List Decl) (x : Prepared) (old new : List (Option Prepared)) → IsPut x old new → IsRight ds x → AreRight ds old → AreRight ds new
right_with ds x old new s h all = λ i y e. elim (s i y e) [ inl p ↦ all i y p | inr q ↦ subst (IsRight ds) (sym q) h ]

-- ---- a new table

pub none_more : (xs : List (Option Prepared)) → NonePrepared xs → NonePrepared (xs ++ None ∷ [])
none_more [] h zero x e = cc
none_more [] h (suc i) x e = cc
none_more (y ∷ ys) h zero x e = h zero x e
none_more (y ∷ ys) h (suc i) x e = none_more ys (λ j z. h (suc j) z) i x e

pub none_right : (ds : List Decl) (xs : List (Option Prepared)) → NonePrepared xs → AreRight ds xs
none_right ds xs h = λ i x e. absurd (h i x e)

pub none_first : NonePrepared []
none_first i x e = cc

pub put_nowhere : (x : Prepared) (xs : List (Option Prepared)) → IsPut x xs xs
put_nowhere x xs i y e = inl e

pub put_at : (x : Prepared) (xs : List (Option Prepared)) (p : ℕ) → IsPut x xs (set xs p (Some x))
put_at x [] p i y e = inl e
put_at x (z ∷ zs) zero zero y e = inr cc
put_at x (z ∷ zs) zero (suc i) y e = inl e
put_at x (z ∷ zs) (suc p) zero y e = inl e
put_at x (z ∷ zs) (suc p) (suc i) y e = put_at x zs p i y e

-- what is made of a written type is right
pub formed_if : (ds : List Decl) (s : Written) (f : Option Ty) → MatchOption f (Unit {0}) (λ u. IsFormed ds s u) → IsFormedIf ds s f
formed_if ds s None h = tt
formed_if ds s (Some u) h = h

pub right_of : (ds : List Decl) (s w : Written) (k l : Kept) (f : Option Ty) → w ≡ s → l ≡ k → IsBodySig ds s → IsKeptAs ds s k → MatchOption f (Unit {0}) (λ u. IsFormed ds s u) → IsRight ds (record { written = w; kept = l; form = f })
right_of ds s w k l f p q body kept form = record {
  body = subst (IsBodySig ds) (sym p) body;
  kept = subst (λ z. IsKeptAs ds z l) (sym p) (subst (IsKeptAs ds s) (sym q) kept);
  form = subst (λ z. IsFormedIf ds z f) (sym p) (formed_if ds s f form);
}

-- ---- what is found is right

pub found_right : (ds : List Decl) (xs : List (Option Prepared)) (s : Written) (x : Prepared) → AreRight ds xs → IsAmong xs s x → IsOf ds s x
found_right ds xs s x all h = record { right = all h.place x h.at; of_type = h.of_type }

pub of_body : (ds : List Decl) (s : Written) (x : Prepared) → IsOf ds s x → IsBodySig ds s
of_body ds s x h = subst (IsBodySig ds) h.of_type h.right.body

pub of_kept : (ds : List Decl) (s : Written) (x : Prepared) → IsOf ds s x → IsKeptAs ds s x.kept
of_kept ds s x h = subst (λ z. IsKeptAs ds z x.kept) h.of_type h.right.kept

pub of_form : (ds : List Decl) (s : Written) (x : Prepared) (u : Ty) → IsOf ds s x → x.form ≡ Some u → IsFormed ds s u
of_form ds s x u h e = subst (IsFormedIf ds s) e (subst (λ z. IsFormedIf ds z x.form) h.of_type h.right.form)

-- ---- a written type that is found is the same with the static parameters put in

pub found_stays : (P : Program) (statics : List Ty) (t : Written) (x : Prepared) → IsWrittenIn P statics t → IsOf (all_types P) t x → with_statics statics t ≡ t
found_stays P statics t x w h = alone_stays statics t (of_body (all_types P) t x h).own

pub formed_stays : (P : Program) (statics : List Ty) (t : Written) (u : Ty) → IsWrittenIn P statics t → IsFormed (all_types P) t u → with_statics statics t ≡ t
formed_stays P statics t u w h = alone_stays statics t h.own

pub formed_made : (ds : List Decl) (s : Written) (u : Ty) (vs : List Value) (o : Outcome) → Declared ds → IsFormed ds s u → make_struct ds u vs o → made_of ds s vs o
formed_made ds s u vs o declared h m = kept_made ds declared s u vs o h.allowed h.form m

-- ---- bounds that are the same

pub bound_same : (a b : Bound) → a.low ≡ b.low → a.high ≡ b.high → a ≡ b
bound_same a b p q = λ i. record { low = p i; high = q i }

pub written_same : (a b : Written) → a.parts ≡ b.parts → a.vars ≡ b.vars → a ≡ b
written_same a b p q = λ i. record { vars = q i; parts = p i }
