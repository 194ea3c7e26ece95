-- One of a list.
use Rattle.std.proofs.Common.{◌≡◌, subst, ℕ, zero, suc, ◌<◌, arith, List, [], ◌∷◌, length, get_or, inl, inr}
use Rattle.jl_model.specs.declared.ty.Ty.{Ty}
use Rattle.jl_subsig.specs.Side.{AnyOf}

pub any-at : (P : Ty → Type 0) (us : List Ty) (i : ℕ) (t : Ty) → P t → i < length us → t ≡ get_or us i t → AnyOf P us
any-at P [] i t h lt e = absurd (omega arith)
any-at P (x ∷ xs) zero t h lt e = inl (subst P e h)
any-at P (x ∷ xs) (suc i) t h lt e = inr (any-at P xs i t h (omega arith) e)
