-- The variables of a row, one by one.
use Rattle.std.proofs.Common.{ap, ℕ, ◌<◌}
use Rattle.jl_model.specs.declared.ty.Ty.{Ty}
use Rattle.jl_model.specs.declared.ty.Written.{Written}
use Rattle.jl_model.specs.Rows.{width, kind, Occurs}
use Rattle.jl_model.specs.Signature.{Row, Serves, is_diagonal}
use Rattle.jl_model.specs.Subtype.{Table, Fixed}
use Rattle.jl_search.specs.Serving.{ServesAt}
use Rattle.jl_search.proofs.KindLemmas.{is_diag}

module _ (n : Table) (g : Fixed) (s : Written) (r : Row) (f : ℕ → Ty) where
  pub serves_at : Serves n g s r f → (v : ℕ) → ServesAt n g s r f v
  serves_at h v o = (h.least v o, h.most v o, λ d. h.sure v o (is_diag (kind s v) d))

  pub serves_all : ((v : ℕ) → Occurs s v r.parts → v < width s) → ((v : ℕ) → v < width s → ServesAt n g s r f v) → Serves n g s r f
  serves_all small h = record {
    least = λ v o. (h v (small v o) o).0;
    most = λ v o. (h v (small v o) o).1;
    sure = λ v o d. (h v (small v o) o).2 (ap is_diagonal d);
  }
