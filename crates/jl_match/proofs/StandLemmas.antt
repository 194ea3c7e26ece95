-- Types fit a row exactly where they fit one that stands for it.
use Rattle.std.proofs.Common.{◌≡◌, ◌∙◌, sym, ap, subst, ℕ, ◌%◌, List}
use Rattle.jl_model.specs.declared.ty.Ty.{Ty}
use Rattle.jl_model.specs.declared.ty.Written.{Written}
use Rattle.jl_model.specs.Rows.{width, low, root}
use Rattle.jl_model.specs.Subtype.{Table, opaque, put, Below, Equal}
use Rattle.jl_model.specs.Signature.{Row, top, Both, both_end, both_more}
use Rattle.jl_model.proofs.AncestorLemmas.{Lawful}
use Rattle.jl_model.proofs.TransLemmas.{below_trans}
use Rattle.jl_match.specs.KeptRow.{StandsFor, Fits}
use Rattle.jl_match.proofs.SubstLemmas.{put_equal}

module _ (n : Table) (law : Lawful n) (s t : Written) (r k : Row) (stands : StandsFor n s t r k) (ts : List Ty) (f : ℕ → Ty) where
  below_both : (F : ℕ → Ty) (xs us ws : List Ty) → Both (λ t u. Below n opaque t (put F u)) xs us → Both (Equal n) us ws → Both (λ t u. Below n opaque t (put F u)) xs ws
  below_both F xs us ws both_end both_end = both_end
  below_both F xs us ws (both_more x u ys vs b p) (both_more v w zs qs e q) = both_more x w ys qs (below_trans n law x (put F u) (put F w) b (put_equal n law F u w e).0) (below_both F ys vs qs p q)

  back_both : (F : ℕ → Ty) (xs us ws : List Ty) → Both (λ t u. Below n opaque t (put F u)) xs ws → Both (Equal n) us ws → Both (λ t u. Below n opaque t (put F u)) xs us
  back_both F xs us ws both_end both_end = both_end
  back_both F xs us ws (both_more x w ys qs b p) (both_more u v vs zs e q) = both_more x u ys vs (below_trans n law x (put F w) (put F u) b (put_equal n law F u w e).1) (back_both F ys vs qs p q)

  abbrev F : ℕ → ℕ → Ty
  F m v = f (v % m)

  roots : F (width s) ≡ F (width t)
  roots = ap F stands.width

  pub there : Fits n s r ts f → Fits n t k ts f
  there h = record {
    serves = record {
      least = λ v o.
          let i = stands.comes v o in
          below_trans n law (put f (low t v)) (put f (low s v)) (f v) (put_equal n law f (low s v) (low t v) (stands.low v i)).1 (h.serves.least v i);
      most = λ v o.
          let i = stands.comes v o in
          below_trans n law (f v) (put f (top s r v)) (put f (top t k v)) (h.serves.most v i) (put_equal n law f (top s r v) (top t k v) (stands.top v i)).0;
      sure = λ v o d. h.serves.sure v (stands.comes v o) (stands.kinds v ∙ d);
    };
    below = below_both (λ v. f (root t v)) ts r.parts k.parts (subst (λ F. Both (λ t u. Below n opaque t (put F u)) ts r.parts) roots h.below) stands.parts;
  }

  pub back : Fits n t k ts f → Fits n s r ts f
  back h = record {
    serves = record {
      least = λ v o.
          below_trans n law (put f (low s v)) (put f (low t v)) (f v) (put_equal n law f (low s v) (low t v) (stands.low v o)).0 (h.serves.least v (stands.stays v o));
      most = λ v o.
          below_trans n law (f v) (put f (top t k v)) (put f (top s r v)) (h.serves.most v (stands.stays v o)) (put_equal n law f (top s r v) (top t k v) (stands.top v o)).1;
      sure = λ v o d. h.serves.sure v (stands.stays v o) (sym (stands.kinds v) ∙ d);
    };
    below = back_both (λ v. f (root s v)) ts r.parts k.parts (subst (λ F. Both (λ t u. Below n opaque t (put F u)) ts k.parts) (sym roots) h.below) stands.parts;
  }
