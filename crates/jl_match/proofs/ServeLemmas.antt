-- The variables of a row, one by one, where no upper bound mentions a variable.
use Rattle.std.proofs.Common.{◌≡◌, ◌∙◌, sym, ap, subst, refl, ℕ, zero, suc, ◌<◌, arith, Bool, true, false, ◌||◌, not, List, [], ◌∷◌, length, get_or}
use Rattle.std.specs.List.{list_any}
use Rattle.jl_model.specs.declared.ty.Ty.{Ty}
use Rattle.jl_model.specs.declared.ty.Decl.{Decl}
use Rattle.jl_model.specs.declared.ty.Written.{Written}
use Rattle.jl_model.specs.declared.ty.Bound.{Bound}
use Rattle.jl_model.specs.Rows.{free, width, low, high, vars_in, Stands, Occurs, standing, bounding}
use Rattle.jl_model.specs.Signature.{Row, top}
use Rattle.jl_model.specs.Subtype.{Table, opaque, put}
use Rattle.jl_model.specs.Valid.{is_closed}
use Rattle.jl_model.proofs.PutLemmas.{put-closed}
use Rattle.jl_types.specs.Ground.{IsGround}
use Rattle.jl_types.proofs.GroundLemmas.{Tells}
use Rattle.jl_search.specs.Serving.{Within, IsPlain}
use Rattle.jl_search.proofs.HasLemmas.{has_of, has_none}
use Rattle.jl_match.specs.KeptRow.{IsKeptTop, top_plain, top_named, top_idle, IsKeptRow}
use Rattle.jl_match.proofs.ComponentLemmas.{none_of}
use Rattle.jl_match.proofs.RowLemmas.{low_of}
use Rattle.jl_match.proofs.TestLemmas.{get-same}

-- no upper bound mentions a variable
abbrev pub AreUnnamed : List Bound → Type 0
AreUnnamed bs = list_any (λ (b : Bound). not (is_closed b.high)) bs ≡ false

closed_at : (bs : List Bound) → AreUnnamed bs → (v : ℕ) → v < length bs → vars_in (get_or bs v free).high ≡ []
closed_at [] h v l = absurd (omega (arith, l))
closed_at (b ∷ bs) h v l = pick (λ k v l. closed_at bs k v l) (is_closed b.high) refl h v l
  where
    pick : (AreUnnamed bs → (v : ℕ) → v < length bs → vars_in (get_or bs v free).high ≡ []) → (c : Bool) → is_closed b.high ≡ c → (not c || list_any (λ (b : Bound). not (is_closed b.high)) bs) ≡ false → (v : ℕ) → v < length (b ∷ bs) → vars_in (get_or (b ∷ bs) v free).high ≡ []
    pick ih false e k v l = let f : true ≡ false = k in cc
    pick ih true e k zero l = none_of (vars_in b.high) e
    pick ih true e k (suc v) l = ih k v (omega (arith, l))

module _ (ds : List Decl) (s : Written) (r : Row) (kept : IsKeptRow ds s r) (unnamed : AreUnnamed s.vars) where
  pub plain_high : (v : ℕ) → v < width s → vars_in (high s v) ≡ []
  plain_high v l = closed_at s.vars unnamed v l

  top_at : (v : ℕ) → v < width s → IsKeptTop ds s r v → vars_in (top s r v) ≡ []
  top_at v l (top_plain w p q) = q.closed
  top_at v l (top_named w i) = ap vars_in i.top_is ∙ plain_high v l
  top_at v l (top_idle w d k q h) = q.closed

  pub plain_top : (v : ℕ) → v < width s → vars_in (top s r v) ≡ []
  plain_top v l = top_at v l (kept.top v l)

  stands_at : (v : ℕ) (row : List Ty) → row ≡ r.parts → Occurs s v row → Stands s v r.parts
  stands_at v row e (standing x y c) = subst (λ z. Stands s v z) e c
  stands_at v row e (bounding x w y o c) =
      let l = low_of ds s r kept w (subst (λ z. Occurs s w z) e o) in
      absurd (has_none (vars_in (high s w)) v (plain_high w l) (has_of (vars_in (high s w)) v c))

  pub occurs_stands : (v : ℕ) → Occurs s v r.parts → Stands s v r.parts
  occurs_stands v o = stands_at v r.parts refl o

  pub low_same : (v : ℕ) → v < width s → (f : ℕ → Ty) → low s v ≡ put f (low s v)
  low_same v l f = sym (put-closed f (low s v) (kept.low v l).closed)

  pub top_same : (v : ℕ) → v < width s → (f : ℕ → Ty) → top s r v ≡ put f (top s r v)
  top_same v l f = sym (put-closed f (top s r v) (plain_top v l))

pub plain_ground : (ds : List Decl) (t : Ty) → IsPlain ds t → IsGround ds t
plain_ground ds t h = record { normal = h.normal; known = h.known }

-- the same test of the same things
pub within_same : (n : Table) (r : Bool) (l low h high : Ty) (b d : Bool) (x value : Ty) → l ≡ low → h ≡ high → b ≡ d → x ≡ value → Tells r (Within n opaque l h b x) → Tells r (Within n opaque low high d value)
within_same n r l low h high b d x value e f g i t =
    subst (λ z. Tells r (Within n opaque low high d z)) i
    (subst (λ z. Tells r (Within n opaque low high z x)) g (subst (λ z. Tells r (Within n opaque low z b x)) f (subst (λ z. Tells r (Within n opaque z h b x)) e t)))

pub at_present : (r : Bool) (O W : Type 0) → O → Tells r W → Tells r (O → W)
at_present r O W o t = ((λ y k. t.0 y), (λ q. t.1 (q o)))

pub low_is : (s : Written) (bs : List Bound) (v : ℕ) (b : Bound) → bs ≡ s.vars → v < length bs → b ≡ get_or bs v b → b.low ≡ low s v
low_is s bs v b e l i = ap (λ (z : Bound). z.low) (get-same bs v free b l i ∙ ap (λ z. get_or z v free) e)
