-- Of any two types it is decided whether one is below the other, and of a type whether it can be judged.
use Rattle.std.proofs.Common.{◌≡◌, sym, ap, subst, ◌≤◌, true, List, length, inl}
use Rattle.std.specs.List.{list_all}
use Rattle.jl_model.specs.declared.limits.TheConstants.{MOST_TYPE_NODES, MOST_ALTERNATIVES}
use Rattle.jl_model.specs.declared.ty.Ty.{Ty}
use Rattle.jl_model.specs.declared.ty.Decl.{Decl}
use Rattle.jl_model.specs.Ancestors.{table_of}
use Rattle.jl_model.specs.Counts.{nodes, raw, IsWithinLimits}
use Rattle.jl_model.specs.Members.{EachBelow}
use Rattle.jl_model.specs.Normal.{IsNormal, AllNormal, IsNormalForm, is_single, no_union, any, var, nominal, tuple, union, none, more}
use Rattle.jl_model.specs.Refusals.{Declared}
use Rattle.jl_model.specs.Subtype.{Table, opaque, Below}
use Rattle.jl_model.specs.Valid.{is_closed, is_known}
use Rattle.jl_model.proofs.AncestorLemmas.{Lawful}
use Rattle.jl_model.proofs.BelowLemmas.{union_below, below_union}
use Rattle.jl_model.proofs.DeclaredLemmas.{declared_lawful}
use Rattle.jl_model.proofs.FormLemmas.{is_union}
use Rattle.jl_model.proofs.NormalLemmas.{normal_same}
use Rattle.jl_model.proofs.PutLemmas.{and_l, and_r}
use Rattle.jl_model.proofs.TransLemmas.{below_trans, equal_trans}
use Rattle.jl_types.proofs.DecideLemmas.{Decided, above}
use Rattle.jl_types.proofs.ExistLemmas.{exists}
use Rattle.jl_judge.specs.Right.{CanBeJudged, IsJudgedBelow}
use Rattle.jl_judge.specs.Decision.{decided_by, both_decided, most_decided, true_decided}

module _ (ds : List Decl) (declared : Declared ds) where
  abbrev n : Table
  n = table_of ds

  law : Lawful n
  law = declared_lawful ds declared

  abbrev B : Ty → Ty → Type 0
  B = Below n opaque

  -- the members of a union
  each_decided : (ts : List Ty) → AllNormal n ts → list_all is_single ts ≡ true → (u : Ty) → IsNormal n u → Decided (EachBelow n ts u)
  each_decided ts none s u g = inl tt
  each_decided ts (more t vs p q) s u g =
      both_decided (B t u) (EachBelow n vs u) (above ds declared u g t p (and_l (is_single t) (list_all is_single vs) s))
      (each_decided vs q (and_r (is_single t) (list_all is_single vs) s) u g)

  -- below, for normal forms
  normals_decided : (l : Ty) → IsNormal n l → (u : Ty) → IsNormal n u → Decided (B l u)
  normals_decided l (any t o) u g = above ds declared u g l (any l o) (ap no_union o)
  normals_decided l (var t v o) u g = above ds declared u g l (var l v o) (ap no_union o)
  normals_decided l (nominal t k xs o h) u g = above ds declared u g l (nominal l k xs o h) (ap no_union o)
  normals_decided l (tuple t xs o h w) u g = above ds declared u g l (tuple l xs o h w) (ap no_union o)
  normals_decided l (union t ts o h s m k) u g =
      let i = is_union l ts o in
      decided_by (EachBelow n ts u) (B l u) (λ e. subst (λ z. B z u) (sym i) (union_below n ts u e)) (λ b. below_union n ts u (subst (λ z. B z u) i b)) (each_decided ts h s u g)

  -- below, for any types
  pub below_decided : (t u : Ty) → Decided (B t u)
  below_decided t u =
      let e = exists ds declared t in
      let f = exists ds declared u in
      decided_by (B e.0 f.0) (B t u) (λ b. below_trans n law t e.0 u e.1.form.equal.0 (below_trans n law e.0 f.0 u b f.1.form.equal.1))
      (λ b. below_trans n law e.0 t f.0 e.1.form.equal.1 (below_trans n law t u f.0 b f.1.form.equal.0)) (normals_decided e.0 e.1.form.normal f.0 f.1.form.normal)

  -- a type has one normal form
  pub one_form : (t u v : Ty) → IsNormalForm n t u → IsNormalForm n t v → u ≡ v
  one_form t u v f g = normal_same n law u f.normal v g.normal (equal_trans n law u t v (f.equal.1, f.equal.0) g.equal)

  -- whether a fact holds of the normal form
  pub form_decided : (P : Ty → Type 0) → ((u : Ty) → Decided (P u)) → (t : Ty) → Decided ((u : Ty) × IsNormalForm n t u × P u)
  form_decided P d t =
      let e = exists ds declared t in
      decided_by (P e.0) ((u : Ty) × IsNormalForm n t u × P u) (λ p. (e.0, e.1.form, p)) (λ h. subst P (one_form t h.0 e.0 h.1 e.1.form) h.2) (d e.0)

  -- the limits of a type as it is written
  within_decided : (t : Ty) → Decided (IsWithinLimits t)
  within_decided t =
      decided_by ((nodes t ≤ MOST_TYPE_NODES) × ((raw t).widest ≤ MOST_ALTERNATIVES)) (IsWithinLimits t) (λ h. record { nodes = h.0; alternatives = h.1 }) (λ h. (h.nodes, h.alternatives))
      (both_decided (nodes t ≤ MOST_TYPE_NODES) ((raw t).widest ≤ MOST_ALTERNATIVES) (most_decided (nodes t) MOST_TYPE_NODES) (most_decided (raw t).widest MOST_ALTERNATIVES))

  -- its normal form has at most 1,024 nodes
  abbrev HasSmallForm : Ty → Type 0
  HasSmallForm t = (u : Ty) × IsNormalForm n t u × (nodes u ≤ MOST_TYPE_NODES)

  -- whether a type can be judged
  pub judged_decided : (t : Ty) → Decided (CanBeJudged ds t)
  judged_decided t =
      let K = is_known (length ds) t ≡ true in
      let C = is_closed t ≡ true in
      let L = IsWithinLimits t × HasSmallForm t in
      decided_by (K × (C × L)) (CanBeJudged ds t) (λ h. record { known = h.0; closed = h.1.0; within = h.1.1.0; small = h.1.1.1 }) (λ h. (h.known, (h.closed, (h.within, h.small))))
      (both_decided K (C × L) (true_decided (is_known (length ds) t))
      (both_decided C L (true_decided (is_closed t))
      (both_decided (IsWithinLimits t) (HasSmallForm t) (within_decided t) (form_decided (λ u. nodes u ≤ MOST_TYPE_NODES) (λ u. most_decided (nodes u) MOST_TYPE_NODES) t))))

  -- both types can be judged, and the one is below the other
  pub judged_below_decided : (t u : Ty) → Decided (IsJudgedBelow ds t u)
  judged_below_decided t u =
      decided_by (CanBeJudged ds t × (CanBeJudged ds u × B t u)) (IsJudgedBelow ds t u) (λ h. record { low = h.0; high = h.1.0; below = h.1.1 }) (λ h. (h.low, (h.high, h.below)))
      (both_decided (CanBeJudged ds t) (CanBeJudged ds u × B t u) (judged_decided t) (both_decided (CanBeJudged ds u) (B t u) (judged_decided u) (below_decided t u)))
