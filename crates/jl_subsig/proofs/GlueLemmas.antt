-- Every signature has a kept form, and where no bounds are crossed they are in order.
use Rattle.std.proofs.Common.{◌≡◌, sym, ap, subst, refl, ℕ, zero, suc, ◌<◌, arith, true, List, [], ◌∷◌, length, get_or, inl, inr}
use Rattle.std.specs.List.{list_all, Contains}
use Rattle.jl_model.specs.declared.ty.Ty.{Ty}
use Rattle.jl_model.specs.declared.ty.Ty.TheViews.{outs-Any, outs-Union, outs-Tuple, outs-Nominal, outs-Var}
use Rattle.jl_model.specs.declared.ty.Ty.TheViews as V
use Rattle.jl_model.specs.declared.ty.Ty.TheVariants as W
use Rattle.jl_model.specs.declared.ty.Bound.{Bound}
use Rattle.jl_model.specs.declared.ty.Decl.{Decl}
use Rattle.jl_model.specs.declared.ty.Written.{Written}
use Rattle.jl_model.specs.Ancestors.{table_of}
use Rattle.jl_model.specs.Rows.{free, low, high}
use Rattle.jl_model.specs.Signature.{Both, both_end, both_more}
use Rattle.jl_model.specs.Subtype.{Table, opaque, Below}
use Rattle.jl_model.specs.Members.{EachBelow}
use Rattle.jl_model.specs.Normal.{IsNormal, AllNormal, any as normal_any, var as normal_var, nominal as normal_nominal, tuple as normal_tuple, union as normal_union, none as normals_end, more as normals_more, is_single, no_union, IsNormalForm}
use Rattle.jl_model.specs.Refusals.{Declared, bound_types}
use Rattle.jl_model.proofs.TypeInduction.{Each, by_cases}
use Rattle.jl_model.proofs.FormLemmas.{is_union}
use Rattle.jl_model.proofs.PutLemmas.{and_l, and_r}
use Rattle.jl_model.proofs.AncestorLemmas.{Lawful}
use Rattle.jl_model.proofs.BelowLemmas.{union_below, below_union}
use Rattle.jl_model.proofs.TransLemmas.{below_trans}
use Rattle.jl_model.proofs.DeclaredLemmas.{declared_lawful}
use Rattle.jl_types.specs.Form.{Settles, AllSettle, any, var, union, tuple, nominal, none, more}
use Rattle.jl_types.proofs.ExistLemmas.{exists}
use Rattle.jl_types.proofs.DecideLemmas.{Decided, above}
use Rattle.jl_subsume.specs.Scoped.{IsOrdered}
use Rattle.jl_subsig.specs.Alike.{IsKeptForm}
use Rattle.jl_search.proofs.HasLemmas.{Has, of_has}

module _ (ds : List Decl) (declared : Declared ds) where
  abbrev n : Table
  n = table_of ds

  law : Lawful n
  law = declared_lawful ds declared

  abbrev A : Ty → Ty → Type 0
  A = Settles (IsNormalForm n)

  -- KEPT FORMS
  abbrev Keeps : Ty → Type 0
  Keeps t = (u : Ty) × A t u

  keep_all : (ts : List Ty) → Each Keeps ts → (us : List Ty) × AllSettle (IsNormalForm n) ts us
  keep_all [] e = ([], none)
  keep_all (t ∷ ts) e = let r = e.0 in let q = keep_all ts e.1 in (r.0 ∷ q.0, more t r.0 ts q.0 r.1 q.1)

  form_all : (ts : List Ty) → (us : List Ty) × Both (IsNormalForm n) ts us
  form_all [] = ([], both_end)
  form_all (t ∷ ts) = let r = exists ds declared t in let q = form_all ts in (r.0 ∷ q.0, both_more t r.0 ts q.0 r.1.form q.1)

  keep : (t : Ty) → Keeps t
  keep = by_cases Keeps (record {
    any = (W.Any, any W.Any outs-Any);
    union = λ ts e. let r = keep_all ts e in (V.Union r.0, union (V.Union ts) (V.Union r.0) ts r.0 (outs-Union ts) (outs-Union r.0) r.1);
    tuple = λ ts e. let r = keep_all ts e in (V.Tuple r.0, tuple (V.Tuple ts) (V.Tuple r.0) ts r.0 (outs-Tuple ts) (outs-Tuple r.0) r.1);
    nominal = λ k ts e. let r = form_all ts in (V.Nominal k r.0, nominal (V.Nominal k ts) (V.Nominal k r.0) k ts r.0 (outs-Nominal k ts) (outs-Nominal k r.0) r.1);
    var = λ v. (W.Var v, var (W.Var v) v (outs-Var v));
  })

  keep_parts : (ts : List Ty) → (us : List Ty) × Both A ts us
  keep_parts [] = ([], both_end)
  keep_parts (t ∷ ts) = let r = keep t in let q = keep_parts ts in (r.0 ∷ q.0, both_more t r.0 ts q.0 r.1 q.1)

  keep_bounds : (bs : List Bound) → (cs : List Bound) × Both A (bound_types bs) (bound_types cs)
  keep_bounds [] = ([], both_end)
  keep_bounds (b ∷ bs) =
      let l = keep b.low in
      let h = keep b.high in
      let q = keep_bounds bs in
      let c : Bound = record { low = l.0; high = h.0 } in
      (c ∷ q.0, both_more b.low l.0 (b.high ∷ bound_types bs) (h.0 ∷ bound_types q.0) l.1 (both_more b.high h.0 (bound_types bs) (bound_types q.0) h.1 q.1))

  pub kept_exists : (s : Written) → (k : Written) × IsKeptForm n s k
  kept_exists s = let b = keep_bounds s.vars in let p = keep_parts s.parts in (record { vars = b.0; parts = p.0 }, record { bounds = b.1; parts = p.1 })

  -- BELOW IS DECIDED
  each_or : (ts : List Ty) → AllNormal n ts → list_all is_single ts ≡ true → (u : Ty) → IsNormal n u → Decided (EachBelow n ts u)
  each_or ts normals_end s u g = inl tt
  each_or ts (normals_more t vs p q) s u g = join (above ds declared u g t p (and_l (is_single t) (list_all is_single vs) s)) (each_or vs q (and_r (is_single t) (list_all is_single vs) s) u g)
    where
      join : Decided (Below n opaque t u) → Decided (EachBelow n vs u) → Decided (EachBelow n (t ∷ vs) u)
      join (inl a) (inl b) = inl (a, b)
      join (inl a) (inr f) = inr (λ e. f e.1)
      join (inr f) d = inr (λ e. f e.0)

  normal_or : (t u : Ty) → IsNormal n t → IsNormal n u → Decided (Below n opaque t u)
  normal_or t u (normal_any a e) g = above ds declared u g t (normal_any t e) (ap no_union e)
  normal_or t u (normal_var a v e) g = above ds declared u g t (normal_var t v e) (ap no_union e)
  normal_or t u (normal_nominal a k xs e p) g = above ds declared u g t (normal_nominal t k xs e p) (ap no_union e)
  normal_or t u (normal_tuple a xs e p s) g = above ds declared u g t (normal_tuple t xs e p s) (ap no_union e)
  normal_or t u (normal_union a ts e p s m l) g = from_each (each_or ts p s u g)
    where
      from_each : Decided (EachBelow n ts u) → Decided (Below n opaque t u)
      from_each (inl h) = inl (subst (λ z. Below n opaque z u) (sym (is_union t ts e)) (union_below n ts u h))
      from_each (inr f) = inr (λ b. f (below_union n ts u (subst (λ z. Below n opaque z u) (is_union t ts e) b)))

  pub below_or : (t u : Ty) → Decided (Below n opaque t u)
  below_or t u =
      let p = exists ds declared t in
      let q = exists ds declared u in
      elim (normal_or p.0 q.0 p.1.form.normal q.1.form.normal) [
        | inl b ↦ inl (below_trans n law t p.0 u p.1.form.equal.0 (below_trans n law p.0 q.0 u b q.1.form.equal.1))
        | inr f ↦ inr (λ b. f (below_trans n law p.0 t q.0 p.1.form.equal.1 (below_trans n law t u q.0 b q.1.form.equal.0)))
      ]

  -- BOUNDS
  bound_has : (bs : List Bound) (v : ℕ) → v < length bs → Has bs (get_or bs v free)
  bound_has [] v l = absurd (omega arith)
  bound_has (b ∷ bs) zero l = inl refl
  bound_has (b ∷ bs) (suc v) l = inr (bound_has bs v (omega arith))

  pub bounds_ordered : (s : Written) → ((b : Bound) → Contains s.vars b → (Below n opaque b.low b.high → ⊥) → ⊥) → IsOrdered n s
  bounds_ordered s f v l = elim (below_or (low s v) (high s v)) [
    | inl b ↦ b
    | inr g ↦ absurd (f (get_or s.vars v free) (of_has s.vars (get_or s.vars v free) (bound_has s.vars v l)) g)
  ]
