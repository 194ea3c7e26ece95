-- Where the bounds are open, below is transitive, strictly below too, and the same signature is an equivalence.
use Rattle.std.proofs.Common.{◌≡◌, ◌∙◌, sym, ap, subst, ℕ, true, false, List, map, get_or, inl, inr}
use Rattle.std.specs.List.{flat_map}
use Rattle.jl_model.specs.declared.ty.Ty.{Ty}
use Rattle.jl_model.specs.declared.ty.Ty.TheViews.{out-Ty, outs-Any}
use Rattle.jl_model.specs.declared.ty.Ty.TheVariants as W
use Rattle.jl_model.specs.declared.ty.Decl.{Decl}
use Rattle.jl_model.specs.declared.ty.Written.{Written}
use Rattle.jl_model.specs.Ancestors.{table_of}
use Rattle.jl_model.specs.Kinds.{diagonal}
use Rattle.jl_model.specs.Rows.{alts, high, kind, root, vars_in}
use Rattle.jl_model.specs.Signature.{Row, IsRow, fixed, SigBelow, StrictlyBelow, SameSignature}
use Rattle.jl_model.specs.Subtype.{Table, opaque, is_concrete}
use Rattle.jl_model.specs.Refusals.{Declared}
use Rattle.jl_model.proofs.DeclaredLemmas.{declared_lawful}
use Rattle.jl_subsume.specs.Scoped.{IsScoped, IsOpen}
use Rattle.jl_search.proofs.HasLemmas.{has_of, of_has}
use Rattle.jl_subsume.proofs.ScopeLemmas.{IsSlot, slot_diagonal, slot_atom, high_at, high_atom, top_diagonal, has_or}
use Rattle.jl_subsume.proofs.SureLemmas.{Sure, of_sure, not_any}
use Rattle.jl_search.proofs.AbstractLemmas.{ancestor_abstract}
use Rattle.jl_subsig.proofs.ComposeLemmas.{NoStructAbove, composed}

no_struct : (ds : List Decl) → Declared ds → NoStructAbove (table_of ds)
unfolding table_of
no_struct ds h k m zs e u = ancestor_abstract ds h k m zs e u

module _ (n : Table) (a : Written) (open_a : IsOpen n a) (l : Row) (row : IsRow n a l) where
  not_sure : (u : Ty) → is_concrete n opaque u ≡ false → Sure n opaque u → ⊥
  not_sure u e s = let c : true ≡ false = sym (of_sure n opaque u s) ∙ e in cc

  chosen_open : (v : ℕ) → kind a v ≡ diagonal → Sure n opaque (l.chosen v) → ⊥
  chosen_open v d s = elim (has_or (map (root a) (flat_map vars_in l.parts)) v) [
    | inl h ↦ not_sure (l.chosen v) (open_a.open_bounds v (inl d) (l.chosen v) (row.chosen v d (of_has (map (root a) (flat_map vars_in l.parts)) v h)).0) s
    | inr f ↦ not_any n opaque (l.chosen v) (ap out-Ty (row.other v (λ o. f (has_of (map (root a) (flat_map vars_in l.parts)) v o))) ∙ outs-Any) s
  ]

  pub bounds_open : (k : ℕ) → IsSlot a k → Sure n opaque ((fixed a l).high k) → ⊥
  bounds_open k (slot_diagonal v i d) s = chosen_open v d (subst (λ z. Sure n opaque z) (high_at n a l v i ∙ top_diagonal n a l v d) s)
  bounds_open k (slot_atom v i j d h) s =
      let u = get_or (alts (high a v)) i W.Any in
      not_sure u (open_a.open_bounds v (inr d) u (of_has (alts (high a v)) u h)) (subst (λ z. Sure n opaque z) (high_atom n a l v i j) s)

module _ (ds : List Decl) (declared : Declared ds) where
  abbrev n : Table
  n = table_of ds

  pub transitive : (a b c : Written) → IsOpen n a → IsScoped b → IsScoped c → SigBelow n a b → SigBelow n b c → SigBelow n a c
  transitive a b c o bs cs p q =
      composed n (declared_lawful ds declared) (no_struct ds declared) a b c o.scoped o.ordered bs cs (λ l row k d s. bounds_open n a o l row k d s) p q

  pub strictly : (a b c : Written) → IsOpen n a → IsScoped b → IsOpen n c → StrictlyBelow n a b → StrictlyBelow n b c → StrictlyBelow n a c
  strictly a b c o bs oc p q = (transitive a b c o bs oc.scoped p.0 q.0, λ r. q.1 (transitive c a b oc o.scoped bs r p.0))

  pub same : (a b c : Written) → IsOpen n a → IsScoped b → IsOpen n c → SameSignature n a b → SameSignature n b c → SameSignature n a c
  same a b c o bs oc p q = (transitive a b c o bs oc.scoped p.0 q.0, transitive c b a oc bs o.scoped q.1 p.1)
