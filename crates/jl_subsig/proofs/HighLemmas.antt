-- What an upper bound may be: a normal form without variables, or a nominal type over variables.
use Rattle.std.proofs.Common.{◌≡◌, ◌∙◌, sym, ap, subst, ℕ, true, false, List, [], ◌∷◌, length}
use Rattle.std.specs.List.{flat_map}
use Rattle.jl_model.specs.declared.ty.Ty.{Ty}
use Rattle.jl_model.specs.declared.ty.Ty.TheOpen.{Nominal, Var}
use Rattle.jl_model.specs.declared.ty.Ty.TheViews.{out-Ty, outs-Any, outs-Nominal}
use Rattle.jl_model.specs.declared.ty.Ty.TheVariants as W
use Rattle.jl_model.specs.declared.ty.Decl.{Decl}
use Rattle.jl_model.specs.Ancestors.{table_of}
use Rattle.jl_model.specs.Rows.{vars_in}
use Rattle.jl_model.specs.Subtype.{Equal}
use Rattle.jl_model.specs.Normal.{IsNormal, no_union, is_single, any as normal_any, nominal as normal_nominal}
use Rattle.jl_model.specs.Valid.{is_known}
use Rattle.jl_model.proofs.FormLemmas.{is_nominal, vars-any, vars-nominal}
use Rattle.jl_model.proofs.KnownLemmas.{known-any}
use Rattle.jl_model.proofs.SelfLemmas.{equal_self}
use Rattle.jl_subsig.specs.Side.{IsItem, IsRigid, closed as rigid_closed, applied as rigid_applied, IsPlainForm, IsNamed, IsHigh, high_plain, high_named, IsHighForm, form_plain, form_named}
use Rattle.jl_search.specs.Serving.{IsPlain}
use Rattle.jl_search.specs.Open.{AreOpen, closed, open_end, open_more}
use Rattle.jl_search.proofs.HasLemmas.{has_left, has_right, has_none, none_has}
use Rattle.jl_subsig.proofs.FixedLemmas.{fast_closed}

-- arguments without variables
pub closed_all : (ts : List Ty) → flat_map vars_in ts ≡ [] → AreOpen ts
closed_all [] e = open_end
closed_all (t ∷ ts) e =
    open_more t ts (closed t (none_has (vars_in t) (λ v i. has_none (flat_map vars_in (t ∷ ts)) v e (has_left (vars_in t) (flat_map vars_in ts) v i))))
    (closed_all ts (none_has (flat_map vars_in ts) (λ v i. has_none (flat_map vars_in (t ∷ ts)) v e (has_right (vars_in t) (flat_map vars_in ts) v i))))

module _ (ds : List Decl) where
  pub any_plain : IsPlain ds W.Any
  any_plain = record { normal = normal_any W.Any outs-Any; known = known-any (length ds); closed = vars-any }

  pub same_form : (t : Ty) → IsPlain ds t → IsPlainForm ds t t
  same_form t h = record { closed = h.closed; plain = h; equal = equal_self (table_of ds) t }

  pub named_out : (t : Ty) (h : IsNamed ds t) → out-Ty t ≡ Nominal h.number h.args
  named_out t h = ap out-Ty h.is ∙ outs-Nominal h.number h.args

  pub named_normal : (t : Ty) → IsNamed ds t → IsNormal (table_of ds) t
  named_normal t h = normal_nominal t h.number h.args (named_out t h) h.normal

  named_single : (t : Ty) → IsNamed ds t → is_single t ≡ true
  named_single t h = ap no_union (named_out t h)

  pub high_any : IsHigh ds W.Any
  high_any = high_plain W.Any any_plain

  pub high_normal : (t : Ty) → IsHigh ds t → IsNormal (table_of ds) t
  high_normal t (high_plain u p) = p.normal
  high_normal t (high_named u p) = named_normal t p

  pub high_known : (t : Ty) → IsHigh ds t → is_known (length ds) t ≡ true
  high_known t (high_plain u p) = p.known
  high_known t (high_named u p) = p.known

  high_whole : (t : Ty) → IsHigh ds t → is_single t ≡ false → vars_in t ≡ []
  high_whole t (high_plain u p) e = p.closed
  high_whole t (high_named u p) e = let c : true ≡ false = sym (named_single t p) ∙ e in cc

  pub high_item : (t : Ty) → IsHigh ds t → IsItem ds t
  high_item t h = record { normal = high_normal t h; known = high_known t h; whole = high_whole t h }

  pub high_rigid : (t : Ty) → IsHigh ds t → IsRigid t
  high_rigid t (high_plain u p) = rigid_closed t p.closed
  high_rigid t (high_named u p) = rigid_applied t p.number p.args (named_out t p)

  -- it is no variable
  pub high_fast : (t : Ty) → IsHigh ds t → (v : ℕ) → out-Ty t ≡ Var v → ⊥
  high_fast t (high_plain u p) v e = fast_closed t p.closed v e
  high_fast t (high_named u p) v e = let c : Nominal p.number p.args ≡ Var v = sym (named_out t p) ∙ e in cc

  -- the arguments of a nominal one
  pub high_opened : (t : Ty) (k : ℕ) (xs : List Ty) → IsHigh ds t → out-Ty t ≡ Nominal k xs → AreOpen xs
  high_opened t k xs (high_plain u p) e = closed_all xs (sym (vars-nominal k xs) ∙ ap vars_in (sym (is_nominal t k xs e)) ∙ p.closed)
  high_opened t k xs (high_named u p) e = let c : Nominal p.number p.args ≡ Nominal k xs = sym (named_out t p) ∙ e in let i : p.args ≡ xs = cc in subst AreOpen i p.opened

  pub high_self : (t : Ty) → IsHigh ds t → IsHighForm ds t t
  high_self t (high_plain u p) = form_plain t t (same_form t p)
  high_self t (high_named u p) = form_named t p

  -- the normal form of an upper bound
  pub form_high : (t u : Ty) → IsHighForm ds t u → IsHigh ds u
  form_high t u (form_plain x y p) = high_plain u p.plain
  form_high t u (form_named x p) = high_named u p

  pub form_equal : (t u : Ty) → IsHighForm ds t u → Equal (table_of ds) t u
  form_equal t u (form_plain x y p) = p.equal
  form_equal t u (form_named x p) = equal_self (table_of ds) t

  pub form_fast : (t u : Ty) → IsHighForm ds t u → (v : ℕ) → out-Ty t ≡ Var v → ⊥
  form_fast t u (form_plain x y p) v e = fast_closed t p.closed v e
  form_fast t u (form_named x p) v e = high_fast t (high_named t p) v e
