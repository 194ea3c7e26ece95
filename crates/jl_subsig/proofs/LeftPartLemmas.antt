-- What may stand in a left row, and what a fixed variable in it stands for.
use Rattle.std.proofs.Common.{◌≡◌, ◌∙◌, sym, ap, subst, refl, ℕ, zero, suc, ◌<◌, arith, true, List, [], ◌∷◌, length, get_or, Option, None, Some, inl, inr}
use Rattle.std.specs.List.{flat_map, Contains}
use Rattle.std.specs.Option.{MatchOption}
use Rattle.jl_model.specs.declared.ty.Ty.{Ty}
use Rattle.jl_model.specs.declared.ty.Ty.TheOpen.{Ty-F, Any, Union, Tuple, Nominal, Var}
use Rattle.jl_model.specs.declared.ty.Ty.TheViews.{out-Ty, outs-Var}
use Rattle.jl_model.specs.declared.ty.Ty.TheVariants as W
use Rattle.jl_model.specs.declared.ty.Decl.{Decl}
use Rattle.jl_model.specs.Ancestors.{table_of}
use Rattle.jl_model.specs.Rows.{vars_in}
use Rattle.jl_model.specs.Subtype.{Fixed}
use Rattle.jl_model.specs.Normal.{AllNormal}
use Rattle.jl_model.specs.Valid.{is_known}
use Rattle.jl_model.specs.Refusals.{Declared}
use Rattle.jl_model.proofs.TypeInduction.{Each, by_cases}
use Rattle.jl_model.proofs.FormLemmas.{is_tuple, is_nominal, is_var, vars-tuple, vars-var}
use Rattle.jl_model.proofs.NormalLemmas.{kids_nominal}
use Rattle.jl_model.proofs.KnownLemmas.{Known, nominal_known}
use Rattle.jl_model.proofs.DeclaredLemmas.{declared_lawful}
use Rattle.jl_sig.specs.declared.row.SigRow.{SigRow}
use Rattle.jl_sig.specs.declared.sig.Sig.{Sig}
use Rattle.jl_sig.specs.SigParts.{kept_of}
use Rattle.jl_model.specs.Found.{raised, outer}
use Rattle.jl_subsig.specs.Side.{held, tops, IsTold, IsHigh, high_plain, high_named, IsLeftPart, AreLeftParts}
use Rattle.jl_search.proofs.HasLemmas.{Has, has_left, has_right, has_of, of_has, has_none, has_split}
use Rattle.jl_search.proofs.FindLemmas.{outer-any, outer-union, outer-tuple, outer-nominal, outer-var}
use Rattle.jl_subsig.proofs.HeldLemmas.{top_kept}
use Rattle.jl_subsig.proofs.HighLemmas.{high_item}
use Rattle.jl_subsig.proofs.BelowLemmas.{item-at, tuple_items}

pub match_map : {A : Type 0} (o : Option A) (P R : Type 0) (Q S : A → Type 0) → (P → R) → ((t : A) → Q t → S t) → MatchOption o P Q → MatchOption o R S
match_map None P R Q S f g h = f h
match_map (Some t) P R Q S f g h = g t h

-- a variable's upper bound
pub raise_var : (s : Sig) (r : SigRow) (t u : Ty) (k : ℕ) → IsTold s r → t ≡ W.Var k → tops (kept_of s).vars s r k ≡ u → raised (held s r) (out-Ty t) ≡ out-Ty u
raise_var s r t u k h e f = ap (raised (held s r)) (ap out-Ty e ∙ outs-Var k) ∙ ap out-Ty (sym (top_kept s r h k) ∙ f)

-- covariant places of types without variables
outer_within : (x : Ty) (v : ℕ) → Has (outer x) v → Has (vars_in x) v
outer_within x v = by_cases (λ x. Has (outer x) v → Has (vars_in x) v) (record {
  any = λ h. absurd (subst (λ z. Has z v) outer-any h);
  union = λ ts e h. absurd (subst (λ z. Has z v) (outer-union ts) h);
  tuple = λ ts e h. subst (λ z. Has z v) (sym (vars-tuple ts)) (flat_in ts e (subst (λ z. Has z v) (outer-tuple ts) h));
  nominal = λ k ts e h. absurd (subst (λ z. Has z v) (outer-nominal k ts) h);
  var = λ w h. subst (λ z. Has z v) (sym (vars-var w)) (subst (λ z. Has z v) (outer-var w) h);
}) x
  where
    flat_in : (ts : List Ty) → Each (λ x. Has (outer x) v → Has (vars_in x) v) ts → Has (flat_map outer ts) v → Has (flat_map vars_in ts) v
    flat_in [] e h = absurd h
    flat_in (t ∷ ts) e h = elim (has_split (outer t) (flat_map outer ts) v h) [ inl i ↦ has_left (vars_in t) (flat_map vars_in ts) v (e.0 i) | inr i ↦ has_right (vars_in t) (flat_map vars_in ts) v (flat_in ts e.1 i) ]

module _ (ds : List Decl) (g : Fixed) where
  no_outer : (t : Ty) (k : ℕ) → IsHigh ds t → Has (outer t) k → ⊥
  no_outer t k (high_plain u p) i = has_none (vars_in t) k p.closed (outer_within t k i)
  no_outer t k (high_named u p) i = subst (λ z. Has z k) (ap outer p.is ∙ outer-nominal p.number p.args) i

  pub high_left : (t : Ty) → IsHigh ds t → IsLeftPart ds g t
  high_left t h = record { item = high_item ds t h; raises = λ k c. absurd (no_outer t k h (has_of (outer t) k c)) }

  -- what a left part stands for
  pub record Stands (t : Ty) (x : Ty-F Ty) : Type 0 where
    pub ty : Ty
    pub left : IsLeftPart ds g ty
    pub form : out-Ty ty ≡ x

  stands_by : (t : Ty) (x : Ty-F Ty) → out-Ty t ≡ x → IsLeftPart ds g t → Stands t (raised g x)
  stands_by t Any e h = record { ty = t; left = h; form = e }
  stands_by t (Union ts) e h = record { ty = t; left = h; form = e }
  stands_by t (Tuple ts) e h = record { ty = t; left = h; form = e }
  stands_by t (Nominal k ts) e h = record { ty = t; left = h; form = e }
  stands_by t (Var v) e h =
      let c : Contains (outer t) v = of_has (outer t) v (subst (λ z. Has z v) (sym (ap outer (is_var t v e) ∙ outer-var v)) (inl refl)) in
      record { ty = g.high v; left = high_left (g.high v) (h.raises v c); form = refl }

  pub stands : (t : Ty) → IsLeftPart ds g t → Stands t (raised g (out-Ty t))
  stands t h = stands_by t (out-Ty t) refl h

  pub tuple_left : (t : Ty) (ts : List Ty) → out-Ty t ≡ Tuple ts → IsLeftPart ds g t → AreLeftParts ds g ts
  tuple_left t ts e h = record {
    singles = tuple_items ds t ts ts (is_tuple t ts e) refl h.item;
    raises = λ k c. h.raises k (subst (λ z. Contains z k) (sym (ap outer (is_tuple t ts e) ∙ outer-tuple ts)) c);
  }

  pub raised_tuple : (t : Ty) (ts : List Ty) → IsLeftPart ds g t → raised g (out-Ty t) ≡ Tuple ts → AreLeftParts ds g ts
  raised_tuple t ts h e = let s = stands t h in tuple_left s.ty ts (s.form ∙ e) s.left

  pub nominal_left : Declared ds → (t : Ty) (k : ℕ) (xs : List Ty) → IsLeftPart ds g t → raised g (out-Ty t) ≡ Nominal k xs → (k < length ds) × AllNormal (table_of ds) xs × Each (Known (length ds)) xs
  nominal_left declared t k xs h e =
      let s = stands t h in
      let o = s.form ∙ e in
      let n = nominal_known (length ds) k xs (subst (λ z. is_known (length ds) z ≡ true) (is_nominal s.ty k xs o) s.left.item.known) in
      (n.0, kids_nominal (table_of ds) (declared_lawful ds declared) s.ty k xs s.left.item.normal o, n.1)

  pub left-at : (ts : List Ty) (i : ℕ) (t : Ty) → AreLeftParts ds g ts → i < length ts → t ≡ get_or ts i t → IsLeftPart ds g t
  left-at ts i t h l e = record {
    item = item-at ds ts i t h.singles l e;
    raises = λ k c. h.raises k (of_has (flat_map outer ts) k (in_flat ts i t k l e (has_of (outer t) k c)));
  }
    where
      in_flat : (ts : List Ty) (i : ℕ) (t : Ty) (k : ℕ) → i < length ts → t ≡ get_or ts i t → Has (outer t) k → Has (flat_map outer ts) k
      in_flat [] i t k l e c = absurd (omega arith)
      in_flat (x ∷ xs) zero t k l e c = has_left (outer x) (flat_map outer xs) k (subst (λ z. Has (outer z) k) e c)
      in_flat (x ∷ xs) (suc i) t k l e c = has_right (outer x) (flat_map outer xs) k (in_flat xs i t k (omega arith) e c)
