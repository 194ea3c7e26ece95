-- A type without parameters, fields and a parent may always be declared under a new name.
use Rattle.std.proofs.Common.{◌≡◌, ◌∙◌, sym, ap, subst, refl, ℕ, ◌+◌, ◌<◌, arith, Bool, true, false, ◌&&◌, nat_lt, List, [], ◌∷◌, ◌++◌, map, length, inl, inr}
use Rattle.std.specs.List.{list_all, Contains}
use Rattle.jl_model.specs.declared.ty.Ty.{Ty}
use Rattle.jl_model.specs.declared.ty.Ty.TheOpen.{Any, Union, Tuple, Nominal}
use Rattle.jl_model.specs.declared.ty.Ty.TheViews.{out-Ty, outs-Any, outs-Nominal, rolls-Any}
use Rattle.jl_model.specs.declared.ty.Ty.TheViews as V
use Rattle.jl_model.specs.declared.ty.Ty.TheVariants as W
use Rattle.jl_model.specs.declared.ty.Ty.TheFolds.{fold-roll-Ty, para-roll-Ty}
use Rattle.jl_model.specs.declared.ty.Decl.{Decl}
use Rattle.jl_model.specs.declared.ty.Bound.{Bound}
use Rattle.jl_model.specs.declared.ty.DeclKind.TheVariants.{Abstract}
use Rattle.jl_model.specs.Subtype.{Table}
use Rattle.jl_model.specs.Ancestors.{plain_decl, line_above, lines_after}
use Rattle.jl_model.specs.Counts.{Raw, nodes, nodes_step, raw, raw_step, IsWithinLimits}
use Rattle.jl_model.specs.Valid.{is_counted, counted_step}
use Rattle.jl_model.specs.Normal.{nominal, none}
use Rattle.jl_model.specs.Kept.{Bounds, bounds_end, Settled, plain, variable, union, tuple, nominal as named_type, AllSettled, settled_end, field_types}
use Rattle.jl_model.specs.Refusals.{TypeLimit, IsReady, table_with, is_placed, placed_step, given_in, given_step, sized_types, types_of, bound_types, AllWithinLimits, Given, is_known_decl, is_abstract_parent, TooMany}
use Rattle.jl_model.proofs.FormLemmas.{vars-any, is_any}
use Rattle.jl_model.proofs.KnownLemmas.{known-any, known_nominal}
use Rattle.jl_types.specs.Ground.{IsGround}

counted-any : (ds : List Decl) → is_counted ds W.Any ≡ true
counted-any ds = ap (is_counted ds) (sym rolls-Any) ∙ fold-roll-Ty Bool (counted_step ds) Any

placed-any : (m : ℕ) → is_placed m W.Any ≡ true
placed-any m = ap (is_placed m) (sym rolls-Any) ∙ para-roll-Ty Bool (placed_step m) Any

given-any : given_in W.Any ≡ []
given-any = ap given_in (sym rolls-Any) ∙ para-roll-Ty (List Given) given_step Any

nodes-any : nodes W.Any ≡ 1
nodes-any = ap nodes (sym rolls-Any) ∙ fold-roll-Ty ℕ nodes_step Any

raw-any : raw W.Any ≡ record { count = 1; widest = 1 }
raw-any = ap raw (sym rolls-Any) ∙ fold-roll-Ty Raw raw_step Any

small-any : IsWithinLimits W.Any
small-any = record { nodes = omega (arith, nodes-any); alternatives = let e = ap (λ r. r.widest) raw-any in omega arith }

no_settled : (n : Table) (ts : List Ty) → AllSettled n [] ts → ts ≡ []
no_settled n ts settled_end = refl

no_bounds : (n : Table) (bs : List Bound) → Bounds n [] bs → bs ≡ []
no_bounds n bs bounds_end = refl

settled_any : (n : Table) (t u : Ty) → out-Ty t ≡ Any → Settled n t u → out-Ty u ≡ Any
settled_any n t u e (plain a o) = e
settled_any n t u e (variable a v o) = e
settled_any n t u e (union a b ts us o p q) = let f : Any ≡ Union ts = sym e ∙ o in cc
settled_any n t u e (tuple a b ts us o p q) = let f : Any ≡ Tuple ts = sym e ∙ o in cc
settled_any n t u e (named_type a b k ts us o p q) = let f : Any ≡ Nominal k ts = sym e ∙ o in cc

-- the types whose size counts, where there is none but `Any`
sized_any : (ds : List Decl) (d : Decl) → bound_types d.params ≡ [] → out-Ty d.parent ≡ Any → field_types d.fields ≡ [] → AllWithinLimits (sized_types ds d)
sized_any ds d b p f =
    let t : types_of d ≡ W.Any ∷ [] = ap (λ z. z ++ d.parent ∷ field_types d.fields) b ∙ ap (λ z. d.parent ∷ z) f ∙ ap (λ z. z ∷ []) (is_any d.parent p) in
    let a : line_above (lines_after [] ds) (out-Ty d.parent) ≡ [] = ap (line_above (lines_after [] ds)) p in
    let s : sized_types ds d ≡ W.Any ∷ [] = ap (λ z. z ++ map (λ x. V.Nominal x.name x.args) (line_above (lines_after [] ds) (out-Ty d.parent))) t ∙ ap (λ z. W.Any ∷ [] ++ map (λ x. V.Nominal x.name x.args) z) a in
    subst AllWithinLimits (sym s) (small-any, tt)

module _ (ds : List Decl) (name : List ℕ) (fresh : Contains (map (λ e. e.name) ds) name → ⊥) (room : length ds < 1024 + 8) where
  abbrev d : Decl
  d = plain_decl name Abstract W.Any

  small : TypeLimit ds d → ⊥
  small (inl h) = h (sized_any ds d refl outs-Any refl)
  small (inr (inl (inl h))) = absurd (omega (arith, h.1.1))
  small (inr (inl (inr h))) = let c = subst (λ z. Contains (z ++ []) h.0) given-any h.1 in absurd (omega (arith, c.1))
  small (inr (inr h)) =
      let e = h.0 in
      let k = h.1 in
      h.2 (sized_any ds e (ap bound_types (no_bounds (table_with ds d) e.params k.params)) (settled_any (table_with ds d) W.Any e.parent outs-Any k.parent) (no_settled (table_with ds d) (field_types e.fields) k.fields))

  few : TooMany ds d → ⊥
  few (inl a) = omega arith
  few (inr (inl a)) = omega arith
  few (inr (inr (inl a))) = omega arith
  few (inr (inr (inr a))) = let e = ap (λ z. length (line_above (lines_after [] ds) z)) outs-Any in omega arith

  pub plain_ready : IsReady ds d
  plain_ready = record {
    variables = ap (λ z. list_all (λ v. nat_lt v 0) (z ++ [])) vars-any;
    allowed = record {
      fresh = fresh;
      known = λ h. let k : is_known_decl ds d ≡ true = ap (λ b. (true && b) && true) (known-any (length ds)) in let f : true ≡ false = sym k ∙ h in cc;
      counted = λ h. let k = ap (λ b. b && true) (counted-any (ds ++ d ∷ [])) in let f : true ≡ false = sym k ∙ h in cc;
      abstract = λ h. let k = ap (is_abstract_parent ds) outs-Any in let f : true ≡ false = sym k ∙ h in cc;
      placed = λ h. let k = ap (λ b. (true && b) && true) (placed-any (length ds)) in let f : true ≡ false = sym k ∙ h in cc;
      small = small;
      ordered = λ h. absurd (omega (arith, h.1.1));
      within = λ h. let c = subst (λ z. Contains (z ++ []) h.0) given-any h.1 in absurd (omega (arith, c.1));
      few = few;
      distinct = λ h. absurd (omega (arith, h.3));
    };
    normal = record {
      name = refl;
      kind = refl;
      params = bounds_end;
      parent = plain W.Any outs-Any;
      field_names = refl;
      fields = settled_end;
    };
  }

-- a nominal type without arguments
pub named_ground : (ds : List Decl) (k : ℕ) → k < length ds → IsGround ds (V.Nominal k [])
named_ground ds k h = record {
  normal = nominal (V.Nominal k []) k [] (outs-Nominal k []) none;
  known = known_nominal (length ds) k [] (grind (arith, h)) tt;
}
