-- What the code that keeps arguments needs.
use Rattle.std.proofs.Common.{◌≡◌, ◌∙◌, sym, ap, subst, refl, ℕ, zero, suc, ◌+◌, ◌<◌, arith, add-one, Bool, true, false, ◌&&◌, List, [], ◌∷◌, ◌++◌, length, drop, get_or, append_assoc, append-nil, ◌⊎◌, inl, inr}
use Rattle.std.specs.List.{list_all}
use Rattle.jl_model.specs.declared.ty.Ty.{Ty, out-Ty}
use Rattle.jl_model.specs.declared.ty.Ty.TheViews.{outs-Any, outs-Union, outs-Tuple, outs-Nominal, outs-Var}
use Rattle.jl_model.specs.declared.ty.Ty.TheViews as V
use Rattle.jl_model.specs.declared.ty.Ty.TheVariants as W
use Rattle.jl_model.specs.declared.ty.Decl.{Decl}
use Rattle.jl_model.specs.Subtype.{Table, opaque, Below}
use Rattle.jl_model.specs.Signature.{Both, both_end, both_more}
use Rattle.jl_model.specs.Normal.{AllNormal, IsNormalForm, nominal as normal_nominal, none, more}
use Rattle.jl_model.specs.Valid.{is_known, is_counted, is_closed}
use Rattle.jl_model.specs.Kept.{field_types, Argument, AllArguments, closed, variable, nominal, arguments_end, arguments_more}
use Rattle.jl_model.specs.Refusals.{Declared, table_with, bound_types, types_of, own, is_known_decl, is_placed_decl, is_placed, is_placed_field}
use Rattle.jl_model.proofs.FormLemmas.{is_var, alts-nominal}
use Rattle.jl_model.proofs.PutLemmas.{and_l, and_r}
use Rattle.jl_model.proofs.AncestorLemmas.{Lawful}
use Rattle.jl_model.proofs.SelfLemmas.{own_arguments}
use Rattle.jl_model.proofs.HeightLemmas.{Ways, by_nominal}
use Rattle.jl_model.proofs.BelowLemmas.{part_below}
use Rattle.jl_model.proofs.DeclaredLemmas.{not_false, next_lawful}
use Rattle.jl_norm.specs.Refused.{IsWellWritten}
use Rattle.jl_norm.proofs.ListLemmas.{all-types}
use Rattle.jl_types.proofs.PartsLemmas.{closed-var}

-- what a well written declaration has
module _ (ds : List Decl) (d : Decl) (w : IsWellWritten ds d) where
  known_is : is_known_decl ds d ≡ true
  known_is = not_false (is_known_decl ds d) w.known

  placed_is : is_placed_decl ds d ≡ true
  placed_is = not_false (is_placed_decl ds d) w.placed

  counted_is : (list_all (is_counted (ds ++ d ∷ [])) (bound_types d.params) && (is_counted (ds ++ d ∷ []) d.parent && list_all (is_counted (ds ++ d ∷ [])) (field_types d.fields))) ≡ true
  counted_is = sym (all-types (is_counted (ds ++ d ∷ [])) d) ∙ not_false (list_all (is_counted (ds ++ d ∷ [])) (types_of d)) w.counted

  abbrev bounds_known : Bool
  bounds_known = list_all (is_known (length ds)) (bound_types d.params)

  abbrev fields_known : Bool
  fields_known = list_all (is_known (length ds + own d.kind)) (field_types d.fields)

  pub bounds_are_known : list_all (is_known (length ds)) (bound_types d.params) ≡ true
  bounds_are_known = and_l bounds_known (is_known (length ds) d.parent) (and_l (bounds_known && is_known (length ds) d.parent) fields_known known_is)

  pub parent_is_known : is_known (length ds) d.parent ≡ true
  parent_is_known = and_r bounds_known (is_known (length ds) d.parent) (and_l (bounds_known && is_known (length ds) d.parent) fields_known known_is)

  pub fields_are_known : list_all (is_known (length ds + own d.kind)) (field_types d.fields) ≡ true
  fields_are_known = and_r (bounds_known && is_known (length ds) d.parent) fields_known known_is

  abbrev bounds_closed : Bool
  bounds_closed = list_all is_closed (bound_types d.params)

  abbrev fields_placed : Bool
  fields_placed = list_all (is_placed_field (length ds)) (field_types d.fields)

  pub bounds_are_closed : list_all is_closed (bound_types d.params) ≡ true
  bounds_are_closed = and_l bounds_closed (is_placed (length ds) d.parent) (and_l (bounds_closed && is_placed (length ds) d.parent) fields_placed placed_is)

  pub parent_is_placed : is_placed (length ds) d.parent ≡ true
  parent_is_placed = and_r bounds_closed (is_placed (length ds) d.parent) (and_l (bounds_closed && is_placed (length ds) d.parent) fields_placed placed_is)

  pub fields_are_placed : list_all (is_placed_field (length ds)) (field_types d.fields) ≡ true
  fields_are_placed = and_r (bounds_closed && is_placed (length ds) d.parent) fields_placed placed_is

  abbrev bounds_counted : Bool
  bounds_counted = list_all (is_counted (ds ++ d ∷ [])) (bound_types d.params)

  abbrev fields_counted : Bool
  fields_counted = list_all (is_counted (ds ++ d ∷ [])) (field_types d.fields)

  pub parent_is_counted : is_counted (ds ++ d ∷ []) d.parent ≡ true
  parent_is_counted = and_l (is_counted (ds ++ d ∷ []) d.parent) fields_counted (and_r bounds_counted (is_counted (ds ++ d ∷ []) d.parent && fields_counted) counted_is)

  pub with_lawful : Declared ds → Lawful (table_with ds d)
  with_lawful h = next_lawful ds d h parent_is_known parent_is_counted parent_is_placed

-- arguments of a nominal type
module _ (n : Table) where
  argument_form : (t u : Ty) → Argument n t u → is_closed t ≡ true → IsNormalForm n t u
  argument_form t u (closed a b c f) e = f
  argument_form t u (variable a v o) e = let f : false ≡ true = sym (closed-var v) ∙ sym (ap is_closed (is_var t v o)) ∙ e in cc
  argument_form t u (nominal a b k ts us c o p q) e = let f : false ≡ true = sym c ∙ e in cc

  pub arguments_form : (ts us : List Ty) → AllArguments n ts us → list_all is_closed ts ≡ true → Both (IsNormalForm n) ts us
  arguments_form ts us arguments_end e = both_end
  arguments_form ts us (arguments_more t u vs ws p q) e =
      both_more t u vs ws (argument_form t u p (and_l (is_closed t) (list_all is_closed vs) e)) (arguments_form vs ws q (and_r (is_closed t) (list_all is_closed vs) e))

  forms_normal : (ts us : List Ty) → Both (IsNormalForm n) ts us → AllNormal n us
  forms_normal ts us both_end = none
  forms_normal ts us (both_more t u vs ws p r) = more u ws p.normal (forms_normal vs ws r)

  forms_equal : (ts us : List Ty) → Both (IsNormalForm n) ts us → Both (Ways (Below n opaque)) ts us
  forms_equal ts us both_end = both_end
  forms_equal ts us (both_more t u vs ws p r) = both_more t u vs ws p.equal (forms_equal vs ws r)

  turned : (ts us : List Ty) → Both (Ways (Below n opaque)) ts us → Both (Ways (Below n opaque)) us ts
  turned ts us both_end = both_end
  turned ts us (both_more t u vs ws p r) = both_more u t ws vs (p.1, p.0) (turned vs ws r)

  -- equal arguments
  pub nominal_below : (k : ℕ) (ts us : List Ty) → Both (Ways (Below n opaque)) ts us → Below n opaque (V.Nominal k ts) (V.Nominal k us)
  nominal_below k ts us b =
      part_below n (V.Nominal k ts) (V.Nominal k us) (alts-nominal k ts) (alts-nominal k us)
      (by_nominal (V.Nominal k ts) (V.Nominal k us) k k ts ts us (outs-Nominal k ts) (outs-Nominal k us) (own_arguments n k ts) b)

  pub nominal_form : (k : ℕ) (ts us : List Ty) → Both (IsNormalForm n) ts us → IsNormalForm n (V.Nominal k ts) (V.Nominal k us)
  nominal_form k ts us f =
      let e = forms_equal ts us f in
      record {
        normal = normal_nominal (V.Nominal k us) k us (outs-Nominal k us) (forms_normal ts us f);
        equal = (nominal_below k ts us e, nominal_below k us ts (turned ts us e));
      }

  true_or : (b : Bool) → (b ≡ true) ⊎ (b ≡ false)
  true_or true = inl refl
  true_or false = inr refl

  pub argument_nominal : (t : Ty) (k : ℕ) (ts us : List Ty) → t ≡ V.Nominal k ts → ((ts : List Ty) → is_closed (V.Nominal k ts) ≡ list_all is_closed ts) → AllArguments n ts us → Argument n t (V.Nominal k us)
  argument_nominal t k ts us e c a = elim (true_or (is_closed t)) [
    | inl h ↦
        let g : list_all is_closed ts ≡ true = sym (ap is_closed e ∙ c ts) ∙ h in
        closed t (V.Nominal k us) h (subst (λ z. IsNormalForm n z (V.Nominal k us)) (sym e) (nominal_form k ts us (arguments_form ts us a g)))
    | inr h ↦ nominal t (V.Nominal k us) k ts us h (ap out-Ty e ∙ outs-Nominal k ts) (outs-Nominal k us) a
  ]

  pub argument_var : (t : Ty) (v : ℕ) → t ≡ W.Var v → Argument n t (W.Var v)
  argument_var t v e = subst (Argument n t) e (variable t v (ap out-Ty e ∙ outs-Var v))

  -- one more
  pub arguments_step : (ts : List Ty) (i : ℕ) (t u : Ty) (old new : List Ty) → i < length ts → t ≡ get_or ts i t → Argument n t u → new ≡ old ++ u ∷ []
      → ((us : List Ty) → AllArguments n (drop i ts) us → AllArguments n ts (old ++ us)) → (us : List Ty) → AllArguments n (drop (i + 1) ts) us → AllArguments n ts (new ++ us)
  arguments_step ts i t u old new lt e p s k us d =
      subst (AllArguments n ts) (sym (ap (λ z. z ++ us) s ∙ append_assoc old (u ∷ []) us))
      (k (u ∷ us) (subst (λ z. AllArguments n z (u ∷ us)) (sym (drop_is ts i t lt e)) (arguments_more t u (drop (i + 1) ts) us p d)))
    where
      drop_is : (ts : List Ty) (i : ℕ) (t : Ty) → i < length ts → t ≡ get_or ts i t → drop i ts ≡ t ∷ drop (i + 1) ts
      drop_is [] i t lt e = absurd (omega arith)
      drop_is (x ∷ xs) zero t lt e = ap (λ z. z ∷ xs) (sym e)
      drop_is (x ∷ xs) (suc i) t lt e = rw add-one (rw add-one at (drop_is xs i t (omega arith) e))

  pub arguments_done : (ts items : List Ty) (i : ℕ) → drop i ts ≡ [] → ((us : List Ty) → AllArguments n (drop i ts) us → AllArguments n ts (items ++ us)) → AllArguments n ts items
  arguments_done ts items i e k =
      subst (AllArguments n ts) (append-nil items) (k [] (subst (λ z. AllArguments n z []) (sym e) arguments_end))
