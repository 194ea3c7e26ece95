-- What stands for a variable of a signature, computed: `Box(3)` after `struct Box{T}; x::T end`, and the static parameter of
-- `pick(x::Box{T}, y::T) where T` for `pick(Box{Integer}(1), true)`.
use Rattle.std.proofs.Common.{◌≡◌, ◌∙◌, refl, sym, ap, subst, ℕ, zero, suc, ◌<◌, pos, Bool, true, ◌&&◌, List, [], ◌∷◌, ◌++◌, map, ◌⊎◌, get_or, slice_get, Option, Some, None, arith, inl, inr, length}
use Rattle.std.specs.List.{Contains}
use Rattle.jl_model.specs.declared.ty.Ty.{Ty}
use Rattle.jl_model.specs.declared.ty.Ty.TheOpen as L
use Rattle.jl_model.specs.declared.ty.Ty.TheVariants as W
use Rattle.jl_model.specs.declared.ty.Ty.TheViews as T
use Rattle.jl_model.specs.declared.ty.Ty.TheViews.{rolls-Nominal, rolls-Var, outs-Nominal}
use Rattle.jl_model.specs.declared.ty.Ty.TheFolds.{fold-roll-Ty, para-roll-Ty}
use Rattle.jl_model.specs.declared.ty.Written.{Written}
use Rattle.jl_model.specs.Ancestors.{named, table_of}
use Rattle.jl_model.specs.Bindings.{bindings}
use Rattle.jl_model.specs.Counts.{nodes}
use Rattle.jl_model.specs.Found.{find_arg, find_arg_step, find_inner, find_inner_step, find_outer, find_outer_step}
use Rattle.jl_model.specs.Kinds.{Places, places, places_step, plus, nowhere, below_nominal, kind_of, once}
use Rattle.jl_model.specs.Refusals.{Given, given_in, given_step, Between}
use Rattle.jl_model.specs.Rows.{choices, forms, forms_step, free, high, part_places, bound_places, kind, place_of, root, vars_in, Occurs, standing, bounding, components}
use Rattle.jl_model.specs.SigRefusals.{BoundBroken}
use Rattle.jl_model.specs.Signature.{Row, Applicable, Both, both_end, both_more}
use Rattle.jl_model.specs.Subtype.{Table, opaque, Below}
use Rattle.jl_model.specs.Valid.{params_of}
use Rattle.jl_model.specs.Usable.{outside_step, is_outside_unions, is_met, is_usable}
use Rattle.jl_model.proofs.BelowLemmas.{union_below}
use Rattle.jl_model.proofs.CountLemmas.{nodes-nominal}
use Rattle.jl_model.proofs.FormLemmas.{alts-any, put-any, vars-any}
use Rattle.jl_program.specs.declared.datum.Datum.TheOpen as D
use Rattle.jl_program.specs.declared.datum.Datum.TheFolds.{fold-roll-Datum}
use Rattle.jl_program.specs.declared.fault.Fault.TheVariants as F
use Rattle.jl_program.specs.declared.value.Value.TheVariants as V
use Rattle.jl_program.specs.Making.{struct_of}
use Rattle.jl_program.specs.Meaning.{datum}
use Rattle.jl_program.specs.Measures as values
use Rattle.jl_program.specs.Prelude.{plain, int64, bool}
use Rattle.jl_program.proofs.FirstChoices.{free_places, int_below_any}
use Rattle.jl_calculus.specs.declared.history.Outcome.TheVariants as O
use Rattle.jl_calculus.specs.Answers.{fault_where, refuse}
use Rattle.jl_calculus.specs.Operations.{within_limits, inferred, make_inferred}
use Rattle.jl_calculus.proofs.OperationExamples.{types, boxed, one_node, leaf_nodes, leaf_depth}

abbrev n : Table
n = table_of types

-- the signature of the fields: `(::T) where T`
abbrev fields : Written
fields = record { vars = free ∷ []; parts = W.Var 0 ∷ [] }

abbrev int_box : Ty
int_box = T.Nominal 8 (int64 ∷ [])

var_places : places 0 (W.Var 0) ≡ record { covariant = 1; invariant = 0 }
var_places = ap (places 0) (sym (rolls-Var 0)) ∙ fold-roll-Ty Places (places_step 0) (L.Var 0)

kind_is : kind fields 0 ≡ once
kind_is =
    let bounds = below_nominal (bound_places 0 fields.vars) in
    ap (λ p. kind_of (plus (plus p nowhere) bounds)) var_places
    ∙ ap (λ b. kind_of (plus (record { covariant = 1; invariant = 0 }) (below_nominal (plus b nowhere)))) (free_places 0)

abbrev at_places : ℕ → List Ty
at_places v = place_of fields v (kind fields v)

var_forms : forms at_places (W.Var 0) ≡ W.Any ∷ []
var_forms = ap (forms at_places) (sym (rolls-Var 0)) ∙ para-roll-Ty (List Ty) (forms_step at_places) (L.Var 0) ∙ ap (place_of fields 0) kind_is ∙ alts-any

abbrev row : Row
row = record { parts = W.Any ∷ []; chosen = λ v. W.Any }

no_number : (v : ℕ) → Contains [] v → ⊥
no_number v (k, l, e) = absurd (omega (arith, l))

any_bound : (w : ℕ) → vars_in (high fields w) ≡ []
any_bound zero = vars-any
any_bound (suc w) = vars-any

never : (v : ℕ) → Occurs fields v (W.Any ∷ []) → ⊥
never v (standing v1 us o) = no_number v (subst (λ (vs : List ℕ). Contains (map (root fields) (vs ++ [])) v) vars-any o)
never v (bounding v1 w us o c) = no_number v (subst (λ (vs : List ℕ). Contains vs v) (any_bound w) c)

admits : Applicable n fields (int64 ∷ [])
admits = (
  row,
  (λ v. W.Any),
  record {
    parts = subst (λ (ts : List Ty). Contains (choices (ts ∷ [])) (W.Any ∷ [])) (sym var_forms) (0, omega arith, refl);
    chosen = λ v k o. absurd (never v (standing v (W.Any ∷ []) o));
    other = λ v o. refl;
  },
  record { least = λ v o. absurd (never v o); most = λ v o. absurd (never v o); sure = λ v o. absurd (never v o) },
  (λ v. vars-any),
  both_more int64 W.Any [] [] (subst (λ (u : Ty). Below n opaque int64 u) (sym (put-any _)) (int_below_any n)) both_end,
)

-- ---- the binding of T

usable : is_usable fields 0 ≡ true
usable =
    ap (λ k. is_met k (part_places fields 0) && (is_outside_unions 0 (W.Var 0) && true)) kind_is
    ∙ ap (λ b. b && true) (ap (is_outside_unions 0) (sym (rolls-Var 0)) ∙ para-roll-Ty Bool (outside_step 0) (L.Var 0))

not_inner : (t : Ty) → find_inner n opaque 0 (W.Var 0) t ≡ None
not_inner t = ap (λ (f : Ty → Option Ty). f t) (ap (find_inner n opaque 0) (sym (rolls-Var 0)) ∙ para-roll-Ty (Ty → Option Ty) (find_inner_step n opaque 0) (L.Var 0))

outer : (t : Ty) → find_outer opaque 0 (W.Var 0) t ≡ Some t
outer t = ap (λ (f : Ty → Option Ty). f t) (ap (find_outer opaque 0) (sym (rolls-Var 0)) ∙ fold-roll-Ty (Ty → Option Ty) (find_outer_step opaque 0) (L.Var 0))

bound_to : bindings n fields (int64 ∷ []) ≡ int64 ∷ []
bound_to = rw (usable, not_inner int64, outer int64) refl

type_is : inferred types 8 (V.Int (pos 3) ∷ []) ≡ int_box
type_is = ap (λ (ts : List Ty). T.Nominal 8 ts) bound_to

-- ---- `Box(3)`

int_given : given_in int64 ≡ []
int_given = ap given_in (sym (rolls-Nominal 4 [])) ∙ para-roll-Ty (List Given) given_step (L.Nominal 4 [])

abbrev of_box : Given
of_box = record { of = 8; place = 0; ty = int64 }

box_given : given_in int_box ≡ of_box ∷ []
box_given = ap given_in (sym (rolls-Nominal 8 (int64 ∷ []))) ∙ para-roll-Ty (List Given) given_step (L.Nominal 8 (int64 ∷ [])) ∙ ap (λ (gs : List Given). of_box ∷ (gs ++ [])) int_given

only_given : (a : Given) → Contains (of_box ∷ []) a → of_box ≡ a
only_given a (zero, l, e) = e
only_given a (suc k, l, e) = absurd (omega (arith, l))

unbroken : BoundBroken types (plain (int_box ∷ [])) → ⊥
unbroken (a, c, shut, out) =
    let e : of_box ≡ a = only_given a (subst (λ (gs : List Given). Contains (gs ++ []) a) box_given c) in
    let within : Given → Type 0 = λ g. Between n (get_or (params_of (slice_get types g.of)) g.place free) g.ty in
    out (subst within e (union_below n [] int64 tt, int_below_any n))

three_nodes : values.nodes (datum (struct_of int_box (datum (V.Int (pos 3)) ∷ []))) ≡ 2
three_nodes = fold-roll-Datum ℕ values.nodes_step (D.Struct int_box (datum (V.Int (pos 3)) ∷ [])) ∙ rw (leaf_nodes (pos 3)) refl

three_depth : values.depth (datum (struct_of int_box (datum (V.Int (pos 3)) ∷ []))) ≡ 2
three_depth = fold-roll-Datum ℕ values.depth_step (D.Struct int_box (datum (V.Int (pos 3)) ∷ [])) ∙ rw (leaf_depth (pos 3)) refl

box_of_three : make_inferred types 8 (V.Int (pos 3) ∷ []) (O.Value boxed)
box_of_three =
    let ok : Ty → Type 0 = λ t. refuse (fault_where (F.NoConstructor (T.Nominal 8 []) (int64 ∷ [])) ((Applicable n fields (int64 ∷ []) → ⊥) ⊎ BoundBroken types (plain (t ∷ []))))
    (refuse (fault_where F.TypeLimit (1024 < nodes t)) (within_limits types (struct_of t (datum (V.Int (pos 3)) ∷ [])))) (O.Value boxed) in
    subst ok (sym type_is) (inr (
      (λ e h. refused h.1),
      inr (
        (λ e h. omega (arith, h.1, nodes-nominal 8 (int64 ∷ []), one_node 4)),
        inr ((λ e h. h.1 (omega (arith, three_nodes), omega (arith, three_depth))), refl),
      ),
    ))
  where
    refused : (Applicable n fields (int64 ∷ []) → ⊥) ⊎ BoundBroken types (plain (int_box ∷ [])) → ⊥
    refused (inl none) = none admits
    refused (inr broken) = unbroken broken

-- ---- `pick(Box{Integer}(1), true)`: T is what stands in the box

abbrev pick : Written
pick = record { vars = free ∷ []; parts = T.Nominal 8 (W.Var 0 ∷ []) ∷ W.Var 0 ∷ [] }

abbrev integers : Ty
integers = T.Nominal 8 (named 2 ∷ [])

arg_var : (t : Ty) → find_arg 0 (W.Var 0) t ≡ Some t
arg_var t = ap (λ (f : Ty → Option Ty). f t) (ap (find_arg 0) (sym (rolls-Var 0)) ∙ fold-roll-Ty (Ty → Option Ty) (find_arg_step 0) (L.Var 0))

in_box : find_inner n opaque 0 (T.Nominal 8 (W.Var 0 ∷ [])) integers ≡ Some (named 2)
in_box =
    ap (λ (f : Ty → Option Ty). f integers) (ap (find_inner n opaque 0) (sym (rolls-Nominal 8 (W.Var 0 ∷ []))) ∙ para-roll-Ty (Ty → Option Ty) (find_inner_step n opaque 0) (L.Nominal 8 (W.Var 0 ∷ [])))
    ∙ rw (outs-Nominal 8 (named 2 ∷ []), arg_var (named 2)) refl

abbrev both_places : Places
both_places = record { covariant = 1; invariant = 1 }

pick_places : part_places pick 0 ≡ both_places
pick_places =
    ap (λ p. plus p (plus (places 0 (W.Var 0)) nowhere)) (ap (places 0) (sym (rolls-Nominal 8 (W.Var 0 ∷ []))) ∙ fold-roll-Ty Places (places_step 0) (L.Nominal 8 (W.Var 0 ∷ [])))
    ∙ ap (λ p. plus (below_nominal (plus p nowhere)) (plus p nowhere)) var_places

pick_met : is_met (kind pick 0) (part_places pick 0) ≡ true
pick_met =
    ap (λ p. is_met (kind_of (plus p (below_nominal (bound_places 0 pick.vars)))) p) pick_places
    ∙ ap (λ b. is_met (kind_of (plus both_places (below_nominal (plus b nowhere)))) both_places) (free_places 0)

pick_usable : is_usable pick 0 ≡ true
pick_usable =
    rw (
      pick_met,
      ap (is_outside_unions 0) (sym (rolls-Nominal 8 (W.Var 0 ∷ []))) ∙ para-roll-Ty Bool (outside_step 0) (L.Nominal 8 (W.Var 0 ∷ [])),
      ap (is_outside_unions 0) (sym (rolls-Var 0)) ∙ para-roll-Ty Bool (outside_step 0) (L.Var 0),
    ) refl

picked : bindings n pick (integers ∷ bool ∷ []) ≡ named 2 ∷ []
picked = rw (pick_usable, in_box) refl

-- ---- `Box(1, 2)`: there are more arguments than fields

one_row : (r : List Ty) → Contains (components fields) r → W.Any ∷ [] ≡ r
one_row r c = only (subst (λ (ts : List Ty). Contains (choices (ts ∷ [])) r) var_forms c)
  where
    only : Contains ((W.Any ∷ []) ∷ []) r → W.Any ∷ [] ≡ r
    only (zero, l, e) = e
    only (suc k, l, e) = absurd (omega (arith, l))

too_many : (Q : Ty → Ty → Type 0) (t u : Ty) (r : List Ty) → W.Any ∷ [] ≡ r → Both Q (t ∷ u ∷ []) r → ⊥
too_many Q t u r e h = let n : ◌≡◌ {A = ℕ} 2 1 = same_length Q (t ∷ u ∷ []) r h ∙ ap length (sym e) in absurd (omega (arith, n))
  where
    same_length : (Q : Ty → Ty → Type 0) (xs ys : List Ty) → Both Q xs ys → length xs ≡ length ys
    same_length Q xs ys both_end = refl
    same_length Q xs ys (both_more x y us vs p q) = ap suc (same_length Q us vs q)

admits_no_two : Applicable n fields (int64 ∷ int64 ∷ []) → ⊥
admits_no_two (r, f, is, serves, shut, parts) = too_many _ int64 int64 r.parts (one_row r.parts is.parts) parts

box_of_two : make_inferred types 8 (V.Int (pos 1) ∷ V.Int (pos 2) ∷ []) (O.Error (F.NoConstructor (T.Nominal 8 []) (int64 ∷ int64 ∷ [])))
box_of_two = inl (F.NoConstructor (T.Nominal 8 []) (int64 ∷ int64 ∷ []), (refl, inl admits_no_two), refl)
