-- What operations on values answer, computed. That nothing else is answered is a law.
use Rattle.std.proofs.Common.{◌≡◌, ◌∙◌, refl, sym, ap, subst, ℕ, zero, suc, ℤ, pos, Bool, true, false, true≢false, codes, List, [], ◌∷◌, ◌++◌, Some, None, slice_get, arith, inr, map, inl}
use Rattle.std.specs.List.{Contains}
use Rattle.jl_model.specs.declared.ty.Ty.{Ty}
use Rattle.jl_model.specs.declared.ty.Ty.TheOpen as L
use Rattle.jl_model.specs.declared.ty.Ty.TheVariants as W
use Rattle.jl_model.specs.declared.ty.Ty.TheViews as T
use Rattle.jl_model.specs.declared.ty.Ty.TheViews.{rolls-Nominal, rolls-Tuple, outs-Nominal}
use Rattle.jl_model.specs.declared.ty.Ty.TheFolds.{fold-roll-Ty, para-roll-Ty}
use Rattle.jl_model.specs.declared.ty.Decl.{Decl}
use Rattle.jl_model.specs.declared.ty.DeclKind.TheVariants.{Struct}
use Rattle.jl_model.specs.declared.ty.Written.{Written}
use Rattle.jl_model.specs.Ancestors.{named, builtin_types, table_of}
use Rattle.jl_model.specs.Counts.{nodes, nodes_step}
use Rattle.jl_model.specs.Refusals.{Given}
use Rattle.jl_model.specs.SigRefusals.{TypeLimit}
use Rattle.jl_model.specs.Rows.{choices, free}
use Rattle.jl_model.specs.Signature.{Applicable, both_end, both_more}
use Rattle.jl_model.specs.Subtype.{opaque, Below}
use Rattle.jl_program.specs.declared.datum.Datum.{Datum}
use Rattle.jl_program.specs.declared.datum.Datum.TheOpen as D
use Rattle.jl_program.specs.declared.datum.Datum.TheFolds.{fold-roll-Datum}
use Rattle.jl_program.specs.declared.datum.Datum.TheViews.{out-roll-Datum}
use Rattle.jl_program.specs.declared.fault.Fault.TheVariants as F
use Rattle.jl_program.specs.declared.value.Value.{Value}
use Rattle.jl_program.specs.declared.value.Value.TheVariants as V
use Rattle.jl_program.specs.Making.{tuple_of, IsTooLargeType, IsTooLarge}
use Rattle.jl_program.specs.Meaning.{datum, value_of}
use Rattle.jl_program.specs.Measures as values
use Rattle.jl_program.specs.Prelude.{plain, int64, bool, two}
use Rattle.jl_program.specs.ValidValue.{kept_step, kept_type, tuple_type}
use Rattle.jl_program.proofs.FirstChoices.{int_put, int_forms, int_vars, int_below_int, applies_by, places_in}
use Rattle.jl_program.proofs.PlainSigs.{builtin, plain_valid}
use Rattle.jl_calculus.specs.declared.history.Outcome.{Outcome}
use Rattle.jl_calculus.specs.declared.history.Outcome.TheVariants as O
use Rattle.jl_calculus.specs.Answers.{Answer, tell}
use Rattle.jl_calculus.specs.Statics.{own_or_bound, with_statics, nominals_in, nominals_step, nominals_of, Breaks, IsBroken, IsFirstBroken}
use Rattle.jl_calculus.specs.Operations.{IsSame, field_of, part_of, make_tuple, with_type, test_type, test_order, test_same}
use Rattle.jl_calculus.proofs.ValueLemmas.{value_back}
use Rattle.jl_calculus.proofs.AnswerLemmas.{same_once}

abbrev int : ℕ → Value
int n = V.Int (pos n)

abbrev answer : Bool → Outcome
answer b = O.Value (V.Bool b)

-- ---- parts and fields

-- `(1, 2)`
abbrev pair : Value
pair = V.Tuple (record { ty = T.Tuple two; parts = datum (int 1) ∷ datum (int 2) ∷ [] })

-- `struct Box{T}; x::T end`, and `Box{Int64}(3)`
abbrev pub box : Decl
box = record { name = codes "Box"; kind = Struct; params = free ∷ []; parent = W.Any; fields = record { name = codes "x"; ty = W.Var 0 } ∷ [] }

abbrev pub types : List Decl
types = builtin_types ++ box ∷ []

abbrev pub boxed : Value
boxed = V.Struct (record { ty = T.Nominal 8 (int64 ∷ []); parts = datum (int 3) ∷ [] })

second_part : part_of types 2 pair ≡ O.Value (int 2)
second_part = ap O.Value (value_back (int 2))

-- `(1, 2)[3]`, and a part of no number
third_part : part_of types 3 pair ≡ O.Error (F.NoIndex (T.Tuple two) 3)
third_part = refl

no_part : part_of types 0 pair ≡ O.Error (F.NoIndex (T.Tuple two) 0)
no_part = refl

part_of_box : part_of types 1 boxed ≡ O.Error (F.NoIndex (T.Nominal 8 (int64 ∷ [])) 1)
part_of_box = refl

field_of_box : field_of types (codes "x") boxed ≡ O.Value (int 3)
field_of_box = rw (outs-Nominal 8 (int64 ∷ [])) (ap O.Value (value_back (int 3)))

other_field : field_of types (codes "y") boxed ≡ O.Error (F.NoField (T.Nominal 8 (int64 ∷ [])) (codes "y"))
other_field = rw (outs-Nominal 8 (int64 ∷ [])) refl

-- `(1, 2).x`
field_of_tuple : field_of types (codes "x") pair ≡ O.Error (F.NoField (T.Tuple two) (codes "x"))
field_of_tuple = refl

-- ---- `===`

-- `1 === 1`
same_numbers : test_same false (int 1) (int 1) (answer true)
same_numbers = (true, ((λ _. refl), (λ _. refl)), refl)

same_values : (u v : Value) → IsSame u v → u ≡ v
same_values u v e = sym (value_back u) ∙ ap value_of e ∙ value_back v

abbrev number : Value → ℤ
number (V.Int n) = n
number _ = pos 0

-- `1 !== 2`
other_numbers : test_same true (int 1) (int 2) (answer true)
other_numbers = (true, ((λ _ e. (let z : pos 1 ≡ pos 2 = ap number (same_values (int 1) (int 2) e) in absurd (cc))), (λ _. refl)), refl)

-- it is not answered otherwise
only_true : (o : Outcome) → test_same false (int 1) (int 1) o → o ≡ answer true
only_true o h = same_once false (int 1) (int 1) o (answer true) h same_numbers

-- `1 === true`
abbrev is_number : Value → Bool
is_number (V.Int n) = true
is_number _ = false

one_and_true : test_same false (int 1) (V.Bool true) (answer false)
one_and_true = (false, ((λ e. (let z : true ≡ false = sym e in absurd (cc))), (λ e. absurd (true≢false (ap is_number (same_values (int 1) (V.Bool true) e))))), refl)

-- ---- tuples

abbrev parts : List Datum
parts = datum (int 1) ∷ datum (V.Bool true) ∷ []

type_is : tuple_type parts ≡ T.Tuple (int64 ∷ bool ∷ [])
type_is = ap (λ (t : Ty). T.Tuple (t ∷ kept_type (datum (V.Bool true)) ∷ [])) (ap kept_step (out-roll-Datum (D.Int (pos 1))))
    ∙ ap (λ (t : Ty). T.Tuple (int64 ∷ t ∷ [])) (ap kept_step (out-roll-Datum (D.Bool true)))

pub one_node : (k : ℕ) → nodes (named k) ≡ 1
one_node k = ap nodes (sym (rolls-Nominal k [])) ∙ fold-roll-Ty ℕ nodes_step (L.Nominal k [])

type_nodes : nodes (tuple_type parts) ≡ 3
type_nodes =
    ap nodes type_is ∙ ap nodes (sym (rolls-Tuple (int64 ∷ bool ∷ []))) ∙ fold-roll-Ty ℕ nodes_step (L.Tuple (int64 ∷ bool ∷ []))
    ∙ rw (one_node 4, one_node 5) refl

pub leaf_nodes : (n : ℤ) → values.nodes (datum (V.Int n)) ≡ 1
leaf_nodes n = fold-roll-Datum ℕ values.nodes_step (D.Int n)

truth_nodes : (b : Bool) → values.nodes (datum (V.Bool b)) ≡ 1
truth_nodes b = fold-roll-Datum ℕ values.nodes_step (D.Bool b)

pub leaf_depth : (n : ℤ) → values.depth (datum (V.Int n)) ≡ 1
leaf_depth n = fold-roll-Datum ℕ values.depth_step (D.Int n)

truth_depth : (b : Bool) → values.depth (datum (V.Bool b)) ≡ 1
truth_depth b = fold-roll-Datum ℕ values.depth_step (D.Bool b)

tuple_nodes : values.nodes (datum (tuple_of parts)) ≡ 3
tuple_nodes = fold-roll-Datum ℕ values.nodes_step (D.Tuple (tuple_type parts) parts) ∙ rw (leaf_nodes (pos 1), truth_nodes true) refl

tuple_depth : values.depth (datum (tuple_of parts)) ≡ 2
tuple_depth = fold-roll-Datum ℕ values.depth_step (D.Tuple (tuple_type parts) parts) ∙ rw (leaf_depth (pos 1), truth_depth true) refl

-- `(1, true)`
one_true : make_tuple types (int 1 ∷ V.Bool true ∷ []) (O.Value (tuple_of parts))
one_true = inr (
  (λ e h. omega (arith, h.1, type_nodes)),
  inr ((λ e h. h.1 (omega (arith, tuple_nodes), omega (arith, tuple_depth))), refl),
)

-- ---- `1 isa Int64`

abbrev integer : Written
integer = plain (int64 ∷ [])

put_in : (statics : List Ty) → with_statics statics integer ≡ integer
put_in statics = ap (λ (t : Ty). plain (t ∷ [])) (int_put (own_or_bound statics 0))

int_nominals : nominals_in int64 ≡ int64 ∷ []
int_nominals = ap nominals_in (sym (rolls-Nominal 4 [])) ∙ para-roll-Ty (List Ty) nominals_step (L.Nominal 4 [])

int_applies : Applicable (table_of types) integer (int64 ∷ [])
int_applies =
    applies_by (table_of types) (int64 ∷ []) (int64 ∷ [])
    (subst (λ (cs : List (List Ty)). Contains cs (int64 ∷ [])) (sym (ap (λ fs. choices (fs ∷ [])) (int_forms (places_in (int64 ∷ []))))) (0, omega arith, refl))
    (ap (λ vs. vs ++ []) int_vars)
    (both_more int64 int64 [] [] (subst (λ (u : Ty). Below (table_of types) opaque int64 u) (sym (int_put _)) (int_below_int (table_of types))) both_end)

lone_member : (i : ℕ) (t : Ty) → slice_get (int64 ∷ []) i ≡ Some t → int64 ≡ t
lone_member zero t e = cc
lone_member (suc i) t e = let z : None ≡ Some t = e in absurd (cc)

nothing_given : (a : Given) → Contains [] a → ⊥
nothing_given a (k, l, e) = absurd (omega (arith, l))

unbroken : (t : Ty) → int64 ≡ t → IsBroken types t → ⊥
unbroken t e b =
    let h : Breaks types (L.Nominal 4 []) = subst (Breaks types) (outs-Nominal 4 []) (subst (IsBroken types) (sym e) b) in
    nothing_given h.0 h.1

small : TypeLimit types integer → ⊥
small = (plain_valid (box ∷ []) (int64 ∷ []) (builtin 4 (omega arith), tt) (omega arith)).allowed.small

not_broken : (t : Ty) → IsFirstBroken types (nominals_of integer) t → ⊥
not_broken t h =
    let e : slice_get (int64 ∷ []) h.place ≡ Some t = ap (λ (ts : List Ty). slice_get (ts ++ []) h.place) (sym int_nominals) ∙ h.there in
    unbroken t (lone_member h.place t e) h.broken

one_is_integer : (statics : List Ty) → test_type types statics (int 1) integer (answer true)
one_is_integer statics =
    let fact : with_type types integer (tell (Applicable (table_of types) integer (int64 ∷ []))) (answer true) =
    inr ((λ e h. small h.1), inr ((λ e h. not_broken h.0 h.2), (true, ((λ _. int_applies), (λ _. refl)), refl))) in
    subst (λ (t : Written). with_type types t (tell (Applicable (table_of types) t (int64 ∷ []))) (answer true)) (sym (put_in statics)) fact

-- ---- the order of refusals

-- a tuple's type comes before its size
type_first : (vs : List Value) → IsTooLargeType (map datum vs) → make_tuple types vs (O.Error F.TypeLimit)
type_first vs large = inl (F.TypeLimit, (refl, large), refl)

size_next : (vs : List Value) → (IsTooLargeType (map datum vs) → ⊥) → IsTooLarge (tuple_of (map datum vs)) → make_tuple types vs (O.Error F.ValueLimit)
size_next vs fits large = inr ((λ e h. fits h.1), inl (F.ValueLimit, (refl, large), refl))

-- a written type that is too large is refused before a declared bound is looked at, whatever is asked of it
large_first : (t : Written) (rest : Answer) → TypeLimit types t → with_type types t rest (O.Error F.TypeLimit)
large_first t rest large = inl (F.TypeLimit, (refl, large), refl)

-- of two types of `<:` the second may be at fault alone, and its size comes before the bounds of the first
either_first : (statics : List Ty) (t u : Written) → TypeLimit types (with_statics statics u) → test_order types statics t u (O.Error F.TypeLimit)
either_first statics t u large = inl (F.TypeLimit, (refl, inr large), refl)
