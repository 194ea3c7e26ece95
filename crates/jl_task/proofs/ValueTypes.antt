-- The types of valid values: they are those that a key and a fault may have, and that a static parameter may have.
use Rattle.std.proofs.Common.{◌≡◌, refl, sym, ap, subst, ℕ, ℤ, zero, suc, ◌<◌, ◌≤◌, Bool, All, List, [], ◌∷◌, map, length, get_or}
use Rattle.std.proofs.lemmas.List.{length-map}
use Rattle.std.proofs.lemmas.List.Elements.{All-nil, All-cons}
use Rattle.jl_model.specs.declared.limits.TheConstants.{MOST_ARGUMENTS}
use Rattle.jl_model.specs.Refusals.{Declared}
use Rattle.jl_model.proofs.TypeInduction.{Each}
use Rattle.jl_program.specs.declared.datum.Datum.{Datum}
use Rattle.jl_program.specs.declared.datum.Datum.TheOpen as T
use Rattle.jl_program.specs.declared.datum.Datum.TheViews.{roll-Datum, out-roll-Datum}
use Rattle.jl_program.specs.declared.value.Value.{Value}
use Rattle.jl_program.specs.declared.value.Value.TheVariants as V
use Rattle.jl_program.specs.declared.tree.Program.{Program}
use Rattle.jl_program.specs.Meaning.{datum}
use Rattle.jl_program.specs.Scope.{all_types}
use Rattle.jl_program.specs.TypeOf.{type_of}
use Rattle.jl_program.specs.ValidValue.{kept_type, kept_step, IsValueType, IsValid, AllValid, none, more, int, truth, nothing, task}
use Rattle.jl_value.proofs.KeptLemmas.{value_type}
use Rattle.jl_calculus.specs.Legal.{IsKeyOf}
use Rattle.jl_calculus.specs.ValidHistory.{IsTypeOf, AreTypesOf, IsValidValue}
use Rattle.jl_calculus.specs.ValidStart.{IsStaticType}
use Rattle.jl_task.specs.ValidPoint.{AreValidValues}

-- a value keeps its type
pub type_kept : (v : Value) → kept_type (datum v) ≡ type_of v
type_kept (V.Int n) = ap kept_step (out-roll-Datum (T.Int n))
type_kept (V.Bool b) = ap kept_step (out-roll-Datum (T.Bool b))
type_kept V.Nothing = ap kept_step (out-roll-Datum T.Nothing)
type_kept (V.Task n) = ap kept_step (out-roll-Datum (T.Task n))
type_kept (V.Tuple c) = ap kept_step (out-roll-Datum (T.Tuple c.ty c.parts))
type_kept (V.Struct c) = ap kept_step (out-roll-Datum (T.Struct c.ty c.parts))

module _ (P : Program) where
  -- ---- values that are there without parts

  pub int_valid : (n : ℤ) → IsValidValue P (V.Int n)
  int_valid n = int (roll-Datum (T.Int n)) n (out-roll-Datum (T.Int n))

  pub bool_valid : (b : Bool) → IsValidValue P (V.Bool b)
  bool_valid b = truth (roll-Datum (T.Bool b)) b (out-roll-Datum (T.Bool b))

  pub nothing_valid : IsValidValue P V.Nothing
  nothing_valid = nothing (roll-Datum T.Nothing) (out-roll-Datum T.Nothing)

  pub task_valid : (n : ℕ) → IsValidValue P (V.Task n)
  task_valid n = task (roll-Datum (T.Task n)) n (out-roll-Datum (T.Task n))

  -- ---- lists of values

  pub values_valid : (vs : List Value) → AreValidValues P vs → AllValid (all_types P) (map datum vs)
  values_valid [] h = none
  values_valid (v ∷ vs) h = more (datum v) (map datum vs) h.0 (values_valid vs h.1)

  every_valid : (vs : List Value) (ds : List Datum) → AllValid (all_types P) ds → ds ≡ map datum vs → AreValidValues P vs
  every_valid [] ds h e = tt
  every_valid (v ∷ vs) ds none e = cc
  every_valid (v ∷ vs) ds (more d ps p q) e =
      let f : d ≡ datum v = cc in
      let g : ps ≡ map datum vs = cc in
      (subst (IsValid (all_types P)) f p, every_valid vs ps q g)

  pub valid_values : (vs : List Value) → AllValid (all_types P) (map datum vs) → AreValidValues P vs
  valid_values vs h = every_valid vs (map datum vs) h refl

  pub value_at_valid : (vs : List Value) (i : ℕ) → AreValidValues P vs → IsValidValue P (get_or vs i V.Nothing)
  value_at_valid [] i h = nothing_valid
  value_at_valid (v ∷ vs) zero h = h.0
  value_at_valid (v ∷ vs) (suc i) h = value_at_valid vs i h.1

  module _ (declared : Declared (all_types P)) where
    -- ---- their types

    pub type_is_value_type : (v : Value) → IsValidValue P v → IsValueType (all_types P) (type_of v)
    type_is_value_type v h = subst (IsValueType (all_types P)) (type_kept v) (value_type (all_types P) declared (datum v) h)

    pub type_is_known : (v : Value) → IsValidValue P v → IsTypeOf P (type_of v)
    type_is_known v h = (type_is_value_type v h).valid.known

    pub type_is_static : (v : Value) → IsValidValue P v → IsStaticType (all_types P) (type_of v)
    type_is_static v h = let t = type_is_value_type v h in record { normal = t.normal; valid = t.valid; closed = t.closed }

    pub types_are_static : (vs : List Value) → AreValidValues P vs → Each (IsStaticType (all_types P)) (map type_of vs)
    types_are_static [] h = tt
    types_are_static (v ∷ vs) h = (type_is_static v h.0, types_are_static vs h.1)

    pub types_are_known : (vs : List Value) → AreValidValues P vs → AreTypesOf P (map type_of vs)
    types_are_known [] h = All-nil (IsTypeOf P)
    types_are_known (v ∷ vs) h = All-cons (IsTypeOf P) (type_of v) (map type_of vs) (type_is_known v h.0) (types_are_known vs h.1)

    pub types_are_value_types : (vs : List Value) → AreValidValues P vs → All (IsValueType (all_types P)) (map type_of vs)
    types_are_value_types [] h = All-nil (IsValueType (all_types P))
    types_are_value_types (v ∷ vs) h = All-cons (IsValueType (all_types P)) (type_of v) (map type_of vs) (type_is_value_type v h.0) (types_are_value_types vs h.1)

    -- a call of a function of the program has a key
    pub key_of_call : (f : ℕ) (vs : List Value) → f < length P.functions → length vs ≤ MOST_ARGUMENTS → AreValidValues P vs → IsKeyOf P (record { function = f; types = map type_of vs })
    key_of_call f vs l few h = record { function = l; few = subst (λ n. n ≤ MOST_ARGUMENTS) (sym (length-map vs type_of)) few; types = types_are_value_types vs h }
