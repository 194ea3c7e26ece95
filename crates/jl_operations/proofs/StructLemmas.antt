-- What making a struct answers.
use Rattle.std.proofs.Common.{◌≡◌, ◌∙◌, sym, ap, subst, refl, ℕ, zero, suc, ◌<◌, inl, inr, arith, List, [], ◌∷◌, map, length, get_or, Some, slice_get}
use Rattle.std.proofs.lemmas.List.{length-map}
use Rattle.std.proofs.lemmas.List.Elements.{All-nil, All-cons}
use Rattle.jl_model.specs.declared.ty.Ty.{Ty, out-Ty}
use Rattle.jl_model.specs.declared.ty.Ty.TheOpen.{Ty-F, Any, Union, Tuple, Nominal, Var}
use Rattle.jl_model.specs.declared.ty.Ty.TheViews.{outs-Nominal}
use Rattle.jl_model.specs.declared.ty.Ty.TheViews as V
use Rattle.jl_model.specs.declared.ty.Ty.TheVariants as W
use Rattle.jl_model.specs.declared.ty.Field.{Field}
use Rattle.jl_model.specs.declared.ty.Decl.{Decl}
use Rattle.jl_model.specs.Ancestors.{table_of}
use Rattle.jl_model.specs.Kept.{field_types}
use Rattle.jl_model.specs.Signature.{Both, both_end, both_more}
use Rattle.jl_model.specs.Subtype.{opaque, put, at, Below}
use Rattle.jl_model.proofs.KnownLemmas.{known-any}
use Rattle.jl_model.proofs.TypeInduction.{Each}
use Rattle.jl_program.specs.declared.datum.Datum.{Datum, out-Datum}
use Rattle.jl_program.specs.declared.datum.Datum.TheOpen as D
use Rattle.jl_program.specs.declared.fault.Fault.{Fault}
use Rattle.jl_program.specs.declared.fault.Fault.TheVariants as F
use Rattle.jl_program.specs.declared.tree.Program.{Program}
use Rattle.jl_program.specs.declared.value.Value.{Value}
use Rattle.jl_program.specs.Making.{struct_of, IsTooLarge, IsFirstOther}
use Rattle.jl_program.specs.Meaning.{datum}
use Rattle.jl_program.specs.Measures.{IsWithinLimits}
use Rattle.jl_program.specs.Scope.{all_types}
use Rattle.jl_program.specs.TypeOf.{type_of}
use Rattle.jl_program.specs.Valid as program
use Rattle.jl_program.specs.ValidValue as valid
use Rattle.jl_program.specs.ValidValue.{kept_type, fields_of, fields_in, AreOf, IsValid, AllValid, int, truth, nothing, task, tuple, made, none, more}
use Rattle.jl_value.proofs.ValueLemmas.{out_datum}
use Rattle.jl_value.proofs.KeptLemmas.{kept_all}
use Rattle.jl_calculus.specs.declared.history.Outcome.{Outcome}
use Rattle.jl_calculus.specs.declared.history.Outcome.TheVariants as O
use Rattle.jl_calculus.specs.Operations.{fields_step, fields_at, within_limits, make_struct}
use Rattle.jl_calculus.specs.ValidHistory.{IsTypeOf, AreTypesOf, IsValidOutcome}
use Rattle.jl_calculus.proofs.ToldFaults.{other_is}
use Rattle.jl_operations.proofs.ValidLemmas.{type_known}

module _ (ds : List Decl) where
  fields_same : (x : Ty-F Ty) → length (valid.fields_step ds x) ≡ length (fields_step ds x)
  fields_same Any = refl
  fields_same (Union ts) = refl
  fields_same (Tuple ts) = refl
  fields_same (Var v) = refl
  fields_same (Nominal k xs) =
      let fs = fields_of (slice_get ds k) in
      length-map (field_types fs) (put (at xs)) ∙ length-map fs (λ (f : Field). f.ty)

  fields_long : (t : Ty) → length (fields_in ds t) ≡ length (fields_at ds t)
  fields_long t = fields_same (out-Ty t)

  both_long : (R : Ty → Ty → Type 0) (xs ys : List Ty) → Both R xs ys → length xs ≡ length ys
  both_long R xs ys both_end = refl
  both_long R xs ys (both_more x y vs ws p q) = ap suc (both_long R vs ws q)

  abbrev B : Ty → Ty → Type 0
  B = Below (table_of ds) opaque

  -- what a valid struct keeps
  struct_keeps : (d : Datum) (t : Ty) (ps : List Datum) → out-Datum d ≡ D.Struct t ps → IsValid ds d → AreOf ds ps (fields_in ds t) × IsWithinLimits d
  struct_keeps d t ps e (int a n f) = let g : D.Int n ≡ D.Struct t ps = sym f ∙ e in cc
  struct_keeps d t ps e (truth a b f) = let g : D.Bool b ≡ D.Struct t ps = sym f ∙ e in cc
  struct_keeps d t ps e (nothing a f) = let g : D.Nothing ≡ D.Struct t ps = sym f ∙ e in cc
  struct_keeps d t ps e (task a n f) = let g : D.Task n ≡ D.Struct t ps = sym f ∙ e in cc
  struct_keeps d t ps e (tuple a u qs f v k s w) = let g : D.Tuple u qs ≡ D.Struct t ps = sym f ∙ e in cc
  struct_keeps d t ps e (made a u qs f v s o w) =
      let g : D.Struct u qs ≡ D.Struct t ps = sym f ∙ e in
      let i : u ≡ t = cc in
      let j : qs ≡ ps = cc in
      (subst (λ z. AreOf ds z (fields_in ds t)) j (subst (λ z. AreOf ds qs (fields_in ds z)) i o), w)

  module _ (t : Ty) (vs : List Value) where
    abbrev ps : List Datum
    ps = map datum vs

    types_is : map kept_type ps ≡ map type_of vs
    types_is = kept_all vs

    of_types : AreOf ds ps (fields_in ds t) → Both B (map type_of vs) (fields_in ds t)
    of_types h = subst (λ z. Both B z (fields_in ds t)) types_is h

    counted : AreOf ds ps (fields_in ds t) → length vs ≡ length (fields_at ds t)
    counted h = sym (length-map vs type_of) ∙ both_long B (map type_of vs) (fields_in ds t) (of_types h) ∙ fields_long t

    pub struct_counted : Both B (map type_of vs) (fields_in ds t) → length vs ≡ length (fields_at ds t)
    struct_counted h = sym (length-map vs type_of) ∙ both_long B (map type_of vs) (fields_in ds t) h ∙ fields_long t

    -- the struct, or the fault that it is too large
    rest : (o : Outcome) → AreOf ds ps (fields_in ds t) → within_limits ds (struct_of t ps) o → make_struct ds t vs o
    rest o h w = inr ((λ e k. k.1 (counted h)), inr ((λ e k. other_is ds (map type_of vs) (fields_in ds t) k.0 k.1 (of_types h)), w))

    pub struct_told : (v : Value) (qs : List Datum) → qs ≡ ps → v ≡ struct_of t qs → IsValid ds (datum v) → make_struct ds t vs (O.Value v)
    struct_told v qs e f h =
        let g : v ≡ struct_of t ps = f ∙ ap (struct_of t) e in
        let k = struct_keeps (datum (struct_of t ps)) t ps (out_datum (struct_of t ps)) (subst (λ (z : Value). IsValid ds (datum z)) g h) in
        subst (λ (z : Value). make_struct ds t vs (O.Value z)) (sym g) (rest (O.Value (struct_of t ps)) k.0 (inr ((λ i j. j.1 k.1), refl)))

    pub large_told : (qs : List Datum) → qs ≡ ps → AreOf ds qs (fields_in ds t) → IsTooLarge (struct_of t qs) → make_struct ds t vs (O.Error F.ValueLimit)
    large_told qs e h l =
        rest (O.Error F.ValueLimit) (subst (λ z. AreOf ds z (fields_in ds t)) e h) (inl (F.ValueLimit, (refl, subst (λ z. IsTooLarge (struct_of t z)) e l), refl))

    lengths : (qs : List Datum) → qs ≡ ps → (length qs ≡ length (fields_in ds t)) ≡ (length vs ≡ length (fields_at ds t))
    lengths qs e = let a = ap length e ∙ length-map vs datum in let b = fields_long t in λ i. a i ≡ b i

    pub count_told : (qs : List Datum) (f : Fault) → qs ≡ ps → (length qs ≡ length (fields_in ds t) → ⊥) → f ≡ F.NoConstructor t (map type_of vs) → make_struct ds t vs (O.Error f)
    count_told qs f e n g =
        inl (f, (g, (λ h. n (subst (λ (Z : Type 0). Z) (sym (lengths qs e)) h))), refl)

    pub other_told : (qs : List Datum) (i : ℕ) (f : Fault) → qs ≡ ps → length qs ≡ length (fields_in ds t) → IsFirstOther ds (map kept_type qs) (fields_in ds t) i
        → f ≡ F.FieldType t (get_or (map (λ (x : Field). x.name) (fields_at ds t)) i []) (get_or (map type_of vs) i W.Any) → make_struct ds t vs (O.Error f)
    other_told qs i f e l h g =
        let m : length vs ≡ length (fields_at ds t) = subst (λ (Z : Type 0). Z) (lengths qs e) l in
        inr ((λ x k. k.1 m), inl (f, (i, subst (λ z. IsFirstOther ds z (fields_in ds t) i) (ap (map kept_type) e ∙ types_is) h, g), refl))

    pub place_field : (qs : List Datum) (i : ℕ) → IsFirstOther ds (map kept_type qs) (fields_in ds t) i → i < length (fields_at ds t)
    place_field qs i h = omega (arith, h.inside, fields_long t)

    pub place_value : (qs : List Datum) (i : ℕ) → qs ≡ ps → length qs ≡ length (fields_in ds t) → IsFirstOther ds (map kept_type qs) (fields_in ds t) i → i < length vs
    place_value qs i e l h = omega (arith, h.inside, l, ap length e, length-map vs datum)

-- the fields of a nominal type
pub nominal_fields : (ds : List Decl) (t : Ty) (k : ℕ) (xs : List Ty) (d : Decl) → t ≡ V.Nominal k xs → slice_get ds k ≡ Some d → fields_at ds t ≡ d.fields
nominal_fields ds t k xs d e f = ap (fields_step ds) (ap out-Ty e ∙ outs-Nominal k xs) ∙ ap fields_of f

-- ---- faults are valid

known_all : (P : Program) (ts : List Ty) → Each (λ t. IsTypeOf P t) ts → AreTypesOf P ts
known_all P [] e = All-nil (IsTypeOf P)
known_all P (t ∷ ts) e = All-cons (IsTypeOf P) t ts e.0 (known_all P ts e.1)

known_at : (P : Program) (ts : List Ty) (i : ℕ) → Each (λ t. IsTypeOf P t) ts → IsTypeOf P (get_or ts i W.Any)
known_at P [] i e = known-any (length (all_types P))
known_at P (t ∷ ts) zero e = e.0
known_at P (t ∷ ts) (suc i) e = known_at P ts i e.1

each_type : (P : Program) → program.IsValid P → (vs : List Value) → AllValid (all_types P) (map datum vs) → Each (λ t. IsTypeOf P t) (map type_of vs)
each_type P p [] a = tt
each_type P p (v ∷ vs) (more d ds h k) = (type_known P p v h, each_type P p vs k)

pub types_valid : (P : Program) → program.IsValid P → (vs : List Value) → AllValid (all_types P) (map datum vs) → AreTypesOf P (map type_of vs)
types_valid P p vs a = known_all P (map type_of vs) (each_type P p vs a)

same_fault : (P : Program) (f e : Fault) → O.Error f ≡ O.Error e → IsValidOutcome P (O.Error e) → IsValidOutcome P (O.Error f)
same_fault P f e i h = subst (IsValidOutcome P) (sym i) h

pub struct_fault_valid : (P : Program) → program.IsValid P → (t : Ty) (vs : List Value) (f : Fault) → IsTypeOf P t → AllValid (all_types P) (map datum vs) → make_struct (all_types P) t vs (O.Error f) → IsValidOutcome P (O.Error f)
struct_fault_valid P p t vs f k a (inl (e, (i, n), j)) =
    same_fault P f e j (subst (λ (z : Fault). IsValidOutcome P (O.Error z)) (sym i) (k, types_valid P p vs a))
struct_fault_valid P p t vs f k a (inr (n, inl (e, (m, h, i), j))) =
    same_fault P f e j (subst (λ (z : Fault). IsValidOutcome P (O.Error z)) (sym i) (k, known_at P (map type_of vs) m (each_type P p vs a)))
struct_fault_valid P p t vs f k a (inr (n, inr (m, inl (e, (i, l), j)))) = same_fault P f e j (subst (λ (z : Fault). IsValidOutcome P (O.Error z)) (sym i) tt)
struct_fault_valid P p t vs f k a (inr (n, inr (m, inr (l, j)))) = cc
