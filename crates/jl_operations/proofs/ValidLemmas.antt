-- Parts of valid values are valid, and the types of valid values are known.
use Rattle.std.proofs.Common.{◌≡◌, ◌∙◌, sym, ap, subst, refl, ℕ, zero, suc, Bool, true, false, cond, List, [], ◌∷◌, map, Option, None, Some, slice_get, ◌≤◌, arith, inr}
use Rattle.jl_model.specs.declared.ty.Ty.{Ty}
use Rattle.jl_model.specs.declared.ty.Field.{Field}
use Rattle.jl_model.specs.declared.ty.Decl.{Decl}
use Rattle.jl_model.specs.Counts as types
use Rattle.jl_program.specs.declared.datum.Datum.{Datum, out-Datum}
use Rattle.jl_program.specs.declared.datum.Datum.TheOpen.{Datum-F}
use Rattle.jl_program.specs.declared.datum.Datum.TheOpen as D
use Rattle.jl_program.specs.declared.tree.Program.{Program}
use Rattle.jl_program.specs.declared.fault.Fault.{Fault}
use Rattle.jl_program.specs.declared.fault.Fault.TheVariants as F
use Rattle.jl_program.specs.declared.value.Compound.{Compound}
use Rattle.jl_program.specs.declared.value.Value.{Value}
use Rattle.jl_program.specs.declared.value.Value.TheVariants as V
use Rattle.jl_program.specs.Making.{tuple_of}
use Rattle.jl_program.specs.Measures.{IsWithinLimits}
use Rattle.jl_program.specs.Meaning.{datum, value_of}
use Rattle.jl_program.specs.Names.{same_text}
use Rattle.jl_program.specs.Scope.{all_types}
use Rattle.jl_program.specs.TypeOf.{type_of}
use Rattle.jl_program.specs.Valid as program
use Rattle.jl_program.specs.ValidValue.{IsStructType, IsValid, AllValid, tuple_type, int, truth, nothing, task, tuple, made, more}
use Rattle.jl_value.proofs.ValueLemmas.{form, out_datum}
use Rattle.jl_value.proofs.KeptLemmas.{kept_is, value_type}
use Rattle.jl_calculus.proofs.ValueLemmas.{datum_back, value_back}
use Rattle.jl_calculus.specs.declared.history.Outcome.TheVariants as O
use Rattle.jl_calculus.specs.Operations.{part_or, part_named, part_at, fields_at, field_value, part_value, field_of, part_of, make_tuple}
use Rattle.jl_calculus.specs.ValidHistory.{IsTypeOf, IsValidValue, IsValidOutcome}

module _ (ds : List Decl) where
  -- what a valid struct keeps
  struct_inside : (d : Datum) (t : Ty) (ps : List Datum) → out-Datum d ≡ D.Struct t ps → IsValid ds d → AllValid ds ps × IsStructType ds t
  struct_inside d t ps e (int a n f) = let g : D.Int n ≡ D.Struct t ps = sym f ∙ e in cc
  struct_inside d t ps e (truth a b f) = let g : D.Bool b ≡ D.Struct t ps = sym f ∙ e in cc
  struct_inside d t ps e (nothing a f) = let g : D.Nothing ≡ D.Struct t ps = sym f ∙ e in cc
  struct_inside d t ps e (task a n f) = let g : D.Task n ≡ D.Struct t ps = sym f ∙ e in cc
  struct_inside d t ps e (tuple a u qs f v k s w) = let g : D.Tuple u qs ≡ D.Struct t ps = sym f ∙ e in cc
  struct_inside d t ps e (made a u qs f v s o w) =
      let g : D.Struct u qs ≡ D.Struct t ps = sym f ∙ e in
      let i : u ≡ t = cc in
      let j : qs ≡ ps = cc in
      (subst (AllValid ds) j v, subst (IsStructType ds) i s)

  -- what a valid tuple keeps
  tuple_inside : (d : Datum) (t : Ty) (ps : List Datum) → out-Datum d ≡ D.Tuple t ps → IsValid ds d → AllValid ds ps
  tuple_inside d t ps e (int a n f) = let g : D.Int n ≡ D.Tuple t ps = sym f ∙ e in cc
  tuple_inside d t ps e (truth a b f) = let g : D.Bool b ≡ D.Tuple t ps = sym f ∙ e in cc
  tuple_inside d t ps e (nothing a f) = let g : D.Nothing ≡ D.Tuple t ps = sym f ∙ e in cc
  tuple_inside d t ps e (task a n f) = let g : D.Task n ≡ D.Tuple t ps = sym f ∙ e in cc
  tuple_inside d t ps e (tuple a u qs f v k s w) =
      let g : D.Tuple u qs ≡ D.Tuple t ps = sym f ∙ e in
      let j : qs ≡ ps = cc in
      subst (AllValid ds) j v
  tuple_inside d t ps e (made a u qs f v s o w) = let g : D.Struct u qs ≡ D.Tuple t ps = sym f ∙ e in cc

  -- a part of valid parts
  named_valid : (name : List ℕ) (fs : List Field) (ps : List Datum) (d : Datum) → AllValid ds ps → part_named name fs ps ≡ Some d → IsValid ds d
  named_valid name [] ps d a e = let g : None ≡ Some d = e in cc
  named_valid name (f ∷ fs) [] d a e = let g : None ≡ Some d = e in cc
  named_valid name (f ∷ fs) (p ∷ ps) d (more q qs v w) e = by (λ h. named_valid name fs ps d w h) (same_text name f.name) e
    where
      by : (part_named name fs ps ≡ Some d → IsValid ds d) → (b : Bool) → cond b (Some p) (part_named name fs ps) ≡ Some d → IsValid ds d
      by rest true h = let g : p ≡ d = cc in subst (IsValid ds) g v
      by rest false h = rest h

  slice_valid : (ps : List Datum) (i : ℕ) (d : Datum) → AllValid ds ps → slice_get ps i ≡ Some d → IsValid ds d
  slice_valid [] i d a e = let g : None ≡ Some d = e in cc
  slice_valid (p ∷ ps) zero d (more q qs v w) e = let g : p ≡ d = cc in subst (IsValid ds) g v
  slice_valid (p ∷ ps) (suc i) d (more q qs v w) e = slice_valid ps i d w e

  part_valid : (number : ℕ) (ps : List Datum) (d : Datum) → AllValid ds ps → part_at number ps ≡ Some d → IsValid ds d
  part_valid zero ps d a e = let g : None ≡ Some d = e in cc
  part_valid (suc i) ps d a e = slice_valid ps i d a e

-- a struct keeps a struct type
pub struct_type : (ds : List Decl) (v : Value) (c : Compound) → v ≡ V.Struct c → IsValid ds (datum v) → IsStructType ds c.ty
struct_type ds v c e h = (struct_inside ds (datum v) c.ty c.parts (out_datum v ∙ ap form e) h).1

-- what stands in a field, or at a number, is valid
pub field_valid : (ds : List Decl) (name : List ℕ) (v : Value) (d : Datum) → IsValid ds (datum v) → field_value ds name v ≡ Some d → IsValid ds d
field_valid ds name (V.Int n) d h e = let g : None ≡ Some d = e in cc
field_valid ds name (V.Bool b) d h e = let g : None ≡ Some d = e in cc
field_valid ds name V.Nothing d h e = let g : None ≡ Some d = e in cc
field_valid ds name (V.Task n) d h e = let g : None ≡ Some d = e in cc
field_valid ds name (V.Tuple c) d h e = let g : None ≡ Some d = e in cc
field_valid ds name (V.Struct c) d h e =
    named_valid ds name (fields_at ds c.ty) c.parts d (struct_inside ds (datum (V.Struct c)) c.ty c.parts (out_datum (V.Struct c)) h).0 e

pub number_valid : (ds : List Decl) (number : ℕ) (v : Value) (d : Datum) → IsValid ds (datum v) → part_value ds number v ≡ Some d → IsValid ds d
number_valid ds number (V.Int n) d h e = let g : None ≡ Some d = e in cc
number_valid ds number (V.Bool b) d h e = let g : None ≡ Some d = e in cc
number_valid ds number V.Nothing d h e = let g : None ≡ Some d = e in cc
number_valid ds number (V.Task n) d h e = let g : None ≡ Some d = e in cc
number_valid ds number (V.Struct c) d h e = let g : None ≡ Some d = e in cc
number_valid ds number (V.Tuple c) d h e =
    part_valid ds number c.parts d (tuple_inside ds (datum (V.Tuple c)) c.ty c.parts (out_datum (V.Tuple c)) h) e

-- the type of a valid value
pub type_known : (P : Program) → program.IsValid P → (v : Value) → IsValidValue P v → IsTypeOf P (type_of v)
type_known P p v h = subst (IsTypeOf P) (kept_is v) (value_type (all_types P) p.decls (datum v) h).valid.known

-- the outcome of a part that is there, and of one that is not
part_given : (o : Option Datum) (e : Fault) (v w : Value) → o ≡ Some (datum v) → w ≡ v → O.Value w ≡ part_or o e
part_given o e v w h k = ap (λ (z : Value). O.Value z) k ∙ sym (ap (λ z. part_or z e) h ∙ ap (λ (z : Value). O.Value z) (value_back v))

part_missing : (o : Option Datum) (e f : Fault) → o ≡ None → f ≡ e → O.Error f ≡ part_or o e
part_missing o e f h k = ap (λ (z : Fault). O.Error z) k ∙ sym (ap (λ z. part_or z e) h)

same_field : (ds es : List Decl) (m n : List ℕ) (v : Value) → es ≡ ds → m ≡ n → field_value es m v ≡ field_value ds n v
same_field ds es m n v e f = ap (λ (z : List Decl). field_value z m v) e ∙ ap (λ (z : List ℕ). field_value ds z v) f

pub field_given : (ds es : List Decl) (m n : List ℕ) (v w x : Value) → es ≡ ds → m ≡ n → field_value es m v ≡ Some (datum w) → x ≡ w → O.Value x ≡ field_of ds n v
field_given ds es m n v w x e f h k = part_given (field_value ds n v) (F.NoField (type_of v) n) w x (sym (same_field ds es m n v e f) ∙ h) k

pub field_given_valid : (ds es : List Decl) (m n : List ℕ) (v w x : Value) → es ≡ ds → m ≡ n → field_value es m v ≡ Some (datum w) → x ≡ w → IsValid ds (datum v) → IsValid ds (datum x)
field_given_valid ds es m n v w x e f h k a = subst (λ (z : Value). IsValid ds (datum z)) (sym k) (field_valid ds n v (datum w) a (sym (same_field ds es m n v e f) ∙ h))

-- the field of a valid value is valid
pub given_valid : (ds : List Decl) (name : List ℕ) (w v : Value) → IsValid ds (datum w) → field_of ds name w ≡ O.Value v → IsValid ds (datum v)
given_valid ds name w v h e = by (field_value ds name w) refl e
  where
    by : (o : Option Datum) → field_value ds name w ≡ o → part_or o (F.NoField (type_of w) name) ≡ O.Value v → IsValid ds (datum v)
    by None is f = cc
    by (Some d) is f =
        let g : value_of d ≡ v = cc in
        subst (IsValid ds) (sym (datum_back d) ∙ ap datum g) (field_valid ds name w d h is)

pub first_valid : (ds : List Decl) (d : Datum) (rest : List Datum) → AllValid ds (d ∷ rest) → IsValid ds d
first_valid ds d rest (more a as_ v w) = v

pub field_missing : (ds es : List Decl) (m n o : List ℕ) (v : Value) (t u : Ty) → es ≡ ds → m ≡ n → field_value es m v ≡ None → o ≡ n → t ≡ u → u ≡ type_of v → O.Error (F.NoField t o) ≡ field_of ds n v
field_missing ds es m n o v t u e f h k i j =
    part_missing (field_value ds n v) (F.NoField (type_of v) n) (F.NoField t o) (sym (same_field ds es m n v e f) ∙ h) (ap (λ (z : Ty). F.NoField z o) (i ∙ j) ∙ ap (λ (z : List ℕ). F.NoField (type_of v) z) k)

pub number_given : (ds es : List Decl) (n : ℕ) (v w x : Value) → es ≡ ds → part_value es n v ≡ Some (datum w) → x ≡ w → O.Value x ≡ part_of ds n v
number_given ds es n v w x e h k = part_given (part_value ds n v) (F.NoIndex (type_of v) n) w x (sym (ap (λ (z : List Decl). part_value z n v) e) ∙ h) k

pub number_given_valid : (ds es : List Decl) (n : ℕ) (v w x : Value) → es ≡ ds → part_value es n v ≡ Some (datum w) → x ≡ w → IsValid ds (datum v) → IsValid ds (datum x)
number_given_valid ds es n v w x e h k a = subst (λ (z : Value). IsValid ds (datum z)) (sym k) (number_valid ds n v (datum w) a (sym (ap (λ (z : List Decl). part_value z n v) e) ∙ h))

pub copied_known : (P : Program) → program.IsValid P → (v : Value) (t u : Ty) → IsValidValue P v → t ≡ u → u ≡ type_of v → IsTypeOf P t
copied_known P p v t u h e f = subst (IsTypeOf P) (sym (e ∙ f)) (type_known P p v h)

pub truth_valid : (P : Program) (b : Bool) → IsValidOutcome P (O.Value (V.Bool b))
truth_valid P b = truth (datum (V.Bool b)) b (out_datum (V.Bool b))

-- ---- tuples

module _ (ds : List Decl) where
  -- a valid tuple is within the limits, and so is its type
  tuple_small : (d : Datum) (t : Ty) (ps : List Datum) → out-Datum d ≡ D.Tuple t ps → IsValid ds d → (types.nodes t ≤ 1024) × IsWithinLimits d
  tuple_small d t ps e (int a n f) = let g : D.Int n ≡ D.Tuple t ps = sym f ∙ e in cc
  tuple_small d t ps e (truth a b f) = let g : D.Bool b ≡ D.Tuple t ps = sym f ∙ e in cc
  tuple_small d t ps e (nothing a f) = let g : D.Nothing ≡ D.Tuple t ps = sym f ∙ e in cc
  tuple_small d t ps e (task a n f) = let g : D.Task n ≡ D.Tuple t ps = sym f ∙ e in cc
  tuple_small d t ps e (tuple a u qs f v k s w) =
      let g : D.Tuple u qs ≡ D.Tuple t ps = sym f ∙ e in
      let i : u ≡ t = cc in
      (subst (λ (z : Ty). types.nodes z ≤ 1024) i s, w)
  tuple_small d t ps e (made a u qs f v s o w) = let g : D.Struct u qs ≡ D.Tuple t ps = sym f ∙ e in cc

  tuple_told : (vs : List Value) → IsValid ds (datum (tuple_of (map datum vs))) → make_tuple ds vs (O.Value (tuple_of (map datum vs)))
  tuple_told vs h =
      let ps = map datum vs in
      let s = tuple_small (datum (tuple_of ps)) (tuple_type ps) ps (out_datum (tuple_of ps)) h in
      inr ((λ e k. omega (arith, k.1, s.0)), inr ((λ e k. k.1 s.1), refl))

  pub tuple_given : (vs : List Value) (ps : List Datum) (v : Value) → ps ≡ map datum vs → v ≡ tuple_of ps → IsValid ds (datum v) → make_tuple ds vs (O.Value v)
  tuple_given vs ps v e f h =
      let g : v ≡ tuple_of (map datum vs) = f ∙ ap tuple_of e in
      subst (λ (z : Value). make_tuple ds vs (O.Value z)) (sym g) (tuple_told vs (subst (λ (z : Value). IsValid ds (datum z)) g h))
