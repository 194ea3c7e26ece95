-- Steps of making tuples and structs.
use Rattle.std.proofs.Common.{◌≡◌, ◌∙◌, sym, ap, subst, refl, ℕ, zero, suc, ◌+◌, ◌-◌, ◌<◌, ◌≤◌, arith, add-one, min, List, [], ◌∷◌, ◌++◌, map, length, drop, take, get_or, Some, slice_get, Result, Ok, Err, IfOk, OnOk}
use Rattle.jl_model.specs.declared.ty.Ty.{Ty}
use Rattle.jl_model.specs.declared.ty.Ty.TheViews.{out-Ty, outs-Nominal}
use Rattle.jl_model.specs.declared.ty.Ty.TheViews as V
use Rattle.jl_model.specs.declared.ty.Ty.TheVariants as W
use Rattle.jl_model.specs.declared.ty.Decl.{Decl}
use Rattle.jl_model.specs.declared.ty.Field.{Field}
use Rattle.jl_model.specs.Ancestors.{table_of}
use Rattle.jl_model.specs.Counts.{total, nodes}
use Rattle.jl_model.specs.Kept.{field_types}
use Rattle.jl_model.specs.Signature.{Both, both_end, both_more}
use Rattle.jl_model.specs.Subtype.{opaque, put, at, Below}
use Rattle.jl_model.proofs.CountLemmas.{nodes-tuple}
use Rattle.jl_program.specs.declared.datum.Datum.{Datum}
use Rattle.jl_program.specs.declared.value.Compound.{Compound}
use Rattle.jl_program.specs.declared.value.Value.{Value}
use Rattle.jl_program.specs.Meaning.{datum}
use Rattle.jl_program.specs.TypeOf.{type_of}
use Rattle.jl_program.specs.declared.value.Value.TheVariants as U
use Rattle.jl_program.specs.Measures.{IsWithinLimits}
use Rattle.jl_value.specs.declared.made.MakeFault.{MakeFault}
use Rattle.jl_value.specs.declared.made.MakeFault.TheVariants.{TypeLimit, FieldCount, FieldType, ValueLimit, Memory}
use Rattle.jl_program.specs.ValidValue.{kept_type, tuple_type, fields_in, fields_step, fields_of, IsStructType, AreOf, IsValid, AllValid, tuple, made}
use Rattle.jl_program.specs.Making.{IsTooLargeType, IsFirstOther}
use Rattle.jl_value.specs.Answers.{OtherCause, PartsCause}
use Rattle.jl_value.proofs.ValueLemmas.{out_datum}
use Rattle.jl_value.proofs.KeptLemmas.{kept_all}

-- the nodes of the types of values from a place on
types_suc : (vs : List Value) (i : ℕ) (v : Value) → i < length vs → v ≡ get_or vs i v → total (map nodes (map type_of (drop i vs))) ≡ nodes (type_of v) + total (map nodes (map type_of (drop (i + 1) vs)))
types_suc [] i v lt e = absurd (omega arith)
types_suc (w ∷ ws) zero v lt e = let f : nodes (type_of v) ≡ nodes (type_of w) = ap (λ z. nodes (type_of z)) e in omega (arith, f)
types_suc (w ∷ ws) (suc i) v lt e = rw add-one (rw add-one at (types_suc ws i v (omega arith) e))

pub too_large : (vs : List Value) (i count more : ℕ) (v : Value) (t : Ty) → count ≤ 1024 → count + total (map nodes (map type_of (drop i vs))) ≡ 1 + total (map nodes (map type_of vs))
    → i < length vs → v ≡ get_or vs i v → t ≡ type_of v → more ≡ min (nodes t) ((1024 - count) + 1) → 1024 < count + more → IsTooLargeType (map datum vs)
too_large vs i count more v t le inv lt e f is past =
    let s = types_suc vs i v lt e in
    let k : nodes (tuple_type (map datum vs)) ≡ 1 + total (map nodes (map type_of vs)) = nodes-tuple (map kept_type (map datum vs)) ∙ ap (λ ts. 1 + total (map nodes ts)) (kept_all vs) in
    let n : nodes t ≡ nodes (type_of v) = ap nodes f in
    omega (arith, s, k, n, le, inv, is, past)

append_none : (ts us : List Ty) → us ≡ [] → (ts ++ us) ≡ ts
append_none [] us e = e
append_none (t ∷ ts) us e = ap (λ zs. t ∷ zs) (append_none ts us e)

types_whole : (vs : List Value) (i : ℕ) (ts : List Ty) → (ts ++ map type_of (drop i vs)) ≡ map type_of vs → drop i vs ≡ [] → ts ≡ map type_of vs
types_whole vs i ts inv e = sym (append_none ts (map type_of (drop i vs)) (ap (map type_of) e)) ∙ inv

pub made_type : (vs : List Value) (i : ℕ) (ts us : List Ty) → (ts ++ map type_of (drop i vs)) ≡ map type_of vs → drop i vs ≡ [] → us ≡ ts → V.Tuple us ≡ tuple_type (map datum vs)
made_type vs i ts us inv e f = ap (λ z. V.Tuple z) (f ∙ types_whole vs i ts inv e ∙ sym (kept_all vs))

pub small_type : (vs : List Value) (i count : ℕ) (ts us : List Ty) → (ts ++ map type_of (drop i vs)) ≡ map type_of vs → drop i vs ≡ [] → us ≡ ts → count ≤ 1024
    → count + total (map nodes (map type_of (drop i vs))) ≡ 1 + total (map nodes (map type_of vs)) → nodes (V.Tuple us) ≤ 1024
small_type vs i count ts us inv e f le sum =
    let k = nodes-tuple us in
    let u = ap (λ z. total (map nodes z)) (f ∙ types_whole vs i ts inv e) in
    let z = ap (λ z. total (map nodes (map type_of z))) e in
    omega (arith, k, u, z, le, sum)

-- lists up to a place, and up to the next one
module _ (P : Ty → Ty → Type 0) where
  pub both_take : (xs ys : List Ty) (i : ℕ) (d e : Ty) → i < length xs → i < length ys → Both P (take i xs) (take i ys) → P (get_or xs i d) (get_or ys i e) → Both P (take (i + 1) xs) (take (i + 1) ys)
  both_take [] ys i d e p q b h = absurd (omega arith)
  both_take (x ∷ xs) [] i d e p q b h = absurd (omega arith)
  both_take (x ∷ xs) (y ∷ ys) zero d e p q b h = both_more x y [] [] h both_end
  both_take (x ∷ xs) (y ∷ ys) (suc i) d e p q b h =
      let r = uncons x y (take i xs) (take i ys) b in
      rw add-one (both_more x y (take (suc i) xs) (take (suc i) ys) r.0 (rw add-one at (both_take xs ys i d e (omega arith) (omega arith) r.1 h)))
    where
      uncons : (x y : Ty) (xs ys : List Ty) → Both P (x ∷ xs) (y ∷ ys) → P x y × Both P xs ys
      uncons x y xs ys (both_more a b vs ws p q) = (p, q)

  take_all : (xs : List Ty) (i : ℕ) → length xs ≤ i → take i xs ≡ xs
  take_all [] zero h = refl
  take_all [] (suc i) h = refl
  take_all (x ∷ xs) zero h = absurd (omega arith)
  take_all (x ∷ xs) (suc i) h = ap (λ z. x ∷ z) (take_all xs i (omega arith))

  pub both_whole : (xs ys : List Ty) (i : ℕ) → length xs ≤ i → length ys ≤ i → Both P (take i xs) (take i ys) → Both P xs ys
  both_whole xs ys i p q b = subst (λ z. Both P z ys) (take_all xs i p) (subst (λ z. Both P (take i xs) z) (take_all ys i q) b)

-- what stands at a place
pub type_at : (vs : List Value) (i : ℕ) (v : Value) (d : Ty) → i < length vs → v ≡ get_or vs i v → get_or (map type_of vs) i d ≡ type_of v
type_at [] i v d lt e = absurd (omega arith)
type_at (w ∷ ws) zero v d lt e = ap type_of (sym e)
type_at (w ∷ ws) (suc i) v d lt e = type_at ws i v d (omega arith) e

pub field_at : (f : Ty → Ty) (fs : List Field) (i : ℕ) (x : Field) (d : Ty) → i < length fs → x ≡ get_or fs i x → get_or (map f (field_types fs)) i d ≡ f x.ty
field_at f [] i x d lt e = absurd (omega arith)
field_at f (y ∷ ys) zero x d lt e = ap (λ z. f z.ty) (sym e)
field_at f (y ∷ ys) (suc i) x d lt e = field_at f ys i x d (omega arith) e

pub field_type_at : (fs : List Field) (i : ℕ) (x : Field) → i < length fs → x ≡ get_or fs i x → x.ty ≡ get_or (field_types fs) i x.ty
field_type_at [] i x lt e = absurd (omega arith)
field_type_at (y ∷ ys) zero x lt e = ap (λ z. z.ty) e
field_type_at (y ∷ ys) (suc i) x lt e = field_type_at ys i x (omega arith) e

pub types_long : (vs : List Value) → length (map type_of vs) ≡ length vs
types_long [] = refl
types_long (v ∷ vs) = ap suc (types_long vs)

pub fields_long : (f : Ty → Ty) (fs : List Field) → length (map f (field_types fs)) ≡ length fs
fields_long f [] = refl
fields_long f (y ∷ ys) = ap suc (fields_long f ys)

pub first_other : (ds : List Decl) (vs : List Value) (fs : List Field) (f : Ty → Ty) (i : ℕ) (v : Value) (x : Field) (t : Ty) → length vs ≡ length fs
    → Both (Below (table_of ds) opaque) (take i (map type_of vs)) (take i (map f (field_types fs))) → i < length fs → v ≡ get_or vs i v → x ≡ get_or fs i x → t ≡ type_of v
    → (Below (table_of ds) opaque t (f x.ty) → ⊥) → IsFirstOther ds (map kept_type (map datum vs)) (map f (field_types fs)) i
first_other ds vs fs f i v x t long before lt e g h never =
    let B = Below (table_of ds) opaque in
    subst (λ z. IsFirstOther ds z (map f (field_types fs)) i) (sym (kept_all vs)) (record {
      inside = omega (arith, lt, fields_long f fs);
      before = before;
      other = λ b. never (subst (λ z. B z (f x.ty)) (type_at vs i v W.Any (omega (arith, lt, long)) e ∙ sym h) (subst (B (get_or (map type_of vs) i W.Any)) (field_at f fs i x W.Any lt g) b));
    })

pub next_of : (ds : List Decl) (vs : List Value) (fs : List Field) (f : Ty → Ty) (i : ℕ) (v : Value) (x : Field) (t : Ty) → length vs ≡ length fs
    → Both (Below (table_of ds) opaque) (take i (map type_of vs)) (take i (map f (field_types fs))) → i < length fs → v ≡ get_or vs i v → x ≡ get_or fs i x → t ≡ type_of v
    → Below (table_of ds) opaque t (f x.ty) → Both (Below (table_of ds) opaque) (take (i + 1) (map type_of vs)) (take (i + 1) (map f (field_types fs)))
next_of ds vs fs f i v x t long before lt e g h is =
    let B = Below (table_of ds) opaque in
    both_take B (map type_of vs) (map f (field_types fs)) i W.Any W.Any (omega (arith, lt, long, types_long vs)) (omega (arith, lt, fields_long f fs)) before
    (subst (λ z. B z (get_or (map f (field_types fs)) i W.Any)) (h ∙ sym (type_at vs i v W.Any (omega (arith, lt, long)) e)) (subst (B t) (sym (field_at f fs i x W.Any lt g)) is))

pub all_of : (ds : List Decl) (vs : List Value) (fs : List Field) (f : Ty → Ty) (i : ℕ) → length vs ≡ length fs
    → Both (Below (table_of ds) opaque) (take i (map type_of vs)) (take i (map f (field_types fs))) → length fs ≤ i → Both (Below (table_of ds) opaque) (map kept_type (map datum vs)) (map f (field_types fs))
all_of ds vs fs f i long before le =
    let B = Below (table_of ds) opaque in
    subst (λ z. Both B z (map f (field_types fs))) (sym (kept_all vs))
    (both_whole B (map type_of vs) (map f (field_types fs)) i (omega (arith, le, long, types_long vs)) (omega (arith, le, fields_long f fs)) before)

-- the fields of a struct type
pub fields_are : (ds : List Decl) (t : Ty) (k : ℕ) (xs vs : List Ty) (d : Decl) (fs : List Field) → t ≡ V.Nominal k xs → vs ≡ xs → slice_get ds k ≡ Some d → fs ≡ d.fields → fields_in ds t ≡ map (put (at vs)) (field_types fs)
fields_are ds t k xs vs d fs e f g h =
    ap (fields_step ds) (ap out-Ty e ∙ outs-Nominal k xs) ∙ ap (λ o. map (put (at xs)) (field_types (fields_of o))) g ∙ ap (λ z. map (put (at z)) (field_types d.fields)) (sym f)
    ∙ ap (λ z. map (put (at vs)) (field_types z)) (sym h)

-- a value that is within the limits
pub made_valid : {E : Type 0} (P : Value → Type 0) (r : Result Value E) (v : Value) (L : Type 0) → IfOk r (λ w. w ≡ v) → OnOk r L → (L → P v) → IfOk r P
made_valid P (Ok w) v L e l f = subst P (sym e) (f l)
made_valid P (Err x) v L e l f = e

pub fields_count : (fs : List Field) → length (field_types fs) ≡ length fs
fields_count [] = refl
fields_count (y ∷ ys) = ap suc (fields_count ys)

pub data_long : (vs : List Value) (fs : List Field) (f : Ty → Ty) → length vs ≡ length fs → length (map datum vs) ≡ length (map f (field_types fs))
data_long [] [] f e = refl
data_long [] (y ∷ ys) f e = absurd (omega (arith, e))
data_long (v ∷ vs) [] f e = absurd (omega (arith, e))
data_long (v ∷ vs) (y ∷ ys) f e = ap suc (data_long vs ys f (omega (arith, e)))

pub other_parts : (ds : List Decl) (parts : List Datum) (fields all : List Ty) (fault : MakeFault) → length parts ≡ length fields → all ≡ fields → OtherCause ds parts fields fault → PartsCause ds parts all fault
other_parts ds parts fields all (FieldType i) long e h =
    let P : List Ty → Type 0 = λ z. (length parts ≡ length z) × IsFirstOther ds (map kept_type parts) z i in
    subst P (sym e) (long, h)
other_parts ds parts fields all Memory long e h = h
other_parts ds parts fields all TypeLimit long e h = absurd h
other_parts ds parts fields all FieldCount long e h = absurd h
other_parts ds parts fields all ValueLimit long e h = absurd h

pub tuple_valid : (ds : List Decl) (t : Ty) (parts : List Datum) (vs : List Value) → map datum vs ≡ parts → AllValid ds parts → t ≡ tuple_type (map datum vs) → nodes t ≤ 1024 → IsWithinLimits (datum (U.Tuple (record { ty = t; parts = parts })))
    → IsValid ds (datum (U.Tuple (record { ty = t; parts = parts })))
tuple_valid ds t parts vs m a e s w = tuple (datum (U.Tuple (record { ty = t; parts = parts }))) t parts (out_datum (U.Tuple (record { ty = t; parts = parts }))) a (e ∙ ap tuple_type m) s w

pub struct_valid : (ds : List Decl) (t u : Ty) (parts : List Datum) (vs : List Value) → map datum vs ≡ parts → u ≡ t → AllValid ds parts → IsStructType ds t → AreOf ds (map datum vs) (fields_in ds t)
    → IsWithinLimits (datum (U.Struct (record { ty = u; parts = parts }))) → IsValid ds (datum (U.Struct (record { ty = u; parts = parts })))
struct_valid ds t u parts vs m e a s o w =
    let v = U.Struct (record { ty = u; parts = parts }) in
    let s2 = subst (IsStructType ds) (sym e) s in
    let o2 = subst (λ z. AreOf ds (map datum vs) (fields_in ds z)) (sym e) o in
    made (datum v) u parts (out_datum v) a s2 (subst (λ z. AreOf ds z (fields_in ds u)) m o2) w

-- the same of what is kept in the shared node
pub tuple_made : (ds : List Decl) (c : Compound) (t : Ty) (parts : List Datum) (vs : List Value) → c ≡ record { ty = t; parts = parts } → map datum vs ≡ parts → AllValid ds parts → t ≡ tuple_type (map datum vs) → nodes t ≤ 1024
    → IsWithinLimits (datum (U.Tuple c)) → IsValid ds (datum (U.Tuple c))
tuple_made ds c t parts vs k m a e s w =
    subst (λ z. IsValid ds (datum (U.Tuple z))) (sym k) (tuple_valid ds t parts vs m a e s (subst (λ z. IsWithinLimits (datum (U.Tuple z))) k w))

pub struct_made : (ds : List Decl) (c : Compound) (t u : Ty) (parts : List Datum) (vs : List Value) → c ≡ record { ty = u; parts = parts } → map datum vs ≡ parts → u ≡ t → AllValid ds parts → IsStructType ds t → AreOf ds (map datum vs) (fields_in ds t)
    → IsWithinLimits (datum (U.Struct c)) → IsValid ds (datum (U.Struct c))
struct_made ds c t u parts vs k m e a s o w =
    subst (λ z. IsValid ds (datum (U.Struct z))) (sym k) (struct_valid ds t u parts vs m e a s o (subst (λ z. IsWithinLimits (datum (U.Struct z))) k w))
