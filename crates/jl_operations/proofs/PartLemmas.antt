-- The part at a name, from a place on.
use Rattle.std.proofs.Common.{◌≡◌, ◌∙◌, sym, ap, refl, ℕ, zero, suc, ◌+◌, ◌<◌, ◌≤◌, arith, add-one, Bool, true, false, cond, List, [], ◌∷◌, map, length, drop, get_or, None, Some, slice_get}
use Rattle.jl_model.specs.declared.ty.Field.{Field}
use Rattle.jl_program.specs.declared.value.Value.{Value}
use Rattle.jl_program.specs.Meaning.{datum}
use Rattle.jl_program.specs.Names.{same_text}
use Rattle.jl_calculus.specs.Operations.{part_named, part_at}

pub named_step : (name : List ℕ) (fs : List Field) (vs : List Value) (i : ℕ) (f : Field) (v : Value) → i < length fs → i < length vs → f ≡ get_or fs i f → v ≡ get_or vs i v
    → part_named name (drop i fs) (map datum (drop i vs)) ≡ cond (same_text name f.name) (Some (datum v)) (part_named name (drop (i + 1) fs) (map datum (drop (i + 1) vs)))
named_step name [] vs i f v l m e k = absurd (omega (arith, l))
named_step name (g ∷ fs) [] i f v l m e k = absurd (omega (arith, m))
named_step name (g ∷ fs) (w ∷ vs) zero f v l m e k =
    ap (λ (z : Field). cond (same_text name z.name) (Some (datum w)) (part_named name fs (map datum vs))) (sym e)
    ∙ ap (λ (z : Value). cond (same_text name f.name) (Some (datum z)) (part_named name fs (map datum vs))) (sym k)
named_step name (g ∷ fs) (w ∷ vs) (suc i) f v l m e k = rw add-one (rw add-one at (named_step name fs vs i f v (omega (arith, l)) (omega (arith, m)) e k))

none_named : (name : List ℕ) (fs : List Field) → part_named name fs [] ≡ None
none_named name [] = refl
none_named name (f ∷ fs) = refl

-- there is a field of another name, or of this one
pub named_on : (name : List ℕ) (fs : List Field) (vs : List Value) (i : ℕ) (f : Field) (v : Value) (b : Bool) → i < length fs → i < length vs → f ≡ get_or fs i f → v ≡ get_or vs i v
    → b ≡ same_text name f.name → b ≡ true → part_named name (drop i fs) (map datum (drop i vs)) ≡ Some (datum v)
named_on name fs vs i f v b l m e k h t =
    named_step name fs vs i f v l m e k ∙ ap (λ z. cond z (Some (datum v)) (part_named name (drop (i + 1) fs) (map datum (drop (i + 1) vs)))) (sym h ∙ t)

pub named_past : (name : List ℕ) (fs : List Field) (vs : List Value) (i : ℕ) (f : Field) (b : Bool) → i < length fs → i < length vs → f ≡ get_or fs i f
    → b ≡ same_text name f.name → b ≡ false → part_named name (drop i fs) (map datum (drop i vs)) ≡ part_named name (drop (i + 1) fs) (map datum (drop (i + 1) vs))
named_past name fs [] i f b l m e h t = absurd (omega (arith, m))
named_past name fs (w ∷ ws) i f b l m e h t =
    named_step name fs (w ∷ ws) i f (get_or (w ∷ ws) i w) l m e (there (w ∷ ws) i w m)
    ∙ ap (λ z. cond z (Some (datum (get_or (w ∷ ws) i w))) (part_named name (drop (i + 1) fs) (map datum (drop (i + 1) (w ∷ ws))))) (sym h ∙ t)
  where
    there : (xs : List Value) (j : ℕ) (d : Value) → j < length xs → get_or xs j d ≡ get_or xs j (get_or xs j d)
    there [] j d n = absurd (omega (arith, n))
    there (x ∷ xs) zero d n = refl
    there (x ∷ xs) (suc j) d n = there xs j d (omega (arith, n))

drop_past : {A : Type 0} (xs : List A) (i : ℕ) → length xs ≤ i → drop i xs ≡ []
drop_past [] zero h = refl
drop_past [] (suc i) h = refl
drop_past (x ∷ xs) zero h = absurd (omega (arith, h))
drop_past (x ∷ xs) (suc i) h = drop_past xs i (omega (arith, h))

pub named_without_part : (name : List ℕ) (fs : List Field) (vs : List Value) (i : ℕ) → length vs ≤ i → part_named name (drop i fs) (map datum (drop i vs)) ≡ None
named_without_part name fs vs i h = ap (λ z. part_named name (drop i fs) (map datum z)) (drop_past vs i h) ∙ none_named name (drop i fs)

pub named_without_field : (name : List ℕ) (fs : List Field) (vs : List Value) (i : ℕ) → length fs ≤ i → part_named name (drop i fs) (map datum (drop i vs)) ≡ None
named_without_field name fs vs i h = ap (λ z. part_named name z (map datum (drop i vs))) (drop_past fs i h)

-- the part of a number
slice_datum : (vs : List Value) (i : ℕ) (v : Value) → i < length vs → v ≡ get_or vs i v → slice_get (map datum vs) i ≡ Some (datum v)
slice_datum [] i v l e = absurd (omega (arith, l))
slice_datum (w ∷ ws) zero v l e = ap (λ (z : Value). Some (datum z)) (sym e)
slice_datum (w ∷ ws) (suc i) v l e = slice_datum ws i v (omega (arith, l)) e

no_datum : (vs : List Value) (i : ℕ) → length vs ≤ i → slice_get (map datum vs) i ≡ None
no_datum [] i h = refl
no_datum (v ∷ vs) zero h = absurd (omega (arith, h))
no_datum (v ∷ vs) (suc i) h = no_datum vs i (omega (arith, h))

pub at_number : (number : ℕ) (vs : List Value) (i : ℕ) (v : Value) → number ≡ suc i → i < length vs → v ≡ get_or vs i v → part_at number (map datum vs) ≡ Some (datum v)
at_number number vs i v e l k = ap (λ (z : ℕ). part_at z (map datum vs)) e ∙ slice_datum vs i v l k

pub past_number : (number : ℕ) (vs : List Value) (i : ℕ) → number ≡ suc i → length vs ≤ i → part_at number (map datum vs) ≡ None
past_number number vs i e h = ap (λ (z : ℕ). part_at z (map datum vs)) e ∙ no_datum vs i h
