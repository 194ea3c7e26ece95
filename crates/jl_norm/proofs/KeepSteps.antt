-- One more bound, and one more field, that is kept.
use Rattle.std.proofs.Common.{◌≡◌, ◌∙◌, sym, ap, subst, ℕ, zero, suc, ◌+◌, ◌<◌, arith, add-one, Bool, true, ◌&&◌, List, [], ◌∷◌, ◌++◌, map, length, drop, get_or, append_assoc, append-nil, ◌⊎◌, inl, inr}
use Rattle.std.specs.List.{list_all}
use Rattle.jl_model.specs.declared.ty.Ty.{Ty}
use Rattle.jl_model.specs.declared.ty.Bound.{Bound}
use Rattle.jl_model.specs.declared.ty.Field.{Field}
use Rattle.jl_model.specs.declared.ty.Decl.{Decl}
use Rattle.jl_model.specs.Subtype.{Table}
use Rattle.jl_model.specs.Normal.{IsNormalForm}
use Rattle.jl_model.specs.Kept.{field_types, Settled, AllSettled, settled_end, settled_more, Bounds, bounds_end, bounds_more}
use Rattle.jl_model.specs.Refusals.{bound_types}
use Rattle.jl_model.proofs.PutLemmas.{and_l, and_r}
use Rattle.jl_types.specs.Form.{IsTooLarge, IsKeptTooLarge}
use Rattle.jl_norm.specs.Large.{SomeTooLarge, SomeKeptTooLarge}

pub drop_at : {A : Type 0} (xs : List A) (i : ℕ) (x : A) → i < length xs → x ≡ get_or xs i x → drop i xs ≡ x ∷ drop (i + 1) xs
drop_at [] i x lt e = absurd (omega arith)
drop_at (y ∷ xs) zero x lt e = ap (λ z. z ∷ xs) (sym e)
drop_at (y ∷ xs) (suc i) x lt e = rw add-one (rw add-one at (drop_at xs i x (omega arith) e))

-- bounds
pub bound_known : (p : Ty → Bool) (bs : List Bound) (i : ℕ) (b : Bound) → i < length bs → b ≡ get_or bs i b → list_all p (bound_types bs) ≡ true → (p b.low ≡ true) × (p b.high ≡ true)
bound_known p [] i b lt e h = absurd (omega arith)
bound_known p (x ∷ xs) zero b lt e h =
    let r = and_r (p x.low) (p x.high && list_all p (bound_types xs)) h in
    (ap (λ (z : Bound). p z.low) e ∙ and_l (p x.low) (p x.high && list_all p (bound_types xs)) h, ap (λ (z : Bound). p z.high) e ∙ and_l (p x.high) (list_all p (bound_types xs)) r)
bound_known p (x ∷ xs) (suc i) b lt e h = bound_known p xs i b (omega arith) e (and_r (p x.high) (list_all p (bound_types xs)) (and_r (p x.low) (p x.high && list_all p (bound_types xs)) h))

pub bounds_step : (n : Table) (bs : List Bound) (i : ℕ) (b c : Bound) (old new : List Bound) → i < length bs → b ≡ get_or bs i b → IsNormalForm n b.low c.low → IsNormalForm n b.high c.high → new ≡ old ++ c ∷ []
    → ((cs : List Bound) → Bounds n (drop i bs) cs → Bounds n bs (old ++ cs)) → (cs : List Bound) → Bounds n (drop (i + 1) bs) cs → Bounds n bs (new ++ cs)
bounds_step n bs i b c old new lt e l u s k cs r =
    subst (Bounds n bs) (sym (ap (λ z. z ++ cs) s ∙ append_assoc old (c ∷ []) cs))
    (k (c ∷ cs) (subst (λ z. Bounds n z (c ∷ cs)) (sym (drop_at bs i b lt e)) (bounds_more b c (drop (i + 1) bs) cs l u r)))

pub bounds_done : (n : Table) (bs items : List Bound) (i : ℕ) → drop i bs ≡ [] → ((cs : List Bound) → Bounds n (drop i bs) cs → Bounds n bs (items ++ cs)) → Bounds n bs items
bounds_done n bs items i e k = subst (Bounds n bs) (append-nil items) (k [] (subst (λ z. Bounds n z []) (sym e) bounds_end))

pub bound_large : (ds : List Decl) (bs : List Bound) (i : ℕ) (b : Bound) → i < length bs → b ≡ get_or bs i b → IsTooLarge ds b.low ⊎ IsTooLarge ds b.high → SomeTooLarge ds (bound_types bs)
bound_large ds [] i b lt e l = absurd (omega arith)
bound_large ds (x ∷ xs) zero b lt e (inl l) = inl (subst (λ (z : Bound). IsTooLarge ds z.low) e l)
bound_large ds (x ∷ xs) zero b lt e (inr l) = inr (inl (subst (λ (z : Bound). IsTooLarge ds z.high) e l))
bound_large ds (x ∷ xs) (suc i) b lt e l = inr (inr (bound_large ds xs i b (omega arith) e l))

-- fields
pub field_at : (p : Ty → Bool) (fs : List Field) (i : ℕ) (f : Field) → i < length fs → f ≡ get_or fs i f → list_all p (field_types fs) ≡ true → p f.ty ≡ true
field_at p [] i f lt e h = absurd (omega arith)
field_at p (x ∷ xs) zero f lt e h = ap (λ (z : Field). p z.ty) e ∙ and_l (p x.ty) (list_all p (field_types xs)) h
field_at p (x ∷ xs) (suc i) f lt e h = field_at p xs i f (omega arith) e (and_r (p x.ty) (list_all p (field_types xs)) h)

abbrev pub names_of : List Field → List (List ℕ)
names_of fs = map (λ f. f.name) fs

pub names_step : (fs : List Field) (i : ℕ) (f g : Field) (old new : List Field) → i < length fs → f ≡ get_or fs i f → g.name ≡ f.name → new ≡ old ++ g ∷ []
    → ((gs : List Field) → names_of gs ≡ names_of (drop i fs) → names_of (old ++ gs) ≡ names_of fs) → (gs : List Field) → names_of gs ≡ names_of (drop (i + 1) fs) → names_of (new ++ gs) ≡ names_of fs
names_step fs i f g old new lt e s n k gs r =
    let d : names_of (drop i fs) ≡ f.name ∷ names_of (drop (i + 1) fs) = ap names_of (drop_at fs i f lt e) in
    ap names_of (ap (λ z. z ++ gs) n ∙ append_assoc old (g ∷ []) gs) ∙ k (g ∷ gs) (ap (λ z. z ∷ names_of gs) s ∙ ap (λ z. f.name ∷ z) r ∙ sym d)

pub types_step : (n : Table) (fs : List Field) (i : ℕ) (f g : Field) (old new : List Field) → i < length fs → f ≡ get_or fs i f → Settled n f.ty g.ty → new ≡ old ++ g ∷ []
    → ((gs : List Field) → AllSettled n (field_types (drop i fs)) (field_types gs) → AllSettled n (field_types fs) (field_types (old ++ gs)))
    → (gs : List Field) → AllSettled n (field_types (drop (i + 1) fs)) (field_types gs) → AllSettled n (field_types fs) (field_types (new ++ gs))
types_step n fs i f g old new lt e s is k gs r =
    let d : field_types (drop i fs) ≡ f.ty ∷ field_types (drop (i + 1) fs) = ap field_types (drop_at fs i f lt e) in
    subst (λ z. AllSettled n (field_types fs) (field_types z)) (sym (ap (λ z. z ++ gs) is ∙ append_assoc old (g ∷ []) gs))
    (k (g ∷ gs) (subst (λ z. AllSettled n z (field_types (g ∷ gs))) (sym d) (settled_more f.ty g.ty (field_types (drop (i + 1) fs)) (field_types gs) s r)))

pub fields_done : (n : Table) (fs items : List Field) (i : ℕ) → drop i fs ≡ []
    → ((gs : List Field) → AllSettled n (field_types (drop i fs)) (field_types gs) → AllSettled n (field_types fs) (field_types (items ++ gs))) → AllSettled n (field_types fs) (field_types items)
fields_done n fs items i e k = subst (λ z. AllSettled n (field_types fs) (field_types z)) (append-nil items) (k [] (subst (λ z. AllSettled n (field_types z) []) (sym e) settled_end))

pub names_done : (fs items : List Field) (i : ℕ) → drop i fs ≡ [] → ((gs : List Field) → names_of gs ≡ names_of (drop i fs) → names_of (items ++ gs) ≡ names_of fs) → names_of items ≡ names_of fs
names_done fs items i e k = ap names_of (sym (append-nil items)) ∙ k [] (ap names_of (sym e))

pub field_large : (ds : List Decl) (fs : List Field) (i : ℕ) (f : Field) → i < length fs → f ≡ get_or fs i f → IsKeptTooLarge ds f.ty → SomeKeptTooLarge ds (field_types fs)
field_large ds [] i f lt e l = absurd (omega arith)
field_large ds (x ∷ xs) zero f lt e l = inl (subst (λ (z : Field). IsKeptTooLarge ds z.ty) e l)
field_large ds (x ∷ xs) (suc i) f lt e l = inr (field_large ds xs i f (omega arith) e l)
