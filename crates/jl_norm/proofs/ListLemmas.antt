-- Tests on lists from a place on, and on declarations.
use Rattle.std.proofs.Common.{◌≡◌, ◌∙◌, sym, ap, refl, ℕ, zero, suc, ◌+◌, ◌<◌, arith, add-one, Bool, true, false, ◌&&◌, nat_eq, List, [], ◌∷◌, ◌++◌, map, length, drop, get_or, slice_get, ◌⊎◌, inl, inr}
use Rattle.std.specs.List.{list_all}
use Rattle.std.proofs.lemmas.List.{length-map}
use Rattle.jl_model.specs.declared.ty.Ty.{Ty}
use Rattle.jl_model.specs.declared.ty.Ty.TheOpen.{Any, Union, Tuple, Nominal, Var}
use Rattle.jl_model.specs.declared.ty.Ty.TheViews.{rolls-Any, rolls-Union, rolls-Tuple, rolls-Nominal, rolls-Var, outs-Any, outs-Union, outs-Tuple, outs-Nominal, outs-Var}
use Rattle.jl_model.specs.declared.ty.Ty.TheViews as V
use Rattle.jl_model.specs.declared.ty.Ty.TheVariants as W
use Rattle.jl_model.specs.declared.ty.Ty.TheFolds.{fold-roll-Ty}
use Rattle.jl_model.specs.declared.ty.Bound.{Bound}
use Rattle.jl_model.specs.declared.ty.Field.{Field}
use Rattle.jl_model.specs.declared.ty.Decl.{Decl}
use Rattle.jl_model.specs.Kept.{field_types}
use Rattle.jl_model.specs.Refusals.{bound_types, types_of}
use Rattle.jl_model.specs.Valid.{is_counted, counted_step, params_of}
use Rattle.jl_model.proofs.FormLemmas.{all_of}
use Rattle.jl_model.proofs.AncestorLemmas.{slice_before, slice_last, slice_past}

pub all-suc : (p : Ty → Bool) (ts : List Ty) (i : ℕ) (t : Ty) → i < length ts → t ≡ get_or ts i t → list_all p (drop i ts) ≡ (p t && list_all p (drop (i + 1) ts))
all-suc p [] i t h e = absurd (omega arith)
all-suc p (x ∷ xs) zero t h e = ap (λ z. p z && list_all p xs) (sym e)
all-suc p (x ∷ xs) (suc i) t h e = rw add-one (rw add-one at (all-suc p xs i t (omega arith) e))

pub bounds-suc : (p : Ty → Bool) (bs : List Bound) (i : ℕ) (b : Bound) → i < length bs → b ≡ get_or bs i b
    → list_all p (bound_types (drop i bs)) ≡ (p b.low && (p b.high && list_all p (bound_types (drop (i + 1) bs))))
bounds-suc p [] i b h e = absurd (omega arith)
bounds-suc p (x ∷ xs) zero b h e = ap (λ (z : Bound). p z.low && (p z.high && list_all p (bound_types xs))) (sym e)
bounds-suc p (x ∷ xs) (suc i) b h e = rw add-one (rw add-one at (bounds-suc p xs i b (omega arith) e))

pub fields-suc : (p : Ty → Bool) (fs : List Field) (i : ℕ) (f : Field) → i < length fs → f ≡ get_or fs i f
    → list_all p (field_types (drop i fs)) ≡ (p f.ty && list_all p (field_types (drop (i + 1) fs)))
fields-suc p [] i f h e = absurd (omega arith)
fields-suc p (x ∷ xs) zero f h e = ap (λ (z : Field). p z.ty && list_all p (field_types xs)) (sym e)
fields-suc p (x ∷ xs) (suc i) f h e = rw add-one (rw add-one at (fields-suc p xs i f (omega arith) e))

and_assoc : (a b c : Bool) → (a && (b && c)) ≡ ((a && b) && c)
and_assoc true b c = refl
and_assoc false b c = refl

pub all-append : (p : Ty → Bool) (ts us : List Ty) → list_all p (ts ++ us) ≡ (list_all p ts && list_all p us)
all-append p [] us = refl
all-append p (t ∷ ts) us = ap (λ b. p t && b) (all-append p ts us) ∙ and_assoc (p t) (list_all p ts) (list_all p us)

pub all-types : (p : Ty → Bool) (d : Decl) → list_all p (types_of d) ≡ (list_all p (bound_types d.params) && (p d.parent && list_all p (field_types d.fields)))
all-types p d = all-append p (bound_types d.params) (d.parent ∷ field_types d.fields)

pub ruleset along = (bounds-suc, fields-suc, all-types)

pub ruleset places = (slice_before, slice_last, slice_past)

pub ruleset parents = (outs-Any, outs-Union, outs-Tuple, outs-Nominal, outs-Var, slice_past)

-- the number of arguments
pub counted-any : (ds : List Decl) → is_counted ds W.Any ≡ true
counted-any ds = ap (is_counted ds) (sym rolls-Any) ∙ fold-roll-Ty Bool (counted_step ds) Any

pub counted-var : (ds : List Decl) (v : ℕ) → is_counted ds (W.Var v) ≡ true
counted-var ds v = ap (is_counted ds) (sym (rolls-Var v)) ∙ fold-roll-Ty Bool (counted_step ds) (Var v)

pub counted-union : (ds : List Decl) (ts : List Ty) → is_counted ds (V.Union ts) ≡ list_all (is_counted ds) ts
counted-union ds ts = ap (is_counted ds) (sym (rolls-Union ts)) ∙ fold-roll-Ty Bool (counted_step ds) (Union ts) ∙ all_of (is_counted ds) ts

pub counted-tuple : (ds : List Decl) (ts : List Ty) → is_counted ds (V.Tuple ts) ≡ list_all (is_counted ds) ts
counted-tuple ds ts = ap (is_counted ds) (sym (rolls-Tuple ts)) ∙ fold-roll-Ty Bool (counted_step ds) (Tuple ts) ∙ all_of (is_counted ds) ts

pub counted-nominal : (ds : List Decl) (k : ℕ) (ts : List Ty) → is_counted ds (V.Nominal k ts) ≡ (nat_eq (length ts) (length (params_of (slice_get ds k))) && list_all (is_counted ds) ts)
counted-nominal ds k ts =
    ap (is_counted ds) (sym (rolls-Nominal k ts)) ∙ fold-roll-Ty Bool (counted_step ds) (Nominal k ts)
    ∙ ap (λ b. nat_eq (length (map (is_counted ds) ts)) (length (params_of (slice_get ds k))) && b) (all_of (is_counted ds) ts)
    ∙ ap (λ i. nat_eq i (length (params_of (slice_get ds k))) && list_all (is_counted ds) ts) (length-map ts (is_counted ds))

pub ruleset counts = (all-suc, counted-any, counted-var, counted-union, counted-tuple, counted-nominal)

-- a test that goes on with another in the parts
module _ (p q : Ty → Bool) where
  pub either_case : ((ts : List Ty) → p (V.Union ts) ≡ list_all q ts) → ((ts : List Ty) → p (V.Tuple ts) ≡ list_all q ts) → (t : Ty) (ts ps : List Ty) (r : Bool)
      → (t ≡ V.Union ts) ⊎ (t ≡ V.Tuple ts) → ps ≡ ts → r ≡ list_all q ps → r ≡ p t
  either_case u v t ts ps r (inl e) f h = h ∙ ap (list_all q) f ∙ sym (ap p e ∙ u ts)
  either_case u v t ts ps r (inr e) f h = h ∙ ap (list_all q) f ∙ sym (ap p e ∙ v ts)

  pub nominal_case : (k : ℕ) (ts ps : List Ty) (b r : Bool) (t : Ty) → p (V.Nominal k ts) ≡ (b && list_all q ts) → t ≡ V.Nominal k ts → ps ≡ ts → b ≡ true → r ≡ list_all q ps → r ≡ p t
  nominal_case k ts ps b r t n e f g h = h ∙ ap (list_all q) f ∙ ap (λ z. z && list_all q ts) (sym g) ∙ sym (ap p e ∙ n)

  pub nominal_not : (k : ℕ) (ts : List Ty) (b : Bool) (t : Ty) → p (V.Nominal k ts) ≡ (b && list_all q ts) → t ≡ V.Nominal k ts → b ≡ false → false ≡ p t
  nominal_not k ts b t n e g = ap (λ z. z && list_all q ts) (sym g) ∙ sym (ap p e ∙ n)
