-- Lists of types within the limits.
use Rattle.std.proofs.Common.{◌≡◌, sym, ap, subst, ℕ, zero, suc, ◌+◌, ◌<◌, arith, add-one, List, [], ◌∷◌, ◌++◌, map, length, drop, get_or}
use Rattle.std.proofs.Common.{Bool, IfOk, OnErr, Result, Ok, Err}
use Rattle.std.specs.declared.alloc.AllocError.{AllocError}
use Rattle.jl_model.specs.declared.ty.Ty.{Ty}
use Rattle.jl_model.specs.declared.ty.Ty.TheViews as V
use Rattle.jl_model.specs.declared.ty.Bound.{Bound}
use Rattle.jl_model.specs.declared.ty.Field.{Field}
use Rattle.jl_model.specs.Ancestors.{put_under}
use Rattle.jl_model.specs.Counts.{IsWithinLimits}
use Rattle.jl_model.specs.Kept.{field_types}
use Rattle.jl_model.specs.Subtype.{put, at}
use Rattle.jl_model.specs.declared.ty.Decl.{Decl}
use Rattle.jl_model.specs.Refusals.{bound_types, types_of, AllWithinLimits}
use Rattle.jl_types.specs.Lines.{line_in}
use Rattle.jl_types.specs.declared.ancestor.Ancestor.{Ancestor}

pub within_append : (ts us : List Ty) → AllWithinLimits ts → AllWithinLimits us → AllWithinLimits (ts ++ us)
within_append [] us h g = g
within_append (t ∷ ts) us h g = (h.0, within_append ts us h.1 g)

pub within_front : (ts us : List Ty) → AllWithinLimits (ts ++ us) → AllWithinLimits ts
within_front [] us h = tt
within_front (t ∷ ts) us h = (h.0, within_front ts us h.1)

pub within_back : (ts us : List Ty) → AllWithinLimits (ts ++ us) → AllWithinLimits us
within_back [] us h = h
within_back (t ∷ ts) us h = within_back ts us h.1

-- ancestors with arguments put in, as types
abbrev pub above_types : List Ty → List Ancestor → List Ty
above_types args line = map (λ a. V.Nominal a.name a.args) (map (put_under args) (line_in line))

pub bounds_at : (bs : List Bound) (i : ℕ) (b : Bound) → i < length bs → b ≡ get_or bs i b
    → bound_types (drop i bs) ≡ b.low ∷ b.high ∷ bound_types (drop (i + 1) bs)
bounds_at [] i b h e = absurd (omega arith)
bounds_at (x ∷ xs) zero b h e = ap (λ (z : Bound). z.low ∷ z.high ∷ bound_types xs) (sym e)
bounds_at (x ∷ xs) (suc i) b h e = rw add-one (rw add-one at (bounds_at xs i b (omega arith) e))

pub fields_at : (fs : List Field) (i : ℕ) (f : Field) → i < length fs → f ≡ get_or fs i f → field_types (drop i fs) ≡ f.ty ∷ field_types (drop (i + 1) fs)
fields_at [] i f h e = absurd (omega arith)
fields_at (x ∷ xs) zero f h e = ap (λ (z : Field). z.ty ∷ field_types xs) (sym e)
fields_at (x ∷ xs) (suc i) f h e = rw add-one (rw add-one at (fields_at xs i f (omega arith) e))

pub above_at : (args : List Ty) (as_ : List Ancestor) (i : ℕ) (a : Ancestor) → i < length as_ → a ≡ get_or as_ i a
    → above_types args (drop i as_) ≡ V.Nominal a.name (map (put (at args)) a.args) ∷ above_types args (drop (i + 1) as_)
above_at args [] i a h e = absurd (omega arith)
above_at args (x ∷ xs) zero a h e = ap (λ (z : Ancestor). V.Nominal z.name (map (put (at args)) z.args) ∷ above_types args xs) (sym e)
above_at args (x ∷ xs) (suc i) a h e = rw add-one (rw add-one at (above_at args xs i a (omega arith) e))

-- the first of a list
pub within_cons : (ts us : List Ty) (t : Ty) → ts ≡ t ∷ us → IsWithinLimits t → AllWithinLimits us → AllWithinLimits ts
within_cons ts us t e h g = subst AllWithinLimits (sym e) (h, g)

pub within_first : (ts us : List Ty) (t : Ty) → ts ≡ t ∷ us → AllWithinLimits ts → IsWithinLimits t
within_first ts us t e h = (subst AllWithinLimits e h).0

pub within_others : (ts us : List Ty) (t : Ty) → ts ≡ t ∷ us → AllWithinLimits ts → AllWithinLimits us
within_others ts us t e h = (subst AllWithinLimits e h).1

pub ruleset sizes = (bounds_at, fields_at, above_at)

-- the types in a declaration
pub types_within : (d : Decl) → AllWithinLimits (bound_types d.params) → IsWithinLimits d.parent → AllWithinLimits (field_types d.fields) → AllWithinLimits (types_of d)
types_within d b p f = within_append (bound_types d.params) (d.parent ∷ field_types d.fields) b (p, f)

pub bounds_within : (d : Decl) → AllWithinLimits (types_of d) → AllWithinLimits (bound_types d.params)
bounds_within d h = within_front (bound_types d.params) (d.parent ∷ field_types d.fields) h

pub parent_within : (d : Decl) → AllWithinLimits (types_of d) → IsWithinLimits d.parent × AllWithinLimits (field_types d.fields)
parent_within d h = within_back (bound_types d.params) (d.parent ∷ field_types d.fields) h

pub ok_map : (r : Result Bool AllocError) (P Q : Bool → Type 0) → ((b : Bool) → P b → Q b) → IfOk r P → IfOk r Q
ok_map (Ok b) P Q f h = f b h
ok_map (Err e) P Q f h = h

pub on_err : (r : Result Bool AllocError) (P : Type 0) → P → OnErr r P
on_err (Ok b) P p = tt
on_err (Err e) P p = p
