-- What the walk over the arguments of a declaration tells of its refusals.
use Rattle.std.proofs.Common.{◌≡◌, subst, zero, suc, arith, Bool, List, ◌++◌, map, inl, inr, refl, sym, Result, Ok, Err, IsErrAnd, MatchResult}
use Rattle.std.specs.List.{Contains}
use Rattle.jl_model.specs.declared.ty.Ty.{Ty}
use Rattle.jl_model.specs.declared.ty.Ty.TheViews as V
use Rattle.jl_model.specs.declared.ty.Bound.{Bound}
use Rattle.jl_model.specs.declared.ty.Decl.{Decl}
use Rattle.jl_model.specs.Subtype.{Table}
use Rattle.jl_model.specs.Normal.{IsNormalForm}
use Rattle.jl_model.specs.Kept.{Bounds, bounds_end, bounds_more}
use Rattle.jl_model.specs.Refusals.{Declared, DuplicateType, table_with, bound_types, types_of, ancestors, AllWithinLimits, HasLargeForm, TypeLimit, TooMany, DuplicateField, HasOwnVariables, IsAllowed, IsReady}
use Rattle.jl_norm.specs.Refused.{IsWellWritten, IsTooLargeAsWritten, IsRightAsWritten, IsKeptSized, IsKeptTold, IsBounded, Refused}
use Rattle.jl_norm.specs.declared.fault.DeclareFault.{DeclareFault}
use Rattle.jl_norm.specs.declared.fault.DeclareFault.TheVariants as fault
use Rattle.jl_norm.specs.Judged.{SomeLarge, Judged, given_of}
use Rattle.jl_norm.proofs.SizeLemmas.{within_front, bounds_within}
use Rattle.jl_norm.proofs.KeepLemmas.{with_lawful}
use Rattle.jl_norm.proofs.KeptLemmas.{sizes_same}
use Rattle.jl_norm.proofs.BoundLemmas.{bounded_kept}
use Rattle.jl_norm.proofs.ReadyLemmas.{written_kept, ready}

-- bounds whose normal forms are within the limits have no large ones
bounds_small : (n : Table) (bs cs : List Bound) → Bounds n bs cs → AllWithinLimits (bound_types cs) → (t : Ty) → Contains (bound_types bs) t → HasLargeForm n t → ⊥
bounds_small n bs cs bounds_end a t c l = absurd (omega (arith, c.1))
bounds_small n bs cs (bounds_more b x as_ es p u r) a t (zero, g, e) l =
    let s = a.0.nodes in
    let q = l x.low (subst (λ z. IsNormalForm n z x.low) e p) in
    omega arith
bounds_small n bs cs (bounds_more b x as_ es p u r) a t (suc zero, g, e) l =
    let s = a.1.0.nodes in
    let q = l x.high (subst (λ z. IsNormalForm n z x.high) e u) in
    omega arith
bounds_small n bs cs (bounds_more b x as_ es p u r) a t (suc (suc i), g, e) l = bounds_small n as_ es r a.1.1 t (i, omega arith, e) l

pub types_sized : (ds : List Decl) (e : Decl) → AllWithinLimits (types_of e ++ map (λ x. V.Nominal x.name x.args) (ancestors ds e)) → AllWithinLimits (types_of e)
types_sized ds e a = within_front (types_of e) (map (λ x. V.Nominal x.name x.args) (ancestors ds e)) a

pub large_limit : (ds : List Decl) (d : Decl) → SomeLarge ds d (given_of d) → TypeLimit ds d
large_limit ds d l = inr (inl (inr l))

pub told : (ds : List Decl) (d e : Decl) → Declared ds → IsWellWritten ds d → IsKeptSized ds d e → (b : Bool) → Judged ds d (given_of d) b → IsKeptTold ds d e b
told ds d e h w k b j = record {
  within = record { kept = k.kept; sized = k.sized; small = small };
  broken = j.outside;
  whole = λ f x. x.3 (j.inside f x.0 x.1 x.2);
}
  where
    small : TypeLimit ds d → ⊥
    small (inl f) = f k.written_sized
    small (inr (inl (inl (t, c, l)))) = bounds_small (table_with ds d) d.params e.params k.kept.params (bounds_within e (types_sized ds e k.sized)) t c l
    small (inr (inl (inr (a, c, p, l)))) =
        let s = j.small a c p in
        let q = l s.0 s.1 in
        let r = s.2 in
        omega arith
    small (inr (inr (f, g, x))) = x (sizes_same ds d h w e f k.kept g k.sized)

-- nothing refuses the declaration, and what is kept of it may be added
module _ (ds : List Decl) (d e : Decl) (h : Declared ds) (b : IsBounded ds d e) (few : TooMany ds d → ⊥) (distinct : DuplicateField d → ⊥) where
  pub is_allowed : IsAllowed ds d
  is_allowed =
      let w = b.ordered.written in
      record {
        fresh = w.fresh;
        known = w.known;
        counted = w.counted;
        abstract = w.abstract;
        placed = w.placed;
        small = b.ordered.within.small;
        ordered = b.ordered.ordered;
        within = b.within;
        few = few;
        distinct = distinct;
      }

  pub may_add : HasOwnVariables d → IsReady ds e
  may_add v =
      let w = b.ordered.written in
      let k = b.ordered.within.kept in
      ready ds d e h w k v b.ordered few distinct (bounded_kept ds d e h w (with_lawful ds e (written_kept ds d e h w k) h) k b.within)

-- what is seen in a declaration as it is written
pub right_as_written : (ds : List Decl) (d : Decl) → IsWellWritten ds d → AllWithinLimits (types_of d) → IsRightAsWritten ds d
right_as_written ds d w a = record { written = w; sized = λ n. n a }

pub bounded_right : (ds : List Decl) (d e : Decl) → IsBounded ds d e → IsRightAsWritten ds d
bounded_right ds d e b = record {
  written = b.ordered.written;
  sized = λ n. b.ordered.within.small (inl (λ a. n (types_sized ds d a)));
}

pub memory_refused : {A : Type 0} (ds : List Decl) (d : Decl) (r : Result A DeclareFault) (P : A → Type 0) → IsErrAnd r (λ f. f ≡ fault.Memory) → IsRightAsWritten ds d → MatchResult r P (λ f. Refused f ds d)
memory_refused ds d (Ok x) P h w = absurd h
memory_refused ds d (Err f) P h w = subst (λ z. Refused z ds d) (sym h) w

-- a refusal that comes first is given wherever it holds
pub duplicate_given : (ds : List Decl) (d : Decl) (f : DeclareFault) → Refused f ds d → DuplicateType ds d → f ≡ fault.DuplicateType
duplicate_given ds d fault.DuplicateType r h = refl
duplicate_given ds d fault.UnknownType r h = absurd (r.0 h)
duplicate_given ds d fault.WrongParameterCount r h = absurd (r.0 h)
duplicate_given ds d fault.SuperNotAbstract r h = absurd (r.0 h)
duplicate_given ds d fault.VariablePlace r h = absurd (r.0 h)
duplicate_given ds d fault.TypeLimit r h = absurd (r.0.fresh h)
duplicate_given ds d fault.BoundsCrossed r h = absurd (r.0.fresh h)
duplicate_given ds d fault.BoundBroken r h = absurd (r.0.fresh h)
duplicate_given ds d fault.TooMany r h = absurd (r.0.fresh h)
duplicate_given ds d fault.DuplicateField r h = absurd (r.0.fresh h)
duplicate_given ds d fault.Memory r h = absurd (r.written.fresh h)

pub large_given : (ds : List Decl) (d : Decl) (f : DeclareFault) → Refused f ds d → IsWellWritten ds d → IsTooLargeAsWritten d → f ≡ fault.TypeLimit
large_given ds d fault.DuplicateType r w l = absurd (w.fresh r)
large_given ds d fault.UnknownType r w l = absurd (w.known r.1)
large_given ds d fault.WrongParameterCount r w l = absurd (w.counted r.2)
large_given ds d fault.SuperNotAbstract r w l = absurd (w.abstract r.3)
large_given ds d fault.VariablePlace r w l = absurd (w.placed r.4)
large_given ds d fault.TypeLimit r w l = refl
large_given ds d fault.BoundsCrossed r w l = absurd (r.1 (inl (λ a. l (types_sized ds d a))))
large_given ds d fault.BoundBroken r w l = absurd (r.1 (inl (λ a. l (types_sized ds d a))))
large_given ds d fault.TooMany r w l = absurd (r.1 (inl (λ a. l (types_sized ds d a))))
large_given ds d fault.DuplicateField r w l = absurd (r.1 (inl (λ a. l (types_sized ds d a))))
large_given ds d fault.Memory r w l = absurd (r.sized l)
