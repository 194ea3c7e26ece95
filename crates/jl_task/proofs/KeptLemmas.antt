-- What is kept stays right, and what is found is.
use Rattle.std.proofs.Common.{◌≡◌, ◌∙◌, ℕ, zero, suc, List, [], ◌∷◌, ◌++◌, Option, Some, None, arith, sym, ap, subst, refl, slice_get, inl, inr, set}
use Rattle.jl_model.specs.declared.ty.Ty.{Ty}
use Rattle.jl_model.specs.Bindings.{bindings}
use Rattle.jl_calculus.specs.Kept.{Keeps}
use Rattle.jl_calculus.specs.World.{Selects}
use Rattle.jl_program.specs.declared.choice.Choice.TheVariants as C
use Rattle.jl_program.specs.declared.tree.Program.{Program}
use Rattle.jl_program.specs.declared.tree.Site.{Site}
use Rattle.jl_program.specs.Scope.{types_of}
use Rattle.jl_task.specs.Knows.{Knows, Grew, Asked, IsMethod, variables_of}
use Rattle.jl_task.specs.declared.table.Kept.{Kept}
use Rattle.jl_task.specs.Kept.{IsKept, AreKept, NoneKept, IsFound, IsPut}

-- ---- what is kept stays right

-- the types of the variables of a signature depend on the program alone
abbrev variables_in : Program → List Ty → Option Site → List Ty
variables_in P ts None = []
variables_in P ts (Some site) = bindings (types_of P) site.sig ts

by_program : (k : Knows) (ts : List Ty) (o : Option Site) → variables_of k ts o ≡ variables_in k.program ts o
by_program k ts None = refl
by_program k ts (Some site) = refl

variables_same : (k k' : Knows) (ts : List Ty) (site : ℕ) → k'.program ≡ k.program → variables_of k' ts (slice_get k'.program.sites site) ≡ variables_of k ts (slice_get k.program.sites site)
variables_same k k' ts site e =
    by_program k' ts (slice_get k'.program.sites site)
    ∙ ap (λ P. variables_in P ts (slice_get P.sites site)) e
    ∙ sym (by_program k ts (slice_get k.program.sites site))

-- a method that was chosen stays so, since knowledge only grows
pub method_more : (k k' : Knows) (f : ℕ) (ts : List Ty) (w site : ℕ) (statics : List Ty) → Grew k k' → IsMethod k f ts w site statics → IsMethod k' f ts w site statics
method_more k k' f ts w site statics g r = record {
  right = λ es a. (let (d, q, i) = r.right es (g.agrees es a) in (d, subst (λ P. Selects P es f ts w (C.Method d)) (sym g.program) q, i));
  kept = λ es a. (
      subst (λ room. Keeps k'.program es room f ts w) (sym g.places)
      (subst (λ P. Keeps P es k.places f ts w) (sym g.program) (r.kept es (g.agrees es a)))
      );
  bound = variables_same k k' ts site g.program ∙ r.bound;
}

pub kept_more : (k k' : Knows) (xs : List (Option Kept)) → Grew k k' → AreKept k xs → AreKept k' xs
kept_more k k' xs g h = λ i x e. method_more k k' x.key.function x.key.types x.world x.site x.statics g (h i x e)

pub kept_with : (k : Knows) (x : Kept) (old new : List (Option Kept)) → IsPut x old new → IsKept k x → AreKept k old → AreKept k new
kept_with k x old new s h all = λ i y e. elim (s i y e) [ inl p ↦ all i y p | inr q ↦ subst (IsKept k) (sym q) h ]

-- a dispatcher that was asked nothing
pub asked_nothing : (k : Knows) → Asked k k
asked_nothing k = record {
  grew = record {
    program = refl;
    places = refl;
    task = refl;
    start = refl;
    first = refl;
    world = omega arith;
    seen = omega arith;
    agrees = λ es a. a;
    learnt = λ i h. h;
  };
  looks = refl;
  own = refl;
  starts = refl;
  follows = λ c is h. h;
}

-- ---- a new table

pub none_more : (xs : List (Option Kept)) → NoneKept xs → NoneKept (xs ++ None ∷ [])
none_more [] h zero x e = cc
none_more [] h (suc i) x e = cc
none_more (y ∷ ys) h zero x e = h zero x e
none_more (y ∷ ys) h (suc i) x e = none_more ys (λ j z. h (suc j) z) i x e

pub none_right : (k : Knows) (xs : List (Option Kept)) → NoneKept xs → AreKept k xs
none_right k xs h = λ i x e. absurd (h i x e)

pub none_first : NoneKept []
none_first i x e = cc

pub put_nowhere : (x : Kept) (xs : List (Option Kept)) → IsPut x xs xs
put_nowhere x xs i y e = inl e

pub put_at : (x : Kept) (xs : List (Option Kept)) (p : ℕ) → IsPut x xs (set xs p (Some x))
put_at x [] p i y e = inl e
put_at x (z ∷ zs) zero zero y e = inr cc
put_at x (z ∷ zs) zero (suc i) y e = inl e
put_at x (z ∷ zs) (suc p) zero y e = inl e
put_at x (z ∷ zs) (suc p) (suc i) y e = put_at x zs p i y e

-- ---- what is found is right

pub found_right : (k : Knows) (xs : List (Option Kept)) (f : ℕ) (ts : List Ty) (w : ℕ) (x : Kept) → AreKept k xs → IsFound xs f ts w x → IsMethod k f ts w x.site x.statics
found_right k xs f ts w x all h =
    let r = all h.place x h.at in
    let of = h.of_call in
    rw (← of.function, ← of.types, ← of.world) r
