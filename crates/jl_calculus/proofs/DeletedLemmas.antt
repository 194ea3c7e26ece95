-- A change that deletes a method which applies to the types of a key touches this key: its signature is above the method's, so it applies
-- to these types too.
use Rattle.std.proofs.Common.{◌≡◌, ap, subst, refl, ℕ, zero, suc, Bool, true, false, ◌&&◌, IsTrue, All, List, [], ◌∷◌, slice_get, Option, None, Some}
use Rattle.std.specs.List.{list_all}
use Rattle.std.proofs.lemmas.List.Elements.{All-head, All-tail}
use Rattle.jl_model.specs.declared.ty.Decl.{Decl}
use Rattle.jl_model.specs.declared.ty.Key.{Key}
use Rattle.jl_model.specs.declared.ty.Ty.{Ty}
use Rattle.jl_model.specs.declared.ty.Written.{Written}
use Rattle.jl_model.specs.Ancestors.{table_of}
use Rattle.jl_model.specs.Signature.{Applicable}
use Rattle.jl_model.specs.Subtype.{opaque, is_concrete}
use Rattle.jl_model.proofs.DeclaredLemmas.{declared_lawful}
use Rattle.jl_subsume.specs.Scoped.{IsScoped}
use Rattle.jl_subsume.proofs.SubsumeLemmas.{subsumed}
use Rattle.jl_program.specs.declared.tree.Delete.{Delete}
use Rattle.jl_program.specs.declared.tree.Program.{Program}
use Rattle.jl_program.specs.declared.tree.Site.{Site}
use Rattle.jl_program.specs.Scope.{all_types, types_of}
use Rattle.jl_program.specs.Valid.{IsValidSig, IsValidDelete, IsValid}
use Rattle.jl_program.specs.ValidValue.{IsValueType}
use Rattle.jl_program.proofs.SiteSigs.{HasValidSig, sites_valid}
use Rattle.jl_calculus.specs.declared.history.Change.{Change}
use Rattle.jl_calculus.specs.declared.history.Change.TheVariants as Ch
use Rattle.jl_calculus.specs.Legal.{IsKeyOf}
use Rattle.jl_calculus.specs.Ranges.{head_of_place, HeadTouches, ChangeTouches}
use Rattle.jl_calculus.specs.World.{PlaceDeletes, Deletes}

abbrev some_or : {X : Type 0} → X → Option X → X
some_or x None = x
some_or x (Some y) = y

all_got : {X : Type 0} (Is : X → Type 0) (xs : List X) (k : ℕ) (x : X) → All Is xs → slice_get xs k ≡ Some x → Is x
all_got Is [] k x h e = cc
all_got Is (y ∷ xs) zero x h e = subst Is (ap (some_or y) e) (All-head Is y xs h)
all_got Is (y ∷ xs) (suc k) x h e = all_got Is xs k x (All-tail Is y xs h) e

and_first : (a b : Bool) → (a && b ≡ false → ⊥) → a ≡ true
and_first true b h = refl
and_first false b h = absurd (h refl)

-- each variable of a valid signature is one of its own
pub valid_scoped : (ds : List Decl) (s : Written) → IsValidSig ds s → IsScoped s
valid_scoped ds s h = record { own = h.own; own_bounds = h.own_bounds; bounds = and_first _ _ h.allowed.placed }

all_concrete : (ds : List Decl) (ts : List Ty) → All (IsValueType ds) ts → IsTrue (list_all (is_concrete (table_of ds) opaque) ts)
all_concrete ds [] h = refl
all_concrete ds (t ∷ ts) h = rw ((All-head (IsValueType ds) t ts h).concrete, all_concrete ds ts (All-tail (IsValueType ds) t ts h)) refl

module _ (P : Program) (valid : IsValid P) (key : Key) (proper : IsKeyOf P key) where
  place_touches : (o : Option Delete) → ((p : Delete) → o ≡ Some p → IsValidDelete P p) → (sig : Written) → IsScoped sig → Applicable (types_of P) sig key.types → PlaceDeletes P o key.function sig
      → HeadTouches P (head_of_place o) key
  place_touches None known sig scope a d = absurd d
  place_touches (Some p) known sig scope a (f, (below, above)) = (
    f,
    subsumed (types_of P) (declared_lawful (all_types P) valid.decls) sig p.sig scope (valid_scoped (all_types P) p.sig (known p refl).signature) key.types
        (all_concrete (all_types P) key.types proper.types) below a,
  )

  -- a deletion of the signature of a site that applies touches the key
  pub deletion_touches : (o : Option Change) (k : ℕ) (site : Site) → slice_get P.sites k ≡ Some site → Applicable (types_of P) site.sig key.types → Deletes P o key.function site.sig → ChangeTouches P o key
  deletion_touches None k site e a d = absurd d
  deletion_touches (Some (Ch.Def s)) k site e a d = absurd d
  deletion_touches (Some (Ch.Del place)) k site e a d =
      place_touches (slice_get P.deletes place) (λ p q. all_got (IsValidDelete P) P.deletes place p valid.deletes q) site.sig
      (valid_scoped (all_types P) site.sig (all_got (HasValidSig P) P.sites k site (sites_valid P valid) e)) a d
