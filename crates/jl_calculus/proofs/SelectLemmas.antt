-- A world has one choice for a call, and where nothing was deleted it is the choice among all methods that were made.
use Rattle.std.proofs.Common.{◌≡◌, ◌∙◌, sym, ap, subst, refl, ℕ, zero, suc, ◌+◌, ◌<◌, ◌≤◌, arith, Bool, true, false, IsTrue, List, [], ◌∷◌, take, slice_get, Option, None, Some}
use Rattle.std.specs.Prelude.{◌↔◌}
use Rattle.std.specs.List.{Contains}
use Rattle.jl_model.specs.declared.ty.Ty.{Ty}
use Rattle.jl_model.specs.declared.ty.Written.{Written}
use Rattle.jl_model.specs.Choice.{Method, Applies}
use Rattle.jl_model.specs.Signature.{Applicable}
use Rattle.jl_program.specs.declared.choice.Choice.{Choice}
use Rattle.jl_program.specs.declared.tree.Delete.{Delete}
use Rattle.jl_program.specs.declared.tree.Program.{Program}
use Rattle.jl_program.specs.Chooses.{Chooses}
use Rattle.jl_program.specs.Scope.{types_of}
use Rattle.jl_calculus.specs.declared.history.Change.{Change}
use Rattle.jl_calculus.specs.declared.history.Change.TheVariants as Ch
use Rattle.jl_calculus.specs.declared.history.Event.{Event}
use Rattle.jl_calculus.specs.World.{changes, change_at, methods_made, PlaceDeletes, Deletes, Stands, AreMethodsFor, Selects}
use Rattle.jl_calculus.proofs.ApplyLemmas.{chooses_to}
use Rattle.jl_calculus.proofs.ChoiceLaws.{determined}

-- two lists that have, of the methods that apply, those that stand
module _ (P : Program) (es : List Event) (f : ℕ) (ts : List Ty) (w : ℕ) where
  alike : (ms os : List Method) → AreMethodsFor P es f ts w ms → AreMethodsFor P es f ts w os → (m : Method) → Applies (types_of P) ms ts m → Applies (types_of P) os ts m
  alike ms os a b m h = record { stands = (b m h.below).1 ((a m h.below).0 h.stands); below = h.below }

  -- the choice is that among any of them
  pub selects_among : (ms : List Method) → AreMethodsFor P es f ts w ms → (c : Choice) → Selects P es f ts w c → Chooses (types_of P) ms ts c
  selects_among ms a c (os, b, h) = chooses_to (types_of P) os ms ts (alike os ms b a) (alike ms os a b) c h

  pub selects_one : (c d : Choice) → Selects P es f ts w c → Selects P es f ts w d → c ≡ d
  selects_one c d (ms, a, h) k = determined (types_of P) ms ts c d h (selects_among ms a d k)

  -- where no change deletes
  module _ (none : (e : ℕ) → e ≤ w → (sig : Written) → Deletes P (change_at es e) f sig → ⊥) where
    made_for : AreMethodsFor P es f ts w (methods_made P es f w)
    made_for m a = ((λ i. record { made = i; kept = λ e low high d. none e high m.sig d }), (λ s. s.made))

    pub selects_of_made : (c : Choice) → Chooses (types_of P) (methods_made P es f w) ts c → Selects P es f ts w c
    selects_of_made c h = (methods_made P es f w, made_for, h)

    pub made_of_selects : (c : Choice) → Selects P es f ts w c → Chooses (types_of P) (methods_made P es f w) ts c
    made_of_selects c h = selects_among (methods_made P es f w) made_for c h

-- ---- a program without a deletion place

no_place : (ps : List Delete) → ps ≡ [] → (k : ℕ) → slice_get ps k ≡ None
no_place [] e k = refl
no_place (p ∷ ps) e k = cc

pub nothing_deletes : (P : Program) → P.deletes ≡ [] → (o : Option Change) (f : ℕ) (sig : Written) → Deletes P o f sig → ⊥
nothing_deletes P e None f sig d = d
nothing_deletes P e (Some (Ch.Def site)) f sig d = d
nothing_deletes P e (Some (Ch.Del place)) f sig d = subst (λ (o : Option Delete). PlaceDeletes P o f sig) (no_place P.deletes e place) d

module _ (P : Program) (e : P.deletes ≡ []) (es : List Event) (f : ℕ) (ts : List Ty) (w : ℕ) (c : Choice) where
  pub selects_plain : Chooses (types_of P) (methods_made P es f w) ts c → Selects P es f ts w c
  selects_plain = selects_of_made P es f ts w (λ d l sig k. nothing_deletes P e (change_at es d) f sig k) c

  pub plain_selects : Selects P es f ts w c → Chooses (types_of P) (methods_made P es f w) ts c
  plain_selects = made_of_selects P es f ts w (λ d l sig k. nothing_deletes P e (change_at es d) f sig k) c
