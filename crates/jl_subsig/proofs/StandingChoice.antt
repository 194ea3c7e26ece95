-- The choice among the definitions of a function that are left is the choice in a world.
use Rattle.std.proofs.Common.{◌≡◌, refl, sym, subst, ℕ, ◌<◌, ◌≤◌, arith, List, slice_get, Option, None, Some}
use Rattle.std.specs.List.{Contains}
use Rattle.jl_model.specs.declared.ty.Ty.{Ty}
use Rattle.jl_model.specs.declared.ty.Written.{Written}
use Rattle.jl_model.specs.Choice.{Method}
use Rattle.jl_model.specs.Signature.{Applicable, SameSignature}
use Rattle.jl_program.specs.declared.choice.Choice.{Choice}
use Rattle.jl_program.specs.declared.tree.Delete.{Delete}
use Rattle.jl_program.specs.declared.tree.Program.{Program}
use Rattle.jl_program.specs.Scope.{types_of}
use Rattle.jl_calculus.specs.declared.history.Change.{Change}
use Rattle.jl_calculus.specs.declared.history.Change.TheVariants as Ch
use Rattle.jl_calculus.specs.declared.history.Def.{Def}
use Rattle.jl_calculus.specs.declared.history.Del.{Del}
use Rattle.jl_calculus.specs.declared.history.Event.{Event}
use Rattle.jl_calculus.specs.Definitions.{sig_of, methods_of, AppliesTo, defs_in}
use Rattle.jl_calculus.specs.World.{change_at, PlaceDeletes, Deletes, Stands, AreMethodsFor, Selects}
use Rattle.jl_calculus.proofs.MethodLemmas.{standing_method, method_standing}
use Rattle.jl_subsig.specs.Standing.{sig_of_place, AreSameSigs, TakesAway, IsLeft, ChoosesLeft, AreLeftFor, IsRepeated}
use Rattle.jl_subsig.proofs.LatestLemmas.{method_contained, def_contained}

module _ (P : Program) (es : List Event) (f w : ℕ) where
  -- a deletion is of the function, and was made up to the world
  pub record IsDeletionOf (e : Del) : Type 0 where
    pub place : Delete
    pub change : change_at es e.world ≡ Some (Ch.Del e.place)
    pub up : e.world ≤ w
    pub stands : slice_get P.deletes e.place ≡ Some place
    pub function_is : place.function ≡ f

  module _ (dels : List Del) where
    -- no change up to the world deletes a definition
    abbrev pub IsKept : Def → Type 0
    IsKept d = (e : ℕ) → d.world < e → e ≤ w → Deletes P (change_at es e) f (sig_of (slice_get P.sites d.site)) → ⊥

    -- what is kept is left, where each deletion that may take it away is of the function and was made up to the world
    pub kept_left : (d : Def) → ((e : Del) → Contains dels e → TakesAway P e d → IsDeletionOf e) → IsKept d → IsLeft P dels d
    kept_left d made kept e c t =
        let i = made e c t in
        let sig : Written = sig_of (slice_get P.sites d.site) in
        let same : SameSignature (types_of P) sig i.place.sig = subst (λ (o : Option Delete). SameSignature (types_of P) sig (sig_of_place o)) i.stands t.same in
        kept e.world t.later i.up (subst (λ (o : Option Change). Deletes P o f sig) (sym i.change) (subst (λ (o : Option Delete). PlaceDeletes P o f sig) (sym i.stands) (i.function_is, same)))

    -- what is left is kept, where each deletion at a place that may take it away is there, or a later one at its place
    pub left_kept : (May : Delete → Type 0)
        → ((world place : ℕ) (p : Delete) → change_at es world ≡ Some (Ch.Del place) → world ≤ w → slice_get P.deletes place ≡ Some p → p.function ≡ f → May p
        → IsRepeated (record { world = world; place = place }) dels)
        → (d : Def) → ((place : ℕ) (p : Delete) → slice_get P.deletes place ≡ Some p → p.function ≡ f → SameSignature (types_of P) (sig_of (slice_get P.sites d.site)) p.sig → May p) → IsLeft P dels d → IsKept d
    left_kept May all d may left e low high = by_change (change_at es e) refl
      where
        by_place : (place : ℕ) → change_at es e ≡ Some (Ch.Del place) → (o : Option Delete) → slice_get P.deletes place ≡ o → PlaceDeletes P o f (sig_of (slice_get P.sites d.site)) → ⊥
        by_place place q None r deletes = absurd deletes
        by_place place q (Some p) r (function, same) =
            let o = all e place p q high r function (may place p r function same) in
            let later = o.later in
            let alike : SameSignature (types_of P) (sig_of (slice_get P.sites d.site)) (sig_of_place (slice_get P.deletes place)) = subst (λ (o : Option Delete). SameSignature (types_of P) (sig_of (slice_get P.sites d.site)) (sig_of_place o)) (sym r) same in
            left o.by o.stays (record { later = omega (arith, low, later); same = subst (AreSameSigs P d.site) (sym o.place_is) alike })

        by_change : (o : Option Change) → change_at es e ≡ o → Deletes P o f (sig_of (slice_get P.sites d.site)) → ⊥
        by_change None q deletes = absurd deletes
        by_change (Some (Ch.Def site)) q deletes = absurd deletes
        by_change (Some (Ch.Del place)) q deletes = by_place place q (slice_get P.deletes place) refl deletes

    module _ (ts : List Ty) (kept_of : (d : Def) → Contains (defs_in P es f w) d → AppliesTo P ts d → IsLeft P dels d → IsKept d) (left_of : (d : Def) → Contains (defs_in P es f w) d → AppliesTo P ts d → IsKept d → IsLeft P dels d) where
      are_methods : (those : List Def) → AreLeftFor P dels ts (defs_in P es f w) those → AreMethodsFor P es f ts w (methods_of P those)
      are_methods those are m a = (to, from)
        where
          to : Contains (methods_of P those) m → Stands P es f w m
          to i =
              let (d, j, q) = def_contained P those m i in
              let b : AppliesTo P ts d = subst (λ (z : Method). Applicable (types_of P) z.sig ts) (sym q) a in
              let r = (are d b).0 j in
              subst (Stands P es f w) q (standing_method P es f w d (record { made = r.0; kept = kept_of d r.0 b r.1 }))

          from : Stands P es f w m → Contains (methods_of P those) m
          from s =
              let (d, h, q) = method_standing P es f w m s in
              let b : AppliesTo P ts d = subst (λ (z : Method). Applicable (types_of P) z.sig ts) (sym q) a in
              subst (Contains (methods_of P those)) q (method_contained P those d ((are d b).1 (h.made, left_of d h.made b h.kept)))

      pub left_selects : (c : Choice) → ChoosesLeft P dels ts (defs_in P es f w) c → Selects P es f ts w c
      left_selects c (those, are, chosen) = (methods_of P those, are_methods those are, chosen)
