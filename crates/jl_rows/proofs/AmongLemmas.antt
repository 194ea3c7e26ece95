-- The choice among the latest definitions of the sites that apply to a key, by the latest deletions of the places that apply to it.
use Rattle.std.proofs.Common.{◌≡◌, sym, subst, ℕ, ◌≤◌, refl, List, take, slice_get, Option, Some}
use Rattle.std.specs.List.{Contains}
use Rattle.jl_model.specs.declared.ty.Key.{Key}
use Rattle.jl_model.specs.Signature.{Applicable, SameSignature}
use Rattle.jl_program.specs.declared.choice.Choice.{Choice}
use Rattle.jl_program.specs.declared.tree.Delete.{Delete}
use Rattle.jl_program.specs.declared.tree.Program.{Program}
use Rattle.jl_program.specs.Scope.{types_of}
use Rattle.jl_program.specs.Valid.{IsValid}
use Rattle.jl_calculus.specs.declared.history.Change.TheVariants as Ch
use Rattle.jl_calculus.specs.declared.history.Def.{Def}
use Rattle.jl_calculus.specs.declared.history.Del.{Del}
use Rattle.jl_calculus.specs.declared.history.Event.{Event}
use Rattle.jl_calculus.specs.Definitions.{sig_of, AppliesTo, HasSite, defs_in}
use Rattle.jl_calculus.specs.Legal.{IsKeyOf}
use Rattle.jl_calculus.specs.Ranges.{head_of_place, HeadTouches}
use Rattle.jl_calculus.specs.World.{changes, change_at, PlaceDeletes, Selects}
use Rattle.jl_calculus.proofs.DeletedLemmas.{deletion_touches}
use Rattle.jl_methods.specs.Filters.{dels_in, HeadApplies}
use Rattle.jl_methods.specs.Latest.{HaveLatestOfSites, HaveLatestOfPlaces}
use Rattle.jl_methods.proofs.ChangeLemmas.{del, def_of, del_of}
use Rattle.jl_methods.proofs.PutLemmas.{get_known}
use Rattle.jl_subsig.specs.Side.{Every}
use Rattle.jl_subsig.specs.Standing.{HasPlace, IsLeft, HaveLatest, ChoosesLeft, HasLaterAtSite, IsRepeated}
use Rattle.jl_subsig.proofs.StandingChoice.{IsKept, kept_left, left_kept, left_selects}
use Rattle.jl_rows.proofs.EachLemmas.{every_of}
use Rattle.jl_rows.proofs.DeletionLemmas.{deletion_of, deletion_there, dels_to, dels_up}

module _ (P : Program) (es : List Event) (key : Key) (w : ℕ) where
  module _ (some : List Def) (h : HaveLatestOfSites P key.types (defs_in P es key.function w) some) where
    pub among_sites : Every (HasSite P) some
    among_sites =
        every_of (HasSite P) some (λ d c. (let i = def_of P key.function 1 (take w (changes es)) d (h.there d c).0 in get_known P.sites d.site i.site i.stands))

    pub among_apply : Every (AppliesTo P key.types) some
    among_apply = every_of (AppliesTo P key.types) some (λ d c. (h.there d c).1)

    pub among_have : HaveLatest P key.types (defs_in P es key.function w) some
    among_have = record { there = λ d c. (h.there d c).0; covered = covered }
      where
        covered : (d : Def) → Contains (defs_in P es key.function w) d → AppliesTo P key.types d → HasLaterAtSite some d
        covered d c a = let o = h.covered d c a in record { by = o.by; stays = o.stays; site_is = o.same; later = o.later }

  module _ (gone : List Del) (h : HaveLatestOfPlaces P key.types (dels_in P es key.function w) gone) where
    pub among_places : Every (HasPlace P) gone
    among_places =
        every_of (HasPlace P) gone (λ e c. (let i = del_of P key.function 1 (take w (changes es)) e (h.there e c).0 in get_known P.deletes e.place i.row i.stands))

    -- a place has the signature of a definition that applies, so it applies too
    module _ (valid : IsValid P) (proper : IsKeyOf P key) where
      abbrev May : Delete → Type 0
      May p = Applicable (types_of P) p.sig key.types

      may_touch : (o : Option Delete) (p : Delete) → o ≡ Some p → HeadTouches P (head_of_place o) key → May p
      may_touch o p r t = (subst (λ o. HeadTouches P (head_of_place o) key) r t).1

      may_by : (d : Def) → Contains (defs_in P es key.function w) d → AppliesTo P key.types d → (place : ℕ) (p : Delete) → slice_get P.deletes place ≡ Some p → p.function ≡ key.function
          → SameSignature (types_of P) (sig_of (slice_get P.sites d.site)) p.sig → May p
      may_by d c a place p r t s =
          let i = def_of P key.function 1 (take w (changes es)) d c in
          may_touch (slice_get P.deletes place) p r
          (deletion_touches P valid key proper (Some (Ch.Del place)) d.site i.site i.stands (subst (λ o. Applicable (types_of P) (sig_of o) key.types) i.stands a)
          (subst (λ o. PlaceDeletes P o key.function i.site.sig) (sym r) (t, subst (λ o. SameSignature (types_of P) (sig_of o) p.sig) i.stands s)))

      repeats : (world place : ℕ) (p : Delete) → change_at es world ≡ Some (Ch.Del place) → world ≤ w → slice_get P.deletes place ≡ Some p → p.function ≡ key.function → May p → IsRepeated (del world place) gone
      repeats world place p q up r t may =
          let c = dels_to P es key.function w (del world place) (deletion_there P es key.function world place p q r t) up in
          let o = h.covered (del world place) c (subst (λ o. HeadApplies P (head_of_place o) key.types) (sym r) may) in
          record { by = o.by; stays = o.stays; place_is = o.same; later = o.later }

      kept_of : (d : Def) → Contains (defs_in P es key.function w) d → AppliesTo P key.types d → IsLeft P gone d → IsKept P es key.function w gone d
      kept_of d c a left = left_kept P es key.function w gone May repeats d (may_by d c a) left

      left_of : (d : Def) → Contains (defs_in P es key.function w) d → AppliesTo P key.types d → IsKept P es key.function w gone d → IsLeft P gone d
      left_of d c a kept = kept_left P es key.function w gone d (λ e i t. (let (u, up) = dels_up P es key.function w e (h.there e i).0 in deletion_of P es key.function w e u up)) kept

      pub among_selects : (c : Choice) → ChoosesLeft P gone key.types (defs_in P es key.function w) c → Selects P es key.function key.types w c
      among_selects c chosen = left_selects P es key.function w gone key.types kept_of left_of c chosen
