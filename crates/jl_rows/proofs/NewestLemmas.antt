-- Whether a method of a place stands in the newest world, by the latest deletion of each place.
use Rattle.std.proofs.Common.{◌≡◌, ◌∙◌, ap, sym, subst, refl, arith, ℕ, suc, ◌≤◌, List, length, take, slice_get, Some}
use Rattle.std.specs.List.{Contains}
use Rattle.jl_model.specs.Choice.{Method}
use Rattle.jl_model.specs.Signature.{SameSignature}
use Rattle.jl_program.specs.declared.tree.Delete.{Delete}
use Rattle.jl_program.specs.declared.tree.Program.{Program}
use Rattle.jl_program.specs.Scope.{types_of}
use Rattle.jl_calculus.specs.declared.history.Change.{Change}
use Rattle.jl_calculus.specs.declared.history.Change.TheVariants as Ch
use Rattle.jl_calculus.specs.declared.history.Def.{Def}
use Rattle.jl_calculus.specs.declared.history.Del.{Del}
use Rattle.jl_calculus.specs.declared.history.Event.{Event}
use Rattle.jl_calculus.specs.Definitions.{sig_of, method_of, HasSite, defs_in, defs_from}
use Rattle.jl_calculus.specs.World.{changes, change_at, world_of, Stands, HasMethodAt, FindsMethod}
use Rattle.jl_calculus.proofs.GrowthLemmas.{changes_length}
use Rattle.jl_calculus.proofs.MethodLemmas.{standing_method, method_standing}
use Rattle.jl_methods.specs.Filters.{defs_of, dels_of}
use Rattle.jl_methods.specs.Latest.{AreLatestOfPlaces}
use Rattle.jl_methods.proofs.ChangeLemmas.{del, def_of, del_of}
use Rattle.jl_methods.proofs.PutLemmas.{get_known}
use Rattle.jl_subsig.specs.Side.{Every}
use Rattle.jl_subsig.specs.Standing.{sig_of_place, HasPlace, IsLeft, HasLeftAt, IsRepeated}
use Rattle.jl_subsig.proofs.StandingChoice.{IsKept, kept_left, left_kept}
use Rattle.jl_world.proofs.Lists.{take_whole}
use Rattle.jl_rows.proofs.EachLemmas.{every_of}
use Rattle.jl_rows.proofs.DeletionLemmas.{made_at, deletion_of, deletion_there}

-- the definitions of a function have sites
pub defs_sites : (P : Program) (f : ℕ) (cs : List Change) → Every (HasSite P) (defs_from P f 1 cs)
defs_sites P f cs =
    every_of (HasSite P) (defs_from P f 1 cs) (λ d c. (let i = def_of P f 1 cs d c in get_known P.sites d.site i.site i.stands))

-- the latest deletion of each place
module _ (P : Program) (es : List Event) (f : ℕ) (gone : List Del) (h : AreLatestOfPlaces (dels_of P es f) gone) where
  pub gone_places : Every (HasPlace P) gone
  gone_places = every_of (HasPlace P) gone (λ e c. (let i = del_of P f 1 (changes es) e (h.there e c).0 in get_known P.deletes e.place i.row i.stands))

  gone_kept : (w : ℕ) (d : Def) → IsLeft P gone d → IsKept P es f w gone d
  gone_kept w d left = left_kept P es f w gone (λ p. Unit {0}) all d (λ place p r t s. tt) left
    where
      all : (world place : ℕ) (p : Delete) → change_at es world ≡ Some (Ch.Del place) → world ≤ w → slice_get P.deletes place ≡ Some p → p.function ≡ f → Unit {0} → IsRepeated (del world place) gone
      all world place p q up r t may =
          let o = h.covered (del world place) (deletion_there P es f world place p q r t) tt in
          record { by = o.by; stays = o.stays; place_is = o.same; later = o.later }

  -- ---- whether a method stands in the newest world

  module _ (place : ℕ) (p : Delete) (at : slice_get P.deletes place ≡ Some p) where
    whole : defs_in P es f (world_of es) ≡ defs_of P es f
    whole = ap (defs_from P f 1) (ap (λ n. take n (changes es)) (sym (changes_length es)) ∙ take_whole (changes es))

    newest_kept : (d : Def) → IsKept P es f (world_of es) gone d → IsLeft P gone d
    newest_kept d kept = kept_left P es f (world_of es) gone d (λ e c t. deletion_of P es f (world_of es) e (h.there e c).0 (up e c)) kept
      where
        up : (e : Del) → Contains gone e → e.world ≤ world_of es
        up e c =
            let y = del_of P f 1 (changes es) e (h.there e c).0 in
            let l = get_known (changes es) y.place (Ch.Del e.place) y.change_is in
            omega (arith, y.world_is, l, changes_length es)

    pub finds_from : HasLeftAt P gone (defs_of P es f) place → p.function ≡ f → FindsMethod P es place
    finds_from l t =
        let d = l.def in
        let stands = standing_method P es f (world_of es) d (record { made = subst (λ ds. Contains ds d) (sym whole) l.stands; kept = gone_kept (world_of es) d l.is_left }) in
        let same : SameSignature (types_of P) (sig_of (slice_get P.sites d.site)) p.sig = subst (λ o. SameSignature (types_of P) (sig_of (slice_get P.sites d.site)) (sig_of_place o)) at l.same in
        subst (HasMethodAt P es (world_of es)) (sym at) (subst (λ g. (m : Method) × Stands P es g (world_of es) m × SameSignature (types_of P) m.sig p.sig) (sym t) (method_of P d, stands, same))

    pub finds_to : p.function ≡ f → FindsMethod P es place → HasLeftAt P gone (defs_of P es f) place
    finds_to t found = by (subst (λ g. (m : Method) × Stands P es g (world_of es) m × SameSignature (types_of P) m.sig p.sig) t (subst (HasMethodAt P es (world_of es)) at found))
      where
        by : ((m : Method) × Stands P es f (world_of es) m × SameSignature (types_of P) m.sig p.sig) → HasLeftAt P gone (defs_of P es f) place
        by (m, stands, same) =
            let (d, k, q) = method_standing P es f (world_of es) m stands in
            let alike : SameSignature (types_of P) (sig_of (slice_get P.sites d.site)) p.sig = subst (λ (z : Method). SameSignature (types_of P) z.sig p.sig) (sym q) same in
            record {
              def = d;
              stands = subst (λ ds. Contains ds d) whole k.made;
              is_left = newest_kept d k.kept;
              same = subst (λ o. SameSignature (types_of P) (sig_of (slice_get P.sites d.site)) (sig_of_place o)) (sym at) alike;
            }
