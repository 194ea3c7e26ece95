-- Whether a method of a deletion place stood in the newest world of the first events.
use Rattle.std.proofs.Common.{◌≡◌, ◌∙◌, ap, sym, subst, refl, ℕ, zero, suc, ◌+◌, ◌<◌, ◌≤◌, arith, Bool, true, false, not, IsTrue, List, length, take, drop, take-append-drop, slice_get, Option, None, Some}
use Rattle.std.specs.Prelude.{◌↔◌}
use Rattle.std.specs.Bool.{Decides}
use Rattle.std.specs.List.{Contains}
use Rattle.std.proofs.lemmas.List.{take_at}
use Rattle.jl_model.specs.declared.limits.TheConstants.{MOST_WORLDS}
use Rattle.jl_model.specs.Choice.{Method}
use Rattle.jl_model.specs.Signature.{SameSignature}
use Rattle.jl_program.specs.declared.tree.Delete.{Delete}
use Rattle.jl_program.specs.declared.tree.Program.{Program}
use Rattle.jl_program.specs.declared.tree.Site.{Site}
use Rattle.jl_program.specs.Scope.{types_of}
use Rattle.jl_calculus.specs.declared.history.Change.{Change}
use Rattle.jl_calculus.specs.declared.history.Change.TheVariants as Ch
use Rattle.jl_calculus.specs.declared.history.Def.{Def}
use Rattle.jl_calculus.specs.declared.history.Del.{Del}
use Rattle.jl_calculus.specs.declared.history.Event.{Event}
use Rattle.jl_calculus.specs.Definitions.{sig_of, method_of, defs_in, defs_from}
use Rattle.jl_calculus.specs.Past.{IsAbsent}
use Rattle.jl_calculus.specs.World.{changed, changes, world_of, Stands, HasMethodAt, FindsMethod}
use Rattle.jl_calculus.proofs.GrowthLemmas.{changes_append, changes_length, world_more}
use Rattle.jl_calculus.proofs.MethodLemmas.{standing_method, method_standing}
use Rattle.jl_methods.specs.Filters.{change_in, defs_of, dels_of}
use Rattle.jl_methods.proofs.ChangeLemmas.{def, del, IsDefAt, def_of, def_there, del_of, del_there}
use Rattle.jl_methods.proofs.FunctionLemmas.{get_there}
use Rattle.jl_methods.proofs.PutLemmas.{get_known}
use Rattle.jl_subsig.specs.Standing.{sig_of_place, AreSameSigs, IsLeft, HasLeftAt}
use Rattle.jl_subsig.proofs.StandingChoice.{IsKept, kept_left, left_kept}
use Rattle.jl_world.proofs.Lists.{take_whole}
use Rattle.jl_rows.proofs.DeletionLemmas.{deletion_of, deletion_there}
use Rattle.jl_causes.specs.Stands.{AreOfOne, IsAlike, IsThere, HasThere}
use Rattle.jl_causes.proofs.TruthLemmas.{get_taken}

-- the changes of the first events are the first changes
pub first_changes : (es : List Event) (at w : ℕ) → world_of (take at es) ≡ w → take w (changes es) ≡ changes (take at es)
first_changes es at w e =
    let past = take at es in
    ap (λ n. take n (changes es)) (sym e ∙ sym (changes_length past)) ∙ ap (λ xs. take (length (changes past)) (changes xs)) (sym (take-append-drop at es))
    ∙ ap (take (length (changes past))) (changes_append past (drop at es)) ∙ take_at (changes past) (changed (drop at es)) (length (changes past)) refl

-- ---- whether a method stands in the newest world

module _ (P : Program) (es : List Event) (f place : ℕ) (p : Delete) (at : slice_get P.deletes place ≡ Some p) (function : p.function ≡ f) where
  abbrev gone : List Del
  gone = dels_of P es f

  whole : defs_in P es f (world_of es) ≡ defs_of P es f
  whole = ap (defs_from P f 1) (ap (λ n. take n (changes es)) (sym (changes_length es)) ∙ take_whole (changes es))

  left_stays : (d : Def) → IsLeft P gone d → IsKept P es f (world_of es) gone d
  left_stays d left =
      left_kept P es f (world_of es) gone (λ q. Unit {0})
      (λ world where_to q c up r t may. record { by = del world where_to; stays = deletion_there P es f world where_to q c r t; place_is = refl; later = omega arith }) d (λ where_to q r t s. tt) left

  stays_left : (d : Def) → IsKept P es f (world_of es) gone d → IsLeft P gone d
  stays_left d kept = kept_left P es f (world_of es) gone d (λ e c t. deletion_of P es f (world_of es) e c (up e c)) kept
    where
      up : (e : Del) → Contains gone e → e.world ≤ world_of es
      up e c =
          let y = del_of P f 1 (changes es) e c in
          let l = get_known (changes es) y.place (Ch.Del e.place) y.change_is in
          omega (arith, y.world_is, l, changes_length es)

  stood_from : HasLeftAt P gone (defs_of P es f) place → FindsMethod P es place
  stood_from l =
      let d = l.def in
      let stands = standing_method P es f (world_of es) d (record { made = subst (λ ds. Contains ds d) (sym whole) l.stands; kept = left_stays d l.is_left }) in
      let same : SameSignature (types_of P) (sig_of (slice_get P.sites d.site)) p.sig = subst (λ o. SameSignature (types_of P) (sig_of (slice_get P.sites d.site)) (sig_of_place o)) at l.same in
      subst (HasMethodAt P es (world_of es)) (sym at) (subst (λ g. (m : Method) × Stands P es g (world_of es) m × SameSignature (types_of P) m.sig p.sig) (sym function) (method_of P d, stands, same))

  stood_to : FindsMethod P es place → HasLeftAt P gone (defs_of P es f) place
  stood_to found = by (subst (λ g. (m : Method) × Stands P es g (world_of es) m × SameSignature (types_of P) m.sig p.sig) function (subst (HasMethodAt P es (world_of es)) at found))
    where
      by : ((m : Method) × Stands P es f (world_of es) m × SameSignature (types_of P) m.sig p.sig) → HasLeftAt P gone (defs_of P es f) place
      by (m, stands, same) =
          let (d, k, q) = method_standing P es f (world_of es) m stands in
          let alike : SameSignature (types_of P) (sig_of (slice_get P.sites d.site)) p.sig = subst (λ (z : Method). SameSignature (types_of P) z.sig p.sig) (sym q) same in
          record {
            def = d;
            stands = subst (λ ds. Contains ds d) whole k.made;
            is_left = stays_left d k.kept;
            same = subst (λ o. SameSignature (types_of P) (sig_of (slice_get P.sites d.site)) (sig_of_place o)) (sym at) alike;
          }

  -- it does where one of the definitions of the function is left
  pub stood : HasLeftAt P gone (defs_of P es f) place ↔ FindsMethod P es place
  stood = (stood_from, stood_to)

-- ---- by the sites that a deletion at the place takes away

module _ (P : Program) (es : List Event) (place : ℕ) (p : Delete) (at : slice_get P.deletes place ≡ Some p) where
  abbrev cs : List Change
  cs = changes es

  -- a site of the function and the signature of the place
  record IsSiteOf (site : ℕ) : Type 0 where
    pub row : Site
    pub stands : slice_get P.sites site ≡ Some row
    pub function_is : row.function ≡ p.function

  site_of_alike : (site : ℕ) → IsAlike P site place → IsSiteOf site
  site_of_alike site a = by (slice_get P.sites site) refl (subst (AreOfOne (slice_get P.sites site)) at a.one)
    where
      by : (o : Option Site) → slice_get P.sites site ≡ o → AreOfOne o (Some p) → IsSiteOf site
      by None q one = absurd one
      by (Some s) q one = record { row = s; stands = q; function_is = one }

  -- a deletion of its function
  record IsPlaceOf (other : ℕ) : Type 0 where
    pub row : Delete
    pub stands : slice_get P.deletes other ≡ Some row
    pub function_is : row.function ≡ p.function

  place_of_alike : (site other : ℕ) → IsSiteOf site → IsAlike P site other → IsPlaceOf other
  place_of_alike site other i a = by (slice_get P.deletes other) refl (subst (λ o. AreOfOne o (slice_get P.deletes other)) i.stands a.one)
    where
      by : (o : Option Delete) → slice_get P.deletes other ≡ o → AreOfOne (Some i.row) o → IsPlaceOf other
      by None q one = absurd one
      by (Some d) q one = record { row = d; stands = q; function_is = sym one ∙ i.function_is }

  alike_rows : (site other : ℕ) (s : Site) (d : Delete) → slice_get P.sites site ≡ Some s → slice_get P.deletes other ≡ Some d → s.function ≡ d.function → AreSameSigs P site other → IsAlike P site other
  alike_rows site other s d q r e same = record { one = subst (λ o. AreOfOne o (slice_get P.deletes other)) (sym q) (subst (AreOfOne (Some s)) (sym r) e); same = same }

  change_known : (w : ℕ) (c : Change) → change_in cs w ≡ Some c → (j : ℕ) × (w ≡ suc j) × (slice_get cs j ≡ Some c) × (j < length cs)
  change_known zero c q = absurd (cc q)
  change_known (suc j) c q = (j, refl, q, get_known cs j c q)

  module _ (left : HasLeftAt P (dels_of P es p.function) (defs_of P es p.function) place) where
    there_from : HasThere P cs place (length cs)
    there_from = (d.site, alike_rows d.site place i.site p i.stands at i.function_is left.same, record { made = d.world; change_is = change_in_is; up = omega (arith, i.world_is, get_known cs i.place (Ch.Def d.site) i.change_is); kept = kept })
      where
        d : Def
        d = left.def

        i : IsDefAt P p.function 1 cs d
        i = def_of P p.function 1 cs d left.stands

        change_in_is : change_in cs d.world ≡ Some (Ch.Def d.site)
        change_in_is = let q : d.world ≡ suc i.place = omega (arith, i.world_is) in ap (change_in cs) q ∙ i.change_is

        kept : (w other : ℕ) → d.world < w → w ≤ length cs → change_in cs w ≡ Some (Ch.Del other) → IsAlike P d.site other → ⊥
        kept w other low high q a =
            let (j, is, there, within) = change_known w (Ch.Del other) q in
            let o = place_of_alike d.site other (record { row = i.site; stands = i.stands; function_is = i.function_is }) a in
            left.is_left (del (1 + j) other) (del_there P p.function 1 cs j other o.row there o.stands o.function_is) (record { later = omega (arith, low, is); same = a.same })

  left_from : HasThere P cs place (length cs) → HasLeftAt P (dels_of P es p.function) (defs_of P es p.function) place
  left_from (site, alike, t) =
      let i = site_of_alike site alike in
      let (j, is, there, within) = change_known t.made (Ch.Def site) t.change_is in
      record {
        def = def (1 + j) site;
        stands = def_there P p.function 1 cs j site i.row there i.stands i.function_is;
        is_left = λ e c taken.
            let k = del_of P p.function 1 cs e c in
            let world : e.world ≡ suc k.place = omega (arith, k.world_is) in
            let later = taken.later in
            t.kept e.world e.place (omega (arith, is, later)) (omega (arith, world, get_known cs k.place (Ch.Del e.place) k.change_is)) (ap (change_in cs) world ∙ k.change_is)
            (alike_rows site e.place i.row k.row i.stands k.stands (i.function_is ∙ sym k.function_is) taken.same);
        same = alike.same;
      }

-- what is made of the changes up to a world is what was made of the first events
module _ (P : Program) (es : List Event) (at world : ℕ) (is : world_of (take at es) ≡ world) where
  up_is : take world (changes es) ≡ changes (take at es)
  up_is = first_changes es at world is

  pub world_there : world ≤ length (changes es)
  world_there = omega (arith, is, changes_length es, world_more (take at es) (drop at es), ap world_of (take-append-drop at es))

  past_length : length (changes (take at es)) ≡ world
  past_length = changes_length (take at es) ∙ is

  change_up : (w : ℕ) → w ≤ world → change_in (changes (take at es)) w ≡ change_in (changes es) w
  change_up zero l = refl
  change_up (suc j) l = ap (λ cs. slice_get cs j) (sym up_is) ∙ get_taken world j (changes es) (omega (arith, l))

  there_up : (site : ℕ) → IsThere P (changes es) site world → IsThere P (changes (take at es)) site world
  there_up site t =
      record {
        made = t.made;
        change_is = change_up t.made t.up ∙ t.change_is;
        up = t.up;
        kept = λ w place low high q. t.kept w place low high (sym (change_up w high) ∙ q);
      }

  there_down : (site : ℕ) → IsThere P (changes (take at es)) site world → IsThere P (changes es) site world
  there_down site t =
      record {
        made = t.made;
        change_is = sym (change_up t.made t.up) ∙ t.change_is;
        up = t.up;
        kept = λ w place low high q. t.kept w place low high (change_up w high ∙ q);
      }

  -- a method of the signature of a place stands where one of a site does that the place takes away
  pub found_by : (place : ℕ) → place < length P.deletes → HasThere P (changes es) place world ↔ FindsMethod P (take at es) place
  found_by place known = (to, from)
    where
      to : HasThere P (changes es) place world → FindsMethod P (take at es) place
      to (site, alike, t) =
          let (p, q) = get_there P.deletes place known in
          (stood P (take at es) p.function place p q refl).0
          (left_from P (take at es) place p q (site, alike, subst (IsThere P (changes (take at es)) site) (sym past_length) (there_up site t)))

      from : FindsMethod P (take at es) place → HasThere P (changes es) place world
      from found =
          let (p, q) = get_there P.deletes place known in
          let (site, alike, t) = there_from P (take at es) place p q ((stood P (take at es) p.function place p q refl).1 found) in
          (site, alike, there_down site (subst (IsThere P (changes (take at es)) site) past_length t))

-- after all events
pub finds_now : (P : Program) (es : List Event) (place world : ℕ) (b : Bool) → (world_of (take (length es) es) ≡ world → Decides b (FindsMethod P (take (length es) es) place)) → world ≡ world_of es → Decides b (FindsMethod P es place)
finds_now P es place world b answer now = subst (λ xs. Decides b (FindsMethod P xs place)) (take_whole es) (answer (ap world_of (take_whole es) ∙ sym now))

-- a place at which a method may be found is one of the program
pub place_found : (P : Program) (es : List Event) (place : ℕ) → FindsMethod P es place → place < length P.deletes
place_found P es place found = by (slice_get P.deletes place) refl found
  where
    by : (o : Option Delete) → slice_get P.deletes place ≡ o → HasMethodAt P es (world_of es) o → place < length P.deletes
    by None q h = absurd h
    by (Some p) q h = get_known P.deletes place p q

-- ---- whether there is nothing to delete after the first events

module _ (P : Program) (es : List Event) (place at : ℕ) where
  abbrev AbsentThere : Type 0
  AbsentThere = (at ≤ length es) × IsAbsent P (take at es) place

  pub not_absent : (AbsentThere → ⊥) → IsTrue false ↔ AbsentThere
  not_absent fails = ((λ yes. absurd (cc yes)), (λ h. absurd (fails h)))

  pub absent_by : (b : Bool) → at ≤ length es → place < length P.deletes → world_of (take at es) < MOST_WORLDS → Decides b (FindsMethod P (take at es) place) → IsTrue (not b) ↔ AbsentThere
  absent_by true l known room d = ((λ yes. absurd (cc yes)), (λ h. absurd (h.1.absent (d.0 refl))))
  absent_by false l known room d = ((λ yes. (l, record { known = known; room = room; absent = λ found. (let z : false ≡ true = d.1 found in cc) })), (λ h. refl))
