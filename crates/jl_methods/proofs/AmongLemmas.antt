-- What an index tells of the sites and of the places that apply to a key: the worlds that touch the key, and the latest changes up to a
-- world.
use Rattle.std.proofs.Common.{◌≡◌, ◌∙◌, ap, sym, subst, refl, ℕ, zero, suc, ◌+◌, ◌<◌, ◌≤◌, ◌⊎◌, inl, inr, arith, max, List, length, take, get_or, slice_get, Option, None, Some}
use Rattle.std.specs.Prelude.{◌↔◌}
use Rattle.std.specs.List.{All, Contains}
use Rattle.std.specs.List.Sorted.{IsStrictlyIncreasing}
use Rattle.std.proofs.lemmas.List.Elements.{Contains-get_or}
use Rattle.jl_model.specs.declared.ty.Key.{Key}
use Rattle.jl_program.specs.declared.tree.Program.{Program}
use Rattle.jl_calculus.specs.declared.history.Change.{Change}
use Rattle.jl_calculus.specs.declared.history.Change.TheVariants as Ch
use Rattle.jl_calculus.specs.declared.history.Def.{Def}
use Rattle.jl_calculus.specs.declared.history.Del.{Del}
use Rattle.jl_calculus.specs.declared.history.Event.{Event}
use Rattle.jl_calculus.specs.Definitions.{AppliesTo, defs_from, dels_from, worlds}
use Rattle.jl_calculus.specs.Ranges.{head_of, keys_of, HeadTouches, ChangeTouches, Touches}
use Rattle.jl_calculus.specs.World.{changes}
use Rattle.jl_methods.specs.Filters.{change_in, defs_at, ChangeApplies}
use Rattle.jl_methods.specs.Latest.{HasLater, HaveLatestOfSites, HaveLatestOfPlaces, site_number, place_number}
use Rattle.jl_methods.specs.Links.{Linked, AreNumbers, AreLinked, AreApplying, IsLast, IsNext, IsMadeBy, IsLastMade, AreLastDels, earlier}
use Rattle.jl_methods.specs.Numbered.{nth, RisesFrom}
use Rattle.jl_methods.proofs.ChangeLemmas.{def, del, IsDefAt, def_of, def_there, IsDelAt, del_of, del_there}
use Rattle.jl_methods.proofs.LastLemmas.{last_both, next_both, some_last}
use Rattle.jl_methods.proofs.LinkLemmas.{in_known, def_once, del_once}
use Rattle.jl_methods.proofs.PutLemmas.{get_known, take_within}
use Rattle.jl_methods.proofs.TouchLemmas.{increases, IsTouch, touch_of, touches_in, site_row, place_row, touching_applies, applying_touches, def_applies, applies_def, def_touches, del_touches}
use Rattle.jl_methods.proofs.UpLemmas.{defs_at_from, defs_at_there, defs_at_rise, in_take}

same_change : {X : Type 0} (o : Option X) (a b : X) → o ≡ Some a → o ≡ Some b → a ≡ b
same_change o a b e f = cc

-- ---- the worlds that touch a key

module _ (P : Program) (es : List Event) (ss ps : Linked) (s : AreLinked P Ch.Def (length P.sites) (changes es) (keys_of es) ss) (p : AreLinked P Ch.Del (length P.deletes) (changes es) (keys_of es) ps)
    (n : ℕ) (key : Key) (at : slice_get (keys_of es) n ≡ Some key) where
  abbrev IsDefined : ℕ → Type 0
  IsDefined w = IsMadeBy ss.worlds (nth ss.applying n) w

  abbrev IsDeleted : ℕ → Type 0
  IsDeleted w = IsMadeBy ps.worlds (nth ps.applying n) w

  touch_from : (w : ℕ) → Touches P es w key → IsDefined w ⊎ IsDeleted w
  touch_from w t = by h.change h.change_is h.touches
    where
      h : IsTouch P (changes es) w key
      h = touch_of P (changes es) w key ((touches_in P es w key).1 t)

      by : (c : Change) → slice_get (changes es) h.place ≡ Some c → HeadTouches P (head_of P c) key → IsDefined w ⊎ IsDeleted w
      by (Ch.Def site) e u = inl (site, ((s.each_applying n key at).exact site).1 u, ((s.each_worlds site).exact w).1 (ap (change_in (changes es)) h.world_is ∙ e))
      by (Ch.Del place) e u = inr (place, ((p.each_applying n key at).exact place).1 u, ((p.each_worlds place).exact w).1 (ap (change_in (changes es)) h.world_is ∙ e))

  defined_touches : (w : ℕ) → IsDefined w → Touches P es w key
  defined_touches w (site, c, i) =
      (touches_in P es w key).0
      (subst (λ o. ChangeTouches P o key) (sym (((s.each_worlds site).exact w).0 i)) (((s.each_applying n key at).exact site).0 c))

  deleted_touches : (w : ℕ) → IsDeleted w → Touches P es w key
  deleted_touches w (place, c, i) =
      (touches_in P es w key).0
      (subst (λ o. ChangeTouches P o key) (sym (((p.each_worlds place).exact w).0 i)) (((p.each_applying n key at).exact place).0 c))

  pub touching_last : (w a b : ℕ) → IsLast IsDefined w a → IsLast IsDeleted w b → IsLast (λ d. Touches P es d key) w (max a b)
  touching_last w a b h k = last_both IsDefined IsDeleted (λ d. Touches P es d key) w touch_from defined_touches deleted_touches a b h k

  pub touching_next : (w : ℕ) (a b : Option ℕ) → IsNext IsDefined w a → IsNext IsDeleted w b → IsNext (λ d. Touches P es d key) w (earlier a b)
  touching_next w a b h k = next_both IsDefined IsDeleted (λ d. Touches P es d key) w touch_from defined_touches deleted_touches a b h k

-- ---- the latest definitions

module _ (P : Program) (cs : List Change) (keys : List Key) (l : Linked) (h : AreLinked P Ch.Def (length P.sites) cs keys l) (ks : List ℕ) (w : ℕ) (ws : List ℕ) (are : AreNumbers (IsLastMade l.worlds ks w) ws) where
  -- such a world is that of a definition of the site, and is up to the other
  made_last : (d n : ℕ) → 0 < d → IsLast (λ x. Contains (nth l.worlds n) x) w d → change_in cs d ≡ Some (Ch.Def n)
  made_last d n p m = by m.there
    where
      by : (d ≡ 0) ⊎ Contains (nth l.worlds n) d → change_in cs d ≡ Some (Ch.Def n)
      by (inl e) = absurd (omega (arith, e, p))
      by (inr i) = ((h.each_worlds n).exact d).0 i

  pub latest_known : All (λ n. (1 ≤ n) × (n ≤ length cs)) ws
  latest_known =
      λ k d m.
      let (n, c, p, q) = (are.exact (get_or ws k d)).0 (Contains-get_or ws k d m) in
      in_known cs (Ch.Def n) (get_or ws k d) (made_last (get_or ws k d) n p q)

  pub latest_rise : IsStrictlyIncreasing (worlds (defs_at cs ws))
  latest_rise = increases (worlds (defs_at cs ws)) (defs_at_rise cs 0 ws are.rises)

  module _ (key : Key) (applying : AreApplying P Ch.Def key ks) where
    latest_there : (d : Def) → Contains (defs_at cs ws) d → Contains (defs_from P key.function 1 (take w cs)) d × AppliesTo P key.types d
    latest_there d c =
        let (i, e) = defs_at_from cs ws d c in
        let (n, k, p, m) = (are.exact d.world).0 i in
        let same : n ≡ d.site = def_once n d.site (same_change (change_in cs d.world) (Ch.Def n) (Ch.Def d.site) (made_last d.world n p m) e) in
        let touches : HeadTouches P (head_of P (Ch.Def d.site)) key = subst (λ n. HeadTouches P (head_of P (Ch.Def n)) key) same ((applying.exact n).0 k) in
        let (s, q, f) = site_row P (slice_get P.sites d.site) key touches in
        let t = touch_of P (take w cs) d.world key (subst (λ o. ChangeTouches P o key) (sym (in_take cs w d.world m.low ∙ e)) touches) in
        let is : slice_get (take w cs) t.place ≡ Some (Ch.Def d.site) = sym (ap (change_in (take w cs)) t.world_is) ∙ in_take cs w d.world m.low ∙ e in
        let world : 1 + t.place ≡ d.world = omega (arith, t.world_is) in
        let there : def (1 + t.place) d.site ≡ d = λ i. def (world i) d.site in
        (subst (Contains (defs_from P key.function 1 (take w cs))) there (def_there P key.function 1 (take w cs) t.place d.site s is q f), def_applies P d s key.types q (touching_applies P (Ch.Def d.site) key touches).1)

    latest_covers : (d : Def) → Contains (defs_from P key.function 1 (take w cs)) d → AppliesTo P key.types d → HasLater site_number (λ (d : Def). d.world) (defs_at cs ws) d
    latest_covers d c a = found (some_last (nth l.worlds d.site) w)
      where
        i : IsDefAt P key.function 1 (take w cs) d
        i = def_of P key.function 1 (take w cs) d c

        at : d.world ≡ suc i.place
        at = omega (arith, i.world_is)

        low : d.world ≤ w
        low = let k = get_known (take w cs) i.place (Ch.Def d.site) i.change_is in omega (arith, at, k, take_within w cs)

        is : change_in cs d.world ≡ Some (Ch.Def d.site)
        is = sym (in_take cs w d.world low) ∙ ap (change_in (take w cs)) at ∙ i.change_is

        of_key : Contains ks d.site
        of_key = (applying.exact d.site).1 (def_touches P key.function 1 (take w cs) d key refl i (applies_def P d i.site key.types i.stands a))

        found : (last : ℕ) × IsLast (λ x. Contains (nth l.worlds d.site) x) w last → HasLater site_number (λ (d : Def). d.world) (defs_at cs ws) d
        found (last, m) =
            let later : d.world ≤ last = m.none_later d.world (((h.each_worlds d.site).exact d.world).1 is) low in
            let some : 0 < last = omega (arith, later, at) in
            let there : Contains ws last = (are.exact last).1 (d.site, of_key, some, m) in
            record { by = def last d.site; stays = defs_at_there cs ws last d.site there (made_last last d.site some m); same = refl; later = later }

    pub have_latest_defs : HaveLatestOfSites P key.types (defs_from P key.function 1 (take w cs)) (defs_at cs ws)
    have_latest_defs = record { there = latest_there; covered = latest_covers }

-- ---- the latest deletions

module _ (P : Program) (cs : List Change) (keys : List Key) (l : Linked) (h : AreLinked P Ch.Del (length P.deletes) cs keys l) (ks : List ℕ) (w : ℕ) (some : List Del) (are : AreLastDels l.worlds ks w some)
    (key : Key) (applying : AreApplying P Ch.Del key ks) where
  deleted_last : (d n : ℕ) → 0 < d → IsLast (λ x. Contains (nth l.worlds n) x) w d → change_in cs d ≡ Some (Ch.Del n)
  deleted_last d n p m = by m.there
    where
      by : (d ≡ 0) ⊎ Contains (nth l.worlds n) d → change_in cs d ≡ Some (Ch.Del n)
      by (inl e) = absurd (omega (arith, e, p))
      by (inr i) = ((h.each_worlds n).exact d).0 i

  dels_are_there : (d : Del) → Contains some d → Contains (dels_from P key.function 1 (take w cs)) d × ChangeApplies P (Ch.Del d.place) key.types
  dels_are_there d c =
      let (k, p, m) = (are d).0 c in
      let e = deleted_last d.world d.place p m in
      let touches : HeadTouches P (head_of P (Ch.Del d.place)) key = (applying.exact d.place).0 k in
      let (r, q, f) = place_row P (slice_get P.deletes d.place) key touches in
      let t = touch_of P (take w cs) d.world key (subst (λ o. ChangeTouches P o key) (sym (in_take cs w d.world m.low ∙ e)) touches) in
      let is : slice_get (take w cs) t.place ≡ Some (Ch.Del d.place) = sym (ap (change_in (take w cs)) t.world_is) ∙ in_take cs w d.world m.low ∙ e in
      let world : 1 + t.place ≡ d.world = omega (arith, t.world_is) in
      let there : del (1 + t.place) d.place ≡ d = λ i. del (world i) d.place in
      (subst (Contains (dels_from P key.function 1 (take w cs))) there (del_there P key.function 1 (take w cs) t.place d.place r is q f), (touching_applies P (Ch.Del d.place) key touches).1)

  dels_cover : (d : Del) → Contains (dels_from P key.function 1 (take w cs)) d → ChangeApplies P (Ch.Del d.place) key.types → HasLater place_number (λ (d : Del). d.world) some d
  dels_cover d c a = found (some_last (nth l.worlds d.place) w)
    where
      i : IsDelAt P key.function 1 (take w cs) d
      i = del_of P key.function 1 (take w cs) d c

      at : d.world ≡ suc i.place
      at = omega (arith, i.world_is)

      low : d.world ≤ w
      low = let k = get_known (take w cs) i.place (Ch.Del d.place) i.change_is in omega (arith, at, k, take_within w cs)

      is : change_in cs d.world ≡ Some (Ch.Del d.place)
      is = sym (in_take cs w d.world low) ∙ ap (change_in (take w cs)) at ∙ i.change_is

      of_key : Contains ks d.place
      of_key = (applying.exact d.place).1 (del_touches P key.function 1 (take w cs) d key refl i a)

      found : (last : ℕ) × IsLast (λ x. Contains (nth l.worlds d.place) x) w last → HasLater place_number (λ (d : Del). d.world) some d
      found (last, m) =
          let later : d.world ≤ last = m.none_later d.world (((h.each_worlds d.place).exact d.world).1 is) low in
          let past : 0 < last = omega (arith, later, at) in
          record { by = del last d.place; stays = (are (del last d.place)).1 (of_key, past, m); same = refl; later = later }

  pub have_latest_dels : HaveLatestOfPlaces P key.types (dels_from P key.function 1 (take w cs)) some
  have_latest_dels = record { there = dels_are_there; covered = dels_cover }
