-- The latest definitions of their sites.
use Rattle.std.proofs.Common.{◌≡◌, ◌∙◌, sym, ap, subst, refl, ℕ, zero, suc, ◌+◌, ◌-◌, ◌<◌, ◌≤◌, ◌⊎◌, inl, inr, arith, true, false, cond, nat_eq, nat_le, Bool, List, [], ◌∷◌, ◌++◌, length, take, get_or, Option, None, Some}
use Rattle.std.specs.List.{Contains}
use Rattle.std.proofs.lemmas.List.{take_all, take_more}
use Rattle.jl_calculus.specs.declared.history.Def.{Def}
use Rattle.jl_subsig.specs.Standing.{HasLaterAtSite}
use Rattle.jl_choosing.specs.declared.changes.Older.{Older}
use Rattle.jl_choosing.specs.ByFunction.{in_world, Rising, AreBefore, AreLatest, HasLater, IsKeptSo, IsLastAt, AreLastPlaces, AreSifted, IsOlder, IsOlderSo}

abbrev nothing : Def
nothing = record { world = 0; site = 0 }

pub at_later : (x : Def) (xs : List Def) (d : Def) → Contains xs d → Contains (x ∷ xs) d
at_later x xs d c = (suc c.0, omega (arith, c.1), c.2)

pub rise_lower : (low high : ℕ) (ds : List Def) → low ≤ high → Rising high ds → Rising low ds
rise_lower low high [] l h = tt
rise_lower low high (d ∷ ds) l h = (omega (arith, l, h.0), h.1)

-- ---- one more

pub last_there : (xs : List Def) (def : Def) → Contains (xs ++ def ∷ []) def
last_there [] def = (0, omega arith, refl)
last_there (x ∷ xs) def = at_later x (xs ++ def ∷ []) def (last_there xs def)

same_or : (x : Def) (xs : List Def) (d def : Def) → Contains xs d ⊎ (d ≡ def) → Contains (x ∷ xs) d ⊎ (d ≡ def)
same_or x xs d def (inl c) = inl (at_later x xs d c)
same_or x xs d def (inr e) = inr e

pub push_there : (xs : List Def) (def d : Def) → Contains (xs ++ def ∷ []) d → Contains xs d ⊎ (d ≡ def)
push_there [] def d (zero, l, e) = inr (sym e)
push_there [] def d (suc k, l, e) = absurd (omega arith)
push_there (x ∷ xs) def d (zero, l, e) = inl (0, omega arith, e)
push_there (x ∷ xs) def d (suc k, l, e) = same_or x xs d def (push_there xs def d (k, omega arith, e))

pub push_stay : (xs : List Def) (def d : Def) → Contains xs d → Contains (xs ++ def ∷ []) d
push_stay [] def d (k, l, e) = absurd (omega arith)
push_stay (x ∷ xs) def d (zero, l, e) = (0, omega arith, e)
push_stay (x ∷ xs) def d (suc k, l, e) = at_later x (xs ++ def ∷ []) d (push_stay xs def d (k, omega arith, e))

before_rest : (w : ℕ) (x : Def) (xs : List Def) → AreBefore w (x ∷ xs) → AreBefore w xs
before_rest w x xs h d c = h d (at_later x xs d c)

pub push_rising : (low : ℕ) (xs : List Def) (def : Def) → low ≤ def.world → Rising low xs → AreBefore def.world xs → Rising low (xs ++ def ∷ [])
push_rising low [] def l h b = (l, tt)
push_rising low (x ∷ xs) def l h b =
    let w = b x (0, omega arith, refl) in
    (h.0, push_rising (x.world + 1) xs def (omega (arith, w)) h.1 (before_rest def.world x xs b))

-- ---- what is kept of the definitions of a function

pub kept_push : (def : Def) (all latest more new : List Def) → IsKeptSo all latest → AreBefore def.world all → more ≡ all ++ def ∷ [] → new ≡ latest ++ def ∷ [] → IsKeptSo more new
kept_push def all latest more new h b e f =
    subst (λ xs. IsKeptSo xs new) (sym e) (subst (IsKeptSo (all ++ def ∷ [])) (sym f) (record {
      rising = push_rising 0 all def (omega arith) h.rising b;
      latest_ones = record {
        there = λ d c. from_new d (push_there latest def d c);
        covered = λ d c. covers d (push_there all def d c);
        rising = push_rising 0 latest def (omega arith) o.rising (λ d c. b d (o.there d c));
      };
    }))
  where
    o : AreLatest all latest
    o = h.latest_ones

    from_new : (d : Def) → Contains latest d ⊎ (d ≡ def) → Contains (all ++ def ∷ []) d
    from_new d (inl c) = push_stay all def d (o.there d c)
    from_new d (inr q) = subst (Contains (all ++ def ∷ [])) (sym q) (last_there all def)

    covers : (d : Def) → Contains all d ⊎ (d ≡ def) → HasLaterAtSite (latest ++ def ∷ []) d
    covers d (inl c) = let l = o.covered d c in record { by = l.by; stays = push_stay latest def l.by l.stays; site_is = l.site_is; later = l.later }
    covers d (inr q) = record { by = def; stays = last_there latest def; site_is = ap (λ (z : Def). z.site) (sym q); later = (let w : d.world ≡ def.world = ap (λ (z : Def). z.world) q in omega (arith, w)) }

-- the latest ones of those that are kept are kept too
pub kept_sifted : (all latest some seen : List Def) → IsKeptSo all latest → seen ≡ latest → AreLatest seen some → IsKeptSo all some
kept_sifted all latest some seen h e l = record {
  rising = h.rising;
  latest_ones = record { there = λ d c. o.there d (subst (λ xs. Contains xs d) e (l.there d c)); covered = covers; rising = l.rising };
}
  where
    o : AreLatest all latest
    o = h.latest_ones

    covers : (d : Def) → Contains all d → HasLaterAtSite some d
    covers d c =
        let k = o.covered d c in
        let m = l.covered k.by (subst (λ xs. Contains xs k.by) (sym e) k.stays) in
        let below = k.later in
        let above = m.later in
        record { by = m.by; stays = m.stays; site_is = m.site_is ∙ k.site_is; later = omega (arith, below, above) }

-- ---- those of a world

pub latest_self : (ds : List Def) → Rising 0 ds → AreLatest ds ds
latest_self ds h = record { there = λ d c. c; covered = λ d c. record { by = d; stays = c; site_is = refl; later = omega arith }; rising = h }

pub world_rising : (low w : ℕ) (ds : List Def) → Rising low ds → Rising low (in_world w ds)
world_rising low w [] h = tt
world_rising low w (d ∷ ds) h = cases (world_rising (d.world + 1) w ds h.1) (nat_le d.world w)
  where
    cases : Rising (d.world + 1) (in_world w ds) → (b : Bool) → Rising low (cond b (d ∷ in_world w ds) [])
    cases next true = (h.0, next)
    cases next false = tt

-- the last one is the latest
world_whole : (low w : ℕ) (ds : List Def) → Rising low ds → ((d : Def) → Contains ds d → d.world ≤ w) → in_world w ds ≡ ds
world_whole low w [] h b = refl
world_whole low w (d ∷ ds) h b =
    let first = b d (0, omega arith, refl) in
    let soon : nat_le d.world w ≡ true = grind (arith, first) in
    let next = world_whole (d.world + 1) w ds h.1 (λ e c. b e (at_later d ds e c)) in
    rw soon (ap (λ xs. d ∷ xs) next)

last_is : (x y : Def) (ds : List Def) → get_or (x ∷ y ∷ ds) (length (x ∷ y ∷ ds) - 1) nothing ≡ get_or (y ∷ ds) (length (y ∷ ds) - 1) nothing
last_is x y ds = let e : length (x ∷ y ∷ ds) - 1 ≡ suc (length (y ∷ ds) - 1) = omega arith in ap (λ k. get_or (x ∷ y ∷ ds) k nothing) e

last_high : (low : ℕ) (ds : List Def) → Rising low ds → (d : Def) → Contains ds d → d.world ≤ (get_or ds (length ds - 1) nothing).world
last_high low [] h d (k, l, e) = absurd (omega arith)
last_high low (x ∷ []) h d (zero, l, e) = let w : x.world ≡ d.world = ap (λ (z : Def). z.world) e in omega (arith, w)
last_high low (x ∷ []) h d (suc k, l, e) = absurd (omega arith)
last_high low (x ∷ y ∷ ds) h d (zero, l, e) =
    let w : x.world ≡ d.world = ap (λ (z : Def). z.world) e in
    let more = last_high (x.world + 1) (y ∷ ds) h.1 y (0, omega arith, refl) in
    let same = ap (λ (z : Def). z.world) (last_is x y ds) in
    let next : x.world + 1 ≤ y.world = h.1.0 in
    omega (arith, w, more, same, next)
last_high low (x ∷ y ∷ ds) h d (suc k, l, e) =
    let more = last_high (x.world + 1) (y ∷ ds) h.1 d (k, omega arith, e) in
    let same = ap (λ (z : Def). z.world) (last_is x y ds) in
    omega (arith, more, same)

-- where the last one is of a world, all are
pub world_all : (w : ℕ) (all latest : List Def) → IsKeptSo all latest → (1 ≤ length all → (get_or all (length all - 1) nothing).world ≤ w) → AreLatest (in_world w all) latest
world_all w all latest h b =
    subst (λ ds. AreLatest ds latest) (sym (world_whole 0 w all h.rising (λ d c. (let high = last_high 0 all h.rising d c in let k = c.1 in let l = b (omega (arith, k)) in omega (arith, high, l))))) h.latest_ones

-- and else those of the world are taken as they are
pub world_some : (w : ℕ) (all latest some : List Def) → IsKeptSo all latest → some ≡ in_world w all → AreLatest (in_world w all) some
world_some w all latest some h e = subst (AreLatest (in_world w all)) (sym e) (latest_self (in_world w all) (world_rising 0 w all h.rising))

pub world_all_seen : (w last : ℕ) (all latest seen some : List Def) → IsKeptSo all latest → seen ≡ all → some ≡ latest → (1 ≤ length seen → (get_or seen (length seen - 1) nothing).world ≡ last) → last ≤ w
    → AreLatest (in_world w all) some
world_all_seen w last all latest seen some h e f b l =
    let told : 1 ≤ length all → (get_or all (length all - 1) nothing).world ≡ last = subst (λ ds. 1 ≤ length ds → (get_or ds (length ds - 1) nothing).world ≡ last) e b in
    subst (AreLatest (in_world w all)) (sym f) (world_all w all latest h (λ n. (let q = told n in omega (arith, q, l))))

-- the latest ones of definitions that are the same
pub latest_same : (all other some : List Def) → all ≡ other → AreLatest all some → AreLatest other some
latest_same all other some e h = subst (λ ds. AreLatest ds some) e h

-- ---- the latest ones, found by the last places of their sites

-- those that rise from a number on are no lower
no_lower : (low i : ℕ) (ds : List Def) → Rising low ds → i < length ds → low ≤ (get_or ds i nothing).world
no_lower low i [] h l = absurd (omega (arith, l))
no_lower low zero (y ∷ ds) h l = h.0
no_lower low (suc i) (y ∷ ds) h l = let a = h.0 in let b = no_lower (y.world + 1) i ds h.1 (omega (arith, l)) in omega (arith, a, b)

-- those before one are of earlier worlds
front_before : (low i : ℕ) (ds : List Def) → Rising low ds → i < length ds → AreBefore (get_or ds i nothing).world (take i ds)
front_before low i [] h l d c = absurd (omega (arith, l))
front_before low zero (x ∷ ds) h l d (k, m, e) = absurd (omega (arith, m))
front_before low (suc i) (x ∷ ds) h l d (zero, m, e) =
    let w : x.world ≡ d.world = ap (λ (z : Def). z.world) e in
    let past = no_lower (x.world + 1) i ds h.1 (omega (arith, l)) in
    omega (arith, w, past)
front_before low (suc i) (x ∷ ds) h l d (suc k, m, e) = front_before (x.world + 1) i ds h.1 (omega (arith, l)) d (k, omega (arith, m), e)

contains_get : (ds : List Def) (d : Def) (c : Contains ds d) → get_or ds c.0 nothing ≡ d
contains_get [] d (k, l, e) = absurd (omega arith)
contains_get (x ∷ xs) d (zero, l, e) = e
contains_get (x ∷ xs) d (suc k, l, e) = contains_get xs d (k, omega arith, e)

-- the worlds of those at later places are no lower
place_later : (low j p : ℕ) (ds : List Def) → Rising low ds → j ≤ p → p < length ds → (get_or ds j nothing).world ≤ (get_or ds p nothing).world
place_later low j p [] h l m = absurd (omega (arith, m))
place_later low zero zero (x ∷ ds) h l m = omega arith
place_later low zero (suc p) (x ∷ ds) h l m = let k = no_lower (x.world + 1) p ds h.1 (omega (arith, m)) in omega (arith, k)
place_later low (suc j) zero (x ∷ ds) h l m = absurd (omega (arith, l))
place_later low (suc j) (suc p) (x ∷ ds) h l m = place_later (x.world + 1) j p ds h.1 (omega (arith, l)) (omega (arith, m))

agree : (s t : ℕ) → nat_eq s t ≡ true → s ≡ t
agree s t h = grind (arith, h)

differ : (s t : ℕ) → nat_eq s t ≡ false → s ≡ t → ⊥
differ s t h e = absurd (grind (arith, h, e))

-- one more definition, at its place
module _ (defs : List Def) (old new : List ℕ) (i : ℕ) (put : (s : ℕ) → get_or new s 0 ≡ cond (nat_eq (get_or defs i nothing).site s) i (get_or old s 0)) (h : AreLastPlaces i defs old) where
  last_by : (j : ℕ) → j < i + 1 → (b : Bool) → nat_eq (get_or defs i nothing).site (get_or defs j nothing).site ≡ b
      → IsLastAt defs (i + 1) j (cond b i (get_or old (get_or defs j nothing).site 0))
  last_by j l true q = record { later = omega (arith, l); before = omega arith; site_is = agree (get_or defs i nothing).site (get_or defs j nothing).site q }
  last_by j l false q =
      let other : j ≡ i → ⊥ = λ e. differ (get_or defs i nothing).site (get_or defs j nothing).site q (ap (λ k. (get_or defs k nothing).site) (sym e)) in
      let k = h j (omega (arith, l, other)) in
      let before = k.before in
      record { later = k.later; before = omega (arith, before); site_is = k.site_is }

  pub places_next : AreLastPlaces (i + 1) defs new
  places_next j l =
      subst (IsLastAt defs (i + 1) j) (sym (put (get_or defs j nothing).site)) (last_by j l (nat_eq (get_or defs i nothing).site (get_or defs j nothing).site) refl)

-- all places
pub places_whole : (defs : List Def) (places : List ℕ) (i : ℕ) → length defs ≤ i → i ≤ length defs → AreLastPlaces i defs places → AreLastPlaces (length defs) defs places
places_whole defs places i m l h = let e : i ≡ length defs = omega (arith, m, l) in subst (λ n. AreLastPlaces n defs places) e h

-- one more that stands at the place of its site, or does not
module _ (defs : List Def) (places : List ℕ) (some : List Def) (i : ℕ) (l : i < length defs) (h : AreSifted i defs places some) where
  abbrev this : Def
  this = get_or defs i nothing

  one_up : take (i + 1) defs ≡ take i defs ++ this ∷ []
  one_up = take_more defs i nothing l

  from_up : (d : Def) → Contains some d ⊎ (d ≡ this) → Contains (take i defs ++ this ∷ []) d
  from_up d (inl c) = push_stay (take i defs) this d (h.there d c)
  from_up d (inr q) = subst (Contains (take i defs ++ this ∷ [])) (sym q) (last_there (take i defs) this)

  stay_by : (j : ℕ) → j < i + 1 → get_or places (get_or defs j nothing).site 0 ≡ j → (b : Bool) → nat_eq j i ≡ b → Contains (some ++ this ∷ []) (get_or defs j nothing)
  stay_by j m q true z = subst (λ k. Contains (some ++ this ∷ []) (get_or defs k nothing)) (sym (agree j i z)) (last_there some this)
  stay_by j m q false z = let other = differ j i z in push_stay some this (get_or defs j nothing) (h.stay j (omega (arith, m, other)) q)

  pub sifted_more : Rising 0 defs → (new : List Def) → new ≡ some ++ this ∷ [] → AreSifted (i + 1) defs places new
  sifted_more r new e =
      subst (AreSifted (i + 1) defs places) (sym e) (record {
        there = λ d c. subst (λ xs. Contains xs d) (sym one_up) (from_up d (push_there some this d c));
        stay = λ j m q. stay_by j m q (nat_eq j i) refl;
        rising = push_rising 0 some this (omega arith) h.rising (λ d c. front_before 0 i defs r l d (h.there d c));
      })

  pub sifted_past : (get_or places this.site 0 ≡ i → ⊥) → AreSifted (i + 1) defs places some
  sifted_past other = record {
    there = λ d c. subst (λ xs. Contains xs d) (sym one_up) (push_stay (take i defs) this d (h.there d c));
    stay = λ j m q. (let apart : j ≡ i → ⊥ = λ e. other (subst (λ k. get_or places (get_or defs k nothing).site 0 ≡ k) e q) in h.stay j (omega (arith, m, apart)) q);
    rising = h.rising;
  }

-- all of them
pub sifted_whole : (defs : List Def) (places : List ℕ) (some : List Def) (i : ℕ) → Rising 0 defs → length defs ≤ i → AreLastPlaces (length defs) defs places → AreSifted i defs places some
    → AreLatest defs some
sifted_whole defs places some i r l last h = record {
  there = λ d c. subst (λ xs. Contains xs d) (take_all i defs l) (h.there d c);
  covered = covers;
  rising = h.rising;
}
  where
    covers : (d : Def) → Contains defs d → HasLaterAtSite some d
    covers d c =
        let is : get_or defs c.0 nothing ≡ d = contains_get defs d c in
        let at = last c.0 c.1 in
        let p = get_or places (get_or defs c.0 nothing).site 0 in
        let before = at.before in
        let world = ap (λ (z : Def). z.world) is in
        let above = place_later 0 c.0 p defs r at.later before in record {
          by = get_or defs p nothing;
          stays = h.stay p (omega (arith, before, l)) (ap (λ s. get_or places s 0) at.site_is);
          site_is = at.site_is ∙ ap (λ (z : Def). z.site) is;
          later = omega (arith, world, above);
        }

-- ---- an older world

-- what an older world has does not change
older_same : (low w : ℕ) (all : List Def) (def : Def) → w < def.world → in_world w (all ++ def ∷ []) ≡ in_world w all
older_same low w [] def l = let no : nat_le def.world w ≡ false = grind (arith, l) in rw no refl
older_same low w (x ∷ all) def l = ap (λ xs. cond (nat_le x.world w) (x ∷ xs) []) (older_same low w all def l)

pub older_push : (def : Def) (all more : List Def) (older : Option Older) → AreBefore def.world all → more ≡ all ++ def ∷ [] → IsOlderSo all older → IsOlderSo more older
older_push def all more None b e h = tt
older_push def all more (Some older) b e h =
    let first = b h.later.one h.later.came in
    let after = h.later.after in
    subst (λ ds. IsOlder ds older) (sym e) (record {
      later = record { one = h.later.one; came = push_stay all def h.later.one h.later.came; after = h.later.after };
      latest_ones = subst (λ ds. AreLatest ds older.defs.items) (sym (older_same 0 older.world all def (omega (arith, first, after)))) h.latest_ones;
    })

-- the last one is later than a world
last_contained : (ds : List Def) → 1 ≤ length ds → Contains ds (get_or ds (length ds - 1) nothing)
last_contained [] l = absurd (omega (arith, l))
last_contained (x ∷ []) l = (0, omega arith, refl)
last_contained (x ∷ y ∷ ds) l = subst (Contains (x ∷ y ∷ ds)) (sym (last_is x y ds)) (at_later x (y ∷ ds) _ (last_contained (y ∷ ds) (omega arith)))

pub has_later : (world last : ℕ) (all seen : List Def) → seen ≡ all → (1 ≤ length seen → (get_or seen (length seen - 1) nothing).world ≡ last) → (length seen ≡ 0 → last ≡ 0) → (last ≤ world → ⊥)
    → HasLater world all
has_later world last all [] e told none more = absurd (more (let z = none refl in omega (arith, z)))
has_later world last all (x ∷ xs) e told none more =
    let one : 1 ≤ length (x ∷ xs) = omega arith in
    let is = told one in
    subst (HasLater world) e (record {
      one = get_or (x ∷ xs) (length (x ∷ xs) - 1) nothing;
      came = last_contained (x ∷ xs) one;
      after = (let m : world < last = omega (arith, more) in omega (arith, is, m));
    })
