-- Which definitions are left when later deletions take some away, and the choice among them.
use Rattle.std.proofs.Common.{◌≡◌, ◌∙◌, ap, sym, subst, refl, ℕ, zero, suc, ◌+◌, ◌-◌, ◌<◌, ◌≤◌, ◌⊎◌, inl, inr, arith, Bool, true, false, nat_eq, nat_le, List, [], ◌∷◌, ◌++◌, length, take, drop, get_or, slice_get, Some}
use Rattle.std.specs.List.{Contains}
use Rattle.std.specs.List.Sorted.{IsStrictlyIncreasing}
use Rattle.std.proofs.lemmas.List.{drop_more, drop_all, take_more}
use Rattle.std.proofs.lemmas.List.Elements.{Contains-append_left, Contains-append_right, Contains-append_cases, Contains-get_or}
use Rattle.jl_model.specs.declared.ty.Decl.{Decl}
use Rattle.jl_model.specs.declared.ty.Ty.{Ty}
use Rattle.jl_model.specs.declared.ty.Written.{Written}
use Rattle.jl_model.specs.Ancestors.{table_of}
use Rattle.jl_model.specs.Signature.{SigBelow, SameSignature}
use Rattle.jl_program.specs.declared.choice.Choice.{Choice}
use Rattle.jl_program.specs.declared.tree.Program.{Program}
use Rattle.jl_program.specs.Chooses.{Chooses}
use Rattle.jl_program.specs.Scope.{types_of, all_types}
use Rattle.jl_program.specs.Valid.{IsValid}
use Rattle.jl_calculus.specs.declared.history.Def.{Def}
use Rattle.jl_calculus.specs.declared.history.Del.{Del}
use Rattle.jl_calculus.specs.Definitions.{sig_of, methods_of, worlds, HasSite, AppliesTo}
use Rattle.jl_sig.specs.Readied.{sigs_of, place_sigs}
use Rattle.jl_subsig.specs.Latest.{AreLatest, HasSameSig}
use Rattle.jl_subsig.specs.Side.{Every}
use Rattle.jl_subsig.specs.Standing.{sig_of_place, AreSameSigs, IsLeft, HaveLatest, AreLeftFor, ChoosesLeft, HasLeftAt, IsLastDeletion, TakesAway, AreLeft, left_end, left_more, taken_away, IsRepeated, AreLastOfPlaces, last_end, last_more, repeated}
use Rattle.jl_subsig.proofs.DefinitionLemmas.{sig_at, place_sig_at}
use Rattle.jl_subsig.proofs.ReflexiveLemmas.{reflexive}
use Rattle.jl_subsig.proofs.PickLemmas.{GoesOn, goes_over, goes_more, slice_end}
use Rattle.jl_subsig.proofs.LatestLemmas.{scope_at, RisesFrom, rises_less, rises_of, increases, HasLater, latest_every, latest_rise, latest_there, latest_covers, same_chosen}

-- ---- members

none_in : {X : Type 0} (x : X) → Contains [] x → ⊥
none_in x (k, l, e) = absurd (omega (arith, l))

first_in : {X : Type 0} (x : X) (xs : List X) → Contains (x ∷ xs) x
first_in x xs = (0, omega arith, refl)

later_in : {X : Type 0} (y x : X) (xs : List X) → Contains xs x → Contains (y ∷ xs) x
later_in y x xs c = (suc c.0, omega (arith, c.1), c.2)

first_or_later : {X : Type 0} (y x : X) (xs : List X) → Contains (y ∷ xs) x → (y ≡ x) ⊎ Contains xs x
first_or_later y x xs (zero, l, e) = inl e
first_or_later y x xs (suc k, l, e) = inr (k, omega (arith, l), e)

every_in : {X : Type 0} (Is : X → Type 0) (xs : List X) (x : X) → Every Is xs → Contains xs x → Is x
every_in Is [] x h (k, l, e) = absurd (omega (arith, l))
every_in Is (y ∷ xs) x h (zero, l, e) = subst Is e h.0
every_in Is (y ∷ xs) x h (suc k, l, e) = every_in Is xs x h.1 (k, omega (arith, l), e)

-- ---- a site and a place

-- signatures that are written alike are the same
pub alike_same : (P : Program) → IsValid P → (site place : ℕ) → site < length P.sites → sig_of (slice_get P.sites site) ≡ sig_of_place (slice_get P.deletes place) → AreSameSigs P site place
alike_same P v site place known e =
    let self = reflexive (types_of P) (sig_of (slice_get P.sites site)) (scope_at P v (record { world = 0; site = site }) known) in
    subst (SameSignature (types_of P) (sig_of (slice_get P.sites site))) e (self, self)

module _ (P : Program) (site place : ℕ) (ds : List Decl) (a b : Written) (types : ds ≡ all_types P) (written : slice_get (sigs_of P.sites) site ≡ Some a) (other : slice_get (place_sigs P.deletes) place ≡ Some b) where
  first : a ≡ sig_of (slice_get P.sites site)
  first = sig_at P.sites site a written

  second : b ≡ sig_of_place (slice_get P.deletes place)
  second = place_sig_at P.deletes place b other

  abbrev Is : List Decl → Written → Written → Type 0
  Is ds a b = SameSignature (table_of ds) a b

  pub same_by : SigBelow (table_of ds) a b → SigBelow (table_of ds) b a → AreSameSigs P site place
  same_by low high = subst (λ ds. Is ds (sig_of (slice_get P.sites site)) (sig_of_place (slice_get P.deletes place))) types (subst (Is ds (sig_of (slice_get P.sites site))) second (subst (λ a. Is ds a b) first (low, high)))

  pub same_from : AreSameSigs P site place → SameSignature (table_of ds) a b
  same_from s = subst (λ a. Is ds a b) (sym first) (subst (Is ds (sig_of (slice_get P.sites site))) (sym second) (subst (λ ds. Is ds (sig_of (slice_get P.sites site)) (sig_of_place (slice_get P.deletes place))) (sym types) s))

module _ (P : Program) (dels : List Del) where
  -- ---- what the last deletion of a signature decides

  pub left_by : (d : Def) (world : ℕ) → IsLastDeletion P dels d.site world → world ≤ d.world → IsLeft P dels d
  left_by d world h l e c t = let m = h.last e c t.same in absurd (omega (arith, l, t.later, m))

  pub taken_by : (d : Def) (world : ℕ) → IsLastDeletion P dels d.site world → d.world < world → IsLeft P dels d → ⊥
  taken_by d world h l left = by h.there
    where
      by : (world ≡ 0) ⊎ ((e : Del) × Contains dels e × (e.world ≡ world) × AreSameSigs P d.site e.place) → ⊥
      by (inl z) = absurd (omega (arith, l, z))
      by (inr (e, c, w, s)) = left e c (record { later = omega (arith, l, w); same = s })

  -- what takes a definition away takes the earlier ones of its signature away
  pub left_later : (d o : Def) → HasSameSig P d o → d.world ≤ o.world → IsLeft P dels d → IsLeft P dels o
  left_later d o alike later h e c t =
      let past = t.later in
      h e c (record { later = omega (arith, later, past); same = subst (λ (w : Written). SameSignature (types_of P) w (sig_of_place (slice_get P.deletes e.place))) (sym alike) t.same })

  -- signatures that are written alike have one last deletion
  last_alike : (site other world : ℕ) → sig_of (slice_get P.sites site) ≡ sig_of (slice_get P.sites other) → IsLastDeletion P dels other world → IsLastDeletion P dels site world
  last_alike site other world alike h = record { last = λ e c s. h.last e c (to e s); there = by h.there }
    where
      to : (e : Del) → AreSameSigs P site e.place → AreSameSigs P other e.place
      to e s = subst (λ (w : Written). SameSignature (types_of P) w (sig_of_place (slice_get P.deletes e.place))) alike s

      from : (e : Del) → AreSameSigs P other e.place → AreSameSigs P site e.place
      from e s = subst (λ (w : Written). SameSignature (types_of P) w (sig_of_place (slice_get P.deletes e.place))) (sym alike) s

      by : (world ≡ 0) ⊎ ((e : Del) × Contains dels e × (e.world ≡ world) × AreSameSigs P other e.place) → (world ≡ 0) ⊎ ((e : Del) × Contains dels e × (e.world ≡ world) × AreSameSigs P site e.place)
      by (inl z) = inl z
      by (inr (e, c, w, s)) = inr (e, c, w, from e s)

  -- ---- the list of those that are left

  pub left_every : (Is : Def → Type 0) (ds es : List Def) → Every Is ds → AreLeft P dels ds es → Every Is es
  left_every Is ds es h left_end = tt
  left_every Is ds es h (left_more d world xs ys k l p) = (h.0, left_every Is xs ys h.1 p)
  left_every Is ds es h (taken_away d world xs ys k l p) = left_every Is xs ys h.1 p

  pub left_rise : (low : ℕ) (ds es : List Def) → RisesFrom low (worlds ds) → AreLeft P dels ds es → RisesFrom low (worlds es)
  left_rise low ds es h left_end = tt
  left_rise low ds es h (left_more d world xs ys k l p) = (h.0, left_rise (d.world + 1) xs ys h.1 p)
  left_rise low ds es h (taken_away d world xs ys k l p) = rises_less low (d.world + 1) (worlds ys) (omega (arith, h.0)) (left_rise (d.world + 1) xs ys h.1 p)

  pub left_there : (ds es : List Def) → AreLeft P dels ds es → (d : Def) → Contains es d → Contains ds d × IsLeft P dels d
  left_there ds es left_end d c = absurd (none_in d c)
  left_there ds es (left_more x world xs ys k l p) d c = by (first_or_later x d ys c) (left_there xs ys p d)
    where
      by : (x ≡ d) ⊎ Contains ys d → (Contains ys d → Contains xs d × IsLeft P dels d) → Contains (x ∷ xs) d × IsLeft P dels d
      by (inl e) more = (subst (Contains (x ∷ xs)) e (first_in x xs), subst (IsLeft P dels) e (left_by x world k l))
      by (inr i) more = let r = more i in (later_in x d xs r.0, r.1)
  left_there ds es (taken_away x world xs ys k l p) d c = let r = left_there xs ys p d c in (later_in x d xs r.0, r.1)

  pub left_stays : (ds es : List Def) → AreLeft P dels ds es → (d : Def) → Contains ds d → IsLeft P dels d → Contains es d
  left_stays ds es left_end d c left = c
  left_stays ds es (left_more x world xs ys k l p) d c left = by (first_or_later x d xs c) (λ i. left_stays xs ys p d i left)
    where
      by : (x ≡ d) ⊎ Contains xs d → (Contains xs d → Contains ys d) → Contains (x ∷ ys) d
      by (inl e) more = subst (Contains (x ∷ ys)) e (first_in x ys)
      by (inr i) more = later_in x d ys (more i)
  left_stays ds es (taken_away x world xs ys k l p) d c left = by (first_or_later x d xs c) (λ i. left_stays xs ys p d i left)
    where
      by : (x ≡ d) ⊎ Contains xs d → (Contains xs d → Contains ys d) → Contains ys d
      by (inl e) more = absurd (taken_by x world k l (subst (IsLeft P dels) (sym e) left))
      by (inr i) more = more i

  -- the last deletion of each was looked for
  abbrev Told : Def → Type 0
  Told d = (world : ℕ) × IsLastDeletion P dels d.site world

  told_more : (x : Def) (xs : List Def) (world : ℕ) → IsLastDeletion P dels x.site world → (d : Def) → (x ≡ d) ⊎ Contains xs d → (Contains xs d → Told d) → Told d
  told_more x xs world k d (inl e) more = (world, subst (λ (z : Def). IsLastDeletion P dels z.site world) e k)
  told_more x xs world k d (inr i) more = more i

  left_last : (ds es : List Def) → AreLeft P dels ds es → (d : Def) → Contains ds d → Told d
  left_last ds es left_end d c = absurd (none_in d c)
  left_last ds es (left_more x world xs ys k l p) d c = told_more x xs world k d (first_or_later x d xs c) (left_last xs ys p d)
  left_last ds es (taken_away x world xs ys k l p) d c = told_more x xs world k d (first_or_later x d xs c) (left_last xs ys p d)

  -- ---- all that are left, by what is known of one definition of each site

  record HasLast (site : ℕ) : Type 0 where
    pub known : site < length P.sites
    pub world : ℕ
    pub is_last : IsLastDeletion P dels site world

  abbrev Finds : List Def → ℕ → Type 0
  Finds ds site = HasLast site ⊎ ((d : Def) → Contains ds d → d.site ≡ site → ⊥)

  find_last : (ds : List Def) → ((d : Def) → Contains ds d → HasLast d.site) → (site : ℕ) → Finds ds site
  find_last [] each site = inr (λ d c q. none_in d c)
  find_last (x ∷ xs) each site = decide (nat_eq x.site site) refl (find_last xs (λ d c. each d (later_in x d xs c)) site)
    where
      decide : (b : Bool) → nat_eq x.site site ≡ b → Finds xs site → Finds (x ∷ xs) site
      decide true e more = let q : x.site ≡ site = grind (arith, e) in inl (subst HasLast q (each x (first_in x xs)))
      decide false e (inl h) = inl h
      decide false e (inr none) = inr other
        where
          other : (d : Def) → Contains (x ∷ xs) d → d.site ≡ site → ⊥
          other d c q = by (first_or_later x d xs c)
            where
              by : (x ≡ d) ⊎ Contains xs d → ⊥
              by (inl same) = let s : x.site ≡ d.site = ap (λ (z : Def). z.site) same in grind (arith, e, s, q)
              by (inr i) = none d i q

  module _ (ts : List Ty) where
    -- a definition is left and of a site, or is not both left and applying
    abbrev IsDecided : Def → Type 0
    IsDecided d = (HasSite P d × IsLeft P dels d) ⊎ (AppliesTo P ts d → IsLeft P dels d → ⊥)

    record HasThose (all : List Def) : Type 0 where
      pub those : List Def
      pub sites : Every (HasSite P) those
      pub are : AreLeftFor P dels ts all those

    those_more : (x : Def) (xs : List Def) → IsDecided x → HasThose xs → HasThose (x ∷ xs)
    those_more x xs (inl (known, left)) h = record { those = x ∷ h.those; sites = (known, h.sites); are = λ d a. (to d a, from d a) }
      where
        to : (d : Def) → AppliesTo P ts d → Contains (x ∷ h.those) d → Contains (x ∷ xs) d × IsLeft P dels d
        to d a c = by (first_or_later x d h.those c)
          where
            by : (x ≡ d) ⊎ Contains h.those d → Contains (x ∷ xs) d × IsLeft P dels d
            by (inl e) = (subst (Contains (x ∷ xs)) e (first_in x xs), subst (IsLeft P dels) e left)
            by (inr i) = let r = (h.are d a).0 i in (later_in x d xs r.0, r.1)

        from : (d : Def) → AppliesTo P ts d → Contains (x ∷ xs) d × IsLeft P dels d → Contains (x ∷ h.those) d
        from d a r = by (first_or_later x d xs r.0)
          where
            by : (x ≡ d) ⊎ Contains xs d → Contains (x ∷ h.those) d
            by (inl e) = subst (Contains (x ∷ h.those)) e (first_in x h.those)
            by (inr i) = later_in x d h.those ((h.are d a).1 (i, r.1))
    those_more x xs (inr not) h = record { those = h.those; sites = h.sites; are = λ d a. (to d a, from d a) }
      where
        to : (d : Def) → AppliesTo P ts d → Contains h.those d → Contains (x ∷ xs) d × IsLeft P dels d
        to d a c = let r = (h.are d a).0 c in (later_in x d xs r.0, r.1)

        from : (d : Def) → AppliesTo P ts d → Contains (x ∷ xs) d × IsLeft P dels d → Contains h.those d
        from d a r = by (first_or_later x d xs r.0)
          where
            by : (x ≡ d) ⊎ Contains xs d → Contains h.those d
            by (inl e) = absurd (not (subst (AppliesTo P ts) (sym e) a) (subst (IsLeft P dels) (sym e) r.1))
            by (inr i) = (h.are d a).1 (i, r.1)

    those_of : (all : List Def) → ((d : Def) → Contains all d → IsDecided d) → HasThose all
    those_of [] decided = record { those = []; sites = tt; are = λ d a. ((λ c. absurd (none_in d c)), (λ r. r.0)) }
    those_of (x ∷ xs) decided = those_more x xs (decided x (first_in x xs)) (those_of xs (λ d c. decided d (later_in x d xs c)))

    module _ (all defs latest left : List Def) (sites : Every (HasSite P) defs) (rises : RisesFrom 0 (worlds defs)) (have : HaveLatest P ts all defs) (q : AreLatest P defs latest) (p : AreLeft P dels latest left) where
      each_last : (d : Def) → Contains defs d → HasLast d.site
      each_last d c =
          let r = latest_covers P 0 defs latest rises q d c in
          let (world, is) = left_last latest left p r.by r.stays in
          record { known = every_in (HasSite P) defs d sites c; world = world; is_last = last_alike d.site r.by.site world r.same is }

      decided : (d : Def) → Contains all d → IsDecided d
      decided d c = by (find_last defs each_last d.site)
        where
          by : Finds defs d.site → IsDecided d
          by (inl r) = decide (nat_le r.world d.world) refl
            where
              decide : (b : Bool) → nat_le r.world d.world ≡ b → IsDecided d
              decide true e = inl (r.known, left_by d r.world r.is_last (grind (arith, e)))
              decide false e = inr (λ a l. taken_by d r.world r.is_last (grind (arith, e)) l)
          by (inr none) = inr (λ a l. (let o = have.covered d c a in none o.by o.stays o.site_is))

      those_left : HasThose all
      those_left = those_of all decided

      module _ (valid : IsValid P) (apply : Every (AppliesTo P ts) defs) where
        there : (d : Def) → Contains left d → Contains those_left.those d
        there d c =
            let r = left_there latest left p d c in
            let i = latest_there P defs latest q d r.0 in
            (those_left.are d (every_in (AppliesTo P ts) defs d apply i)).1 (have.there d i, r.1)

        covers : (d : Def) → Contains those_left.those d → AppliesTo P ts d → HasLater P left d
        covers d c a =
            let r = (those_left.are d a).0 c in
            let o = have.covered d r.0 a in
            let s = latest_covers P 0 defs latest rises q o.by o.stays in
            let same : HasSameSig P d s.by = ap (λ n. sig_of (slice_get P.sites n)) (sym o.site_is) ∙ s.same in
            let low = o.later in
            let high = s.later in
            let later : d.world ≤ s.by.world = omega (arith, low, high) in
            record { by = s.by; stays = left_stays latest left p s.by s.stays (left_later d s.by same later r.1); same = same; later = later }

        -- the choice among the latest of each signature that are left is that among all that are left
        pub chooses_left : (c : Choice) → Chooses (types_of P) (methods_of P left) ts c → ChoosesLeft P dels ts all c
        chooses_left c chosen = (those_left.those, those_left.are, same_chosen P valid ts those_left.those left those_left.sites there covers c chosen)

  -- what is left of the latest of each signature is in order, and has what all have
  pub left_increase : (defs latest left : List Def) → IsStrictlyIncreasing (worlds defs) → AreLatest P defs latest → AreLeft P dels latest left → IsStrictlyIncreasing (worlds left)
  left_increase defs latest left h q p = increases (worlds left) (left_rise 0 latest left (latest_rise P 0 defs latest (rises_of (worlds defs) h) q) p)

  pub left_has : (Is : Def → Type 0) (defs latest left : List Def) → Every Is defs → AreLatest P defs latest → AreLeft P dels latest left → Every Is left
  left_has Is defs latest left h q p = left_every Is latest left (latest_every P Is defs latest h q) p

-- nothing is taken away where there is no deletion
pub none_of : {X : Type 0} (xs : List X) → length xs ≡ 0 → xs ≡ []
none_of [] e = refl
none_of (x ∷ xs) e = absurd (omega (arith, e))

pub all_left : (P : Program) (dels : List Del) → dels ≡ [] → (ds : List Def) → AreLeft P dels ds ds
all_left P dels e [] = left_end
all_left P dels e (d ∷ ds) = left_more d 0 ds ds (record { last = λ o c s. absurd (none_in o (subst (λ os. Contains os o) e c)); there = inl refl }) (omega arith) (all_left P dels e ds)

-- ---- the last deletion of each place

last_there : (ds es : List Del) → AreLastOfPlaces ds es → (d : Del) → Contains es d → Contains ds d
last_there ds es last_end d c = c
last_there ds es (last_more x xs ys p) d c = by (first_or_later x d ys c) (last_there xs ys p d)
  where
    by : (x ≡ d) ⊎ Contains ys d → (Contains ys d → Contains xs d) → Contains (x ∷ xs) d
    by (inl e) more = subst (Contains (x ∷ xs)) e (first_in x xs)
    by (inr i) more = later_in x d xs (more i)
last_there ds es (repeated x xs ys r p) d c = later_in x d xs (last_there xs ys p d c)

-- each has one of its place that is no earlier
last_covers : (ds es : List Del) → AreLastOfPlaces ds es → (d : Del) → Contains ds d → IsRepeated d es
last_covers ds es last_end d c = absurd (none_in d c)
last_covers ds es (last_more x xs ys p) d c = by (first_or_later x d xs c) (last_covers xs ys p d)
  where
    by : (x ≡ d) ⊎ Contains xs d → (Contains xs d → IsRepeated d ys) → IsRepeated d (x ∷ ys)
    by (inl e) more = subst (λ z. IsRepeated z (x ∷ ys)) e (record { by = x; stays = first_in x ys; place_is = refl; later = omega arith })
    by (inr i) more = let o = more i in record { by = o.by; stays = later_in x o.by ys o.stays; place_is = o.place_is; later = o.later }
last_covers ds es (repeated x xs ys r p) d c = by (first_or_later x d xs c) (last_covers xs ys p r.by r.stays) (last_covers xs ys p d)
  where
    by : (x ≡ d) ⊎ Contains xs d → IsRepeated r.by ys → (Contains xs d → IsRepeated d ys) → IsRepeated d ys
    by (inl e) o more =
        let low = r.later in
        let high = o.later in
        subst (λ z. IsRepeated z ys) e (record { by = o.by; stays = o.stays; place_is = o.place_is ∙ r.place_is; later = omega (arith, low, high) })
    by (inr i) o more = more i

pub last_has : (Is : Del → Type 0) (ds es : List Del) → Every Is ds → AreLastOfPlaces ds es → Every Is es
last_has Is ds es h last_end = tt
last_has Is ds es h (last_more d xs ys p) = (h.0, last_has Is xs ys h.1 p)
last_has Is ds es h (repeated d xs ys r p) = last_has Is xs ys h.1 p

module _ (P : Program) (dels some : List Del) (q : AreLastOfPlaces dels some) where
  whole_last : (site world : ℕ) → IsLastDeletion P some site world → IsLastDeletion P dels site world
  whole_last site world h = record { last = last; there = by h.there }
    where
      last : (e : Del) → Contains dels e → AreSameSigs P site e.place → e.world ≤ world
      last e c s =
          let o = last_covers dels some q e c in
          let low = o.later in
          let high = h.last o.by o.stays (subst (AreSameSigs P site) (sym o.place_is) s) in
          omega (arith, low, high)

      by : (world ≡ 0) ⊎ ((e : Del) × Contains some e × (e.world ≡ world) × AreSameSigs P site e.place) → (world ≡ 0) ⊎ ((e : Del) × Contains dels e × (e.world ≡ world) × AreSameSigs P site e.place)
      by (inl z) = inl z
      by (inr (e, c, w, s)) = inr (e, last_there dels some q e c, w, s)

  -- the last deletion of each place leaves what all leave
  pub left_whole : (ds es : List Def) → AreLeft P some ds es → AreLeft P dels ds es
  left_whole ds es left_end = left_end
  left_whole ds es (left_more d world xs ys k l p) = left_more d world xs ys (whole_last d.site world k) l (left_whole xs ys p)
  left_whole ds es (taken_away d world xs ys k l p) = taken_away d world xs ys (whole_last d.site world k) l (left_whole xs ys p)

-- ---- steps of the loops

rises_there : (low : ℕ) (ds : List Def) → RisesFrom low (worlds ds) → (e : Def) → Contains ds e → low ≤ e.world
rises_there low [] h e c = absurd (none_in e c)
rises_there low (d ∷ ds) h e c = by (first_or_later d e ds c) (rises_there (d.world + 1) ds h.1 e)
  where
    by : (d ≡ e) ⊎ Contains ds e → (Contains ds e → d.world + 1 ≤ e.world) → low ≤ e.world
    by (inl q) more = subst (λ (z : Def). low ≤ z.world) q h.0
    by (inr k) more =
        let m = more k in
        let l = h.0 in
        omega (arith, m, l)

-- each of the rest is no earlier
rises_after : (low : ℕ) (ds : List Def) (i : ℕ) → RisesFrom low (worlds ds) → i < length ds → (e : Def) → Contains (drop (suc i) ds) e → (get_or ds i (record { world = 0; site = 0 })).world ≤ e.world
rises_after low [] i h l e c = absurd (omega (arith, l))
rises_after low (d ∷ ds) zero h l e c = let m = rises_there (d.world + 1) ds h.1 e c in omega (arith, m)
rises_after low (d ∷ ds) (suc i) h l e c = rises_after (d.world + 1) ds i h.1 (omega (arith, l)) e c

module _ (P : Program) (site : ℕ) (dels : List Del) where
  pub last_of_none : IsLastDeletion P [] site 0
  last_of_none = record { last = λ e c s. absurd (none_in e c); there = inl refl }

  module _ (i last : ℕ) (l : i < length dels) (h : IsLastDeletion P (take i dels) site last) where
    abbrev del : Del
    del = get_or dels i (record { world = 0; place = 0 })

    at : take (i + 1) dels ≡ take i dels ++ del ∷ []
    at = take_more dels i (record { world = 0; place = 0 }) l

    earlier : (e : Del) → Contains (take (i + 1) dels) e → Contains (take i dels) e ⊎ (del ≡ e)
    earlier e c = by (Contains-append_cases (take i dels) (del ∷ []) e (subst (λ es. Contains es e) at c))
      where
        by : Contains (take i dels) e ⊎ Contains (del ∷ []) e → Contains (take i dels) e ⊎ (del ≡ e)
        by (inl k) = inl k
        by (inr k) = one (first_or_later del e [] k)
          where
            one : (del ≡ e) ⊎ Contains [] e → Contains (take i dels) e ⊎ (del ≡ e)
            one (inl q) = inr q
            one (inr n) = absurd (none_in e n)

    still_there : (last ≡ 0) ⊎ ((e : Del) × Contains (take i dels) e × (e.world ≡ last) × AreSameSigs P site e.place)
        → (last ≡ 0) ⊎ ((e : Del) × Contains (take (i + 1) dels) e × (e.world ≡ last) × AreSameSigs P site e.place)
    still_there (inl z) = inl z
    still_there (inr (e, c, w, s)) = inr (e, subst (λ es. Contains es e) (sym at) (Contains-append_left (take i dels) (del ∷ []) e c), w, s)

    -- the next is no later, or of another signature
    pub last_stays : (AreSameSigs P site del.place → del.world ≤ last) → IsLastDeletion P (take (i + 1) dels) site last
    last_stays low = record { last = up; there = still_there h.there }
      where
        up : (e : Del) → Contains (take (i + 1) dels) e → AreSameSigs P site e.place → e.world ≤ last
        up e c s = by (earlier e c)
          where
            by : Contains (take i dels) e ⊎ (del ≡ e) → e.world ≤ last
            by (inl k) = h.last e k s
            by (inr q) = subst (λ (z : Del). AreSameSigs P site z.place → z.world ≤ last) q low s

    -- the next is later, and of the same signature
    pub last_grows : last < del.world → AreSameSigs P site del.place → IsLastDeletion P (take (i + 1) dels) site del.world
    last_grows later same = record { last = up; there = inr (del, subst (λ es. Contains es del) (sym at) (Contains-append_right (take i dels) (del ∷ []) del (first_in del [])), refl, same) }
      where
        up : (e : Del) → Contains (take (i + 1) dels) e → AreSameSigs P site e.place → e.world ≤ del.world
        up e c s = by (earlier e c)
          where
            by : Contains (take i dels) e ⊎ (del ≡ e) → e.world ≤ del.world
            by (inl k) = let m = h.last e k s in omega (arith, m, later)
            by (inr q) = let w : del.world ≡ e.world = ap (λ (z : Del). z.world) q in omega (arith, w)

module _ (P : Program) (d : Def) (dels : List Del) where
  pub left_of_none : IsLeft P [] d
  left_of_none e c t = absurd (none_in e c)

  module _ (i : ℕ) (l : i < length dels) where
    abbrev this : Del
    this = get_or dels i (record { world = 0; place = 0 })

    -- the next does not take it away
    pub left_stays_on : IsLeft P (take i dels) d → (TakesAway P this d → ⊥) → IsLeft P (take (i + 1) dels) d
    left_stays_on h other e c t = by (Contains-append_cases (take i dels) (this ∷ []) e (subst (λ es. Contains es e) (take_more dels i (record { world = 0; place = 0 }) l) c))
      where
        by : Contains (take i dels) e ⊎ Contains (this ∷ []) e → ⊥
        by (inl k) = h e k t
        by (inr k) = one (first_or_later this e [] k)
          where
            one : (this ≡ e) ⊎ Contains [] e → ⊥
            one (inl q) = other (subst (λ (z : Del). TakesAway P z d) (sym q) t)
            one (inr n) = none_in e n

    -- the next does
    pub left_ends : d.world < this.world → AreSameSigs P d.site this.place → IsLeft P dels d → ⊥
    left_ends later same left = left this (Contains-get_or dels i (record { world = 0; place = 0 }) l) (record { later = later; same = same })

module _ (P : Program) (dels : List Del) (defs those : List Def) (i : ℕ) (l : i < length defs) where
  abbrev def : Def
  def = get_or defs i (record { world = 0; site = 0 })

  pub goes_taken : GoesOn (AreLeft P dels) defs those i → (world : ℕ) → IsLastDeletion P dels def.site world → def.world < world → GoesOn (AreLeft P dels) defs those (i + 1)
  goes_taken goes world last low = goes_over (AreLeft P dels) defs those i (record { world = 0; site = 0 }) l goes (λ rest p. taken_away def world (drop (i + 1) defs) rest last low p)

  pub goes_left : GoesOn (AreLeft P dels) defs those i → (world : ℕ) → IsLastDeletion P dels def.site world → world ≤ def.world → (more : List Def) → more ≡ those ++ def ∷ [] → GoesOn (AreLeft P dels) defs more (i + 1)
  goes_left goes world last low = goes_more (AreLeft P dels) defs those i (record { world = 0; site = 0 }) l goes (λ rest p. left_more def world (drop (i + 1) defs) rest last low p)

module _ (P : Program) (dels : List Del) (place : ℕ) where
  -- one is found at its place
  pub left_found : (defs : List Def) (i : ℕ) → i < length defs → IsLeft P dels (get_or defs i (record { world = 0; site = 0 })) × AreSameSigs P (get_or defs i (record { world = 0; site = 0 })).site place → HasLeftAt P dels defs place
  left_found defs i l (left, same) = record { def = get_or defs i (record { world = 0; site = 0 }); stands = Contains-get_or defs i (record { world = 0; site = 0 }) l; is_left = left; same = same }

  -- or one of the rest is
  pub left_over : (defs : List Def) (i : ℕ) → i < length defs → ((IsLeft P dels (get_or defs i (record { world = 0; site = 0 })) × AreSameSigs P (get_or defs i (record { world = 0; site = 0 })).site place) → ⊥)
      → HasLeftAt P dels (drop i defs) place → HasLeftAt P dels (drop (i + 1) defs) place
  left_over defs i l other h = by (first_or_later (get_or defs i (record { world = 0; site = 0 })) h.def (drop (i + 1) defs) (subst (λ ds. Contains ds h.def) (drop_more defs i (record { world = 0; site = 0 }) l) h.stands))
    where
      by : (get_or defs i (record { world = 0; site = 0 }) ≡ h.def) ⊎ Contains (drop (i + 1) defs) h.def → HasLeftAt P dels (drop (i + 1) defs) place
      by (inl q) = absurd (other (subst (λ (z : Def). IsLeft P dels z × AreSameSigs P z.site place) (sym q) (h.is_left, h.same)))
      by (inr c) = record { def = h.def; stands = c; is_left = h.is_left; same = h.same }

  -- none of the rest is found
  abbrev pub NoneFrom : List Def → ℕ → Type 0
  NoneFrom defs k = HasLeftAt P dels (drop k defs) place → ⊥

  pub none_at_end : (defs : List Def) (k : ℕ) → length defs ≤ k → NoneFrom defs k
  none_at_end defs k l h = none_in h.def (subst (λ ds. Contains ds h.def) (drop_all k defs l) h.stands)

  pub none_over : (defs : List Def) (i : ℕ) → i < length defs → ((IsLeft P dels (get_or defs i (record { world = 0; site = 0 })) × AreSameSigs P (get_or defs i (record { world = 0; site = 0 })).site place) → ⊥)
      → NoneFrom defs (i + 1) → NoneFrom defs i
  none_over defs i l other none h = none (left_over defs i l other h)

  -- one whose site is defined again among the rest is not found either
  pub none_again : (defs : List Def) (i : ℕ) → i < length defs → IsStrictlyIncreasing (worlds defs)
      → (e : Def) × Contains (take (length defs - (i + 1)) (drop (i + 1) defs)) e × (e.site ≡ (get_or defs i (record { world = 0; site = 0 })).site) → NoneFrom defs (i + 1) → NoneFrom defs i
  none_again defs i l rises (e, c, site) none h = by (first_or_later this h.def (drop (i + 1) defs) (subst (λ ds. Contains ds h.def) (drop_more defs i (record { world = 0; site = 0 }) l) h.stands))
    where
      this : Def
      this = get_or defs i (record { world = 0; site = 0 })

      again : Contains (drop (i + 1) defs) e
      again = subst (λ ds. Contains ds e) (slice_end (i + 1) defs) c

      alike : HasSameSig P this e
      alike = ap (λ n. sig_of (slice_get P.sites n)) (sym site)

      later : this.world ≤ e.world
      later =
          let next : i + 1 ≡ suc i = omega arith in
          rises_after 0 defs i (rises_of (worlds defs) rises) l e (subst (λ n. Contains (drop n defs) e) next again)

      by : (this ≡ h.def) ⊎ Contains (drop (i + 1) defs) h.def → ⊥
      by (inl q) =
          let left = left_later P dels this e alike later (subst (IsLeft P dels) (sym q) h.is_left) in
          let same = subst (λ (w : Written). SameSignature (types_of P) w (sig_of_place (slice_get P.deletes place))) alike (subst (λ (z : Def). AreSameSigs P z.site place) (sym q) h.same) in
          none (record { def = e; stands = again; is_left = left; same = same })
      by (inr k) = none (record { def = h.def; stands = k; is_left = h.is_left; same = h.same })

module _ (dels those : List Del) (i : ℕ) (l : i < length dels) where
  abbrev next : Del
  next = get_or dels i (record { world = 0; place = 0 })

  pub goes_repeated : GoesOn AreLastOfPlaces dels those i → IsRepeated next (take (length dels - (i + 1)) (drop (i + 1) dels)) → GoesOn AreLastOfPlaces dels those (i + 1)
  goes_repeated goes r =
      goes_over AreLastOfPlaces dels those i (record { world = 0; place = 0 }) l goes
      (λ rest p. repeated next (drop (i + 1) dels) rest (subst (IsRepeated next) (slice_end (i + 1) dels) r) p)

  pub goes_last : GoesOn AreLastOfPlaces dels those i → (more : List Del) → more ≡ those ++ next ∷ [] → GoesOn AreLastOfPlaces dels more (i + 1)
  goes_last goes = goes_more AreLastOfPlaces dels those i (record { world = 0; place = 0 }) l goes (λ rest p. last_more next (drop (i + 1) dels) rest p)
