-- The definitions and the deletions of a function among changes: one more at the end, what is in them, and those up to a world.
use Rattle.std.proofs.Common.{◌≡◌, ◌∙◌, ap, sym, subst, refl, ℕ, zero, suc, ◌+◌, ◌-◌, ◌<◌, ◌≤◌, ◌⊎◌, inl, inr, arith, Bool, true, false, cond, nat_eq, List, [], ◌∷◌, ◌++◌, append_assoc, map, length, take, drop, take-append-drop, get_or, slice_get, Option, None, Some}
use Rattle.std.specs.List.{Contains}
use Rattle.std.proofs.lemmas.Bool.{eqb-true, eq-eqb}
use Rattle.std.proofs.lemmas.List.Elements.{Contains-append_left, Contains-append_right, Contains-append_cases}
use Rattle.jl_program.specs.declared.tree.Delete.{Delete}
use Rattle.jl_program.specs.declared.tree.Site.{Site}
use Rattle.jl_program.specs.declared.tree.Program.{Program}
use Rattle.jl_calculus.specs.declared.history.Change.{Change}
use Rattle.jl_calculus.specs.declared.history.Change.TheVariants as Ch
use Rattle.jl_calculus.specs.declared.history.Def.{Def}
use Rattle.jl_calculus.specs.declared.history.Del.{Del}
use Rattle.jl_calculus.specs.Definitions.{def_at, defs_from, del_at, dels_from}
use Rattle.jl_methods.specs.Filters.{change_in}
use Rattle.jl_methods.specs.Numbered.{RisesFrom}
use Rattle.jl_methods.proofs.FilterLemmas.{here, there, here_or_there, none_there}
use Rattle.jl_methods.proofs.PutLemmas.{get_known, take_within}

abbrev pub def : ℕ → ℕ → Def
def world site = record { world = world; site = site }

abbrev pub del : ℕ → ℕ → Del
del world place = record { world = world; place = place }

-- ---- what each of some changes adds

-- what these changes add, where they make worlds from here on
abbrev pub collected : {X : Type 0} → (ℕ → Change → List X) → ℕ → List Change → List X
collected part world [] = []
collected part world (c ∷ cs) = part world c ++ collected part (world + 1) cs

-- something is added by one of these changes
pub record IsAdded {X : Type 0} (part : ℕ → Change → List X) (world : ℕ) (cs : List Change) (x : X) : Type 0 where
  pub place : ℕ
  pub change : Change
  pub change_is : slice_get cs place ≡ Some change
  pub adds : Contains (part (world + place) change) x

-- a change adds nothing, or one thing with its world
abbrev pub AddsOne : {X : Type 0} → (ℕ → Change → List X) → (X → ℕ) → Type 0
AddsOne {X} part at = (w : ℕ) (c : Change) → (part w c ≡ []) ⊎ ((x : X) × (part w c ≡ x ∷ []) × (at x ≡ w))

module _ {X : Type 0} (part : ℕ → Change → List X) where
  pub collected_append : (world : ℕ) (cs ds : List Change) → collected part world (cs ++ ds) ≡ collected part world cs ++ collected part (world + length cs) ds
  collected_append world [] ds = let e : world ≡ world + 0 = omega arith in ap (λ w. collected part w ds) e
  collected_append world (c ∷ cs) ds =
      let e : (world + 1) + length cs ≡ world + suc (length cs) = omega arith in
      ap (λ xs. part world c ++ xs) (collected_append (world + 1) cs ds ∙ ap (λ w. collected part (world + 1) cs ++ collected part w ds) e)
      ∙ sym (append_assoc (part world c) (collected part (world + 1) cs) (collected part (world + suc (length cs)) ds))

  pub added : (world : ℕ) (cs : List Change) (x : X) → Contains (collected part world cs) x → IsAdded part world cs x
  added world [] x i = absurd (none_there x [] refl i)
  added world (c ∷ cs) x i = by (Contains-append_cases (part world c) (collected part (world + 1) cs) x i) (added (world + 1) cs x)
    where
      first : world ≡ world + 0
      first = omega arith

      by : Contains (part world c) x ⊎ Contains (collected part (world + 1) cs) x → (Contains (collected part (world + 1) cs) x → IsAdded part (world + 1) cs x) → IsAdded part world (c ∷ cs) x
      by (inl j) more = record { place = 0; change = c; change_is = refl; adds = subst (λ w. Contains (part w c) x) first j }
      by (inr j) more =
          let h = more j in
          let e : (world + 1) + h.place ≡ world + suc h.place = omega arith in
          record { place = suc h.place; change = h.change; change_is = h.change_is; adds = subst (λ w. Contains (part w h.change) x) e h.adds }

  pub added_there : (world : ℕ) (cs : List Change) (j : ℕ) (c : Change) (x : X) → slice_get cs j ≡ Some c → Contains (part (world + j) c) x → Contains (collected part world cs) x
  added_there world [] j c x e i = cc
  added_there world (d ∷ cs) zero c x e i =
      let q : d ≡ c = cc in
      let first : world + 0 ≡ world = omega arith in
      Contains-append_left (part world d) (collected part (world + 1) cs) x
      (subst (λ w. Contains (part w d) x) first (subst (λ (c : Change). Contains (part (world + 0) c) x) (sym q) i))
  added_there world (d ∷ cs) (suc j) c x e i =
      let q : world + suc j ≡ (world + 1) + j = omega arith in
      Contains-append_right (part world d) (collected part (world + 1) cs) x
      (added_there (world + 1) cs j c x e (subst (λ w. Contains (part w c) x) q i))

  module _ (at : X → ℕ) (one : AddsOne part at) where
    pub collected_rise : (low world : ℕ) (cs : List Change) → low ≤ world → RisesFrom low (map at (collected part world cs))
    collected_rise low world [] l = tt
    collected_rise low world (c ∷ cs) l = by (one world c) (collected_rise (world + 1) (world + 1) cs (omega arith)) (collected_rise low (world + 1) cs (omega (arith, l)))
      where
        rest : List X
        rest = collected part (world + 1) cs

        by : (part world c ≡ []) ⊎ ((x : X) × (part world c ≡ x ∷ []) × (at x ≡ world)) → RisesFrom (world + 1) (map at rest) → RisesFrom low (map at rest) → RisesFrom low (map at (part world c ++ rest))
        by (inl e) r s = subst (λ xs. RisesFrom low (map at (xs ++ rest))) (sym e) s
        by (inr (x, e, q)) r s =
            subst (λ xs. RisesFrom low (map at (xs ++ rest))) (sym e)
            (omega (arith, l, q), subst (λ w. RisesFrom (w + 1) (map at rest)) (sym q) r)

-- ---- the definitions of a function

module _ (P : Program) (f : ℕ) where
  abbrev pub def_part : ℕ → Change → List Def
  def_part world c = defs_from P f world (c ∷ [])

  def_at_rest : (o : Option Site) (world site : ℕ) (ds : List Def) → def_at o f world site ds ≡ def_at o f world site [] ++ ds
  def_at_rest None world site ds = refl
  def_at_rest (Some s) world site ds = by (nat_eq s.function f)
    where
      by : (b : Bool) → cond b (def world site ∷ ds) ds ≡ cond b (def world site ∷ []) [] ++ ds
      by true = refl
      by false = refl

  pub defs_are : (world : ℕ) (cs : List Change) → defs_from P f world cs ≡ collected def_part world cs
  defs_are world [] = refl
  defs_are world (Ch.Def site ∷ cs) =
      def_at_rest (slice_get P.sites site) world site (defs_from P f (world + 1) cs) ∙ ap (λ ds. def_at (slice_get P.sites site) f world site [] ++ ds) (defs_are (world + 1) cs)
  defs_are world (Ch.Del place ∷ cs) = defs_are (world + 1) cs

  -- what a definition adds
  def_one_at : (o : Option Site) (w site : ℕ) → (def_at o f w site [] ≡ []) ⊎ ((d : Def) × (def_at o f w site [] ≡ d ∷ []) × (d.world ≡ w))
  def_one_at None w site = inl refl
  def_one_at (Some s) w site = by (nat_eq s.function f)
    where
      by : (b : Bool) → (cond b (def w site ∷ []) [] ≡ []) ⊎ ((d : Def) × (cond b (def w site ∷ []) [] ≡ d ∷ []) × (d.world ≡ w))
      by true = inr (def w site, refl, refl)
      by false = inl refl

  pub def_one : AddsOne def_part (λ (d : Def). d.world)
  def_one w (Ch.Def site) = def_one_at (slice_get P.sites site) w site
  def_one w (Ch.Del place) = inl refl

  pub defs_push : (world : ℕ) (cs : List Change) (c : Change) → defs_from P f world (cs ++ c ∷ []) ≡ defs_from P f world cs ++ defs_from P f (world + length cs) (c ∷ [])
  defs_push world cs c =
      defs_are world (cs ++ c ∷ []) ∙ collected_append def_part world cs (c ∷ [])
      ∙ ap (λ ds. ds ++ collected def_part (world + length cs) (c ∷ [])) (sym (defs_are world cs))
      ∙ ap (λ ds. defs_from P f world cs ++ ds) (sym (defs_are (world + length cs) (c ∷ [])))

  pub defs_rise : (low world : ℕ) (cs : List Change) → low ≤ world → RisesFrom low (map (λ (d : Def). d.world) (defs_from P f world cs))
  defs_rise low world cs l =
      subst (λ ds. RisesFrom low (map (λ (d : Def). d.world) ds)) (sym (defs_are world cs)) (collected_rise def_part (λ (d : Def). d.world) def_one low world cs l)

-- a definition of a function has its world by its place, and a site of that function
pub record IsDefAt (P : Program) (f world : ℕ) (cs : List Change) (d : Def) : Type 0 where
  pub place : ℕ
  pub world_is : d.world ≡ world + place
  pub change_is : slice_get cs place ≡ Some (Ch.Def d.site)
  pub site : Site
  pub stands : slice_get P.sites d.site ≡ Some site
  pub function_is : site.function ≡ f

module _ (P : Program) (f : ℕ) where
  def_by_site : (o : Option Site) (w site : ℕ) (d : Def) → Contains (def_at o f w site []) d → (s : Site) × (o ≡ Some s) × (s.function ≡ f) × (def w site ≡ d)
  def_by_site None w site d i = absurd (none_there d [] refl i)
  def_by_site (Some s) w site d i = by (nat_eq s.function f) refl i
    where
      one : nat_eq s.function f ≡ true → (def w site ≡ d) ⊎ Contains [] d → (t : Site) × (Some s ≡ Some t) × (t.function ≡ f) × (def w site ≡ d)
      one q (inl e) = (s, refl, eqb-true s.function f q, e)
      one q (inr j) = absurd (none_there d [] refl j)

      by : (b : Bool) → nat_eq s.function f ≡ b → Contains (cond b (def w site ∷ []) []) d → (t : Site) × (Some s ≡ Some t) × (t.function ≡ f) × (def w site ≡ d)
      by true q j = one q (here_or_there (def w site) d [] j)
      by false q j = absurd (none_there d [] refl j)

  pub def_of : (world : ℕ) (cs : List Change) (d : Def) → Contains (defs_from P f world cs) d → IsDefAt P f world cs d
  def_of world cs d i = by h.change h.change_is h.adds
    where
      h : IsAdded (def_part P f) world cs d
      h = added (def_part P f) world cs d (subst (λ ds. Contains ds d) (defs_are P f world cs) i)

      by : (c : Change) → slice_get cs h.place ≡ Some c → Contains (def_part P f (world + h.place) c) d → IsDefAt P f world cs d
      by (Ch.Def site) e j =
          let (s, q, t, is) = def_by_site (slice_get P.sites site) (world + h.place) site d j in
          let same : site ≡ d.site = ap (λ (d : Def). d.site) is in
          record {
            place = h.place;
            world_is = sym (ap (λ (d : Def). d.world) is);
            change_is = e ∙ ap (λ n. Some (Ch.Def n)) same;
            site = s;
            stands = ap (slice_get P.sites) (sym same) ∙ q;
            function_is = t;
          }
      by (Ch.Del place) e j = absurd (none_there d [] refl j)

  pub def_there : (world : ℕ) (cs : List Change) (j site : ℕ) (s : Site) → slice_get cs j ≡ Some (Ch.Def site) → slice_get P.sites site ≡ Some s → s.function ≡ f → Contains (defs_from P f world cs) (def (world + j) site)
  def_there world cs j site s e q t =
      subst (λ ds. Contains ds (def (world + j) site)) (sym (defs_are P f world cs))
      (added_there (def_part P f) world cs j (Ch.Def site) (def (world + j) site) e
      (subst (λ o. Contains (def_at o f (world + j) site []) (def (world + j) site)) (sym q)
      (subst (λ b. Contains (cond b (def (world + j) site ∷ []) []) (def (world + j) site)) (sym (eq-eqb s.function f t)) (0, omega arith, refl))))

-- ---- the deletions of a function

module _ (P : Program) (f : ℕ) where
  abbrev pub del_part : ℕ → Change → List Del
  del_part world c = dels_from P f world (c ∷ [])

  del_at_rest : (o : Option Delete) (world place : ℕ) (ds : List Del) → del_at o f world place ds ≡ del_at o f world place [] ++ ds
  del_at_rest None world place ds = refl
  del_at_rest (Some p) world place ds = by (nat_eq p.function f)
    where
      by : (b : Bool) → cond b (del world place ∷ ds) ds ≡ cond b (del world place ∷ []) [] ++ ds
      by true = refl
      by false = refl

  pub dels_are : (world : ℕ) (cs : List Change) → dels_from P f world cs ≡ collected del_part world cs
  dels_are world [] = refl
  dels_are world (Ch.Def site ∷ cs) = dels_are (world + 1) cs
  dels_are world (Ch.Del place ∷ cs) =
      del_at_rest (slice_get P.deletes place) world place (dels_from P f (world + 1) cs) ∙ ap (λ ds. del_at (slice_get P.deletes place) f world place [] ++ ds) (dels_are (world + 1) cs)

  -- what a deletion adds
  del_one_at : (o : Option Delete) (w place : ℕ) → (del_at o f w place [] ≡ []) ⊎ ((d : Del) × (del_at o f w place [] ≡ d ∷ []) × (d.world ≡ w))
  del_one_at None w place = inl refl
  del_one_at (Some p) w place = by (nat_eq p.function f)
    where
      by : (b : Bool) → (cond b (del w place ∷ []) [] ≡ []) ⊎ ((d : Del) × (cond b (del w place ∷ []) [] ≡ d ∷ []) × (d.world ≡ w))
      by true = inr (del w place, refl, refl)
      by false = inl refl

  pub del_one : AddsOne del_part (λ (d : Del). d.world)
  del_one w (Ch.Def site) = inl refl
  del_one w (Ch.Del place) = del_one_at (slice_get P.deletes place) w place

  pub dels_push : (world : ℕ) (cs : List Change) (c : Change) → dels_from P f world (cs ++ c ∷ []) ≡ dels_from P f world cs ++ dels_from P f (world + length cs) (c ∷ [])
  dels_push world cs c =
      dels_are world (cs ++ c ∷ []) ∙ collected_append del_part world cs (c ∷ [])
      ∙ ap (λ ds. ds ++ collected del_part (world + length cs) (c ∷ [])) (sym (dels_are world cs))
      ∙ ap (λ ds. dels_from P f world cs ++ ds) (sym (dels_are (world + length cs) (c ∷ [])))

  pub dels_rise : (low world : ℕ) (cs : List Change) → low ≤ world → RisesFrom low (map (λ (d : Del). d.world) (dels_from P f world cs))
  dels_rise low world cs l =
      subst (λ ds. RisesFrom low (map (λ (d : Del). d.world) ds)) (sym (dels_are world cs)) (collected_rise del_part (λ (d : Del). d.world) del_one low world cs l)

-- a deletion of a function has its world by its place among the changes, and a deletion place of that function
pub record IsDelAt (P : Program) (f world : ℕ) (cs : List Change) (d : Del) : Type 0 where
  pub place : ℕ
  pub world_is : d.world ≡ world + place
  pub change_is : slice_get cs place ≡ Some (Ch.Del d.place)
  pub row : Delete
  pub stands : slice_get P.deletes d.place ≡ Some row
  pub function_is : row.function ≡ f

module _ (P : Program) (f : ℕ) where
  del_by_place : (o : Option Delete) (w place : ℕ) (d : Del) → Contains (del_at o f w place []) d → (p : Delete) × (o ≡ Some p) × (p.function ≡ f) × (del w place ≡ d)
  del_by_place None w place d i = absurd (none_there d [] refl i)
  del_by_place (Some p) w place d i = by (nat_eq p.function f) refl i
    where
      one : nat_eq p.function f ≡ true → (del w place ≡ d) ⊎ Contains [] d → (r : Delete) × (Some p ≡ Some r) × (r.function ≡ f) × (del w place ≡ d)
      one q (inl e) = (p, refl, eqb-true p.function f q, e)
      one q (inr j) = absurd (none_there d [] refl j)

      by : (b : Bool) → nat_eq p.function f ≡ b → Contains (cond b (del w place ∷ []) []) d → (r : Delete) × (Some p ≡ Some r) × (r.function ≡ f) × (del w place ≡ d)
      by true q j = one q (here_or_there (del w place) d [] j)
      by false q j = absurd (none_there d [] refl j)

  pub del_of : (world : ℕ) (cs : List Change) (d : Del) → Contains (dels_from P f world cs) d → IsDelAt P f world cs d
  del_of world cs d i = by h.change h.change_is h.adds
    where
      h : IsAdded (del_part P f) world cs d
      h = added (del_part P f) world cs d (subst (λ ds. Contains ds d) (dels_are P f world cs) i)

      by : (c : Change) → slice_get cs h.place ≡ Some c → Contains (del_part P f (world + h.place) c) d → IsDelAt P f world cs d
      by (Ch.Def site) e j = absurd (none_there d [] refl j)
      by (Ch.Del place) e j =
          let (p, q, t, is) = del_by_place (slice_get P.deletes place) (world + h.place) place d j in
          let same : place ≡ d.place = ap (λ (d : Del). d.place) is in
          record {
            place = h.place;
            world_is = sym (ap (λ (d : Del). d.world) is);
            change_is = e ∙ ap (λ n. Some (Ch.Del n)) same;
            row = p;
            stands = ap (slice_get P.deletes) (sym same) ∙ q;
            function_is = t;
          }

  pub del_there : (world : ℕ) (cs : List Change) (j place : ℕ) (p : Delete) → slice_get cs j ≡ Some (Ch.Del place) → slice_get P.deletes place ≡ Some p → p.function ≡ f → Contains (dels_from P f world cs) (del (world + j) place)
  del_there world cs j place p e q t =
      subst (λ ds. Contains ds (del (world + j) place)) (sym (dels_are P f world cs))
      (added_there (del_part P f) world cs j (Ch.Del place) (del (world + j) place) e
      (subst (λ o. Contains (del_at o f (world + j) place []) (del (world + j) place)) (sym q)
      (subst (λ b. Contains (cond b (del (world + j) place ∷ []) []) (del (world + j) place)) (sym (eq-eqb p.function f t)) (0, omega arith, refl))))

-- ---- those up to a world

take_or_none : (w : ℕ) (cs : List Change) → (length (take w cs) ≡ w) ⊎ (drop w cs ≡ [])
take_or_none zero cs = inl refl
take_or_none (suc w) [] = inr refl
take_or_none (suc w) (c ∷ cs) = by (take_or_none w cs)
  where
    by : (length (take w cs) ≡ w) ⊎ (drop w cs ≡ []) → (suc (length (take w cs)) ≡ suc w) ⊎ (drop w cs ≡ [])
    by (inl e) = inl (ap suc e)
    by (inr e) = inr e

-- so many are the first ones, where a number tells these from the others
prefix : {X : Type 0} (at : X → ℕ) (w k : ℕ) (xs ys : List X) → ((x : X) → Contains xs x → at x ≤ w) → ((y : X) → Contains ys y → w < at y)
    → ((j : ℕ) (d : X) → j < k → j < length (xs ++ ys) → at (get_or (xs ++ ys) j d) ≤ w) → ((j : ℕ) (d : X) → k ≤ j → j < length (xs ++ ys) → w < at (get_or (xs ++ ys) j d)) → take k (xs ++ ys) ≡ xs
prefix at w zero [] [] a b low high = refl
prefix at w (suc k) [] [] a b low high = refl
prefix at w zero [] (y ∷ ys) a b low high = refl
prefix at w (suc k) [] (y ∷ ys) a b low high =
    let l = low 0 y (omega arith) (omega arith) in
    let m = b y (here y y ys refl) in absurd (omega (arith, l, m))
prefix at w zero (x ∷ xs) ys a b low high =
    let l = high 0 x (omega arith) (omega arith) in
    let m = a x (here x x xs refl) in absurd (omega (arith, l, m))
prefix at w (suc k) (x ∷ xs) ys a b low high =
    ap (λ zs. x ∷ zs)
    (prefix at w k xs ys (λ z c. a z (there x z xs c)) b (λ j d l m. low (suc j) d (omega (arith, l)) (omega (arith, m))) (λ j d l m. high (suc j) d (omega (arith, l)) (omega (arith, m))))

module _ (P : Program) (f w : ℕ) (cs : List Change) where
  abbrev low_dels : List Del
  low_dels = dels_from P f 1 (take w cs)

  abbrev high_dels : List Del
  high_dels = collected (del_part P f) (1 + length (take w cs)) (drop w cs)

  dels_split : dels_from P f 1 cs ≡ low_dels ++ high_dels
  dels_split =
      ap (dels_from P f 1) (sym (take-append-drop w cs)) ∙ dels_are P f 1 (take w cs ++ drop w cs) ∙ collected_append (del_part P f) 1 (take w cs) (drop w cs)
      ∙ ap (λ ds. ds ++ high_dels) (sym (dels_are P f 1 (take w cs)))

  low_are : (d : Del) → Contains low_dels d → d.world ≤ w
  low_are d c =
      let i = del_of P f 1 (take w cs) d c in
      omega (arith, i.world_is, get_known (take w cs) i.place (Ch.Del d.place) i.change_is, take_within w cs)

  high_are : (d : Del) → Contains high_dels d → w < d.world
  high_are d c = by (take_or_none w cs)
    where
      h : IsAdded (del_part P f) (1 + length (take w cs)) (drop w cs) d
      h = added (del_part P f) (1 + length (take w cs)) (drop w cs) d c

      part_world : (v : ℕ) (ds : List Del) → ds ≡ del_part P f v h.change → Contains ds d → (ds ≡ []) ⊎ ((x : Del) × (ds ≡ x ∷ []) × (x.world ≡ v)) → d.world ≡ v
      part_world v ds e i (inl q) = absurd (none_there d ds q i)
      part_world v ds e i (inr (x, q, r)) = one (here_or_there x d [] (subst (λ ds. Contains ds d) q i))
        where
          one : (x ≡ d) ⊎ Contains [] d → d.world ≡ v
          one (inl s) = sym (ap (λ (d : Del). d.world) s) ∙ r
          one (inr n) = absurd (none_there d [] refl n)

      world_is : d.world ≡ 1 + length (take w cs) + h.place
      world_is = part_world (1 + length (take w cs) + h.place) (del_part P f (1 + length (take w cs) + h.place) h.change) refl h.adds (del_one P f (1 + length (take w cs) + h.place) h.change)

      by : (length (take w cs) ≡ w) ⊎ (drop w cs ≡ []) → w < d.world
      by (inl e) = omega (arith, world_is, e)
      by (inr e) = absurd (omega (arith, get_known (drop w cs) h.place h.change h.change_is, ap length e))

  -- so many of the deletions are those up to a world
  pub dels_up : (k : ℕ) (ds : List Del) → ds ≡ dels_from P f 1 cs → ((j : ℕ) (d : Del) → j < k → j < length ds → (get_or ds j d).world ≤ w) → ((j : ℕ) (d : Del) → k ≤ j → j < length ds → w < (get_or ds j d).world)
      → take k ds ≡ low_dels
  dels_up k ds e low high =
      ap (take k) (e ∙ dels_split)
      ∙ prefix (λ (d : Del). d.world) w k low_dels high_dels low_are high_are
      (subst (λ ds. (j : ℕ) (d : Del) → j < k → j < length ds → (get_or ds j d).world ≤ w) (e ∙ dels_split) low)
      (subst (λ ds. (j : ℕ) (d : Del) → k ≤ j → j < length ds → w < (get_or ds j d).world) (e ∙ dels_split) high)

-- ---- the change of a world

pub get_at : {X : Type 0} (xs : List X) (n : ℕ) (x : X) → n < length xs → x ≡ get_or xs n x → slice_get xs n ≡ Some x
get_at [] n x l e = absurd (omega (arith, l))
get_at (z ∷ xs) zero x l e = ap Some (sym e)
get_at (z ∷ xs) (suc n) x l e = get_at xs n x (omega (arith, l)) e

pub get_there_or : {X : Type 0} (xs : List X) (n : ℕ) (d : X) → n < length xs → slice_get xs n ≡ Some (get_or xs n d)
get_there_or [] n d l = absurd (omega (arith, l))
get_there_or (x ∷ xs) zero d l = refl
get_there_or (x ∷ xs) (suc n) d l = get_there_or xs n d (omega (arith, l))

-- as the code reads it
pub change_read : (cs : List Change) (n : ℕ) (d : Change) → 1 ≤ n → n ≤ length cs → change_in cs n ≡ Some (get_or cs (n - 1) d)
change_read cs zero d low high = absurd (omega (arith, low))
change_read cs (suc n) d low high =
    let at : n ≡ suc n - 1 = omega arith in
    get_there_or cs n d (omega (arith, high)) ∙ ap (λ k. Some (get_or cs k d)) at
