-- Flags of changes, and the definitions and deletions that are picked by them.
use Rattle.std.proofs.Common.{◌≡◌, ◌∙◌, ap, sym, subst, refl, ℕ, zero, suc, ◌+◌, ◌<◌, ◌≤◌, ◌⊎◌, ◌↔◌, inl, inr, arith, Bool, true, false, cond, nat_eq, IsTrue, List, [], ◌∷◌, ◌++◌, length, get_or, take, drop, slice_get, slice_index, add-one, Option, None, Some}
use Rattle.std.specs.List.{Contains}
use Rattle.std.specs.List.Sorted.{IsStrictlyIncreasing}
use Rattle.std.proofs.lemmas.List.{take_more, drop_more}
use Rattle.std.proofs.lemmas.List.Elements.{Contains-append_cases, Contains-append_left, Contains-append_right}
use Rattle.jl_program.specs.declared.tree.Program.{Program}
use Rattle.jl_program.specs.declared.tree.Site.{Site}
use Rattle.jl_calculus.specs.declared.history.Change.{Change}
use Rattle.jl_calculus.specs.declared.history.Change.TheVariants as Ch
use Rattle.jl_calculus.specs.declared.history.Def.{Def}
use Rattle.jl_calculus.specs.declared.history.Del.{Del}
use Rattle.jl_calculus.specs.declared.history.Event.{Event}
use Rattle.jl_calculus.specs.Definitions.{worlds, def_at, defs_from, defs_in}
use Rattle.jl_calculus.specs.Ranges.{head_of_site}
use Rattle.jl_calculus.specs.World.{changes, change_at, site_in}
use Rattle.jl_calculus.proofs.BetweenLemmas.{taken_below, taken}
use Rattle.jl_core.specs.Flags.{HeadIsOf, IsOfFunction, AreFlags, def_in, del_in, picked, IsFlagged}

-- ---- flags

module _ (Q : Change → Type 0) where
  flags_push : (cs : List Change) (flags : List Bool) (c : Change) (b : Bool) → AreFlags Q cs flags → IsTrue b ↔ Q c → AreFlags Q (cs ++ c ∷ []) (flags ++ b ∷ [])
  flags_push [] [] c b h k = (k, tt)
  flags_push [] (x ∷ flags) c b h k = absurd h
  flags_push (s ∷ cs) [] c b h k = absurd h
  flags_push (s ∷ cs) (x ∷ flags) c b h k = (h.0, flags_push cs flags c b h.1 k)

  pub flags_more : (cs : List Change) (i : ℕ) (d : Change) (flags : List Bool) (b : Bool) → AreFlags Q (take i cs) flags → i < length cs → IsTrue b ↔ Q (get_or cs i d)
      → AreFlags Q (take (i + 1) cs) (flags ++ b ∷ [])
  flags_more cs i d flags b h l k = subst (λ xs. AreFlags Q xs (flags ++ b ∷ [])) (sym (take_more cs i d l)) (flags_push (take i cs) flags (get_or cs i d) b h k)

  pub flags_long : (cs : List Change) (flags : List Bool) → AreFlags Q cs flags → length flags ≡ length cs
  flags_long [] [] h = refl
  flags_long [] (x ∷ flags) h = absurd h
  flags_long (s ∷ cs) [] h = absurd h
  flags_long (s ∷ cs) (x ∷ flags) h = ap suc (flags_long cs flags h.1)

  pub flags_take : (n : ℕ) (cs : List Change) (flags : List Bool) → AreFlags Q cs flags → AreFlags Q (take n cs) (take n flags)
  flags_take zero cs flags h = tt
  flags_take (suc n) [] [] h = tt
  flags_take (suc n) [] (x ∷ flags) h = absurd h
  flags_take (suc n) (s ∷ cs) [] h = absurd h
  flags_take (suc n) (s ∷ cs) (x ∷ flags) h = (h.0, flags_take n cs flags h.1)

  -- a change is flagged exactly where it is so
  pub flagged : (cs : List Change) (flags : List Bool) (d : ℕ) (c : Change) → AreFlags Q cs flags → slice_get cs d ≡ Some c → Q c → IsFlagged flags d
  flagged [] flags d c h e q = cc
  flagged (s ∷ cs) [] d c h e q = absurd h
  flagged (s ∷ cs) (x ∷ flags) zero c h e q =
      let same : s ≡ c = cc in
      ap (λ (b : Bool). Some b) (h.0.1 (subst Q (sym same) q))
  flagged (s ∷ cs) (x ∷ flags) (suc d) c h e q = flagged cs flags d c h.1 e q

  pub change_flagged : (cs : List Change) (flags : List Bool) (d : ℕ) → AreFlags Q cs flags → IsFlagged flags d → (c : Change) × (slice_get cs d ≡ Some c) × Q c
  change_flagged [] [] d h f = cc
  change_flagged [] (x ∷ flags) d h f = absurd h
  change_flagged (s ∷ cs) [] d h f = absurd h
  change_flagged (s ∷ cs) (x ∷ flags) zero h f = (s, refl, h.0.0 (let e : x ≡ true = cc in e))
  change_flagged (s ∷ cs) (x ∷ flags) (suc d) h f = change_flagged cs flags d h.1 f

-- ---- what is picked

nothing : {X : Type 0} (x : X) → Contains {X = X} [] x → ⊥
nothing x (k, l, e) = absurd (omega (arith, l))

same_change : (o : Option Change) (a b : Change) → o ≡ Some a → o ≡ Some b → a ≡ b
same_change o a b h k = cc

module _ {X : Type 0} (one : ℕ → Change → List X) where
  -- one that is picked is what a flagged change is
  pub record IsPicked (n : ℕ) (cs : List Change) (flags : List Bool) (x : X) : Type 0 where
    pub place : ℕ
    pub change : Change
    pub at : slice_get cs place ≡ Some change
    pub flag : IsFlagged flags place
    pub is : Contains (one (n + place) change) x

  further : (n : ℕ) (c : Change) (cs : List Change) (b : Bool) (flags : List Bool) (x : X) → IsPicked (n + 1) cs flags x → IsPicked n (c ∷ cs) (b ∷ flags) x
  further n c cs b flags x h = record {
    place = suc h.place;
    change = h.change;
    at = h.at;
    flag = h.flag;
    is = subst (λ m. Contains (one m h.change) x) (let e : n + 1 + h.place ≡ n + suc h.place = omega arith in e) h.is;
  }

  pub picked_is : (n : ℕ) (cs : List Change) (flags : List Bool) (x : X) → Contains (picked one n cs flags) x → IsPicked n cs flags x
  picked_is n [] flags x i = absurd (nothing x i)
  picked_is n (c ∷ cs) [] x i = absurd (nothing x i)
  picked_is n (c ∷ cs) (true ∷ flags) x i = by (Contains-append_cases (one n c) (picked one (n + 1) cs flags) x i) (λ k. picked_is (n + 1) cs flags x k)
    where
      by : Contains (one n c) x ⊎ Contains (picked one (n + 1) cs flags) x → (Contains (picked one (n + 1) cs flags) x → IsPicked (n + 1) cs flags x) → IsPicked n (c ∷ cs) (true ∷ flags) x
      by (inl k) go = record { place = 0; change = c; at = refl; flag = refl; is = subst (λ m. Contains (one m c) x) (let e : n ≡ n + 0 = omega arith in e) k }
      by (inr k) go = further n c cs true flags x (go k)
  picked_is n (c ∷ cs) (false ∷ flags) x i = further n c cs false flags x (picked_is (n + 1) cs flags x i)

  -- what a flagged change is is picked
  pub is_picked : (n : ℕ) (cs : List Change) (flags : List Bool) (place : ℕ) (c : Change) (x : X) → slice_get cs place ≡ Some c → IsFlagged flags place → Contains (one (n + place) c) x
      → Contains (picked one n cs flags) x
  is_picked n [] flags place c x e f i = cc
  is_picked n (s ∷ cs) [] place c x e f i = cc
  is_picked n (s ∷ cs) (b ∷ flags) zero c x e f i =
      let same : s ≡ c = cc in
      let on : b ≡ true = cc in
      subst (λ (y : Bool). Contains (cond y (one n s) [] ++ picked one (n + 1) cs flags) x) (sym on)
      (Contains-append_left (one n s) (picked one (n + 1) cs flags) x
      (subst (λ m. Contains (one m s) x) (let z : n + 0 ≡ n = omega arith in z) (subst (λ y. Contains (one (n + 0) y) x) (sym same) i)))
  is_picked n (s ∷ cs) (b ∷ flags) (suc place) c x e f i =
      Contains-append_right (cond b (one n s) []) (picked one (n + 1) cs flags) x
      (is_picked (n + 1) cs flags place c x e f (subst (λ m. Contains (one m c) x) (let z : n + suc place ≡ n + 1 + place = omega arith in z) i))

  -- ---- as a loop picks them

  picked_more : (n i : ℕ) (cs : List Change) (flags : List Bool) (d : Change) (x : Bool) → i < length cs → length flags ≡ length cs
      → picked one n (drop i cs) (drop i flags) ≡ cond (get_or flags i x) (one n (get_or cs i d)) [] ++ picked one (n + 1) (drop (i + 1) cs) (drop (i + 1) flags)
  picked_more n i cs flags d x l e =
      ap (λ xs. picked one n xs (drop i flags)) (drop_more cs i d l)
      ∙ ap (λ bs. picked one n (get_or cs i d ∷ drop (i + 1) cs) bs) (drop_more flags i x (omega (arith, l, e)))

  pub picked_skip : (xs : List X) (cs : List Change) (flags : List Bool) (i : ℕ) (d : Change) (x : Bool) → i < length cs → length flags ≡ length cs → get_or flags i x ≡ false
      → xs ++ picked one (i + 1) (drop i cs) (drop i flags) ≡ picked one 1 cs flags → xs ++ picked one (i + 1 + 1) (drop (i + 1) cs) (drop (i + 1) flags) ≡ picked one 1 cs flags
  picked_skip xs cs flags i d x l e f h =
      ap (λ ys. xs ++ ys)
      (sym (picked_more (i + 1) i cs flags d x l e ∙ ap (λ (b : Bool). cond b (one (i + 1) (get_or cs i d)) [] ++ picked one (i + 1 + 1) (drop (i + 1) cs) (drop (i + 1) flags)) f))
      ∙ h

-- ---- the definitions that are picked increase

-- numbers that increase, from one number on
record From (low : ℕ) (xs : List ℕ) : Type 0 where
  first : 0 < length xs → low ≤ slice_index xs 0
  increasing : IsStrictlyIncreasing xs

before_all : (low : ℕ) (xs : List ℕ) → From (low + 1) xs → From low (low ∷ xs)
before_all low xs h = record { first = λ l. omega arith; increasing = next }
  where
    next : IsStrictlyIncreasing (low ∷ xs)
    next zero l = let k = h.first (omega arith) in omega arith
    next (suc k) l = let i = h.increasing k (omega arith) in rw (add-one) (simp add-one at i)

lower : (low : ℕ) (xs : List ℕ) → From (low + 1) xs → From low xs
lower low xs h = record { first = λ l. (let k = h.first l in omega arith); increasing = h.increasing }

picked_from : (n : ℕ) (cs : List Change) (flags : List Bool) → From n (worlds (picked def_in n cs flags))
picked_from n [] flags = record { first = λ l. absurd (omega arith); increasing = λ k l. absurd (omega arith) }
picked_from n (c ∷ cs) [] = record { first = λ l. absurd (omega arith); increasing = λ k l. absurd (omega arith) }
picked_from n (Ch.Def site ∷ cs) (true ∷ flags) = before_all n (worlds (picked def_in (n + 1) cs flags)) (picked_from (n + 1) cs flags)
picked_from n (Ch.Del place ∷ cs) (true ∷ flags) = lower n (worlds (picked def_in (n + 1) cs flags)) (picked_from (n + 1) cs flags)
picked_from n (c ∷ cs) (false ∷ flags) = lower n (worlds (picked def_in (n + 1) cs flags)) (picked_from (n + 1) cs flags)

pub picked_increase : (n : ℕ) (cs : List Change) (flags : List Bool) → IsStrictlyIncreasing (worlds (picked def_in n cs flags))
picked_increase n cs flags = let h = picked_from n cs flags in h.increasing

-- ---- the definitions of a function

module _ (P : Program) (f : ℕ) where
  -- a definition of the function is one of these changes, which are numbered from here on
  pub record IsDefAt (n : ℕ) (cs : List Change) (d : Def) : Type 0 where
    pub place : ℕ
    pub at : slice_get cs place ≡ Some (Ch.Def d.site)
    pub world : n + place ≡ d.world
    pub function : IsOfFunction P f (Ch.Def d.site)

  later : (n : ℕ) (c : Change) (cs : List Change) (d : Def) → IsDefAt (n + 1) cs d → IsDefAt n (c ∷ cs) d
  later n c cs d h = record { place = suc h.place; at = h.at; world = omega (arith, h.world); function = h.function }

  pub defs_is : (n : ℕ) (cs : List Change) (d : Def) → Contains (defs_from P f n cs) d → IsDefAt n cs d
  defs_is n [] d i = absurd (nothing d i)
  defs_is n (Ch.Del place ∷ cs) d i = later n (Ch.Del place) cs d (defs_is (n + 1) cs d i)
  defs_is n (Ch.Def s ∷ cs) d i = by (slice_get P.sites s) refl i (λ k. defs_is (n + 1) cs d k)
    where
      first : (site : Site) (b : Bool) → slice_get P.sites s ≡ Some site → nat_eq site.function f ≡ b → Contains (cond b (record { world = n; site = s } ∷ defs_from P f (n + 1) cs) (defs_from P f (n + 1) cs)) d
          → (Contains (defs_from P f (n + 1) cs) d → IsDefAt (n + 1) cs d) → IsDefAt n (Ch.Def s ∷ cs) d
      first site true e q (zero, l, k) go =
          subst (IsDefAt n (Ch.Def s ∷ cs)) k
          (record { place = 0; at = refl; world = omega arith; function = subst (λ (o : Option Site). HeadIsOf (head_of_site o) f) (sym e) (let z : site.function ≡ f = grind (arith, q) in z) })
      first site true e q (suc i, l, k) go = later n (Ch.Def s) cs d (go (i, omega (arith, l), k))
      first site false e q k go = later n (Ch.Def s) cs d (go k)

      by : (o : Option Site) → slice_get P.sites s ≡ o → Contains (def_at o f n s (defs_from P f (n + 1) cs)) d → (Contains (defs_from P f (n + 1) cs) d → IsDefAt (n + 1) cs d) → IsDefAt n (Ch.Def s ∷ cs) d
      by None e k go = later n (Ch.Def s) cs d (go k)
      by (Some site) e k go = first site (nat_eq site.function f) e refl k go

  after : (o : Option Site) (n s : ℕ) (ds : List Def) (d : Def) → Contains ds d → Contains (def_at o f n s ds) d
  after None n s ds d i = i
  after (Some site) n s ds d (k, l, e) = by (nat_eq site.function f)
    where
      by : (b : Bool) → Contains (cond b (record { world = n; site = s } ∷ ds) ds) d
      by true = (suc k, omega (arith, l), e)
      by false = (k, l, e)

  in_front : (o : Option Site) (n s : ℕ) (ds : List Def) → HeadIsOf (head_of_site o) f → Contains (def_at o f n s ds) (record { world = n; site = s })
  in_front None n s ds q = absurd q
  in_front (Some site) n s ds q =
      let k : nat_eq site.function f ≡ true = grind (arith, q) in
      subst (λ (b : Bool). Contains (cond b (record { world = n; site = s } ∷ ds) ds) (record { world = n; site = s })) (sym k) (0, omega arith, refl)

  is_defs : (n : ℕ) (cs : List Change) (place site : ℕ) → slice_get cs place ≡ Some (Ch.Def site) → IsOfFunction P f (Ch.Def site) → Contains (defs_from P f n cs) (record { world = n + place; site = site })
  is_defs n [] place site e q = cc
  is_defs n (Ch.Del p ∷ cs) zero site e q = cc
  is_defs n (Ch.Def s ∷ cs) zero site e q =
      let same : s ≡ site = ap site_in e in
      let now : n ≡ n + 0 = omega arith in
      subst (λ k. Contains (def_at (slice_get P.sites s) f n s (defs_from P f (n + 1) cs)) (record { world = k; site = site })) now
      (subst (λ k. Contains (def_at (slice_get P.sites s) f n s (defs_from P f (n + 1) cs)) (record { world = n; site = k })) same
      (in_front (slice_get P.sites s) n s (defs_from P f (n + 1) cs) (subst (λ k. IsOfFunction P f (Ch.Def k)) (sym same) q)))
  is_defs n (Ch.Del p ∷ cs) (suc place) site e q =
      subst (λ k. Contains (defs_from P f (n + 1) cs) (record { world = k; site = site })) (let z : n + 1 + place ≡ n + suc place = omega arith in z) (is_defs (n + 1) cs place site e q)
  is_defs n (Ch.Def s ∷ cs) (suc place) site e q =
      after (slice_get P.sites s) n s (defs_from P f (n + 1) cs) (record { world = n + suc place; site = site })
      (subst (λ k. Contains (defs_from P f (n + 1) cs) (record { world = k; site = site })) (let z : n + 1 + place ≡ n + suc place = omega arith in z) (is_defs (n + 1) cs place site e q))

-- ---- what a flagged definition or deletion is

def_of : (n : ℕ) (c : Change) (d : Def) → Contains (def_in n c) d → (c ≡ Ch.Def d.site) × (n ≡ d.world)
def_of n (Ch.Def site) d (zero, l, e) = (ap (λ (x : Def). Ch.Def x.site) e, ap (λ (x : Def). x.world) e)
def_of n (Ch.Def site) d (suc k, l, e) = absurd (omega (arith, l))
def_of n (Ch.Del place) d i = absurd (nothing d i)

del_of : (n : ℕ) (c : Change) (d : Del) → Contains (del_in n c) d → (c ≡ Ch.Del d.place) × (n ≡ d.world)
del_of n (Ch.Def site) d i = absurd (nothing d i)
del_of n (Ch.Del place) d (zero, l, e) = (ap (λ (x : Del). Ch.Del x.place) e, ap (λ (x : Del). x.world) e)
del_of n (Ch.Del place) d (suc k, l, e) = absurd (omega (arith, l))

module _ (Q : Change → Type 0) (cs : List Change) (flags : List Bool) (h : AreFlags Q cs flags) where
  is_so : (place : ℕ) (c : Change) → slice_get cs place ≡ Some c → IsFlagged flags place → Q c
  is_so place c e f =
      let (x, at, q) = change_flagged Q cs flags place h f in
      let same : x ≡ c = same_change (slice_get cs place) x c at e in
      subst Q same q

  pub def_flagged : (d : Def) → Contains (picked def_in 1 cs flags) d → Q (Ch.Def d.site)
  def_flagged d i = (let k = picked_is def_in 1 cs flags d i in subst Q (def_of (1 + k.place) k.change d k.is).0 (is_so k.place k.change k.at k.flag))

  pub del_flagged : (d : Del) → Contains (picked del_in 1 cs flags) d → Q (Ch.Del d.place)
  del_flagged d i = (let k = picked_is del_in 1 cs flags d i in subst Q (del_of (1 + k.place) k.change d k.is).0 (is_so k.place k.change k.at k.flag))

-- ---- what is picked up to a world

-- this change made this world, which is at most another
pub record IsMade (es : List Event) (w n : ℕ) (c : Change) : Type 0 where
  pub at : change_at es n ≡ Some c
  pub high : n ≤ w

place_of : (es : List Event) (w n : ℕ) (c : Change) → IsMade es w n c → (place : ℕ) × (1 + place ≡ n) × (slice_get (changes es) place ≡ Some c) × (place < w)
place_of es w zero c h = (let k = h.at in cc)
place_of es w (suc d) c h = (d, omega arith, h.at, omega (arith, h.high))

made_at : (es : List Event) (w n place : ℕ) (c : Change) → 1 + place ≡ n → slice_get (take w (changes es)) place ≡ Some c → IsMade es w n c
made_at es w n place c e k =
    let t = taken_below w (changes es) place c k in
    let same : suc place ≡ n = omega (arith, e) in
    record { at = subst (λ m. change_at es m ≡ Some c) same t.1; high = omega (arith, t.0, e) }

module _ (P : Program) (f : ℕ) (es : List Event) (w : ℕ) where
  -- the definitions of a function up to a world
  pub defs_made : (d : Def) → Contains (defs_in P es f w) d → IsMade es w d.world (Ch.Def d.site) × IsOfFunction P f (Ch.Def d.site)
  defs_made d i = (let k = defs_is P f 1 (take w (changes es)) d i in (made_at es w d.world k.place (Ch.Def d.site) k.world k.at, k.function))

  pub made_defs : (d : Def) → IsMade es w d.world (Ch.Def d.site) → IsOfFunction P f (Ch.Def d.site) → Contains (defs_in P es f w) d
  made_defs d h q =
      let (place, number, at, low) = place_of es w d.world (Ch.Def d.site) h in
      subst (λ k. Contains (defs_in P es f w) (record { world = k; site = d.site })) number
      (is_defs P f 1 (take w (changes es)) place d.site (taken w (changes es) place (Ch.Def d.site) low at) q)

module _ (Q : Change → Type 0) (es : List Event) (w : ℕ) (flags : List Bool) (h : AreFlags Q (changes es) flags) where
  abbrev pub defs_by : List Def
  defs_by = picked def_in 1 (take w (changes es)) (take w flags)

  abbrev pub dels_by : List Del
  dels_by = picked del_in 1 (take w (changes es)) (take w flags)

  flags_then : AreFlags Q (take w (changes es)) (take w flags)
  flags_then = flags_take Q w (changes es) flags h

  pub def_told : (d : Def) → Contains defs_by d → IsMade es w d.world (Ch.Def d.site) × Q (Ch.Def d.site)
  def_told d i =
      let k = picked_is def_in 1 (take w (changes es)) (take w flags) d i in
      let o = def_of (1 + k.place) k.change d k.is in
      (subst (IsMade es w d.world) o.0 (made_at es w d.world k.place k.change o.1 k.at), def_flagged Q (take w (changes es)) (take w flags) flags_then d i)

  pub del_told : (d : Del) → Contains dels_by d → IsMade es w d.world (Ch.Del d.place) × Q (Ch.Del d.place)
  del_told d i =
      let k = picked_is del_in 1 (take w (changes es)) (take w flags) d i in
      let o = del_of (1 + k.place) k.change d k.is in
      (subst (IsMade es w d.world) o.0 (made_at es w d.world k.place k.change o.1 k.at), del_flagged Q (take w (changes es)) (take w flags) flags_then d i)

  pub def_there : (d : Def) → IsMade es w d.world (Ch.Def d.site) → Q (Ch.Def d.site) → Contains defs_by d
  def_there d m q =
      let (place, number, at, low) = place_of es w d.world (Ch.Def d.site) m in
      let k = taken w (changes es) place (Ch.Def d.site) low at in
      is_picked def_in 1 (take w (changes es)) (take w flags) place (Ch.Def d.site) d k (flagged Q (take w (changes es)) (take w flags) place (Ch.Def d.site) flags_then k q)
      (subst (λ n. Contains (def_in n (Ch.Def d.site)) d) (sym number) (0, omega arith, refl))

  pub del_there : (n place : ℕ) → IsMade es w n (Ch.Del place) → Q (Ch.Del place) → Contains dels_by (record { world = n; place = place })
  del_there n place m q =
      let (k, number, at, low) = place_of es w n (Ch.Del place) m in
      let e = taken w (changes es) k (Ch.Del place) low at in
      is_picked del_in 1 (take w (changes es)) (take w flags) k (Ch.Del place) (record { world = n; place = place }) e (flagged Q (take w (changes es)) (take w flags) k (Ch.Del place) flags_then e q)
      (subst (λ x. Contains (del_in x (Ch.Del place)) (record { world = n; place = place })) (sym number) (0, omega arith, refl))
