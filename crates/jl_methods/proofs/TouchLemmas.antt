-- What touches a key: a change of the key's function that applies to its types.
use Rattle.std.proofs.Common.{◌≡◌, ◌∙◌, ap, sym, subst, refl, ℕ, zero, suc, ◌+◌, ◌<◌, ◌≤◌, ◌⊎◌, inl, inr, arith, Bool, true, false, cond, List, [], ◌∷◌, ◌++◌, length, get_or, slice_get, Option, None, Some}
use Rattle.std.specs.Prelude.{◌↔◌}
use Rattle.std.specs.List.{Contains}
use Rattle.std.specs.List.Sorted.{IsStrictlyIncreasing}
use Rattle.jl_model.specs.declared.ty.Key.{Key}
use Rattle.jl_model.specs.declared.ty.Ty.{Ty}
use Rattle.jl_model.specs.Signature.{Applicable}
use Rattle.jl_program.specs.declared.tree.Delete.{Delete}
use Rattle.jl_program.specs.declared.tree.Site.{Site}
use Rattle.jl_program.specs.declared.tree.Program.{Program}
use Rattle.jl_program.specs.Scope.{types_of}
use Rattle.jl_calculus.specs.declared.history.Change.{Change}
use Rattle.jl_calculus.specs.declared.history.Change.TheVariants as Ch
use Rattle.jl_calculus.specs.declared.history.Def.{Def}
use Rattle.jl_calculus.specs.declared.history.Del.{Del}
use Rattle.jl_calculus.specs.declared.history.Event.{Event}
use Rattle.jl_calculus.specs.Definitions.{AppliesTo, sig_of}
use Rattle.jl_calculus.specs.Ranges.{Head, head_of, head_of_site, head_of_place, HeadTouches, ChangeTouches, Touches}
use Rattle.jl_calculus.specs.World.{changes}
use Rattle.jl_methods.specs.Filters.{numbers_from, change_in, HeadApplies, ChangeApplies}
use Rattle.jl_methods.specs.Noted.{function_in, function_of}
use Rattle.jl_methods.specs.Numbered.{RisesFrom}
use Rattle.jl_methods.proofs.ChangeLemmas.{IsDefAt, IsDelAt}
use Rattle.jl_methods.proofs.EachLemmas.{rises_at}
use Rattle.jl_methods.proofs.FilterLemmas.{here, there, here_or_there, none_there}

-- ---- what is in the parts

-- one that meets the test has this number, where the first has that one
abbrev pub Numbered : {X : Type 0} → (X → Bool) → ℕ → List X → ℕ → Type 0
Numbered {X} test n xs m = (j : ℕ) × (x : X) × (m ≡ n + j) × (slice_get xs j ≡ Some x) × (test x ≡ true)

numbered_later : {X : Type 0} (test : X → Bool) (n : ℕ) (y : X) (xs : List X) (m : ℕ) → Numbered test (n + 1) xs m → Numbered test n (y ∷ xs) m
numbered_later test n y xs m (j, x, e, g, t) = (suc j, x, omega (arith, e), g, t)

pub number_of : {X : Type 0} (test : X → Bool) (n : ℕ) (xs : List X) (m : ℕ) → Contains (numbers_from test n xs) m → Numbered test n xs m
number_of test n [] m c = absurd (none_there m [] refl c)
number_of test n (y ∷ xs) m c = by (test y) refl c (number_of test (n + 1) xs m)
  where
    one : test y ≡ true → (Contains (numbers_from test (n + 1) xs) m → Numbered test (n + 1) xs m) → (n ≡ m) ⊎ Contains (numbers_from test (n + 1) xs) m → Numbered test n (y ∷ xs) m
    one t more (inl e) = (0, y, omega (arith, e), refl, t)
    one t more (inr d) = numbered_later test n y xs m (more d)

    by : (b : Bool) → test y ≡ b → Contains (cond b (n ∷ numbers_from test (n + 1) xs) (numbers_from test (n + 1) xs)) m → (Contains (numbers_from test (n + 1) xs) m → Numbered test (n + 1) xs m) → Numbered test n (y ∷ xs) m
    by true t c more = one t more (here_or_there n m (numbers_from test (n + 1) xs) c)
    by false t c more = numbered_later test n y xs m (more c)

pub number_there : {X : Type 0} (test : X → Bool) (n : ℕ) (xs : List X) (j : ℕ) (x : X) → slice_get xs j ≡ Some x → test x ≡ true → Contains (numbers_from test n xs) (n + j)
number_there test n [] j x e t = cc
number_there {X} test n (y ∷ xs) zero x e t =
    let q : y ≡ x = cc in
    subst (λ b. Contains (cond b (n ∷ numbers_from test (n + 1) xs) (numbers_from test (n + 1) xs)) (n + 0)) (sym (ap test q ∙ t))
    (here n (n + 0) (numbers_from test (n + 1) xs) (omega arith))
number_there {X} test n (y ∷ xs) (suc j) x e t = by (test y) (subst (Contains (numbers_from test (n + 1) xs)) at (number_there test (n + 1) xs j x e t))
  where
    at : (n + 1) + j ≡ n + suc j
    at = omega arith

    by : (b : Bool) → Contains (numbers_from test (n + 1) xs) (n + suc j) → Contains (cond b (n ∷ numbers_from test (n + 1) xs) (numbers_from test (n + 1) xs)) (n + suc j)
    by true c = there n (n + suc j) (numbers_from test (n + 1) xs) c
    by false c = c

-- ---- a change and a key

module _ (P : Program) where
  head_touches : (o : Option Head) (key : Key) → function_in o ≡ key.function → HeadApplies P o key.types → HeadTouches P o key
  head_touches None key e a = absurd a
  head_touches (Some h) key e a = (e, a)

  touches_head : (o : Option Head) (key : Key) → HeadTouches P o key → (function_in o ≡ key.function) × HeadApplies P o key.types
  touches_head None key t = absurd t
  touches_head (Some h) key t = t

  -- a change of a key's function that applies to its types touches it
  pub applying_touches : (c : Change) (key : Key) → function_of P c ≡ key.function → ChangeApplies P c key.types → HeadTouches P (head_of P c) key
  applying_touches c key e a = head_touches (head_of P c) key e a

  pub touching_applies : (c : Change) (key : Key) → HeadTouches P (head_of P c) key → (function_of P c ≡ key.function) × ChangeApplies P c key.types
  touching_applies c key t = touches_head (head_of P c) key t

  -- a definition applies where its change does
  site_applies : (o : Option Site) (s : Site) (ts : List Ty) → o ≡ Some s → HeadApplies P (head_of_site o) ts → Applicable (types_of P) (sig_of o) ts
  site_applies None s ts e a = absurd a
  site_applies (Some t) s ts e a = a

  applies_site : (o : Option Site) (s : Site) (ts : List Ty) → o ≡ Some s → Applicable (types_of P) (sig_of o) ts → HeadApplies P (head_of_site o) ts
  applies_site None s ts e a = cc
  applies_site (Some t) s ts e a = a

  pub def_applies : (d : Def) (s : Site) (ts : List Ty) → slice_get P.sites d.site ≡ Some s → ChangeApplies P (Ch.Def d.site) ts → AppliesTo P ts d
  def_applies d s ts e a = site_applies (slice_get P.sites d.site) s ts e a

  pub applies_def : (d : Def) (s : Site) (ts : List Ty) → slice_get P.sites d.site ≡ Some s → AppliesTo P ts d → ChangeApplies P (Ch.Def d.site) ts
  applies_def d s ts e a = applies_site (slice_get P.sites d.site) s ts e a

  -- what a change is of
  pub site_row : (o : Option Site) (key : Key) → HeadTouches P (head_of_site o) key → (s : Site) × (o ≡ Some s) × (s.function ≡ key.function)
  site_row None key t = absurd t
  site_row (Some s) key t = (s, refl, t.0)

  pub place_row : (o : Option Delete) (key : Key) → HeadTouches P (head_of_place o) key → (p : Delete) × (o ≡ Some p) × (p.function ≡ key.function)
  place_row None key t = absurd t
  place_row (Some p) key t = (p, refl, t.0)

  pub def_touches : (f world : ℕ) (cs : List Change) (d : Def) (key : Key) → f ≡ key.function → IsDefAt P f world cs d → ChangeApplies P (Ch.Def d.site) key.types → HeadTouches P (head_of P (Ch.Def d.site)) key
  def_touches f world cs d key e i a = applying_touches (Ch.Def d.site) key (ap (λ o. function_in (head_of_site o)) i.stands ∙ i.function_is ∙ e) a

  pub del_touches : (f world : ℕ) (cs : List Change) (d : Del) (key : Key) → f ≡ key.function → IsDelAt P f world cs d → ChangeApplies P (Ch.Del d.place) key.types → HeadTouches P (head_of P (Ch.Del d.place)) key
  del_touches f world cs d key e i a = applying_touches (Ch.Del d.place) key (ap (λ o. function_in (head_of_place o)) i.stands ∙ i.function_is ∙ e) a

-- ---- the changes that touch a key

pub rises_next : (low : ℕ) (ns : List ℕ) (k : ℕ) → RisesFrom low ns → suc k < length ns → get_or ns k 0 < get_or ns (suc k) 0
rises_next low [] k r l = absurd (omega (arith, l))
rises_next low (n ∷ ns) zero r l = omega (arith, rises_at (n + 1) ns 0 0 (omega (arith, l)) r.1)
rises_next low (n ∷ ns) (suc k) r l = rises_next (n + 1) ns k r.1 (omega (arith, l))

pub increases : (ns : List ℕ) → RisesFrom 0 ns → IsStrictlyIncreasing ns
increases ns r =
    λ k l.
    let next : suc k ≡ k + 1 = omega arith in
    subst (λ j. get_or ns k 0 < get_or ns j 0) next (rises_next 0 ns k r (omega (arith, l)))

pub rises_by_next : (low : ℕ) (ns : List ℕ) → ((k : ℕ) → suc k < length ns → get_or ns k 0 < get_or ns (suc k) 0) → low ≤ get_or ns 0 low → RisesFrom low ns
rises_by_next low [] h l = tt
rises_by_next low (n ∷ []) h l = (l, tt)
rises_by_next low (n ∷ (m ∷ ns)) h l =
    let first : n < m = h 0 (omega arith) in
    (l, rises_by_next (n + 1) (m ∷ ns) (λ k i. h (suc k) (omega (arith, i))) (omega (arith, first)))

pub rises_of : (ns : List ℕ) → IsStrictlyIncreasing ns → RisesFrom 0 ns
rises_of ns h =
    let next : (k : ℕ) → k + 1 ≡ suc k = λ k. omega arith in
    rises_by_next 0 ns (λ k l. subst (λ j. get_or ns k 0 < get_or ns j 0) (next k) (h k (omega (arith, l)))) (omega arith)

-- a change of these touches a key
pub record IsTouch (P : Program) (cs : List Change) (w : ℕ) (key : Key) : Type 0 where
  pub place : ℕ
  pub change : Change
  pub world_is : w ≡ suc place
  pub change_is : slice_get cs place ≡ Some change
  pub touches : HeadTouches P (head_of P change) key

pub touch_of : (P : Program) (cs : List Change) (w : ℕ) (key : Key) → ChangeTouches P (change_in cs w) key → IsTouch P cs w key
touch_of P cs zero key t = absurd t
touch_of P cs (suc j) key t = by (slice_get cs j) refl t
  where
    by : (o : Option Change) → slice_get cs j ≡ o → ChangeTouches P o key → IsTouch P cs (suc j) key
    by None e t = absurd t
    by (Some c) e t = record { place = j; change = c; world_is = refl; change_is = e; touches = t }

pub touch_at : (P : Program) (cs : List Change) (place w : ℕ) (c : Change) (key : Key) → w ≡ suc place → slice_get cs place ≡ Some c → HeadTouches P (head_of P c) key → ChangeTouches P (change_in cs w) key
touch_at P cs place w c key e q t =
    subst (λ w. ChangeTouches P (change_in cs w) key) (sym e) (subst (λ o. ChangeTouches P o key) (sym q) t)

-- as the rules say it
pub touches_in : (P : Program) (es : List Event) (w : ℕ) (key : Key) → ChangeTouches P (change_in (changes es) w) key ↔ Touches P es w key
touches_in P es zero key = (λ t. t, λ t. t)
touches_in P es (suc j) key = (λ t. t, λ t. t)
