-- The definitions that apply: they are in order, and have the latest of each site.
use Rattle.std.proofs.Common.{◌≡◌, ◌∙◌, sym, ap, subst, refl, ℕ, zero, suc, ◌+◌, ◌<◌, ◌≤◌, arith, add-one, List, [], ◌∷◌, ◌++◌, length, drop, get_or, append_assoc, append-nil, slice_index, slice_get, Some}
use Rattle.std.specs.List.{Contains}
use Rattle.std.specs.List.Sorted.{IsStrictlyIncreasing}
use Rattle.std.proofs.Math.Seq.{drop-cons}
use Rattle.jl_model.specs.declared.ty.Ty.{Ty}
use Rattle.jl_model.specs.declared.ty.Decl.{Decl}
use Rattle.jl_model.specs.declared.ty.Written.{Written}
use Rattle.jl_model.specs.Ancestors.{table_of}
use Rattle.jl_model.specs.Signature.{Applicable}
use Rattle.jl_program.specs.declared.tree.Program.{Program}
use Rattle.jl_program.specs.Scope.{types_of, all_types}
use Rattle.jl_calculus.specs.declared.history.Def.{Def}
use Rattle.jl_calculus.specs.declared.history.Change.{Change}
use Rattle.jl_calculus.specs.declared.history.Del.{Del}
use Rattle.jl_calculus.specs.Definitions.{sig_of, worlds, defs_from, dels_from, HasSite, AppliesTo}
use Rattle.jl_methods.proofs.ChangeLemmas.{def_of, del_of}
use Rattle.jl_methods.proofs.PutLemmas.{get_known}
use Rattle.jl_sig.specs.Readied.{sigs_of}
use Rattle.jl_subsig.specs.Side.{Every}
use Rattle.jl_subsig.specs.Standing.{HasPlace, HasLaterAtSite, HaveLatest}
use Rattle.jl_subsig.proofs.DefinitionLemmas.{sig_at}
use Rattle.jl_choosing.specs.ByFunction.{Rising, AreLatest, AreLatestDels}
use Rattle.jl_choosing.specs.Picked.{Picked, picked_end, picked_more, not_applied}
use Rattle.jl_choosing.proofs.LatestLemmas.{rise_lower, at_later}

-- ---- worlds that rise

record From (low : ℕ) (xs : List ℕ) : Type 0 where
  pub first : 0 < length xs → low ≤ slice_index xs 0
  pub increasing : IsStrictlyIncreasing xs

before : (low : ℕ) (xs : List ℕ) → From (low + 1) xs → From low (low ∷ xs)
before low xs h = record { first = λ l. omega arith; increasing = next }
  where
    next : IsStrictlyIncreasing (low ∷ xs)
    next zero l = let k = h.first (omega arith) in omega arith
    next (suc k) l = let i = h.increasing k (omega arith) in rw (add-one) (simp add-one at i)

lower : (low high : ℕ) (xs : List ℕ) → low ≤ high → From high xs → From low xs
lower low high xs m h = record { first = λ l. (let k = h.first l in omega (arith, k, m)); increasing = h.increasing }

from_rising : (low : ℕ) (ds : List Def) → Rising low ds → From low (worlds ds)
from_rising low [] h = record { first = λ l. absurd (omega arith); increasing = λ k l. absurd (omega arith) }
from_rising low (d ∷ ds) h = lower low d.world (d.world ∷ worlds ds) h.0 (before d.world (worlds ds) (from_rising (d.world + 1) ds h.1))

pub rise_increase : (low : ℕ) (ds : List Def) → Rising low ds → IsStrictlyIncreasing (worlds ds)
rise_increase low ds h = let f = from_rising low ds h in f.increasing

-- ---- what is picked

module _ (P : Program) (ts : List Ty) where
  pub picked_apply : (ds es : List Def) → Picked P ts ds es → Every (AppliesTo P ts) es
  picked_apply ds es picked_end = tt
  picked_apply ds es (picked_more d xs ys a p) = (a, picked_apply xs ys p)
  picked_apply ds es (not_applied d xs ys n p) = picked_apply xs ys p

  pub picked_sites : (ds es : List Def) → Every (HasSite P) ds → Picked P ts ds es → Every (HasSite P) es
  picked_sites ds es h picked_end = tt
  picked_sites ds es h (picked_more d xs ys a p) = (h.0, picked_sites xs ys h.1 p)
  picked_sites ds es h (not_applied d xs ys n p) = picked_sites xs ys h.1 p

  pub picked_rise : (low : ℕ) (ds es : List Def) → Rising low ds → Picked P ts ds es → Rising low es
  picked_rise low ds es h picked_end = tt
  picked_rise low ds es h (picked_more d xs ys a p) = (h.0, picked_rise (d.world + 1) xs ys h.1 p)
  picked_rise low ds es h (not_applied d xs ys n p) = rise_lower low (d.world + 1) ys (omega (arith, h.0)) (picked_rise (d.world + 1) xs ys h.1 p)

  -- what is picked is there
  picked_there : (ds es : List Def) → Picked P ts ds es → (d : Def) → Contains es d → Contains ds d
  picked_there ds es picked_end d c = c
  picked_there ds es (picked_more x xs ys a p) d (zero, l, q) = (zero, omega arith, q)
  picked_there ds es (picked_more x xs ys a p) d (suc k, l, q) = let c = picked_there xs ys p d (k, omega arith, q) in (suc c.0, omega (arith, c.1), c.2)
  picked_there ds es (not_applied x xs ys n p) d c = let i = picked_there xs ys p d c in (suc i.0, omega (arith, i.1), i.2)

  -- what applies is picked
  picked_stay : (ds es : List Def) → Picked P ts ds es → (d : Def) → Contains ds d → AppliesTo P ts d → Contains es d
  picked_stay ds es picked_end d c a = c
  picked_stay ds es (picked_more x xs ys b p) d (zero, l, q) a = (0, omega arith, q)
  picked_stay ds es (picked_more x xs ys b p) d (suc k, l, q) a = at_later x ys d (picked_stay xs ys p d (k, omega arith, q) a)
  picked_stay ds es (not_applied x xs ys n p) d (zero, l, q) a = absurd (n (subst (AppliesTo P ts) (sym q) a))
  picked_stay ds es (not_applied x xs ys n p) d (suc k, l, q) a = picked_stay xs ys p d (k, omega arith, q) a

  -- what is picked has the latest of each site, where the list has it
  pub picked_latest : (all ds es : List Def) → HaveLatest P ts all ds → Picked P ts ds es → HaveLatest P ts all es
  picked_latest all ds es h p = record { there = λ d c. h.there d (picked_there ds es p d c); covered = covered }
    where
      covered : (d : Def) → Contains all d → AppliesTo P ts d → HasLaterAtSite es d
      covered d c a =
          let l = h.covered d c a in
          let applied : AppliesTo P ts l.by = subst (λ s. Applicable (types_of P) (sig_of (slice_get P.sites s)) ts) (sym l.site_is) a in
          record { by = l.by; stays = picked_stay ds es p l.by l.stays applied; site_is = l.site_is; later = l.later }

-- ---- the latest of each site and of each place

every_of : {X : Type 0} (Is : X → Type 0) (xs : List X) → ((x : X) → Contains xs x → Is x) → Every Is xs
every_of Is [] h = tt
every_of Is (x ∷ xs) h = (h x (0, omega arith, refl), every_of Is xs (λ y (k, l, e). h y (suc k, omega (arith, l), e)))

module _ (P : Program) where
  -- the latest of each site are latest for the types of a call
  pub latest_for : (ts : List Ty) (all some : List Def) → AreLatest all some → HaveLatest P ts all some
  latest_for ts all some h = record { there = h.there; covered = λ d c a. h.covered d c }

  -- they are of sites of the program
  pub latest_sites : (f : ℕ) (cs : List Change) (some : List Def) → AreLatest (defs_from P f 1 cs) some → Every (HasSite P) some
  latest_sites f cs some h = every_of (HasSite P) some (λ d c. (let i = def_of P f 1 cs d (h.there d c) in get_known P.sites d.site i.site i.stands))

  -- and the latest deletions are at places of it
  pub latest_places : (f : ℕ) (cs : List Change) (some : List Del) → AreLatestDels (dels_from P f 1 cs) some → Every (HasPlace P) some
  latest_places f cs some h = every_of (HasPlace P) some (λ d c. (let i = del_of P f 1 cs d (h.there d c) in get_known P.deletes d.place i.row i.stands))

-- ---- whether a definition applies

applies_is : (P : Program) (d : Def) (ts : List Ty) (table : List Decl) (w : Written) → table ≡ all_types P → slice_get (sigs_of P.sites) d.site ≡ Some w
    → Applicable (table_of table) w ts ≡ AppliesTo P ts d
applies_is P d ts table w e s =
    ap (λ ds. Applicable (table_of ds) w ts) e ∙ ap (λ z. Applicable (types_of P) z ts) (sig_at P.sites d.site w s)

pub applies_to : (P : Program) (d : Def) (ts : List Ty) (table : List Decl) (w : Written) → table ≡ all_types P → slice_get (sigs_of P.sites) d.site ≡ Some w
    → Applicable (table_of table) w ts → AppliesTo P ts d
applies_to P d ts table w e s a = subst (λ z. z) (applies_is P d ts table w e s) a

pub applies_from : (P : Program) (d : Def) (ts : List Ty) (table : List Decl) (w : Written) → table ≡ all_types P → slice_get (sigs_of P.sites) d.site ≡ Some w
    → AppliesTo P ts d → Applicable (table_of table) w ts
applies_from P d ts table w e s a = subst (λ z. z) (sym (applies_is P d ts table w e s)) a

-- ---- a step of the loop that picks

rest_is : (xs : List Def) (i : ℕ) (d : Def) → i < length xs → drop i xs ≡ get_or xs i d ∷ drop (i + 1) xs
rest_is xs i d l = let next : suc i ≡ i + 1 = omega arith in drop-cons xs i d l ∙ ap (λ k. get_or xs i d ∷ drop k xs) next

module _ (P : Program) (ts : List Ty) (defs those : List Def) (i : ℕ) (l : i < length defs) where
  abbrev this : Def
  this = get_or defs i (record { world = 0; site = 0 })

  abbrev later : List Def
  later = drop (i + 1) defs

  at : drop i defs ≡ this ∷ later
  at = rest_is defs i (record { world = 0; site = 0 }) l

  pub sites_rest : Every (HasSite P) (drop i defs) → Every (HasSite P) later
  sites_rest h = let k : Every (HasSite P) (this ∷ later) = subst (Every (HasSite P)) at h in k.1

  abbrev GoesOn : List Def → ℕ → Type 0
  GoesOn some k = (rest : List Def) → Picked P ts (drop k defs) rest → Picked P ts defs (some ++ rest)

  pub goes_apart : GoesOn those i → (AppliesTo P ts this → ⊥) → GoesOn those (i + 1)
  goes_apart goes n rest p = goes rest (subst (λ ds. Picked P ts ds rest) (sym at) (not_applied this later rest n p))

  pub goes_picked : GoesOn those i → AppliesTo P ts this → (more : List Def) → more ≡ those ++ this ∷ [] → GoesOn more (i + 1)
  goes_picked goes a more m rest p =
      subst (Picked P ts defs) (sym (ap (λ ds. ds ++ rest) m ∙ append_assoc those (this ∷ []) rest))
      (goes (this ∷ rest) (subst (λ ds. Picked P ts ds (this ∷ rest)) (sym at) (picked_more this later rest a p)))

drop_past : (xs : List Def) (i : ℕ) → length xs ≤ i → drop i xs ≡ []
drop_past [] zero l = refl
drop_past [] (suc i) l = refl
drop_past (x ∷ xs) zero l = absurd (omega (arith, l))
drop_past (x ∷ xs) (suc i) l = drop_past xs i (omega (arith, l))

-- at the end of the loop
pub goes_whole : (P : Program) (ts : List Ty) (defs those : List Def) (i : ℕ) → length defs ≤ i
    → ((rest : List Def) → Picked P ts (drop i defs) rest → Picked P ts defs (those ++ rest)) → Picked P ts defs those
goes_whole P ts defs those i l goes = subst (Picked P ts defs) (append-nil those) (goes [] (subst (λ ds. Picked P ts ds []) (sym (drop_past defs i l)) picked_end))
