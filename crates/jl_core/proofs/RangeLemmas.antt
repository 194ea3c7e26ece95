-- The changes that touch a key, and the row that their flags tell.
use Rattle.std.proofs.Common.{◌≡◌, ◌∙◌, ap, sym, subst, refl, ℕ, zero, suc, ◌+◌, ◌-◌, ◌<◌, ◌≤◌, ◌⊎◌, ◌↔◌, inl, inr, arith, Bool, true, false, ◌&&◌, All, IsTrue, List, [], ◌∷◌, ◌++◌, length, get_or, slice_get, Option, None, Some}
use Rattle.std.specs.List.{flat_map, list_all}
use Rattle.std.proofs.lemmas.List.Elements.{All-head, All-tail}
use Rattle.std.proofs.lemmas.Option.{slice_get_read}
use Rattle.jl_model.specs.declared.ty.Decl.{Decl}
use Rattle.jl_model.specs.declared.ty.Key.{Key}
use Rattle.jl_model.specs.declared.ty.Ty.{Ty}
use Rattle.jl_model.specs.declared.ty.Written.{Written}
use Rattle.jl_model.specs.Ancestors.{table_of}
use Rattle.jl_model.specs.Normal.{more}
use Rattle.jl_model.specs.Rows.{vars_in}
use Rattle.jl_model.specs.Signature.{Applicable}
use Rattle.jl_model.specs.Subtype.{opaque, is_concrete}
use Rattle.jl_model.specs.Valid.{is_known}
use Rattle.jl_program.specs.declared.choice.Choice.{Choice}
use Rattle.jl_program.specs.declared.choice.Choice.TheVariants as C
use Rattle.jl_program.specs.declared.tree.Delete.{Delete}
use Rattle.jl_program.specs.declared.tree.Program.{Program}
use Rattle.jl_program.specs.declared.tree.Site.{Site}
use Rattle.jl_program.specs.Prelude.{prelude_count}
use Rattle.jl_program.specs.Scope.{all_types, types_of}
use Rattle.jl_program.specs.ValidValue.{IsValueType}
use Rattle.jl_calculus.specs.declared.history.Change.{Change}
use Rattle.jl_calculus.specs.declared.history.Event.{Event}
use Rattle.jl_calculus.specs.Definitions.{sig_of}
use Rattle.jl_calculus.specs.Ranges.{head_of_site, head_of_place, HeadTouches, ChangeTouches, Touches, Covers, MayBegin}
use Rattle.jl_calculus.specs.Words.{IsLastWorld}
use Rattle.jl_calculus.specs.World.{changes, change_at, site_in, world_of, Selects}
use Rattle.jl_calculus.proofs.GrowthLemmas.{changes_length}
use Rattle.jl_calculus.proofs.BetweenLemmas.{of_world}
use Rattle.jl_calculus.proofs.SelectLemmas.{selects_one}
use Rattle.jl_sig.specs.Readied.{sigs_of, place_sigs}
use Rattle.jl_match.specs.KeptRow.{AreConcrete}
use Rattle.jl_match.proofs.ArgumentTypes.{no_arguments}
use Rattle.jl_match.proofs.ComponentLemmas.{none_of}
use Rattle.jl_subsig.proofs.DefinitionLemmas.{sig_at}
use Rattle.jl_core.specs.declared.range.Range.{Range}
use Rattle.jl_core.specs.Flags.{IsTouching, AreFlags, IsFlagged, IsFirst, IsLast, IsRange}
use Rattle.jl_core.proofs.PickedLemmas.{flagged, change_flagged, flags_long}

-- ---- the types of a key

both : (a b : Bool) → a ≡ true → b ≡ true → (a && b) ≡ true
both true b p q = q
both false b p q = p

no_vars : (t : Ty) (ts : List Ty) → vars_in t ≡ [] → flat_map vars_in ts ≡ [] → flat_map vars_in (t ∷ ts) ≡ []
no_vars t ts p q = ap (λ xs. xs ++ flat_map vars_in ts) p ∙ q

pub concrete_all : (ds : List Decl) (ts : List Ty) → All (IsValueType ds) ts → AreConcrete ds ts
concrete_all ds [] h = no_arguments ds
concrete_all ds (t ∷ ts) h =
    let v = All-head (IsValueType ds) t ts h in
    let k = concrete_all ds ts (All-tail (IsValueType ds) t ts h) in
    record {
      normal = more t ts v.normal k.normal;
      known = both (is_known (length ds) t) (list_all (is_known (length ds)) ts) v.valid.known k.known;
      closed = no_vars t ts (none_of (vars_in t) v.closed) k.closed;
      concrete = both (is_concrete (table_of ds) opaque t) (list_all (is_concrete (table_of ds) opaque) ts) v.concrete k.concrete;
    }

-- ---- whether a change touches a key

-- over the table and the types as the code has them
pub applies_to : (P : Program) (key : Key) (w : Written) (table : List Decl) (types : List Ty) → table ≡ all_types P → types ≡ key.types → Applicable (table_of table) w types → Applicable (types_of P) w key.types
applies_to P key w table types t u a = subst (λ n. Applicable (table_of n) w key.types) t (subst (Applicable (table_of table) w) u a)

pub to_applies : (P : Program) (key : Key) (w : Written) (table : List Decl) (types : List Ty) → table ≡ all_types P → types ≡ key.types → Applicable (types_of P) w key.types → Applicable (table_of table) w types
to_applies P key w table types t u a = subst (Applicable (table_of table) w) (sym u) (subst (λ n. Applicable (table_of n) w key.types) (sym t) a)

got : {X : Type 0} (xs slice : List X) (k : ℕ) (x : X) → slice ≡ xs → k < length slice → x ≡ get_or slice k x → slice_get xs k ≡ Some x
got xs slice k x e l q = ap (λ ys. slice_get ys k) (sym e) ∙ slice_get_read slice (length slice) k x refl l q

place_at : (places : List Delete) (k : ℕ) (w : Written) (place : Delete) → slice_get (place_sigs places) k ≡ Some w → slice_get places k ≡ Some place → w ≡ place.sig
place_at [] k w place e at = cc
place_at (p ∷ places) zero w place e at = (let a : p.sig ≡ w = cc in let b : p ≡ place = cc in sym a ∙ ap (λ (x : Delete). x.sig) b)
place_at (p ∷ places) (suc k) w place e at = place_at places k w place e at

module _ (P : Program) (key : Key) (k : ℕ) (w : Written) (b : Bool) where
  pub site_touched : (found : Site) (slice : List Site) → slice ≡ P.sites → k < length slice → found ≡ get_or slice k found → slice_get (sigs_of P.sites) k ≡ Some w
      → IsTrue b ↔ ((found.function ≡ key.function) × Applicable (types_of P) w key.types) → IsTrue b ↔ HeadTouches P (head_of_site (slice_get P.sites k)) key
  site_touched found slice e l q s h =
      let at = got P.sites slice k found e l q in
      let same : w ≡ found.sig = sig_at P.sites k w s ∙ ap sig_of at in (
        λ t. subst (λ (o : Option Site). HeadTouches P (head_of_site o) key) (sym at) ((h.0 t).0, subst (λ (x : Written). Applicable (types_of P) x key.types) same (h.0 t).1),
        λ t.
            (let u = subst (λ (o : Option Site). HeadTouches P (head_of_site o) key) at t in
            h.1 (u.0, subst (λ (x : Written). Applicable (types_of P) x key.types) (sym same) u.1)),
      )

  pub place_touched : (found : Delete) (slice : List Delete) → slice ≡ P.deletes → k < length slice → found ≡ get_or slice k found → slice_get (place_sigs P.deletes) k ≡ Some w
      → IsTrue b ↔ ((found.function ≡ key.function) × Applicable (types_of P) w key.types) → IsTrue b ↔ HeadTouches P (head_of_place (slice_get P.deletes k)) key
  place_touched found slice e l q s h =
      let at = got P.deletes slice k found e l q in
      let same : w ≡ found.sig = place_at P.deletes k w found s at in (
        λ t. subst (λ (o : Option Delete). HeadTouches P (head_of_place o) key) (sym at) ((h.0 t).0, subst (λ (x : Written). Applicable (types_of P) x key.types) same (h.0 t).1),
        λ t.
            (let u = subst (λ (o : Option Delete). HeadTouches P (head_of_place o) key) at t in
            h.1 (u.0, subst (λ (x : Written). Applicable (types_of P) x key.types) (sym same) u.1)),
      )

-- ---- the row that the flags tell

module _ (P : Program) (es : List Event) (key : Key) (flags : List Bool) (w first last : ℕ) (h : AreFlags (IsTouching P key) (changes es) flags) (f : IsFirst flags w first) (l : IsLast flags w last) where
  -- the change that makes a world is flagged where it touches the key
  flag_of : (d : ℕ) → Touches P es (suc d) key → IsFlagged flags d
  flag_of d t = by (slice_get (changes es) d) refl t
    where
      by : (o : Option Change) → slice_get (changes es) d ≡ o → ChangeTouches P o key → IsFlagged flags d
      by None e u = absurd u
      by (Some c) e u = flagged (IsTouching P key) (changes es) flags d c h e u

  touch_of : (d : ℕ) → IsFlagged flags d → Touches P es (suc d) key
  touch_of d t = (let (c, e, q) = change_flagged (IsTouching P key) (changes es) flags d h t in subst (λ (o : Option Change). ChangeTouches P o key) (sym e) q)

  going : (d : ℕ) → first < d → d ≤ w → Touches P es d key → ⊥
  going zero low high t = absurd t
  going (suc d) low high t = f.going d (omega (arith, low)) (omega (arith, high)) (flag_of d t)

  pub range_covers : Covers P es key first w
  range_covers = record { begun = f.high; going = going }

  pub range_begins : MayBegin P es key first
  range_begins = by first refl f.begun
    where
      by : (n : ℕ) → first ≡ n → (first ≡ prelude_count) ⊎ ((prelude_count < first) × IsFlagged flags (first - 1)) → MayBegin P es key first
      by n e (inl q) = inl q
      by zero e (inr (low, t)) = absurd (omega (arith, low, e))
      by (suc n) e (inr (low, t)) =
          let k : first - 1 ≡ n = omega (arith, e) in
          inr (low, subst (λ m. Touches P es m key) (sym e) (touch_of n (subst (IsFlagged flags) k t)))

  later : (d : ℕ) → first < d → Touches P es d key → (w ≤ d - 1) × IsFlagged flags (d - 1)
  later zero low t = absurd t
  later (suc d) low t =
      let k : suc d - 1 ≡ d = omega arith in
      let m : d < w → ⊥ = λ b. f.going d (omega (arith, low)) b (flag_of d t) in
      (grind (arith, k, m), subst (IsFlagged flags) (sym k) (flag_of d t))

  pub range_last : IsLastWorld P es key first last
  range_last = by l
    where
      by : IsLast flags w last → IsLastWorld P es key first last
      by (inl (e, past)) = inl (e, λ d low t. (let k = later d low t in past (d - 1) k.0 k.1))
      by (inr (low, t, past)) = inr (record {
        covers = record { begun = omega (arith, f.high, low); going = λ d m n u. (let k = later d m u in past (d - 1) k.0 (omega (arith, m, n)) k.1) };
        touched = subst (λ m. Touches P es m key) (let q : suc last ≡ last + 1 = omega arith in q) (touch_of last t);
      })

change_is : (es : List Event) (made : List Change) (c : Change) (d : ℕ) → 1 ≤ d → made ≡ changes es → d - 1 < length made → c ≡ get_or made (d - 1) c → change_at es d ≡ Some c
change_is es made c zero k s low at = absurd (omega (arith, k))
change_is es made c (suc d) k s low at =
    let n : suc d - 1 ≡ d = omega arith in
    ap (slice_get (changes es)) (sym n) ∙ got (changes es) made (suc d - 1) c s low at

-- with the site of the choice in that world
pub range_told : (P : Program) (es : List Event) (key : Key) (flags : List Bool) (w : ℕ) (range : Range) (made : List Change) (c : Change) (d : ℕ) → AreFlags (IsTouching P key) (changes es) flags
    → IsFirst flags w range.first → IsLast flags w range.last → made ≡ changes es → Selects P es key.function key.types w (C.Method d) → d - 1 < length made → c ≡ get_or made (d - 1) c
    → range.site ≡ site_in (Some c) → IsRange P es key w range
range_told P es key flags w range made c d h f l s chosen low at e = record {
  begun = range_begins P es key flags w range.first range.last h f l;
  choice = (d, chosen, ap site_in (change_is es made c d (of_world P es key.function key.types w d chosen).0 s low at) ∙ sym e);
  covers = range_covers P es key flags w range.first range.last h f l;
  last = range_last P es key flags w range.first range.last h f l;
}

pub method_bounds : (P : Program) (es : List Event) (f : ℕ) (ts : List Ty) (w d : ℕ) → Selects P es f ts w (C.Method d) → (1 ≤ d) × (d ≤ w)
method_bounds P es f ts w d c = of_world P es f ts w d c

pub no_method : (P : Program) (es : List Event) (key : Key) (w : ℕ) (c : Choice) → Selects P es key.function key.types w c → ((d : ℕ) → c ≡ C.Method d → ⊥) → (d : ℕ) → Selects P es key.function key.types w (C.Method d) → ⊥
no_method P es key w c s n d t = n d (selects_one P es key.function key.types w c (C.Method d) s t)

-- what is chosen, as the code has found it
pub chosen : (P : Program) (es : List Event) (key : Key) (w : ℕ) (choice : Choice) (made slice : List Change) → slice ≡ made → made ≡ changes es
    → ((fs : List Event) → changes fs ≡ slice → Selects P fs key.function key.types w choice) → Selects P es key.function key.types w choice
chosen P es key w choice made slice s e k = k es (sym (s ∙ e))

pub chosen_method : (P : Program) (es : List Event) (key : Key) (w : ℕ) (choice : Choice) (method : ℕ) → choice ≡ C.Method method → Selects P es key.function key.types w choice → Selects P es key.function key.types w (C.Method method)
chosen_method P es key w choice method e s = subst (λ (c : Choice). Selects P es key.function key.types w c) e s

pub flags_there : (P : Program) (es : List Event) (key : Key) (made slice : List Change) (flags flagged : List Bool) → slice ≡ made → made ≡ changes es → flagged ≡ flags → AreFlags (IsTouching P key) slice flags
    → AreFlags (IsTouching P key) (changes es) flagged
flags_there P es key made slice flags flagged s e f h = subst (λ xs. AreFlags (IsTouching P key) xs flagged) (s ∙ e) (subst (AreFlags (IsTouching P key) slice) (sym f) h)

pub flags_count : (P : Program) (es : List Event) (key : Key) (flagged : List Bool) → AreFlags (IsTouching P key) (changes es) flagged → length flagged ≡ world_of es
flags_count P es key flagged h = flags_long (IsTouching P key) (changes es) flagged h ∙ changes_length es
