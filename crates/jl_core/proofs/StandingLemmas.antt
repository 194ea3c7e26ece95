-- What stands, by the flagged definitions and deletions.
use Rattle.std.proofs.Common.{◌≡◌, ◌∙◌, ap, sym, subst, refl, ℕ, zero, suc, ◌<◌, ◌↔◌, arith, Bool, IsTrue, List, [], ◌∷◌, length, take, slice_get, Option, None, Some}
use Rattle.std.specs.Bool.{Decides}
use Rattle.std.specs.List.{Contains}
use Rattle.std.proofs.Math.Seq.{take-length}
use Rattle.jl_model.specs.declared.ty.Key.{Key}
use Rattle.jl_model.specs.declared.ty.Ty.{Ty}
use Rattle.jl_model.specs.declared.ty.Written.{Written}
use Rattle.jl_model.specs.Choice.{Method}
use Rattle.jl_model.specs.Signature.{Applicable, SameSignature}
use Rattle.jl_program.specs.declared.choice.Choice.{Choice}
use Rattle.jl_program.specs.declared.tree.Delete.{Delete}
use Rattle.jl_program.specs.declared.tree.Program.{Program}
use Rattle.jl_program.specs.declared.tree.Site.{Site}
use Rattle.jl_program.specs.Scope.{types_of}
use Rattle.jl_program.specs.Valid.{IsValid}
use Rattle.jl_calculus.specs.declared.history.Change.{Change}
use Rattle.jl_calculus.specs.declared.history.Change.TheVariants as Ch
use Rattle.jl_calculus.specs.declared.history.Def.{Def}
use Rattle.jl_calculus.specs.declared.history.Del.{Del}
use Rattle.jl_calculus.specs.declared.history.Event.{Event}
use Rattle.jl_calculus.specs.Definitions.{sig_of, method_of, HasSite, AppliesTo, defs_in, IsStanding}
use Rattle.jl_calculus.specs.Legal.{IsKeyOf}
use Rattle.jl_calculus.specs.Ranges.{Head, head_of, head_of_site, head_of_place, HeadTouches, ChangeTouches}
use Rattle.jl_calculus.specs.World.{changes, change_at, world_of, PlaceDeletes, Deletes, Selects, HasMethodAt, FindsMethod}
use Rattle.jl_calculus.proofs.GrowthLemmas.{changes_length}
use Rattle.jl_calculus.proofs.MethodLemmas.{standing_method, method_standing}
use Rattle.jl_calculus.proofs.StandingLemmas.{stands_by_touching}
use Rattle.jl_subsig.specs.Side.{Every}
use Rattle.jl_subsig.specs.Standing.{sig_of_place, HasPlace, IsLeft, HaveLatest, ChoosesLeft, HasLeftAt}
use Rattle.jl_subsig.proofs.StandingChoice.{left_selects}
use Rattle.jl_core.specs.Flags.{IsTouching, HeadIsOf, IsOfFunction, AreFlags, def_in, del_in, picked}
use Rattle.jl_core.proofs.PickedLemmas.{defs_made, made_defs, flags_long, def_flagged, del_flagged, defs_by, dels_by, def_told, del_told, def_there, del_there}

-- ---- what touches a key is of its function and applies

touching_parts : (P : Program) (key : Key) (o : Option Site) → HeadTouches P (head_of_site o) key → HeadIsOf (head_of_site o) key.function × Applicable (types_of P) (sig_of o) key.types
touching_parts P key None t = absurd t
touching_parts P key (Some site) t = t

parts_touch : (P : Program) (key : Key) (o : Option Site) → HeadIsOf (head_of_site o) key.function → Applicable (types_of P) (sig_of o) key.types → HeadTouches P (head_of_site o) key
parts_touch P key None q a = absurd q
parts_touch P key (Some site) q a = (q, a)

head_function : (P : Program) (key : Key) (o : Option Head) → HeadTouches P o key → HeadIsOf o key.function
head_function P key None t = absurd t
head_function P key (Some h) t = t.0

pub of_function : (P : Program) (key : Key) (c : Change) → IsTouching P key c → IsOfFunction P key.function c
of_function P key c t = head_function P key (head_of P c) t

-- ---- what takes a definition away

deletes_made : (P : Program) (f : ℕ) (sig : Written) (o : Option Delete) → HeadIsOf (head_of_place o) f → SameSignature (types_of P) sig (sig_of_place o) → PlaceDeletes P o f sig
deletes_made P f sig None q s = absurd q
deletes_made P f sig (Some place) q s = (q, s)

deletes_parts : (P : Program) (f : ℕ) (sig : Written) (o : Option Delete) → PlaceDeletes P o f sig → HeadIsOf (head_of_place o) f × SameSignature (types_of P) sig (sig_of_place o)
deletes_parts P f sig None d = absurd d
deletes_parts P f sig (Some place) (q, s) = (q, s)

-- a change that deletes is a deletion of the function, of the same signature
record IsDeletionOf (P : Program) (f : ℕ) (sig : Written) (o : Option Change) : Type 0 where
  place : ℕ
  is : o ≡ Some (Ch.Del place)
  function : HeadIsOf (head_of_place (slice_get P.deletes place)) f
  same : SameSignature (types_of P) sig (sig_of_place (slice_get P.deletes place))

is_deletion : (P : Program) (f : ℕ) (sig : Written) (o : Option Change) → Deletes P o f sig → IsDeletionOf P f sig o
is_deletion P f sig None d = absurd d
is_deletion P f sig (Some (Ch.Def site)) d = absurd d
is_deletion P f sig (Some (Ch.Del place)) d =
    let k = deletes_parts P f sig (slice_get P.deletes place) d in
    record { place = place; is = refl; function = k.0; same = k.1 }

-- ---- lists

every_of : {X : Type 0} (Is : X → Type 0) (xs : List X) → ((x : X) → Contains xs x → Is x) → Every Is xs
every_of Is [] h = tt
every_of Is (x ∷ xs) h = (h x (0, omega arith, refl), every_of Is xs (λ y c. h y (suc c.0, omega (arith, c.1), c.2)))

site_there : (sites : List Site) (s f : ℕ) → HeadIsOf (head_of_site (slice_get sites s)) f → s < length sites
site_there [] s f q = absurd q
site_there (x ∷ sites) zero f q = omega arith
site_there (x ∷ sites) (suc s) f q = omega (arith, site_there sites s f q)

place_there : (places : List Delete) (s f : ℕ) → HeadIsOf (head_of_place (slice_get places s)) f → s < length places
place_there [] s f q = absurd q
place_there (x ∷ places) zero f q = omega arith
place_there (x ∷ places) (suc s) f q = omega (arith, place_there places s f q)

-- the flagged definitions are of sites of the program, and the deletions of its places, where only changes of a function are flagged
module _ (P : Program) (f : ℕ) (Q : Change → Type 0) (of : (c : Change) → Q c → IsOfFunction P f c) (cs : List Change) (flags : List Bool) (h : AreFlags Q cs flags) where
  pub flagged_sites : Every (HasSite P) (picked def_in 1 cs flags)
  flagged_sites = every_of (HasSite P) (picked def_in 1 cs flags) (λ d i. site_there P.sites d.site f (of (Ch.Def d.site) (def_flagged Q cs flags h d i)))

  pub flagged_places : Every (HasPlace P) (picked del_in 1 cs flags)
  flagged_places = every_of (HasPlace P) (picked del_in 1 cs flags) (λ e i. place_there P.deletes e.place f (of (Ch.Del e.place) (del_flagged Q cs flags h e i)))

-- ---- the choice for a key

module _ (P : Program) (valid : IsValid P) (key : Key) (proper : IsKeyOf P key) (es : List Event) (w : ℕ) (flags : List Bool) (h : AreFlags (IsTouching P key) (changes es) flags) where
  abbrev defs : List Def
  defs = defs_by (IsTouching P key) es w flags h

  abbrev dels : List Del
  dels = dels_by (IsTouching P key) es w flags h

  pub touching_def : (d : Def) → Contains defs d → Contains (defs_in P es key.function w) d × AppliesTo P key.types d
  touching_def d i =
      let k = def_told (IsTouching P key) es w flags h d i in
      let t = touching_parts P key (slice_get P.sites d.site) k.1 in
      (made_defs P key.function es w d k.0 t.0, t.1)

  def_touching : (d : Def) → Contains (defs_in P es key.function w) d → AppliesTo P key.types d → Contains defs d
  def_touching d i a =
      let k = defs_made P key.function es w d i in
      def_there (IsTouching P key) es w flags h d k.0 (parts_touch P key (slice_get P.sites d.site) k.1 a)

  -- those that are left are those that stand
  left_stands : (d : Def) → AppliesTo P key.types d → Contains defs d → IsLeft P dels d → IsStanding P es key.function w d
  left_stands d a i left =
      stands_by_touching P valid es key proper w d (touching_def d i).0 a
      (λ e low high t del.
      (let k = is_deletion P key.function (sig_of (slice_get P.sites d.site)) (change_at es e) del in
      left (record { world = e; place = k.place })
      (del_there (IsTouching P key) es w flags h e k.place (record { at = k.is; high = high }) (subst (λ o. ChangeTouches P o key) k.is t))
      (record { later = low; same = k.same })))

  stands_left : (d : Def) → IsStanding P es key.function w d → IsLeft P dels d
  stands_left d s e i t =
      let k = del_told (IsTouching P key) es w flags h e i in
      let m = k.0 in
      s.kept e.world t.later m.high
      (subst (λ o. Deletes P o key.function (sig_of (slice_get P.sites d.site))) (sym m.at)
      (deletes_made P key.function (sig_of (slice_get P.sites d.site)) (slice_get P.deletes e.place) (of_function P key (Ch.Del e.place) k.1) t.same))

  -- what is chosen among those that are left is the choice
  pub standing_select : (c : Choice) → ((ts : List Ty) → Every (AppliesTo P ts) defs → (all : List Def) → HaveLatest P ts all defs → ChoosesLeft P dels ts all c) → Selects P es key.function key.types w c
  standing_select c k =
      left_selects P es key.function w dels key.types (λ d i a left. (left_stands d a (def_touching d i a) left).kept) (λ d i a kept. stands_left d (record { made = i; kept = kept })) c
      (k key.types (every_of (AppliesTo P key.types) defs (λ d i. (touching_def d i).1)) (defs_in P es key.function w)
      (record { there = λ d i. (touching_def d i).0; covered = λ d i a. record { by = d; stays = def_touching d i a; site_is = refl; later = omega arith } }))

-- as the code has found them
pub choice_told : (P : Program) → IsValid P → (key : Key) → IsKeyOf P key → (es : List Event) (made : List Change) (flags : List Bool) (w : ℕ) (those slice : List Def) (taken gone : List Del) (c : Choice) → AreFlags (IsTouching P key) made flags
    → those ≡ picked def_in 1 (take w made) (take w flags) → slice ≡ those → taken ≡ picked del_in 1 (take w made) (take w flags) → gone ≡ taken
    → ((ts : List Ty) → Every (AppliesTo P ts) slice → (all : List Def) → HaveLatest P ts all slice → ChoosesLeft P gone ts all c) → changes es ≡ made → Selects P es key.function key.types w c
choice_told P valid key proper es made flags w those slice taken gone c h p s q g k e =
    let flags_now : AreFlags (IsTouching P key) (changes es) flags = subst (λ xs. AreFlags (IsTouching P key) xs flags) (sym e) h in
    let one : slice ≡ picked def_in 1 (take w (changes es)) (take w flags) = s ∙ p ∙ ap (λ xs. picked def_in 1 (take w xs) (take w flags)) (sym e) in
    let two : gone ≡ picked del_in 1 (take w (changes es)) (take w flags) = g ∙ q ∙ ap (λ xs. picked del_in 1 (take w xs) (take w flags)) (sym e) in
    standing_select P valid key proper es w flags flags_now c
    (subst (λ xs. (ts : List Ty) → Every (AppliesTo P ts) xs → (all : List Def) → HaveLatest P ts all xs → ChoosesLeft P (picked del_in 1 (take w (changes es)) (take w flags)) ts all c) one
    (subst (λ ys. (ts : List Ty) → Every (AppliesTo P ts) slice → (all : List Def) → HaveLatest P ts all slice → ChoosesLeft P ys ts all c) two k))

-- ---- whether a deletion finds a method

module _ (P : Program) (place : ℕ) (found : Delete) (there : slice_get P.deletes place ≡ Some found) (es : List Event) (flags : List Bool) (h : AreFlags (IsOfFunction P found.function) (changes es) flags) where
  abbrev now : ℕ
  now = world_of es

  abbrev its_defs : List Def
  its_defs = defs_by (IsOfFunction P found.function) es now flags h

  abbrev its_dels : List Del
  its_dels = dels_by (IsOfFunction P found.function) es now flags h

  left_found : (d : Def) → Contains its_defs d → IsLeft P its_dels d → IsStanding P es found.function now d
  left_found d i left = record {
    made = (let k = def_told (IsOfFunction P found.function) es now flags h d i in made_defs P found.function es now d k.0 k.1);
    kept = λ e low high del.
        (let k = is_deletion P found.function (sig_of (slice_get P.sites d.site)) (change_at es e) del in
        left (record { world = e; place = k.place }) (del_there (IsOfFunction P found.function) es now flags h e k.place (record { at = k.is; high = high }) k.function)
        (record { later = low; same = k.same }));
  }

  found_left : (d : Def) → IsStanding P es found.function now d → IsLeft P its_dels d
  found_left d s e i t =
      let k = del_told (IsOfFunction P found.function) es now flags h e i in
      let m = k.0 in
      s.kept e.world t.later m.high
      (subst (λ o. Deletes P o found.function (sig_of (slice_get P.sites d.site))) (sym m.at)
      (deletes_made P found.function (sig_of (slice_get P.sites d.site)) (slice_get P.deletes e.place) k.1 t.same))

  finds : HasLeftAt P its_dels its_defs place → FindsMethod P es place
  finds k =
      subst (HasMethodAt P es now) (sym there)
      (method_of P k.def, standing_method P es found.function now k.def (left_found k.def k.stands k.is_left), subst (λ o. SameSignature (types_of P) (sig_of (slice_get P.sites k.def.site)) (sig_of_place o)) there k.same)

  has_found : HasMethodAt P es now (Some found) → HasLeftAt P its_dels its_defs place
  has_found (m, s, same) =
      let (d, k, q) = method_standing P es found.function now m s in
      let i = defs_made P found.function es now d k.made in
      record {
        def = d;
        stands = def_there (IsOfFunction P found.function) es now flags h d i.0 i.1;
        is_left = found_left d k;
        same = subst (λ o. SameSignature (types_of P) (sig_of (slice_get P.sites d.site)) (sig_of_place o)) (sym there) (subst (λ (z : Method). SameSignature (types_of P) z.sig found.sig) (sym q) same);
      }

  pub found_where : HasLeftAt P its_dels its_defs place ↔ FindsMethod P es place
  found_where = (λ k. finds k, λ k. has_found (subst (HasMethodAt P es now) there k))

-- as the code has found it
pub found_told : (P : Program) (place : ℕ) (found : Delete) → slice_get P.deletes place ≡ Some found → (es : List Event) (made : List Change) (flags : List Bool) (those slice : List Def) (taken gone : List Del) (b : Bool) → made ≡ changes es
    → AreFlags (IsOfFunction P found.function) made flags → those ≡ picked def_in 1 made flags → slice ≡ those → taken ≡ picked del_in 1 made flags → gone ≡ taken
    → Decides b (HasLeftAt P gone slice place) → IsTrue b ↔ FindsMethod P es place
found_told P place found there es made flags those slice taken gone b e h p s q g k =
    let flags_now : AreFlags (IsOfFunction P found.function) (changes es) flags = subst (λ xs. AreFlags (IsOfFunction P found.function) xs flags) e h in
    let all_changes : take (world_of es) (changes es) ≡ changes es = ap (λ n. take n (changes es)) (sym (changes_length es)) ∙ take-length (changes es) in
    let all_flags : take (world_of es) flags ≡ flags =
    ap (λ n. take n flags) (sym (flags_long (IsOfFunction P found.function) (changes es) flags flags_now ∙ changes_length es)) ∙ take-length flags in
    let one : slice ≡ picked def_in 1 (take (world_of es) (changes es)) (take (world_of es) flags) =
    s ∙ p ∙ ap (λ xs. picked def_in 1 xs flags) (e ∙ sym all_changes) ∙ ap (λ bs. picked def_in 1 (take (world_of es) (changes es)) bs) (sym all_flags) in
    let two : gone ≡ picked del_in 1 (take (world_of es) (changes es)) (take (world_of es) flags) =
    g ∙ q ∙ ap (λ xs. picked del_in 1 xs flags) (e ∙ sym all_changes) ∙ ap (λ bs. picked del_in 1 (take (world_of es) (changes es)) bs) (sym all_flags) in
    let (to, from) = found_where P place found there es flags flags_now in
    let left : HasLeftAt P gone slice place → HasLeftAt P (picked del_in 1 (take (world_of es) (changes es)) (take (world_of es) flags)) (picked def_in 1 (take (world_of es) (changes es)) (take (world_of es) flags)) place =
    λ x. subst (λ ys. HasLeftAt P ys (picked def_in 1 (take (world_of es) (changes es)) (take (world_of es) flags)) place) two (subst (λ xs. HasLeftAt P gone xs place) one x) in
    let back : HasLeftAt P (picked del_in 1 (take (world_of es) (changes es)) (take (world_of es) flags)) (picked def_in 1 (take (world_of es) (changes es)) (take (world_of es) flags)) place → HasLeftAt P gone slice place =
    λ x. subst (λ xs. HasLeftAt P gone xs place) (sym one) (subst (λ ys. HasLeftAt P ys (picked def_in 1 (take (world_of es) (changes es)) (take (world_of es) flags)) place) (sym two) x) in
    (λ t. to (left (k.0 t)), λ f. k.1 (back (from f)))
