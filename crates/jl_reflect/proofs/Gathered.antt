-- The choices that are gathered along the events: what one more event makes of them.
use Rattle.std.proofs.Common.{◌≡◌, ◌∙◌, ap, sym, refl, subst, arith, ℕ, zero, suc, ◌<◌, ◌≤◌, ◌+◌, List, [], ◌∷◌, ◌++◌, length, get_or, slice_get, take, append-nil, Option, None, Some}
use Rattle.std.specs.List.{All, Contains}
use Rattle.std.specs.List.Sorted.{IsStrictlyIncreasing}
use Rattle.std.proofs.lemmas.List.{get_or_append_left, get_or_push, length_push, map_push, take-append-le}
use Rattle.std.proofs.lemmas.List.Elements.{All-push, Contains-append_left, Contains-push}
use Rattle.jl_model.specs.declared.ty.Key.{Key}
use Rattle.jl_program.specs.declared.tree.Program.{Program}
use Rattle.jl_program.specs.Prelude.{prelude_count}
use Rattle.jl_calculus.specs.declared.history.Change.{Change}
use Rattle.jl_calculus.specs.declared.history.Event.{Event}
use Rattle.jl_calculus.specs.declared.history.Event.TheVariants as Ev
use Rattle.jl_calculus.specs.Ranges.{Touches}
use Rattle.jl_calculus.specs.World.{changed, changes, change_at, world_of, Selects}
use Rattle.jl_calculus.proofs.GrowthLemmas.{changes_append, changes_length}
use Rattle.jl_reflect.specs.declared.choices.Chosen.{Chosen}
use Rattle.jl_reflect.specs.Chosen.{change_in, worlds, AreChosenUpTo}
use Rattle.jl_reflect.proofs.Constant.{worlds_length}
use Rattle.jl_reflect.proofs.Tight.{Beside, lower, same, upper, beside}

-- ---- the changes of events up to one of them

abbrev of_one : Option Change → List Change
of_one None = []
of_one (Some c) = c ∷ []

one_changed : (e : Event) → changed (e ∷ []) ≡ of_one (change_in e)
one_changed (Ev.Def task site) = refl
one_changed (Ev.Del task place) = refl
one_changed (Ev.Begin fuel) = refl
one_changed (Ev.Key key) = refl
one_changed (Ev.Fill key site first) = refl
one_changed (Ev.Spawn task child start) = refl
one_changed (Ev.Done task ended) = refl

more_changes : (p : List Event) (e : Event) (o : Option Change) → change_in e ≡ o → changes (p ++ e ∷ []) ≡ changes p ++ of_one o
more_changes p e o q = changes_append p (e ∷ []) ∙ ap (λ xs. changes p ++ xs) (one_changed e ∙ ap of_one q)

pub no_change : (p : List Event) (e : Event) → change_in e ≡ None → changes (p ++ e ∷ []) ≡ changes p
no_change p e q = more_changes p e None q ∙ append-nil (changes p)

pub one_change : (p : List Event) (e : Event) (c : Change) → change_in e ≡ Some c → changes (p ++ e ∷ []) ≡ changes p ++ c ∷ []
one_change p e c q = more_changes p e (Some c) q

world_is : (p : List Event) (cs : List Change) → changes p ≡ cs → length cs ≡ world_of p
world_is p cs e = ap (λ xs. length xs) (sym e) ∙ changes_length p

pub same_world : (p : List Event) (e : Event) → change_in e ≡ None → world_of (p ++ e ∷ []) ≡ world_of p
same_world p e q = sym (world_is (p ++ e ∷ []) (changes p) (no_change p e q)) ∙ changes_length p

pub next_world : (p : List Event) (e : Event) (c : Change) → change_in e ≡ Some c → world_of (p ++ e ∷ []) ≡ world_of p + 1
next_world p e c q = sym (world_is (p ++ e ∷ []) (changes p ++ c ∷ []) (one_change p e c q)) ∙ length_push (changes p) c ∙ ap (λ n. n + 1) (changes_length p)

-- up to a world that is there the changes are those of all events
pub first_changes : (p more : List Event) (w : ℕ) → w ≤ world_of p → take w (changes (p ++ more)) ≡ take w (changes p)
first_changes p more w l = ap (take w) (changes_append p more) ∙ take-append-le w (changes p) (changed more) (omega (arith, l, changes_length p))

get_next : (xs ys : List Change) (c : Change) → slice_get ((xs ++ c ∷ []) ++ ys) (length xs) ≡ Some c
get_next [] ys c = refl
get_next (x ∷ xs) ys c = get_next xs ys c

-- the change that made the next world
pub change_next : (p more : List Event) (e : Event) (c : Change) → change_in e ≡ Some c → change_at ((p ++ e ∷ []) ++ more) (suc (world_of p)) ≡ Some c
change_next p more e c q =
    ap (λ xs. slice_get xs (world_of p)) (changes_append (p ++ e ∷ []) more ∙ ap (λ xs. xs ++ changed more) (one_change p e c q))
    ∙ subst (λ n. slice_get ((changes p ++ c ∷ []) ++ changed more) n ≡ Some c) (changes_length p) (get_next (changes p) (changed more) c)

-- ---- one more world

pub rising_push : (xs : List ℕ) (x : ℕ) → IsStrictlyIncreasing xs → All (λ w. w < x) xs → IsStrictlyIncreasing (xs ++ x ∷ [])
rising_push xs x h below k l = by (beside (k + 1) (length xs))
  where
    long : length (xs ++ x ∷ []) ≡ length xs + 1
    long = length_push xs x

    by : Beside (k + 1) (length xs) → get_or (xs ++ x ∷ []) k 0 < get_or (xs ++ x ∷ []) (k + 1) 0
    by (lower m) =
        let a = get_or_append_left xs (x ∷ []) 0 k (omega (arith, m)) in
        let b = get_or_append_left xs (x ∷ []) 0 (k + 1) m in
        let z = h k m in omega (arith, a, b, z)
    by (same e) =
        let a = get_or_append_left xs (x ∷ []) 0 k (omega (arith, e)) in
        let b = get_or_push xs x 0 (k + 1) (sym e) in
        let z = below k 0 (omega (arith, e)) in omega (arith, a, b, z)
    by (upper m) = absurd (omega (arith, m, l, long))

module _ (P : Program) (es : List Event) (key : Key) (newest : ℕ) (all : List Chosen) (h : AreChosenUpTo P es key newest all) where
  -- a change that does not touch the key
  pub passed : (next : ℕ) → next ≡ newest + 1 → (Touches P es (suc newest) key → ⊥) → AreChosenUpTo P es key next all
  passed next e n = record {
    begins = h.begins;
    first = h.first;
    ordered = h.ordered;
    within = λ k d l. (let z = h.within k d l in (z.0, omega (arith, z.1, e)));
    selected = h.selected;
    whole = λ d low up t. by d low up t (beside d (suc newest));
  }
    where
      by : (d : ℕ) → prelude_count < d → d ≤ next → Touches P es d key → Beside d (suc newest) → Contains (worlds all) d
      by d low up t (lower m) = h.whole d low (omega (arith, m)) t
      by d low up t (same m) = absurd (n (subst (λ k. Touches P es k key) m t))
      by d low up t (upper m) = absurd (omega (arith, m, up, e))

  -- one that touches it, with the choice in the world that it made
  pub chosen_next : (c : Chosen) → c.world ≡ newest + 1 → prelude_count ≤ newest → Selects P es key.function key.types c.world c.choice → AreChosenUpTo P es key c.world (all ++ c ∷ [])
  chosen_next c e there s =
      let more : worlds (all ++ c ∷ []) ≡ worlds all ++ c.world ∷ [] = map_push (λ (x : Chosen). x.world) all c in
      let start = h.begins in
      record {
        begins = omega (arith, start, length_push all c);
        first = ap (λ xs. get_or xs 0 0) more ∙ get_or_append_left (worlds all) (c.world ∷ []) 0 0 (omega (arith, start, worlds_length all)) ∙ h.first;
        ordered = subst IsStrictlyIncreasing (sym more) (rising_push (worlds all) c.world h.ordered (λ k d l. (let z = h.within k d l in omega (arith, z.1, e))));
        within = subst (All (λ w. (prelude_count ≤ w) × (w ≤ c.world))) (sym more)
            (All-push (λ w. (prelude_count ≤ w) × (w ≤ c.world)) (worlds all) c.world (λ k d l. (let z = h.within k d l in (z.0, omega (arith, z.1, e)))) (omega (arith, e, there), omega arith));
        selected = All-push (λ (x : Chosen). Selects P es key.function key.types x.world x.choice) all c h.selected s;
        whole = λ d low up t. subst (λ xs. Contains xs d) (sym more) (by d low up t (beside d c.world));
      }
    where
      by : (d : ℕ) → prelude_count < d → d ≤ c.world → Touches P es d key → Beside d c.world → Contains (worlds all ++ c.world ∷ []) d
      by d low up t (lower m) = Contains-append_left (worlds all) (c.world ∷ []) d (h.whole d low (omega (arith, m, e)) t)
      by d low up t (same m) = subst (λ k. Contains (worlds all ++ c.world ∷ []) k) (sym m) (Contains-push (worlds all) c.world)
      by d low up t (upper m) = absurd (omega (arith, m, up))

-- before any event of a script the choice is that in the world in which it begins
pub first_chosen : (P : Program) (es : List Event) (key : Key) (c : Chosen) → c.world ≡ prelude_count → Selects P es key.function key.types c.world c.choice → AreChosenUpTo P es key prelude_count (c ∷ [])
first_chosen P es key c e s = record {
  begins = omega arith;
  first = e;
  ordered = λ k l. absurd (omega (arith, l));
  within = λ k d l. by k d l;
  selected = λ k d l. chosen k d l;
  whole = λ d low up t. absurd (omega (arith, low, up));
}
  where
    by : (k d : ℕ) → k < 1 → (prelude_count ≤ get_or (c.world ∷ []) k d) × (get_or (c.world ∷ []) k d ≤ prelude_count)
    by zero d l = (omega (arith, e), omega (arith, e))
    by (suc k) d l = absurd (omega (arith, l))

    chosen : (k : ℕ) (d : Chosen) → k < 1 → Selects P es key.function key.types (get_or (c ∷ []) k d).world (get_or (c ∷ []) k d).choice
    chosen zero d l = s
    chosen (suc k) d l = absurd (omega (arith, l))
