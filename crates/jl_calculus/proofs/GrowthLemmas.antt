-- What holds of a list of events holds of each list that goes on from it.
use Rattle.std.proofs.Common.{◌≡◌, ◌∙◌, ap, sym, subst, refl, ℕ, zero, suc, ◌-◌, ◌<◌, ◌≤◌, ◌⊎◌, inl, inr, arith, List, [], ◌∷◌, ◌++◌, length, map, take, drop, take-append-drop, get_or, slice_get, append_assoc, length-append, Option, None, Some}
use Rattle.std.specs.List.{Contains}
use Rattle.std.proofs.lemmas.List.{take-append-le, get_or_append_left}
use Rattle.jl_model.specs.declared.ty.Ty.{Ty}
use Rattle.jl_model.specs.declared.ty.Key.{Key}
use Rattle.jl_model.specs.Choice.{Method}
use Rattle.jl_program.specs.declared.choice.Choice.{Choice}
use Rattle.jl_program.specs.declared.choice.Choice.TheVariants as C
use Rattle.jl_program.specs.declared.tree.Program.{Program}
use Rattle.jl_program.specs.Chooses.{Chooses}
use Rattle.jl_program.specs.Prelude.{prelude_numbers}
use Rattle.jl_program.specs.Scope.{types_of}
use Rattle.jl_calculus.specs.declared.history.Change.{Change}
use Rattle.jl_calculus.specs.declared.history.Change.TheVariants as Ch
use Rattle.jl_calculus.specs.declared.history.Event.{Event}
use Rattle.jl_calculus.specs.declared.history.Event.TheVariants as Ev
use Rattle.jl_calculus.specs.declared.history.TraceItem.{TraceItem}
use Rattle.jl_calculus.specs.declared.history.TraceItem.TheVariants.{Look, Def, Del, Spawn, Fetch, WorldFull, TaskFull, Absent}
use Rattle.jl_calculus.specs.Kept.{Places, IsInCache, IsKeptFor, Keeps}
use Rattle.jl_calculus.specs.Learnt.{Learnt, traced, named, answered, chosen, uncovered, kept, IsNamed, IsChosen, IsUncovered, IsLearntOf}
use Rattle.jl_calculus.specs.Past.{tasks_of, done_of, EndedSo, IsAbsent, IsTrueOf}
use Rattle.jl_calculus.specs.Ranges.{CacheRow, keys_of, rows_of, ChangeTouches, Touches, Covers, IsCovered}
use Rattle.jl_calculus.specs.World.{changed, changes, change_at, site_in, site_of, world_of, methods_from, methods_made, Deletes, Stands, Selects}

-- ---- lists

pub get_more : {X : Type 0} (xs ys : List X) (k : ℕ) (x : X) → slice_get xs k ≡ Some x → slice_get (xs ++ ys) k ≡ Some x
get_more [] ys k x h = cc
get_more (y ∷ xs) ys zero x h = h
get_more (y ∷ xs) ys (suc k) x h = get_more xs ys k x h

pub get_same : {X : Type 0} (xs ys : List X) (k : ℕ) → k < length xs → slice_get (xs ++ ys) k ≡ slice_get xs k
get_same [] ys k l = absurd (omega (arith, l))
get_same (y ∷ xs) ys zero l = refl
get_same (y ∷ xs) ys (suc k) l = get_same xs ys k (omega (arith, l))

pub contains_more : {X : Type 0} (xs ys : List X) (x : X) → Contains xs x → Contains (xs ++ ys) x
contains_more xs ys x (k, l, e) = (k, omega (arith, l, length-append xs ys), get_or_append_left xs ys x k l ∙ e)

pub changed_append : (es more : List Event) → changed (es ++ more) ≡ changed es ++ changed more
changed_append [] more = refl
changed_append (Ev.Def task site ∷ es) more = ap (λ (xs : List Change). Ch.Def site ∷ xs) (changed_append es more)
changed_append (Ev.Del task place ∷ es) more = ap (λ (xs : List Change). Ch.Del place ∷ xs) (changed_append es more)
changed_append (Ev.Begin fuel ∷ es) more = changed_append es more
changed_append (Ev.Key key ∷ es) more = changed_append es more
changed_append (Ev.Fill key site first ∷ es) more = changed_append es more
changed_append (Ev.Spawn task child start ∷ es) more = changed_append es more
changed_append (Ev.Done task ended ∷ es) more = changed_append es more

pub keys_append : (es more : List Event) → keys_of (es ++ more) ≡ keys_of es ++ keys_of more
keys_append [] more = refl
keys_append (Ev.Key key ∷ es) more = ap (λ xs. key ∷ xs) (keys_append es more)
keys_append (Ev.Begin fuel ∷ es) more = keys_append es more
keys_append (Ev.Def task site ∷ es) more = keys_append es more
keys_append (Ev.Del task place ∷ es) more = keys_append es more
keys_append (Ev.Fill key site first ∷ es) more = keys_append es more
keys_append (Ev.Spawn task child start ∷ es) more = keys_append es more
keys_append (Ev.Done task ended ∷ es) more = keys_append es more

pub rows_append : (es more : List Event) → rows_of (es ++ more) ≡ rows_of es ++ rows_of more
rows_append [] more = refl
rows_append (Ev.Fill key site first ∷ es) more = ap (λ (xs : List CacheRow). record { key = key; site = site; first = first } ∷ xs) (rows_append es more)
rows_append (Ev.Begin fuel ∷ es) more = rows_append es more
rows_append (Ev.Key key ∷ es) more = rows_append es more
rows_append (Ev.Def task site ∷ es) more = rows_append es more
rows_append (Ev.Del task place ∷ es) more = rows_append es more
rows_append (Ev.Spawn task child start ∷ es) more = rows_append es more
rows_append (Ev.Done task ended ∷ es) more = rows_append es more

-- ---- worlds and choices

pub changes_append : (es more : List Event) → changes (es ++ more) ≡ changes es ++ changed more
changes_append es more = ap (λ (xs : List Change). map Ch.Def prelude_numbers ++ xs) (changed_append es more) ∙ sym (append_assoc (map Ch.Def prelude_numbers) (changed es) (changed more))

pub changes_length : (es : List Event) → length (changes es) ≡ world_of es
changes_length es = length-append (map Ch.Def prelude_numbers) (changed es)

pub world_more : (es more : List Event) → world_of es ≤ world_of (es ++ more)
world_more es more = omega (arith, ap length (changed_append es more), length-append (changed es) (changed more))

pub get_known : {X : Type 0} (xs : List X) (k : ℕ) (x : X) → slice_get xs k ≡ Some x → k < length xs
get_known [] k x h = cc
get_known (y ∷ xs) zero x h = omega arith
get_known (y ∷ xs) (suc k) x h = omega (arith, get_known xs k x h)

-- a change that is there has a world
pub change_known : (es : List Event) (d : ℕ) (c : Change) → change_at es d ≡ Some c → d ≤ world_of es
change_known es zero c h = cc
change_known es (suc d) c h = omega (arith, get_known (changes es) d c h, changes_length es)

-- a change that touches a key is there
pub touches_known : (P : Program) (es : List Event) (d : ℕ) (key : Key) → Touches P es d key → d ≤ world_of es
touches_known P es d key t = by (change_at es d) refl t
  where
    by : (o : Option Change) → change_at es d ≡ o → ChangeTouches P o key → d ≤ world_of es
    by None e u = absurd u
    by (Some c) e u = change_known es d c e

module _ (es more : List Event) where
  -- a change up to the newest world is the same
  pub change_same : (d : ℕ) → d ≤ world_of es → change_at (es ++ more) d ≡ change_at es d
  change_same zero l = refl
  change_same (suc d) l = ap (λ (xs : List Change). slice_get xs d) (changes_append es more) ∙ get_same (changes es) (changed more) d (omega (arith, l, changes_length es))

module _ (P : Program) (es more : List Event) where
  made_more : (f w : ℕ) → w ≤ world_of es → methods_made P (es ++ more) f w ≡ methods_made P es f w
  made_more f w l =
      ap (λ (xs : List Change). methods_from P f 1 (take w xs)) (changes_append es more)
      ∙ ap (methods_from P f 1) (take-append-le w (changes es) (changed more) (omega (arith, l, changes_length es)))

  -- the same methods stand in a world that is there
  pub stands_on : (f w : ℕ) (m : Method) → w ≤ world_of es → Stands P es f w m → Stands P (es ++ more) f w m
  stands_on f w m l h = record {
    made = subst (λ (ms : List Method). Contains ms m) (sym (made_more f w l)) h.made;
    kept = λ e low high d. h.kept e low high (subst (λ (o : Option Change). Deletes P o f m.sig) (change_same es more e (omega (arith, high, l))) d);
  }

  pub stands_back : (f w : ℕ) (m : Method) → w ≤ world_of es → Stands P (es ++ more) f w m → Stands P es f w m
  stands_back f w m l h = record {
    made = subst (λ (ms : List Method). Contains ms m) (made_more f w l) h.made;
    kept = λ e low high d. h.kept e low high (subst (λ (o : Option Change). Deletes P o f m.sig) (sym (change_same es more e (omega (arith, high, l)))) d);
  }

  pub selects_on : (f : ℕ) (ts : List Ty) (w : ℕ) (c : Choice) → w ≤ world_of es → Selects P es f ts w c → Selects P (es ++ more) f ts w c
  selects_on f ts w c l (ms, are, h) = (ms, (λ m a. ((λ i. stands_on f w m l ((are m a).0 i)), (λ s. (are m a).1 (stands_back f w m l s)))), h)

  pub selects_back : (f : ℕ) (ts : List Ty) (w : ℕ) (c : Choice) → w ≤ world_of es → Selects P (es ++ more) f ts w c → Selects P es f ts w c
  selects_back f ts w c l (ms, are, h) = (ms, (λ m a. ((λ i. stands_back f w m l ((are m a).0 i)), (λ s. (are m a).1 (stands_on f w m l s)))), h)

  pub site_more : (d : ℕ) → d ≤ world_of es → site_of (es ++ more) d ≡ site_of es d
  site_more d l = ap site_in (change_same es more d l)

  pub touches_on : (d : ℕ) (key : Key) → Touches P es d key → Touches P (es ++ more) d key
  touches_on d key t = subst (λ (o : Option Change). ChangeTouches P o key) (sym (change_same es more d (touches_known P es d key t))) t

  pub touches_back : (d : ℕ) (key : Key) → d ≤ world_of es → Touches P (es ++ more) d key → Touches P es d key
  touches_back d key l t = subst (λ (o : Option Change). ChangeTouches P o key) (change_same es more d l) t

  pub covers_on : (key : Key) (first w : ℕ) → w ≤ world_of es → Covers P es key first w → Covers P (es ++ more) key first w
  covers_on key first w l h = record { begun = h.begun; going = λ d low high t. h.going d low high (touches_back d key (omega (arith, high, l)) t) }

  pub covers_back : (key : Key) (first w : ℕ) → Covers P (es ++ more) key first w → Covers P es key first w
  covers_back key first w h = record { begun = h.begun; going = λ d low high t. h.going d low high (touches_on d key t) }

  pub covered_on : (number : ℕ) (key : Key) (w : ℕ) → w ≤ world_of es → IsCovered P es number key w → IsCovered P (es ++ more) number key w
  covered_on number key w l (row, h) = (
    row,
    record {
      stands = subst (λ (xs : List CacheRow). Contains xs row) (sym (rows_append es more)) (contains_more (rows_of es) (rows_of more) row h.stands);
      of_key = h.of_key;
      covers = covers_on key row.first w l h.covers;
    },
  )

  in_cache_on : (f : ℕ) (ts : List Ty) (w : ℕ) → w ≤ world_of es → IsInCache P es f ts w → IsInCache P (es ++ more) f ts w
  in_cache_on f ts w l (number, key, at, of, has, rows) = (
    number,
    key,
    ap (λ xs. slice_get xs number) (keys_append es more) ∙ get_more (keys_of es) (keys_of more) number key at,
    of,
    has,
    λ d s. covered_on number key w l (rows d (selects_back f ts w (C.Method d) l s)),
  )

  kept_case : (room : Places) (f : ℕ) (ts : List Ty) (w : ℕ) → w ≤ world_of es
      → (room.keys ≤ length (keys_of es)) ⊎ ((room.rows ≤ length (rows_of es)) ⊎ IsInCache P es f ts w)
      → (room.keys ≤ length (keys_of (es ++ more))) ⊎ ((room.rows ≤ length (rows_of (es ++ more))) ⊎ IsInCache P (es ++ more) f ts w)
  kept_case room f ts w l (inl h) = inl (omega (arith, h, ap length (keys_append es more), length-append (keys_of es) (keys_of more)))
  kept_case room f ts w l (inr (inl h)) = inr (inl (omega (arith, h, ap length (rows_append es more), length-append (rows_of es) (rows_of more))))
  kept_case room f ts w l (inr (inr h)) = inr (inr (in_cache_on f ts w l h))

  -- a call that is kept stays so
  pub kept_on : (room : Places) (f : ℕ) (ts : List Ty) (w : ℕ) → IsKeptFor P es room f ts w → IsKeptFor P (es ++ more) room f ts w
  kept_on room f ts w (l, h) = (omega (arith, l, world_more es more), kept_case room f ts w l h)

  pub keeps_on : (room : Option Places) (f : ℕ) (ts : List Ty) (w : ℕ) → Keeps P es room f ts w → Keeps P (es ++ more) room f ts w
  keeps_on None f ts w h = tt
  keeps_on (Some room) f ts w h = kept_on room f ts w h

-- ---- items

module _ (es more : List Event) where
  longer : (p : ℕ) → p ≤ length es → p ≤ length (es ++ more)
  longer p l = omega (arith, l, length-append es more)

  -- the first events are the same
  first_same : (p : ℕ) → p ≤ length es → take p es ≡ take p (es ++ more)
  first_same p l = sym (take-append-le p es more l)

  pub true_on : (P : Program) (task : ℕ) (i : TraceItem) → IsTrueOf P es task i → IsTrueOf P (es ++ more) task i
  true_on P task (Look w p) (l, h) = (longer p l, subst (λ xs. world_of xs ≡ w) (first_same p l) h)
  true_on P task (Def site p) h = get_more es more p (Ev.Def task site) h
  true_on P task (Spawn child p) (start, h) = (start, get_more es more p (Ev.Spawn task child start) h)
  true_on P task (Fetch of outcome p) (l, h) = (longer p l, subst (λ xs. EndedSo (done_of of xs) outcome) (first_same p l) h)
  true_on P task (WorldFull p) (l, h) = (longer p l, subst (λ xs. world_of xs ≡ 65535) (first_same p l) h)
  true_on P task (Del place p) h = get_more es more p (Ev.Del task place) h
  true_on P task (Absent place p) (l, h) = (longer p l, subst (λ (xs : List Event). IsAbsent P xs place) (first_same p l) h)
  true_on P task (TaskFull p) (l, h) = (longer p l, subst (λ xs. tasks_of xs ≡ 4096) (first_same p l) h)

  -- an item that is true of the events stays true when the list grows
  pub learnt_on : (P : Program) (task : ℕ) (i : Learnt) → IsLearntOf P es task i → IsLearntOf P (es ++ more) task i
  learnt_on P task (traced i) h = true_on P task i h
  learnt_on P task (named number key p) (l, h) = (longer p l, subst (λ xs. IsNamed xs number key) (first_same p l) h)
  learnt_on P task (answered f ts w c p) (l, a, h) = (longer p l, subst (λ xs. w ≤ world_of xs) (first_same p l) a, subst (λ xs. Selects P xs f ts w c) (first_same p l) h)
  learnt_on P task (chosen number w site p) (l, h) = (longer p l, subst (λ xs. IsChosen P xs number w site) (first_same p l) h)
  learnt_on P task (uncovered number w p) (l, h) = (longer p l, subst (λ xs. IsUncovered P xs number w) (first_same p l) h)
  learnt_on P task (kept f ts w room p) (l, h) = (longer p l, subst (λ xs. IsKeptFor P xs room f ts w) (first_same p l) h)

-- the world of the first events is at most that of all
pub first_at_most : (es : List Event) (p : ℕ) → world_of (take p es) ≤ world_of es
first_at_most es p = subst (λ xs. world_of (take p es) ≤ world_of xs) (take-append-drop p es) (world_more (take p es) (drop p es))
