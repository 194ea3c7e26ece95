-- What the answers to a task tell it.
use Rattle.std.proofs.Common.{◌≡◌, ◌∙◌, ap, sym, subst, refl, ℕ, ◌-◌, ◌<◌, ◌≤◌, arith, inr, cond, nat_eq, List, [], ◌∷◌, ◌++◌, length, length-append, append-nil, take, None, Some, slice_get}
use Rattle.std.proofs.lemmas.List.{take-append-le}
use Rattle.jl_model.specs.declared.ty.Key.{Key}
use Rattle.jl_model.specs.declared.ty.Ty.{Ty}
use Rattle.jl_program.specs.declared.choice.Choice.{Choice}
use Rattle.jl_program.specs.declared.choice.Choice.TheVariants as C
use Rattle.jl_program.specs.declared.tree.Start.{Start}
use Rattle.jl_calculus.specs.declared.history.Event.{Event}
use Rattle.jl_calculus.specs.declared.history.Event.TheVariants as Ev
use Rattle.jl_calculus.specs.declared.history.Outcome.{Outcome}
use Rattle.jl_calculus.specs.declared.history.TraceItem.{TraceItem}
use Rattle.jl_calculus.specs.declared.history.TraceItem.TheVariants.{Look, Def, Del, Spawn, Fetch, WorldFull, TaskFull, Absent}
use Rattle.jl_calculus.specs.Kept.{IsKeptFor}
use Rattle.jl_calculus.specs.Learnt.{IsNamed, IsChosen, traced}
use Rattle.jl_calculus.specs.Past.{IsTrueOf, IsAbsent, done_of, tasks_of}
use Rattle.jl_calculus.specs.Ranges.{IsCovered}
use Rattle.jl_calculus.specs.World.{world_of, site_of, Selects}
use Rattle.jl_calculus.proofs.GrowthLemmas.{selects_on, site_more, kept_on}
use Rattle.jl_calculus.proofs.BetweenLemmas.{of_world}
use Rattle.jl_world.specs.declared.about.About.{About}
use Rattle.jl_world.specs.declared.view.TaskView.{TaskView}
use Rattle.jl_world.specs.Views.{Begins, met, looked, noted, own_of, starts_of}
use Rattle.jl_world.proofs.Growth.{agreed, begins_self, begins_trans, begins_length, still_true, worlds_grow}
use Rattle.jl_world.proofs.Lists.{take_whole, one_there, get_push}
use Rattle.jl_world.proofs.Rights.{named_more}
use Rattle.jl_task.specs.Knows.{Knows, Grew, Told, Looked, Asked, Refused, IsRight, IsOfWorld, SelectsBySite, Defined, Deleted, IsAbsentNow, IsMade, WorldsFull, IsFull, Spawned, TasksFull, AreTasksFull, Fetched, IsNotDone}
use Rattle.jl_task.specs.Fits.{IsFresh}
use Rattle.jl_book.specs.Passes.{task_in}
use Rattle.jl_rows.specs.Plans.{places_of}
use Rattle.jl_runner.specs.Knowing.{knows_at, IsSiteOf}

-- ---- lists that begin with what was seen

-- the events that were seen are the first of each list
pub first_seen : (es xs : List Event) → Begins es xs → take (length es) xs ≡ es
first_seen es xs b = ap (take (length es)) b.1 ∙ take-append-le (length es) es b.0 (omega arith) ∙ take_whole es

module _ (about : About) (v : TaskView) (f s : ℕ) where
  -- an item that is true of what was seen is told
  told : (i : TraceItem) → IsTrueOf about.program.value v.seen (task_in v) i → Told (knows_at about v f s) i
  told i h =
      let on : (es : List Event) → Begins v.seen es → IsTrueOf about.program.value es (task_in v) i = λ es b. still_true about.program.value v.seen es b (task_in v) (traced i) h in
      record { learnt = on; right = on }

  -- a task that has done nothing yet
  pub fresh : v.own ≡ [] → v.starts ≡ [] → v.looks ≡ 0 → f ≤ length v.seen → IsFresh (knows_at about v f s)
  fresh own starts looks l = record { own = own; starts = starts; looks = looks; world = omega arith; begun = l }

  -- what it makes, where it knows that the world is the last one, or that there is no room for a task
  pub known_full : IsFull (knows_at about v f s) → world_of v.seen ≡ 65535
  known_full h = let at = h v.seen (begins_self v.seen) in sym (ap world_of (take_whole v.seen)) ∙ at.1

  pub known_tasks : AreTasksFull (knows_at about v f s) → tasks_of v.seen ≡ 4096
  known_tasks h = let at = h v.seen (begins_self v.seen) in sym (ap tasks_of (take_whole v.seen)) ∙ at.1

  -- ---- the same view where more was seen
  module _ (es : List Event) (b : Begins v.seen es) where
    pub grew_met : (t : ℕ) → Grew (knows_at about v f s) (knows_at about (met es v) f t)
    grew_met t = record {
      program = refl;
      places = refl;
      task = refl;
      start = refl;
      first = refl;
      world = worlds_grow v.seen es b;
      seen = begins_length v.seen es b;
      agrees = λ xs a. begins_trans v.seen es xs b a;
      learnt = λ i h xs a. h xs (begins_trans v.seen es xs b a);
    }

    pub asked_met : (t : ℕ) → Asked (knows_at about v f s) (knows_at about (met es v) f t)
    asked_met t = record { grew = grew_met t; looks = refl; own = refl; starts = refl; follows = λ c is h. tt }

    pub refused_met : (t : ℕ) → Refused (knows_at about v f s) (knows_at about (met es v) f t)
    refused_met t = record { grew = grew_met t; looks = refl; own = refl; starts = refl }

    grew_looked : Grew (knows_at about v f s) (knows_at about (looked es v) f s)
    grew_looked = record {
      program = refl;
      places = refl;
      task = refl;
      start = refl;
      first = refl;
      world = worlds_grow v.seen es b;
      seen = begins_length v.seen es b;
      agrees = λ xs a. begins_trans v.seen es xs b a;
      learnt = λ i h xs a. h xs (begins_trans v.seen es xs b a);
    }

-- ---- looks

pub looked_so : (about : About) (v w : TaskView) (f s world length_ : ℕ) → w ≡ looked w.seen v → Begins v.seen w.seen → ((t : ℕ) → IsTrueOf about.program.value w.seen t (Look world length_)) → world_of w.seen ≡ world
    → length_ ≡ length w.seen → Looked (knows_at about v f s) (knows_at about w f s) world length_
looked_so about v w f s world n same b item is l =
    subst (λ u. Looked (knows_at about v f s) (knows_at about u f s) world n) (sym same) (record {
      grew = grew_looked about v f s w.seen b;
      told = told about (looked w.seen v) f s (Look world n) (item (task_in v));
      length = sym l;
      low = omega (arith, is);
      high = omega (arith, is);
      looks = refl;
      own = refl;
      starts = refl;
      follows = λ c is h. tt;
    })

-- ---- questions

-- more was seen, and nothing else
pub asked_so : (about : About) (v w : TaskView) (f s t : ℕ) → w ≡ met w.seen v → Begins v.seen w.seen → Asked (knows_at about v f s) (knows_at about w f t)
asked_so about v w f s t same b = subst (λ u. Asked (knows_at about v f s) (knows_at about u f t)) (sym same) (asked_met about v f s w.seen b t)

pub refused_so : (about : About) (v w : TaskView) (f s t : ℕ) → w ≡ met w.seen v → Begins v.seen w.seen → Refused (knows_at about v f s) (knows_at about w f t)
refused_so about v w f s t same b = subst (λ u. Refused (knows_at about v f s) (knows_at about u f t)) (sym same) (refused_met about v f s w.seen b t)

pub grew_so : (about : About) (v w : TaskView) (f s t : ℕ) → w ≡ met w.seen v → Begins v.seen w.seen → Grew (knows_at about v f s) (knows_at about w f t)
grew_so about v w f s t same b = subst (λ u. Grew (knows_at about v f s) (knows_at about u f t)) (sym same) (grew_met about v f s w.seen b t)

-- one question after another
pub asked_trans : (a b c : Knows) → Asked a b → Asked b c → Asked a c
asked_trans a b c p q =
    let g = p.grew in
    let h = q.grew in record {
      grew = record {
        program = h.program ∙ g.program;
        places = h.places ∙ g.places;
        task = h.task ∙ g.task;
        start = h.start ∙ g.start;
        first = h.first ∙ g.first;
        world = omega (arith, g.world, h.world);
        seen = omega (arith, g.seen, h.seen);
        agrees = λ es x. g.agrees es (h.agrees es x);
        learnt = λ i x. h.learnt i (g.learnt i x);
      };
      looks = q.looks ∙ p.looks;
      own = q.own ∙ p.own;
      starts = q.starts ∙ p.starts;
      follows = λ claim is x. q.follows claim is (p.follows claim is x);
    }

-- ---- choices

module _ (about : About) (v : TaskView) (f s : ℕ) where
  by_site : (fn : ℕ) (ts : List Ty) (w : ℕ) (c : Choice) → w ≤ world_of v.seen → Selects about.program.value v.seen fn ts w c → IsSiteOf v.seen c s → (xs : List Event) → Begins v.seen xs
      → SelectsBySite (knows_at about v f s) xs fn ts w c
  by_site fn ts w C.None l h site xs b = subst (λ ys. Selects about.program.value ys fn ts w C.None) (sym b.1) (selects_on about.program.value v.seen b.0 fn ts w C.None l h)
  by_site fn ts w (C.Ambiguous p q) l h site xs b =
      subst (λ ys. Selects about.program.value ys fn ts w (C.Ambiguous p q)) (sym b.1) (selects_on about.program.value v.seen b.0 fn ts w (C.Ambiguous p q) l h)
  by_site fn ts w (C.Method d) l h site xs b =
      let o = of_world about.program.value v.seen fn ts w d h in (
        d,
        subst (λ ys. Selects about.program.value ys fn ts w (C.Method d)) (sym b.1) (selects_on about.program.value v.seen b.0 fn ts w (C.Method d) l h),
        ap (λ ys. site_of ys d) b.1 ∙ site_more about.program.value v.seen b.0 d (omega (arith, o.1, l)) ∙ sym site,
      )

  is_of_world : (fn : ℕ) (ts : List Ty) (w : ℕ) (c : Choice) → Selects about.program.value v.seen fn ts w c → IsOfWorld c w
  is_of_world fn ts w C.None h = tt
  is_of_world fn ts w (C.Ambiguous p q) h = tt
  is_of_world fn ts w (C.Method d) h = of_world about.program.value v.seen fn ts w d h

  kept_in : (fn : ℕ) (ts : List Ty) (w : ℕ) → IsKeptFor about.program.value v.seen (places_of about) fn ts w → (xs : List Event) → Begins v.seen xs → IsKeptFor about.program.value xs (places_of about) fn ts w
  kept_in fn ts w h xs b = subst (λ ys. IsKeptFor about.program.value ys (places_of about) fn ts w) (sym b.1) (kept_on about.program.value v.seen b.0 (places_of about) fn ts w h)

  -- the choice of the rules, with the site of the definition
  pub right_choice : (fn : ℕ) (ts : List Ty) (w : ℕ) (c : Choice) → w ≤ world_of v.seen → Selects about.program.value v.seen fn ts w c → IsKeptFor about.program.value v.seen (places_of about) fn ts w
      → IsSiteOf v.seen c s → IsRight (knows_at about v f s) fn ts w c
  right_choice fn ts w c l h k site = record { right = by_site fn ts w c l h site; kept = kept_in fn ts w k; of_world = is_of_world fn ts w c h }

  same_key : (a b : Key) (number : ℕ) → IsNamed v.seen number a → IsNamed v.seen number b → a ≡ b
  same_key a b number p q = one_there _ number a b p q

  -- a row covers the world: its site is told for a definition of that world
  pub right_hit : (key : Key) (number w : ℕ) → 14 ≤ w → IsNamed v.seen number key → IsChosen about.program.value v.seen number w s → IsRight (knows_at about v f s) key.function key.types w (C.Method w)
  right_hit key number w low named h =
      let same : h.key ≡ key = same_key h.key key number h.named named in
      let (d, selects, site) = subst (λ (k : Key). (d : ℕ) × Selects about.program.value v.seen k.function k.types w (C.Method d) × (site_of v.seen d ≡ s)) same h.choice in
      let kept : IsKeptFor about.program.value v.seen (places_of about) key.function key.types w =
      (h.known, inr (inr (number, key, named, refl, refl, λ e chosen. subst (λ (k : Key). IsCovered about.program.value v.seen number k w) same h.covered))) in
      record {
        right = λ xs b. by_site key.function key.types w (C.Method d) h.known selects (sym site) xs b;
        kept = kept_in key.function key.types w kept;
        of_world = (omega (arith, low), omega arith);
      }

-- ---- what was made

module _ (about : About) (v : TaskView) (f s : ℕ) (old new : List Event) (b : Begins v.seen old) (is : v.task ≡ Some (task_in v)) where
  begins_new : (e : Event) → new ≡ old ++ e ∷ [] → Begins v.seen new
  begins_new e added = begins_trans v.seen old new b (e ∷ [], added)

  place_is : (e : Event) → new ≡ old ++ e ∷ [] → length old ≡ length new - 1
  place_is e added = omega (arith, ap length added, length-append old (e ∷ []))

  longer : (e : Event) → new ≡ old ++ e ∷ [] → length v.seen < length new
  longer e added = omega (arith, ap length added, length-append old (e ∷ []), begins_length v.seen old b)

  there : (e : Event) → new ≡ old ++ e ∷ [] → slice_get new (length new - 1) ≡ Some e
  there e added = ap (slice_get new) (sym (place_is e added)) ∙ ap (λ xs. slice_get xs (length old)) added ∙ get_push old e

  abbrev after : Event → TaskView
  after e = met new (noted (length old) e v)

  -- its own event stands among its own, and so does the start of a spawn
  own_at : (e : Event) (item : ℕ → TraceItem) → own_of (Some (task_in v)) (length old) (e ∷ []) ≡ cond (nat_eq (task_in v) (task_in v)) (item (length old) ∷ []) [] → new ≡ old ++ e ∷ []
      → own_of v.task (length old) (e ∷ []) ≡ item (length new - 1) ∷ []
  own_at e item here added =
      ap (λ t. own_of t (length old) (e ∷ [])) is ∙ here ∙ ap (λ q. cond q (item (length old) ∷ []) []) (agreed (task_in v) (task_in v) refl) ∙ ap (λ p. item p ∷ []) (place_is e added)

  starts_none : (e : Event) → starts_of (Some (task_in v)) (e ∷ []) ≡ [] → starts_of v.task (e ∷ []) ≡ []
  starts_none e here = ap (λ t. starts_of t (e ∷ [])) is ∙ here

  starts_spawn : (child : ℕ) (start : Start) → starts_of v.task (Ev.Spawn (task_in v) child start ∷ []) ≡ start ∷ []
  starts_spawn child start =
      ap (λ t. starts_of t (Ev.Spawn (task_in v) child start ∷ [])) is ∙ ap (λ q. cond q (start ∷ []) []) (agreed (task_in v) (task_in v) refl)

  grew_after : (e : Event) → new ≡ old ++ e ∷ [] → Grew (knows_at about v f s) (knows_at about (after e) f s)
  grew_after e added =
      let c : Begins v.seen new = begins_new e added in record {
        program = refl;
        places = refl;
        task = refl;
        start = refl;
        first = refl;
        world = worlds_grow v.seen new c;
        seen = begins_length v.seen new c;
        agrees = λ xs a. begins_trans v.seen new xs c a;
        learnt = λ i h xs a. h xs (begins_trans v.seen new xs c a);
      }

  defined_after : (site : ℕ) → new ≡ old ++ Ev.Def (task_in v) site ∷ [] → Defined (knows_at about v f s) (knows_at about (after (Ev.Def (task_in v) site)) f s) site
  defined_after site added = record {
    told = told about (after (Ev.Def (task_in v) site)) f s (Def site (length new - 1)) (there (Ev.Def (task_in v) site) added);
    place = longer (Ev.Def (task_in v) site) added;
    looks = refl;
    own = ap (λ xs. v.own ++ xs) (own_at (Ev.Def (task_in v) site) (λ p. Def site p) refl added);
    starts = ap (λ xs. v.starts ++ xs) (starts_none (Ev.Def (task_in v) site) refl) ∙ append-nil v.starts;
    follows = λ c is h. tt;
  }

  deleted_after : (place : ℕ) → new ≡ old ++ Ev.Del (task_in v) place ∷ [] → Deleted (knows_at about v f s) (knows_at about (after (Ev.Del (task_in v) place)) f s) place
  deleted_after place added = record {
    told = told about (after (Ev.Del (task_in v) place)) f s (Del place (length new - 1)) (there (Ev.Del (task_in v) place) added);
    place = longer (Ev.Del (task_in v) place) added;
    looks = refl;
    own = ap (λ xs. v.own ++ xs) (own_at (Ev.Del (task_in v) place) (λ p. Del place p) refl added);
    starts = ap (λ xs. v.starts ++ xs) (starts_none (Ev.Del (task_in v) place) refl) ∙ append-nil v.starts;
    follows = λ c is h. tt;
  }

  spawned_after : (child : ℕ) (start : Start) → new ≡ old ++ Ev.Spawn (task_in v) child start ∷ []
      → Spawned (knows_at about v f s) (knows_at about (after (Ev.Spawn (task_in v) child start)) f s) child start
  spawned_after child start added = record {
    told = told about (after (Ev.Spawn (task_in v) child start)) f s (Spawn child (length new - 1)) (start, there (Ev.Spawn (task_in v) child start) added);
    place = longer (Ev.Spawn (task_in v) child start) added;
    looks = refl;
    own = ap (λ xs. v.own ++ xs) (own_at (Ev.Spawn (task_in v) child start) (λ p. Spawn child p) refl added);
    starts = ap (λ xs. v.starts ++ xs) (starts_spawn child start);
    follows = λ c is h. tt;
  }

  -- the same for the view as it is then
  module _ (w : TaskView) (e : Event) (added : new ≡ old ++ e ∷ []) (now : w ≡ met new (noted (length old) e v)) where
    pub grew_own : Grew (knows_at about v f s) (knows_at about w f s)
    grew_own = subst (λ u. Grew (knows_at about v f s) (knows_at about u f s)) (sym now) (grew_after e added)

    pub seen_own : Begins v.seen w.seen
    seen_own = subst (λ (u : TaskView). Begins v.seen u.seen) (sym now) (begins_new e added)

    pub seen_is : w.seen ≡ new
    seen_is = ap (λ (u : TaskView). u.seen) now

    pub task_own : w.task ≡ v.task
    task_own = ap (λ (u : TaskView). u.task) now

    pub start_own : w.start ≡ v.start
    start_own = ap (λ (u : TaskView). u.start) now

  pub defined_so : (w : TaskView) (site : ℕ) → new ≡ old ++ Ev.Def (task_in v) site ∷ [] → w ≡ met new (noted (length old) (Ev.Def (task_in v) site) v) → Defined (knows_at about v f s) (knows_at about w f s) site
  defined_so w site added now = subst (λ u. Defined (knows_at about v f s) (knows_at about u f s) site) (sym now) (defined_after site added)

  pub deleted_so : (w : TaskView) (place : ℕ) → new ≡ old ++ Ev.Del (task_in v) place ∷ [] → w ≡ met new (noted (length old) (Ev.Del (task_in v) place) v) → Deleted (knows_at about v f s) (knows_at about w f s) place
  deleted_so w place added now = subst (λ u. Deleted (knows_at about v f s) (knows_at about u f s) place) (sym now) (deleted_after place added)

  pub spawned_so : (w : TaskView) (child : ℕ) (start : Start) → new ≡ old ++ Ev.Spawn (task_in v) child start ∷ [] → w ≡ met new (noted (length old) (Ev.Spawn (task_in v) child start) v)
      → Spawned (knows_at about v f s) (knows_at about w f s) child start
  spawned_so w child start added now = subst (λ u. Spawned (knows_at about v f s) (knows_at about u f s) child start) (sym now) (spawned_after child start added)

module _ (about : About) (v w : TaskView) (f s : ℕ) (es : List Event) (now : w ≡ met es v) where
  seen_es : w.seen ≡ es
  seen_es = ap (λ (u : TaskView). u.seen) now

  -- ---- what was refused

  pub worlds_full : world_of es ≡ 65535 → WorldsFull (knows_at about v f s) (knows_at about w f s)
  worlds_full e = subst (λ u. WorldsFull (knows_at about v f s) (knows_at about u f s)) (sym now) (record {
    told = told about (met es v) f s (WorldFull (length es)) (omega arith, ap world_of (take_whole es) ∙ e);
    looks = refl;
    own = refl;
    starts = refl;
    follows = λ c is h. tt;
  })

  pub absent_so : (place : ℕ) → IsAbsent about.program.value es place → IsAbsentNow (knows_at about v f s) (knows_at about w f s) place
  absent_so place h = subst (λ u. IsAbsentNow (knows_at about v f s) (knows_at about u f s) place) (sym now) (record {
    told = told about (met es v) f s (Absent place (length es)) (omega arith, subst (λ xs. IsAbsent about.program.value xs place) (sym (take_whole es)) h);
    looks = refl;
    own = refl;
    starts = refl;
    follows = λ c is g. tt;
  })

  pub tasks_full : tasks_of es ≡ 4096 → TasksFull (knows_at about v f s) (knows_at about w f s)
  tasks_full e = subst (λ u. TasksFull (knows_at about v f s) (knows_at about u f s)) (sym now) (record {
    told = told about (met es v) f s (TaskFull (length es)) (omega arith, ap tasks_of (take_whole es) ∙ e);
    looks = refl;
    own = refl;
    starts = refl;
    follows = λ c is h. tt;
  })

  -- ---- what became of a task

  pub fetched_so : (of : ℕ) (outcome : Outcome) → ((t : ℕ) → IsTrueOf about.program.value es t (Fetch of outcome (length es))) → Fetched (knows_at about v f s) (knows_at about w f s) of outcome
  fetched_so of outcome h = subst (λ u. Fetched (knows_at about v f s) (knows_at about u f s) of outcome) (sym now) (record {
    told = told about (met es v) f s (Fetch of outcome (length es)) (h (task_in v));
    looks = refl;
    own = refl;
    starts = refl;
    follows = λ c is g. tt;
  })

  pub not_done_so : (of : ℕ) → done_of of es ≡ None → IsNotDone (knows_at about w f s) of
  not_done_so of h = subst (λ (u : TaskView). IsNotDone (knows_at about u f s) of) (sym now) (λ xs a. ap (done_of of) (first_seen es xs a) ∙ h)

-- the world that a definition or a deletion made
pub made_so : (about : About) (v : TaskView) (f s w : ℕ) → w ≡ world_of v.seen → IsMade (knows_at about v f s) w
made_so about v f s w e = record {
  right = λ xs b. ap world_of (first_seen v.seen xs b) ∙ sym e;
  world = (omega (arith, e), omega (arith, e));
}

-- ---- keys

-- what has a number keeps it
pub named_so : (seen es : List Event) (number : ℕ) (key : Key) → Begins seen es → IsNamed seen number key → IsNamed es number key
named_so seen es number key b h = subst (λ xs. IsNamed xs number key) (sym b.1) (named_more seen b.0 number key h)
