-- The answers of a dispatcher that leads a task, by what the code found next in the trace.
use Rattle.std.proofs.Common.{◌≡◌, ◌∙◌, ap, sym, subst, refl, ℕ, zero, suc, ◌+◌, ◌-◌, ◌<◌, ◌≤◌, ◌⊎◌, inl, inr, arith, Bool, true, false, nat_eq, cond, List, [], ◌∷◌, ◌++◌, append_assoc, append-nil, length-append, drop, take, length, slice_get, Some, None}
use Rattle.jl_model.specs.declared.ty.Ty.{Ty}
use Rattle.jl_program.specs.declared.choice.Choice.{Choice}
use Rattle.jl_program.specs.declared.choice.Choice.TheVariants as C
use Rattle.jl_program.specs.declared.tree.Program.{Program}
use Rattle.jl_program.specs.declared.tree.Start.{Start}
use Rattle.jl_calculus.specs.declared.history.Event.{Event}
use Rattle.jl_calculus.specs.declared.history.Event.TheVariants as Ev
use Rattle.jl_calculus.specs.declared.history.Outcome.{Outcome}
use Rattle.jl_calculus.specs.declared.history.Record.{Record}
use Rattle.jl_calculus.specs.declared.history.Seen.{Seen}
use Rattle.jl_calculus.specs.declared.history.TraceItem.{TraceItem}
use Rattle.jl_calculus.specs.declared.history.TraceItem.TheVariants.{Look, Def, Del, Spawn, Fetch, WorldFull, TaskFull, Absent}
use Rattle.jl_calculus.specs.Legal.{start_of, first_place}
use Rattle.jl_calculus.specs.Past.{IsTrueOf, EndedSo, done_of, tasks_of, own_events, own_starts}
use Rattle.jl_calculus.specs.World.{Selects, site_of, world_of}
use Rattle.jl_calculus.proofs.GrowthLemmas.{world_more, first_at_most, selects_on, site_more}
use Rattle.jl_task.specs.Knows.{Knows, Claim, Grew, Told, Looked, Asked, Refused, IsOfWorld, SelectsBySite, IsRight, Defined, Deleted, IsAbsentNow, IsMade, WorldsFull, IsFull, Spawned, TasksFull, AreTasksFull, Fetched}
use Rattle.jl_lead.specs.Items.{Begins, next_item, look_of, world_full_of, task_full_of, absent_of, is_absence, IsNoFetch}
use Rattle.jl_lead.specs.Leads.{GoesOn, HasMade, IsMadeBy, IsOn, led_knows}
use Rattle.jl_lead.specs.Stretch.{IsStretch, IsLeft}
use Rattle.jl_lead.proofs.EventFacts.{self_eq, other_eq, goes_self, goes_less, true_goes, done_later, start_before, first_before, own_later, starts_append}
use Rattle.jl_lead.proofs.ItemFacts.{next_is, next_on, is_look, is_world_full, is_task_full, is_absent, some_absence, no_look, no_def, no_del, no_world_full, stretch_few, no_spawn, no_task_full, no_fetch, one_more, departs_at}

-- what a task that goes on alone has made, where it makes nothing now
made_none : (alone : Bool) (task : ℕ) (base es : List Event) → HasMade alone task base es → HasMade true task base es
made_none false task base es h = ([], tt, h ∙ sym (append-nil base))
made_none true task base es h = h

-- and where it makes the first event
made_one : (alone : Bool) (task : ℕ) (base es : List Event) (e : Event) → alone ≡ false → IsMadeBy task es e → HasMade alone task base es → HasMade true task base (es ++ e ∷ [])
made_one false task base es e off by h = (e ∷ [], subst (λ xs. IsMadeBy task xs e) h by, ap (λ xs. xs ++ e ∷ []) h)
made_one true task base es e off by h = absurd cc

module _ (P : Program) (es : List Event) (task : ℕ) (items : List TraceItem) (told seen looks : ℕ) (alone : Bool) where
  abbrev left : List TraceItem
  left = drop told items

  abbrev here : Knows
  here = led_knows P es task items told seen looks alone

  -- the next item was told
  abbrev on : ℕ → ℕ → Knows
  on p n = led_knows P es task items (told + 1) p n alone

  -- the task goes on alone, and has seen so many events
  abbrev off : ℕ → ℕ → Knows
  off p n = led_knows P es task items told p n true

  -- ---- on the trace

  grew_on : (p n : ℕ) → seen ≤ p → Grew here (on p n)
  grew_on p n le = record { program = refl; places = refl; task = refl; start = refl; first = refl; world = omega arith; seen = le; agrees = λ xs g. g; learnt = λ i h. h }

  true_item : (p n : ℕ) (i : TraceItem) → IsTrueOf P es task i → Told (on p n) i
  true_item p n i h = record { learnt = λ xs g. true_goes P es xs task i h g; right = λ xs g. true_goes P es xs task i h g }

  stretch_here : (x : TraceItem) → next_item alone items told ≡ Some x → IsLeft P alone es seen left → IsStretch P es seen (x ∷ drop (told + 1) items)
  stretch_here x h s =
      let e = next_on alone items told x h in
      subst (IsStretch P es seen) (next_is items told x e.1) (subst (λ b. IsLeft P b es seen left) e.0 s)

  -- what is left after the next item
  left_on : (x : TraceItem) → next_item alone items told ≡ Some x → (p : ℕ) → IsStretch P es p (drop (told + 1) items) → IsLeft P alone es p (drop (told + 1) items)
  left_on x h p s = let e = next_on alone items told x h in subst (λ b. IsLeft P b es p (drop (told + 1) items)) (sym e.0) s

  follows_on : (x : TraceItem) → next_item alone items told ≡ Some x → (c : Claim) (trace : List TraceItem) → (task ≡ c.task) × HasMade alone task c.events es × IsOn alone left c.trace trace
      → (task ≡ c.task) × HasMade alone task c.events es × IsOn alone (drop (told + 1) items) c.trace (trace ++ x ∷ [])
  follows_on x h c trace f = let e = next_on alone items told x h in (f.0, f.1, at alone e.0 e.1 f.2)
    where
      at : (b : Bool) → b ≡ false → slice_get items told ≡ Some x → IsOn b left c.trace trace → IsOn b (drop (told + 1) items) c.trace (trace ++ x ∷ [])
      at true e g o = absurd cc
      at false e g o = one_more trace c.trace items told x g o

  pub looked_on : (s : Seen) → look_of (next_item alone items told) ≡ Some s → IsLeft P alone es seen left → Looked here (on s.length (looks + 1)) s.world s.length
  looked_on s h l =
      let x : TraceItem = Look s.world s.length in
      let n = is_look (next_item alone items told) s h in
      let t = stretch_here x n l in record {
        grew = grew_on s.length (looks + 1) t.0;
        told = true_item s.length (looks + 1) x (t.1, t.2);
        length = refl;
        low = let w = t.2 in omega (arith, w);
        high = let w = t.2 in omega (arith, w, first_at_most es s.length);
        looks = refl;
        own = refl;
        starts = refl;
        follows = follows_on x n;
      }

  pub left_look : (s : Seen) → look_of (next_item alone items told) ≡ Some s → IsLeft P alone es seen left → IsLeft P alone es s.length (drop (told + 1) items)
  left_look s h l =
      let n = is_look (next_item alone items told) s h in
      let t = stretch_here (Look s.world s.length) n l in left_on (Look s.world s.length) n s.length t.3

  module _ (p : ℕ) (h : world_full_of (next_item alone items told) ≡ Some p) (l : IsLeft P alone es seen left) where
    full_here : IsStretch P es seen (WorldFull p ∷ drop (told + 1) items)
    full_here = stretch_here (WorldFull p) (is_world_full (next_item alone items told) p h) l

    pub world_full_grew : Grew here (on p looks)
    world_full_grew = grew_on p looks full_here.0

    pub world_full_told : WorldsFull here (on p looks)
    world_full_told = record { told = true_item p looks (WorldFull p) (full_here.1, full_here.2); looks = refl; own = refl; starts = refl; follows = follows_on (WorldFull p) (is_world_full (next_item alone items told) p h) }

    pub world_full_refused : Refused here (on p looks)
    world_full_refused = record { grew = grew_on p looks full_here.0; looks = refl; own = refl; starts = refl }

    pub left_world_full : IsLeft P alone es p (drop (told + 1) items)
    left_world_full = left_on (WorldFull p) (is_world_full (next_item alone items told) p h) p full_here.3

    pub seen_world_full : p ≤ length es
    seen_world_full = full_here.1

  module _ (place p : ℕ) (h : absent_of place (next_item alone items told) ≡ Some p) (l : IsLeft P alone es seen left) where
    next_absent : next_item alone items told ≡ Some (Absent place p)
    next_absent = is_absent (next_item alone items told) place p h

    absent_here : IsStretch P es seen (Absent place p ∷ drop (told + 1) items)
    absent_here = stretch_here (Absent place p) next_absent l

    pub absent_grew : Grew here (on p looks)
    absent_grew = grew_on p looks absent_here.0

    pub absent_told : IsAbsentNow here (on p looks) place
    absent_told = record { told = true_item p looks (Absent place p) (absent_here.1, absent_here.2); looks = refl; own = refl; starts = refl; follows = follows_on (Absent place p) next_absent }

    pub absent_refused : Refused here (on p looks)
    absent_refused = record { grew = grew_on p looks absent_here.0; looks = refl; own = refl; starts = refl }

    pub left_absent : IsLeft P alone es p (drop (told + 1) items)
    left_absent = left_on (Absent place p) next_absent p absent_here.3

    pub seen_absent : p ≤ length es
    seen_absent = absent_here.1

  module _ (p : ℕ) (h : task_full_of (next_item alone items told) ≡ Some p) (l : IsLeft P alone es seen left) where
    tasks_here : IsStretch P es seen (TaskFull p ∷ drop (told + 1) items)
    tasks_here = stretch_here (TaskFull p) (is_task_full (next_item alone items told) p h) l

    pub task_full_grew : Grew here (on p looks)
    task_full_grew = grew_on p looks tasks_here.0

    pub task_full_told : TasksFull here (on p looks)
    task_full_told = record { told = true_item p looks (TaskFull p) (tasks_here.1, tasks_here.2); looks = refl; own = refl; starts = refl; follows = follows_on (TaskFull p) (is_task_full (next_item alone items told) p h) }

    pub task_full_refused : Refused here (on p looks)
    task_full_refused = record { grew = grew_on p looks tasks_here.0; looks = refl; own = refl; starts = refl }

    pub left_task_full : IsLeft P alone es p (drop (told + 1) items)
    left_task_full = left_on (TaskFull p) (is_task_full (next_item alone items told) p h) p tasks_here.3

    pub seen_task_full : p ≤ length es
    seen_task_full = tasks_here.1

  pub seen_look : (s : Seen) → look_of (next_item alone items told) ≡ Some s → IsLeft P alone es seen left → s.length ≤ length es
  seen_look s h l = let t = stretch_here (Look s.world s.length) (is_look (next_item alone items told) s h) l in t.1

  module _ (of : ℕ) (outcome : Outcome) (p : ℕ) (h : next_item alone items told ≡ Some (Fetch of outcome p)) (l : IsLeft P alone es seen left) where
    fetch_here : IsStretch P es seen (Fetch of outcome p ∷ drop (told + 1) items)
    fetch_here = stretch_here (Fetch of outcome p) h l

    pub fetch_grew : Grew here (on p looks)
    fetch_grew = grew_on p looks fetch_here.0

    pub fetch_told : Fetched here (on p looks) of outcome
    fetch_told = record { told = true_item p looks (Fetch of outcome p) (fetch_here.1, fetch_here.2); looks = refl; own = refl; starts = refl; follows = follows_on (Fetch of outcome p) h }

    pub left_fetch : IsLeft P alone es p (drop (told + 1) items)
    left_fetch = left_on (Fetch of outcome p) h p fetch_here.3

    pub seen_fetch : p ≤ length es
    seen_fetch = fetch_here.1

    pub fetch_ended : EndedSo (done_of of (take p es)) outcome
    fetch_ended = fetch_here.2

  -- ---- alone

  grew_off : (n m : ℕ) → seen ≤ n → Grew here (off n m)
  grew_off n m le = record { program = refl; places = refl; task = refl; start = refl; first = refl; world = omega arith; seen = le; agrees = λ xs g. g; learnt = λ i h. h }

  -- it is told something else than what stands next
  follows_off : (x : TraceItem) → is_absence (Some x) ≡ false → (alone ≡ false → Begins x left → ⊥) → (c : Claim) (trace : List TraceItem) → (task ≡ c.task) × HasMade alone task c.events es × IsOn alone left c.trace trace
      → (task ≡ c.task) × HasMade true task c.events es × IsOn true left c.trace (trace ++ x ∷ [])
  follows_off x kind apart c trace f = (f.0, made_none alone task c.events es f.1, departs_at alone left c.trace trace x kind apart f.2)

  -- how the items of the whole list of events look
  whole : (n : ℕ) → n ≡ length es → take n es ≡ es
  whole n e = ap (λ k. take k es) e ∙ all es
    where
      all : (xs : List Event) → take (length xs) xs ≡ xs
      all [] = refl
      all (x ∷ xs) = ap (λ ys. x ∷ ys) (all xs)

  pub asked : Asked here here
  asked = record { grew = record { program = refl; places = refl; task = refl; start = refl; first = refl; world = omega arith; seen = omega arith; agrees = λ xs g. g; learnt = λ i h. h }; looks = refl; own = refl; starts = refl; follows = λ c trace f. f }

  pub same_grew : Grew here here
  same_grew = asked.grew

  pub same_refused : Refused here here
  same_refused = record { grew = same_grew; looks = refl; own = refl; starts = refl }

  pub looked_off : (w n : ℕ) → look_of (next_item alone items told) ≡ None → seen ≤ length es → w ≡ world_of es → n ≡ length es → Looked here (off n (looks + 1)) w n
  looked_off w n h le world len =
      let x : TraceItem = Look w n in
      let true_here : IsTrueOf P es task x = (omega (arith, len), ap world_of (whole n len) ∙ sym world) in record {
        grew = grew_off n (looks + 1) (omega (arith, le, len));
        told = record { learnt = λ xs g. true_goes P es xs task x true_here g; right = λ xs g. true_goes P es xs task x true_here g };
        length = refl;
        low = omega (arith, world);
        high = omega (arith, world);
        looks = refl;
        own = refl;
        starts = refl;
        follows = follows_off x refl (λ e. no_look items told w n (subst (λ b. look_of (next_item b items told) ≡ None) e h));
      }

  -- the world is full
  module _ (n : ℕ) (h : world_full_of (next_item alone items told) ≡ None) (k : is_absence (next_item alone items told) ≡ false) (l : IsLeft P alone es seen left) (le : seen ≤ length es) (len : n ≡ length es) (last : world_of es ≡ 65535) where
    pub world_off_grew : Grew here (off n looks)
    world_off_grew = grew_off n looks (omega (arith, le, len))

    pub world_off_told : WorldsFull here (off n looks)
    world_off_told =
        let x : TraceItem = WorldFull n in
        let true_here : IsTrueOf P es task x = (omega (arith, len), ap world_of (whole n len) ∙ last) in record {
          told = record { learnt = λ xs g. true_goes P es xs task x true_here g; right = λ xs g. true_goes P es xs task x true_here g };
          looks = refl;
          own = refl;
          starts = refl;
          follows = follows_off x refl (λ e. no_world_full P es seen items told n (subst (λ b. world_full_of (next_item b items told) ≡ None) e h) (subst (λ b. is_absence (next_item b items told) ≡ false) e k) (subst (λ b. IsLeft P b es seen left) e l));
        }

    pub world_off_refused : Refused here (off n looks)
    world_off_refused = record { grew = world_off_grew; looks = refl; own = refl; starts = refl }

  -- there is no room for a task
  module _ (n : ℕ) (h : task_full_of (next_item alone items told) ≡ None) (l : IsLeft P alone es seen left) (le : seen ≤ length es) (len : n ≡ length es) (last : tasks_of es ≡ 4096) where
    pub tasks_off_grew : Grew here (off n looks)
    tasks_off_grew = grew_off n looks (omega (arith, le, len))

    pub tasks_off_told : TasksFull here (off n looks)
    tasks_off_told =
        let x : TraceItem = TaskFull n in
        let true_here : IsTrueOf P es task x = (omega (arith, len), ap tasks_of (whole n len) ∙ last) in record {
          told = record { learnt = λ xs g. true_goes P es xs task x true_here g; right = λ xs g. true_goes P es xs task x true_here g };
          looks = refl;
          own = refl;
          starts = refl;
          follows = follows_off x refl (λ e. no_task_full P es seen items told n (subst (λ b. task_full_of (next_item b items told) ≡ None) e h) (subst (λ b. IsLeft P b es seen left) e l));
        }

    pub tasks_off_refused : Refused here (off n looks)
    tasks_off_refused = record { grew = tasks_off_grew; looks = refl; own = refl; starts = refl }

  -- a task that has ended is fetched
  module _ (of n : ℕ) (outcome : Outcome) (h : IsNoFetch (next_item alone items told) of) (le : seen ≤ length es) (len : n ≡ length es) (ended : EndedSo (done_of of es) outcome) where
    pub ended_off_grew : Grew here (off n looks)
    ended_off_grew = grew_off n looks (omega (arith, le, len))

    pub ended_off_told : Fetched here (off n looks) of outcome
    ended_off_told =
        let x : TraceItem = Fetch of outcome n in
        let true_here : IsTrueOf P es task x = (omega (arith, len), subst (λ xs. EndedSo (done_of of xs) outcome) (sym (whole n len)) ended) in record {
          told = record { learnt = λ xs g. true_goes P es xs task x true_here g; right = λ xs g. true_goes P es xs task x true_here g };
          looks = refl;
          own = refl;
          starts = refl;
          follows = follows_off x refl (λ e. no_fetch items told of outcome n (subst (λ b. IsNoFetch (next_item b items told) of) e h));
        }

  -- ---- an event is made

  module _ (e : Event) (apart : start_of task (e ∷ []) ≡ None) (firsts : (p : ℕ) → first_place task p (e ∷ []) ≡ 1) where
    abbrev more : Knows
    more = led_knows P (es ++ e ∷ []) task items told (length (es ++ e ∷ [])) looks true

    longer : length (es ++ e ∷ []) ≡ length es + 1
    longer = length-append es (e ∷ [])

    grew_made : seen ≤ length es → Grew here more
    grew_made le = record {
      program = refl;
      places = refl;
      task = refl;
      start = start_before task es (e ∷ []) apart;
      first = first_before task 0 es (e ∷ []) firsts;
      world = world_more es (e ∷ []);
      seen = omega (arith, le, longer);
      agrees = λ xs g. goes_less es (e ∷ []) xs g;
      learnt = λ i h xs g. h xs (goes_less es (e ∷ []) xs g);
    }

    follows_made : (x : TraceItem) → is_absence (Some x) ≡ false → alone ≡ false → IsMadeBy task es e → (Begins x left → ⊥) → (c : Claim) (trace : List TraceItem) → (task ≡ c.task) × HasMade alone task c.events es × IsOn alone left c.trace trace
        → (task ≡ c.task) × HasMade true task c.events (es ++ e ∷ []) × IsOn true left c.trace (trace ++ x ∷ [])
    follows_made x kind off by far c trace f = (f.0, made_one alone task c.events es e off by f.1, departs_at alone left c.trace trace x kind (λ z. far) f.2)

    -- it is there
    made_there : (xs : List Event) → GoesOn (es ++ e ∷ []) xs → slice_get xs (length es) ≡ Some e
    made_there xs (rest, q) = ap (λ ys. slice_get ys (length es)) (q ∙ append_assoc es (e ∷ []) rest) ∙ at es
      where
        at : (ys : List Event) → slice_get (ys ++ (e ∷ rest)) (length ys) ≡ Some e
        at [] = refl
        at (y ∷ ys) = at ys

  place_is : (e : Event) → length (es ++ e ∷ []) - 1 ≡ length es
  place_is e = let n = length-append es (e ∷ []) in omega (arith, n)

  -- a definition or a deletion: what is told of it, whose it is, and that the task departs with it
  change_made : (e : Event) (x : ℕ → TraceItem) (apart : start_of task (e ∷ []) ≡ None) (firsts : (p : ℕ) → first_place task p (e ∷ []) ≡ 1) → ((xs : List Event) (p : ℕ) → slice_get xs p ≡ Some e → IsTrueOf P xs task (x p))
      → own_events task (length es) (e ∷ []) ≡ x (length es) ∷ [] → ((p : ℕ) → is_absence (Some (x p)) ≡ false) → alone ≡ false → IsMadeBy task es e → ((p : ℕ) → Begins (x p) left → ⊥)
      → Told (more e apart firsts) (x (length (es ++ e ∷ []) - 1)) × (own_events task 0 (es ++ e ∷ []) ≡ own_events task 0 es ++ x (length (es ++ e ∷ []) - 1) ∷ [])
      × ((c : Claim) (trace : List TraceItem) → here.follows c trace → (more e apart firsts).follows c (trace ++ x (length (es ++ e ∷ []) - 1) ∷ []))
  change_made e x apart firsts true_there own_there kind off_now by far =
      let p : length (es ++ e ∷ []) - 1 ≡ length es = place_is e in
      let there : (xs : List Event) → GoesOn (es ++ e ∷ []) xs → IsTrueOf P xs task (x (length (es ++ e ∷ []) - 1)) = λ xs g. subst (λ n. IsTrueOf P xs task (x n)) (sym p) (true_there xs (length es) (made_there e apart firsts xs g)) in (
        record { learnt = there; right = there },
        own_later task es (e ∷ []) ∙ ap (λ xs. own_events task 0 es ++ xs) own_there ∙ ap (λ n. own_events task 0 es ++ x n ∷ []) (sym p),
        follows_made e apart firsts (x (length (es ++ e ∷ []) - 1)) (kind (length (es ++ e ∷ []) - 1)) off_now by (far (length (es ++ e ∷ []) - 1)),
      )

  -- the world of all events
  change_world : (e : Event) (apart : start_of task (e ∷ []) ≡ None) (firsts : (p : ℕ) → first_place task p (e ∷ []) ≡ 1) (w : ℕ) → w ≡ world_of (es ++ e ∷ []) → IsMade (more e apart firsts) w
  change_world e apart firsts w is = record {
    right = λ xs g. ap world_of (first_ones (es ++ e ∷ []) xs g) ∙ sym is;
    world = (omega (arith, is), omega (arith, is));
  }
    where
      first_ones : (ys xs : List Event) → GoesOn ys xs → take (length ys) xs ≡ ys
      first_ones ys xs (rest, q) = ap (take (length ys)) q ∙ at ys
        where
          at : (zs : List Event) → take (length zs) (zs ++ rest) ≡ zs
          at [] = refl
          at (z ∷ zs) = ap (λ us. z ∷ us) (at zs)

  -- a definition
  module _ (site : ℕ) (off_now : alone ≡ false) (h : world_full_of (next_item alone items told) ≡ None) (l : IsLeft P alone es seen left) (le : seen ≤ length es) where
    abbrev def : Event
    def = Ev.Def task site

    abbrev after_def : Knows
    after_def = more def refl (λ p. refl)

    pub define_grew : Grew here after_def
    define_grew = grew_made def refl (λ p. refl) le

    pub define_made : Defined here after_def site
    define_made =
        let m = change_made def (λ p. Def site p) refl (λ p. refl) (λ xs p at. at) (ap (λ b. cond b (Def site (length es) ∷ []) []) (self_eq task)) (λ p. refl) off_now refl
        (λ p. no_def P es seen items told site p (subst (λ b. world_full_of (next_item b items told) ≡ None) off_now h) (subst (λ b. IsLeft P b es seen left) off_now l))
        in
        record {
          told = m.0;
          place = omega (arith, le, longer def refl (λ q. refl));
          looks = refl;
          own = m.1;
          starts = starts_append task es (def ∷ []) ∙ append-nil (own_starts task es);
          follows = m.2;
        }

    pub define_world : (w : ℕ) → w ≡ world_of (es ++ def ∷ []) → IsMade after_def w
    define_world w e = change_world def refl (λ p. refl) w e

  -- a deletion
  module _ (place : ℕ) (off_now : alone ≡ false) (h : world_full_of (next_item alone items told) ≡ None) (k : absent_of place (next_item alone items told) ≡ None) (l : IsLeft P alone es seen left) (le : seen ≤ length es) where
    abbrev del : Event
    del = Ev.Del task place

    abbrev after_del : Knows
    after_del = more del refl (λ p. refl)

    pub delete_grew : Grew here after_del
    delete_grew = grew_made del refl (λ p. refl) le

    pub delete_made : Deleted here after_del place
    delete_made =
        let m = change_made del (λ p. Del place p) refl (λ p. refl) (λ xs p at. at) (ap (λ b. cond b (Del place (length es) ∷ []) []) (self_eq task)) (λ p. refl) off_now refl
        (λ p.
        no_del P es seen items told place p (subst (λ b. world_full_of (next_item b items told) ≡ None) off_now h) (subst (λ b. absent_of place (next_item b items told) ≡ None) off_now k) (subst (λ b. IsLeft P b es seen left) off_now l))
        in
        record {
          told = m.0;
          place = omega (arith, le, longer del refl (λ q. refl));
          looks = refl;
          own = m.1;
          starts = starts_append task es (del ∷ []) ∙ append-nil (own_starts task es);
          follows = m.2;
        }

    pub delete_world : (w : ℕ) → w ≡ world_of (es ++ del ∷ []) → IsMade after_del w
    delete_world w e = change_world del refl (λ p. refl) w e

  -- a spawn
  module _ (start : Start) (started : task < tasks_of es) (off_now : alone ≡ false) (h : task_full_of (next_item alone items told) ≡ None) (l : IsLeft P alone es seen left) (le : seen ≤ length es) where
    abbrev spawn : Event
    spawn = Ev.Spawn task (tasks_of es) start

    other : nat_eq (tasks_of es) task ≡ false
    other = other_eq task (tasks_of es) started

    pub apart_here : start_of task (spawn ∷ []) ≡ None
    apart_here = ap (λ b. cond b (Some start) None) other

    pub firsts_here : (p : ℕ) → first_place task p (spawn ∷ []) ≡ 1
    firsts_here p = ap (λ b. cond b (p + 1) 1) other

    abbrev after_spawn : Knows
    after_spawn = more spawn apart_here firsts_here

    pub spawn_grew : Grew here after_spawn
    spawn_grew = grew_made spawn apart_here firsts_here le

    own_spawn : own_events task (length es) (spawn ∷ []) ≡ Spawn (tasks_of es) (length es) ∷ []
    own_spawn = ap (λ b. cond b (Spawn (tasks_of es) (length es) ∷ []) []) (self_eq task)

    pub spawn_made : Spawned here after_spawn (tasks_of es) start
    spawn_made =
        let p : length (es ++ spawn ∷ []) - 1 ≡ length es = place_is spawn in
        let there : (xs : List Event) → GoesOn (es ++ spawn ∷ []) xs → IsTrueOf P xs task (Spawn (tasks_of es) (length (es ++ spawn ∷ []) - 1)) = λ xs g. (start, subst (λ n. slice_get xs n ≡ Some spawn) (sym p) (made_there spawn apart_here firsts_here xs g)) in record {
          told = record { learnt = there; right = there };
          place = omega (arith, le, longer spawn apart_here firsts_here);
          looks = refl;
          own = own_later task es (spawn ∷ []) ∙ ap (λ xs. own_events task 0 es ++ xs) own_spawn ∙ ap (λ n. own_events task 0 es ++ Spawn (tasks_of es) n ∷ []) (sym p);
          starts = starts_append task es (spawn ∷ []) ∙ ap (λ b. own_starts task es ++ cond b (start ∷ []) []) (self_eq task);
          follows = follows_made spawn apart_here firsts_here (Spawn (tasks_of es) (length (es ++ spawn ∷ []) - 1)) refl off_now (refl, refl)
              (no_spawn P es seen items told (tasks_of es) (length (es ++ spawn ∷ []) - 1) (subst (λ b. task_full_of (next_item b items told) ≡ None) off_now h) (subst (λ b. IsLeft P b es seen left) off_now l));
        }

  -- the end of a task that was fetched
  module _ (of : ℕ) (ended : Record) (off_now : alone ≡ false) (h : IsNoFetch (next_item alone items told) of) (le : seen ≤ length es) (none : done_of of es ≡ None) where
    abbrev done : Event
    done = Ev.Done of ended

    abbrev after_done : Knows
    after_done = more done refl (λ p. refl)

    pub end_grew : Grew here after_done
    end_grew = grew_made done refl (λ p. refl) le

    done_there : done_of of (es ++ done ∷ []) ≡ Some ended
    done_there = done_later of es (done ∷ []) none ∙ ap (λ b. cond b (Some ended) None) (self_eq of)

    first_all : (ys : List Event) → take (length ys) ys ≡ ys
    first_all [] = refl
    first_all (y ∷ ys) = ap (λ zs. y ∷ zs) (first_all ys)

    true_then : IsTrueOf P (es ++ done ∷ []) task (Fetch of ended.outcome (length (es ++ done ∷ [])))
    true_then = (omega arith, subst (λ o. EndedSo o ended.outcome) (sym (ap (done_of of) (first_all (es ++ done ∷ [])) ∙ done_there)) refl)

    pub end_fetched : Fetched here after_done of ended.outcome
    end_fetched =
        let x : TraceItem = Fetch of ended.outcome (length (es ++ done ∷ [])) in record {
          told = record { learnt = λ xs g. true_goes P (es ++ done ∷ []) xs task x true_then g; right = λ xs g. true_goes P (es ++ done ∷ []) xs task x true_then g };
          looks = refl;
          own = own_later task es (done ∷ []) ∙ append-nil (own_events task 0 es);
          starts = starts_append task es (done ∷ []) ∙ append-nil (own_starts task es);
          follows = follows_made done refl (λ q. refl) x refl off_now tt (no_fetch items told of ended.outcome (length (es ++ done ∷ [])) (subst (λ b. IsNoFetch (next_item b items told) of) off_now h));
        }

  -- ---- what the task does not know

  -- the world of fewer events is no newer
  first_less : (n m : ℕ) → n ≤ m → world_of (take n es) ≤ world_of (take m es)
  first_less n m le = subst (λ xs. world_of xs ≤ world_of (take m es)) (shorter n m es le) (first_at_most (take m es) n)
    where
      shorter : (n m : ℕ) (xs : List Event) → n ≤ m → take n (take m xs) ≡ take n xs
      shorter zero m xs le = refl
      shorter (suc n) zero xs le = absurd (omega (arith, le))
      shorter (suc n) (suc m) [] le = refl
      shorter (suc n) (suc m) (x ∷ xs) le = ap (λ ys. x ∷ ys) (shorter n m xs (omega (arith, le)))

  -- that the world is full: it is not, or it stands next that there is nothing to delete, before which it was not
  pub not_full : IsLeft P alone es seen left → (world_of es ≡ 65535 → is_absence (next_item alone items told) ≡ true) → IsFull here → ⊥
  not_full l room full = by (sizes (world_of es))
    where
      full_then : world_of (take seen es) ≡ 65535
      full_then = (full es (goes_self es)).1

      sizes : (n : ℕ) → (n < 65535) ⊎ ((n ≡ 65535) ⊎ (65535 < n))
      sizes n = grind arith

      at_last : (place : ℕ) × (p : ℕ) × (next_item alone items told ≡ Some (Absent place p)) → ⊥
      at_last (place, p, e) =
          let t = stretch_here (Absent place p) e l in
          let less = first_less seen p t.0 in
          let open_then = t.2.room in
          omega (arith, full_then, less, open_then)

      too_many : (b : Bool) → alone ≡ b → 65535 < world_of es → ⊥
      too_many false off m = let few = stretch_few P es seen left (subst (λ b. IsLeft P b es seen left) off l) in omega (arith, few, m)
      too_many true off m =
          let all : seen ≡ length es = (subst (λ b. IsLeft P b es seen left) off l) m in
          let same = ap world_of (whole seen all) in
          omega (arith, full_then, same, m)

      by : (world_of es < 65535) ⊎ ((world_of es ≡ 65535) ⊎ (65535 < world_of es)) → ⊥
      by (inl m) = let most = first_at_most es seen in omega (arith, m, full_then, most)
      by (inr (inl m)) = at_last (some_absence (next_item alone items told) (room m))
      by (inr (inr m)) = too_many alone refl m

  -- the task stands before an absence
  pub not_full_there : (place p : ℕ) → absent_of place (next_item alone items told) ≡ Some p → IsLeft P alone es seen left → IsFull here → ⊥
  not_full_there place p h l full =
      let t = absent_here place p h l in
      let less = first_less seen p t.0 in
      let open_then = t.2.room in
      omega (arith, (full es (goes_self es)).1, less, open_then)

  pub tasks_not_full : tasks_of es < 4096 → AreTasksFull here → ⊥
  tasks_not_full l full = let w = (full es (goes_self es)).1 in let most = tasks_first es seen in absurd (omega (arith, l, w, most))
    where
      tasks_first : (xs : List Event) (p : ℕ) → tasks_of (take p xs) ≤ tasks_of xs
      tasks_first [] zero = omega arith
      tasks_first [] (suc p) = omega arith
      tasks_first (x ∷ xs) zero = some (x ∷ xs)
        where
          some : (ys : List Event) → 1 ≤ tasks_of ys
          some [] = omega arith
          some (Ev.Spawn by child start ∷ ys) = omega arith
          some (Ev.Begin fuel ∷ ys) = some ys
          some (Ev.Key key ∷ ys) = some ys
          some (Ev.Fill key site first ∷ ys) = some ys
          some (Ev.Def by site ∷ ys) = some ys
          some (Ev.Del by place ∷ ys) = some ys
          some (Ev.Done by ended ∷ ys) = some ys
      tasks_first (Ev.Spawn by child start ∷ xs) (suc p) = let k = tasks_first xs p in omega (arith, k)
      tasks_first (Ev.Begin fuel ∷ xs) (suc p) = tasks_first xs p
      tasks_first (Ev.Key key ∷ xs) (suc p) = tasks_first xs p
      tasks_first (Ev.Fill key site first ∷ xs) (suc p) = tasks_first xs p
      tasks_first (Ev.Def by site ∷ xs) (suc p) = tasks_first xs p
      tasks_first (Ev.Del by place ∷ xs) (suc p) = tasks_first xs p
      tasks_first (Ev.Done by ended ∷ xs) (suc p) = tasks_first xs p

  -- ---- a choice

  by_site : (f w : ℕ) (ts : List Ty) (c : Choice) → w ≤ world_of es → IsOfWorld c w → Selects P es f ts w c → (xs : List Event) → GoesOn es xs → SelectsBySite here xs f ts w c
  by_site f w ts C.None le o s xs (rest, q) = subst (λ ys. Selects P ys f ts w C.None) (sym q) (selects_on P es rest f ts w C.None le s)
  by_site f w ts (C.Ambiguous a b) le o s xs (rest, q) = subst (λ ys. Selects P ys f ts w (C.Ambiguous a b)) (sym q) (selects_on P es rest f ts w (C.Ambiguous a b) le s)
  by_site f w ts (C.Method d) le o s xs (rest, q) = (
    d,
    subst (λ ys. Selects P ys f ts w (C.Method d)) (sym q) (selects_on P es rest f ts w (C.Method d) le s),
    ap (λ ys. site_of ys d) q ∙ site_more P es rest d (omega (arith, o.1, le)),
  )

  pub right : (f w : ℕ) (ts : List Ty) (c : Choice) → w ≤ world_of es → IsOfWorld c w → Selects P es f ts w c → IsRight here f ts w c
  right f w ts c le o s = record { right = λ xs g. by_site f w ts c le o s xs g; kept = λ xs g. tt; of_world = o }
