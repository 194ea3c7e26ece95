-- Lists of events that are cut at a place, their entries, and where a task ends.
use Rattle.std.proofs.Common.{◌≡◌, ◌∙◌, ap, sym, subst, refl, ℕ, zero, suc, ◌+◌, ◌<◌, ◌≤◌, arith, Bool, true, false, cond, nat_eq, List, [], ◌∷◌, ◌++◌, length, take, slice_get, append-nil, append_assoc, Some, None}
use Rattle.jl_program.specs.declared.tree.Program.{Program}
use Rattle.jl_calculus.specs.declared.history.Event.{Event}
use Rattle.jl_calculus.specs.declared.history.Event.TheVariants as Ev
use Rattle.jl_calculus.specs.declared.history.Record.{Record}
use Rattle.jl_calculus.specs.Legal.{fuel_of, start_of, MayCome, EachAfter}
use Rattle.jl_calculus.specs.Past.{tasks_of, done_of}
use Rattle.jl_calculus.specs.Ranges.{keys_of}
use Rattle.jl_lead.proofs.EventFacts.{other_eq, tasks_append}
use Rattle.jl_report.specs.declared.entry.Entry.{Entry}
use Rattle.jl_report.specs.HistoryText.{steps_of, entry_of, keys_with, entries_from, entries_of}
use Rattle.jl_causes.specs.Sketch.{AllTell}
use Rattle.jl_replay.specs.Told.{trace_told}

-- ---- lists

-- what stands at a place, and what comes after it
pub cut_at : {X : Type 0} (xs : List X) (n : ℕ) (x : X) → slice_get xs n ≡ Some x → (more : List X) × (xs ≡ take n xs ++ x ∷ more)
cut_at [] zero x g = absurd (cc g)
cut_at [] (suc n) x g = absurd (cc g)
cut_at (y ∷ xs) zero x g = let same : y ≡ x = cc g in (xs, ap (λ z. z ∷ xs) same)
cut_at (y ∷ xs) (suc n) x g =
    let (more, q) = cut_at xs n x g in
    (more, ap (λ zs. y ∷ zs) q)

pub get_at : {X : Type 0} (xs more : List X) (x : X) → slice_get (xs ++ x ∷ more) (length xs) ≡ Some x
get_at [] more x = refl
get_at (y ∷ xs) more x = get_at xs more x

-- what stands after the first of a list
pub get_front : {X : Type 0} (xs ys : List X) (x : X) → slice_get (xs ++ ys) (length xs) ≡ Some x → (more : List X) × (ys ≡ x ∷ more)
get_front [] [] x g = absurd (cc g)
get_front [] (y ∷ ys) x g = let same : y ≡ x = cc g in (ys, ap (λ z. z ∷ ys) same)
get_front (z ∷ xs) ys x g = get_front xs ys x g

pub take_front : {X : Type 0} (xs ys : List X) → take (length xs) (xs ++ ys) ≡ xs
take_front [] ys = refl
take_front (x ∷ xs) ys = ap (λ zs. x ∷ zs) (take_front xs ys)

next_taken : {X : Type 0} (n : ℕ) (xs : List X) (x : X) → slice_get xs n ≡ Some x → take (suc n) xs ≡ take n xs ++ x ∷ []
next_taken zero [] x g = absurd (cc g)
next_taken (suc n) [] x g = absurd (cc g)
next_taken zero (y ∷ xs) x g = let same : y ≡ x = cc g in ap (λ z. z ∷ []) same
next_taken (suc n) (y ∷ xs) x g = ap (λ zs. y ∷ zs) (next_taken n xs x g)

pub take_next : {X : Type 0} (n : ℕ) (xs : List X) (x : X) → slice_get xs n ≡ Some x → take (n + 1) xs ≡ take n xs ++ x ∷ []
take_next n xs x g = let one : n + 1 ≡ suc n = omega arith in ap (λ m. take m xs) one ∙ next_taken n xs x g

pub no_more : {X : Type 0} (xs ys : List X) → length (xs ++ ys) ≡ length xs → ys ≡ []
no_more [] [] h = refl
no_more [] (y ∷ ys) h = absurd (omega (arith, h))
no_more (x ∷ xs) ys h = no_more xs ys (omega (arith, h))

-- ---- a condition on each event

module _ (R : List Event → Event → Type 0) where
  pub each_front : (past es more : List Event) → EachAfter R past (es ++ more) → EachAfter R past es
  each_front past [] more h = tt
  each_front past (e ∷ es) more h = (h.0, each_front (past ++ e ∷ []) es more h.1)

  pub each_rest : (past es more : List Event) → EachAfter R past (es ++ more) → EachAfter R (past ++ es) more
  each_rest past [] more h = subst (λ xs. EachAfter R xs more) (sym (append-nil past)) h
  each_rest past (e ∷ es) more h = subst (λ xs. EachAfter R xs more) (append_assoc past (e ∷ []) es) (each_rest (past ++ e ∷ []) es more h.1)

  pub each_in : (es more : List Event) (e : Event) → EachAfter R [] (es ++ e ∷ more) → R es e
  each_in es more e h = (each_rest [] es (e ∷ more) h).0

  push : (past es : List Event) (e : Event) → EachAfter R past es → R (past ++ es) e → EachAfter R past (es ++ e ∷ [])
  push past [] e h r = (subst (λ xs. R xs e) (append-nil past) r, tt)
  push past (d ∷ es) e h r = (h.0, push (past ++ d ∷ []) es e h.1 (subst (λ xs. R xs e) (sym (append_assoc past (d ∷ []) es)) r))

  pub each_push : (es : List Event) (e : Event) → EachAfter R [] es → R es e → EachAfter R [] (es ++ e ∷ [])
  each_push es e h r = push [] es e h r

module _ (R Q : List Event → Event → Type 0) (to : (past : List Event) (e : Event) → R past e → Q past e) where
  pub each_to : (past es : List Event) → EachAfter R past es → EachAfter Q past es
  each_to past [] h = tt
  each_to past (e ∷ es) h = (to past e h.0, each_to (past ++ e ∷ []) es h.1)

-- ---- what stays when more comes

pub fuel_stays : (es more : List Event) (fuel : ℕ) → fuel_of es ≡ Some fuel → fuel_of (es ++ more) ≡ Some fuel
fuel_stays [] more fuel h = absurd (cc h)
fuel_stays (Ev.Begin f ∷ es) more fuel h = h
fuel_stays (Ev.Key key ∷ es) more fuel h = absurd (cc h)
fuel_stays (Ev.Fill key site first ∷ es) more fuel h = absurd (cc h)
fuel_stays (Ev.Def by site ∷ es) more fuel h = absurd (cc h)
fuel_stays (Ev.Del by place ∷ es) more fuel h = absurd (cc h)
fuel_stays (Ev.Spawn parent child start ∷ es) more fuel h = absurd (cc h)
fuel_stays (Ev.Done by ended ∷ es) more fuel h = absurd (cc h)

-- a task that was started is not started again
pub not_again : (P : Program) (t : ℕ) (past more : List Event) → t < tasks_of past → EachAfter (MayCome P) past more → start_of t more ≡ None
not_again P t past [] l h = refl
not_again P t past (Ev.Begin fuel ∷ es) l h = not_again P t (past ++ Ev.Begin fuel ∷ []) es (omega (arith, l, tasks_append past (Ev.Begin fuel ∷ []))) h.1
not_again P t past (Ev.Key key ∷ es) l h = not_again P t (past ++ Ev.Key key ∷ []) es (omega (arith, l, tasks_append past (Ev.Key key ∷ []))) h.1
not_again P t past (Ev.Fill key site first ∷ es) l h = not_again P t (past ++ Ev.Fill key site first ∷ []) es (omega (arith, l, tasks_append past (Ev.Fill key site first ∷ []))) h.1
not_again P t past (Ev.Def by site ∷ es) l h = not_again P t (past ++ Ev.Def by site ∷ []) es (omega (arith, l, tasks_append past (Ev.Def by site ∷ []))) h.1
not_again P t past (Ev.Del by place ∷ es) l h = not_again P t (past ++ Ev.Del by place ∷ []) es (omega (arith, l, tasks_append past (Ev.Del by place ∷ []))) h.1
not_again P t past (Ev.Done by ended ∷ es) l h = not_again P t (past ++ Ev.Done by ended ∷ []) es (omega (arith, l, tasks_append past (Ev.Done by ended ∷ []))) h.1
not_again P t past (Ev.Spawn parent child start ∷ es) l h =
    let new : child ≡ tasks_of past = h.0.next in
    let later : t < child = omega (arith, l, new) in
    ap (λ b. cond b (Some start) (start_of t es)) (other_eq t child later)
    ∙ not_again P t (past ++ Ev.Spawn parent child start ∷ []) es (omega (arith, l, tasks_append past (Ev.Spawn parent child start ∷ []))) h.1

pub tasks_some : (es : List Event) → 1 ≤ tasks_of es
tasks_some [] = omega arith
tasks_some (Ev.Spawn parent child start ∷ es) = omega (arith, tasks_some es)
tasks_some (Ev.Begin fuel ∷ es) = tasks_some es
tasks_some (Ev.Key key ∷ es) = tasks_some es
tasks_some (Ev.Fill key site first ∷ es) = tasks_some es
tasks_some (Ev.Def by site ∷ es) = tasks_some es
tasks_some (Ev.Del by place ∷ es) = tasks_some es
tasks_some (Ev.Done by ended ∷ es) = tasks_some es

-- ---- the end of a task

-- the events up to the end of a task, and those after it
pub record EndsIn (xs : List Event) (t : ℕ) (ended : Record) : Type 0 where
  pub mid : List Event
  pub tail : List Event
  pub is : xs ≡ mid ++ Ev.Done t ended ∷ tail

ends_later : (xs : List Event) (t : ℕ) (r : Record) (e : Event) → EndsIn xs t r → EndsIn (e ∷ xs) t r
ends_later xs t r e h = record { mid = e ∷ h.mid; tail = h.tail; is = ap (λ zs. e ∷ zs) h.is }

pub ends_in : (xs : List Event) (t : ℕ) (r : Record) → done_of t xs ≡ Some r → EndsIn xs t r
ends_in [] t r h = absurd (cc h)
ends_in (Ev.Begin fuel ∷ xs) t r h = ends_later xs t r (Ev.Begin fuel) (ends_in xs t r h)
ends_in (Ev.Key key ∷ xs) t r h = ends_later xs t r (Ev.Key key) (ends_in xs t r h)
ends_in (Ev.Fill key site first ∷ xs) t r h = ends_later xs t r (Ev.Fill key site first) (ends_in xs t r h)
ends_in (Ev.Def by site ∷ xs) t r h = ends_later xs t r (Ev.Def by site) (ends_in xs t r h)
ends_in (Ev.Del by place ∷ xs) t r h = ends_later xs t r (Ev.Del by place) (ends_in xs t r h)
ends_in (Ev.Spawn parent child start ∷ xs) t r h = ends_later xs t r (Ev.Spawn parent child start) (ends_in xs t r h)
ends_in (Ev.Done by ended ∷ xs) t r h = go (nat_eq by t) refl h (λ k. ends_in xs t r k)
  where
    go : (b : Bool) → nat_eq by t ≡ b → cond b (Some ended) (done_of t xs) ≡ Some r → (done_of t xs ≡ Some r → EndsIn xs t r) → EndsIn (Ev.Done by ended ∷ xs) t r
    go true q k more =
        let one : by ≡ t = grind (arith, q) in
        let same : ended ≡ r = cc k in
        record { mid = []; tail = xs; is = λ i. Ev.Done (one i) (same i) ∷ xs }
    go false q k more = ends_later xs t r (Ev.Done by ended) (more k)

-- the trace that the entries tell of a task is that of its end
pub trace_is : (P : Program) (k t : ℕ) (xs : List Event) (r : Record) → done_of t xs ≡ Some r → trace_told t (entries_from P k xs) ≡ steps_of r.trace
trace_is P k t [] r h = absurd (cc h)
trace_is P k t (Ev.Begin fuel ∷ xs) r h = trace_is P k t xs r h
trace_is P k t (Ev.Key key ∷ xs) r h = trace_is P (k + 1) t xs r h
trace_is P k t (Ev.Fill key site first ∷ xs) r h = trace_is P k t xs r h
trace_is P k t (Ev.Def by site ∷ xs) r h = trace_is P k t xs r h
trace_is P k t (Ev.Del by place ∷ xs) r h = trace_is P k t xs r h
trace_is P k t (Ev.Spawn parent child start ∷ xs) r h = trace_is P k t xs r h
trace_is P k t (Ev.Done by ended ∷ xs) r h = go (nat_eq by t) h (λ m. trace_is P k t xs r m)
  where
    go : (b : Bool) → cond b (Some ended) (done_of t xs) ≡ Some r → (done_of t xs ≡ Some r → trace_told t (entries_from P k xs) ≡ steps_of r.trace)
        → cond b (steps_of ended.trace) (trace_told t (entries_from P k xs)) ≡ steps_of r.trace
    go true m more =
        let same : ended ≡ r = cc m in
        ap (λ (q : Record). steps_of q.trace) same
    go false m more = more m

-- ---- entries

keys_step : (k : ℕ) (e : Event) (es : List Event) → keys_with k e + length (keys_of es) ≡ k + length (keys_of (e ∷ es))
keys_step k (Ev.Begin fuel) es = refl
keys_step k (Ev.Key key) es = omega arith
keys_step k (Ev.Fill key site first) es = refl
keys_step k (Ev.Def by site) es = refl
keys_step k (Ev.Del by place) es = refl
keys_step k (Ev.Spawn parent child start) es = refl
keys_step k (Ev.Done by ended) es = refl

pub entries_append : (P : Program) (k : ℕ) (es more : List Event) → entries_from P k (es ++ more) ≡ entries_from P k es ++ entries_from P (k + length (keys_of es)) more
entries_append P k [] more = let none : k ≡ k + 0 = omega arith in ap (λ m. entries_from P m more) none
entries_append P k (e ∷ es) more =
    ap (λ xs. entry_of P k e ∷ xs) (entries_append P (keys_with k e) es more ∙ ap (λ m. entries_from P (keys_with k e) es ++ entries_from P m more) (keys_step k e es))

pub entries_length : (P : Program) (k : ℕ) (es : List Event) → length (entries_from P k es) ≡ length es
entries_length P k [] = refl
entries_length P k (e ∷ es) = ap suc (entries_length P (keys_with k e) es)

-- one more event
pub entries_more : (P : Program) (es more : List Event) (e : Event) → entries_of P (es ++ e ∷ more) ≡ entries_of P es ++ entry_of P (length (keys_of es)) e ∷ entries_from P (keys_with (length (keys_of es)) e) more
entries_more P es more e =
    let none : 0 + length (keys_of es) ≡ length (keys_of es) = omega arith in
    entries_append P 0 es (e ∷ more) ∙ ap (λ m. entries_of P es ++ entries_from P m (e ∷ more)) none

-- the entry of the next event stands after those of these
pub entry_next : (P : Program) (es more : List Event) (e : Event) → slice_get (entries_of P (es ++ e ∷ more)) (length es) ≡ Some (entry_of P (length (keys_of es)) e)
entry_next P es more e =
    ap (λ xs. slice_get xs (length es)) (entries_more P es more e)
    ∙ ap (λ n. slice_get (entries_of P es ++ entry_of P (length (keys_of es)) e ∷ entries_from P (keys_with (length (keys_of es)) e) more) n) (sym (entries_length P 0 es))
    ∙ get_at (entries_of P es) (entries_from P (keys_with (length (keys_of es)) e) more) (entry_of P (length (keys_of es)) e)

-- the entry at a place is that of the event there, with the keys before it
pub entry_there : (P : Program) (k : ℕ) (es : List Event) (n : ℕ) (x : Entry) → slice_get (entries_from P k es) n ≡ Some x
    → (e : Event) × (slice_get es n ≡ Some e) × (entry_of P (k + length (keys_of (take n es))) e ≡ x)
entry_there P k [] zero x g = absurd (cc g)
entry_there P k [] (suc n) x g = absurd (cc g)
entry_there P k (d ∷ es) zero x g =
    let none : k + 0 ≡ k = omega arith in
    let same : entry_of P k d ≡ x = cc g in
    (d, refl, ap (λ m. entry_of P m d) none ∙ same)
entry_there P k (d ∷ es) (suc n) x g =
    let (e, at, is) = entry_there P (keys_with k d) es n x g in
    (e, at, sym (ap (λ m. entry_of P m e) (keys_step k d (take n es))) ∙ is)

-- how many keys and tasks the entries tell
pub keys_told : (P : Program) (k : ℕ) (es ds : List Event) → AllTell P (entries_from P k es) ds → length (keys_of ds) ≡ length (keys_of es)
keys_told P k [] ds h = ap (λ xs. length (keys_of xs)) h
keys_told P k (e ∷ es) [] h = absurd h
keys_told P k (Ev.Begin fuel ∷ es) (d ∷ ds) h = ap (λ x. length (keys_of (x ∷ ds))) h.0 ∙ keys_told P k es ds h.1
keys_told P k (Ev.Key key ∷ es) (d ∷ ds) h = ap (λ x. length (keys_of (x ∷ ds))) h.0.2 ∙ ap suc (keys_told P (k + 1) es ds h.1)
keys_told P k (Ev.Fill key site first ∷ es) (d ∷ ds) h = ap (λ x. length (keys_of (x ∷ ds))) h.0 ∙ keys_told P k es ds h.1
keys_told P k (Ev.Def by site ∷ es) (d ∷ ds) h = ap (λ x. length (keys_of (x ∷ ds))) h.0 ∙ keys_told P k es ds h.1
keys_told P k (Ev.Del by place ∷ es) (d ∷ ds) h = ap (λ x. length (keys_of (x ∷ ds))) h.0 ∙ keys_told P k es ds h.1
keys_told P k (Ev.Spawn parent child start ∷ es) (d ∷ ds) h = ap (λ x. length (keys_of (x ∷ ds))) h.0 ∙ keys_told P k es ds h.1
keys_told P k (Ev.Done by ended ∷ es) (d ∷ ds) h = ap (λ x. length (keys_of (x ∷ ds))) h.0 ∙ keys_told P k es ds h.1

pub tasks_told : (P : Program) (k : ℕ) (es ds : List Event) → AllTell P (entries_from P k es) ds → tasks_of ds ≡ tasks_of es
tasks_told P k [] ds h = ap tasks_of h
tasks_told P k (e ∷ es) [] h = absurd h
tasks_told P k (Ev.Begin fuel ∷ es) (d ∷ ds) h = ap (λ x. tasks_of (x ∷ ds)) h.0 ∙ tasks_told P k es ds h.1
tasks_told P k (Ev.Key key ∷ es) (d ∷ ds) h = ap (λ x. tasks_of (x ∷ ds)) h.0.2 ∙ tasks_told P (k + 1) es ds h.1
tasks_told P k (Ev.Fill key site first ∷ es) (d ∷ ds) h = ap (λ x. tasks_of (x ∷ ds)) h.0 ∙ tasks_told P k es ds h.1
tasks_told P k (Ev.Def by site ∷ es) (d ∷ ds) h = ap (λ x. tasks_of (x ∷ ds)) h.0 ∙ tasks_told P k es ds h.1
tasks_told P k (Ev.Del by place ∷ es) (d ∷ ds) h = ap (λ x. tasks_of (x ∷ ds)) h.0 ∙ tasks_told P k es ds h.1
tasks_told P k (Ev.Spawn parent child start ∷ es) (d ∷ ds) h = ap (λ x. tasks_of (x ∷ ds)) h.0 ∙ ap (λ n. 1 + n) (tasks_told P k es ds h.1)
tasks_told P k (Ev.Done by ended ∷ es) (d ∷ ds) h = ap (λ x. tasks_of (x ∷ ds)) h.0 ∙ tasks_told P k es ds h.1
