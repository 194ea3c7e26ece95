-- Steps up to the next definition, deletion or spawn of a task: what is told of them, their order, and that they are true.
use Rattle.std.proofs.Common.{◌≡◌, ◌∙◌, ap, sym, subst, refl, ℕ, zero, suc, ◌+◌, ◌≤◌, arith, true, false, cond, nat_eq, List, [], ◌∷◌, ◌++◌, length, take, drop, take-take, IsSome}
use Rattle.jl_program.specs.declared.tree.Program.{Program}
use Rattle.jl_calculus.specs.declared.history.Event.{Event}
use Rattle.jl_calculus.specs.declared.history.TraceItem.{TraceItem}
use Rattle.jl_calculus.specs.declared.history.TraceItem.TheVariants as I
use Rattle.jl_calculus.specs.Legal.{AreTrueOf}
use Rattle.jl_model.specs.declared.limits.TheConstants.{MOST_WORLDS}
use Rattle.jl_calculus.specs.World.{world_of}
use Rattle.jl_calculus.specs.Past.{done_of, EndedSo, IsInOrder, place, past, own_items}
use Rattle.jl_lead.specs.Stretch.{IsStretch}
use Rattle.jl_report.specs.declared.entry.Step.{Step}
use Rattle.jl_report.specs.declared.entry.Step.TheVariants as S
use Rattle.jl_report.specs.HistoryText.{step_of}
use Rattle.jl_causes.specs.Sketch.{untold, item_of, items_of}
use Rattle.jl_causes.proofs.AlikeLemmas.{AreAlike, Same, alike_take, same, world_to, absent_to}
use Rattle.jl_causes.proofs.TraceLemmas.{ended_is, is_ended}
use Rattle.jl_replay.specs.Told.{steps_before, stretch, outcome_or_nothing, items_told, is_own}
use Rattle.jl_replay.proofs.FirstRound.{done_whole}
use Rattle.jl_replay.proofs.Items.{order_high}

-- ---- steps and items

pub step_item : (s : Step) → step_of (item_of s) ≡ s
step_item (S.Look w p) = refl
step_item (S.Def site p) = refl
step_item (S.Spawn child p) = refl
step_item (S.Fetch task p) = refl
step_item (S.WorldFull p) = refl
step_item (S.TaskFull p) = refl
step_item (S.Del at p) = refl
step_item (S.Absent at p) = refl

pub own_parts : (ss rest : List Step) → own_items (items_of (ss ++ rest)) ≡ own_items (items_of ss) ++ own_items (items_of rest)
own_parts [] rest = refl
own_parts (S.Def site p ∷ ss) rest = ap (λ is. I.Def site p ∷ is) (own_parts ss rest)
own_parts (S.Spawn child p ∷ ss) rest = ap (λ is. I.Spawn child p ∷ is) (own_parts ss rest)
own_parts (S.Look w p ∷ ss) rest = own_parts ss rest
own_parts (S.Fetch task p ∷ ss) rest = own_parts ss rest
own_parts (S.WorldFull p ∷ ss) rest = own_parts ss rest
own_parts (S.TaskFull p ∷ ss) rest = own_parts ss rest
own_parts (S.Del at p ∷ ss) rest = ap (λ is. I.Del at p ∷ is) (own_parts ss rest)
own_parts (S.Absent at p ∷ ss) rest = own_parts ss rest

-- the first own step of a list is the one after its stretch
pub next_own : (ss : List Step) (i : TraceItem) (is : List TraceItem) → own_items (items_of ss) ≡ i ∷ is → (more : List Step) × (ss ≡ stretch ss ++ step_of i ∷ more)
next_own [] i is h = absurd (cc h)
next_own (S.Def site p ∷ ss) i is h = let e : I.Def site p ≡ i = cc h in (ss, ap (λ (k : TraceItem). step_of k ∷ ss) e)
next_own (S.Spawn child p ∷ ss) i is h = let e : I.Spawn child p ≡ i = cc h in (ss, ap (λ (k : TraceItem). step_of k ∷ ss) e)
next_own (S.Look w p ∷ ss) i is h = let (more, e) = next_own ss i is h in (more, ap (λ xs. S.Look w p ∷ xs) e)
next_own (S.Fetch task p ∷ ss) i is h = let (more, e) = next_own ss i is h in (more, ap (λ xs. S.Fetch task p ∷ xs) e)
next_own (S.WorldFull p ∷ ss) i is h = let (more, e) = next_own ss i is h in (more, ap (λ xs. S.WorldFull p ∷ xs) e)
next_own (S.TaskFull p ∷ ss) i is h = let (more, e) = next_own ss i is h in (more, ap (λ xs. S.TaskFull p ∷ xs) e)
next_own (S.Del at p ∷ ss) i is h = let e : I.Del at p ≡ i = cc h in (ss, ap (λ (k : TraceItem). step_of k ∷ ss) e)
next_own (S.Absent at p ∷ ss) i is h = let (more, e) = next_own ss i is h in (more, ap (λ xs. S.Absent at p ∷ xs) e)

pub none_own : (ss : List Step) → own_items (items_of ss) ≡ [] → stretch ss ≡ ss
none_own [] h = refl
none_own (S.Def site p ∷ ss) h = absurd (cc h)
none_own (S.Spawn child p ∷ ss) h = absurd (cc h)
none_own (S.Look w p ∷ ss) h = ap (λ xs. S.Look w p ∷ xs) (none_own ss h)
none_own (S.Fetch task p ∷ ss) h = ap (λ xs. S.Fetch task p ∷ xs) (none_own ss h)
none_own (S.WorldFull p ∷ ss) h = ap (λ xs. S.WorldFull p ∷ xs) (none_own ss h)
none_own (S.TaskFull p ∷ ss) h = ap (λ xs. S.TaskFull p ∷ xs) (none_own ss h)
none_own (S.Del at p ∷ ss) h = absurd (cc h)
none_own (S.Absent at p ∷ ss) h = ap (λ xs. S.Absent at p ∷ xs) (none_own ss h)

-- ---- order

pub order_front : (low high : ℕ) (ss : List Step) (s : Step) (more : List Step) → IsInOrder low (items_of (ss ++ s ∷ more)) high → IsInOrder low (items_of ss) (place (item_of s))
order_front low high [] s more h = h.0
order_front low high (x ∷ ss) s more h = (h.0, order_front (past (item_of x)) high ss s more h.1)

pub order_rest : (low high : ℕ) (ss : List Step) (s : Step) (more : List Step) → IsInOrder low (items_of (ss ++ s ∷ more)) high → IsInOrder (past (item_of s)) (items_of more) high
order_rest low high [] s more h = h.1
order_rest low high (x ∷ ss) s more h = order_rest (past (item_of x)) high ss s more h.1

lower_eq : (q n : ℕ) → q + 1 ≤ n → nat_eq q n ≡ false
lower_eq q n l = grind (arith, l)

same_eq : (q n : ℕ) → q ≡ n → nat_eq q n ≡ true
same_eq q n e = grind (arith, e)

-- what stands before an own step at a place
pub steps_cut : (n low : ℕ) (ss : List Step) (s : Step) (more : List Step) → is_own s ≡ true → place (item_of s) ≡ n → IsInOrder low (items_of ss) n → steps_before n (ss ++ s ∷ more) ≡ ss
steps_cut n low [] (S.Def site p) more own at h = ap (λ b. cond b [] (S.Def site p ∷ steps_before n more)) (same_eq p n at)
steps_cut n low [] (S.Spawn child p) more own at h = ap (λ b. cond b [] (S.Spawn child p ∷ steps_before n more)) (same_eq p n at)
steps_cut n low [] (S.Look w p) more own at h = absurd (cc own)
steps_cut n low [] (S.Fetch task p) more own at h = absurd (cc own)
steps_cut n low [] (S.WorldFull p) more own at h = absurd (cc own)
steps_cut n low [] (S.TaskFull p) more own at h = absurd (cc own)
steps_cut n low [] (S.Del z p) more own at h = ap (λ b. cond b [] (S.Del z p ∷ steps_before n more)) (same_eq p n at)
steps_cut n low [] (S.Absent z p) more own at h = absurd (cc own)
steps_cut n low (S.Def site q ∷ ss) s more own at h =
    ap (λ b. cond b [] (S.Def site q ∷ steps_before n (ss ++ s ∷ more))) (lower_eq q n (order_high (q + 1) (items_of ss) n h.1))
    ∙ ap (λ xs. S.Def site q ∷ xs) (steps_cut n (q + 1) ss s more own at h.1)
steps_cut n low (S.Spawn child q ∷ ss) s more own at h =
    ap (λ b. cond b [] (S.Spawn child q ∷ steps_before n (ss ++ s ∷ more))) (lower_eq q n (order_high (q + 1) (items_of ss) n h.1))
    ∙ ap (λ xs. S.Spawn child q ∷ xs) (steps_cut n (q + 1) ss s more own at h.1)
steps_cut n low (S.Look w q ∷ ss) s more own at h = ap (λ xs. S.Look w q ∷ xs) (steps_cut n q ss s more own at h.1)
steps_cut n low (S.Fetch task q ∷ ss) s more own at h = ap (λ xs. S.Fetch task q ∷ xs) (steps_cut n q ss s more own at h.1)
steps_cut n low (S.WorldFull q ∷ ss) s more own at h = ap (λ xs. S.WorldFull q ∷ xs) (steps_cut n q ss s more own at h.1)
steps_cut n low (S.TaskFull q ∷ ss) s more own at h = ap (λ xs. S.TaskFull q ∷ xs) (steps_cut n q ss s more own at h.1)
steps_cut n low (S.Del z q ∷ ss) s more own at h =
    ap (λ b. cond b [] (S.Del z q ∷ steps_before n (ss ++ s ∷ more))) (lower_eq q n (order_high (q + 1) (items_of ss) n h.1))
    ∙ ap (λ xs. S.Del z q ∷ xs) (steps_cut n (q + 1) ss s more own at h.1)
steps_cut n low (S.Absent z q ∷ ss) s more own at h = ap (λ xs. S.Absent z q ∷ xs) (steps_cut n q ss s more own at h.1)

-- ---- truth

pub true_drop : (P : Program) (es : List Event) (task n : ℕ) (ss : List Step) → AreTrueOf P es task (items_of ss) → AreTrueOf P es task (items_of (drop n ss))
true_drop P es task zero ss h = h
true_drop P es task (suc n) [] h = h
true_drop P es task (suc n) (s ∷ ss) h = true_drop P es task n ss h.1

pub true_stretch : (P : Program) (es : List Event) (task : ℕ) (ss : List Step) → AreTrueOf P es task (items_of ss) → AreTrueOf P es task (items_of (stretch ss))
true_stretch P es task [] h = tt
true_stretch P es task (S.Def site p ∷ ss) h = tt
true_stretch P es task (S.Spawn child p ∷ ss) h = tt
true_stretch P es task (S.Look w p ∷ ss) h = (h.0, true_stretch P es task ss h.1)
true_stretch P es task (S.Fetch of p ∷ ss) h = (h.0, true_stretch P es task ss h.1)
true_stretch P es task (S.WorldFull p ∷ ss) h = (h.0, true_stretch P es task ss h.1)
true_stretch P es task (S.TaskFull p ∷ ss) h = (h.0, true_stretch P es task ss h.1)
true_stretch P es task (S.Del at p ∷ ss) h = tt
true_stretch P es task (S.Absent at p ∷ ss) h = (h.0, true_stretch P es task ss h.1)

told_ended : (es : List Event) (of p : ℕ) → IsSome (done_of of (take p es)) → EndedSo (done_of of (take p es)) (outcome_or_nothing (done_of of es))
told_ended es of p h = ended_is (done_of of (take p es)) (outcome_or_nothing (done_of of es)) h (λ ended q. sym (ap outcome_or_nothing (done_whole of p es ended q)))

-- steps that are true of what the entries tell, none of them past these events
module _ (P : Program) (es ds : List Event) (room : world_of es ≤ MOST_WORLDS) (alike : AreAlike (take (length es) ds) es) (n : ℕ) (far : length es ≤ n) where
  same_first : (p : ℕ) → p ≤ length es → Same (take p (take n ds)) (take p es)
  same_first p l =
      let q : take p (take (length es) ds) ≡ take p (take n ds) = take-take p (length es) ds l ∙ sym (take-take p n ds (omega (arith, l, far))) in
      same (take p (take n ds)) (take p es) (subst (λ xs. AreAlike xs (take p es)) q (alike_take p (take (length es) ds) es alike))

  pub stretch_true : (task low : ℕ) (ss : List Step) → IsInOrder low (items_of (stretch ss)) (length es) → AreTrueOf P (take n ds) task (items_of (stretch ss)) → IsStretch P es low (items_told es (stretch ss))
  stretch_true task low [] h t = (h, room)
  stretch_true task low (S.Def site p ∷ ss) h t = (h, room)
  stretch_true task low (S.Spawn child p ∷ ss) h t = (h, room)
  stretch_true task low (S.Del at p ∷ ss) h t = (h, room)
  stretch_true task low (S.Absent at p ∷ ss) h t =
      let l = order_high p (items_of (stretch ss)) (length es) h.1 in (h.0, l, absent_to P (take p (take n ds)) (take p es) (same_first p l) at t.0.1, stretch_true task p ss h.1 t.1)
  stretch_true task low (S.Look w p ∷ ss) h t =
      let l = order_high p (items_of (stretch ss)) (length es) h.1 in (h.0, l, world_to P (take p (take n ds)) (take p es) (same_first p l) ∙ t.0.1, stretch_true task p ss h.1 t.1)
  stretch_true task low (S.Fetch of p ∷ ss) h t =
      let l = order_high p (items_of (stretch ss)) (length es) h.1 in
      (h.0, l, told_ended es of p ((same_first p l).ends of ∙ is_ended (done_of of (take p (take n ds))) untold t.0.1), stretch_true task p ss h.1 t.1)
  stretch_true task low (S.WorldFull p ∷ ss) h t =
      let l = order_high p (items_of (stretch ss)) (length es) h.1 in (h.0, l, world_to P (take p (take n ds)) (take p es) (same_first p l) ∙ t.0.1, stretch_true task p ss h.1 t.1)
  stretch_true task low (S.TaskFull p ∷ ss) h t =
      let l = order_high p (items_of (stretch ss)) (length es) h.1 in (h.0, l, (same_first p l).tasks ∙ t.0.1, stretch_true task p ss h.1 t.1)
