-- Where the trace of a task begins.
use Rattle.std.proofs.Common.{◌≡◌, ◌∙◌, ap, sym, subst, refl, ℕ, suc, ◌+◌, ◌≤◌, inr, arith, Bool, true, false, cond, nat_eq, List, [], ◌∷◌, ◌++◌, length, length-append, None, Some}
use Rattle.jl_program.specs.declared.tree.Program.{Program}
use Rattle.jl_program.specs.declared.tree.Start.{Start}
use Rattle.jl_calculus.specs.declared.history.Event.{Event}
use Rattle.jl_calculus.specs.declared.history.Event.TheVariants as Ev
use Rattle.jl_calculus.specs.Legal.{first_place, start_of, MayStand}
use Rattle.jl_calculus.specs.Past.{tasks_of}
use Rattle.jl_calculus.specs.ValidStart.{IsValidStart}
use Rattle.jl_calculus.specs.World.{world_of}
use Rattle.jl_task.specs.Worlds.{IsWorld}
use Rattle.jl_world.specs.declared.about.About.{About}
use Rattle.jl_world.specs.declared.view.TaskView.{TaskView}
use Rattle.jl_world.specs.Views.{Begins, begun, number_or_zero}
use Rattle.jl_world.proofs.Growth.{tasks_some, unstarted, start_later, differ, agreed, begins_trans, worlds_grow}
use Rattle.jl_book.specs.Passes.{task_in, first_of, HasStarted}
use Rattle.jl_book.proofs.Starts.{started_stays, first_stays}
use Rattle.jl_runner.specs.Knowing.{IsBegun, IsNew}

-- it stays where it is when more is seen
pub begun_more : (v w : TaskView) (first : ℕ) → Begins v.seen w.seen → w.task ≡ v.task → w.start ≡ v.start → IsBegun v first → IsBegun w first
begun_more v w first b of from h =
    let t : task_in w ≡ task_in v = ap number_or_zero of in
    let s : HasStarted w.seen (task_in v) v.start = started_stays v.seen w.seen (task_in v) v.start b h.started in record {
      started = subst (λ n. HasStarted w.seen n w.start) (sym t) (subst (HasStarted w.seen (task_in v)) (sym from) s);
      first_is = ap (λ n. first_of n w.seen) t ∙ first_stays v.seen w.seen (task_in v) v.start b h.started ∙ h.first_is;
    }

-- ---- one that was just spawned

first_later : (t p : ℕ) (es more : List Event) → start_of t es ≡ None → first_place t p (es ++ more) ≡ first_place t (p + length es) more
first_later t p [] more h = ap (λ n. first_place t n more) (omega arith)
first_later t p (Ev.Spawn parent child s ∷ es) more h = by (nat_eq child t) h (first_later t (p + 1) es more)
  where
    next : p + 1 + length es ≡ p + suc (length es)
    next = omega arith

    by : (q : Bool) → cond q (Some s) (start_of t es) ≡ None → (start_of t es ≡ None → first_place t (p + 1) (es ++ more) ≡ first_place t (p + 1 + length es) more)
        → cond q (p + 1) (first_place t (p + 1) (es ++ more)) ≡ first_place t (p + suc (length es)) more
    by true h r = absurd cc
    by false h r = r h ∙ ap (λ n. first_place t n more) next
first_later t p (Ev.Begin fuel ∷ es) more h = first_later t (p + 1) es more h ∙ ap (λ n. first_place t n more) (omega arith)
first_later t p (Ev.Key key ∷ es) more h = first_later t (p + 1) es more h ∙ ap (λ n. first_place t n more) (omega arith)
first_later t p (Ev.Fill key site first ∷ es) more h = first_later t (p + 1) es more h ∙ ap (λ n. first_place t n more) (omega arith)
first_later t p (Ev.Def by site ∷ es) more h = first_later t (p + 1) es more h ∙ ap (λ n. first_place t n more) (omega arith)
first_later t p (Ev.Del by place ∷ es) more h = first_later t (p + 1) es more h ∙ ap (λ n. first_place t n more) (omega arith)
first_later t p (Ev.Done by ended ∷ es) more h = first_later t (p + 1) es more h ∙ ap (λ n. first_place t n more) (omega arith)

pub first_spawned : (P : Program) (es : List Event) (parent child : ℕ) (start : Start) → MayStand P es → child ≡ tasks_of es
    → first_of child (es ++ Ev.Spawn parent child start ∷ []) ≡ length (es ++ Ev.Spawn parent child start ∷ [])
first_spawned P es parent child start m e =
    let u = unstarted P es m child (omega (arith, e)) in
    let some : 1 ≤ child = omega (arith, e, tasks_some es) in
    ap (λ q. cond q 1 (first_place child 0 (es ++ Ev.Spawn parent child start ∷ []))) (differ child 0 (λ z. absurd (omega (arith, z, some))))
    ∙ first_later child 0 es (Ev.Spawn parent child start ∷ []) u.start
    ∙ ap (λ q. cond q (0 + length es + 1) 1) (agreed child child refl)
    ∙ (let l = length-append es (Ev.Spawn parent child start ∷ []) in omega (arith, l))

-- a task that was just spawned is new
pub spawned_new : (about : About) (seen old new : List Event) (w : TaskView) (parent child : ℕ) (start : Start) → MayStand about.program.value old → child ≡ tasks_of old → new ≡ old ++ Ev.Spawn parent child start ∷ []
    → w ≡ begun child (Some start) new → IsValidStart about.program.value start → IsWorld start.world (world_of seen) → Begins seen old → IsNew about w (Some start)
spawned_new about seen old new w parent child start m number added is valid in_world b =
    let grown : world_of seen ≤ world_of new = worlds_grow seen new (begins_trans seen old new b (Ev.Spawn parent child start ∷ [], added)) in
    let first : first_of child new ≡ length new =
    subst (λ xs. first_of child xs ≡ length xs) (sym added) (first_spawned about.program.value old parent child start m number) in
    let u = unstarted about.program.value old m child (omega (arith, number)) in
    let stands : start_of child new ≡ Some start =
    ap (start_of child) added ∙ start_later child old (Ev.Spawn parent child start ∷ []) u.start ∙ ap (λ q. cond q (Some start) None) (agreed child child refl) in
    subst (λ u. IsNew about u (Some start)) (sym is) (record {
      start_is = refl;
      valid = (valid, (in_world.0, omega (arith, in_world.1, grown)));
      own = refl;
      starts = refl;
      looks = refl;
      begun = record { started = inr (record { child = λ z. absurd (omega (arith, z, number, tasks_some old)); from = start; is = refl; stands = stands }); first_is = first };
    })
