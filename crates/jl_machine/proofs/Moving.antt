-- Steps that ask nobody, one after another.
use Rattle.std.proofs.Common.{◌≡◌, sym, ◌∙◌, subst, inl, inr, ℕ, ◌<◌, List, Option, None, Some, arith}
use Rattle.jl_program.specs.declared.tree.Expr.{Expr}
use Rattle.jl_program.specs.declared.tree.Expr.TheVariants as E
use Rattle.jl_calculus.specs.declared.history.TraceItem.{TraceItem}
use Rattle.jl_task.specs.declared.point.Work.{Work}
use Rattle.jl_task.specs.declared.point.Work.TheVariants as W
use Rattle.jl_task.specs.Weight.{turns_left}
use Rattle.jl_task.specs.Knows.{Knows}
use Rattle.jl_task.specs.Asks.{Job, Tells}
use Rattle.jl_task.specs.Fits.{FitsWith, Fitting, job_of}
use Rattle.jl_machine.specs.declared.now.LentWork.{LentWork}
use Rattle.jl_machine.specs.declared.task.Task.{Task}
use Rattle.jl_machine.specs.Lent.{now_of, work_of, IsSettled}
use Rattle.jl_machine.specs.Steps.{progress_of, LentSteps, Moves, MayMove, GoesOn}
use Rattle.jl_machine.proofs.Acting.{call_steps}

-- a step that leaves the trace as it is
pub alone : (k : Knows) (w : Work) (t : Task) (work : LentWork) (t' : Task) → LentSteps k w t k work t' → t'.trace ≡ t.trace → Moves k w t work t'
alone k w t work t' s same = record { step = s; trace = same }

-- a call that is remembered is a step of its expression
pub call_moves : (k : Knows) (t : Task) (e : Expr) (f : ℕ) (es : List Expr) (is : e ≡ E.Call f es) (h : Fitting k (W.Acting e t.now.frames.open_values) (progress_of t)) (next : Option LentWork) (t' : Task)
    → MayMove k (W.Calling f t.now.world t.now.frames.open_values) t next t' → MayMove k (W.Acting e t.now.frames.open_values) t next t'
call_moves k t e f es is h None t' m = m
call_moves k t e f es is h (Some work) t' m = record { step = call_steps k t e f es is h k work t' m.step; trace = m.trace }

-- a task fits again after a step
pub fits_after : (k k' : Knows) (w : Work) (t : Task) (work : LentWork) (t' : Task) → LentSteps k w t k' work t' → Fitting k' (work_of work t'.now) (progress_of t')
fits_after k k' w t work t' s =
    let f = s.steps.fits in
    let j : job_of k t.fuel ≡ job_of k' t'.fuel = λ i. record { program = sym f.program i; start = sym f.start i; places = sym f.places i; fuel = sym f.fuel_is i } in
    subst (λ x. FitsWith x k' (work_of work t'.now) (progress_of t')) j f

-- fewer turns are left
pub moves_fewer : (k : Knows) (w : Work) (t : Task) (work : LentWork) (t' : Task) → Moves k w t work t' → turns_left k.program t'.fuel t'.calls (work_of work t'.now) (now_of t'.now) < turns_left k.program t.fuel t.calls w (now_of t.now)
moves_fewer k w t work t' m =
    subst (λ (n : ℕ). turns_left k.program n t'.calls (work_of work t'.now) (now_of t'.now) < turns_left k.program t.fuel t.calls w (now_of t.now)) (sym m.step.steps.fits.fuel_is) m.step.steps.lighter

-- a step, and one after it that asked nobody
pub after : (k k' : Knows) (w : Work) (t : Task) (work : LentWork) (t' : Task) → LentSteps k w t k' work t' → (last : LentWork) (t'' : Task) → Moves k' (work_of work t'.now) t' last t'' → LentSteps k w t k' last t''
after k k' w t work t' s last t'' m =
    let f = s.steps.fits in
    let j : job_of k' t'.fuel ≡ job_of k t.fuel = λ i. record { program = f.program i; start = f.start i; places = f.places i; fuel = f.fuel_is i } in
    let less : turns_left k.program t.fuel t''.calls (work_of last t''.now) (now_of t''.now) < turns_left k.program t.fuel t'.calls (work_of work t'.now) (now_of t'.now)
    = subst (λ (x : Job). turns_left x.program x.fuel t''.calls (work_of last t''.now) (now_of t''.now) < turns_left x.program x.fuel t'.calls (work_of work t'.now) (now_of t'.now)) j m.step.steps.lighter in
    record {
      steps = record {
        fits = subst (λ (x : Job). FitsWith x k' (work_of last t''.now) (progress_of t'')) j m.step.steps.fits;
        lighter = omega (arith, less, s.steps.lighter);
        tells = subst (λ (is : List TraceItem). Tells (job_of k t.fuel) k t.trace k' is) (sym m.trace) s.steps.tells;
        follows = λ c h. m.step.steps.follows c (s.steps.follows c h);
      };
      knows = λ h. m.step.knows (s.knows h);
      settled = m.step.settled;
    }

-- a step, and what goes on after it
pub then_on : (k k' : Knows) (w : Work) (t : Task) (work : LentWork) (t' : Task) → LentSteps k w t k' work t' → (last : LentWork) (t'' : Task) → GoesOn k' work t' last t'' → LentSteps k w t k' last t''
then_on k k' w t work t' s last t'' (inl e) = subst (λ (q : LentWork × Task). LentSteps k w t k' q.0 q.1) (λ i. (sym e.0 i, sym e.1 i)) s
then_on k k' w t work t' s last t'' (inr m) = after k k' w t work t' s last t'' m

-- what goes on, and one step more
pub once_more : (k : Knows) (first : LentWork) (t : Task) (work : LentWork) (t' : Task) → GoesOn k first t work t' → (next : LentWork) (t'' : Task) → Moves k (work_of work t'.now) t' next t'' → GoesOn k first t next t''
once_more k first t work t' (inl e) next t'' m = inr (subst (λ (q : LentWork × Task). Moves k (work_of q.0 q.1.now) q.1 next t'') (λ i. (e.0 i, e.1 i)) m)
once_more k first t work t' (inr g) next t'' m = inr (record { step = after k k (work_of first t.now) t work t' g.step next t'' m; trace = m.trace ∙ g.trace })

-- what goes on, and what goes on after it
pub goes_further : (k : Knows) (first : LentWork) (t : Task) (work : LentWork) (t' : Task) → GoesOn k first t work t' → (last : LentWork) (t'' : Task) → GoesOn k work t' last t'' → GoesOn k first t last t''
goes_further k first t work t' g last t'' (inl e) = subst (λ (q : LentWork × Task). GoesOn k first t q.0 q.1) (λ i. (sym e.0 i, sym e.1 i)) g
goes_further k first t work t' g last t'' (inr m) = once_more k first t work t' g last t'' m

-- fewer turns are left after what goes on and one step more
pub on_fewer : (k : Knows) (work : LentWork) (t : Task) (last : LentWork) (t' : Task) → GoesOn k work t last t' → (next : LentWork) (t'' : Task) → Moves k (work_of last t'.now) t' next t''
    → turns_left k.program t''.fuel t''.calls (work_of next t''.now) (now_of t''.now) < turns_left k.program t.fuel t.calls (work_of work t.now) (now_of t.now)
on_fewer k work t last t' (inl e) next t'' m =
    subst (λ (q : LentWork × Task). turns_left k.program t''.fuel t''.calls (work_of next t''.now) (now_of t''.now) < turns_left k.program q.1.fuel q.1.calls (work_of q.0 q.1.now) (now_of q.1.now))
    (λ i. (e.0 i, e.1 i)) (moves_fewer k (work_of last t'.now) t' next t'' m)
on_fewer k work t last t' (inr g) next t'' m =
    let a = moves_fewer k (work_of work t.now) t last t' g in
    let b = moves_fewer k (work_of last t'.now) t' next t'' m in
    omega (arith, a, b)

-- what goes on fits, and what is open there is as it should be
pub on_fits : (k : Knows) (first : LentWork) (t : Task) (work : LentWork) (t' : Task) → GoesOn k first t work t' → Fitting k (work_of first t.now) (progress_of t) → Fitting k (work_of work t'.now) (progress_of t')
on_fits k first t work t' (inl e) f = subst (λ (q : LentWork × Task). Fitting k (work_of q.0 q.1.now) (progress_of q.1)) (λ i. (sym e.0 i, sym e.1 i)) f
on_fits k first t work t' (inr m) f = fits_after k k (work_of first t.now) t work t' m.step

pub on_settled : (k : Knows) (first : LentWork) (t : Task) (work : LentWork) (t' : Task) → GoesOn k first t work t' → IsSettled first t.now → IsSettled work t'.now
on_settled k first t work t' (inl e) s = subst (λ (q : LentWork × Task). IsSettled q.0 q.1.now) (λ i. (sym e.0 i, sym e.1 i)) s
on_settled k first t work t' (inr m) s = m.step.settled
