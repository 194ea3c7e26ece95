-- How far a task has come that is led, step by step.
use Rattle.std.proofs.Common.{◌≡◌, ◌∙◌, inl, inr, ap, sym, subst, refl, ℕ, true, false, List, ◌++◌, None}
use Rattle.jl_program.specs.declared.tree.Program.{Program}
use Rattle.jl_calculus.specs.declared.history.Event.{Event}
use Rattle.jl_calculus.specs.declared.history.TraceItem.{TraceItem}
use Rattle.jl_calculus.specs.Legal.{start_of}
use Rattle.jl_calculus.specs.Past.{own_events, own_starts}
use Rattle.jl_calculus.specs.Run.{Question}
use Rattle.jl_task.specs.Knows.{Knows, Claim}
use Rattle.jl_task.specs.Asks.{Job, Asks, Tells, Follows, StartsJoin}
use Rattle.jl_machine.specs.declared.now.LentWork.{LentWork}
use Rattle.jl_machine.specs.declared.now.LentWork.TheVariants.{Eval, Give, Leave, Acting, Calling, Items, Defining, Pieces, Ended, Lost}
use Rattle.jl_machine.specs.declared.task.Task.{Task}
use Rattle.jl_machine.specs.declared.task.Machine.{Machine}
use Rattle.jl_machine.specs.Steps.{IsAt, FitsAt, MachineFits, IsLost, job_with, fuel_of, trace_of}
use Rattle.jl_lead.specs.declared.led.Led.{Led}
use Rattle.jl_lead.specs.Items.{Begins, Departs}
use Rattle.jl_lead.specs.Leads.{GoesOn, HasMade, IsOn}
use Rattle.jl_lead.specs.Led.{knows_of}
use Rattle.jl_lead.specs.Coming.{left_of, whole_trace, Stays, IsThere, IsAway}
use Rattle.jl_lead.proofs.ItemFacts.{not_departed, departed}

-- a machine that is not lost fits as a task
at_work : (P : Program) (fuel : ℕ) (k : Knows) (work : LentWork) (t : Task) → (work ≡ Lost → ⊥) → FitsAt P fuel k work t → IsAt P fuel k work t
at_work P fuel k Lost t g f = absurd (g refl)
at_work P fuel k Ended t g f = f
at_work P fuel k (Eval x) t g f = f
at_work P fuel k Give t g f = f
at_work P fuel k Leave t g f = f
at_work P fuel k (Acting x) t g f = f
at_work P fuel k (Calling h w) t g f = f
at_work P fuel k (Items fresh xs) t g f = f
at_work P fuel k (Defining fresh site xs) t g f = f
at_work P fuel k (Pieces line xs) t g f = f

pub machine_at : (P : Program) (fuel : ℕ) (k : Knows) (m : Machine) → (IsLost m → ⊥) → MachineFits P fuel k m → IsAt P fuel k m.work m.task
machine_at P fuel k m g f = at_work P fuel k m.work m.task g f.task

-- what a task asks, it asks whoever tells the same
asks_moved : (j j' : Job) (k k' : Knows) (t : List TraceItem) (q : Question) → j ≡ j' → ((xs : List Event) → k'.agrees xs → k.agrees xs) → Asks j k t q → Asks j' k' t q
asks_moved j j' k k' t q e down a = subst (λ i. Asks i k' t q) e (record { goes = λ x g. a.goes x (down x.events g); comes = λ es g. a.comes es (down es g) })

-- a task that stands at the beginning
pub begins_there : (P : Program) (m : Machine) (d : Led) → MachineFits P (fuel_of m) (knows_of d) m → (IsLost m → ⊥) → d.alone ≡ false → IsThere P m d m d
begins_there P m d fits going here =
    let a = machine_at P (fuel_of m) (knows_of d) m going fits in record {
      stays = record { fits = fits; going = going; fuel = refl; task = refl; program = a.fits.program };
      here = here;
      events = refl;
      followed = refl;
    }

module _ (P : Program) (m0 : Machine) (d0 : Led) (m : Machine) (d : Led) (t : IsThere P m0 d0 m d) (m' : Machine) (d' : Led)
    (fits' : MachineFits P (fuel_of m') (knows_of d') m') (fuel' : fuel_of m' ≡ fuel_of m)
    (tells : Tells (job_with P (fuel_of m) (knows_of d)) (knows_of d) (trace_of m) (knows_of d') (trace_of m'))
    (follows : Follows (knows_of d) (trace_of m) (knows_of d') (trace_of m')) (kept : IsLost m' → ⊥) where
  abbrev claim : Claim
  claim = record { events = d.past.1; task = d.task; trace = whole_trace m d }

  followed_now : (knows_of d').follows claim (trace_of m')
  followed_now =
      follows claim (subst (λ b. (d.task ≡ d.task) × HasMade b d.task d.past.1 d.past.1 × IsOn b (left_of d) (whole_trace m d) (trace_of m)) (sym t.here) (refl, refl, refl))

  same_task : d'.task ≡ d.task
  same_task = followed_now.0

  stays_now : Stays P m0 d0 m' d'
  stays_now =
      let a = machine_at P (fuel_of m') (knows_of d') m' kept fits' in
      record { fits = fits'; going = kept; fuel = fuel' ∙ t.stays.fuel; task = same_task ∙ t.stays.task; program = a.fits.program }

  -- it follows its trace
  pub next_there : d'.alone ≡ false → IsThere P m0 d0 m' d'
  next_there here =
      let f = subst (λ b. HasMade b d'.task d.past.1 d'.past.1 × IsOn b (left_of d') (whole_trace m d) (trace_of m')) here (followed_now.1, followed_now.2) in
      record { stays = stays_now; here = here; events = f.0 ∙ t.events; followed = f.1 ∙ t.followed }

  -- it departs from it
  pub next_away : d'.alone ≡ true → IsAway P m0 d0 m' d'
  next_away away = cases tells
    where
      f : HasMade true d'.task d.past.1 d'.past.1 × Departs (left_of d') (whole_trace m d) (trace_of m')
      f = subst (λ b. HasMade b d'.task d.past.1 d'.past.1 × IsOn b (left_of d') (whole_trace m d) (trace_of m')) away (followed_now.1, followed_now.2)

      job_is : job_with P (fuel_of m) (knows_of d) ≡ job_with P (fuel_of m0) (knows_of d0)
      job_is = λ i. record { program = P; start = start_of (t.stays.task i) (t.events i); places = None; fuel = t.stays.fuel i }

      cases : Tells (job_with P (fuel_of m) (knows_of d)) (knows_of d) (trace_of m) (knows_of d') (trace_of m') → IsAway P m0 d0 m' d'
      cases (inl same) = absurd (not_departed (left_of d) (left_of d') (whole_trace m d) (trace_of m) refl (subst (Departs (left_of d') (whole_trace m d)) same f.1))
      cases (inr (item, q, more, answer, joins, asks)) =
          let e = departed (left_of d) (left_of d') (whole_trace m d) (trace_of m) item refl (subst (Departs (left_of d') (whole_trace m d)) more f.1) in
          let a = machine_at P (fuel_of m) (knows_of d) m t.stays.going t.stays.fits in record {
            stays = stays_now;
            before = trace_of m;
            item = item;
            question = q;
            trace = more;
            followed = ap (λ xs. trace_of m ++ xs) e.0 ∙ t.followed;
            answers = answer;
            apart = subst (λ xs. Begins item xs → ⊥) (sym e.0) e.1;
            told = e.2;
            own_before = a.fits.own ∙ (λ i. own_events (t.stays.task i) 0 (t.events i));
            joins = subst (λ (z : ℕ × List Event). StartsJoin q item (own_starts z.0 z.1) (own_starts d'.task d'.past.1)) (λ i. (t.stays.task i, t.events i)) joins;
            asks = asks_moved _ _ (knows_of d) (knows_of d0) (trace_of m) q job_is (λ xs g. subst (λ es. GoesOn es xs) (sym t.events) g) asks;
            made = subst (λ (z : ℕ × List Event). HasMade true z.0 z.1 d'.past.1) (λ i. ((same_task ∙ t.stays.task) i, t.events i)) f.0;
          }
