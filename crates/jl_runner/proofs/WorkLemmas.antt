-- What a machine that has ended leaves is a run over what its pass has seen.
use Rattle.std.proofs.Common.{◌≡◌, ◌∙◌, ap, sym, subst, refl, arith, inl, ℕ, List, [], ◌∷◌, length, Option, None, Some}
use Rattle.jl_calculus.specs.declared.history.Outcome.{Outcome}
use Rattle.jl_calculus.specs.declared.history.Record.{Record}
use Rattle.jl_calculus.specs.declared.history.TraceItem.{TraceItem}
use Rattle.jl_program.specs.declared.tree.Program.{Program}
use Rattle.jl_program.specs.declared.tree.Start.{Start}
use Rattle.jl_program.specs.Valid.{IsValid}
use Rattle.jl_calculus.specs.Legal.{AreTrueOf}
use Rattle.jl_calculus.specs.Past.{IsInOrder}
use Rattle.jl_calculus.specs.Run.{setting_of, Run}
use Rattle.jl_calculus.specs.ValidHistory.{IsValidOutcome}
use Rattle.jl_task.specs.declared.point.Work.TheVariants as W
use Rattle.jl_task.specs.Knows.{Knows}
use Rattle.jl_task.specs.Fits.{AllLearnt, IsFresh, IsRunOf}
use Rattle.jl_machine.specs.declared.now.LentWork.{LentWork}
use Rattle.jl_machine.specs.declared.now.LentWork.TheVariants.{Eval, Give, Leave, Acting, Calling, Items, Defining, Pieces, Ended, Lost}
use Rattle.jl_machine.specs.declared.task.Machine.{Machine}
use Rattle.jl_machine.specs.declared.task.Task.{Task}
use Rattle.jl_machine.specs.Lent.{work_of}
use Rattle.jl_machine.specs.Steps.{FitsAt, MachineFits, HasEnded, EndedRuns, RootFits, TaskFits, fuel_of, job_with}
use Rattle.jl_world.specs.declared.about.About.{About}
use Rattle.jl_world.specs.declared.view.TaskView.{TaskView}
use Rattle.jl_world.specs.Rule.{first_events}
use Rattle.jl_world.specs.Views.{begun}
use Rattle.jl_world.proofs.Growth.{begins_self}
use Rattle.jl_book.specs.Passes.{task_in, IsPass, IsRunOver}
use Rattle.jl_rows.specs.Plans.{places_of}
use Rattle.jl_runner.specs.declared.known.Knowing.{Knowing}
use Rattle.jl_runner.specs.Knowing.{knows_at, knows_of, IsBegun, IsNew, IsStartOf}
use Rattle.jl_runner.specs.Working.{WorksFor, IsNewFor, IsPlaceOf}
use Rattle.jl_runner.proofs.KnowingLemmas.{fresh}

-- the outcome of a machine that fits and has ended is valid
valid_work : (P : Program) (fuel : ℕ) (k : Knows) (work : LentWork) (t : Task) (o : Outcome) → work_of work t.now ≡ W.Ended o → FitsAt P fuel k work t → IsValidOutcome P o
valid_work P fuel k Ended t o e f =
    let good = f.fits.good in
    let at = good.1 in
    subst (IsValidOutcome P) (same e) at.work
  where
    same : W.Ended t.now.outcome ≡ W.Ended o → t.now.outcome ≡ o
    same h = cc
valid_work P fuel k Lost t o e f = absurd (cc)
valid_work P fuel k (Eval x) t o e f = absurd (cc)
valid_work P fuel k Give t o e f = absurd (cc)
valid_work P fuel k Leave t o e f = absurd (cc)
valid_work P fuel k (Acting x) t o e f = absurd (cc)
valid_work P fuel k (Calling g u) t o e f = absurd (cc)
valid_work P fuel k (Items fresh xs) t o e f = absurd (cc)
valid_work P fuel k (Defining fresh site xs) t o e f = absurd (cc)
valid_work P fuel k (Pieces line xs) t o e f = absurd (cc)

pub valid_end : (P : Program) (fuel : ℕ) (k : Knows) (m : Machine) (r : Record) → MachineFits P fuel k m → HasEnded r m → IsValidOutcome P r.outcome
valid_end P fuel k m r f h = valid_work P fuel k m.work m.task r.outcome h.work f.task

-- what it has learnt is true of what it has seen
true_of : (about : About) (v : TaskView) (f s : ℕ) (is : List TraceItem) → AllLearnt (knows_at about v f s) is → AreTrueOf about.program.value v.seen (task_in v) is
true_of about v f s [] h = tt
true_of about v f s (i ∷ is) h = (h.0 v.seen (begins_self v.seen), true_of about v f s is h.1)

-- the record of a machine that has ended is what the book asks for
pub run_over : (about : About) (v : TaskView) (f s : ℕ) (m : Machine) (r : Record) → MachineFits about.program.value about.fuel (knows_at about v f s) m → HasEnded r m
    → IsRunOf (job_with about.program.value about.fuel (knows_at about v f s)) (knows_at about v f s) r → IsPass about (task_in v) v → IsBegun v f → IsRunOver about v r
run_over about v f s m r fits ended run pass begun = record {
  outcome = valid_end about.program.value about.fuel (knows_at about v f s) m r fits ended;
  learnt = true_of about v f s r.trace run.learnt;
  order = subst (λ p. IsInOrder p r.trace (length v.seen)) (sym begun.first_is) run.order;
  own = run.own;
  looks = run.looks;
  runs = λ es b. (
      subst (λ n. Run (setting_of about.program.value es (Some (places_of about)) n) v.start r.trace r.outcome r.output r.calls v.starts) (sym pass.fuel)
      (run.runs es b)
      );
}

-- ---- at the beginning

new_fuel : (P : Program) (start : Option Start) (fuel : ℕ) (m : Machine) → IsNewFor P start fuel m → fuel_of m ≡ fuel
new_fuel P None fuel m h = h.fuel
new_fuel P (Some start) fuel m h = let n = h.new in n.fuel

fits_new : (about : About) (k : Knowing) (start : Option Start) (m : Machine) → k.view.start ≡ start → IsValid about.program.value → IsStartOf about.program.value k.view.seen start → IsFresh (knows_of about k)
    → RootFits (knows_of about k) → TaskFits (knows_of about k) → IsNewFor about.program.value start about.fuel m → MachineFits about.program.value about.fuel (knows_of about k) m
fits_new about k None m from valid at fresh_one root task new = root about.program.value about.fuel m valid refl from fresh_one new
fits_new about k (Some start) m from valid at fresh_one root task new = task about.program.value start about.fuel m valid at.0 refl from at.1 fresh_one new

-- a new machine works for its task
pub new_works : (about : About) (k : Knowing) (v : TaskView) (start : Option Start) (P : Program) (fuel : ℕ) (m : Machine) → k.view ≡ v → k.first ≡ length v.seen → IsNew about v start → P ≡ about.program.value → fuel ≡ about.fuel
    → IsValid P → RootFits (knows_of about k) → TaskFits (knows_of about k) → IsNewFor P start fuel m → WorksFor about m k
new_works about k v start P fuel m is first new program most valid root task machine =
    let n : IsNew about k.view start = subst (λ u. IsNew about u start) (sym is) new in
    let here : IsNewFor about.program.value start about.fuel m = subst (λ Q. IsNewFor Q start about.fuel m) program (subst (λ f. IsNewFor P start f m) most machine) in
    record {
      fits =
          fits_new about k start m n.start_is (subst IsValid program valid) n.valid
          (fresh about k.view k.first k.site n.own n.starts n.looks (let e : k.first ≡ length k.view.seen = first ∙ ap (λ (u : TaskView). length u.seen) (sym is) in omega (arith, e)))
          root task here;
      fuel = new_fuel about.program.value start about.fuel m here;
    }

pub place_known : (about : About) (v : TaskView) (start : Option Start) (P : Program) → P ≡ about.program.value → IsNew about v start → IsPlaceOf P start
place_known about v start P program new = subst (λ Q. IsPlaceOf Q start) (sym program) (place_of start new.valid)
  where
    place_of : (start : Option Start) → IsStartOf about.program.value v.seen start → IsPlaceOf about.program.value start
    place_of None h = tt
    place_of (Some start) h = let valid = h.0 in valid.place

-- the root is new when the book is opened
pub root_new : (about : About) (v : TaskView) → v ≡ begun 0 None (first_events about) → IsNew about v None
root_new about v is =
    subst (λ u. IsNew about u None) (sym is) (record {
      start_is = refl;
      valid = tt;
      own = refl;
      starts = refl;
      looks = refl;
      begun = record { started = inl (refl, refl); first_is = refl };
    })

-- ---- between two turns

pub turns_fit : (about : About) (P : Program) (fuel : ℕ) (m : Machine) (k : Knowing) → P ≡ about.program.value → fuel ≡ about.fuel → WorksFor about m k → MachineFits P fuel (knows_of about k) m
turns_fit about P fuel m k program most works =
    subst (λ Q. MachineFits Q fuel (knows_of about k) m) (sym program) (subst (λ n. MachineFits about.program.value n (knows_of about k) m) (sym most) works.fits)

pub turns_leave : (about : About) (P : Program) (fuel : ℕ) (m : Machine) (k : Knowing) → P ≡ about.program.value → fuel ≡ about.fuel → MachineFits P fuel (knows_of about k) m → fuel_of m ≡ fuel → WorksFor about m k
turns_leave about P fuel m k program most fits own = record {
  fits = subst (λ Q. MachineFits Q about.fuel (knows_of about k) m) program (subst (λ n. MachineFits P n (knows_of about k) m) most fits);
  fuel = own ∙ most;
}

-- ---- at the end

pub ends_so : (about : About) (k : Knowing) (v : TaskView) (m : Machine) (r : Record) → WorksFor about m k → HasEnded r m → EndedRuns (knows_of about k) → v ≡ k.view → IsPass about (task_in v) v → IsBegun v k.first
    → IsRunOver about v r
ends_so about k v m r works ended law is pass begun =
    subst (λ u. IsRunOver about u r) (sym is)
    (run_over about k.view k.first k.site m r works.fits ended (law about.program.value about.fuel m r works.fits ended) (subst (λ (u : TaskView). IsPass about (task_in u) u) is pass) (subst (λ u. IsBegun u k.first) is begun))
