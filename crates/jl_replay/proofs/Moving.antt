-- A task that is led by one entry.
use Rattle.std.proofs.Common.{◌≡◌, ◌∙◌, ap, sym, subst, refl, ℕ, ◌+◌, Bool, true, false, List, [], ◌∷◌, ◌++◌, length, take, drop, append-nil, MatchOption, Option, Some, None}
use Rattle.jl_program.specs.declared.tree.Program.{Program}
use Rattle.jl_program.specs.declared.tree.Start.{Start}
use Rattle.jl_calculus.specs.declared.history.Event.{Event}
use Rattle.jl_calculus.specs.declared.history.Event.TheVariants as Ev
use Rattle.jl_calculus.specs.declared.history.Record.{Record}
use Rattle.jl_calculus.specs.declared.history.TraceItem.{TraceItem}
use Rattle.jl_calculus.specs.declared.history.TraceItem.TheVariants as I
use Rattle.jl_calculus.specs.Past.{tasks_of}
use Rattle.jl_calculus.specs.Run.{a_spawn}
use Rattle.jl_machine.specs.Steps.{MachineFits, fuel_of, trace_of}
use Rattle.jl_lead.specs.declared.led.Led.{Led}
use Rattle.jl_lead.specs.Carried.{AreOthers}
use Rattle.jl_lead.specs.Coming.{ComesTo, TellsDefinition, TellsDeletion, TellsSpawn, IsNoRun, IsTheRun, Stays, HasDefined, HasDeleted, HasSpawned, left_of, whole_trace}
use Rattle.jl_lead.specs.Leads.{GoesOn, led_knows}
use Rattle.jl_lead.specs.Led.{knows_of}
use Rattle.jl_lead.proofs.Carrying.{machine_stays}
use Rattle.jl_report.specs.declared.entry.Step.{Step}
use Rattle.jl_replay.specs.declared.running.Running.{Running}
use Rattle.jl_replay.specs.Told.{stretch, items_told}
use Rattle.jl_replay.specs.Moves.{told_so_far, IsFitting, HasMoved, HasMadeDefinition, HasMadeDeletion, HasMadeTask, FollowsDefinition, FollowsDeletion, FollowsSpawn}
use Rattle.jl_replay.proofs.Cuts.{told_length}
use Rattle.jl_replay.proofs.Items.{items_append}

-- ---- before

-- the machine of a task fits a dispatcher that is turned to it
pub fits_led : (P : Program) (task : ℕ) (r : Running) (d0 d : Led) → d0.past.0 ≡ P → d.past ≡ d0.past → d.task ≡ task → d.seen ≡ r.seen → d.looks ≡ r.looks → IsFitting P d0.past.1 task r
    → MachineFits P (fuel_of r.machine) (knows_of d) r.machine
fits_led P task r d0 d program past of seen looks h =
    let m = r.machine in
    let f = fuel_of r.machine in
    let is = d.items.items in
    let n = d.told in
    subst (λ (v : Program × List Event). MachineFits P f (led_knows v.0 v.1 d.task is n d.seen d.looks d.alone) m) (sym past)
    (subst (λ (Q : Program). MachineFits P f (led_knows Q d0.past.1 d.task is n d.seen d.looks d.alone) m) (sym program)
    (subst (λ (t : ℕ). MachineFits P f (led_knows P d0.past.1 t is n d.seen d.looks d.alone) m) (sym of)
    (subst (λ (s : ℕ). MachineFits P f (led_knows P d0.past.1 task is n s d.looks d.alone) m) (sym seen)
    (subst (λ (l : ℕ). MachineFits P f (led_knows P d0.past.1 task is n r.seen l d.alone) m) (sym looks)
    (h.fits is n d.alone)))))

-- the trace that it is led along
pub whole_is : (es : List Event) (trace : List Step) (r : Running) (d : Led) (items : List TraceItem) → trace_of r.machine ≡ items_told es (take r.told trace) → left_of d ≡ items
    → items ≡ items_told es (stretch (drop r.told trace)) → whole_trace r.machine d ≡ told_so_far es trace r.told
whole_is es trace r d items followed left is =
    ap (λ xs. xs ++ left_of d) followed
    ∙ ap (λ ys. items_told es (take r.told trace) ++ ys) (left ∙ is)
    ∙ sym (items_append es (take r.told trace) (stretch (drop r.told trace)))

pub count_is : (es : List Event) (trace : List Step) (told : ℕ) (items : List TraceItem) → items ≡ items_told es (stretch (drop told trace)) → length items ≡ length (stretch (drop told trace))
count_is es trace told items is = ap length is ∙ told_length es (stretch (drop told trace))

-- ---- what is told

module _ (P : Program) (task fuel : ℕ) (whole : List TraceItem) (d0 d : Led) (past : d.past ≡ d0.past) (of : d.task ≡ task) where
  -- over the same events and for the same trace
  along : (A : List Event → ℕ → List TraceItem → Type 0) (trace : List TraceItem) → trace ≡ whole → A d.past.1 d.task trace → A d0.past.1 task whole
  along A trace is h =
      subst (A d0.past.1 task) is (subst (λ (t : ℕ). A d0.past.1 t trace) of (subst (λ (v : Program × List Event). A v.1 d.task trace) past h))

  pub tells_definition : (trace : List TraceItem) (site : ℕ) (came : Bool) → trace ≡ whole → TellsDefinition P d.past.1 d.task fuel trace site came → TellsDefinition P d0.past.1 task fuel whole site came
  tells_definition trace site came is h = along (λ es t is. TellsDefinition P es t fuel is site came) trace is h

  pub tells_deletion : (trace : List TraceItem) (place : ℕ) (came : Bool) → trace ≡ whole → TellsDeletion P d.past.1 d.task fuel trace place came → TellsDeletion P d0.past.1 task fuel whole place came
  tells_deletion trace place came is h = along (λ es t is. TellsDeletion P es t fuel is place came) trace is h

  pub tells_spawn : (trace : List TraceItem) (place : ℕ) (came : Bool) → trace ≡ whole → TellsSpawn P d.past.1 d.task fuel trace place came → TellsSpawn P d0.past.1 task fuel whole place came
  tells_spawn trace place came is h = along (λ es t is. TellsSpawn P es t fuel is place came) trace is h

  pub no_run : (trace : List TraceItem) → trace ≡ whole → IsNoRun P d.past.1 d.task fuel trace → IsNoRun P d0.past.1 task fuel whole
  no_run trace is h = along (λ es t is. IsNoRun P es t fuel is) trace is h

  pub the_run : (trace : List TraceItem) (r : Record) → trace ≡ whole → IsTheRun P d.past.1 d.task fuel trace r → IsTheRun P d0.past.1 task fuel whole r
  the_run trace r is h = along (λ es t is. IsTheRun P es t fuel is r) trace is h

-- ---- after

no_others : (task : ℕ) → AreOthers task []
no_others task = record { own = λ p. refl; starts = refl; start = refl; first = λ p. refl }

-- a machine that stays with its dispatcher fits, having seen all events
pub fits_after : (P : Program) (task : ℕ) (r : Running) (d : Led) → d.past.0 ≡ P → d.task ≡ task → r.seen ≡ length d.past.1 → r.looks ≡ d.looks → MachineFits P (fuel_of r.machine) (knows_of d) r.machine
    → (items : List TraceItem) (told : ℕ) (alone : Bool) → MachineFits P (fuel_of r.machine) (led_knows P d.past.1 task items told r.seen r.looks alone) r.machine
fits_after P task r d program of seen looks h items told alone =
    let m = r.machine in
    let f = fuel_of r.machine in
    let es = d.past.1 in
    subst (λ (l : ℕ). MachineFits P f (led_knows P es task items told r.seen l alone) m) (sym looks)
    (subst (λ (s : ℕ). MachineFits P f (led_knows P es task items told s d.looks alone) m) (sym seen)
    (subst (λ (xs : List Event). MachineFits P f (led_knows P xs task items told (length es) d.looks alone) m) (append-nil es)
    (machine_stays P f m es [] task d.items.items items d.told told d.seen (length es) d.looks d.alone alone (no_others task) d.placed.seen_some
    (subst (λ (t : ℕ). MachineFits P f (led_knows P es t d.items.items d.told d.seen d.looks d.alone) m) of
    (subst (λ (Q : Program). MachineFits P f (led_knows Q es d.task d.items.items d.told d.seen d.looks d.alone) m) program h)))))

module _ (P : Program) (task : ℕ) (trace : List Step) (r r' : Running) (d0 d d' : Led) (past : d.past ≡ d0.past) (of : d.task ≡ task) (stays : Stays P r.machine d r'.machine d') (seen : r'.seen ≡ length d'.past.1) (looks : r'.looks ≡ d'.looks) (told : r'.told ≡ r.told + length (stretch (drop r.told trace)) + 1) (whole : whole_trace r.machine d ≡ told_so_far d0.past.1 trace r.told) where
  moved : (item : TraceItem) → trace_of r'.machine ≡ whole_trace r.machine d ++ item ∷ [] → HasMoved P d0.past.1 d'.past.1 task trace r r' item
  moved item is =
      record {
        fitting = record {
          fits = fits_after P task r' d' stays.program (stays.task ∙ of) seen looks stays.fits;
          going = stays.going;
        };
        fuel = stays.fuel;
        seen = seen;
        told = told;
        trace_is = is ∙ ap (λ xs. xs ++ item ∷ []) whole;
      }

  pub made_definition : (site : ℕ) → HasDefined P r.machine d site r'.machine d' → HasMadeDefinition P d0.past.1 task trace r site d'.past r'
  made_definition site h =
      record {
        program = stays.program;
        events = h.events ∙ ap (λ (v : Program × List Event). v.1 ++ Ev.Def d.task site ∷ []) past ∙ ap (λ t. d0.past.1 ++ Ev.Def t site ∷ []) of;
        moved = moved (I.Def site (length d0.past.1)) (h.trace ∙ ap (λ (v : Program × List Event). whole_trace r.machine d ++ I.Def site (length v.1) ∷ []) past);
      }

  pub made_deletion : (place : ℕ) → HasDeleted P r.machine d place r'.machine d' → HasMadeDeletion P d0.past.1 task trace r place d'.past r'
  made_deletion place h =
      record {
        program = stays.program;
        events = h.events ∙ ap (λ (v : Program × List Event). v.1 ++ Ev.Del d.task place ∷ []) past ∙ ap (λ t. d0.past.1 ++ Ev.Del t place ∷ []) of;
        moved = moved (I.Del place (length d0.past.1)) (h.trace ∙ ap (λ (v : Program × List Event). whole_trace r.machine d ++ I.Del place (length v.1) ∷ []) past);
      }

  pub made_task : (place : ℕ) → HasSpawned P r.machine d place r'.machine d' → HasMadeTask P d0.past.1 task trace r place d'.past r'
  made_task place h =
      record {
        program = stays.program;
        start = h.start;
        events = h.events ∙ ap (λ (v : Program × List Event). v.1 ++ Ev.Spawn d.task (tasks_of v.1) h.start ∷ []) past ∙ ap (λ t. d0.past.1 ++ Ev.Spawn t (tasks_of d0.past.1) h.start ∷ []) of;
        at = h.at;
        moved = moved (I.Spawn (tasks_of d0.past.1) (length d0.past.1)) (h.trace ∙ ap (λ (v : Program × List Event). whole_trace r.machine d ++ I.Spawn (tasks_of v.1) (length v.1) ∷ []) past);
        only = along P task (fuel_of r.machine) (told_so_far d0.past.1 trace r.told) d0 d past of
            (λ es t is. (xs : List Event) → GoesOn es xs → (s : Start) → ComesTo P es t xs (fuel_of r.machine) is (a_spawn s) → s ≡ h.start) (whole_trace r.machine d) whole h.only;
      }

-- ---- the answers

pub definition_said : (P : Program) (es : List Event) (task : ℕ) (trace : List Step) (r : Running) (site : ℕ) (came : Bool) (past : Program × List Event) (r' : Running)
    → TellsDefinition P es task (fuel_of r.machine) (told_so_far es trace r.told) site came → (came ≡ true → HasMadeDefinition P es task trace r site past r') → FollowsDefinition P es task trace r site came past r'
definition_said P es task trace r site true past r' t m = (t, m refl)
definition_said P es task trace r site false past r' t m = t

pub deletion_said : (P : Program) (es : List Event) (task : ℕ) (trace : List Step) (r : Running) (place : ℕ) (came : Bool) (past : Program × List Event) (r' : Running)
    → TellsDeletion P es task (fuel_of r.machine) (told_so_far es trace r.told) place came → (came ≡ true → HasMadeDeletion P es task trace r place past r') → FollowsDeletion P es task trace r place came past r'
deletion_said P es task trace r place true past r' t m = (t, m refl)
deletion_said P es task trace r place false past r' t m = t

pub spawn_said : (P : Program) (es : List Event) (task : ℕ) (trace : List Step) (r : Running) (place : ℕ) (came : Bool) (past : Program × List Event) (r' : Running)
    → TellsSpawn P es task (fuel_of r.machine) (told_so_far es trace r.told) place came → (came ≡ true → HasMadeTask P es task trace r place past r') → FollowsSpawn P es task trace r place came past r'
spawn_said P es task trace r place true past r' t m = (t, m refl)
spawn_said P es task trace r place false past r' t m = t

pub run_said : (P : Program) (task fuel : ℕ) (whole : List TraceItem) (d0 d : Led) (past : d.past ≡ d0.past) (of : d.task ≡ task) (trace : List TraceItem) → trace ≡ whole → (found : Option Record)
    → MatchOption found (IsNoRun P d.past.1 d.task fuel trace) (IsTheRun P d.past.1 d.task fuel trace) → MatchOption found (IsNoRun P d0.past.1 task fuel whole) (IsTheRun P d0.past.1 task fuel whole)
run_said P task fuel whole d0 d past of trace is None h = no_run P task fuel whole d0 d past of trace is h
run_said P task fuel whole d0 d past of trace is (Some r) h = the_run P task fuel whole d0 d past of trace r is h
