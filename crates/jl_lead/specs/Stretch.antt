-- A stretch of a trace that makes nothing: its items are true of the events so far, and follow one another.
use Rattle.std.specs.Prelude.{◌≡◌, ℕ, ◌<◌, ◌≤◌, Bool, true, false, List, [], ◌∷◌, length, take, Option, None, Some}
use Rattle.std.specs.Coded.{Coded-set, coded_ℕ, le_prop}
use Rattle.jl_model.specs.declared.limits.TheConstants.{MOST_WORLDS, MOST_TASKS}
use Rattle.jl_calculus.specs.contracts.history.Outcome as o
use Rattle.jl_calculus.specs.declared.history.Event.{Event}
use Rattle.jl_calculus.specs.declared.history.Outcome.{Outcome}
use Rattle.jl_calculus.specs.declared.history.Record.{Record}
use Rattle.jl_calculus.specs.declared.history.TraceItem.{TraceItem}
use Rattle.jl_calculus.specs.declared.history.TraceItem.TheVariants.{Look, Def, Del, Spawn, Fetch, WorldFull, TaskFull, Absent}
use Rattle.jl_calculus.specs.Past.{EndedSo, IsAbsent, done_of, tasks_of}
use Rattle.jl_calculus.specs.World.{world_of, FindsMethod}
use Rattle.jl_program.specs.declared.tree.Program.{Program}

-- The items are true of the events, follow one another from a place on, and no definition, no deletion and no spawn is among them. The
-- events have no more worlds than a run may have.
abbrev pub IsStretch : Program → List Event → ℕ → List TraceItem → Type 0
IsStretch P es low [] = (low ≤ length es) × (world_of es ≤ MOST_WORLDS)
IsStretch P es low (Look w p ∷ is) = (low ≤ p) × (p ≤ length es) × (world_of (take p es) ≡ w) × IsStretch P es p is
IsStretch P es low (Fetch task outcome p ∷ is) = (low ≤ p) × (p ≤ length es) × EndedSo (done_of task (take p es)) outcome × IsStretch P es p is
IsStretch P es low (WorldFull p ∷ is) = (low ≤ p) × (p ≤ length es) × (world_of (take p es) ≡ MOST_WORLDS) × IsStretch P es p is
IsStretch P es low (TaskFull p ∷ is) = (low ≤ p) × (p ≤ length es) × (tasks_of (take p es) ≡ MOST_TASKS) × IsStretch P es p is
IsStretch P es low (Def site p ∷ is) = ⊥
IsStretch P es low (Spawn child p ∷ is) = ⊥
IsStretch P es low (Del place p ∷ is) = ⊥
IsStretch P es low (Absent place p ∷ is) = (low ≤ p) × (p ≤ length es) × IsAbsent P (take p es) place × IsStretch P es p is

-- What is left is such a stretch, unless the task goes on alone. Where there is one world too many, it has made that itself and seen all
-- events.
abbrev pub IsLeft : Program → Bool → List Event → ℕ → List TraceItem → Type 0
IsLeft P true es seen is = MOST_WORLDS < world_of es → seen ≡ length es
IsLeft P false es seen is = IsStretch P es seen is

EndedSo-prop : (r : Option Record) (outcome : Outcome) → IsProp (EndedSo r outcome)
EndedSo-prop None outcome = λ x y. absurd x
EndedSo-prop (Some r) outcome = Coded-set o.the_row.coded _ _

four_prop : (A B C D : Type 0) → IsProp A → IsProp B → IsProp C → IsProp D → IsProp (A × B × C × D)
four_prop A B C D a b c d = λ x y i. (a x.0 y.0 i, b x.1 y.1 i, c x.2 y.2 i, d x.3 y.3 i)

two_prop : (A B : Type 0) → IsProp A → IsProp B → IsProp (A × B)
two_prop A B a b = λ x y i. (a x.0 y.0 i, b x.1 y.1 i)

-- nothing follows from what is refuted, and so all of it is the same
refuted_prop : (A : Type 0) → IsProp (A → ⊥)
refuted_prop A = λ x y i a. (let same : x a ≡ y a = absurd (x a) in same i)

IsAbsent-prop : (P : Program) (es : List Event) (place : ℕ) → IsProp (IsAbsent P es place)
IsAbsent-prop P es place =
    λ x y i. record { known = le_prop x.known y.known i; room = le_prop x.room y.room i; absent = refuted_prop (FindsMethod P es place) x.absent y.absent i }

IsStretch-prop : (P : Program) (es : List Event) (low : ℕ) (is : List TraceItem) → IsProp (IsStretch P es low is)
IsStretch-prop P es low [] = two_prop (low ≤ length es) (world_of es ≤ MOST_WORLDS) le_prop le_prop
IsStretch-prop P es low (Look w p ∷ is) = four_prop (low ≤ p) (p ≤ length es) (world_of (take p es) ≡ w) (IsStretch P es p is) le_prop le_prop (Coded-set coded_ℕ _ _) (IsStretch-prop P es p is)
IsStretch-prop P es low (Fetch task outcome p ∷ is) = four_prop (low ≤ p) (p ≤ length es) (EndedSo (done_of task (take p es)) outcome) (IsStretch P es p is) le_prop le_prop (EndedSo-prop (done_of task (take p es)) outcome) (IsStretch-prop P es p is)
IsStretch-prop P es low (WorldFull p ∷ is) = four_prop (low ≤ p) (p ≤ length es) (world_of (take p es) ≡ MOST_WORLDS) (IsStretch P es p is) le_prop le_prop (Coded-set coded_ℕ _ _) (IsStretch-prop P es p is)
IsStretch-prop P es low (TaskFull p ∷ is) = four_prop (low ≤ p) (p ≤ length es) (tasks_of (take p es) ≡ MOST_TASKS) (IsStretch P es p is) le_prop le_prop (Coded-set coded_ℕ _ _) (IsStretch-prop P es p is)
IsStretch-prop P es low (Def site p ∷ is) = λ x y. absurd x
IsStretch-prop P es low (Spawn child p ∷ is) = λ x y. absurd x
IsStretch-prop P es low (Del place p ∷ is) = λ x y. absurd x
IsStretch-prop P es low (Absent place p ∷ is) = four_prop (low ≤ p) (p ≤ length es) (IsAbsent P (take p es) place) (IsStretch P es p is) le_prop le_prop (IsAbsent-prop P (take p es) place) (IsStretch-prop P es p is)

pub IsLeft-prop : (P : Program) (alone : Bool) (es : List Event) (seen : ℕ) (is : List TraceItem) → IsProp (IsLeft P alone es seen is)
IsLeft-prop P true es seen is = λ x y i l. Coded-set coded_ℕ _ _ (x l) (y l) i
IsLeft-prop P false es seen is = IsStretch-prop P es seen is
