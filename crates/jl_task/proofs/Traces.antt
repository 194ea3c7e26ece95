-- One more item at the end of a trace, and what a dispatcher's growth leaves as it was.
use Rattle.std.proofs.Common.{◌≡◌, ℕ, ◌+◌, ◌≤◌, List, [], ◌∷◌, ◌++◌, refl, sym, ap, arith, length, zero-add}
use Rattle.jl_calculus.specs.declared.history.TraceItem.{TraceItem}
use Rattle.jl_calculus.specs.declared.history.TraceItem.TheVariants.{Look, Def, Del, Spawn, Fetch, WorldFull, TaskFull, Absent}
use Rattle.jl_task.specs.declared.point.Frame.{Frame}
use Rattle.jl_task.specs.declared.point.Frame.TheVariants as Fr
use Rattle.jl_calculus.specs.Past.{IsInOrder, place, past, own_items}
use Rattle.jl_task.specs.Knows.{Knows, Grew}
use Rattle.jl_task.specs.declared.point.Work.{Work}
use Rattle.jl_task.specs.declared.point.Work.TheVariants as W
use Rattle.jl_task.specs.Turns.{Point}
use Rattle.jl_task.specs.Worlds.{IsWorld, AreWorlds, IsCallWorld, IsWithin}
use Rattle.jl_task.specs.Fits.{looks_of, AllLearnt}

pub append_nil : (xs : List TraceItem) → xs ++ [] ≡ xs
append_nil [] = refl
append_nil (x ∷ xs) = ap (λ ys. x ∷ ys) (append_nil xs)

pub all_learnt : (k k' : Knows) → Grew k k' → (is : List TraceItem) → AllLearnt k is → AllLearnt k' is
all_learnt k k' g [] h = tt
all_learnt k k' g (i ∷ is) h = (g.learnt i h.0, all_learnt k k' g is h.1)

pub learnt_more : (k : Knows) (is : List TraceItem) (i : TraceItem) → AllLearnt k is → k.learnt i → AllLearnt k (is ++ i ∷ [])
learnt_more k [] i h l = (l, tt)
learnt_more k (j ∷ is) i h l = (h.0, learnt_more k is i h.1 l)

pub order_up : (is : List TraceItem) (low high high' : ℕ) → high ≤ high' → IsInOrder low is high → IsInOrder low is high'
order_up [] low high high' le h = omega arith
order_up (i ∷ is) low high high' le h = (h.0, order_up is (past i) high high' le h.1)

-- one more item, at a place that may follow
pub order_more : (is : List TraceItem) (low high high' : ℕ) (i : TraceItem) → high ≤ place i → past i ≤ high' → IsInOrder low is high → IsInOrder low (is ++ i ∷ []) high'
order_more [] low high high' i at past' h = (omega arith, past')
order_more (j ∷ is) low high high' i at past' h = (h.0, order_more is (past j) high high' i at past' h.1)

pub looks_more : (is : List TraceItem) (i : TraceItem) → looks_of (is ++ i ∷ []) ≡ looks_of is + looks_of (i ∷ [])
looks_more [] i = sym (zero-add (looks_of (i ∷ [])))
looks_more (Look w p ∷ is) i = omega (arith, looks_more is i)
looks_more (Def site p ∷ is) i = looks_more is i
looks_more (Spawn child p ∷ is) i = looks_more is i
looks_more (Fetch task o p ∷ is) i = looks_more is i
looks_more (WorldFull p ∷ is) i = looks_more is i
looks_more (TaskFull p ∷ is) i = looks_more is i
looks_more (Del at_place p ∷ is) i = looks_more is i
looks_more (Absent at_place p ∷ is) i = looks_more is i

pub own_more : (is : List TraceItem) (i : TraceItem) → own_items (is ++ i ∷ []) ≡ own_items is ++ own_items (i ∷ [])
own_more [] i = refl
own_more (Look w p ∷ is) i = own_more is i
own_more (Def site p ∷ is) i = ap (λ xs. Def site p ∷ xs) (own_more is i)
own_more (Spawn child p ∷ is) i = ap (λ xs. Spawn child p ∷ xs) (own_more is i)
own_more (Fetch task o p ∷ is) i = own_more is i
own_more (WorldFull p ∷ is) i = own_more is i
own_more (TaskFull p ∷ is) i = own_more is i
own_more (Del at_place p ∷ is) i = ap (λ xs. Del at_place p ∷ xs) (own_more is i)
own_more (Absent at_place p ∷ is) i = own_more is i

-- a list has at least as many items as looks
pub looks_le : (is : List TraceItem) → looks_of is ≤ length is
looks_le [] = omega arith
looks_le (Look w p ∷ is) = omega (arith, looks_le is)
looks_le (Def site p ∷ is) = omega (arith, looks_le is)
looks_le (Spawn child p ∷ is) = omega (arith, looks_le is)
looks_le (Fetch task o p ∷ is) = omega (arith, looks_le is)
looks_le (WorldFull p ∷ is) = omega (arith, looks_le is)
looks_le (TaskFull p ∷ is) = omega (arith, looks_le is)
looks_le (Del at_place p ∷ is) = omega (arith, looks_le is)
looks_le (Absent at_place p ∷ is) = omega (arith, looks_le is)

pub between_up : (w most most' : ℕ) → most ≤ most' → IsWorld w most → IsWorld w most'
between_up w most most' le h = (h.0, omega (arith, h.1))

pub worlds_up : (K : List Frame) (most most' : ℕ) → most ≤ most' → AreWorlds K most → AreWorlds K most'
worlds_up [] most most' le h = tt
worlds_up (Fr.Args e vs xs ∷ K) most most' le h = worlds_up K most most' le h
worlds_up (Fr.Testing e ∷ K) most most' le h = worlds_up K most most' le h
worlds_up (Fr.AfterStmt x xs ∷ K) most most' le h = worlds_up K most most' le h
worlds_up (Fr.Block env ∷ K) most most' le h = worlds_up K most most' le h
worlds_up (Fr.AfterItem x fresh w xs ∷ K) most most' le h = (between_up w most most' le h.0, worlds_up K most most' le h.1)
worlds_up (Fr.Evaluated env bindings ∷ K) most most' le h = worlds_up K most most' le h
worlds_up (Fr.Showing text xs line ∷ K) most most' le h = worlds_up K most most' le h
worlds_up (Fr.Body w k env bindings ∷ K) most most' le h = (between_up w most most' le h.0, worlds_up K most most' le h.1)

call_up : (w : Work) (most most' : ℕ) → most ≤ most' → IsCallWorld w most → IsCallWorld w most'
call_up (W.Calling f u vs) most most' le h = between_up u most most' le h
call_up (W.Eval e) most most' le h = tt
call_up (W.Give v) most most' le h = tt
call_up (W.Leave v) most most' le h = tt
call_up (W.Acting e vs) most most' le h = tt
call_up (W.Stmts xs v) most most' le h = tt
call_up (W.Items fresh xs v) most most' le h = tt
call_up (W.Defining site fresh xs) most most' le h = tt
call_up (W.Pieces text xs line) most most' le h = tt
call_up (W.Ended o) most most' le h = tt
call_up W.Lost most most' le h = tt

-- the worlds of a point stay below a greater one
pub within_up : (p : Point) (most most' : ℕ) → most ≤ most' → IsWithin most p → IsWithin most' p
within_up p most most' le h = record { world = between_up p.1.world most most' le h.world; waiting = worlds_up p.1.stack most most' le h.waiting; called = call_up p.0 most most' le h.called }
