-- The orders of the tasks of a history: the path order, in which their outputs are written, and the wait order.
use Rattle.std.specs.Prelude.{ℕ, zero, suc, cond, nat_eq, List, [], ◌∷◌, ◌++◌}
use Rattle.std.specs.List.{flat_map}
use Rattle.jl_calculus.specs.declared.history.Event.{Event}
use Rattle.jl_calculus.specs.declared.history.Event.TheVariants as Ev
use Rattle.jl_calculus.specs.Past.{tasks_of}

-- the children of a task, in the order of their spawns
abbrev pub children_of : ℕ → List Event → List ℕ
children_of task [] = []
children_of task (Ev.Spawn parent child start ∷ es) = cond (nat_eq parent task) (child ∷ children_of task es) (children_of task es)
children_of task (Ev.Begin fuel ∷ es) = children_of task es
children_of task (Ev.Key key ∷ es) = children_of task es
children_of task (Ev.Fill key site first ∷ es) = children_of task es
children_of task (Ev.Def by site ∷ es) = children_of task es
children_of task (Ev.Del by place ∷ es) = children_of task es
children_of task (Ev.Done by ended ∷ es) = children_of task es

-- a task before its children, each with its whole subtree, as far as so many generations
abbrev pub subtree : List Event → ℕ → ℕ → List ℕ
subtree es zero task = []
subtree es (suc generations) task = task ∷ flat_map (subtree es generations) (children_of task es)

-- the tasks, each before its children; no generation is past the number of tasks
abbrev pub path_order : List Event → List ℕ
path_order es = subtree es (tasks_of es) 0

-- a task after its children, each with its whole subtree, as far as so many generations
abbrev pub subtree_last : List Event → ℕ → ℕ → List ℕ
subtree_last es zero task = []
subtree_last es (suc generations) task = flat_map (subtree_last es generations) (children_of task es) ++ task ∷ []

-- the tasks, each after all its children's subtrees
abbrev pub wait_order : List Event → List ℕ
wait_order es = subtree_last es (tasks_of es) 0
