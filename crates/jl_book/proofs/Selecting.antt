-- What a task saw of worlds and keys is so in the whole history.
use Rattle.std.proofs.Common.{◌≡◌, sym, subst, ℕ, ◌≤◌, inl, arith, List, length}
use Rattle.jl_model.specs.declared.ty.Ty.{Ty}
use Rattle.jl_program.specs.declared.choice.Choice.{Choice}
use Rattle.jl_program.specs.declared.tree.Program.{Program}
use Rattle.jl_calculus.specs.declared.history.Event.{Event}
use Rattle.jl_calculus.specs.Kept.{Places, IsKeptFor}
use Rattle.jl_calculus.specs.Ranges.{keys_of}
use Rattle.jl_calculus.specs.World.{world_of, Selects}
use Rattle.jl_methods.specs.declared.index.Index.{Index}
use Rattle.jl_methods.specs.Indexed.{IsIndexOf}
use Rattle.jl_world.specs.Views.{Begins}
use Rattle.jl_world.proofs.Growth.{keys_grow, worlds_grow}

-- a call is kept where a task has seen that all places for keys are in use
pub full_kept : (P : Program) (seen es : List Event) (room : Places) (f : ℕ) (ts : List Ty) (w : ℕ) → Begins seen es → w ≤ world_of seen → room.keys ≤ length (keys_of seen) → IsKeptFor P es room f ts w
full_kept P seen es room f ts w b l full = (omega (arith, l, worlds_grow seen es b), inl (omega (arith, full, keys_grow seen es b)))

-- the answer for an index is that for its events
pub chosen_by : (P Q : Program) (es : List Event) (index : Index) (f : ℕ) (ts : List Ty) (w : ℕ) (c : Choice) → Q ≡ P → IsIndexOf P es index
    → ((xs : List Event) → IsIndexOf Q xs index → Selects Q xs f ts w c) → Selects P es f ts w c
chosen_by P Q es index f ts w c same h step = subst (λ p. Selects p es f ts w c) same (step es (subst (λ p. IsIndexOf p es index) (sym same) h))
