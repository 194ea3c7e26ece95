use Rattle.std.proofs.Common.{ℕ, ◌≡◌, ◌<◌, List, slice_get, Some}
use Rattle.jl_program.specs.declared.tree.Program.{Program}
use Rattle.jl_calculus.specs.declared.history.Event.{Event}
use Rattle.jl_calculus.specs.Ranges.{keys_of}
use Rattle.jl_causes.specs.State.{AreRows}
use Rattle.jl_causes.proofs.rows.Rows.has_key.Given as goal

abbrev pub invariant-loop-number : goal.invariant-loop-number
invariant-loop-number l = (P : Program) (es : List Event) → AreRows P es l.self → (n : ℕ) → n < l.number → slice_get (keys_of es) n ≡ Some l.key → ⊥
