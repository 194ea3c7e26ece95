-- How many lines a trace has, and how many entries a history.
use Rattle.std.proofs.Common.{◌≡◌, ap, refl, ℕ, suc, List, [], ◌∷◌, length}
use Rattle.jl_program.specs.declared.tree.Program.{Program}
use Rattle.jl_calculus.specs.declared.history.Event.{Event}
use Rattle.jl_calculus.specs.declared.history.TraceItem.{TraceItem}
use Rattle.jl_report.specs.HistoryText.{steps_of, keys_with, entries_from, entries_of}

pub steps_length : (is : List TraceItem) → length (steps_of is) ≡ length is
steps_length [] = refl
steps_length (i ∷ is) = ap suc (steps_length is)

entries_from_length : (P : Program) (keys : ℕ) (es : List Event) → length (entries_from P keys es) ≡ length es
entries_from_length P keys [] = refl
entries_from_length P keys (e ∷ es) = ap suc (entries_from_length P (keys_with keys e) es)

pub entries_length : (P : Program) (es : List Event) → length (entries_of P es) ≡ length es
entries_length P es = entries_from_length P 0 es
