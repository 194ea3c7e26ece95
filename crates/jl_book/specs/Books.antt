-- What holds of the history of a run after every call.
use Rattle.std.specs.Prelude.{ℕ, ◌≡◌, List, [], Option}
use Rattle.jl_model.specs.declared.ty.Key.{Key}
use Rattle.jl_calculus.specs.declared.history.Event.{Event}
use Rattle.jl_calculus.specs.Legal.{IsLegalSoFar, IsCached}
use Rattle.jl_calculus.specs.ValidHistory.{AreValidEvents}
use Rattle.jl_calculus.specs.Ranges.{keys_of}
use Rattle.jl_methods.specs.declared.index.Index.{Index}
use Rattle.jl_methods.specs.Indexed.{IsIndexOf}
use Rattle.jl_rows.specs.Plans.{places_of}
use Rattle.jl_world.specs.declared.about.About.{About}
use Rattle.jl_world.specs.declared.view.BookView.{BookView}
use Rattle.jl_world.specs.Rule.{IsHistory}
use Rattle.jl_book.specs.Tasks.{unfinished_of, HasEnds}

-- the events of a run so far: they begin with its fuel, are legal, are cached for its places, and are valid
pub record IsBook (about : About) (es : List Event) : Type 0 where
  pub history : IsHistory about es
  pub legal : IsLegalSoFar about.program.value es
  pub cached : IsCached about.program.value (places_of about) es
  pub valid : AreValidEvents about.program.value es

-- a book's seat that knows these events, and holds no task
abbrev pub at_rest : List Event → BookView
at_rest es = record { events = es; held = []; cut = []; stored = [] }

-- the parts of a book are those of its events: its seat, the events that it keeps, its index, its keys, where each task ended, and how many have not
pub record HasParts (about : About) (es : List Event) (seat : BookView) (kept : List Event) (index : Index) (keys : List Key) (ends : List (Option ℕ)) (unfinished : ℕ) : Type 0 where
  pub knows : seat ≡ at_rest es
  pub keeps : kept ≡ es
  pub book : IsBook about es
  pub filters : IsIndexOf about.program.value es index
  pub named : keys ≡ keys_of es
  pub ended : HasEnds es ends
  pub counted : unfinished ≡ unfinished_of es
