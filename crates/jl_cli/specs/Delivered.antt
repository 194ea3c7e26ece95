-- How a text was handed to a sink.
use Rattle.std.specs.Prelude.{ℕ, List, take, Option}
use Rattle.jl_calculus.specs.declared.history.History.{History}
use Rattle.jl_io.specs.Moved.{Takes}

-- What the sink held before and after, that its count of faults rose, and what is to be answered where all is taken.
module _ (held held' : Option (List ℕ)) (rose : Type 0) (status : ℕ) (history : Option History) (text : List ℕ) where
  pub data IsDelivered : ℕ → Option History → Type 0 where
    all : Takes held text held' → IsDelivered status history
    failed : (count : ℕ) → Takes held (take count text) held' → rose → IsDelivered 5 history
    no_memory : (count : ℕ) → Takes held (take count text) held' → IsDelivered 6 history
