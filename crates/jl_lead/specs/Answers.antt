-- What is promised of one answer that a task is given: all parts at once.
use Rattle.std.specs.Prelude.{◌≡◌, ℕ, Result, Err, IfOk, OnErr}
use Rattle.jl_program.specs.declared.tree.Start.{Start}
use Rattle.jl_calculus.specs.declared.history.DefineFault.{DefineFault}
use Rattle.jl_calculus.specs.declared.history.DefineFault.TheVariants as D
use Rattle.jl_calculus.specs.declared.history.DeleteFault.{DeleteFault}
use Rattle.jl_calculus.specs.declared.history.DeleteFault.TheVariants as X
use Rattle.jl_calculus.specs.declared.history.FetchFault.{FetchFault}
use Rattle.jl_calculus.specs.declared.history.FetchFault.TheVariants as F
use Rattle.jl_calculus.specs.declared.history.Outcome.{Outcome}
use Rattle.jl_calculus.specs.declared.history.SpawnFault.{SpawnFault}
use Rattle.jl_calculus.specs.declared.history.SpawnFault.TheVariants as S
use Rattle.jl_calculus.specs.ValidHistory.{IsValidOutcome}
use Rattle.jl_task.specs.Knows.{Knows, Grew, Asked, Refused, Defined, Deleted, IsAbsentNow, IsMade, WorldsFull, IsFull, Spawned, TasksFull, AreTasksFull, Fetched}

-- the answer to a definition of a site
pub record AnswersDefinition (before now : Knows) (site : ℕ) (result : Result ℕ DefineFault) : Type 0 where
  pub grew : Grew before now
  pub defined : IfOk result (λ w. Defined before now site)
  pub world : IfOk result (λ w. IsMade now w)
  pub refused : OnErr result (Refused before now)
  pub full : result ≡ Err D.WorldLimit → WorldsFull before now
  pub limit : IsFull before → result ≡ Err D.WorldLimit

-- the answer to the deletion at a place
pub record AnswersDeletion (before now : Knows) (place : ℕ) (result : Result ℕ DeleteFault) : Type 0 where
  pub grew : Grew before now
  pub deleted : IfOk result (λ _. Deleted before now place)
  pub world : IfOk result (λ w. IsMade now w)
  pub refused : OnErr result (Refused before now)
  pub absent : result ≡ Err X.NoSuchMethod → IsAbsentNow before now place
  pub full : result ≡ Err X.WorldLimit → WorldsFull before now
  pub limit : IsFull before → result ≡ Err X.WorldLimit

-- the answer to a spawn from a start
pub record AnswersSpawn (before now : Knows) (start : Start) (result : Result ℕ SpawnFault) : Type 0 where
  pub grew : Grew before now
  pub spawned : IfOk result (λ child. Spawned before now child start)
  pub refused : OnErr result (Refused before now)
  pub full : result ≡ Err S.TaskLimit → TasksFull before now
  pub limit : AreTasksFull before → result ≡ Err S.TaskLimit

-- the answer to a fetch of a task: no task that is led waits
pub record AnswersFetch (before now : Knows) (task : ℕ) (result : Result Outcome FetchFault) : Type 0 where
  pub grew : Grew before now
  pub fetched : IfOk result (λ outcome. Fetched before now task outcome)
  pub valid : IfOk result (λ outcome. IsValidOutcome before.program outcome)
  pub refused : OnErr result (Asked before now)
  pub never : result ≡ Err F.NotYet → ⊥
