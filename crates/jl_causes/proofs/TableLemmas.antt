-- What is judged of an entry, cause by cause in the order of the table.
use Rattle.std.proofs.Common.{◌≡◌, ℕ, ◌<◌, arith, IsTrue, List, length}
use Rattle.jl_program.specs.declared.tree.Program.{Program}
use Rattle.jl_calculus.specs.declared.history.Event.{Event}
use Rattle.jl_calculus.specs.Legal.{IsRunning, HasTrueTrace, HasOwnEvents}
use Rattle.jl_calculus.specs.Past.{tasks_of}
use Rattle.jl_calculus.specs.World.{world_of, FindsMethod}
use Rattle.jl_model.specs.declared.limits.TheConstants.{MOST_WORLDS, MOST_TASKS}
use Rattle.jl_report.specs.declared.entry.Step.{Step}
use Rattle.jl_report.specs.declared.entry.Ending.{Ending}
use Rattle.jl_report.specs.declared.entry.Entry.{Entry}
use Rattle.jl_report.specs.declared.entry.Entry.TheVariants as E
use Rattle.jl_causes.specs.declared.cause.Cause.{Cause}
use Rattle.jl_causes.specs.declared.cause.Cause.TheVariants as C
use Rattle.jl_causes.specs.Sketch.{record_of}
use Rattle.jl_causes.specs.Causes.{has_end, IsKnownKey, IsScriptSite, IsNextKey, IsNextFill, BeginsRight, ChoosesRight, IsFreeOf, rank, IsClean, IsFirstAt}

rank_small : (c : Cause) → rank c < 14
rank_small C.KeyOrder = omega arith
rank_small C.KeyUnknown = omega arith
rank_small C.FillKey = omega arith
rank_small C.FillWorld = omega arith
rank_small C.FillChoice = omega arith
rank_small C.NotRunning = omega arith
rank_small C.Site = omega arith
rank_small C.NoDefinition = omega arith
rank_small C.ChildOrder = omega arith
rank_small C.Limit = omega arith
rank_small C.Unfinished = omega arith
rank_small C.ItemFalse = omega arith
rank_small C.EventMissing = omega arith
rank_small C.RunDiffers = omega arith

module _ (P : Program) (all : List Entry) (es : List Event) where
  -- the entry is free of the causes that stand in the table before a place
  abbrev pub IsFreeUpTo : ℕ → Entry → Type 0
  IsFreeUpTo k x = (cause : Cause) → rank cause < k → IsFreeOf P all es cause x

  pub clean : (x : Entry) → IsFreeUpTo 14 x → IsClean P all es x
  clean x h cause = h cause (rank_small cause)

  pub first : (x : Entry) (cause : Cause) → IsFreeUpTo (rank cause) x → (IsFreeOf P all es cause x → ⊥) → IsFirstAt P all es x cause
  first x cause h fails = record { holds = fails; first = h }

  pub begin_free : (k fuel : ℕ) → (10 < k → IsTrue (has_end all 0)) → IsFreeUpTo k (E.Begin fuel)
  begin_free k fuel a C.Unfinished l = a l
  begin_free k fuel a _ l = tt

  pub key_free : (k number : ℕ) (function tuple : List ℕ) → (0 < k → IsNextKey P es number function tuple) → (1 < k → IsKnownKey P function tuple) → IsFreeUpTo k (E.Key number function tuple)
  key_free k number function tuple a b C.KeyOrder l = a l
  key_free k number function tuple a b C.KeyUnknown l = b l
  key_free k number function tuple a b _ l = tt

  pub fill_free : (k key site begins : ℕ) → (2 < k → IsNextFill es key begins) → (3 < k → BeginsRight P es key begins) → (4 < k → ChoosesRight P es key site begins) → IsFreeUpTo k (E.Fill key site begins)
  fill_free k key site begins a b c C.FillKey l = a l
  fill_free k key site begins a b c C.FillWorld l = b l
  fill_free k key site begins a b c C.FillChoice l = c l
  fill_free k key site begins a b c _ l = tt

  pub def_free : (k task site : ℕ) → (5 < k → IsRunning es task) → (6 < k → IsScriptSite P site) → (9 < k → world_of es < MOST_WORLDS) → IsFreeUpTo k (E.Def task site)
  def_free k task site a b c C.NotRunning l = a l
  def_free k task site a b c C.Site l = b l
  def_free k task site a b c C.Limit l = c l
  def_free k task site a b c _ l = tt

  pub del_free : (k task place : ℕ) → (5 < k → IsRunning es task) → (6 < k → place < length P.deletes) → (7 < k → FindsMethod P es place) → (9 < k → world_of es < MOST_WORLDS) → IsFreeUpTo k (E.Del task place)
  del_free k task place a b c d C.NotRunning l = a l
  del_free k task place a b c d C.Site l = b l
  del_free k task place a b c d C.NoDefinition l = c l
  del_free k task place a b c d C.Limit l = d l
  del_free k task place a b c d _ l = tt

  pub spawn_free : (k task child place : ℕ) → (5 < k → IsRunning es task) → (6 < k → place < length P.spawns) → (8 < k → child ≡ tasks_of es) → (9 < k → tasks_of es < MOST_TASKS) → (10 < k → IsTrue (has_end all child))
      → IsFreeUpTo k (E.Spawn task child place)
  spawn_free k task child place a b c d e C.NotRunning l = a l
  spawn_free k task child place a b c d e C.Site l = b l
  spawn_free k task child place a b c d e C.ChildOrder l = c l
  spawn_free k task child place a b c d e C.Limit l = d l
  spawn_free k task child place a b c d e C.Unfinished l = e l
  spawn_free k task child place a b c d e _ l = tt

  pub done_free : (k task calls : ℕ) (trace : List Step) (output : List ℕ) (ending : Ending) → (5 < k → IsRunning es task) → (11 < k → HasTrueTrace P es task (record_of calls trace output)) → (12 < k → HasOwnEvents es task (record_of calls trace output))
      → IsFreeUpTo k (E.Done task calls trace output ending)
  done_free k task calls trace output ending a b c C.NotRunning l = a l
  done_free k task calls trace output ending a b c C.ItemFalse l = b l
  done_free k task calls trace output ending a b c C.EventMissing l = c l
  done_free k task calls trace output ending a b c _ l = tt
