-- The sources and sinks in memory that fail where they are told to, as callers see them.
use Rattle.std.specs.Prelude.{ℕ, Bool, List, ◌==◌, if◌then◌else◌}
use Rattle.std.specs.List.{list_any}
use Rattle.jl_io.specs.Faults.{raised}

-- which calls fail: their numbers from 1, the number of the last call, and how often a call has failed
pub record Plan : Type 0 where
  pub fail_at : List ℕ
  pub calls : ℕ
  pub faults : ℕ

-- the bytes left to be read or those written, the most that one call moves, and which calls fail
pub record Device : Type 0 where
  pub bytes : List ℕ
  pub piece : ℕ
  pub plan : Plan

-- the next call is one of those that fail
abbrev pub call_fails : Plan → Bool
call_fails plan = list_any (λ number. number == raised plan.calls) plan.fail_at

-- the plan after one more call
abbrev pub after_call : Plan → Plan
after_call plan = record {
  fail_at = plan.fail_at;
  calls = raised plan.calls;
  faults = if call_fails plan then raised plan.faults else plan.faults;
}
