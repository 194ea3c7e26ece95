use mir.Syntax.{named}
use denote.RattleType.{RattleType}
use denote.Ref.{NamedLft}
use denote.Param.{param}
use denote.Param.Callables.{of_code}
use denote.Param.Sent.{code_sync}
use denote.Param.Table.{FnAny}
use Rattle.jl_host.specs.contracts.ops.HostOps as ops_type
use Rattle.jl_runner.specs.contracts.at_board.SharedBoard as board_type
use Rattle.jl_runner.specs.contracts.job.Job as job_type
use Rattle.jl_runner.specs.contracts.shared.Shared as shared_type
use Rattle.jl_runner.specs.contracts.run.run_named.fn-1 as pointer
use Rattle.jl_runner.proofs.CrossLent.{five_lent}
use Rattle.jl_runner.proofs.CrossOps.{ops_sync}
use Rattle.jl_runner.proofs.CrossShared.{shared_sync, board_sync}
use Rattle.jl_runner.proofs.run.run_named.Goals as goal

pub map_indices-requires-sync-F : goal.map_indices-requires-sync-F
map_indices-requires-sync-F g c κs within =
    let stored : RattleType = FnAny (pointer.sig g.row.N g.row.R g.row.G) g.fn-1 in
    let program : NamedLft = record { mir = named 7; lft = κs.1.1.1.1.1.1.1.0 } in
    let for_shared : NamedLft = record { mir = named 6; lft = κs.1.1.1.1.1.1.0 } in
    let for_rt : NamedLft = record { mir = named 8; lft = κs.1.1.1.1.1.1.1.1.0 } in
    let for_gate : NamedLft = record { mir = named 9; lft = κs.1.1.1.1.1.1.1.1.1.0 } in
    let for_ops : NamedLft = record { mir = named 10; lft = κs.1.1.1.1.1.1.1.1.1.1.0 } in
    let for_board : NamedLft = record { mir = named 11; lft = κs.1.1.1.1.1.1.1.1.1.1.1.0 } in
    let for_jobs : NamedLft = record { mir = named 12; lft = κs.1.1.1.1.1.1.1.1.1.1.1.1.0 } in
    let shared : RattleType = shared_type.the_row program (param 0 g.row.N) g.N.Naming in
    let board : RattleType = board_type.the_row (job_type.the_row for_jobs (param 0 g.row.N) g.N.Naming) in
    record {
      shared =
          (five_lent for_shared for_rt for_gate for_ops for_board shared (param 1 g.row.R) (param 2 g.row.G) (ops_type.the_row stored (of_code g.fn-1)) board (shared_sync program (param 0 g.row.N) g.N.Naming) c.type_bounds.sync-R
          c.type_bounds.sync-G (ops_sync stored (of_code g.fn-1) (code_sync _ _ _)) (board_sync for_jobs (param 0 g.row.N) g.N.Naming)).shared;
    }
