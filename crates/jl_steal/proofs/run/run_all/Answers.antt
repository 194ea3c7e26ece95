use mir.Syntax.{named}
use denote.RattleType.{RattleType}
use denote.Ref.{NamedLft}
use denote.Exit.{no}
use denote.Param.{param, arg, layout}
use denote.Param.Callables.{of_code}
use denote.Param.Send.{IsSend, param_send, arg_send}
use denote.Param.Sent.{code_sync}
use denote.Param.Table.{FnAny}
use Rattle.jl_host.specs.contracts.ops.HostOps as ops_type
use Rattle.jl_runner.specs.contracts.job.Job as job_type
use Rattle.jl_runner.specs.contracts.shared.Shared as shared_type
use Rattle.jl_runner.proofs.CrossBooks.{job_send}
use Rattle.jl_runner.proofs.CrossLent.{four_lent}
use Rattle.jl_runner.proofs.CrossOps.{ops_sync}
use Rattle.jl_runner.proofs.CrossShared.{shared_sync}
use Rattle.jl_steal.specs.contracts.member.Member as member_type
use Rattle.jl_steal.specs.contracts.run.run_all.fn-1 as pointer
use Rattle.jl_steal.proofs.member.Member.TheSendSync as members
use Rattle.jl_steal.proofs.run.run_all.Goals as goal

pub for_each_mut-requires-send-T : goal.for_each_mut-requires-send-T
for_each_mut-requires-send-T g c κs within =
    let for_camp : NamedLft = record { mir = named 6; lft = κs.1.1.1.1.1.1.0 } in
    let program : NamedLft = record { mir = named 7; lft = κs.1.1.1.1.1.1.1.0 } in
    let job : RattleType = job_type.the_row program (param 0 g.row.N) g.N.Naming in
    let member : RattleType = member_type.the_row for_camp job in
    let member_send : IsSend member = members.the_send for_camp job (job_send (param 0 g.row.N) g.N.Naming program) in
    let sent : IsSend (param 1 (arg (layout member) no member)) = param_send 1 (arg (layout member) no member) (arg_send (layout member) no member member_send) in
    record { owned = sent.owned; leaving = sent.leaving }

pub for_each_mut-requires-sync-F : goal.for_each_mut-requires-sync-F
for_each_mut-requires-sync-F g c κs within =
    let stored : RattleType = FnAny (pointer.sig g.row.N g.row.R g.row.G) g.fn-1 in
    let for_shared : NamedLft = record { mir = named 8; lft = κs.1.1.1.1.1.1.1.1.0 } in
    let program : NamedLft = record { mir = named 9; lft = κs.1.1.1.1.1.1.1.1.1.0 } in
    let for_rt : NamedLft = record { mir = named 10; lft = κs.1.1.1.1.1.1.1.1.1.1.0 } in
    let for_gate : NamedLft = record { mir = named 11; lft = κs.1.1.1.1.1.1.1.1.1.1.1.0 } in
    let for_ops : NamedLft = record { mir = named 12; lft = κs.1.1.1.1.1.1.1.1.1.1.1.1.0 } in
    let shared : RattleType = shared_type.the_row program (param 0 g.row.N) g.N.Naming in
    record {
      shared =
          (four_lent for_shared for_rt for_gate for_ops shared (param 1 g.row.R) (param 2 g.row.G) (ops_type.the_row stored (of_code g.fn-1)) (shared_sync program (param 0 g.row.N) g.N.Naming) c.type_bounds.sync-R
          c.type_bounds.sync-G (ops_sync stored (of_code g.fn-1) (code_sync _ _ _))).shared;
    }
