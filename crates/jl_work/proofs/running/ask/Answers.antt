use Rattle.std.proofs.Common.{ap, Err}
use Rattle.jl_reflect.specs.declared.key.QueryFault.{QueryFault}
use Rattle.jl_work.proofs.RunningLemmas.{asked_so, stray_so}
use Rattle.jl_work.proofs.running.ask.Goals as goal

pub returns-in_ok-due-in-Ok : goal.returns-in_ok-due-in-Ok
returns-in_ok-due-in-Ok g c =
    λ bytes are.
    asked_so c.in_ok-due-in-Ok.due c.args.setup c.args.question.now bytes c.args.ready.now c.in-Ok.key c.as_slice.result.now c.as_slice-2.result.now
    c.as_slice.ensures c.as_slice-2.ensures c.in-Ok.ensures.means c.in_ok-due-in-Ok.ensures are

pub returns-in_ok-due-in-Err-Unknown : goal.returns-in_ok-due-in-Err-Unknown
returns-in_ok-due-in-Err-Unknown g c =
    λ bytes are.
    stray_so c.in_ok-due-in-Err-Unknown.due c.args.setup c.args.question.now bytes c.args.ready.now c.as_slice.result.now c.as_slice-2.result.now
    c.as_slice.ensures c.as_slice-2.ensures (c.in-Err-Unknown.ensures.unknown (ap (λ (z : QueryFault). Err z) c.in-Err-Unknown.field-0-is)) c.in_ok-due-in-Err-Unknown.ensures are
