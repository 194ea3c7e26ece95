use Rattle.std.proofs.Common.{◌∙◌, ap}
use Rattle.jl_program.specs.declared.tree.Expr.{out-Expr}
use Rattle.jl_program.specs.declared.tree.Expr.TheViews as V
use Rattle.jl_machine.proofs.Acting.{call_fits, fetch_one}
use Rattle.jl_machine.proofs.Asking.{lent_latest}
use Rattle.jl_machine.proofs.task.Task.act.Goals as goal

pub call-requires-clause-fits : goal.call-requires-clause-fits
call-requires-clause-fits g c = call_fits _ c.args.self.now c.args.expr.now c.in-Call.function c.in-Call.field-1 c.in-Call.is c.requires.fits

pub fetch-requires-clause-settled : goal.fetch-requires-clause-settled
fetch-requires-clause-settled g c = record { value = fetch_one _ c.args.self.now c.args.expr.now c.in-Fetch.field-0 c.in-Fetch.is c.requires.fits; text = c.requires.settled }

pub returns-in_ok-world-in-Latest-clause-goes : goal.returns-in_ok-world-in-Latest-clause-goes
returns-in_ok-world-in-Latest-clause-goes g c =
    lent_latest _ _ c.in_ok-world-in-Latest.world c.args.self.now c.look.new.self c.in_ok-world-in-Latest.ensures c.args.expr.now c.in-Latest.function c.in-Latest.field-1 (ap out-Expr c.in-Latest.is ∙ V.outs-Latest c.in-Latest.function c.in-Latest.field-1) c.requires.settled c.requires.fits
