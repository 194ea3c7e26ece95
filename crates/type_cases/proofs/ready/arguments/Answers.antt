use Rattle.std.proofs.Common.{◌∙◌, sym, subst}
use Rattle.jl_match.specs.KeptRow.{AreConcrete}
use Rattle.jl_match.proofs.ArgumentTypes.{no_arguments, one_argument}
use Rattle.type_cases.proofs.ready.arguments.Goals as goal

pub loop-ty-init : goal.loop-ty-init
loop-ty-init c = subst (AreConcrete c.args.table.now) (sym c.new-found.ensures.items) (no_arguments c.args.table.now)

pub loop-ty-preserved : goal.loop-ty-preserved
loop-ty-preserved c =
    let form = c.in_ok-form.ensures in
    one_argument c.args.table.now c.loop-ty.found.items c.push.new.self.items c.in_ok-form.form c.loop-ty.invariant form.form.normal form.known
    (form.closed (sym c.is_closed.ensures ∙ c.if-not-is_closed.false))
    (sym c.is_concrete.ensures ∙ c.if-not-is_concrete.false)
    c.in_ok-push.ensures.items
