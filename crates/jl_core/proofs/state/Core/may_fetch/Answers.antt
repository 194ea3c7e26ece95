use Rattle.std.proofs.Common.{◌∙◌, ap, sym}
use Rattle.jl_calculus.specs.Past.{done_of}
use Rattle.jl_core.specs.State.{State}
use Rattle.jl_core.proofs.EnabledLemmas.{fetch_where}
use Rattle.jl_core.proofs.state.Core.may_fetch.Goals as goal

pub returns-in-Some : goal.returns-in-Some
returns-in-Some c =
    let s = c.args.self.now in
    fetch_where s.program s.room s.core c.args.task c.args.of c.is_free.result c.in-Some.field-0.now c.is_free.ensures (c.knows.ensures.0 c.if-not-knows.false)
    (ap (λ (x : State). done_of c.args.of x.core.events) (sym c.self.view_is) ∙ ap (done_of c.args.of) (sym c.as_slice.ensures.value) ∙ c.in-Some.ensures)
