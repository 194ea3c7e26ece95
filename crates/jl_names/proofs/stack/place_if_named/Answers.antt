use Rattle.std.proofs.Common.{◌∙◌, sym}
use Rattle.jl_names.proofs.StackLemmas.{seen_past, seen_here, seen_other}
use Rattle.jl_names.proofs.stack.place_if_named.Goals as goal

pub returns-in_err-found : goal.returns-in_err-found
returns-in_err-found c table s k =
    c.from_residual-in_err-found.ensures
    ∙ sym (seen_past c.args.names.now table c.args.name.now c.in_ok-place.place s (sym k ∙ c.in_ok-place.was) (sym c.in_err-found.ensures.lookup.0))

pub returns-then-eq : goal.returns-then-eq
returns-then-eq c table s k =
    sym (seen_here c.args.names.now table c.args.name.now c.in_ok-place.place s (sym k ∙ c.in_ok-place.was)
    c.in_ok-found.found.now _ c.as_slice.result.now (sym c.in_ok-found.ensures.lookup.0) c.in_ok-found.ensures.lookup.1 c.as_slice.ensures (sym c.eq.ensures ∙ c.if-eq.true))

pub returns-else-eq : goal.returns-else-eq
returns-else-eq c table s k =
    sym (seen_other c.args.names.now table c.args.name.now c.in_ok-place.place s (sym k ∙ c.in_ok-place.was)
    c.in_ok-found.found.now _ c.as_slice.result.now (sym c.in_ok-found.ensures.lookup.0) c.in_ok-found.ensures.lookup.1 c.as_slice.ensures (sym c.eq.ensures ∙ c.if-eq.false))
