use Rattle.std.proofs.Common.{◌-◌, arith, subst, ℕ}
use Rattle.jl_calculus.specs.Ranges.{Touches}
use Rattle.jl_methods.specs.Links.{IsNext}
use Rattle.jl_rows.proofs.SpanLemmas.{span_open, span_closed}
use Rattle.jl_rows.proofs.span.span_between.Goals as goal

pub returns-in-Some : goal.returns-in-Some
returns-in-Some c = λ P es key w base h k.
    let Is : ℕ → Type 0 = λ d. Touches P es d key in
    let next = subst (IsNext Is w) c.in-Some.is k in
    let past = next.0 in
    span_closed Is w c.args.last base h c.max-first.result c.in-Some.next (c.in-Some.next - 1) c.max-first.ensures next (omega (arith, past))

pub returns-in-None : goal.returns-in-None
returns-in-None c = λ P es key w base h k.
    let Is : ℕ → Type 0 = λ d. Touches P es d key in
    span_open Is w c.args.last base h c.max-first.result c.max-first.ensures (subst (IsNext Is w) c.in-None.is k)
