use Rattle.std.proofs.Common.{◌∙◌, ◌||◌, sym, ap, drop, is_some}
use Rattle.jl_written.specs.Meaning.{var_of}
use Rattle.jl_written.specs.Reads.{start_of}
use Rattle.jl_written.proofs.VarLemmas.{bound_in}
use Rattle.jl_written.proofs.SightLemmas.{visible_is}
use Rattle.jl_written.proofs.vars.push_var.Goals as goal

pub returns-then-hides-clause-bound : goal.returns-then-hides-clause-bound
returns-then-hides-clause-bound c =
    let first = c.args.around.now.first in
    let n = c.args.var.name in
    let hides = c.in_ok-hides.ensures.hides ∙ ap (λ k. is_some (var_of (drop k c.args.vars.now) n)) c.start_of.ensures in
    c.if-hides.true
    ∙ sym (ap (λ vs. is_some (var_of vs n)) (visible_is first c.args.vars.now c.args.sight) ∙ bound_in first (drop (start_of c.args.sight) c.args.vars.now) n
    ∙ ap (λ b. b || is_some (var_of first n)) (sym hides ∙ c.if-hides.true))

pub returns-else-hides-clause-bound : goal.returns-else-hides-clause-bound
returns-else-hides-clause-bound c =
    let first = c.args.around.now.first in
    let n = c.args.var.name in
    let hides = c.in_ok-hides.ensures.hides ∙ ap (λ k. is_some (var_of (drop k c.args.vars.now) n)) c.start_of.ensures in
    c.has-is_first.ensures ∙ ap (λ m. is_some (var_of first m)) c.as_slice.ensures
    ∙ sym (ap (λ vs. is_some (var_of vs n)) (visible_is first c.args.vars.now c.args.sight) ∙ bound_in first (drop (start_of c.args.sight) c.args.vars.now) n
    ∙ ap (λ b. b || is_some (var_of first n)) (sym hides ∙ c.if-hides.false))
