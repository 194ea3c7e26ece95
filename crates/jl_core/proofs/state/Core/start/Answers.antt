use Rattle.std.proofs.Common.{◌∙◌, sym, subst, refl, None}
use Rattle.jl_program.specs.Valid.{IsValid}
use Rattle.jl_core.proofs.StateLemmas.{start_kept, start_is}
use Rattle.jl_core.proofs.state.Core.start.Goals as goal

pub invariant_of-result : goal.invariant_of-result
invariant_of-result c =
    start_kept _ (subst IsValid (sym (c.in_ok-program.ensures ∙ c.program.ensures)) c.valid.ensures) _ _ _ c.args.fuel c.requires.fuel c.requires.keys c.requires.rows
    (start_is c.args.fuel c.new-events.result.items c.push.new.self.items c.new-tasks.result.items c.push-2.new.self.items (record { seen = 1; known = c.new.result; search = None }) _
    c.new-events.ensures.items c.in_ok-push.ensures.items c.new-tasks.ensures.items c.in_ok-push-2.ensures.items (λ i. record { seen = 1; known = c.new.ensures.items i; search = None })
    refl refl refl)
    c.new-3.ensures.items
