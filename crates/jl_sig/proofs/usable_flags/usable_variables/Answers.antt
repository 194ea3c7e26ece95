use Rattle.std.proofs.Common.{◌∙◌, sym}
use Rattle.jl_sig.proofs.FlagLemmas.{closed_steps, usable_steps}
use Rattle.jl_sig.proofs.usable_flags.usable_variables.Goals as goal

pub returns-then-not-have_variables : goal.returns-then-not-have_variables
returns-then-not-have_variables c =
    closed_steps c.args.written.now c.as_slice-parts.result.now c.as_slice-vars.result.now c.as_slice-parts.ensures c.as_slice-vars.ensures c.in_ok-flags.flags.items c.set_standing_in.new.flags.items c.in_ok-flags.ensures c.set_standing_in.ensures
    c.clear_unions_in.new.flags.items (sym c.have_variables.ensures ∙ c.if-not-have_variables.true) c.clear_unions_in.ensures

pub returns : goal.returns
returns c =
    usable_steps c.args.written.now c.as_slice-parts.result.now c.as_slice-vars.result.now c.as_slice-parts.ensures c.as_slice-vars.ensures c.in_ok-flags.flags.items c.set_standing_in.new.flags.items c.in_ok-flags.ensures c.set_standing_in.ensures
    c.set_standing_in_bounds.new.flags.items c.set_below_in.new.flags.items c.clear_unions_in-2.new.flags.items c.set_standing_in_bounds.ensures c.set_below_in.ensures c.clear_unions_in-2.ensures
