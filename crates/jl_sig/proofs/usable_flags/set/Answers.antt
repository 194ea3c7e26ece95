use Rattle.std.proofs.Common.{◌∙◌, arith}
use Rattle.jl_sig.proofs.FlagLemmas.{one_set, none_set}
use Rattle.jl_sig.proofs.usable_flags.set.Goals as goal

pub returns-then-variable-len : goal.returns-then-variable-len
returns-then-variable-len c = one_set c.args.variable c.args.value c.args.flags.now.items

pub returns-else-variable-len : goal.returns-else-variable-len
returns-else-variable-len c =
    let e = c.len.ensures ∙ c.args.flags.now.ok.0 in
    let l = c.if-variable-len.false in
    none_set c.args.variable c.args.value c.args.flags.now.items (omega (arith, e, l))
