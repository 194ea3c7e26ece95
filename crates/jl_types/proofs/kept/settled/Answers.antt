use Rattle.std.proofs.Common.{◌≡◌, true, inr}
use Rattle.jl_model.specs.Counts.{IsWithinLimits}
use Rattle.jl_types.specs.Form.{Keeps}
use Rattle.jl_types.proofs.SettleLemmas.{settles_pass}
use Rattle.jl_types.proofs.KeepLemmas.{kept_small, kept_large, keeps_pass}
use Rattle.jl_types.proofs.kept.settled.Goals as goal

pub returns-clause-kept : goal.returns-clause-kept
returns-clause-kept c = λ d. kept_small c.args.table.now c.valid.ensures d c.args.ty.now c.in_ok-kept.kept c.in_ok-kept.ensures c.requires.known (c.is_within_limits-2.ensures.0 c.if-not-is_within_limits-2.false).nodes

pub returns-clause-passes : goal.returns-clause-passes
returns-clause-passes c = λ p h. settles_pass (Keeps c.args.table.now) p h (keeps_pass c.args.table.now p h) c.args.ty.now c.in_ok-kept.kept c.in_ok-kept.ensures

pub returns-then-not-is_within_limits-2-clause-limit : goal.returns-then-not-is_within_limits-2-clause-limit
returns-then-not-is_within_limits-2-clause-limit c = λ e. inr (λ d.
    let no : IsWithinLimits c.in_ok-kept.kept → ⊥ = (λ w. let r : c.is_within_limits-2.result ≡ true = c.is_within_limits-2.ensures.1 w in cc) in
    kept_large c.args.table.now c.valid.ensures d c.args.ty.now c.in_ok-kept.kept c.in_ok-kept.ensures c.requires.known no)
