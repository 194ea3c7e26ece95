use Rattle.std.proofs.Common.{◌∙◌, sym, ap, subst, option_copied}
use Rattle.jl_written.specs.declared.reading.Named.TheVariants.{Variable}
use Rattle.jl_written.specs.Meaning.{var_of, var_or}
use Rattle.jl_written.specs.Signatures.{shifted, or_no_vars, HasLargeNumber}
use Rattle.jl_written.proofs.VarLemmas.{shifted_none, shifted_some, on_err}
use Rattle.jl_written.proofs.vars.Statics.named_or.Goals as goal

pub returns-in-None-find-clause-means : goal.returns-in-None-find-clause-means
returns-in-None-find-clause-means c =
    sym (ap (λ o. var_or o c.args.other)
    (ap (λ z. var_of z c.args.name.now) (sym (ap (λ o. shifted c.self.inside.by (or_no_vars (option_copied o))) (sym c.in-Some.is) ∙ c.self.view_is))
    ∙ shifted_none c.self.inside.by c.in-Some.vars.now c.args.name.now (sym c.find.ensures ∙ ap option_copied c.in-None-find.is)))

pub returns-in_ok-number-in-Some-find-clause-means : goal.returns-in_ok-number-in-Some-find-clause-means
returns-in_ok-number-in-Some-find-clause-means c =
    ap (λ k. Variable k c.in-Some-find.var.now.usable) c.in_ok-number-in-Some-find.ensures.number
    ∙ sym (ap (λ o. var_or o c.args.other)
    (ap (λ z. var_of z c.args.name.now) (sym (ap (λ o. shifted c.self.inside.by (or_no_vars (option_copied o))) (sym c.in-Some.is) ∙ c.self.view_is))
    ∙ shifted_some c.self.inside.by c.in-Some.vars.now c.args.name.now c.in-Some-find.var.now (sym c.find.ensures ∙ ap option_copied c.in-Some-find.is)))

pub returns-in_err-number-in-Some-find-clause-limit : goal.returns-in_err-number-in-Some-find-clause-limit
returns-in_err-number-in-Some-find-clause-limit c =
    on_err c.from_residual.result (HasLargeNumber (var_of c.args.self.now c.args.name.now))
    (subst HasLargeNumber
    (sym (ap (λ z. var_of z c.args.name.now) (sym (ap (λ o. shifted c.self.inside.by (or_no_vars (option_copied o))) (sym c.in-Some.is) ∙ c.self.view_is))
    ∙ shifted_some c.self.inside.by c.in-Some.vars.now c.args.name.now c.in-Some-find.var.now (sym c.find.ensures ∙ ap option_copied c.in-Some-find.is)))
    c.in_err-number-in-Some-find.ensures.limit)
