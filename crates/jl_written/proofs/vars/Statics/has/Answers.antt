use Rattle.std.proofs.Common.{◌∙◌, sym, ap, is_some, option_copied}
use Rattle.jl_written.specs.Meaning.{var_of}
use Rattle.jl_written.specs.Signatures.{shifted, or_no_vars}
use Rattle.jl_written.proofs.VarLemmas.{some_copied, shifted_has}
use Rattle.jl_written.proofs.vars.Statics.has.Goals as goal

pub returns-in-Some : goal.returns-in-Some
returns-in-Some c =
    c.is_some.ensures ∙ some_copied c.find.result ∙ ap is_some c.find.ensures ∙ sym (shifted_has c.self.inside.by c.in-Some.vars.now c.args.name.now)
    ∙ ap (λ z. is_some (var_of z c.args.name.now)) (ap (λ o. shifted c.self.inside.by (or_no_vars (option_copied o))) (sym c.in-Some.is) ∙ c.self.view_is)
