use Rattle.std.proofs.Common.{◌∙◌, sym, ap, drop, option_copied}
use Rattle.jl_written.specs.Meaning.{var_of, var_or, word_of, meaning_of}
use Rattle.jl_written.specs.Reads.{start_of}
use Rattle.jl_written.proofs.VarLemmas.{named_own, named_static}
use Rattle.jl_written.proofs.SightLemmas.{visible_is}
use Rattle.jl_written.proofs.vars.meaning_of.Goals as goal

pub returns-in-Some : goal.returns-in-Some
returns-in-Some c =
    let ds = c.args.around.now.decls.now in
    let n = c.args.name.now in
    let found = ap (λ k. var_of (drop k c.args.vars.now) n) (sym c.start_of.ensures) ∙ sym c.find_from.ensures ∙ ap option_copied c.in-Some.is in
    sym (ap (λ vs. meaning_of ds vs n) (visible_is c.args.around.now.first c.args.vars.now c.args.sight)
    ∙ named_own c.args.around.now.first (drop (start_of c.args.sight) c.args.vars.now) n c.in-Some.var.now (word_of ds n) found)

pub returns-in_ok-named-in-None : goal.returns-in_ok-named-in-None
returns-in_ok-named-in-None c =
    let ds = c.args.around.now.decls.now in
    let n = c.args.name.now in
    let found = ap (λ k. var_of (drop k c.args.vars.now) n) (sym c.start_of.ensures) ∙ sym c.find_from.ensures ∙ ap option_copied c.in-None.is in
    c.in_ok-named-in-None.ensures.means ∙ ap (var_or (var_of c.args.around.now.first n)) c.word_of.ensures
    ∙ sym (ap (λ vs. meaning_of ds vs n) (visible_is c.args.around.now.first c.args.vars.now c.args.sight)
    ∙ named_static c.args.around.now.first (drop (start_of c.args.sight) c.args.vars.now) n (word_of ds n) found)
