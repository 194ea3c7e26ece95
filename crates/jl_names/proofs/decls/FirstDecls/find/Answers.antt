use Rattle.std.proofs.Common.{◌∙◌, sym, ap, arith}
use Rattle.jl_names.specs.Numbers.{number_in, with_places, names_of}
use Rattle.jl_names.proofs.DeclLemmas.{found_first, found_past, found_none}
use Rattle.jl_names.proofs.decls.FirstDecls.find.Goals as goal

pub returns-in-Some : goal.returns-in-Some
returns-in-Some c =
    sym (found_first c.self.inside.count c.self.inside.all.now c.args.name.now c.in-Some.number (sym c.find.ensures ∙ c.in-Some.is) (omega (arith, c.if-number-self.true)))
    ∙ ap (λ z. number_in (with_places 0 (names_of z)) c.args.name.now) c.self.view_is

pub returns-in_default : goal.returns-in_default
returns-in_default c =
    sym (found_past c.self.inside.count c.self.inside.all.now c.args.name.now c.in-Some.number (sym c.find.ensures ∙ c.in-Some.is) (omega (arith, c.if-number-self.false)))
    ∙ ap (λ z. number_in (with_places 0 (names_of z)) c.args.name.now) c.self.view_is

pub returns-in_default-2 : goal.returns-in_default-2
returns-in_default-2 c =
    sym (found_none c.self.inside.count c.self.inside.all.now c.args.name.now (sym c.find.ensures ∙ c.in_default.is))
    ∙ ap (λ z. number_in (with_places 0 (names_of z)) c.args.name.now) c.self.view_is
