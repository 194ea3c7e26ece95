use Rattle.std.proofs.Common.{◌∙◌, sym, ap, arith, drop, slice_get, option_copied}
use Rattle.jl_names.specs.Stacks.{last_place}
use Rattle.jl_written.specs.Meaning.{var_of}
use Rattle.jl_written.proofs.VarLemmas.{var_none, var_at}
use Rattle.jl_written.proofs.SightLemmas.{none_from, none_behind, same_behind}
use Rattle.jl_written.proofs.vars.TypeVars.find_from.Goals as goal

pub returns-in_err-place : goal.returns-in_err-place
returns-in_err-place c =
    let e = ap (λ z. last_place z c.args.name.now) (sym c.self.invariant) ∙ sym c.find.ensures ∙ c.in_err-place.was in
    ap option_copied c.from_residual.ensures
    ∙ sym (none_from c.self.inside.vars.items c.args.name.now c.args.start (var_none 0 c.self.inside.vars.items c.args.name.now e))
    ∙ ap (λ z. var_of (drop c.args.start z) c.args.name.now) c.self.view_is

pub returns-then-place-start : goal.returns-then-place-start
returns-then-place-start c =
    let e = ap (λ z. last_place z c.args.name.now) (sym c.self.invariant) ∙ sym c.find.ensures ∙ c.in_ok-place.was in
    let l = c.if-place-start.true in
    sym (none_behind 0 c.self.inside.vars.items c.args.name.now c.in_ok-place.place c.args.start e (omega (arith, l)))
    ∙ ap (λ z. var_of (drop c.args.start z) c.args.name.now) c.self.view_is

pub returns : goal.returns
returns c =
    let e = ap (λ z. last_place z c.args.name.now) (sym c.self.invariant) ∙ sym c.find.ensures ∙ c.in_ok-place.was in
    let l = c.if-place-start.false in
    c.at.ensures ∙ ap (λ z. slice_get z c.in_ok-place.place) c.as_slice.ensures.value
    ∙ var_at c.self.inside.vars.items c.args.name.now c.in_ok-place.place e
    ∙ sym (same_behind 0 c.self.inside.vars.items c.args.name.now c.in_ok-place.place c.args.start e (omega (arith, l)))
    ∙ ap (λ z. var_of (drop c.args.start z) c.args.name.now) c.self.view_is
