use Rattle.std.proofs.Common.{◌∙◌, ap}
use Rattle.jl_model.specs.Refusals.{given_in}
use Rattle.jl_sig.specs.Parts.{all_given}
use Rattle.jl_types.proofs.GivenLemmas.{given-any, given-var}
use Rattle.jl_sig.proofs.ArgumentLemmas.{none_case, nominal_case}
use Rattle.jl_sig.proofs.arguments.+arguments.Goals as goal

pub push_arguments-returns-in-Any : goal.push_arguments-returns-in-Any
push_arguments-returns-in-Any t c = none_case (all_given c.args.arguments.now.items) (given_in c.args.ty.now) (ap given_in c.in-Any.is ∙ given-any)

pub push_arguments-returns-in-Var : goal.push_arguments-returns-in-Var
push_arguments-returns-in-Var t c = none_case (all_given c.args.arguments.now.items) (given_in c.args.ty.now) (ap given_in c.in-Var.is ∙ given-var c.in-Var.field-0)

pub push_arguments-returns-in_ok-push_arguments_of_all-in-Nominal : goal.push_arguments-returns-in_ok-push_arguments_of_all-in-Nominal
push_arguments-returns-in_ok-push_arguments_of_all-in-Nominal t c =
    nominal_case c.args.ty.now c.in-Nominal.name c.in-Nominal.parts c.as_slice.result.now c.as_slice-in-Nominal.result.now
    (all_given c.args.arguments.now.items) (all_given c.push_own.new.arguments.items) (all_given c.push_arguments_of_all.new.arguments.items)
    c.in-Nominal.is c.as_slice.ensures c.as_slice-in-Nominal.ensures c.in_ok-push_own-in-Nominal.ensures c.in_ok-push_arguments_of_all-in-Nominal.ensures
