use Rattle.std.proofs.Common.{◌∷◌, ◌++◌, [], ap, ◌∙◌, Some, option_to_list, refl}
use Rattle.jl_task.specs.declared.point.Frame.TheVariants as Fr
use Rattle.jl_frames.proofs.TopLemmas.{fits, values_passed, text_passed, block_passed, evaluated_passed}
use Rattle.jl_frames.proofs.frames.Frames.pass.Goals as goal

pub returns-in-Args : goal.returns-in-Args
returns-in-Args c =
    let a = c.self.inside in
    let is = c.pop.ensures.items ∙ ap (λ o. c.pop.new.self.items ++ option_to_list o) (c.in-Some.is ∙ ap Some c.in-Args.is) in
    values_passed c.pop.new.self.items _ a.flat.items a.values.items a.slots.items a.types.items a.text a.from a.scope a.text_from c.args.self.now is c.self.view_is c.self.invariant
    c.in-Args.from (fits c.pop.new.self.items _ a.flat.items a.values.items a.slots.items a.types.items a.text a.from a.scope a.text_from c.args.self.now is c.self.view_is c.self.invariant).0
    (λ vs. Fr.Args c.in-Args.field-1.now vs c.in-Args.field-2.now) (λ ws us xs cs. refl)
    c.remove_between.new.values.items c.remove_between.ensures

pub returns-in-Second : goal.returns-in-Second
returns-in-Second c =
    let a = c.self.inside in
    let is = c.pop.ensures.items ∙ ap (λ o. c.pop.new.self.items ++ option_to_list o) (c.in-Some.is ∙ ap Some c.in-Second.is) in
    values_passed c.pop.new.self.items _ a.flat.items a.values.items a.slots.items a.types.items a.text a.from a.scope a.text_from c.args.self.now is c.self.view_is c.self.invariant
    c.in-Second.from (fits c.pop.new.self.items _ a.flat.items a.values.items a.slots.items a.types.items a.text a.from a.scope a.text_from c.args.self.now is c.self.view_is c.self.invariant).0
    (λ vs. Fr.Args c.in-Second.field-1.now vs (c.in-Second.field-2.now ∷ [])) (λ ws us xs cs. refl)
    c.remove_between-in-Second.new.values.items c.remove_between-in-Second.ensures

pub returns-in-Showing : goal.returns-in-Showing
returns-in-Showing c =
    let a = c.self.inside in
    let is = c.pop.ensures.items ∙ ap (λ o. c.pop.new.self.items ++ option_to_list o) (c.in-Some.is ∙ ap Some c.in-Showing.is) in
    text_passed c.pop.new.self.items c.in-Showing.field-0 c.in-Showing.begin c.in-Showing.field-2 a.flat.items a.values.items a.slots.items a.types.items a.text a.from a.scope a.text_from c.args.self.now is c.self.view_is c.self.invariant c.truncate.new.self c.truncate.ensures

pub returns-in-Block : goal.returns-in-Block
returns-in-Block c =
    let a = c.self.inside in
    let is = c.pop.ensures.items ∙ ap (λ o. c.pop.new.self.items ++ option_to_list o) (c.in-Some.is ∙ ap Some c.in-Block.is) in
    block_passed c.pop.new.self.items a.flat.items a.values.items a.slots.items a.types.items a.text a.from a.scope a.text_from c.args.self.now c.self.view_is c.self.invariant
    c.in-Block.field-0 c.in-Block.kept is

pub returns-in-Evaluated : goal.returns-in-Evaluated
returns-in-Evaluated c =
    let a = c.self.inside in
    let is = c.pop.ensures.items ∙ ap (λ o. c.pop.new.self.items ++ option_to_list o) (c.in-Some.is ∙ ap Some c.in-Evaluated.is) in
    evaluated_passed c.pop.new.self.items a.flat.items a.values.items a.slots.items a.types.items a.text a.from a.scope a.text_from c.args.self.now c.self.view_is c.self.invariant
    c.in-Evaluated.scope is
