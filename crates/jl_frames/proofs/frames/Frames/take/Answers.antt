use Rattle.std.proofs.Common.{◌∷◌, ◌++◌, [], ap, ◌∙◌, Some, option_to_list, refl}
use Rattle.jl_task.specs.declared.point.Frame.TheVariants as Fr
use Rattle.jl_frames.proofs.TopLemmas.{fits, values_taken, text_taken}
use Rattle.jl_frames.proofs.frames.Frames.take.Goals as goal

pub returns-in-Args : goal.returns-in-Args
returns-in-Args c =
    let a = c.self.inside in
    let is = c.pop.ensures.items ∙ ap (λ o. c.pop.new.self.items ++ option_to_list o) (c.in-Some.is ∙ ap Some c.in-Args.is) in
    values_taken c.pop.new.self.items _ a.flat.items a.values.items a.slots.items a.types.items a.text a.from a.scope a.text_from c.args.self.now is c.self.view_is c.self.invariant
    c.in-Args.from (fits c.pop.new.self.items _ a.flat.items a.values.items a.slots.items a.types.items a.text a.from a.scope a.text_from c.args.self.now is c.self.view_is c.self.invariant).0
    (λ vs. Fr.Args c.in-Args.expr.now vs c.in-Args.rest.now) (λ ws us xs cs. refl)

pub returns-in-Second : goal.returns-in-Second
returns-in-Second c =
    let a = c.self.inside in
    let is = c.pop.ensures.items ∙ ap (λ o. c.pop.new.self.items ++ option_to_list o) (c.in-Some.is ∙ ap Some c.in-Second.is) in
    values_taken c.pop.new.self.items _ a.flat.items a.values.items a.slots.items a.types.items a.text a.from a.scope a.text_from c.args.self.now is c.self.view_is c.self.invariant
    c.in-Second.from (fits c.pop.new.self.items _ a.flat.items a.values.items a.slots.items a.types.items a.text a.from a.scope a.text_from c.args.self.now is c.self.view_is c.self.invariant).0
    (λ vs. Fr.Args c.in-Second.expr.now vs (c.in-Second.second.now ∷ [])) (λ ws us xs cs. refl)

pub returns-in-Showing : goal.returns-in-Showing
returns-in-Showing c =
    let a = c.self.inside in
    let is = c.pop.ensures.items ∙ ap (λ o. c.pop.new.self.items ++ option_to_list o) (c.in-Some.is ∙ ap Some c.in-Showing.is) in
    text_taken c.pop.new.self.items c.in-Showing.line c.in-Showing.begin c.in-Showing.rest a.flat.items a.values.items a.slots.items a.types.items a.text a.from a.scope a.text_from c.args.self.now is c.self.view_is c.self.invariant
