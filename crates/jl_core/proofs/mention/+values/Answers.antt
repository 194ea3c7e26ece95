use Rattle.std.proofs.Common.{◌++◌, ap, sym, ◌∙◌, append-nil}
use Rattle.jl_core.proofs.MentionLemmas.{int-mentions, bool-mentions, nothing-mentions}
use Rattle.jl_core.proofs.mention.+values.Goals as goal

pub append_tasks-returns-in-Int : goal.append_tasks-returns-in-Int
append_tasks-returns-in-Int t c = sym (ap (λ xs. c.args.out.now.items ++ xs) (int-mentions c.args.value.now _ c.in-Int.is) ∙ append-nil c.args.out.now.items)

pub append_tasks-returns-in-Bool : goal.append_tasks-returns-in-Bool
append_tasks-returns-in-Bool t c = sym (ap (λ xs. c.args.out.now.items ++ xs) (bool-mentions c.args.value.now _ c.in-Bool.is) ∙ append-nil c.args.out.now.items)

pub append_tasks-returns-in-Nothing : goal.append_tasks-returns-in-Nothing
append_tasks-returns-in-Nothing t c = sym (ap (λ xs. c.args.out.now.items ++ xs) (nothing-mentions c.args.value.now c.in-Nothing.is) ∙ append-nil c.args.out.now.items)
