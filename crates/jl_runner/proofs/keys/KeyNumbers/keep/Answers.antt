use Rattle.std.proofs.Common.{◌∙◌, ◌++◌, ◌∷◌, [], ap, sym, inr}
use Rattle.indexmap.proofs.CallerLemmas.{insert_entry-new}
use Rattle.jl_runner.proofs.KeyLemmas.{none_is}
use Rattle.jl_runner.proofs.keys.KeyNumbers.keep.Goals as goal

pub returns-clause-kept : goal.returns-clause-kept
returns-clause-kept c =
    inr (c.in_ok-insert.ensures.entries
    ∙ insert_entry-new _ c.self.inside.numbers c.args.key c.args.number (none_is _ (sym c.contains_key.ensures ∙ c.if-contains_key.false))
    ∙ ap (λ xs. xs ++ (c.args.key, c.args.number) ∷ []) c.self.view_is)
