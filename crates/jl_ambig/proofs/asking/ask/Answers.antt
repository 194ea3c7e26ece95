use Rattle.jl_ambig.proofs.AskLemmas.{asked_found}
use Rattle.jl_ambig.proofs.asking.ask.Goals as goal

pub returns-clause-found : goal.returns-clause-found
returns-clause-found c = λ es f done asked h.
    asked_found c.args.ready.now es f c.args.types.now c.as_slice.result.now c.args.defs.now c.args.dels.now done c.args.pairs.now.items c.note_choice.new.pairs.items c.in_ok-choice.choice c.as_slice.ensures
    c.in_ok-choice.ensures.choice (c.in_ok-note_choice.ensures h.rises) asked h
