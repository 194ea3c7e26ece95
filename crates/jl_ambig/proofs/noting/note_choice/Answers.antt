use Rattle.std.proofs.Common.{sym, subst, OnOk}
use Rattle.std.specs.List.Sorted.{IsStrictlySortedBy}
use Rattle.jl_ambig.specs.Asked.{IsNotedBy}
use Rattle.jl_ambig.specs.Pairs.{pair_cmp}
use Rattle.jl_ambig.proofs.noting.note_choice.Goals as goal

pub returns-in-Ambiguous : goal.returns-in-Ambiguous
returns-in-Ambiguous c =
    subst (λ k. OnOk c.note.result (IsStrictlySortedBy pair_cmp c.args.pairs.now.items → IsNotedBy k c.args.types.now c.args.pairs.now.items c.note.new.pairs.items)) (sym c.in-Ambiguous.is) c.note.ensures
