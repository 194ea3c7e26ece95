-- Tokens and the marks that have their places.
use Rattle.std.proofs.Common.{◌≡◌, refl, sym, ap, ◌∙◌, arith, length, List, [], ◌∷◌}
use Rattle.std.specs.Vec.Iter.{into_iter_items, into_iter_len}
use Rattle.std.specs.declared.vec.IntoIter.{IntoIter}
use Rattle.jl_typeread.specs.declared.terminal.Lexeme.{Lexeme}
use Rattle.jl_grammar.specs.declared.mark.Marks.{Marks}
use Rattle.jl_grammar.specs.Marks.{marks_of, terminals, with_marks}
use Rattle.jl_marks.specs.Pairs.{pair_marks}
use Rattle.jl_marks.specs.Scan.{all_marks}

-- the tokens with the marks of all of them
pub paired : (ls : List Lexeme) → pair_marks (all_marks (terminals ls)) ls ≡ with_marks ls
paired [] = refl
paired (l ∷ ls) = ap (λ ts. record { lexeme = l; marks = marks_of (l.terminal ∷ terminals ls) } ∷ ts) (paired ls)

none_paired : (ms : List Marks) (ls : List Lexeme) → length ls ≡ 0 → pair_marks ms ls ≡ []
none_paired [] ls e = refl
none_paired (m ∷ ms) [] e = refl
none_paired (m ∷ ms) (l ∷ ls) e = absurd (omega (arith, e))

-- where no token is left, none is given, whatever marks are left
pub unpaired : {Z : Type 0} (ms : List Marks) (it : IntoIter Lexeme Z) → into_iter_len it ≡ 0 → pair_marks ms (into_iter_items it) ≡ []
unpaired ms it e = none_paired ms (into_iter_items it) (sym it.rest.ok.0 ∙ e)
