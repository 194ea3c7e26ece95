-- What the grammar sees of the tokens of a text that was printed: all but the newlines before negative numbers.
use Rattle.std.proofs.Common.{◌≡◌, Bool, true, false, not, cond, ◌&&◌, List, [], ◌∷◌, ◌++◌, refl, sym, ap, ◌∙◌}
use Rattle.jl_typeread.specs.declared.terminal.Lexeme.{Lexeme}
use Rattle.jl_typeread.specs.declared.terminal.Terminal.{Terminal}
use Rattle.jl_typeread.specs.declared.terminal.Terminal.TheVariants as S
use Rattle.jl_grammar.specs.declared.mark.Around.{Around}
use Rattle.jl_grammar.specs.declared.mark.Previous.{Previous}
use Rattle.jl_grammar.specs.declared.mark.Previous.TheVariants.{Other}
use Rattle.jl_grammar.specs.Marks.{terminals}
use Rattle.jl_grammar.specs.Newlines.{around_after, previous_after, is_shown, is_dropped, drop_newlines_from}
use Rattle.jl_print.specs.Spelling.{is_negative, is_prefix, spread, Stays}

-- the signs that the grammar sees
abbrev pub seen : List Around → Previous → List Terminal → List Terminal
seen ns p [] = []
seen ns p (s ∷ ss) = cond (is_shown s ns p) (s ∷ []) [] ++ seen (around_after s ns) (previous_after s ns p) ss

shown-seen : (l : Lexeme) (ls : List Lexeme) (ns : List Around) (p : Previous)
    → terminals (drop_newlines_from (around_after l.terminal ns) (previous_after l.terminal ns p) ls) ≡ seen (around_after l.terminal ns) (previous_after l.terminal ns p) (terminals ls) → (b : Bool)
    → terminals (cond b (l ∷ []) [] ++ drop_newlines_from (around_after l.terminal ns) (previous_after l.terminal ns p) ls) ≡ cond b (l.terminal ∷ []) [] ++ seen (around_after l.terminal ns) (previous_after l.terminal ns p) (terminals ls)
shown-seen l ls ns p rest true = ap (λ ss. l.terminal ∷ ss) rest
shown-seen l ls ns p rest false = rest

pub bare-seen : (ls : List Lexeme) (ns : List Around) (p : Previous) → terminals (drop_newlines_from ns p ls) ≡ seen ns p (terminals ls)
bare-seen [] ns p = refl
bare-seen (l ∷ ls) ns p = shown-seen l ls ns p (bare-seen ls (around_after l.terminal ns) (previous_after l.terminal ns p)) (is_shown l.terminal ns p)

-- a newline that is no token changes nothing
dropped : (ns : List Around) (p : Previous) (ss : List Terminal) → is_dropped ns p ≡ true → seen ns p (S.Newline ∷ ss) ≡ seen ns p ss
dropped ns p ss e =
    ap (λ b. cond (not b) (S.Newline ∷ []) [] ++ seen ns (cond b p Other) ss) e

not-true : (a : Bool) → (true && not a) ≡ false → a ≡ true
not-true true e = refl
not-true false e = sym e

one-seen : (s : Terminal) (tail ss : List Terminal) (ns : List Around) (p : Previous) → is_shown s ns p ≡ true → seen (around_after s ns) (previous_after s ns p) tail ≡ ss → seen ns p (s ∷ tail) ≡ s ∷ ss
one-seen s tail ss ns p shown rest = ap (λ b. cond b (s ∷ []) [] ++ seen (around_after s ns) (previous_after s ns p) tail) shown ∙ ap (λ l. s ∷ l) rest

spread-seen : (s : Terminal) (spreads ss : List Terminal) (ns : List Around) (p : Previous) → seen ns p (s ∷ spreads ++ S.End ∷ []) ≡ ss → (b : Bool) → (b && not (is_dropped ns p)) ≡ false
    → seen ns p (cond b (S.Newline ∷ s ∷ spreads) (s ∷ spreads) ++ S.End ∷ []) ≡ ss
spread-seen s spreads ss ns p one true e = dropped ns p (s ∷ spreads ++ S.End ∷ []) (not-true (is_dropped ns p) e) ∙ one
spread-seen s spreads ss ns p one false e = one

pub stays_seen : (ss : List Terminal) (free : Bool) (ns : List Around) (p : Previous) → Stays free ns p ss → seen ns p (spread free ss ++ S.End ∷ []) ≡ ss ++ S.End ∷ []
stays_seen [] free ns p stays = refl
stays_seen (s ∷ ss) free ns p stays =
    let rest = stays_seen ss (is_prefix s) (around_after s ns) (previous_after s ns p) stays.2 in
    spread-seen s (spread (is_prefix s) ss) (s ∷ ss ++ S.End ∷ []) ns p
    (one-seen s (spread (is_prefix s) ss ++ S.End ∷ []) (ss ++ S.End ∷ []) ns p stays.0 rest) (is_negative s && not free) stays.1
