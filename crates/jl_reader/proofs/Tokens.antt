-- The tokens of a source, as the grammar sees them, end with the source's end and have no other.
use Rattle.std.proofs.Common.{ℕ, Bool, true, false, cond, List, [], ◌∷◌, ◌++◌, ◌≡◌, Option, Some, None, refl, sym, ap, subst}
use Rattle.jl_token.specs.declared.token.Token.{Token}
use Rattle.jl_token.specs.declared.token.TokenKind.{TokenKind}
use Rattle.jl_token.specs.declared.token.TokenKind.TheVariants as kind
use Rattle.jl_typeread.specs.declared.terminal.Lexeme.{Lexeme}
use Rattle.jl_typeread.specs.declared.terminal.Terminal.TheVariants as S
use Rattle.jl_typeread.specs.declared.terminal.Word.{Word}
use Rattle.jl_typeread.specs.Lexemes.{lexemes, terminal_of, name_unless, reserved_word}
use Rattle.jl_typeread.specs.Reads.{EndsAlone}
use Rattle.jl_grammar.specs.declared.mark.Around.{Around}
use Rattle.jl_grammar.specs.declared.mark.Marked.{Marked}
use Rattle.jl_grammar.specs.declared.mark.Previous.{Previous}
use Rattle.jl_grammar.specs.declared.mark.Previous.TheVariants.{Other}
use Rattle.jl_grammar.specs.Marks.{marks_of, terminals, with_marks}
use Rattle.jl_grammar.specs.Newlines.{around_after, previous_after, is_shown, drop_newlines_from, drop_newlines}
use Rattle.jl_grammar.specs.Reads.{text}
use Rattle.jl_grammar.specs.Texts.{Text, Spot, tok, NoEnd, is_end}

-- the last one, and no other, is the source's end
abbrev Ends : List Lexeme → Type 0
Ends [] = ⊥
Ends (l ∷ []) = l.terminal ≡ S.End
Ends (l ∷ m ∷ ls) = (is_end l.terminal ≡ false) × Ends (m ∷ ls)

named_no_end : (w : Option Word) (n : List ℕ) → is_end (name_unless w n) ≡ false
named_no_end None n = refl
named_no_end (Some w) n = refl

kind_no_end : (k : TokenKind) → (k ≡ kind.End → ⊥) → is_end (terminal_of k) ≡ false
kind_no_end (kind.Identifier n) h = named_no_end (reserved_word n) n
kind_no_end (kind.Number n) h = refl
kind_no_end (kind.Negative n) h = refl
kind_no_end (kind.Text n) h = refl
kind_no_end (kind.Macro n) h = refl
kind_no_end (kind.Operator x) h = refl
kind_no_end kind.Newline h = refl
kind_no_end kind.End h = absurd (h refl)

lexemes_end : (ts : List Token) → EndsAlone ts → Ends (lexemes ts)
lexemes_end [] h = absurd h
lexemes_end (t ∷ []) h = ap terminal_of h
lexemes_end (t ∷ u ∷ ts) h = (kind_no_end t.kind h.0, lexemes_end (u ∷ ts) h.1)

one_before : (l : Lexeme) (ls : List Lexeme) → is_end l.terminal ≡ false → Ends ls → Ends (l ∷ ls)
one_before l [] e h = absurd h
one_before l (m ∷ ls) e h = (e, h)

shown_before : (b : Bool) (l : Lexeme) (ls : List Lexeme) → is_end l.terminal ≡ false → Ends ls → Ends (cond b (l ∷ []) [] ++ ls)
shown_before true l ls e h = one_before l ls e h
shown_before false l ls e h = h

bare_ends : (ns : List Around) (p : Previous) (ls : List Lexeme) → Ends ls → Ends (drop_newlines_from ns p ls)
bare_ends ns p [] h = absurd h
bare_ends ns p (l ∷ []) h = subst (λ b. Ends (cond b (l ∷ []) [] ++ [])) (sym (ap (λ s. is_shown s ns p) h)) h
bare_ends ns p (l ∷ m ∷ ls) h = shown_before (is_shown l.terminal ns p) l (drop_newlines_from (around_after l.terminal ns) (previous_after l.terminal ns p) (m ∷ ls)) h.0 (bare_ends (around_after l.terminal ns) (previous_after l.terminal ns p) (m ∷ ls) h.1)

-- a text with the source's end behind it
abbrev pub Split : Text → Type 0
Split ts = (us : Text) × (p : Spot) × (ts ≡ us ++ tok S.End p ∷ []) × NoEnd us

with_marks_splits : (ls : List Lexeme) → Ends ls → Split (with_marks ls)
with_marks_splits [] h = absurd h
with_marks_splits (l ∷ []) h = ([], record { at = l.at; marks = marks_of (l.terminal ∷ []) }, ap (λ s. record { lexeme = record { terminal = s; at = l.at }; marks = marks_of (l.terminal ∷ []) } ∷ []) h, tt)
with_marks_splits (l ∷ m ∷ ls) h =
    let r = with_marks_splits (m ∷ ls) h.1 in
    let x : Marked = record { lexeme = l; marks = marks_of (l.terminal ∷ terminals (m ∷ ls)) } in (x ∷ r.0, r.1, ap (λ u. x ∷ u) r.2, (h.0, r.3))

-- the tokens of a source
pub text_splits : (ts : List Token) → EndsAlone ts → Split (text (lexemes ts))
text_splits ts h = with_marks_splits (drop_newlines (lexemes ts)) (bare_ends [] Other (lexemes ts) (lexemes_end ts h))
