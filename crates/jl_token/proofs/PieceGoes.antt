-- What is spelled by the grammar at the front of a text is the piece that is read there.
use Rattle.std.proofs.Common.{◌≡◌, ℕ, ◌<◌, ◌≤◌, Bool, true, false, cond, not, ◌==◌, ◌&&◌, ◌||◌, List, [], ◌∷◌, ◌++◌, Option, Some, None, Ok, Err, pos, refl, sym, ap, ◌∙◌, append_assoc, arith}
use Rattle.std.specs.Char.{is_ascii_digit, is_ascii_alphabetic}
use Rattle.std.specs.Str.{encode_utf8_all}
use Rattle.std.proofs.lemmas.Bool.{eqb-true, ne_eqb, le-ltb, lt-ltb}
use Rattle.std.proofs.lemmas.Bool.Decides.{nat_tests}
use Rattle.std.proofs.lemmas.List.{append-nil}
use Rattle.unicode_ident.proofs.Computing.{unicode_ident}
use Rattle.unicode_ident.proofs.IdentLemmas.{is_xid_start-ascii}
use Rattle.jl_token.specs.declared.token.Operator.{Operator}
use Rattle.jl_token.specs.declared.token.Operator.TheVariants as op
use Rattle.jl_token.specs.declared.token.TokenKind.{TokenKind}
use Rattle.jl_token.specs.declared.token.TokenKind.TheVariants as kind
use Rattle.jl_token.specs.declared.token.TokenFault.{TokenFault}
use Rattle.jl_token.specs.declared.token.TokenFault.TheVariants as fault
use Rattle.jl_token.specs.Characters.{is_word_start, is_word_part, is_blank, is_wrong_after_number, has_first, place}
use Rattle.jl_token.specs.Grammar.{IsWord, Quoted, Numeral, digit, digit_more, digit_joined, NumeralEnds, Spells, Ends, Between, blank, line, block, Ended, IsWrongEscape, IsStray, FaultAt, large, large_negative, spoiled, spoiled_negative, wrong_escape, open_string, open_comment, stray, negate, spelling, may_be_sign}
use Rattle.jl_token.specs.Reading.{after_line, after_comment, after_string, unescape, with_front, digits}
use Rattle.jl_token.specs.Operators.{by, rest_after, operator}
use Rattle.jl_token.specs.Pieces.{Piece, limit_value, as_kind, number, negative_number, text_of, string, identifier_as, macro_word, operator_of, token, comment, as_piece, piece}
use Rattle.jl_token.proofs.WordText.{word-goes}
use Rattle.jl_token.proofs.NumeralText.{numeral-goes, digits-last}
use Rattle.jl_token.proofs.QuotedText.{ended-is, ended-goes, quoted-ends, quoted-goes, wrong-goes}
use Rattle.jl_token.proofs.CommentText.{line-goes, comment-goes, comment-found}
use Rattle.jl_token.proofs.OperatorText.{operator_text, operator-is, operator-goes}

-- ---- first characters

-- what may begin an identifier is none of these
not-start : (c k : ℕ) → is_word_start k ≡ false → is_word_start c ≡ true → (c == k) ≡ false
not-start c k other starts = ne_eqb c k (λ e. let both : true ≡ false = sym starts ∙ ap is_word_start e ∙ other in absurd cc)

-- an identifier is none of what is tried before it
word-first : (c : ℕ) → is_word_start c ≡ true → (is_blank c ≡ false) × ((c == 35) ≡ false)
unfolding unicode_ident
word-first c is =
    (ap (λ b. b || (c == 9) || (c == 13)) (not-start c 32 refl is) ∙ ap (λ b. b || (c == 13)) (not-start c 9 refl is) ∙ not-start c 13 refl is, not-start c 35 refl is)

digit-word : (c : ℕ) → is_ascii_digit c ≡ true → is_word_start c ≡ false
digit-word c is =
    let small : c < 128 = grind (arith, nat_tests) in
    let letter : is_ascii_alphabetic c ≡ false = grind (arith, nat_tests) in
    let mark : (c == 95) ≡ false = grind (arith, nat_tests) in
    ap (λ b. b || (c == 95)) (is_xid_start-ascii c small ∙ letter) ∙ mark

digit-first : (c : ℕ) → is_ascii_digit c ≡ true → (is_blank c ≡ false) × ((c == 35) ≡ false)
digit-first c is = (grind (arith, nat_tests), grind (arith, nat_tests))

-- ---- one token

word-piece : (bytes : ℕ) (prefix : Bool) (c : ℕ) (v rest : List ℕ) → IsWord (c ∷ v) → has_first is_word_part rest ≡ false
    → piece bytes prefix (c ∷ v ++ rest) ≡ Ok (Some (kind.Identifier (encode_utf8_all (c ∷ v))), rest)
word-piece bytes prefix c v rest is stops =
    let first = word-first c is.0 in
    let goes = word-goes v rest is.1 stops in
    rw (first.0, first.1, is.0, goes.0, goes.1) refl

-- the first character of a numeral is a digit
pub numeral-first : (w : List ℕ) (n : ℕ) → Numeral w n → (c : ℕ) × (v : List ℕ) × (w ≡ c ∷ v) × (is_ascii_digit c ≡ true)
numeral-first _ _ (digit c is) = (c, [], refl, is)
numeral-first _ _ (digit_more w n c before is) = let f = numeral-first w n before in (f.0, f.1 ++ c ∷ [], ap (λ l. l ++ c ∷ []) f.2, f.3)
numeral-first _ _ (digit_joined w n c before is) = let f = numeral-first w n before in (f.0, f.1 ++ 95 ∷ c ∷ [], ap (λ l. l ++ 95 ∷ c ∷ []) f.2, f.3)

numeral-read : (w : List ℕ) (n : ℕ) (rest : List ℕ) → Numeral w n → NumeralEnds rest → digits 0 (w ++ rest) ≡ (n, rest)
numeral-read w n rest is ends = numeral-goes w n is rest ∙ digits-last n rest ends

-- a text that begins with a digit is read as a number
digit-number : (bytes : ℕ) (prefix : Bool) (c : ℕ) (cs : List ℕ) → is_ascii_digit c ≡ true → piece bytes prefix (c ∷ cs) ≡ as_piece (number bytes (c ∷ cs))
digit-number bytes prefix c cs is =
    let first = digit-first c is in
    rw (first.0, first.1, digit-word c is, is) refl

-- what a text that begins with a numeral is read as
digit-piece : (bytes : ℕ) (prefix : Bool) (w : List ℕ) (n : ℕ) (rest : List ℕ) → Numeral w n → NumeralEnds rest
    → piece bytes prefix (w ++ rest) ≡ as_piece (as_kind (λ m. kind.Number (pos m)) (limit_value bytes (w ++ rest) 9223372036854775807 (n, rest)))
digit-piece bytes prefix w n rest is ends =
    let f = numeral-first w n is in
    let read : digits 0 (f.0 ∷ f.1 ++ rest) ≡ (n, rest) = ap (λ l. digits 0 (l ++ rest)) (sym f.2) ∙ numeral-read w n rest is ends in
    ap (λ l. piece bytes prefix (l ++ rest)) f.2 ∙ digit-number bytes prefix f.0 (f.1 ++ rest) f.3
    ∙ ap (λ d. as_piece (as_kind (λ m. kind.Number (pos m)) (limit_value bytes (f.0 ∷ f.1 ++ rest) 9223372036854775807 d))) read
    ∙ ap (λ l. as_piece (as_kind (λ m. kind.Number (pos m)) (limit_value bytes (l ++ rest) 9223372036854775807 (n, rest)))) (sym f.2)

negate-piece : (bytes : ℕ) (w : List ℕ) (n : ℕ) (rest : List ℕ) → Numeral w n → NumeralEnds rest
    → piece bytes true (45 ∷ w ++ rest) ≡ as_piece (as_kind (λ m. kind.Negative (negate m)) (limit_value bytes (45 ∷ w ++ rest) 9223372036854775808 (n, rest)))
unfolding unicode_ident
negate-piece bytes w n rest is ends =
    let f = numeral-first w n is in
    let begun : has_first is_ascii_digit (w ++ rest) ≡ true = ap (λ l. has_first is_ascii_digit (l ++ rest)) f.2 ∙ f.3 in
    ap (λ b. as_piece (cond b (negative_number bytes (45 ∷ w ++ rest) (w ++ rest)) (operator_of bytes 45 (w ++ rest)))) begun
    ∙ ap (λ d. as_piece (as_kind (λ m. kind.Negative (negate m)) (limit_value bytes (45 ∷ w ++ rest) 9223372036854775808 d))) (numeral-read w n rest is ends)

-- a number within its limit, and past it
within : (bytes : ℕ) (from : List ℕ) (most n : ℕ) (rest : List ℕ) → n ≤ most → has_first is_wrong_after_number rest ≡ false → limit_value bytes from most (n, rest) ≡ Ok (n, rest)
within bytes from most n rest le free =
    ap (λ b. cond b (Err (fault.NumberTooLarge (place bytes from))) (cond (has_first is_wrong_after_number rest) (Err (fault.BadCharacter (place bytes rest))) (Ok (n, rest)))) (le-ltb most n le)
    ∙ ap (λ b. cond b (Err (fault.BadCharacter (place bytes rest))) (Ok (n, rest))) free

past : (bytes : ℕ) (from : List ℕ) (most n : ℕ) (rest : List ℕ) → most < n → limit_value bytes from most (n, rest) ≡ Err (fault.NumberTooLarge (place bytes from))
past bytes from most n rest lt =
    ap (λ b. cond b (Err (fault.NumberTooLarge (place bytes from))) (cond (has_first is_wrong_after_number rest) (Err (fault.BadCharacter (place bytes rest))) (Ok (n, rest)))) (lt-ltb most n lt)

spoilt : (bytes : ℕ) (from : List ℕ) (most n : ℕ) (rest : List ℕ) → n ≤ most → has_first is_wrong_after_number rest ≡ true → limit_value bytes from most (n, rest) ≡ Err (fault.BadCharacter (place bytes rest))
spoilt bytes from most n rest le bad =
    ap (λ b. cond b (Err (fault.NumberTooLarge (place bytes from))) (cond (has_first is_wrong_after_number rest) (Err (fault.BadCharacter (place bytes rest))) (Ok (n, rest)))) (le-ltb most n le)
    ∙ ap (λ b. cond b (Err (fault.BadCharacter (place bytes rest))) (Ok (n, rest))) bad

-- ---- strings

-- a text that begins with a quote is read as a string
quote-piece : (bytes : ℕ) (prefix : Bool) (cs : List ℕ) → piece bytes prefix (34 ∷ cs) ≡ as_piece (string bytes (34 ∷ cs) cs)
unfolding unicode_ident
quote-piece bytes prefix cs = refl

unescape-quote : (rest : List ℕ) → unescape (34 ∷ rest) ≡ Ok []
unescape-quote [] = refl
unescape-quote (d ∷ rest) = refl

text-piece : (bytes : ℕ) (prefix : Bool) (body meant rest : List ℕ) → Quoted body meant → piece bytes prefix (34 ∷ (body ++ 34 ∷ []) ++ rest) ≡ Ok (Some (kind.Text meant), rest)
text-piece bytes prefix body meant rest q =
    let whole : (body ++ 34 ∷ []) ++ rest ≡ body ++ 34 ∷ rest = append_assoc body (34 ∷ []) rest in
    let read : unescape (body ++ 34 ∷ rest) ≡ Ok meant = quoted-goes body meant q (34 ∷ rest) ∙ ap (with_front meant) (unescape-quote rest) ∙ ap (λ l. Ok l) (append-nil meant) in
    ap (λ l. piece bytes prefix (34 ∷ l)) whole
    ∙ quote-piece bytes prefix (body ++ 34 ∷ rest)
    ∙ ap (λ o. as_piece (by o (Err (fault.OpenString (place bytes (34 ∷ body ++ 34 ∷ rest)))) (λ after. text_of bytes after (unescape (body ++ 34 ∷ rest))))) (quoted-ends body meant q (34 ∷ rest))
    ∙ ap (λ r. as_piece (text_of bytes rest r)) read

-- ---- macro words and operators

macro-piece : (bytes : ℕ) (prefix : Bool) (c : ℕ) (v rest : List ℕ) → IsWord (c ∷ v) → has_first is_word_part rest ≡ false
    → piece bytes prefix (64 ∷ c ∷ v ++ rest) ≡ Ok (Some (kind.Macro (encode_utf8_all (c ∷ v))), rest)
unfolding unicode_ident
macro-piece bytes prefix c v rest is stops =
    let goes = word-goes v rest is.1 stops in
    rw (is.0, goes.0, goes.1) refl

-- what is read of a text that begins with an operator
abbrev operator_piece : ℕ → List ℕ → Option (Operator × List ℕ) → Piece
operator_piece bytes text o = as_piece (by o (Err (fault.BadCharacter (place bytes text))) (λ found. Ok (kind.Operator found.0, found.1)))

front-piece : (bytes : ℕ) (prefix : Bool) (o : Operator) (rest : List ℕ) → (may_be_sign prefix o && has_first is_ascii_digit rest) ≡ false
    → piece bytes prefix (spelling o ++ rest) ≡ operator_piece bytes (spelling o ++ rest) (operator_text (spelling o ++ rest))
unfolding unicode_ident
front-piece bytes prefix op.Identical rest free = refl
front-piece bytes prefix op.NotIdentical rest free = refl
front-piece bytes prefix op.HasType rest free = refl
front-piece bytes prefix op.Subtype rest free = refl
front-piece bytes prefix op.Supertype rest free = refl
front-piece bytes prefix op.Equal rest free = refl
front-piece bytes prefix op.NotEqual rest free = refl
front-piece bytes prefix op.LessEqual rest free = refl
front-piece bytes prefix op.GreaterEqual rest free = refl
front-piece bytes prefix op.And rest free = refl
front-piece bytes prefix op.Or rest free = refl
front-piece bytes prefix op.Assign rest free = refl
front-piece bytes prefix op.Less rest free = refl
front-piece bytes prefix op.Greater rest free = refl
front-piece bytes prefix op.Plus rest free = refl
front-piece bytes prefix op.Minus rest free = ap (λ b. as_piece (cond b (negative_number bytes (45 ∷ rest) rest) (operator_of bytes 45 rest))) free
front-piece bytes prefix op.Times rest free = refl
front-piece bytes prefix op.Divide rest free = refl
front-piece bytes prefix op.Remainder rest free = refl
front-piece bytes prefix op.Not rest free = refl
front-piece bytes prefix op.Question rest free = refl
front-piece bytes prefix op.Colon rest free = refl
front-piece bytes prefix op.Dot rest free = refl
front-piece bytes prefix op.Comma rest free = refl
front-piece bytes prefix op.Semicolon rest free = refl
front-piece bytes prefix op.OpenParen rest free = refl
front-piece bytes prefix op.CloseParen rest free = refl
front-piece bytes prefix op.OpenBracket rest free = refl
front-piece bytes prefix op.CloseBracket rest free = refl
front-piece bytes prefix op.OpenBrace rest free = refl
front-piece bytes prefix op.CloseBrace rest free = refl

newline-piece : (bytes : ℕ) (prefix : Bool) (rest : List ℕ) → piece bytes prefix (10 ∷ rest) ≡ Ok (Some kind.Newline, rest)
unfolding unicode_ident
newline-piece bytes prefix rest = refl

-- ---- any token

pub token-goes : (bytes : ℕ) (prefix : Bool) (w : List ℕ) (k : TokenKind) (rest : List ℕ) → Spells prefix w k → Ends prefix k rest → piece bytes prefix (w ++ rest) ≡ Ok (Some k, rest)
token-goes bytes prefix [] (kind.Identifier name) rest s e = absurd s.0
token-goes bytes prefix (c ∷ v) (kind.Identifier name) rest s e =
    word-piece bytes prefix c v rest s.0 e ∙ ap (λ n. Ok (Some (kind.Identifier n), rest)) (sym s.1)
token-goes bytes prefix w (kind.Number value) rest s e =
    digit-piece bytes prefix w s.0 rest s.1 e.0
    ∙ ap (λ r. as_piece (as_kind (λ m. kind.Number (pos m)) r)) (within bytes (w ++ rest) 9223372036854775807 s.0 rest (omega (arith, s.2)) e.1)
    ∙ ap (λ n. Ok (Some (kind.Number n), rest)) (sym s.3)
token-goes bytes prefix w (kind.Negative value) rest s e =
    ap (λ b. piece bytes b (w ++ rest)) s.2 ∙ ap (λ l. piece bytes true (l ++ rest)) s.3
    ∙ negate-piece bytes s.0 s.1 rest s.4 e.0
    ∙ ap (λ r. as_piece (as_kind (λ m. kind.Negative (negate m)) r)) (within bytes (45 ∷ s.0 ++ rest) 9223372036854775808 s.1 rest (omega (arith, s.5)) e.1)
    ∙ ap (λ n. Ok (Some (kind.Negative n), rest)) (sym s.6)
token-goes bytes prefix w (kind.Text meant) rest s e =
    ap (λ l. piece bytes prefix (l ++ rest)) s.1 ∙ text-piece bytes prefix s.0 meant rest s.2
token-goes bytes prefix w (kind.Macro name) rest s e = macro-goes s.0 s.1 s.2 s.3
  where
    macro-goes : (v : List ℕ) → w ≡ 64 ∷ v → IsWord v → name ≡ encode_utf8_all v → piece bytes prefix (w ++ rest) ≡ Ok (Some (kind.Macro name), rest)
    macro-goes [] split is same = absurd is
    macro-goes (c ∷ v) split is same =
        ap (λ l. piece bytes prefix (l ++ rest)) split ∙ macro-piece bytes prefix c v rest is e ∙ ap (λ n. Ok (Some (kind.Macro n), rest)) (sym same)
token-goes bytes prefix w (kind.Operator o) rest s e =
    ap (λ l. piece bytes prefix (l ++ rest)) s ∙ front-piece bytes prefix o rest e.1 ∙ ap (operator_piece bytes (spelling o ++ rest)) (operator-goes o rest e.0)
token-goes bytes prefix w kind.Newline rest s e = ap (λ l. piece bytes prefix (l ++ rest)) s ∙ newline-piece bytes prefix rest
token-goes bytes prefix w kind.End rest s e = absurd s

-- ---- what stands between tokens

-- no `=` stands behind a `#` that begins a comment to the end of its line
line-front : (w rest : List ℕ) → has_first (λ c. c == 61) w ≡ false → has_first (λ c. not (c == 10)) rest ≡ false → rest_after 61 (w ++ rest) ≡ None
line-front [] [] other stops = refl
line-front [] (c ∷ rest) other stops = go (c == 10) refl stops
  where
    go : (b : Bool) → (c == 10) ≡ b → not b ≡ false → cond (c == 61) (Some rest) None ≡ None
    go true is f = ap (λ k. cond (k == 61) (Some rest) None) (eqb-true c 10 is)
    go false is f = absurd cc
line-front (c ∷ w) rest other stops = ap (λ b. cond b (Some (w ++ rest)) None) other

pub between-goes : (bytes : ℕ) (prefix : Bool) (w rest : List ℕ) → Between w rest → piece bytes prefix (w ++ rest) ≡ Ok (None, rest)
between-goes bytes prefix _ _ (blank c rest is) = ap (λ b. cond b (Ok (None, rest)) (cond (c == 35) (comment bytes (c ∷ rest) rest) (as_piece (token bytes prefix c rest)))) is
between-goes bytes prefix _ _ (line w rest all other stops) =
    ap (λ o. by o (Ok (None, after_line (w ++ rest))) (λ body. by (after_comment 0 body) (Err (fault.OpenComment (place bytes (35 ∷ w ++ rest)))) (λ after. Ok (None, after)))) (line-front w rest other stops)
    ∙ ap (λ l. Ok (None, l)) (line-goes w rest all stops)
between-goes bytes prefix _ _ (block w rest c) =
    ap (λ o. by o (Err (fault.OpenComment (place bytes (35 ∷ 61 ∷ w ++ rest)))) (λ after. Ok (None, after))) (comment-goes w c 0 rest)

-- ---- faults

none-is : (o : Option (List ℕ)) → ((rest : List ℕ) → o ≡ Some rest → ⊥) → o ≡ None
none-is None never = refl
none-is (Some rest) never = absurd (never rest refl)

no-operator : (o : Option (Operator × List ℕ)) → ((found : Operator × List ℕ) → o ≡ Some found → ⊥) → o ≡ None
no-operator None never = refl
no-operator (Some found) never = absurd (never found refl)

-- a `-` would be an operator
never-minus : (c : ℕ) (cs : List ℕ) → IsStray c cs → (c == 45) ≡ false
never-minus c cs s = ne_eqb c 45 (λ e. s.no_operator op.Minus cs (ap (λ k. k ∷ cs) e))

stray-operator : (bytes c : ℕ) (cs : List ℕ) → IsStray c cs → operator_of bytes c cs ≡ Err (fault.BadCharacter (place bytes (c ∷ cs)))
stray-operator bytes c cs s =
    let none : operator c cs ≡ None = no-operator (operator c cs) (λ found is. s.no_operator found.0 found.1 (operator-is c cs found is).0) in
    ap (λ o. by o (Err (fault.BadCharacter (place bytes (c ∷ cs)))) (λ found. Ok (kind.Operator found.0, found.1))) none

macro-stray : (bytes : ℕ) (text cs : List ℕ) → has_first is_word_start cs ≡ false → macro_word bytes text cs ≡ Err (fault.BadCharacter (place bytes text))
macro-stray bytes text [] other = refl
macro-stray bytes text (c ∷ cs) other = ap (λ b. cond b (Ok (identifier_as kind.Macro c cs)) (Err (fault.BadCharacter (place bytes text)))) other

stray-piece : (bytes : ℕ) (prefix : Bool) (c : ℕ) (cs : List ℕ) → IsStray c cs → piece bytes prefix (c ∷ cs) ≡ Err (fault.BadCharacter (place bytes (c ∷ cs)))
stray-piece bytes prefix c cs s = rw (s.no_blank, s.no_comment, s.no_word, s.no_number, s.no_newline, s.no_string) (go (c == 64) s.no_macro)
  where
    go : (b : Bool) → (b && has_first is_word_start cs) ≡ false
        → as_piece (cond b (macro_word bytes (c ∷ cs) cs) (cond ((c == 45) && (prefix && has_first is_ascii_digit cs)) (negative_number bytes (c ∷ cs) cs) (operator_of bytes c cs))) ≡ Err (fault.BadCharacter (place bytes (c ∷ cs)))
    go true other = ap as_piece (macro-stray bytes (c ∷ cs) cs other)
    go false other =
        ap (λ b. as_piece (cond (b && (prefix && has_first is_ascii_digit cs)) (negative_number bytes (c ∷ cs) cs) (operator_of bytes c cs))) (never-minus c cs s)
        ∙ ap as_piece (stray-operator bytes c cs s)

wrong-piece : (bytes : ℕ) (prefix : Bool) (w meant rest : List ℕ) → Quoted w meant → IsWrongEscape rest → Ended rest → piece bytes prefix (34 ∷ w ++ rest) ≡ Err (fault.BadCharacter (place bytes rest))
wrong-piece bytes prefix w meant [] q wrong e = absurd wrong
wrong-piece bytes prefix w meant (c ∷ []) q wrong e = absurd wrong
wrong-piece bytes prefix w meant (c ∷ d ∷ cs) q wrong e =
    let end = ended-goes (c ∷ d ∷ cs) e in
    let read : unescape (w ++ c ∷ d ∷ cs) ≡ Err (c ∷ d ∷ cs) = quoted-goes w meant q (c ∷ d ∷ cs) ∙ ap (with_front meant) (wrong-goes c d cs wrong) in
    quote-piece bytes prefix (w ++ c ∷ d ∷ cs)
    ∙ ap (λ o. as_piece (by o (Err (fault.OpenString (place bytes (34 ∷ w ++ c ∷ d ∷ cs)))) (λ after. text_of bytes after (unescape (w ++ c ∷ d ∷ cs))))) (quoted-ends w meant q (c ∷ d ∷ cs) ∙ end.1)
    ∙ ap (λ r. as_piece (text_of bytes end.0 r)) read

pub fault-goes : (bytes : ℕ) (prefix : Bool) (text : List ℕ) (f : TokenFault) → FaultAt bytes prefix text f → piece bytes prefix text ≡ Err f
fault-goes _ _ _ _ (large bytes prefix w n rest is ends over) =
    digit-piece bytes prefix w n rest is ends ∙ ap (λ r. as_piece (as_kind (λ m. kind.Number (pos m)) r)) (past bytes (w ++ rest) 9223372036854775807 n rest (omega arith))
fault-goes _ _ _ _ (large_negative bytes w n rest is ends over) =
    negate-piece bytes w n rest is ends ∙ ap (λ r. as_piece (as_kind (λ m. kind.Negative (negate m)) r)) (past bytes (45 ∷ w ++ rest) 9223372036854775808 n rest (omega arith))
fault-goes _ _ _ _ (spoiled bytes prefix w n rest is ends fits bad) =
    digit-piece bytes prefix w n rest is ends ∙ ap (λ r. as_piece (as_kind (λ m. kind.Number (pos m)) r)) (spoilt bytes (w ++ rest) 9223372036854775807 n rest (omega arith) bad)
fault-goes _ _ _ _ (spoiled_negative bytes w n rest is ends fits bad) =
    negate-piece bytes w n rest is ends ∙ ap (λ r. as_piece (as_kind (λ m. kind.Negative (negate m)) r)) (spoilt bytes (45 ∷ w ++ rest) 9223372036854775808 n rest (omega arith) bad)
fault-goes _ _ _ _ (wrong_escape bytes prefix w meant rest q wrong e) = wrong-piece bytes prefix w meant rest q wrong e
fault-goes _ _ _ _ (open_string bytes prefix body never) =
    quote-piece bytes prefix body
    ∙ ap (λ o. as_piece (by o (Err (fault.OpenString (place bytes (34 ∷ body)))) (λ rest. text_of bytes rest (unescape body)))) (none-is (after_string false body) (λ rest e. never (ended-is body rest e)))
fault-goes _ _ _ _ (open_comment bytes prefix body never) =
    ap (λ o. by o (Err (fault.OpenComment (place bytes (35 ∷ 61 ∷ body)))) (λ after. Ok (None, after)))
    (none-is (after_comment 0 body) (λ rest e. let c = comment-found body rest e in never c.0 rest c.2 c.1))
fault-goes _ _ _ _ (stray bytes prefix c cs s) = stray-piece bytes prefix c cs s
