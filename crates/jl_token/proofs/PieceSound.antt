-- What the next piece of a text is, in the grammar.
use Rattle.std.proofs.Common.{◌≡◌, ℕ, ◌^◌, ◌<◌, ◌≤◌, Bool, true, false, cond, ltb, ◌==◌, ◌&&◌, List, [], ◌∷◌, ◌++◌, Option, Some, None, Result, Ok, Err, pos, refl, sym, ap, ◌∙◌, subst, append_assoc, arith}
use Rattle.std.specs.Char.{is_ascii_digit}
use Rattle.std.proofs.lemmas.Bool.{eqb-true, ltb-true, ltb-false}
use Rattle.unicode_ident.proofs.Computing.{unicode_ident}
use Rattle.jl_token.specs.declared.token.Operator.{Operator}
use Rattle.jl_token.specs.declared.token.Operator.TheVariants as op
use Rattle.jl_token.specs.declared.token.TokenKind.{TokenKind}
use Rattle.jl_token.specs.declared.token.TokenKind.TheVariants as kind
use Rattle.jl_token.specs.declared.token.TokenFault.TheVariants as fault
use Rattle.jl_token.specs.Characters.{is_word_start, is_blank, is_wrong_after_number, has_first, place}
use Rattle.jl_token.specs.Grammar.{Spells, Ends, Between, blank, line, block, IsStray, FaultAt, large, large_negative, spoiled, spoiled_negative, wrong_escape, open_string, open_comment, stray, negate, spelling, may_be_sign}
use Rattle.jl_token.specs.Reading.{word, after_line, after_comment, after_string, unescape, digits}
use Rattle.jl_token.specs.Operators.{by, rest_after, operator}
use Rattle.jl_token.specs.Pieces.{Found, Piece, limit_value, as_kind, negative_number, text_of, string, macro_word, token, comment, as_piece, piece}
use Rattle.jl_token.proofs.Choices.{if-sound, by-sound, both-and}
use Rattle.jl_token.proofs.WordText.{word-split, word-continues, after_word-stops}
use Rattle.jl_token.proofs.NumeralText.{IsNumeral, digits-found}
use Rattle.jl_token.proofs.QuotedText.{BodyOf, ended-goes, string-found}
use Rattle.jl_token.proofs.CommentText.{line-found, comment-goes, comment-found}
use Rattle.jl_token.proofs.OperatorText.{operator-is, operator-none, rest_after-found}

-- a token at the front of a text, and what follows it; or the fault there
abbrev pub IsFound : ℕ → Bool → List ℕ → Found → Type 0
IsFound bytes prefix text (Ok found) = (w : List ℕ) × (text ≡ w ++ found.1) × Spells prefix w found.0 × Ends prefix found.0 found.1
IsFound bytes prefix text (Err f) = FaultAt bytes prefix text f

-- ---- numbers

module _ (bytes : ℕ) (prefix : Bool) where
  number-found : (text : List ℕ) (found : ℕ × List ℕ) → IsNumeral text found → IsFound bytes prefix text (as_kind (λ n. kind.Number (pos n)) (limit_value bytes text 9223372036854775807 found))
  number-found text found is =
      if-sound (λ r. IsFound bytes prefix text (as_kind (λ n. kind.Number (pos n)) r)) (ltb 9223372036854775807 found.0) _ _
      (λ over. subst (λ t. FaultAt bytes prefix t (fault.NumberTooLarge (place bytes t))) (sym is.split) (large bytes prefix is.front found.0 found.1 is.numeral is.ends (omega (arith, ltb-true _ _ over))))
      (λ fits. let small : found.0 < 2 ^ 63 = omega (arith, ltb-false _ _ fits) in
      if-sound (λ r. IsFound bytes prefix text (as_kind (λ n. kind.Number (pos n)) r)) (has_first is_wrong_after_number found.1) _ _
      (λ spoils. subst (λ t. FaultAt bytes prefix t (fault.BadCharacter (place bytes found.1))) (sym is.split) (spoiled bytes prefix is.front found.0 found.1 is.numeral is.ends small spoils))
      (λ free. (is.front, is.split, (found.0, is.numeral, small, refl), (is.ends, free))))

negative-found : (bytes : ℕ) (text : List ℕ) (found : ℕ × List ℕ) → IsNumeral text found
    → IsFound bytes true (45 ∷ text) (as_kind (λ n. kind.Negative (negate n)) (limit_value bytes (45 ∷ text) 9223372036854775808 found))
negative-found bytes text found is =
    if-sound (λ r. IsFound bytes true (45 ∷ text) (as_kind (λ n. kind.Negative (negate n)) r)) (ltb 9223372036854775808 found.0) _ _
    (λ over. subst (λ t. FaultAt bytes true (45 ∷ t) (fault.NumberTooLarge (place bytes (45 ∷ t)))) (sym is.split) (large_negative bytes is.front found.0 found.1 is.numeral is.ends (omega (arith, ltb-true _ _ over))))
    (λ fits. let small : found.0 ≤ 2 ^ 63 = omega (arith, ltb-false _ _ fits) in
    if-sound (λ r. IsFound bytes true (45 ∷ text) (as_kind (λ n. kind.Negative (negate n)) r)) (has_first is_wrong_after_number found.1) _ _
    (λ spoils. subst (λ t. FaultAt bytes true (45 ∷ t) (fault.BadCharacter (place bytes found.1))) (sym is.split) (spoiled_negative bytes is.front found.0 found.1 is.numeral is.ends small spoils))
    (λ free. (45 ∷ is.front, ap (λ l. 45 ∷ l) is.split, (is.front, found.0, refl, refl, is.numeral, small, refl), (is.ends, free))))

sign-found : (bytes : ℕ) (cs : List ℕ) → has_first is_ascii_digit cs ≡ true → IsFound bytes true (45 ∷ cs) (negative_number bytes (45 ∷ cs) cs)
sign-found bytes [] is = absurd cc
sign-found bytes (c ∷ cs) is = negative-found bytes (c ∷ cs) (digits 0 (c ∷ cs)) (digits-found c cs is)

-- ---- strings

text-found : (bytes : ℕ) (prefix : Bool) (cs rest : List ℕ) (read : Result (List ℕ) (List ℕ)) → BodyOf cs rest read → IsFound bytes prefix (34 ∷ cs) (text_of bytes rest read)
text-found bytes prefix cs rest (Ok meant) b =
    (34 ∷ b.0 ++ 34 ∷ [], ap (λ l. 34 ∷ l) (b.1 ∙ sym (append_assoc b.0 (34 ∷ []) rest)), (b.0, refl, b.2), tt)
text-found bytes prefix cs rest (Err wrong) b =
    subst (λ t. FaultAt bytes prefix (34 ∷ t) (fault.BadCharacter (place bytes wrong))) (sym b.2) (wrong_escape bytes prefix b.0 b.1 wrong b.3 b.4 b.5)

quoted-found : (bytes : ℕ) (prefix : Bool) (cs : List ℕ) → IsFound bytes prefix (34 ∷ cs) (string bytes (34 ∷ cs) cs)
quoted-found bytes prefix cs =
    by-sound (IsFound bytes prefix (34 ∷ cs)) (after_string false cs) _ (λ rest. text_of bytes rest (unescape cs))
    (λ none. open_string bytes prefix cs (λ e. let more = ended-goes cs e in let both : None ≡ Some more.0 = sym none ∙ more.1 in absurd cc))
    (λ rest is. text-found bytes prefix cs rest (unescape cs) (string-found cs rest is))

-- ---- macro words

at-stray : (cs : List ℕ) → has_first is_word_start cs ≡ false → IsStray 64 cs
unfolding unicode_ident
at-stray cs none = record {
  no_blank = refl;
  no_newline = refl;
  no_string = refl;
  no_comment = refl;
  no_word = refl;
  no_number = refl;
  no_macro = none;
  no_operator = operator-none 64 cs refl;
}

macro-found : (bytes : ℕ) (prefix : Bool) (cs : List ℕ) → IsFound bytes prefix (64 ∷ cs) (macro_word bytes (64 ∷ cs) cs)
macro-found bytes prefix [] = stray bytes prefix 64 [] (at-stray [] refl)
macro-found bytes prefix (c ∷ cs) =
    if-sound (IsFound bytes prefix (64 ∷ c ∷ cs)) (is_word_start c) _ _
    (λ is. (64 ∷ c ∷ word cs, ap (λ l. 64 ∷ c ∷ l) (sym (word-split cs)), (c ∷ word cs, refl, (is, word-continues cs), refl), after_word-stops cs))
    (λ no. stray bytes prefix 64 (c ∷ cs) (at-stray (c ∷ cs) no))

-- ---- operators

-- where no sign stands, a `-` before a digit stands in no prefix place
no-sign : (prefix : Bool) (o : Operator) (c : ℕ) (cs rest : List ℕ) → c ∷ cs ≡ spelling o ++ rest → ((c == 45) && (prefix && has_first is_ascii_digit cs)) ≡ false
    → (may_be_sign prefix o && has_first is_ascii_digit rest) ≡ false
no-sign prefix op.Minus c cs rest split none =
    let first : c ≡ 45 = cc in
    let more : cs ≡ rest = cc in
    subst (λ l. (prefix && has_first is_ascii_digit l) ≡ false) more (subst (λ k. ((k == 45) && (prefix && has_first is_ascii_digit cs)) ≡ false) first none)
no-sign prefix other c cs rest split none = refl

-- ---- any token

token-found : (bytes : ℕ) (prefix : Bool) (c : ℕ) (cs : List ℕ) → is_blank c ≡ false → (c == 35) ≡ false → IsFound bytes prefix (c ∷ cs) (token bytes prefix c cs)
token-found bytes prefix c cs no_blank no_comment =
    if-sound (IsFound bytes prefix (c ∷ cs)) (is_word_start c) _ _
    (λ is. (c ∷ word cs, ap (λ l. c ∷ l) (sym (word-split cs)), ((is, word-continues cs), refl), after_word-stops cs))
    (λ no_word. if-sound (IsFound bytes prefix (c ∷ cs)) (is_ascii_digit c) _ _
    (λ is. number-found bytes prefix (c ∷ cs) (digits 0 (c ∷ cs)) (digits-found c cs is))
    (λ no_number. if-sound (IsFound bytes prefix (c ∷ cs)) (c == 10) _ _
    (λ is. (10 ∷ [], ap (λ k. k ∷ cs) (eqb-true c 10 is), refl, tt))
    (λ no_newline. if-sound (IsFound bytes prefix (c ∷ cs)) (c == 34) _ _
    (λ is. subst (λ k. IsFound bytes prefix (k ∷ cs) (string bytes (k ∷ cs) cs)) (sym (eqb-true c 34 is)) (quoted-found bytes prefix cs))
    (λ no_string. if-sound (IsFound bytes prefix (c ∷ cs)) (c == 64) _ _
    (λ is. subst (λ k. IsFound bytes prefix (k ∷ cs) (macro_word bytes (k ∷ cs) cs)) (sym (eqb-true c 64 is)) (macro-found bytes prefix cs))
    (λ no_at. if-sound (IsFound bytes prefix (c ∷ cs)) ((c == 45) && (prefix && has_first is_ascii_digit cs)) _ _
    (λ is.
    let both = both-and (c == 45) (prefix && has_first is_ascii_digit cs) is in
    let more = both-and prefix (has_first is_ascii_digit cs) both.1 in
    subst (λ k. IsFound bytes prefix (k ∷ cs) (negative_number bytes (k ∷ cs) cs)) (sym (eqb-true c 45 both.0))
    (subst (λ p. IsFound bytes p (45 ∷ cs) (negative_number bytes (45 ∷ cs) cs)) (sym more.0) (sign-found bytes cs more.1)))
    (λ no_minus. by-sound (IsFound bytes prefix (c ∷ cs)) (operator c cs) _ _
    (λ none. stray bytes prefix c cs (record {
      no_blank = no_blank;
      no_newline = no_newline;
      no_string = no_string;
      no_comment = no_comment;
      no_word = no_word;
      no_number = no_number;
      no_macro = ap (λ b. b && has_first is_word_start cs) no_at;
      no_operator = operator-none c cs none;
    }))
    (λ found is. let o = operator-is c cs found is in (spelling found.0, o.0, refl, (o.1, no-sign prefix found.0 c cs found.1 o.0 no_minus)))))))))

-- ---- any piece

abbrev pub IsPieceAt : Bool → List ℕ → Option TokenKind → List ℕ → Type 0
IsPieceAt prefix text None rest = (w : List ℕ) × (text ≡ w ++ rest) × Between w rest
IsPieceAt prefix text (Some k) rest = (w : List ℕ) × (text ≡ w ++ rest) × Spells prefix w k × Ends prefix k rest

-- a token or what stands between tokens at the front of a text, and what follows it; or the fault there
abbrev pub IsPiece : ℕ → Bool → List ℕ → Piece → Type 0
IsPiece bytes prefix text (Ok found) = IsPieceAt prefix text found.0 found.1
IsPiece bytes prefix text (Err f) = FaultAt bytes prefix text f

found-piece : (bytes : ℕ) (prefix : Bool) (text : List ℕ) (found : Found) → IsFound bytes prefix text found → IsPiece bytes prefix text (as_piece found)
found-piece bytes prefix text (Ok x) is = is
found-piece bytes prefix text (Err f) is = is

line-has_first : (cs w rest : List ℕ) → cs ≡ w ++ rest → rest_after 61 cs ≡ None → has_first (λ c. c == 61) w ≡ false
line-has_first cs [] rest split none = refl
line-has_first cs (c ∷ w) rest split none = go (c == 61) (ap (rest_after 61) (sym split) ∙ none)
  where
    go : (b : Bool) → cond b (Some (w ++ rest)) None ≡ None → b ≡ false
    go true e = absurd cc
    go false e = refl

comment-piece : (bytes : ℕ) (prefix : Bool) (cs : List ℕ) → IsPiece bytes prefix (35 ∷ cs) (comment bytes (35 ∷ cs) cs)
comment-piece bytes prefix cs =
    by-sound (IsPiece bytes prefix (35 ∷ cs)) (rest_after 61 cs) (Ok (None, after_line cs)) _
    (λ none. let l = line-found cs in (35 ∷ l.0, ap (λ t. 35 ∷ t) l.1, line l.0 (after_line cs) l.2 (line-has_first cs l.0 (after_line cs) l.1 none) l.3))
    (λ body is. subst (λ t. IsPiece bytes prefix (35 ∷ t) (by (after_comment 0 body) (Err (fault.OpenComment (place bytes (35 ∷ t)))) (λ after. Ok (None, after)))) (sym (rest_after-found 61 cs body is))
    (by-sound (IsPiece bytes prefix (35 ∷ 61 ∷ body)) (after_comment 0 body) _ (λ after. Ok (None, after))
    (λ none. open_comment bytes prefix body (λ w rest c split. let both : None ≡ Some rest = sym none ∙ ap (after_comment 0) split ∙ comment-goes w c 0 rest in absurd cc))
    (λ after ends. let c = comment-found body after ends in (35 ∷ 61 ∷ c.0, ap (λ t. 35 ∷ 61 ∷ t) c.1, block c.0 after c.2))))

-- the piece at the front of a text is one of the grammar
pub piece-found : (bytes : ℕ) (prefix : Bool) (c : ℕ) (cs : List ℕ) → IsPiece bytes prefix (c ∷ cs) (piece bytes prefix (c ∷ cs))
piece-found bytes prefix c cs =
    if-sound (IsPiece bytes prefix (c ∷ cs)) (is_blank c) (Ok (None, cs)) _
    (λ is. (c ∷ [], refl, blank c cs is))
    (λ no_blank. if-sound (IsPiece bytes prefix (c ∷ cs)) (c == 35) _ _
    (λ is. subst (λ k. IsPiece bytes prefix (k ∷ cs) (comment bytes (k ∷ cs) cs)) (sym (eqb-true c 35 is)) (comment-piece bytes prefix cs))
    (λ no_comment. found-piece bytes prefix (c ∷ cs) (token bytes prefix c cs) (token-found bytes prefix c cs no_blank no_comment)))
