-- What the tokens of a source are to the grammar: each has a spelling, reserved words without a rule and the end aside.
use Rattle.std.proofs.Common.{◌≡◌, ℕ, zero, suc, ◌≤◌, ◌^◌, inl, inr, Bool, true, false, cond, ◌&&◌, ◌||◌, ◌==◌, Option, Some, None, Result, Ok, Err, List, [], ◌∷◌, ◌++◌, refl, sym, ap, ◌∙◌, subst, arith}
use Rattle.std.proofs.Math.Utf8.{scalar, scalars}
use Rattle.std.proofs.lemmas.Str.{scalars-chars}
use Rattle.std.specs.Char.{encode_utf8}
use Rattle.std.specs.List.{AllByRecursion}
use Rattle.std.specs.Str.{IsUtf8, encode_utf8_all}
use Rattle.jl_token.specs.declared.token.Token.{Token}
use Rattle.jl_token.specs.declared.token.TokenFault.{TokenFault}
use Rattle.jl_token.specs.declared.token.TokenKind.{TokenKind}
use Rattle.jl_token.specs.declared.token.TokenKind.TheVariants as kind
use Rattle.jl_token.specs.Grammar.{IsWord, Quoted, nothing, plain, escaped, negate, Spells, Reads, at_end, faulty, between, token, with_token, ReadsBytes, bad_utf8, text, ReadsSource}
use Rattle.jl_typeread.specs.Lexemes.{terminal_of, name_unless, reserved_word}
use Rattle.jl_typeread.specs.Lexemes as X
use Rattle.jl_typeread.specs.declared.terminal.Lexeme.{Lexeme}
use Rattle.jl_typeread.specs.declared.terminal.Terminal.{Terminal}
use Rattle.jl_typeread.specs.declared.terminal.Terminal.TheVariants as S
use Rattle.jl_typeread.specs.declared.terminal.Word.{Word}
use Rattle.jl_grammar.specs.declared.mark.Around.{Around}
use Rattle.jl_grammar.specs.declared.mark.Previous.{Previous}
use Rattle.jl_grammar.specs.declared.mark.Previous.TheVariants.{Other}
use Rattle.jl_grammar.specs.declared.tree.Script.{Script}
use Rattle.jl_grammar.specs.Marks.{terminals}
use Rattle.jl_grammar.specs.Newlines.{around_after, previous_after, is_shown, drop_newlines_from, drop_newlines}
use Rattle.jl_grammar.specs.Texts.{tok}
use Rattle.jl_print.specs.PrintsBack.{IsSource}
use Rattle.jl_print.specs.Spelling.{IsSpellable, IsNumber}
use Rattle.jl_print.proofs.Laid.{seen, seen-append}
use Rattle.jl_print.proofs.PrintedText.{seen_with_marks, terminals_of_tokens}
use Rattle.jl_print.proofs.TextReads.{kind_terminals}

-- the sign of a token of a source
abbrev pub IsGiven : Terminal → Type 0
IsGiven (S.Word x) = Unit {0}
IsGiven S.End = Unit {0}
IsGiven s = IsSpellable s

-- ---- one token

split : (a b : Bool) → (a && b) ≡ true → (a ≡ true) × (b ≡ true)
split true b e = (refl, e)
split false b e = absurd cc

both-true : (a b : Bool) → a ≡ true → b ≡ true → (a && b) ≡ true
both-true a b p q = ap (λ x. x && b) p ∙ q

scalars-split : (a b : List ℕ) → scalars (a ++ b) ≡ true → (scalars a ≡ true) × (scalars b ≡ true)
scalars-split [] b e = (refl, e)
scalars-split (c ∷ a) b e =
    let x = split (scalar c) (scalars (a ++ b)) e in
    let y = scalars-split a b x.1 in
    (both-true (scalar c) (scalars a) x.0 y.0, y.1)

named-given : (word w : List ℕ) (r : Option Word) → reserved_word word ≡ r → scalars w ≡ true → IsWord w → word ≡ encode_utf8_all w → IsGiven (name_unless r word)
named-given word w (Some x) e s is same = tt
named-given word w None e s is same = ((w, s, is, same), e)

negate-fits : (n : ℕ) → n ≤ 2 ^ 63 → IsNumber (negate n)
negate-fits zero l = omega arith
negate-fits (suc n) l = omega (arith, l)

abbrev value_or : ℕ → Option ℕ → ℕ
value_or d None = d
value_or d (Some x) = x

escape-scalar : (a b d : Bool) (c m : ℕ) → scalar c ≡ true → cond a (Some 10) (cond b (Some 9) (cond d (Some c) None)) ≡ Some m → scalar m ≡ true
escape-scalar true b d c m s e = ap (λ x. scalar (value_or 0 x)) (sym e)
escape-scalar false true d c m s e = ap (λ x. scalar (value_or 0 x)) (sym e)
escape-scalar false false true c m s e = ap (λ x. scalar (value_or 0 x)) (sym e) ∙ s
escape-scalar false false false c m s e = absurd cc

quoted-utf8 : (cs bytes : List ℕ) → Quoted cs bytes → scalars cs ≡ true → IsUtf8 bytes
quoted-utf8 _ _ nothing s = ([], (refl, refl))
quoted-utf8 _ _ (plain c cs bytes is q) s =
    let x = split (scalar c) (scalars cs) s in
    let u = quoted-utf8 cs bytes q x.1 in
    (c ∷ u.0, (both-true (scalar c) (scalars u.0) x.0 u.1.0, ap (λ l. encode_utf8 c ++ l) u.1.1))
quoted-utf8 _ _ (escaped c m cs bytes is q) s =
    let x = split (scalar c) (scalars cs) s in
    let u = quoted-utf8 cs bytes q x.1 in
    let t : scalar m ≡ true = escape-scalar (c == 110) (c == 116) ((c == 92) || (c == 34) || (c == 36)) c m x.0 is in
    (m ∷ u.0, (both-true (scalar m) (scalars u.0) t u.1.0, ap (λ l. encode_utf8 m ++ l) u.1.1))

spells-given : (prefix : Bool) (w : List ℕ) (k : TokenKind) → Spells prefix w k → scalars w ≡ true → IsGiven (terminal_of k)
spells-given prefix w (kind.Identifier word) s e = named-given word w (reserved_word word) refl e s.0 s.1
spells-given prefix w (kind.Number value) s e = subst IsNumber (sym s.3) s.2
spells-given prefix w (kind.Negative value) s e = subst IsNumber (sym s.6) (negate-fits s.1 s.5)
spells-given prefix w (kind.Text meant) s e =
    quoted-utf8 s.0 meant s.2 (scalars-split s.0 (34 ∷ []) (subst (λ l. scalars l ≡ true) s.1 e)).0
spells-given prefix w (kind.Macro word) s e = (s.0, subst (λ l. scalars l ≡ true) s.1 e, s.2, s.3)
spells-given prefix w (kind.Operator x) s e = tt
spells-given prefix w kind.Newline s e = tt
spells-given prefix w kind.End s e = absurd s

-- ---- all tokens

abbrev pub AllGiven : List Terminal → Type 0
AllGiven = AllByRecursion IsGiven

-- the tokens, where there are any
abbrev OkGiven : Result (List Token) TokenFault → Type 0
OkGiven (Ok ts) = AllGiven (kind_terminals ts)
OkGiven (Err f) = Unit {0}

with-given : (k : TokenKind) (at : ℕ) (r : Result (List Token) TokenFault) → IsGiven (terminal_of k) → OkGiven r → OkGiven (with_token k at r)
with-given k at (Ok ts) g h = (g, h)
with-given k at (Err f) g h = tt

reads-given : (bytes : ℕ) (prefix : Bool) (cs : List ℕ) (r : Result (List Token) TokenFault) → Reads bytes prefix cs r → scalars cs ≡ true → OkGiven r
reads-given _ _ _ _ (at_end bytes prefix) s = (tt, tt)
reads-given _ _ _ _ (faulty bytes prefix cs f is) s = tt
reads-given _ _ _ _ (between bytes prefix w rest r is d) s = reads-given bytes prefix rest r d (scalars-split w rest s).1
reads-given _ _ _ _ (token bytes prefix w k rest r is ends d) s =
    let x = scalars-split w rest s in
    with-given k _ r (spells-given prefix w k is x.0) (reads-given bytes _ rest r d x.1)

bytes-given : (source : List ℕ) (r : Result (List Token) TokenFault) → ReadsBytes source r → OkGiven r
bytes-given _ _ (bad_utf8 source at is) = tt
bytes-given _ _ (text source r utf8 d) = reads-given _ _ _ r d (scalars-chars source utf8)

source-given : (source : List ℕ) (r : Result (List Token) TokenFault) → ReadsSource source r → OkGiven r
source-given source r (inl x) = subst OkGiven (sym x.1) tt
source-given source r (inr x) = bytes-given source r x.1

-- ---- what the grammar sees of them

one-given : (l : Lexeme) (b : Bool) (ss : List Terminal) → IsGiven l.terminal → AllGiven ss → AllGiven (terminals (cond b (l ∷ []) []) ++ ss)
one-given l true ss g h = (g, h)
one-given l false ss g h = h

terminals-more : (l : Lexeme) (b : Bool) (ls : List Lexeme) → terminals (cond b (l ∷ []) [] ++ ls) ≡ terminals (cond b (l ∷ []) []) ++ terminals ls
terminals-more l true ls = refl
terminals-more l false ls = refl

bare-given : (ls : List Lexeme) (ns : List Around) (p : Previous) → AllGiven (terminals ls) → AllGiven (terminals (drop_newlines_from ns p ls))
bare-given [] ns p g = tt
bare-given (l ∷ ls) ns p g =
    subst AllGiven (sym (terminals-more l (is_shown l.terminal ns p) (drop_newlines_from (around_after l.terminal ns) (previous_after l.terminal ns p) ls)))
    (one-given l (is_shown l.terminal ns p) _ g.0 (bare-given ls (around_after l.terminal ns) (previous_after l.terminal ns p) g.1))

front-of : (a b : List Terminal) → AllGiven (a ++ b) → AllGiven a
front-of [] b g = tt
front-of (s ∷ a) b g = (g.0, front-of a b g.1)

-- the tokens of a script's source have spellings, where they are no reserved words without a rule
pub source_given : (source : List ℕ) (s : Script) → (is : IsSource source s) → AllGiven (seen is.front)
source_given source s is =
    let all : AllGiven (terminals (X.lexemes is.tokens)) = subst AllGiven (sym (terminals_of_tokens is.tokens)) (source-given source (Ok is.tokens) is.has_tokens) in
    let shown : AllGiven (terminals (drop_newlines (X.lexemes is.tokens))) = bare-given (X.lexemes is.tokens) [] Other all in
    front-of (seen is.front) (S.End ∷ []) (subst AllGiven (sym (seen_with_marks (drop_newlines (X.lexemes is.tokens))) ∙ ap seen is.seen ∙ seen-append is.front (tok S.End is.end ∷ [])) shown)
