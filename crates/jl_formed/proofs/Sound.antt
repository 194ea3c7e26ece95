-- What the tokens of a source are: its names are identifiers that are not reserved, and its texts are UTF-8.
use Rattle.std.proofs.Common.{◌≡◌, ℕ, inl, inr, Bool, true, false, not, cond, ◌&&◌, ◌||◌, ◌==◌, IsTrue, Option, Some, None, Result, Ok, Err, List, [], ◌∷◌, ◌++◌, refl, sym, ap, ◌∙◌, subst}
use Rattle.std.proofs.Math.Utf8.{scalar, scalars}
use Rattle.std.proofs.lemmas.Bool.{eqb-true}
use Rattle.std.proofs.lemmas.Str.{scalars-chars, chars-encodes, is_utf8-from_IsUtf8}
use Rattle.std.specs.Char.{encode_utf8}
use Rattle.std.specs.List.{AllByRecursion, list_all}
use Rattle.std.specs.Str.{IsUtf8, is_utf8, chars, encode_utf8_all}
use Rattle.jl_token.specs.declared.token.Token.{Token}
use Rattle.jl_token.specs.declared.token.TokenFault.{TokenFault}
use Rattle.jl_token.specs.declared.token.TokenKind.{TokenKind}
use Rattle.jl_token.specs.declared.token.TokenKind.TheVariants as kind
use Rattle.jl_token.specs.Characters.{is_word_part}
use Rattle.jl_token.specs.Grammar.{IsWord, Quoted, nothing, plain, escaped, Spells, Reads, at_end, faulty, between, token, with_token, ReadsBytes, bad_utf8, text, ReadsSource}
use Rattle.jl_typeread.specs.Lexemes.{terminal_of, name_unless, reserved_word}
use Rattle.jl_typeread.specs.Lexemes as X
use Rattle.jl_typeread.specs.declared.terminal.Lexeme.{Lexeme}
use Rattle.jl_typeread.specs.declared.terminal.Terminal.{Terminal}
use Rattle.jl_typeread.specs.declared.terminal.Terminal.TheVariants as S
use Rattle.jl_typeread.specs.declared.terminal.Word.{Word}
use Rattle.jl_program.specs.Names.{same_text, is_among, reserved_words, continues_name, is_word, is_identifier}
use Rattle.jl_grammar.specs.declared.mark.Around.{Around}
use Rattle.jl_grammar.specs.declared.mark.Previous.{Previous}
use Rattle.jl_grammar.specs.declared.mark.Previous.TheVariants.{Other}
use Rattle.jl_grammar.specs.Marks.{with_marks}
use Rattle.jl_grammar.specs.Newlines.{around_after, previous_after, is_shown, drop_newlines_from, drop_newlines}
use Rattle.jl_grammar.specs.Texts.{Text, lexemes}
use Rattle.jl_formed.specs.Formed.{IsName}

-- the sign of a token of a source
abbrev pub IsSound : Terminal → Type 0
IsSound (S.Name n) = IsName n
IsSound (S.Text t) = IsTrue (is_utf8 t)
IsSound s = Unit {0}

-- each token is one of a source
abbrev pub AreSound : List Lexeme → Type 0
AreSound [] = Unit {0}
AreSound (l ∷ ls) = IsSound l.terminal × AreSound ls

abbrev pub Sound : Text → Type 0
Sound ts = AreSound (lexemes ts)

pub sound_split : (a b : List Lexeme) → AreSound (a ++ b) → AreSound a × AreSound b
sound_split [] b s = (tt, s)
sound_split (l ∷ a) b s = let x = sound_split a b s.1 in ((s.0, x.0), x.1)

pub text_split : (a b : Text) → Sound (a ++ b) → Sound a × Sound b
text_split [] b s = (tt, s)
text_split (t ∷ a) b s = let x = text_split a b s.1 in ((s.0, x.0), x.1)

-- ---- names

split : (a b : Bool) → (a && b) ≡ true → (a ≡ true) × (b ≡ true)
split true b e = (refl, e)
split false b e = absurd cc

both-true : (a b : Bool) → a ≡ true → b ≡ true → (a && b) ≡ true
both-true a b p q = ap (λ x. x && b) p ∙ q

same-text : (a b : List ℕ) → same_text a b ≡ true → a ≡ b
same-text [] [] e = refl
same-text [] (d ∷ b) e = absurd cc
same-text (c ∷ a) [] e = absurd cc
same-text (c ∷ a) (d ∷ b) e =
    let x = split (c == d) (same_text a b) e in
    ap (λ z. z ∷ a) (eqb-true c d x.0) ∙ ap (λ z. d ∷ z) (same-text a b x.1)

abbrev is_some : Option Word → Bool
is_some (Some x) = true
is_some None = false

-- each of these words is reserved
abbrev AreReserved : List (List ℕ) → Type 0
AreReserved [] = Unit {0}
AreReserved (x ∷ xs) = (is_some (reserved_word x) ≡ true) × AreReserved xs

never : false ≡ true → ⊥
never e = absurd cc

not-among : (xs : List (List ℕ)) (word : List ℕ) → AreReserved xs → reserved_word word ≡ None → is_among word xs ≡ false
not-among [] word are e = refl
not-among (x ∷ xs) word are e = by (same_text word x) refl (not-among xs word are.1 e)
  where
    by : (b : Bool) → same_text word x ≡ b → is_among word xs ≡ false → (b || is_among word xs) ≡ false
    by true f more = absurd (never (ap is_some (sym e) ∙ ap (λ y. is_some (reserved_word y)) (same-text word x f) ∙ are.0))
    by false f more = more

words-reserved : AreReserved reserved_words
words-reserved =
    (refl, (refl, (refl, (refl, (refl, (refl, (refl, (refl, (refl, (refl, (refl, (refl, (refl, (refl, (refl, (refl, (refl, (refl, (refl, (refl, (refl, (refl, (refl, (refl, (refl, (refl, (refl, (refl, (refl, (refl, (refl, (refl, (refl, (refl, (refl, tt)))))))))))))))))))))))))))))))))))

all-continue : (cs : List ℕ) → AllByRecursion (λ d. is_word_part d ≡ true) cs → list_all continues_name cs ≡ true
all-continue [] a = refl
all-continue (c ∷ cs) a = both-true (continues_name c) (list_all continues_name cs) a.0 (all-continue cs a.1)

word-is : (w : List ℕ) → IsWord w → is_word w ≡ true
word-is [] a = absurd a
word-is (c ∷ cs) a = both-true _ (list_all continues_name cs) a.0 (all-continue cs a.1)

identifier-is : (word w : List ℕ) → scalars w ≡ true → IsWord w → word ≡ encode_utf8_all w → is_identifier word ≡ true
identifier-is word w s is same =
    both-true (is_utf8 word) (is_word (chars word)) (is_utf8-from_IsUtf8 word (w, (s, sym same))) (ap is_word (ap chars same ∙ chars-encodes w s) ∙ word-is w is)

named-sound : (word w : List ℕ) (r : Option Word) → reserved_word word ≡ r → scalars w ≡ true → IsWord w → word ≡ encode_utf8_all w → IsSound (name_unless r word)
named-sound word w (Some x) e s is same = tt
named-sound word w None e s is same =
    both-true (is_identifier word) (not (is_among word reserved_words)) (identifier-is word w s is same) (ap not (not-among reserved_words word words-reserved e))

-- ---- texts

scalars-split : (a b : List ℕ) → scalars (a ++ b) ≡ true → (scalars a ≡ true) × (scalars b ≡ true)
scalars-split [] b e = (refl, e)
scalars-split (c ∷ a) b e =
    let x = split (scalar c) (scalars (a ++ b)) e in
    let y = scalars-split a b x.1 in
    (both-true (scalar c) (scalars a) x.0 y.0, y.1)

abbrev value_or : ℕ → Option ℕ → ℕ
value_or d None = d
value_or d (Some x) = x

escape-scalar : (a b d : Bool) (c m : ℕ) → scalar c ≡ true → cond a (Some 10) (cond b (Some 9) (cond d (Some c) None)) ≡ Some m → scalar m ≡ true
escape-scalar true b d c m s e = ap (λ x. scalar (value_or 0 x)) (sym e)
escape-scalar false true d c m s e = ap (λ x. scalar (value_or 0 x)) (sym e)
escape-scalar false false true c m s e = ap (λ x. scalar (value_or 0 x)) (sym e) ∙ s
escape-scalar false false false c m s e = absurd cc

quoted-utf8 : (cs bytes : List ℕ) → Quoted cs bytes → scalars cs ≡ true → IsUtf8 bytes
quoted-utf8 _ _ nothing s = ([], (refl, refl))
quoted-utf8 _ _ (plain c cs bytes is q) s =
    let x = split (scalar c) (scalars cs) s in
    let u = quoted-utf8 cs bytes q x.1 in
    (c ∷ u.0, (both-true (scalar c) (scalars u.0) x.0 u.1.0, ap (λ l. encode_utf8 c ++ l) u.1.1))
quoted-utf8 _ _ (escaped c m cs bytes is q) s =
    let x = split (scalar c) (scalars cs) s in
    let u = quoted-utf8 cs bytes q x.1 in
    let t : scalar m ≡ true = escape-scalar (c == 110) (c == 116) ((c == 92) || (c == 34) || (c == 36)) c m x.0 is in
    (m ∷ u.0, (both-true (scalar m) (scalars u.0) t u.1.0, ap (λ l. encode_utf8 m ++ l) u.1.1))

-- ---- the tokens of a source

spells-sound : (prefix : Bool) (w : List ℕ) (k : TokenKind) → Spells prefix w k → scalars w ≡ true → IsSound (terminal_of k)
spells-sound prefix w (kind.Identifier word) s e = named-sound word w (reserved_word word) refl e s.0 s.1
spells-sound prefix w (kind.Number value) s e = tt
spells-sound prefix w (kind.Negative value) s e = tt
spells-sound prefix w (kind.Text meant) s e =
    is_utf8-from_IsUtf8 meant (quoted-utf8 s.0 meant s.2 (scalars-split s.0 (34 ∷ []) (subst (λ l. scalars l ≡ true) s.1 e)).0)
spells-sound prefix w (kind.Macro word) s e = tt
spells-sound prefix w (kind.Operator x) s e = tt
spells-sound prefix w kind.Newline s e = tt
spells-sound prefix w kind.End s e = absurd s

-- the tokens, where there are any
abbrev OkSound : Result (List Token) TokenFault → Type 0
OkSound (Ok ts) = AreSound (X.lexemes ts)
OkSound (Err f) = Unit {0}

with-sound : (k : TokenKind) (at : ℕ) (r : Result (List Token) TokenFault) → IsSound (terminal_of k) → OkSound r → OkSound (with_token k at r)
with-sound k at (Ok ts) g h = (g, h)
with-sound k at (Err f) g h = tt

reads-sound : (bytes : ℕ) (prefix : Bool) (cs : List ℕ) (r : Result (List Token) TokenFault) → Reads bytes prefix cs r → scalars cs ≡ true → OkSound r
reads-sound _ _ _ _ (at_end bytes prefix) s = (tt, tt)
reads-sound _ _ _ _ (faulty bytes prefix cs f is) s = tt
reads-sound _ _ _ _ (between bytes prefix w rest r is d) s = reads-sound bytes prefix rest r d (scalars-split w rest s).1
reads-sound _ _ _ _ (token bytes prefix w k rest r is ends d) s =
    let x = scalars-split w rest s in
    with-sound k _ r (spells-sound prefix w k is x.0) (reads-sound bytes _ rest r d x.1)

bytes-sound : (source : List ℕ) (r : Result (List Token) TokenFault) → ReadsBytes source r → OkSound r
bytes-sound _ _ (bad_utf8 source at is) = tt
bytes-sound _ _ (text source r utf8 d) = reads-sound _ _ _ r d (scalars-chars source utf8)

source-sound : (source : List ℕ) (r : Result (List Token) TokenFault) → ReadsSource source r → OkSound r
source-sound source r (inl x) = subst OkSound (sym x.1) tt
source-sound source r (inr x) = bytes-sound source r x.1

-- ---- what the grammar sees of them

one-sound : (l : Lexeme) (b : Bool) (ls : List Lexeme) → IsSound l.terminal → AreSound ls → AreSound (cond b (l ∷ []) [] ++ ls)
one-sound l true ls g h = (g, h)
one-sound l false ls g h = h

bare-sound : (ls : List Lexeme) (ns : List Around) (p : Previous) → AreSound ls → AreSound (drop_newlines_from ns p ls)
bare-sound [] ns p g = tt
bare-sound (l ∷ ls) ns p g = one-sound l (is_shown l.terminal ns p) _ g.0 (bare-sound ls (around_after l.terminal ns) (previous_after l.terminal ns p) g.1)

with_marks-sound : (ls : List Lexeme) → AreSound ls → Sound (with_marks ls)
with_marks-sound [] g = tt
with_marks-sound (l ∷ ls) g = (g.0, with_marks-sound ls g.1)

-- the tokens of a source, as the grammar sees them
pub seen_sound : (source : List ℕ) (ts : List Token) → ReadsSource source (Ok ts) → Sound (with_marks (drop_newlines (X.lexemes ts)))
seen_sound source ts is = with_marks-sound (drop_newlines (X.lexemes ts)) (bare-sound (X.lexemes ts) [] Other (source-sound source (Ok ts) is))
