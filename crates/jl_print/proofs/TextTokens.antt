-- The text of tokens has these tokens.
use Rattle.std.proofs.Common.{◌≡◌, ℕ, ℤ, pos, negsuc, suc, ◌+◌, ◌-◌, ◌*◌, ◌/◌, ◌%◌, ◌^◌, ◌≤◌, ◌<◌, nat_lt, get_or, ◌⊎◌, inl, inr, Bool, true, false, not, ◌&&◌, ◌||◌, ◌==◌, decimal, List, [], ◌∷◌, ◌++◌, None, refl, sym, ap, ◌∙◌, subst, append_assoc, arith}
use Rattle.std.proofs.Math.Utf8.{scalars, low_scalar}
use Rattle.std.proofs.lemmas.Bool.{ltb-true, lt-ltb}
use Rattle.std.proofs.lemmas.Bool.Decides.{nat_tests}
use Rattle.std.proofs.lemmas.Str.{encodes-append, encode_ascii}
use Rattle.std.proofs.lemmas.Fmt.{decimal_by_steps}
use Rattle.std.specs.Char.{is_ascii_digit}
use Rattle.std.specs.List.{AllByRecursion}
use Rattle.std.specs.Str.{IsUtf8, encode_utf8_all}
use Rattle.unicode_ident.proofs.Computing.{unicode_ident}
use Rattle.jl_token.specs.declared.token.Operator.{Operator}
use Rattle.jl_token.specs.declared.token.Operator.TheVariants as op
use Rattle.jl_token.specs.declared.token.TokenKind.{TokenKind}
use Rattle.jl_token.specs.declared.token.TokenKind.TheVariants as kind
use Rattle.jl_token.specs.Characters.{is_word_start, is_word_part, is_wrong_after_number, has_first}
use Rattle.jl_token.specs.Prefix.{is_prefix_after}
use Rattle.jl_token.specs.Grammar.{IsWord, Quoted, Numeral, digit, digit_more, NumeralEnds, Spells, Ends, Longest, spelling, may_be_sign}
use Rattle.jl_typeread.specs.Lexemes.{terminal_of, word_or_name, name_unless, reserved_word}
use Rattle.jl_typeread.specs.declared.terminal.Terminal.{Terminal}
use Rattle.jl_typeread.specs.declared.terminal.Terminal.TheVariants as S
use Rattle.jl_typeread.specs.declared.terminal.Word.{Word}
use Rattle.jl_typeread.specs.declared.terminal.Word.TheVariants as w
use Rattle.jl_print.specs.Spelling.{word_text, escape_text, operator_text, terminal_text, is_negative, is_ruled, IsNumber, IsIdentifier, IsSpellable, is_prefix_word, is_prefix}
use Rattle.jl_print.proofs.EscapeText.{escape_text-chars, escape_text-scalars, scalars-append, quoted_escape_text}

-- ---- characters below 128, which are their own bytes

abbrev are_low : List ℕ → Bool
are_low [] = true
are_low (c ∷ cs) = nat_lt c 128 && are_low cs

split : (a b : Bool) → (a && b) ≡ true → (a ≡ true) × (b ≡ true)
split true b e = (refl, e)
split false b e = absurd cc

low-bytes : (cs : List ℕ) → are_low cs ≡ true → encode_utf8_all cs ≡ cs
low-bytes [] e = refl
low-bytes (c ∷ cs) e =
    let b = split (nat_lt c 128) (are_low cs) e in
    ap (λ l. l ++ encode_utf8_all cs) (encode_ascii c (ltb-true c 128 b.0)) ∙ ap (λ l. c ∷ l) (low-bytes cs b.1)

low-scalars : (cs : List ℕ) → are_low cs ≡ true → scalars cs ≡ true
low-scalars [] e = refl
low-scalars (c ∷ cs) e =
    let b = split (nat_lt c 128) (are_low cs) e in
    let l : c < 128 = ltb-true c 128 b.0 in
    rw (low_scalar c (omega arith), low-scalars cs b.1) refl

space-bytes : encode_utf8_all (32 ∷ []) ≡ 32 ∷ []
space-bytes = low-bytes (32 ∷ []) refl

-- characters with a space behind them
spaced-bytes : (cs bytes : List ℕ) → encode_utf8_all cs ≡ bytes → encode_utf8_all (cs ++ 32 ∷ []) ≡ bytes ++ 32 ∷ []
spaced-bytes cs bytes e = encodes-append cs (32 ∷ []) ∙ ap (λ l. l ++ encode_utf8_all (32 ∷ [])) e ∙ ap (λ l. bytes ++ l) space-bytes

-- ---- one token

-- what stands behind the characters of a token: a space, or nothing behind a newline
abbrev Spaced : List ℕ → Type 0
Spaced space = (space ≡ 32 ∷ []) ⊎ (space ≡ [])

-- a token of this sign: its characters, and the space behind them
pub record Written (s : Terminal) : Type 0 where
  pub chars : List ℕ
  pub space : List ℕ
  pub token : TokenKind
  pub are : scalars chars ≡ true
  pub bytes : encode_utf8_all (chars ++ space) ≡ terminal_text s
  pub spaced : Spaced space
  pub terminal : terminal_of token ≡ s
  pub spells : (prefix : Bool) → (is_negative s && not prefix) ≡ false → Spells prefix chars token
  pub ends : (prefix : Bool) (rest : List ℕ) → Ends prefix token (space ++ rest)
  pub behind : is_prefix s ≡ true → is_prefix_after token ≡ true

word-ends : (rest : List ℕ) → has_first is_word_part (32 ∷ rest) ≡ false
unfolding unicode_ident
word-ends rest = refl

number-ends : (rest : List ℕ) → NumeralEnds (32 ∷ rest) × (has_first is_wrong_after_number (32 ∷ rest) ≡ false)
unfolding unicode_ident
number-ends rest = ((refl, refl), refl)

never : false ≡ true → ⊥
never e = absurd cc

or-true : (a : Bool) → (a || true) ≡ true
or-true true = refl
or-true false = refl

and-false : (a : Bool) → (a && false) ≡ false
and-false true = refl
and-false false = refl

not-false : (a : Bool) → (true && not a) ≡ false → a ≡ true
not-false true e = refl
not-false false e = absurd (never (sym e))

name-written : (n : List ℕ) → IsIdentifier n → reserved_word n ≡ None → Written (S.Name n)
name-written n is free = record {
  chars = is.0;
  space = 32 ∷ [];
  token = kind.Identifier n;
  are = is.1;
  bytes = spaced-bytes is.0 n (sym is.3);
  spaced = inl refl;
  terminal = ap (λ r. name_unless r n) free;
  spells = λ prefix e. (is.2, is.3);
  ends = λ prefix rest. word-ends rest;
  behind = λ e. absurd (never e);
}

macro-written : (n : List ℕ) → IsIdentifier n → Written (S.Macro n)
macro-written n is = record {
  chars = 64 ∷ is.0;
  space = 32 ∷ [];
  token = kind.Macro n;
  are = is.1;
  bytes = ap (λ l. l ++ encode_utf8_all (is.0 ++ 32 ∷ [])) (encode_ascii 64 (omega arith)) ∙ ap (λ l. 64 ∷ l) (spaced-bytes is.0 n (sym is.3));
  spaced = inl refl;
  terminal = refl;
  spells = λ prefix e. (is.0, refl, is.2, is.3);
  ends = λ prefix rest. word-ends rest;
  behind = λ e. absurd (never e);
}

-- ---- reserved words

abbrev all_continue : List ℕ → Bool
all_continue [] = true
all_continue (c ∷ cs) = is_word_part c && all_continue cs

abbrev is_word : List ℕ → Bool
is_word [] = false
is_word (c ∷ cs) = is_word_start c && all_continue cs

continue-all : (cs : List ℕ) → all_continue cs ≡ true → AllByRecursion (λ d. is_word_part d ≡ true) cs
continue-all [] e = tt
continue-all (c ∷ cs) e = let b = split (is_word_part c) (all_continue cs) e in (b.0, continue-all cs b.1)

word-is : (cs : List ℕ) → is_word cs ≡ true → IsWord cs
word-is [] e = absurd (never e)
word-is (c ∷ cs) e = let b = split (is_word_start c) (all_continue cs) e in (b.0, continue-all cs b.1)

ruled : (x : Word) → are_low (word_text x) ≡ true → is_word (word_text x) ≡ true → word_or_name (word_text x) ≡ S.Word x
    → (is_prefix_word x ≡ true → is_prefix_after (kind.Identifier (word_text x)) ≡ true) → Written (S.Word x)
ruled x low is same behind = record {
  chars = word_text x;
  space = 32 ∷ [];
  token = kind.Identifier (word_text x);
  are = low-scalars (word_text x) low;
  bytes = spaced-bytes (word_text x) (word_text x) (low-bytes (word_text x) low);
  spaced = inl refl;
  terminal = same;
  spells = λ prefix e. (word-is (word_text x) is, sym (low-bytes (word_text x) low));
  ends = λ prefix rest. word-ends rest;
  behind = behind;
}

word-written : (x : Word) → is_ruled x ≡ true → Written (S.Word x)
unfolding unicode_ident
word-written w.Abstract e = ruled w.Abstract refl refl refl (λ h. refl)
word-written w.Struct e = ruled w.Struct refl refl refl (λ h. refl)
word-written w.Function e = ruled w.Function refl refl refl (λ h. refl)
word-written w.End e = ruled w.End refl refl refl (λ h. absurd (never h))
word-written w.If e = ruled w.If refl refl refl (λ h. refl)
word-written w.Elseif e = ruled w.Elseif refl refl refl (λ h. refl)
word-written w.Else e = ruled w.Else refl refl refl (λ h. refl)
word-written w.Begin e = ruled w.Begin refl refl refl (λ h. refl)
word-written w.Quote e = ruled w.Quote refl refl refl (λ h. refl)
word-written w.Return e = ruled w.Return refl refl refl (λ h. refl)
word-written w.Where e = ruled w.Where refl refl refl (λ h. refl)
word-written w.True e = ruled w.True refl refl refl (λ h. absurd (never h))
word-written w.False e = ruled w.False refl refl refl (λ h. absurd (never h))
word-written w.Nothing e = ruled w.Nothing refl refl refl (λ h. absurd (never h))
word-written w.Isa e = ruled w.Isa refl refl refl (λ h. refl)
word-written w.Unruled e = absurd (never e)

-- ---- numbers

digit-is : (k : ℕ) → k < 10 → (is_ascii_digit (48 + k) ≡ true) × (nat_lt (48 + k) 128 ≡ true) × ((48 + k) - 48 ≡ k)
digit-is k h = (grind (arith, nat_tests), lt-ltb (48 + k) 128 (omega arith), omega arith)

low-more : (a b : List ℕ) → are_low a ≡ true → are_low b ≡ true → are_low (a ++ b) ≡ true
low-more [] b p q = q
low-more (c ∷ a) b p q = let x = split (nat_lt c 128) (are_low a) p in rw (x.0, low-more a b x.1 q) refl

abbrev Digits : ℕ → List ℕ → Type 0
Digits n ds = Numeral ds n × (are_low ds ≡ true)

one-digit : (n : ℕ) → n < 10 → Digits n ((48 + n) ∷ [])
one-digit n h = let d = digit-is n h in (subst (λ k. Numeral ((48 + n) ∷ []) k) d.2 (digit (48 + n) d.0), rw d.1 refl)

digit-behind : (n : ℕ) (ds : List ℕ) → 10 ≤ n → Digits (n / 10) ds → Digits n (ds ++ (48 + n % 10) ∷ [])
digit-behind n ds l is =
    let d = digit-is (n % 10) (omega arith) in
    let value : 10 * (n / 10) + ((48 + n % 10) - 48) ≡ n = omega (arith, d.2) in
    (subst (λ k. Numeral (ds ++ (48 + n % 10) ∷ []) k) value (digit_more ds (n / 10) (48 + n % 10) is.0 d.0), low-more ds ((48 + n % 10) ∷ []) is.1 (rw d.1 refl))

decimal-is : (n : ℕ) → n < 2 ^ 64 → Digits n (decimal n)
decimal-is = decimal_by_steps Digits one-digit digit-behind

number-written : (n : ℤ) → IsNumber n → Written (S.Number n)
number-written (pos n) fits =
    let d = decimal-is n (omega arith) in
    record {
      chars = decimal n;
      space = 32 ∷ [];
      token = kind.Number (pos n);
      are = low-scalars (decimal n) d.1;
      bytes = spaced-bytes (decimal n) (decimal n) (low-bytes (decimal n) d.1);
      spaced = inl refl;
      terminal = refl;
      spells = λ prefix e. (n, d.0, fits, refl);
      ends = λ prefix rest. number-ends rest;
      behind = λ e. absurd (never e);
    }
number-written (negsuc n) fits =
    let d = decimal-is (suc n) (omega arith) in
    let low : are_low (45 ∷ decimal (suc n)) ≡ true = d.1 in
    record {
      chars = 45 ∷ decimal (suc n);
      space = 32 ∷ [];
      token = kind.Negative (negsuc n);
      are = low-scalars (45 ∷ decimal (suc n)) low;
      bytes = spaced-bytes (45 ∷ decimal (suc n)) (45 ∷ decimal (suc n)) (low-bytes (45 ∷ decimal (suc n)) low);
      spaced = inl refl;
      terminal = refl;
      spells = λ prefix e. (decimal (suc n), suc n, not-false prefix e, refl, d.0, omega arith, refl);
      ends = λ prefix rest. number-ends rest;
      behind = λ e. absurd (never e);
    }

-- ---- strings

text-written : (t : List ℕ) → IsUtf8 t → Written (S.Text t)
text-written t is =
    let body = escape_text is.0 in
    let inner : encode_utf8_all body ≡ escape_text t = sym (escape_text-chars is.0 is.1.0) ∙ ap escape_text is.1.1 in
    record {
      chars = 34 ∷ body ++ 34 ∷ [];
      space = 32 ∷ [];
      token = kind.Text t;
      are = scalars-append body (34 ∷ []) (escape_text-scalars is.0 is.1.0) refl;
      bytes = ap (λ l. l ++ encode_utf8_all ((body ++ 34 ∷ []) ++ 32 ∷ [])) (encode_ascii 34 (omega arith))
          ∙ ap (λ l. 34 ∷ encode_utf8_all l) (append_assoc body (34 ∷ []) (32 ∷ []))
          ∙ ap (λ l. 34 ∷ l) (encodes-append body (34 ∷ 32 ∷ []) ∙ ap (λ l. l ++ encode_utf8_all (34 ∷ 32 ∷ [])) inner ∙ ap (λ l. escape_text t ++ l) (low-bytes (34 ∷ 32 ∷ []) refl));
      spaced = inl refl;
      terminal = refl;
      spells = λ prefix e. (body, refl, subst (Quoted body) is.1.1 (quoted_escape_text is.0));
      ends = λ prefix rest. tt;
      behind = λ e. absurd (never e);
    }

-- ---- operators

abbrev has_space : List ℕ → Bool
has_space [] = false
has_space (c ∷ cs) = (c == 32) || has_space cs

space-inside : (a b : List ℕ) → has_space (a ++ 32 ∷ b) ≡ true
space-inside [] b = refl
space-inside (c ∷ a) b = ap (λ t. (c == 32) || t) (space-inside a b) ∙ or-true (c == 32)

operator-plain : (x : Operator) → (scalars (spelling x) ≡ true) × (has_space (spelling x) ≡ false)
operator-plain op.Identical = (refl, refl)
operator-plain op.NotIdentical = (refl, refl)
operator-plain op.HasType = (refl, refl)
operator-plain op.Subtype = (refl, refl)
operator-plain op.Supertype = (refl, refl)
operator-plain op.Equal = (refl, refl)
operator-plain op.NotEqual = (refl, refl)
operator-plain op.LessEqual = (refl, refl)
operator-plain op.GreaterEqual = (refl, refl)
operator-plain op.And = (refl, refl)
operator-plain op.Or = (refl, refl)
operator-plain op.Assign = (refl, refl)
operator-plain op.Less = (refl, refl)
operator-plain op.Greater = (refl, refl)
operator-plain op.Plus = (refl, refl)
operator-plain op.Minus = (refl, refl)
operator-plain op.Times = (refl, refl)
operator-plain op.Divide = (refl, refl)
operator-plain op.Remainder = (refl, refl)
operator-plain op.Not = (refl, refl)
operator-plain op.Question = (refl, refl)
operator-plain op.Colon = (refl, refl)
operator-plain op.Dot = (refl, refl)
operator-plain op.Comma = (refl, refl)
operator-plain op.Semicolon = (refl, refl)
operator-plain op.OpenParen = (refl, refl)
operator-plain op.CloseParen = (refl, refl)
operator-plain op.OpenBracket = (refl, refl)
operator-plain op.CloseBracket = (refl, refl)
operator-plain op.OpenBrace = (refl, refl)
operator-plain op.CloseBrace = (refl, refl)

-- no longer operator begins with one and a space
longest : (x : Operator) (rest : List ℕ) → Longest x (32 ∷ rest)
longest x rest longer [] after e f = refl
longest x rest longer (c ∷ more) after e f =
    let same : c ≡ 32 = ap (λ l. get_or l 0 0) (sym f) in
    let inside : has_space (spelling longer) ≡ true = ap has_space (e ∙ ap (λ k. spelling x ++ k ∷ more) same) ∙ space-inside (spelling x) more in
    absurd (never (sym (operator-plain longer).1 ∙ inside))

operator-written : (x : Operator) → Written (S.Operator x)
operator-written x = record {
  chars = spelling x;
  space = 32 ∷ [];
  token = kind.Operator x;
  are = (operator-plain x).0;
  bytes = spaced-bytes (spelling x) (operator_text x) refl;
  spaced = inl refl;
  terminal = refl;
  spells = λ prefix e. refl;
  ends = λ prefix rest. (longest x rest, and-false (may_be_sign prefix x));
  behind = λ e. e;
}

newline-written : Written S.Newline
newline-written = record {
  chars = 10 ∷ [];
  space = [];
  token = kind.Newline;
  are = refl;
  bytes = low-bytes (10 ∷ []) refl;
  spaced = inr refl;
  terminal = refl;
  spells = λ prefix e. refl;
  ends = λ prefix rest. tt;
  behind = λ e. refl;
}

pub written : (s : Terminal) → IsSpellable s → Written s
written (S.Name n) is = name-written n is.0 is.1
written (S.Word x) is = word-written x is
written (S.Number n) is = number-written n is
written (S.Text t) is = text-written t is
written (S.Macro n) is = macro-written n is
written (S.Operator x) is = operator-written x
written S.Newline is = newline-written
written S.End is = absurd is
