-- The text of tokens reads as these tokens, with a newline before a negative number that does not stand in a prefix place.
use Rattle.std.proofs.Common.{◌≡◌, ℕ, ◌⊎◌, inl, inr, ◌≤◌, Bool, true, false, not, cond, ◌&&◌, List, [], ◌∷◌, ◌++◌, map, length, Ok, refl, sym, ap, ◌∙◌, subst, append_assoc, arith}
use Rattle.std.proofs.Math.Utf8.{scalars}
use Rattle.std.proofs.lemmas.Str.{encodes-append, encode_ascii, chars-encodes}
use Rattle.std.specs.List.{AllByRecursion}
use Rattle.std.specs.Str.{chars, encode_utf8_all}
use Rattle.jl_token.specs.declared.token.Token.{Token}
use Rattle.jl_token.specs.declared.token.TokenKind.TheVariants as kind
use Rattle.jl_token.specs.Characters.{place}
use Rattle.jl_token.specs.Prefix.{is_prefix_after}
use Rattle.jl_token.specs.Grammar.{Reads, at_end, between, token, blank, text, ReadsSource}
use Rattle.jl_typeread.specs.Lexemes.{terminal_of}
use Rattle.jl_typeread.specs.declared.terminal.Terminal.{Terminal}
use Rattle.jl_typeread.specs.declared.terminal.Terminal.TheVariants as S
use Rattle.jl_print.specs.Spelling.{terminal_text, is_negative, text_from, text_of, IsSpellable, is_prefix, spread}
use Rattle.jl_print.proofs.EscapeText.{scalars-append}
use Rattle.jl_print.proofs.TextTokens.{Written, written}

abbrev pub kind_terminals : List Token → List Terminal
kind_terminals = map (λ t. terminal_of t.kind)

-- bytes that read as tokens of these signs, before the end
pub record TextReads (bytes : ℕ) (prefix : Bool) (read : List ℕ) (ss : List Terminal) : Type 0 where
  pub text : List ℕ
  pub are : scalars text ≡ true
  pub spelled : encode_utf8_all text ≡ read
  pub tokens : List Token
  pub reads : Reads bytes prefix text (Ok tokens)
  pub terminals : kind_terminals tokens ≡ ss ++ S.End ∷ []

-- ---- one token more

space-are : (space : List ℕ) → (space ≡ 32 ∷ []) ⊎ (space ≡ []) → scalars space ≡ true
space-are space (inl e) = ap scalars e
space-are space (inr e) = ap scalars e

over-space : (bytes : ℕ) (prefix : Bool) (space rest : List ℕ) (tokens : List Token) → (space ≡ 32 ∷ []) ⊎ (space ≡ []) → Reads bytes prefix rest (Ok tokens) → Reads bytes prefix (space ++ rest) (Ok tokens)
over-space bytes prefix space rest tokens (inl e) d = subst (λ l. Reads bytes prefix (l ++ rest) (Ok tokens)) (sym e) (between bytes prefix (32 ∷ []) rest (Ok tokens) (blank 32 rest refl) d)
over-space bytes prefix space rest tokens (inr e) d = subst (λ l. Reads bytes prefix (l ++ rest) (Ok tokens)) (sym e) d

module _ (bytes : ℕ) (prefix : Bool) (s : Terminal) (w : Written s) (read : List ℕ) (ss : List Terminal) (r : TextReads bytes (is_prefix_after w.token) read ss) where
  abbrev whole : List ℕ
  whole = w.chars ++ (w.space ++ r.text)

  whole-bytes : encode_utf8_all whole ≡ terminal_text s ++ read
  whole-bytes =
      ap encode_utf8_all (sym (append_assoc w.chars w.space r.text)) ∙ encodes-append (w.chars ++ w.space) r.text
      ∙ ap (λ l. l ++ encode_utf8_all r.text) w.bytes ∙ ap (λ l. terminal_text s ++ l) r.spelled

  pub one-more : (is_negative s && not prefix) ≡ false → TextReads bytes prefix (terminal_text s ++ read) (s ∷ ss)
  one-more free = record {
    text = whole;
    are = scalars-append w.chars (w.space ++ r.text) w.are (scalars-append w.space r.text (space-are w.space w.spaced) r.are);
    spelled = whole-bytes;
    tokens = record { kind = w.token; at = place bytes whole } ∷ r.tokens;
    reads = token bytes prefix w.chars w.token (w.space ++ r.text) (Ok r.tokens) (w.spells prefix free) (w.ends prefix r.text)
        (over-space bytes (is_prefix_after w.token) w.space r.text r.tokens w.spaced r.reads);
    terminals = ap (λ t. t ∷ kind_terminals r.tokens) w.terminal ∙ ap (λ l. s ∷ l) r.terminals;
  }

-- a newline more, behind which is a prefix place
newline-more : (bytes : ℕ) (prefix : Bool) (read : List ℕ) (ss : List Terminal) → TextReads bytes true read ss → TextReads bytes prefix (10 ∷ read) (S.Newline ∷ ss)
newline-more bytes prefix read ss r = record {
  text = 10 ∷ r.text;
  are = r.are;
  spelled = ap (λ l. l ++ encode_utf8_all r.text) (encode_ascii 10 (omega arith)) ∙ ap (λ l. 10 ∷ l) r.spelled;
  tokens = record { kind = kind.Newline; at = place bytes (10 ∷ r.text) } ∷ r.tokens;
  reads = token bytes prefix (10 ∷ []) kind.Newline r.text (Ok r.tokens) refl tt r.reads;
  terminals = ap (λ l. S.Newline ∷ l) r.terminals;
}

-- ---- all tokens

and-false : (a : Bool) → (a && false) ≡ false
and-false true = refl
and-false false = refl

-- a negative number that no newline stands before stands in a prefix place
free-place : (negative free prefix : Bool) → (negative && not free) ≡ false → (free ≡ true → prefix ≡ true) → (negative && not prefix) ≡ false
free-place false free prefix e frees = refl
free-place true true prefix e frees = ap not (frees refl)
free-place true false prefix e frees = absurd cc

next : (bytes : ℕ) (s : Terminal) (ss : List Terminal) (prefix free : Bool) (w : Written s) → TextReads bytes (is_prefix_after w.token) (text_from (is_prefix s) ss) (spread (is_prefix s) ss)
    → (free ≡ true → prefix ≡ true) → (b : Bool) → (is_negative s && not free) ≡ b
    → TextReads bytes prefix (cond b (10 ∷ []) [] ++ (terminal_text s ++ text_from (is_prefix s) ss)) (cond b (S.Newline ∷ s ∷ spread (is_prefix s) ss) (s ∷ spread (is_prefix s) ss))
next bytes s ss prefix free w more frees true e = newline-more bytes prefix _ _ (one-more bytes true s w _ _ more (and-false (is_negative s)))
next bytes s ss prefix free w more frees false e = one-more bytes prefix s w _ _ more (free-place (is_negative s) free prefix e frees)

pub reads : (bytes : ℕ) (ss : List Terminal) (prefix free : Bool) → AllByRecursion IsSpellable ss → (free ≡ true → prefix ≡ true) → TextReads bytes prefix (text_from free ss) (spread free ss)
reads bytes [] prefix free all frees = record {
  text = [];
  are = refl;
  spelled = refl;
  tokens = record { kind = kind.End; at = bytes } ∷ [];
  reads = at_end bytes prefix;
  terminals = refl;
}
reads bytes (s ∷ ss) prefix free all frees =
    let w = written s all.0 in
    next bytes s ss prefix free w (reads bytes ss (is_prefix_after w.token) (is_prefix s) all.1 w.behind) frees (is_negative s && not free) refl

-- ---- the whole text

pub record TextHas (source : List ℕ) (ss : List Terminal) : Type 0 where
  pub tokens : List Token
  pub reads : ReadsSource source (Ok tokens)
  pub terminals : kind_terminals tokens ≡ ss ++ S.End ∷ []

-- the text of these tokens is a source that has them
pub text_has : (ss : List Terminal) → AllByRecursion IsSpellable ss → length (text_of ss) ≤ 1048576 → TextHas (text_of ss) (spread true ss)
text_has ss all fits =
    let r = reads (length (text_of ss)) ss true true all (λ e. e) in
    let same : chars (text_of ss) ≡ r.text = ap chars (sym r.spelled) ∙ chars-encodes r.text r.are in
    record {
      tokens = r.tokens;
      reads = inr (fits, text (text_of ss) (Ok r.tokens) (r.text, (r.are, r.spelled)) (subst (λ l. Reads (length (text_of ss)) true l (Ok r.tokens)) (sym same) r.reads));
      terminals = r.terminals;
    }
