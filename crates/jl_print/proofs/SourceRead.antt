-- Where the negative numbers of a source stand: in a prefix place of its tokens, and so, as the grammar sees them, in a
-- prefix place or directly in brackets.
use Rattle.std.proofs.Common.{◌≡◌, ℕ, inl, inr, Bool, true, false, not, cond, ◌&&◌, ◌||◌, Option, Some, None, Result, Ok, Err, List, [], ◌∷◌, ◌++◌, refl, sym, ap, ◌∙◌, subst}
use Rattle.std.specs.List.{list_any}
use Rattle.std.specs.Str.{bytes_eq}
use Rattle.jl_token.specs.declared.token.Operator.TheVariants as o
use Rattle.jl_token.specs.declared.token.Token.{Token}
use Rattle.jl_token.specs.declared.token.TokenFault.{TokenFault}
use Rattle.jl_token.specs.declared.token.TokenKind.{TokenKind}
use Rattle.jl_token.specs.declared.token.TokenKind.TheVariants as kind
use Rattle.jl_token.specs.Prefix.{is_prefix_after, opening_words}
use Rattle.jl_token.specs.Grammar.{Spells, Reads, at_end, faulty, between, token, with_token, ReadsBytes, bad_utf8, text, ReadsSource}
use Rattle.jl_typeread.specs.Lexemes.{terminal_of, word_or_name, name_unless, reserved_word}
use Rattle.jl_typeread.specs.Lexemes as X
use Rattle.jl_typeread.specs.declared.terminal.Terminal.{Terminal}
use Rattle.jl_typeread.specs.declared.terminal.Terminal.TheVariants as S
use Rattle.jl_typeread.specs.declared.terminal.Word.{Word}
use Rattle.jl_typeread.specs.declared.terminal.Word.TheVariants as w
use Rattle.jl_grammar.specs.declared.mark.Around.{Around}
use Rattle.jl_grammar.specs.declared.mark.Previous.{Previous}
use Rattle.jl_grammar.specs.declared.mark.Previous.TheVariants.{Joins, Ends, Dot, Other}
use Rattle.jl_grammar.specs.declared.tree.Script.{Script}
use Rattle.jl_grammar.specs.Marks.{terminals}
use Rattle.jl_grammar.specs.Newlines.{around_after, in_bracket, is_dropped, drop_newlines}
use Rattle.jl_grammar.specs.Newlines as L
use Rattle.jl_grammar.specs.Texts.{tok}
use Rattle.jl_print.specs.PrintsBack.{IsSource}
use Rattle.jl_print.specs.Spelling.{is_negative, is_negative_number, is_prefix}
use Rattle.jl_print.proofs.AgainWords.{same_bytes}
use Rattle.jl_print.proofs.BareText as B
use Rattle.jl_print.proofs.Laid.{seen, seen-append}
use Rattle.jl_print.proofs.PrintedText.{seen_with_marks, terminals_of_tokens}
use Rattle.jl_print.proofs.SpelledTerminals.{Frees, Guarded, guarded_split}
use Rattle.jl_print.proofs.TextReads.{kind_terminals}
use Rattle.jl_print.proofs.Wholes.{joins}

-- each negative number stands in a prefix place
abbrev Signed : Bool → List Terminal → Type 0
Signed free [] = Unit {0}
Signed free (s ∷ ss) = ((is_negative s && not free) ≡ false) × Signed (is_prefix s) ss

-- ---- one token

and-false : (a : Bool) → (a && false) ≡ false
and-false true = refl
and-false false = refl

named-plain : (r : Option Word) (word : List ℕ) → is_negative (name_unless r word) ≡ false
named-plain (Some x) word = refl
named-plain None word = refl

spelled-signed : (prefix : Bool) (w : List ℕ) (k : TokenKind) → Spells prefix w k → (is_negative (terminal_of k) && not prefix) ≡ false
spelled-signed prefix w (kind.Identifier word) s = ap (λ b. b && not prefix) (named-plain (reserved_word word) word)
spelled-signed prefix w (kind.Number value) s = ap (λ n. is_negative_number n && not prefix) s.3
spelled-signed prefix w (kind.Negative value) s = ap (λ b. is_negative_number value && not b) s.2 ∙ and-false (is_negative_number value)
spelled-signed prefix w (kind.Text meant) s = refl
spelled-signed prefix w (kind.Macro word) s = refl
spelled-signed prefix w (kind.Operator x) s = refl
spelled-signed prefix w kind.Newline s = refl
spelled-signed prefix w kind.End s = refl

-- behind each of these words is a prefix place
abbrev ArePrefix : List (List ℕ) → Type 0
ArePrefix [] = Unit {0}
ArePrefix (x ∷ xs) = (is_prefix (word_or_name x) ≡ true) × ArePrefix xs

one-of : (xs : List (List ℕ)) (word : List ℕ) → ArePrefix xs → list_any (λ x. bytes_eq x word) xs ≡ true → is_prefix (word_or_name word) ≡ true
one-of [] word are e = absurd (none e)
  where
    none : false ≡ true → ⊥
    none e = absurd cc
one-of (x ∷ xs) word are e = by (bytes_eq x word) refl e (one-of xs word are.1)
  where
    by : (b : Bool) → bytes_eq x word ≡ b → (b || list_any (λ y. bytes_eq y word) xs) ≡ true → (list_any (λ y. bytes_eq y word) xs ≡ true → is_prefix (word_or_name word) ≡ true) → is_prefix (word_or_name word) ≡ true
    by true f e more = ap (λ y. is_prefix (word_or_name y)) (sym (same_bytes x word f)) ∙ are.0
    by false f e more = more e

words-prefix : ArePrefix opening_words
words-prefix = (refl, (refl, (refl, (refl, (refl, (refl, (refl, (refl, (refl, (refl, (refl, (refl, (refl, (refl, (refl, (refl, (refl, (refl, (refl, (refl, (refl, (refl, (refl, (refl, (refl, (refl, (refl, (refl, (refl, (refl, (refl, tt)))))))))))))))))))))))))))))))

prefix-terminal : (k : TokenKind) → Frees (is_prefix_after k) (is_prefix (terminal_of k))
prefix-terminal (kind.Identifier word) e = one-of opening_words word words-prefix e
prefix-terminal (kind.Number value) e = e
prefix-terminal (kind.Negative value) e = e
prefix-terminal (kind.Text meant) e = e
prefix-terminal (kind.Macro word) e = e
prefix-terminal (kind.Operator x) e = e
prefix-terminal kind.Newline e = e
prefix-terminal kind.End e = e

-- ---- all tokens

signed-one : (n f g : Bool) → Frees f g → (n && not f) ≡ false → (n && not g) ≡ false
signed-one false f g h e = refl
signed-one true true g h e = ap not (h refl)
signed-one true false g h e = absurd cc

signed-freed : (ss : List Terminal) (f g : Bool) → Frees f g → Signed f ss → Signed g ss
signed-freed [] f g h e = tt
signed-freed (s ∷ ss) f g h e = (signed-one (is_negative s) f g h e.0, e.1)

abbrev OkSigned : Bool → Result (List Token) TokenFault → Type 0
OkSigned free (Ok ts) = Signed free (kind_terminals ts)
OkSigned free (Err f) = Unit {0}

with-signed : (k : TokenKind) (at : ℕ) (prefix : Bool) (r : Result (List Token) TokenFault) → (is_negative (terminal_of k) && not prefix) ≡ false → OkSigned (is_prefix_after k) r → OkSigned prefix (with_token k at r)
with-signed k at prefix (Ok ts) n h = (n, signed-freed (kind_terminals ts) (is_prefix_after k) (is_prefix (terminal_of k)) (prefix-terminal k) h)
with-signed k at prefix (Err f) n h = tt

reads-signed : (bytes : ℕ) (prefix : Bool) (cs : List ℕ) (r : Result (List Token) TokenFault) → Reads bytes prefix cs r → OkSigned prefix r
reads-signed _ _ _ _ (at_end bytes prefix) = (refl, tt)
reads-signed _ _ _ _ (faulty bytes prefix cs f is) = tt
reads-signed _ _ _ _ (between bytes prefix w rest r is d) = reads-signed bytes prefix rest r d
reads-signed _ _ _ _ (token bytes prefix w k rest r is ends d) = with-signed k _ prefix r (spelled-signed prefix w k is) (reads-signed bytes _ rest r d)

bytes-signed : (source : List ℕ) (r : Result (List Token) TokenFault) → ReadsBytes source r → OkSigned true r
bytes-signed _ _ (bad_utf8 source at is) = tt
bytes-signed _ _ (text source r utf8 d) = reads-signed _ _ _ r d

source-signed : (source : List ℕ) (r : Result (List Token) TokenFault) → ReadsSource source r → OkSigned true r
source-signed source r (inl x) = subst (OkSigned true) (sym x.1) tt
source-signed source r (inr x) = bytes-signed source r x.1

-- ---- what the grammar sees of them

joins-prefix : (s : Terminal) (ns : List Around) (p : Previous) → joins (L.previous_after s ns p) ≡ true → is_prefix s ≡ true
joins-prefix (S.Operator o.CloseParen) ns p e = absurd cc
joins-prefix (S.Operator o.CloseBracket) ns p e = absurd cc
joins-prefix (S.Operator o.CloseBrace) ns p e = absurd cc
joins-prefix (S.Operator x) ns p e = refl
joins-prefix (S.Word w.End) ns p e = absurd cc
joins-prefix (S.Word w.True) ns p e = absurd cc
joins-prefix (S.Word w.False) ns p e = absurd cc
joins-prefix (S.Word w.Nothing) ns p e = absurd cc
joins-prefix (S.Word x) ns p e = refl
joins-prefix S.Newline ns p e = refl
joins-prefix (S.Name n) ns p e = absurd cc
joins-prefix (S.Number n) ns p e = absurd cc
joins-prefix (S.Text t) ns p e = absurd cc
joins-prefix (S.Macro n) ns p e = absurd cc
joins-prefix S.End ns p e = absurd cc

dropped-free : (ns : List Around) (p : Previous) (f : Bool) → Frees (joins p) f → is_dropped ns p ≡ true → (f || in_bracket ns) ≡ true
dropped-free ns Joins f i e = ap (λ x. x || in_bracket ns) (i refl)
dropped-free ns Ends true i e = refl
dropped-free ns Ends false i e = e
dropped-free ns Dot true i e = refl
dropped-free ns Dot false i e = e
dropped-free ns Other true i e = refl
dropped-free ns Other false i e = e

placed : (n raw f b : Bool) → (n && not raw) ≡ false → (raw ≡ true → (f || b) ≡ true) → ((n && not f) && not b) ≡ false
placed false raw f b e j = refl
placed true false f b e j = absurd cc
placed true true true b e j = refl
placed true true false b e j = ap not (j refl)

newline-guarded : (ss : List Terminal) (ns : List Around) (p : Previous) (f b : Bool) → (b ≡ true → Guarded f ns (B.seen ns p ss)) → Guarded true ns (B.seen ns Other ss)
    → Guarded f ns (cond (not b) (S.Newline ∷ []) [] ++ B.seen ns (cond b p Other) ss)
newline-guarded ss ns p f true x y = x refl
newline-guarded ss ns p f false x y = (refl, y)

seen-guarded : (ss : List Terminal) (ns : List Around) (p : Previous) (raw f : Bool) → Signed raw ss → Frees (joins p) f → (raw ≡ true → (f || in_bracket ns) ≡ true) → Guarded f ns (B.seen ns p ss)
seen-guarded [] ns p raw f e i j = tt
seen-guarded (S.Newline ∷ ss) ns p raw f e i j =
    newline-guarded ss ns p f (is_dropped ns p) (λ d. seen-guarded ss ns p true f e.1 i (λ h. dropped-free ns p f i d)) (seen-guarded ss ns Other true true e.1 (λ h. refl) (λ h. refl))
seen-guarded (s ∷ ss) ns p raw f e i j =
    (placed (is_negative s) raw f (in_bracket ns) e.0 j, seen-guarded ss (around_after s ns) (L.previous_after s ns p) (is_prefix s) (is_prefix s) e.1 (joins-prefix s ns p) (λ h. ap (λ x. x || in_bracket (around_after s ns)) h))

-- the negative numbers of a script's source stand in prefix places or directly in brackets
pub source_guarded : (source : List ℕ) (s : Script) → (is : IsSource source s) → Guarded true [] (seen is.front)
source_guarded source s is =
    let all : Signed true (terminals (X.lexemes is.tokens)) = subst (Signed true) (sym (terminals_of_tokens is.tokens)) (source-signed source (Ok is.tokens) is.has_tokens) in
    let shown : Guarded true [] (terminals (drop_newlines (X.lexemes is.tokens))) = subst (Guarded true []) (sym (B.bare-seen (X.lexemes is.tokens) [] Other)) (seen-guarded (terminals (X.lexemes is.tokens)) [] Other true true all (λ h. refl) (λ h. refl)) in
    (guarded_split (seen is.front) (S.End ∷ []) true [] (subst (Guarded true []) (sym (seen_with_marks (drop_newlines (X.lexemes is.tokens))) ∙ ap seen is.seen ∙ seen-append is.front (tok S.End is.end ∷ [])) shown)).0
