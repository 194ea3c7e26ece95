-- A string's text, read by runs of plain characters with an escape between two of them.
use Rattle.std.proofs.Common.{◌≡◌, ℕ, ◌-◌, ◌<◌, Bool, true, false, ◌==◌, ◌||◌, List, [], ◌∷◌, ◌++◌, length, take, Option, Some, None, refl, sym, ap, ◌∙◌, subst, arith}
use Rattle.std.specs.Char.{encode_utf8}
use Rattle.std.specs.Str.{IsUtf8, chars, encode_utf8_all}
use Rattle.std.proofs.lemmas.Bool.{eqb-true}
use Rattle.std.proofs.lemmas.Str.{encode_ascii}
use Rattle.jl_token.specs.Characters.{escape, has_first}
use Rattle.jl_token.specs.Grammar.{Quoted, nothing, plain, is_plain}
use Rattle.jl_token.specs.Reading.{after_string, after_plain, unescape, with_front, with_escape, read_escape}
use Rattle.jl_token.specs.Operators.{by}
use Rattle.jl_token.proofs.Choices.{if-sound}
use Rattle.jl_token.proofs.Texts.{front-bytes}
use Rattle.jl_token.proofs.QuotedText.{with_front-twice, quoted-ends, quoted-goes}

-- ---- a run of plain characters

-- the text is plain characters, each of which stands for itself, and this rest
abbrev IsRun : List ℕ → List ℕ → Type 0
IsRun text rest = (run : List ℕ) × (text ≡ run ++ rest) × Quoted run (encode_utf8_all run)

pub run-found : (cs : List ℕ) → IsRun cs (after_plain cs)
run-found [] = ([], refl, nothing)
run-found (c ∷ cs) =
    if-sound (IsRun (c ∷ cs)) (is_plain c) (after_plain cs) (c ∷ cs)
    (λ is. let more = run-found cs in (c ∷ more.0, ap (λ l. c ∷ l) more.1, plain c more.0 (encode_utf8_all more.0) is more.2))
    (λ _. ([], refl, nothing))

abbrev Stops : List ℕ → Type 0
Stops rest = has_first is_plain rest ≡ false

pub run-stops : (cs : List ℕ) → Stops (after_plain cs)
run-stops [] = refl
run-stops (c ∷ cs) = if-sound Stops (is_plain c) (after_plain cs) (c ∷ cs) (λ _. run-stops cs) (λ stops. stops)

-- the end of the text is that of what follows the run
pub run-ends : (cs : List ℕ) → after_string false (after_plain cs) ≡ after_string false cs
run-ends cs =
    let r = run-found cs in
    sym (ap (after_string false) r.1 ∙ quoted-ends r.0 (encode_utf8_all r.0) r.2 (after_plain cs))

-- the bytes so far and those of the run, before what follows it
pub run-takes : (old now text rest : List ℕ) → IsUtf8 text → IsUtf8 rest → chars rest ≡ after_plain (chars text) → now ≡ old ++ take (length text - length rest) text
    → with_front now (unescape (chars rest)) ≡ with_front old (unescape (chars text))
run-takes old now text rest utf8 rest-utf8 is grown =
    let r = run-found (chars text) in
    let split : chars text ≡ r.0 ++ chars rest = r.1 ∙ ap (λ l. r.0 ++ l) (sym is) in
    let bytes = front-bytes text rest r.0 utf8 rest-utf8 split in
    ap (λ l. with_front l (unescape (chars rest))) (grown ∙ ap (λ l. old ++ l) bytes)
    ∙ sym (with_front-twice old (encode_utf8_all r.0) (unescape (chars rest)))
    ∙ ap (with_front old) (sym (ap unescape split ∙ quoted-goes r.0 (encode_utf8_all r.0) r.2 (chars rest)))

-- ---- an escape

abbrev IfSmall : Option ℕ → Type 0
IfSmall None = Unit {0}
IfSmall (Some c) = c < 128

small-one : (c : ℕ) → ((c == 92) || (c == 34) || (c == 36)) ≡ true → c < 128
small-one c is = go (c == 92) (c == 34) (c == 36) (eqb-true c 92) (eqb-true c 34) (eqb-true c 36) is
  where
    go : (a b d : Bool) → (a ≡ true → c ≡ 92) → (b ≡ true → c ≡ 34) → (d ≡ true → c ≡ 36) → (a || b || d) ≡ true → c < 128
    go true b d f g h e = let same = f refl in omega (arith, same)
    go false true d f g h e = let same = g refl in omega (arith, same)
    go false false true f g h e = let same = h refl in omega (arith, same)
    go false false false f g h e = absurd cc

escape-small : (c : ℕ) → IfSmall (escape c)
escape-small c =
    if-sound IfSmall (c == 110) _ _ (λ _. omega arith)
    (λ _. if-sound IfSmall (c == 116) _ _ (λ _. omega arith)
    (λ _. if-sound IfSmall ((c == 92) || (c == 34) || (c == 36)) _ _ (small-one c) (λ _. tt)))

-- what an escape stands for is one byte
escape-byte : (c meant : ℕ) → escape c ≡ Some meant → encode_utf8 meant ≡ meant ∷ []
escape-byte c meant is = encode_ascii meant (subst IfSmall is (escape-small c))

abbrev found : ℕ → List ℕ → Option (ℕ × List ℕ)
found c cs = Some (c, cs)

found-is : (p q : ℕ × List ℕ) → found p.0 p.1 ≡ found q.0 q.1 → p ≡ q
found-is p q e = cc

escape-goes : (e : ℕ) (after behind : List ℕ) → read_escape after ≡ found e behind
    → (unescape (92 ∷ after) ≡ with_front (e ∷ []) (unescape behind)) × (after_string false (92 ∷ after) ≡ after_string false behind)
escape-goes e [] behind is = absurd cc
escape-goes e (c ∷ cs) behind is = go (escape c) refl is
  where
    go : (o : Option ℕ) → escape c ≡ o → by o None (λ meant. found meant cs) ≡ found e behind
        → (with_escape o (92 ∷ c ∷ cs) (unescape cs) ≡ with_front (e ∷ []) (unescape behind)) × (after_string false cs ≡ after_string false behind)
    go None stands f = absurd cc
    go (Some meant) stands f =
        let same = found-is (meant, cs) (e, behind) f in (
          ap (λ l. with_front l (unescape cs)) (escape-byte c meant stands) ∙ ap (λ p. with_front (p.0 ∷ []) (unescape p.1)) same,
          ap (λ p. after_string false p.1) same,
        )

-- the bytes so far and that of the escape, before what follows it
pub escape-takes : (old now : List ℕ) (c e : ℕ) (rest after behind : List ℕ) → rest ≡ c ∷ after → c ≡ 92 → read_escape after ≡ found e behind
    → now ≡ old ++ e ∷ [] → with_front now (unescape behind) ≡ with_front old (unescape rest)
escape-takes old now c e rest after behind split slash is grown =
    let text : rest ≡ 92 ∷ after = split ∙ ap (λ k. k ∷ after) slash in
    ap (λ l. with_front l (unescape behind)) grown
    ∙ sym (with_front-twice old (e ∷ []) (unescape behind))
    ∙ ap (with_front old) (sym (ap unescape text ∙ (escape-goes e after behind is).0))

pub escape-ends : (c e : ℕ) (rest after behind : List ℕ) → rest ≡ c ∷ after → c ≡ 92 → read_escape after ≡ found e behind
    → after_string false behind ≡ after_string false rest
escape-ends c e rest after behind split slash is =
    let text : rest ≡ 92 ∷ after = split ∙ ap (λ k. k ∷ after) slash in
    sym (ap (after_string false) text ∙ (escape-goes e after behind is).1)
