-- Strings: what the text behind a quote is.
use Rattle.std.proofs.Common.{◌≡◌, ℕ, Bool, true, false, cond, not, ◌==◌, ◌||◌, inl, inr, List, [], ◌∷◌, ◌++◌, Option, Some, None, Result, Ok, Err, refl, sym, ap, ◌∙◌, subst, append_assoc, arith}
use Rattle.std.specs.Char.{encode_utf8}
use Rattle.std.proofs.lemmas.Bool.{eqb-true}
use Rattle.jl_token.specs.Characters.{escape}
use Rattle.jl_token.specs.Grammar.{Quoted, nothing, plain, escaped, is_plain, Ended, quote, taken, passed, IsWrongEscape}
use Rattle.jl_token.specs.Reading.{after_string, unescape, with_front, with_escape}
use Rattle.jl_token.proofs.Choices.{if-sound}

with_front-nil : (r : Result (List ℕ) (List ℕ)) → with_front [] r ≡ r
with_front-nil (Ok bytes) = refl
with_front-nil (Err rest) = refl

pub with_front-twice : (a b : List ℕ) (r : Result (List ℕ) (List ℕ)) → with_front a (with_front b r) ≡ with_front (a ++ b) r
with_front-twice a b (Ok bytes) = ap (λ l. Ok l) (sym (append_assoc a b bytes))
with_front-twice a b (Err rest) = refl

abbrev ends : List ℕ → Option (List ℕ)
ends rest = Some rest

-- ---- where a string ends

-- where an end is found, the text is ended
abbrev EndedBy : List ℕ → Option (List ℕ) → Type 0
EndedBy cs None = Unit {0}
EndedBy cs (Some rest) = Ended cs

ended-more : (cs text : List ℕ) (o : Option (List ℕ)) → (Ended cs → Ended text) → EndedBy cs o → EndedBy text o
ended-more cs text None more e = tt
ended-more cs text (Some rest) more e = more e

ended-by : (cs : List ℕ) → EndedBy cs (after_string false cs)
ended-by [] = tt
ended-by (c ∷ []) =
    if-sound (EndedBy (c ∷ [])) (c == 34) (Some []) None (λ is. subst (λ k. Ended (k ∷ [])) (sym (eqb-true c 34 is)) (quote [])) (λ _. tt)
ended-by (c ∷ d ∷ cs) =
    if-sound (EndedBy (c ∷ d ∷ cs)) (c == 34) (Some (d ∷ cs)) (cond (c == 92) (after_string false cs) (after_string false (d ∷ cs)))
    (λ is. subst (λ k. Ended (k ∷ d ∷ cs)) (sym (eqb-true c 34 is)) (quote (d ∷ cs)))
    (λ no_quote. if-sound (EndedBy (c ∷ d ∷ cs)) (c == 92) (after_string false cs) (after_string false (d ∷ cs))
    (λ is. ended-more cs (c ∷ d ∷ cs) (after_string false cs) (λ e. subst (λ k. Ended (k ∷ d ∷ cs)) (sym (eqb-true c 92 is)) (taken d cs e)) (ended-by cs))
    (λ no_slash. ended-more (d ∷ cs) (c ∷ d ∷ cs) (after_string false (d ∷ cs)) (passed c (d ∷ cs) no_quote no_slash) (ended-by (d ∷ cs))))

pub ended-is : (cs rest : List ℕ) → after_string false cs ≡ ends rest → Ended cs
ended-is cs rest e = subst (EndedBy cs) e (ended-by cs)

-- an ended text has an end
pub ended-goes : (cs : List ℕ) → Ended cs → (rest : List ℕ) × (after_string false cs ≡ ends rest)
ended-goes _ (quote cs) = (cs, refl)
ended-goes _ (taken c cs e) = ended-goes cs e
ended-goes _ (passed c cs no_quote no_slash e) =
    let more = ended-goes cs e in
    (more.0, ap (λ b. cond b (Some cs) (after_string (c == 92) cs)) no_quote ∙ ap (λ b. after_string b cs) no_slash ∙ more.1)

-- ---- what it stands for

-- what was read of a text before the rest behind its end: a body and its bytes, or a body before a wrong escape
abbrev pub BodyOf : List ℕ → List ℕ → Result (List ℕ) (List ℕ) → Type 0
BodyOf cs rest (Ok bytes) = (body : List ℕ) × (cs ≡ body ++ 34 ∷ rest) × Quoted body bytes
BodyOf cs rest (Err wrong) = (body : List ℕ) × (meant : List ℕ) × (cs ≡ body ++ wrong) × Quoted body meant × IsWrongEscape wrong × Ended wrong

last-found : (q w : Bool) (c : ℕ) (bytes rest : List ℕ) → (q ≡ true → c ≡ 34) → cond q (ends []) None ≡ ends rest → BodyOf (c ∷ []) rest (cond q (Ok []) (cond w (Err (c ∷ [])) (Ok bytes)))
last-found true w c bytes rest is e =
    let none : [] ≡ rest = cc in
    ([], ap (λ k. k ∷ []) (is refl) ∙ ap (λ l. 34 ∷ l) none, nothing)
last-found false w c bytes rest is e = absurd cc

plain-found : (c : ℕ) (cs rest : List ℕ) (read : Result (List ℕ) (List ℕ)) → is_plain c ≡ true → BodyOf cs rest read → BodyOf (c ∷ cs) rest (with_front (encode_utf8 c) read)
plain-found c cs rest (Ok bytes) is b = (c ∷ b.0, ap (λ l. c ∷ l) b.1, plain c b.0 bytes is b.2)
plain-found c cs rest (Err wrong) is b = (c ∷ b.0, encode_utf8 c ++ b.1, ap (λ l. c ∷ l) b.2, plain c b.0 b.1 is b.3, b.4, b.5)

escape-found : (c m : ℕ) (cs rest : List ℕ) (read : Result (List ℕ) (List ℕ)) → escape c ≡ Some m → BodyOf cs rest read → BodyOf (92 ∷ c ∷ cs) rest (with_front (encode_utf8 m) read)
escape-found c m cs rest (Ok bytes) is b = (92 ∷ c ∷ b.0, ap (λ l. 92 ∷ c ∷ l) b.1, escaped c m b.0 bytes is b.2)
escape-found c m cs rest (Err wrong) is b = (92 ∷ c ∷ b.0, encode_utf8 m ++ b.1, ap (λ l. 92 ∷ c ∷ l) b.2, escaped c m b.0 b.1 is b.3, b.4, b.5)

slash-found : (o : Option ℕ) (c : ℕ) (cs rest : List ℕ) → escape c ≡ o → Ended cs → BodyOf cs rest (unescape cs) → BodyOf (92 ∷ c ∷ cs) rest (with_escape o (92 ∷ c ∷ cs) (unescape cs))
slash-found None c cs rest is e b = ([], [], refl, nothing, inr (refl, is), taken c cs e)
slash-found (Some m) c cs rest is e b = escape-found c m cs rest (unescape cs) is b

more-found : (q d w : Bool) (c u : ℕ) (cs rest : List ℕ) → (c == 34) ≡ q → (c == 36) ≡ d → (c == 92) ≡ w
    → cond q (ends (u ∷ cs)) (cond w (after_string false cs) (after_string false (u ∷ cs))) ≡ ends rest
    → (after_string false cs ≡ ends rest → BodyOf cs rest (unescape cs))
    → (after_string false (u ∷ cs) ≡ ends rest → BodyOf (u ∷ cs) rest (unescape (u ∷ cs)))
    → BodyOf (c ∷ u ∷ cs) rest (cond q (Ok []) (cond d (Err (c ∷ u ∷ cs)) (cond w (with_escape (escape u) (c ∷ u ∷ cs) (unescape cs)) (with_front (encode_utf8 c) (unescape (u ∷ cs))))))
more-found true d w c u cs rest is_quote is_dollar is_slash e inner next =
    let same : u ∷ cs ≡ rest = cc in
    ([], ap (λ k. k ∷ u ∷ cs) (eqb-true c 34 is_quote) ∙ ap (λ l. 34 ∷ l) same, nothing)
more-found false true true c u cs rest is_quote is_dollar is_slash e inner next =
    let dollar = eqb-true c 36 is_dollar in
    let slash = eqb-true c 92 is_slash in
    absurd (omega arith)
more-found false true false c u cs rest is_quote is_dollar is_slash e inner next =
    ([], [], refl, nothing, inl (eqb-true c 36 is_dollar), passed c (u ∷ cs) is_quote is_slash (ended-is (u ∷ cs) rest e))
more-found false false true c u cs rest is_quote is_dollar is_slash e inner next =
    let read = slash-found (escape u) u cs rest refl (ended-is cs rest e) (inner e) in
    subst (λ k. BodyOf (k ∷ u ∷ cs) rest (with_escape (escape u) (k ∷ u ∷ cs) (unescape cs))) (sym (eqb-true c 92 is_slash)) read
more-found false false false c u cs rest is_quote is_dollar is_slash e inner next =
    let is : is_plain c ≡ true = ap (λ b. not (b || (c == 92) || (c == 36))) is_quote ∙ ap (λ b. not (b || (c == 36))) is_slash ∙ ap not is_dollar in
    plain-found c (u ∷ cs) rest (unescape (u ∷ cs)) is (next e)

-- what is found in a text that has an end
pub string-found : (cs rest : List ℕ) → after_string false cs ≡ ends rest → BodyOf cs rest (unescape cs)
string-found [] rest e = absurd cc
string-found (c ∷ []) rest e = last-found (c == 34) ((c == 36) || (c == 92)) c (encode_utf8 c ++ []) rest (eqb-true c 34) e
string-found (c ∷ d ∷ cs) rest e =
    more-found (c == 34) (c == 36) (c == 92) c d cs rest refl refl refl e (string-found cs rest) (string-found (d ∷ cs) rest)

-- ---- what a body is read as

not-plain : (c : ℕ) → is_plain c ≡ true → ((c == 34) ≡ false) × ((c == 92) ≡ false) × ((c == 36) ≡ false)
not-plain c is = go (c == 34) (c == 92) (c == 36) is
  where
    go : (a b d : Bool) → not (a || b || d) ≡ true → (a ≡ false) × (b ≡ false) × (d ≡ false)
    go true b d e = absurd cc
    go false true d e = absurd cc
    go false false true e = absurd cc
    go false false false e = (refl, refl, refl)

pub quoted-ends : (body meant : List ℕ) → Quoted body meant → (t : List ℕ) → after_string false (body ++ t) ≡ after_string false t
quoted-ends _ _ nothing t = refl
quoted-ends _ _ (plain c cs bytes is q) t =
    let n = not-plain c is in
    ap (λ b. cond b (Some (cs ++ t)) (after_string (c == 92) (cs ++ t))) n.0 ∙ ap (λ b. after_string b (cs ++ t)) n.1 ∙ quoted-ends cs bytes q t
quoted-ends _ _ (escaped c m cs bytes is q) t = quoted-ends cs bytes q t

unescape-plain : (c : ℕ) (cs : List ℕ) → is_plain c ≡ true → unescape (c ∷ cs) ≡ with_front (encode_utf8 c) (unescape cs)
unescape-plain c [] is =
    let n = not-plain c is in
    ap (λ b. cond b (Ok []) (cond ((c == 36) || (c == 92)) (Err (c ∷ [])) (Ok (encode_utf8 c ++ [])))) n.0
    ∙ ap (λ b. cond (b || (c == 92)) (Err (c ∷ [])) (Ok (encode_utf8 c ++ []))) n.2
    ∙ ap (λ b. cond b (Err (c ∷ [])) (Ok (encode_utf8 c ++ []))) n.1
unescape-plain c (u ∷ us) is =
    let n = not-plain c is in
    let slash = cond (c == 92) (with_escape (escape u) (c ∷ u ∷ us) (unescape us)) (with_front (encode_utf8 c) (unescape (u ∷ us))) in
    ap (λ b. cond b (Ok []) (cond (c == 36) (Err (c ∷ u ∷ us)) slash)) n.0
    ∙ ap (λ b. cond b (Err (c ∷ u ∷ us)) slash) n.2
    ∙ ap (λ b. cond b (with_escape (escape u) (c ∷ u ∷ us) (unescape us)) (with_front (encode_utf8 c) (unescape (u ∷ us)))) n.1

pub quoted-goes : (body meant : List ℕ) → Quoted body meant → (t : List ℕ) → unescape (body ++ t) ≡ with_front meant (unescape t)
quoted-goes _ _ nothing t = sym (with_front-nil (unescape t))
quoted-goes _ _ (plain c cs bytes is q) t =
    unescape-plain c (cs ++ t) is ∙ ap (with_front (encode_utf8 c)) (quoted-goes cs bytes q t) ∙ with_front-twice (encode_utf8 c) bytes (unescape t)
quoted-goes _ _ (escaped c m cs bytes is q) t =
    ap (λ o. with_escape o (92 ∷ c ∷ cs ++ t) (unescape (cs ++ t))) is
    ∙ ap (with_front (encode_utf8 m)) (quoted-goes cs bytes q t) ∙ with_front-twice (encode_utf8 m) bytes (unescape t)

pub wrong-goes : (c d : ℕ) (cs : List ℕ) → IsWrongEscape (c ∷ d ∷ cs) → unescape (c ∷ d ∷ cs) ≡ Err (c ∷ d ∷ cs)
wrong-goes c d cs (inl dollar) = subst (λ k. unescape (k ∷ d ∷ cs) ≡ Err (k ∷ d ∷ cs)) (sym dollar) refl
wrong-goes c d cs (inr slash) = subst (λ k. unescape (k ∷ d ∷ cs) ≡ Err (k ∷ d ∷ cs)) (sym slash.0) (ap (λ o. with_escape o (92 ∷ d ∷ cs) (unescape cs)) slash.1)
