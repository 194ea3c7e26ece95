-- Bytes in quotes.
use Rattle.std.proofs.Common.{◌≡◌, ◌∙◌, sym, refl, ap, subst, ℕ, ◌<◌, arith, Bool, true, false, not, ◌&&◌, ◌||◌, cond, nat_eq, codes, List, [], ◌∷◌, ◌++◌, length, bytes_eq, Option, None, Some, IfSome, MatchOption, append_assoc, append-nil}
use Rattle.std.specs.Str.{IsUtf8, is_utf8}
use Rattle.std.proofs.lemmas.Str.{IsUtf8-from_is_utf8, is_utf8-from_IsUtf8}
use Rattle.jl_report.specs.HistoryText.{backslash, quote, newline, carriage_return, escaped, all_escaped, quoted}
use Rattle.jl_history.specs.Form.{lacks}
use Rattle.jl_history.specs.Fields.{◌>>=◌, meaning, is_plain, byte_at, in_front, unquoted, IsUnquoted, after_quote, text_of, output_in}
use Rattle.jl_history.proofs.OptionLemmas.{bind_holds, cond_holds, and_true, same_number, same_bytes}
use Rattle.jl_history.proofs.CutLemmas.{lacks_append}

-- ---- a byte

-- a letter stands for the byte whose escape it is in
meaning_holds : (c : ℕ) → IfSome (meaning c) (λ m. escaped m ≡ backslash ∷ c ∷ [])
meaning_holds c =
    cond_holds (nat_eq c backslash || nat_eq c quote) (Some c) _ (λ m. escaped m ≡ backslash ∷ c ∷ []) (λ h. one (nat_eq c backslash) (nat_eq c quote) refl refl h) (λ h.
    cond_holds (nat_eq c 110) (Some newline) _ (λ m. escaped m ≡ backslash ∷ c ∷ []) (λ k. ap (λ z. backslash ∷ z ∷ []) (sym (same_number c 110 k))) (λ k.
    cond_holds (nat_eq c 114) (Some carriage_return) None (λ m. escaped m ≡ backslash ∷ c ∷ []) (λ l. ap (λ z. backslash ∷ z ∷ []) (sym (same_number c 114 l))) (λ l. tt)))
  where
    one : (a b : Bool) → nat_eq c backslash ≡ a → nat_eq c quote ≡ b → a || b ≡ true → escaped c ≡ backslash ∷ c ∷ []
    one true b x y h = subst (λ z. escaped z ≡ backslash ∷ z ∷ []) (sym (same_number c backslash x)) refl
    one false true x y h = subst (λ z. escaped z ≡ backslash ∷ z ∷ []) (sym (same_number c quote y)) refl
    one false false x y h = (let bad : false ≡ true = h in cc)

pub record IsPlain (b : ℕ) : Type 0 where
  pub no_backslash : nat_eq b backslash ≡ false
  pub no_quote : nat_eq b quote ≡ false
  pub no_newline : nat_eq b newline ≡ false
  pub no_return : nat_eq b carriage_return ≡ false

not_false : (t : Bool) → not t ≡ true → t ≡ false
not_false true h = (let bad : false ≡ true = h in cc)
not_false false h = refl

pub plain_is : (b : ℕ) → is_plain b ≡ true → IsPlain b
plain_is b h =
    let p = and_true (not (nat_eq b backslash)) (not (nat_eq b quote) && (not (nat_eq b newline) && not (nat_eq b carriage_return))) h in
    let q = and_true (not (nat_eq b quote)) (not (nat_eq b newline) && not (nat_eq b carriage_return)) p.1 in
    let r = and_true (not (nat_eq b newline)) (not (nat_eq b carriage_return)) q.1 in
    record { no_backslash = not_false _ p.0; no_quote = not_false _ q.0; no_newline = not_false _ r.0; no_return = not_false _ r.1 }

is_plain_so : (b : ℕ) → IsPlain b → is_plain b ≡ true
is_plain_so b p = rw (p.no_backslash, p.no_quote, p.no_newline, p.no_return) refl

plain_escaped : (b : ℕ) → IsPlain b → escaped b ≡ b ∷ []
plain_escaped b p = rw (p.no_backslash, p.no_quote, p.no_newline, p.no_return) refl

-- ---- what is read is spelled so

front_holds : (m : ℕ) (before rest : List ℕ) (o : Option (List ℕ)) → escaped m ≡ before → IfSome o (λ bs. rest ≡ all_escaped bs ++ quote ∷ [])
    → IfSome (in_front (m ∷ []) o) (λ bs. before ++ rest ≡ all_escaped bs ++ quote ∷ [])
front_holds m before rest None e h = tt
front_holds m before rest (Some bs) e h = ap (λ z. before ++ z) h ∙ ap (λ z. z ++ (all_escaped bs ++ quote ∷ [])) (sym e) ∙ sym (append_assoc (escaped m) (all_escaped bs) (quote ∷ []))

pub unquoted_holds : (text : List ℕ) → IfSome (unquoted text) (λ bs. text ≡ all_escaped bs ++ quote ∷ [])
unquoted_holds [] = tt
unquoted_holds (b ∷ []) = cond_holds (nat_eq b quote) (Some []) None (λ bs. b ∷ [] ≡ all_escaped bs ++ quote ∷ []) (λ h. ap (λ z. z ∷ []) (same_number b quote h)) (λ h. tt)
unquoted_holds (b ∷ c ∷ bs) =
    cond_holds (nat_eq b backslash) _ _ (λ xs. b ∷ c ∷ bs ≡ all_escaped xs ++ quote ∷ [])
    (λ h. bind_holds (meaning c) _ (λ m. escaped m ≡ backslash ∷ c ∷ []) (λ xs. b ∷ c ∷ bs ≡ all_escaped xs ++ quote ∷ []) (meaning_holds c) (λ m k.
    front_holds m (b ∷ c ∷ []) bs (unquoted bs) (k ∙ ap (λ z. z ∷ c ∷ []) (sym (same_number b backslash h))) (unquoted_holds bs)))
    (λ h. cond_holds (is_plain b) _ None (λ xs. b ∷ c ∷ bs ≡ all_escaped xs ++ quote ∷ [])
    (λ p. front_holds b (b ∷ []) (c ∷ bs) (unquoted (c ∷ bs)) (plain_escaped b (plain_is b p)) (unquoted_holds (c ∷ bs)))
    (λ p. tt))

-- ---- what is spelled so is read

unquoted_plain : (b : ℕ) (rest : List ℕ) → IsPlain b → 0 < length rest → unquoted (b ∷ rest) ≡ in_front (b ∷ []) (unquoted rest)
unquoted_plain b [] p l = absurd (omega (arith, l))
unquoted_plain b (c ∷ bs) p l =
    ap (λ t. cond t (meaning c >>= λ m. in_front (m ∷ []) (unquoted bs)) (cond (is_plain b) (in_front (b ∷ []) (unquoted (c ∷ bs))) None)) p.no_backslash
    ∙ ap (λ t. cond t (in_front (b ∷ []) (unquoted (c ∷ bs))) None) (is_plain_so b p)

ends_long : (bs : List ℕ) → 0 < length (bs ++ quote ∷ [])
ends_long [] = omega arith
ends_long (b ∷ bs) = omega arith

one_again : (b : ℕ) (rest : List ℕ) → 0 < length rest → unquoted (escaped b ++ rest) ≡ in_front (b ∷ []) (unquoted rest)
one_again b rest l = by (nat_eq b backslash) (nat_eq b quote) (nat_eq b newline) (nat_eq b carriage_return) refl refl refl refl
  where
    at : (n : ℕ) → b ≡ n → unquoted (escaped n ++ rest) ≡ in_front (n ∷ []) (unquoted rest) → unquoted (escaped b ++ rest) ≡ in_front (b ∷ []) (unquoted rest)
    at n e h = subst (λ z. unquoted (escaped z ++ rest) ≡ in_front (z ∷ []) (unquoted rest)) (sym e) h

    by : (s t u v : Bool) → nat_eq b backslash ≡ s → nat_eq b quote ≡ t → nat_eq b newline ≡ u → nat_eq b carriage_return ≡ v
        → unquoted (escaped b ++ rest) ≡ in_front (b ∷ []) (unquoted rest)
    by true t u v x y z w = at backslash (same_number b backslash x) refl
    by false true u v x y z w = at quote (same_number b quote y) refl
    by false false true v x y z w = at newline (same_number b newline z) refl
    by false false false true x y z w = at carriage_return (same_number b carriage_return w) refl
    by false false false false x y z w =
        let p : IsPlain b = record { no_backslash = x; no_quote = y; no_newline = z; no_return = w } in
        ap (λ q. unquoted (q ++ rest)) (plain_escaped b p) ∙ unquoted_plain b rest p l

pub unquoted_again : (bs : List ℕ) → unquoted (all_escaped bs ++ quote ∷ []) ≡ Some bs
unquoted_again [] = refl
unquoted_again (b ∷ bs) =
    ap unquoted (append_assoc (escaped b) (all_escaped bs) (quote ∷ []))
    ∙ one_again b (all_escaped bs ++ quote ∷ []) (ends_long (all_escaped bs))
    ∙ ap (in_front (b ∷ [])) (unquoted_again bs)

-- ---- an output

pub record IsOutput (text out : List ℕ) : Type 0 where
  pub utf8 : IsUtf8 out
  pub is : text ≡ quoted out

quote_holds : (text : List ℕ) → IfSome (after_quote text) (λ rest. text ≡ quote ∷ rest)
quote_holds [] = tt
quote_holds (b ∷ bs) = cond_holds (nat_eq b quote) (Some bs) None (λ rest. b ∷ bs ≡ quote ∷ rest) (λ h. ap (λ z. z ∷ bs) (same_number b quote h)) (λ h. tt)

pub output_holds : (text : List ℕ) → IfSome (output_in text) (IsOutput text)
output_holds text =
    bind_holds (after_quote text) _ (λ rest. text ≡ quote ∷ rest) (IsOutput text) (quote_holds text) (λ rest e.
    bind_holds (unquoted rest) _ (λ out. rest ≡ all_escaped out ++ quote ∷ []) (IsOutput text) (unquoted_holds rest) (λ out k.
    cond_holds (is_utf8 out) (Some out) None (IsOutput text)
    (λ u. record { utf8 = IsUtf8-from_is_utf8 out u; is = e ∙ ap (λ z. quote ∷ z) k })
    (λ u. tt)))

pub output_again : (out : List ℕ) → IsUtf8 out → output_in (quoted out) ≡ Some out
output_again out u =
    ap (λ o. o >>= λ bs. text_of bs) (unquoted_again out)
    ∙ ap (λ t. cond t (Some out) None) (is_utf8-from_IsUtf8 out u)

-- what was unquoted
pub output_is : (text rest old new : List ℕ) (t : Bool) → after_quote text ≡ Some rest → old ≡ [] → IsUnquoted t old new rest → output_in text ≡ cond t (text_of new) None
output_is text rest old new t e empty h =
    let read : unquoted rest ≡ cond t (Some new) None = sym (front_nil (unquoted rest)) ∙ ap (λ z. in_front z (unquoted rest)) (sym empty) ∙ h in
    ap (λ o. o >>= λ r. unquoted r >>= λ out. text_of out) e ∙ ap (λ o. o >>= λ out. text_of out) read ∙ by t
  where
    front_nil : (o : Option (List ℕ)) → in_front [] o ≡ o
    front_nil None = refl
    front_nil (Some bs) = refl

    by : (t : Bool) → (cond t (Some new) None >>= λ out. text_of out) ≡ cond t (text_of new) None
    by true = refl
    by false = refl

-- ---- no newline in quotes

escaped_lacks : (b : ℕ) → lacks newline (escaped b) ≡ true
escaped_lacks b = by (nat_eq b backslash) (nat_eq b quote) (nat_eq b newline) (nat_eq b carriage_return) refl refl refl refl
  where
    at : (n : ℕ) → b ≡ n → lacks newline (escaped n) ≡ true → lacks newline (escaped b) ≡ true
    at n e h = subst (λ z. lacks newline (escaped z) ≡ true) (sym e) h

    by : (s t u v : Bool) → nat_eq b backslash ≡ s → nat_eq b quote ≡ t → nat_eq b newline ≡ u → nat_eq b carriage_return ≡ v → lacks newline (escaped b) ≡ true
    by true t u v x y z w = at backslash (same_number b backslash x) refl
    by false true u v x y z w = at quote (same_number b quote y) refl
    by false false true v x y z w = at newline (same_number b newline z) refl
    by false false false true x y z w = at carriage_return (same_number b carriage_return w) refl
    by false false false false x y z w =
        let p : IsPlain b = record { no_backslash = x; no_quote = y; no_newline = z; no_return = w } in
        ap (lacks newline) (plain_escaped b p) ∙ ap (λ t. not t && true) z

all_lack : (bs : List ℕ) → lacks newline (all_escaped bs) ≡ true
all_lack [] = refl
all_lack (b ∷ bs) = lacks_append newline (escaped b) (all_escaped bs) (escaped_lacks b) (all_lack bs)

pub quoted_lacks : (bs : List ℕ) → lacks newline (quoted bs) ≡ true
quoted_lacks bs = lacks_append newline (all_escaped bs) (codes "\"") (all_lack bs) refl

-- ---- the loop that reads them

front_front : (a b : List ℕ) (o : Option (List ℕ)) → in_front a (in_front b o) ≡ in_front (a ++ b) o
front_front a b None = refl
front_front a b (Some cs) = ap Some (sym (append_assoc a b cs))

-- nothing, and not none
abbrev some_nil : Option (List ℕ)
some_nil = Some []

other_none : (rest : List ℕ) → ((rest ≡ quote ∷ []) → ⊥) → cond (bytes_eq rest (quote ∷ [])) (some_nil) None ≡ None
other_none rest h = by (bytes_eq rest (quote ∷ [])) refl
  where
    by : (t : Bool) → bytes_eq rest (quote ∷ []) ≡ t → cond t (some_nil) None ≡ None
    by true e = absurd (h (same_bytes rest (quote ∷ []) e))
    by false e = refl

cond_match : {A : Type 0} (b : Bool) (x y : Option A) (P : Type 0) (Q : A → Type 0) → (b ≡ true → MatchOption x P Q) → (b ≡ false → MatchOption y P Q) → MatchOption (cond b x y) P Q
cond_match true x y P Q h k = h refl
cond_match false x y P Q h k = k refl

head_is : (b c : ℕ) (bs cs : List ℕ) → b ∷ bs ≡ c ∷ cs → b ≡ c
head_is b c bs cs e = cc

tail_is : (b c : ℕ) (bs cs : List ℕ) → b ∷ bs ≡ c ∷ cs → bs ≡ cs
tail_is b c bs cs e = cc

never_nil : (b : ℕ) (bs : List ℕ) → b ∷ bs ≡ [] → ⊥
never_nil b bs e = (let l : length (b ∷ bs) ≡ 0 = ap length e in omega (arith, l))

single_end : (b : ℕ) → unquoted (b ∷ []) ≡ cond (bytes_eq (b ∷ []) (quote ∷ [])) (Some []) None
single_end b = by (nat_eq b quote) refl
  where
    by : (t : Bool) → nat_eq b quote ≡ t → unquoted (b ∷ []) ≡ cond (bytes_eq (b ∷ []) (quote ∷ [])) (Some []) None
    by true e = subst (λ z. unquoted (z ∷ []) ≡ cond (bytes_eq (z ∷ []) (quote ∷ [])) (Some []) None) (sym (same_number b quote e)) refl
    by false e =
        ap (λ t. cond t (Some []) None) e
        ∙ sym (other_none (b ∷ []) (λ h. (let s : nat_eq b quote ≡ true = grind (arith, head_is b quote [] [] h) in let bad : true ≡ false = sym s ∙ e in cc)))

-- no long text is a quote
long_end : (b c : ℕ) (bs : List ℕ) → None ≡ cond (bytes_eq (b ∷ c ∷ bs) (quote ∷ [])) (some_nil) None
long_end b c bs = sym (other_none (b ∷ c ∷ bs) (λ h. never_nil c bs (tail_is b quote (c ∷ bs) [] h)))

pub byte_cases : (rest : List ℕ) → MatchOption (byte_at rest) (unquoted rest ≡ cond (bytes_eq rest (quote ∷ [])) (Some []) None) (λ p. unquoted rest ≡ in_front (p.0 ∷ []) (unquoted p.1))
byte_cases [] = sym (other_none [] (λ h. never_nil quote [] (sym h)))
byte_cases (b ∷ []) =
    cond_match (is_plain b) (Some (b, [])) None _ (λ p. unquoted (b ∷ []) ≡ in_front (p.0 ∷ []) (unquoted p.1))
    (λ h. ap (λ t. cond t (Some []) None) (plain_is b h).no_quote)
    (λ h. single_end b)
byte_cases (b ∷ c ∷ bs) =
    cond_match {A = ℕ × List ℕ} (nat_eq b backslash) (meaning c >>= λ m. Some (m, bs)) (cond (is_plain b) (Some (b, c ∷ bs)) None) (unquoted (b ∷ c ∷ bs) ≡ cond (bytes_eq (b ∷ c ∷ bs) (quote ∷ [])) (Some []) None) (λ p. unquoted (b ∷ c ∷ bs) ≡ in_front (p.0 ∷ []) (unquoted p.1))
    (λ h. escape h (meaning c) refl)
    (λ h. cond_match (is_plain b) (Some (b, c ∷ bs)) None _ (λ p. unquoted (b ∷ c ∷ bs) ≡ in_front (p.0 ∷ []) (unquoted p.1))
    (λ p. unquoted_plain b (c ∷ bs) (plain_is b p) (omega arith))
    (λ p. ap (λ t. cond t (meaning c >>= λ m. in_front (m ∷ []) (unquoted bs)) (cond (is_plain b) (in_front (b ∷ []) (unquoted (c ∷ bs))) None)) h
    ∙ ap (λ t. cond t (in_front (b ∷ []) (unquoted (c ∷ bs))) None) p ∙ long_end b c bs))
  where
    escape : nat_eq b backslash ≡ true → (o : Option ℕ) → meaning c ≡ o
        → MatchOption {T = ℕ × List ℕ} (o >>= λ m. Some (m, bs)) (unquoted (b ∷ c ∷ bs) ≡ cond (bytes_eq (b ∷ c ∷ bs) (quote ∷ [])) (Some []) None) (λ p. unquoted (b ∷ c ∷ bs) ≡ in_front (p.0 ∷ []) (unquoted p.1))
    escape h None e =
        ap (λ t. cond t (meaning c >>= λ m. in_front (m ∷ []) (unquoted bs)) (cond (is_plain b) (in_front (b ∷ []) (unquoted (c ∷ bs))) None)) h
        ∙ ap (λ o. o >>= λ m. in_front (m ∷ []) (unquoted bs)) e ∙ long_end b c bs
    escape h (Some m) e =
        ap (λ t. cond t (meaning c >>= λ m. in_front (m ∷ []) (unquoted bs)) (cond (is_plain b) (in_front (b ∷ []) (unquoted (c ∷ bs))) None)) h
        ∙ ap (λ o. o >>= λ m. in_front (m ∷ []) (unquoted bs)) e

-- one more byte was read
pub byte_more : (out rest after : List ℕ) (b : ℕ) (due : Option (List ℕ)) → byte_at rest ≡ Some (b, after) → in_front out (unquoted rest) ≡ due → in_front (out ++ b ∷ []) (unquoted after) ≡ due
byte_more out rest after b due e h =
    let step : unquoted rest ≡ in_front (b ∷ []) (unquoted after) =
    subst (λ o. MatchOption o (unquoted rest ≡ cond (bytes_eq rest (quote ∷ [])) (Some []) None) (λ p. unquoted rest ≡ in_front (p.0 ∷ []) (unquoted p.1))) e (byte_cases rest) in
    sym (front_front out (b ∷ []) (unquoted after)) ∙ ap (in_front out) (sym step) ∙ h

-- no more byte is read
pub byte_last : (old out rest text : List ℕ) (t : Bool) → byte_at rest ≡ None → in_front out (unquoted rest) ≡ in_front old (unquoted text) → t ≡ bytes_eq rest (quote ∷ []) → IsUnquoted t old out text
byte_last old out rest text t e h k =
    let step : unquoted rest ≡ cond (bytes_eq rest (quote ∷ [])) (Some []) None =
    subst (λ o. MatchOption o (unquoted rest ≡ cond (bytes_eq rest (quote ∷ [])) (Some []) None) (λ p. unquoted rest ≡ in_front (p.0 ∷ []) (unquoted p.1))) e (byte_cases rest) in
    sym h ∙ ap (in_front out) (step ∙ ap (λ z. cond z (Some []) None) (sym k)) ∙ last t
  where
    last : (t : Bool) → in_front out (cond t (Some []) None) ≡ cond t (Some out) None
    last true = ap Some (append-nil out)
    last false = refl

pub byte_shorter : (rest after : List ℕ) (b : ℕ) → byte_at rest ≡ Some (b, after) → length after < length rest
byte_shorter rest after b e = subst (λ o. IfSome o (λ p. length p.1 < length rest)) e (shorter rest)
  where
    any : (o : Option ℕ) → IfSome o (λ m. Unit {0})
    any None = tt
    any (Some m) = tt

    shorter : (rest : List ℕ) → IfSome (byte_at rest) (λ p. length p.1 < length rest)
    shorter [] = tt
    shorter (b ∷ []) = cond_holds (is_plain b) (Some (b, [])) None (λ p. length p.1 < length (b ∷ [])) (λ h. omega arith) (λ h. tt)
    shorter (b ∷ c ∷ bs) =
        cond_holds {A = ℕ × List ℕ} (nat_eq b backslash) (meaning c >>= λ m. Some (m, bs)) (cond (is_plain b) (Some (b, c ∷ bs)) None) (λ p. length p.1 < length (b ∷ c ∷ bs))
        (λ h. bind_holds {B = ℕ × List ℕ} (meaning c) (λ m. Some (m, bs)) (λ m. Unit {0}) (λ p. length p.1 < length (b ∷ c ∷ bs)) (any (meaning c)) (λ m k. omega arith))
        (λ h. cond_holds (is_plain b) (Some (b, c ∷ bs)) None (λ p. length p.1 < length (b ∷ c ∷ bs)) (λ p. omega arith) (λ p. tt))
