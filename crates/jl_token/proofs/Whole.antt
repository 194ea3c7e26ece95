-- What bytes read as is one thing alone, and ends with the end.
use Rattle.std.proofs.Common.{◌≡◌, ℕ, ◌≤◌, Bool, true, inl, inr, List, [], ◌∷◌, length, Ok, Err, IfOk, refl, sym, ap, ◌∙◌, subst, arith}
use Rattle.std.specs.Str.{chars, IsUtf8, IsValidUpTo}
use Rattle.std.proofs.lemmas.Str.{utf8_valid_len-IsUtf8, utf8_valid_len-IsValidUpTo}
use Rattle.jl_token.specs.declared.token.Token.{Token}
use Rattle.jl_token.specs.declared.token.TokenKind.{TokenKind}
use Rattle.jl_token.specs.declared.token.TokenKind.TheVariants as kind
use Rattle.jl_token.specs.declared.token.TokenFault.TheVariants as fault
use Rattle.jl_token.specs.Grammar.{Spells, Reads, at_end, faulty, between, token, with_token, ReadsBytes, bad_utf8, text, ReadsSource, UnlessMemory, IsOnly, RefusesBadUtf8, EndsOnce}
use Rattle.jl_token.proofs.OneReading.{Answer, one-reading}

pub never-utf8 : (source : List ℕ) (at : ℕ) → IsValidUpTo source at → IsUtf8 source → ⊥
never-utf8 source at bad utf8 = omega (arith, bad.short, utf8_valid_len-IsUtf8 source utf8, utf8_valid_len-IsValidUpTo source at bad)

-- there is one place up to which bytes are UTF-8
one-place : (source : List ℕ) (at other : ℕ) → IsValidUpTo source at → IsValidUpTo source other → at ≡ other
one-place source at other bad also = sym (utf8_valid_len-IsValidUpTo source at bad) ∙ utf8_valid_len-IsValidUpTo source other also

pub refused-there : (source : List ℕ) (at : ℕ) → IsValidUpTo source at → RefusesBadUtf8 source (Err (fault.BadUtf8 at))
refused-there source at bad = λ other also. ap (λ n. Err (fault.BadUtf8 n)) (one-place source at other bad also)

pub one-bytes : (source : List ℕ) (r q : Answer) → ReadsBytes source r → ReadsBytes source q → r ≡ q
one-bytes _ _ _ (bad_utf8 source at bad) (bad_utf8 _ other also) =
    ap (λ n. Err (fault.BadUtf8 n)) (one-place source at other bad also)
one-bytes _ _ _ (bad_utf8 source at bad) (text _ q utf8 d) = absurd (never-utf8 source at bad utf8)
one-bytes _ _ _ (text source r utf8 d) (bad_utf8 _ at bad) = absurd (never-utf8 source at bad utf8)
one-bytes _ _ _ (text source r utf8 d) (text _ q _ e) = one-reading (length source) _ (chars source) r q d e

pub one-source : (source : List ℕ) (r q : Answer) → ReadsSource source r → ReadsSource source q → r ≡ q
one-source source r q (inl long) (inl also) = long.1 ∙ sym also.1
one-source source r q (inl long) (inr short) = absurd (omega (arith, long.0, short.0))
one-source source r q (inr short) (inl long) = absurd (omega (arith, long.0, short.0))
one-source source r q (inr d) (inr e) = one-bytes source r q d.1 e.1

-- ---- the end

goes-on : (bytes : ℕ) (k : TokenKind) (at : ℕ) (r : Answer) → (k ≡ kind.End → ⊥) → IfOk r (EndsOnce bytes) → IfOk (with_token k at r) (EndsOnce bytes)
goes-on bytes k at (Ok []) other e = absurd e
goes-on bytes k at (Ok (t ∷ ts)) other e = (other, e)
goes-on bytes k at (Err f) other e = tt

ends-once : (bytes : ℕ) (prefix : Bool) (cs : List ℕ) (r : Answer) → Reads bytes prefix cs r → IfOk r (EndsOnce bytes)
ends-once _ _ _ _ (at_end bytes prefix) = refl
ends-once _ _ _ _ (faulty bytes prefix cs f is) = tt
ends-once _ _ _ _ (between bytes prefix w rest r is d) = ends-once bytes prefix rest r d
ends-once _ _ _ _ (token bytes prefix w k rest r is ends d) =
    goes-on bytes k _ r (λ e. let never : Spells prefix w kind.End = subst (Spells prefix w) e is in never) (ends-once bytes _ rest r d)

bytes-end : (source : List ℕ) (r : Answer) → ReadsBytes source r → IfOk r (EndsOnce (length source))
bytes-end _ _ (bad_utf8 source at bad) = tt
bytes-end _ _ (text source r utf8 d) = ends-once (length source) _ (chars source) r d

-- ---- what a function returned

unless-more : (given : Answer) (P Q : Answer → Type 0) → ((r : Answer) → P r → Q r) → UnlessMemory given P → UnlessMemory given Q
unless-more (Ok ts) P Q more p = more (Ok ts) p
unless-more (Err fault.Memory) P Q more p = tt
unless-more (Err fault.SourceTooLong) P Q more p = more (Err fault.SourceTooLong) p
unless-more (Err (fault.BadUtf8 at)) P Q more p = more (Err (fault.BadUtf8 at)) p
unless-more (Err (fault.BadCharacter at)) P Q more p = more (Err (fault.BadCharacter at)) p
unless-more (Err (fault.NumberTooLarge at)) P Q more p = more (Err (fault.NumberTooLarge at)) p
unless-more (Err (fault.OpenString at)) P Q more p = more (Err (fault.OpenString at)) p
unless-more (Err (fault.OpenComment at)) P Q more p = more (Err (fault.OpenComment at)) p

unless-ok : (given : Answer) (P : List Token → Type 0) → UnlessMemory given (λ r. IfOk r P) → IfOk given P
unless-ok (Ok ts) P p = p
unless-ok (Err f) P p = tt

pub text-reads : (source given_text : List ℕ) (given : Answer) → given_text ≡ source → IsUtf8 source → UnlessMemory given (Reads (length given_text) true (chars given_text)) → UnlessMemory given (ReadsBytes source)
text-reads source given_text given same utf8 p =
    unless-more given _ (ReadsBytes source) (λ r d. text source r utf8 (subst (λ t. Reads (length t) true (chars t) r) same d)) p

pub bytes-only : (source : List ℕ) (given : Answer) → UnlessMemory given (ReadsBytes source) → IsOnly given (ReadsBytes source)
bytes-only source given p = λ r d. unless-more given (ReadsBytes source) (λ q. q ≡ r) (λ q e. one-bytes source q r e d) p

pub source-only : (source : List ℕ) (given : Answer) → length source ≤ 1048576 → UnlessMemory given (ReadsBytes source) → IsOnly given (ReadsSource source)
source-only source given short p = λ r d. unless-more given (ReadsBytes source) (λ q. q ≡ r) (λ q e. one-source source q r (inr (short, e)) d) p

pub given-end : (source : List ℕ) (given : Answer) → UnlessMemory given (ReadsBytes source) → IfOk given (EndsOnce (length source))
given-end source given p = unless-ok given (EndsOnce (length source)) (unless-more given (ReadsBytes source) (λ r. IfOk r (EndsOnce (length source))) (λ r d. bytes-end source r d) p)
