-- One step of the loop over a source.
use Rattle.std.proofs.Common.{◌≡◌, ℕ, Bool, true, List, [], ◌∷◌, ◌++◌, Some, None, Ok, Err, refl, sym, ap, ◌∙◌, subst, append_assoc}
use Rattle.jl_token.specs.declared.token.Token.{Token}
use Rattle.jl_token.specs.declared.token.TokenKind.{TokenKind}
use Rattle.jl_token.specs.declared.token.TokenKind.TheVariants as kind
use Rattle.jl_token.specs.declared.token.TokenFault.{TokenFault}
use Rattle.jl_token.specs.declared.token.TokenFault.TheVariants as fault
use Rattle.jl_token.specs.Characters.{place}
use Rattle.jl_token.specs.Prefix.{is_prefix_after}
use Rattle.jl_token.specs.Grammar.{Reads, at_end, faulty, between, token, with_token, UnlessMemory}
use Rattle.jl_token.specs.Pieces.{piece, Fails}
use Rattle.jl_token.proofs.OneReading.{Answer}
use Rattle.jl_token.proofs.PieceSound.{IsPiece, piece-found}

-- the tokens so far before those of the rest, or the fault of the rest
abbrev pub with_tokens : List Token → Answer → Answer
with_tokens ts (Ok us) = Ok (ts ++ us)
with_tokens ts (Err f) = Err f

-- what the rest reads as is, behind the tokens so far, what the whole text reads as
abbrev pub SoFar : ℕ → List ℕ → List Token → Bool → List ℕ → Type 0
SoFar bytes whole found prefix rest = (r : Answer) → Reads bytes prefix rest r → Reads bytes true whole (with_tokens found r)

with_tokens-more : (found : List Token) (k : TokenKind) (at : ℕ) (r : Answer) → with_tokens found (with_token k at r) ≡ with_tokens (found ++ record { kind = k; at = at } ∷ []) r
with_tokens-more found k at (Ok us) = ap (λ l. Ok l) (sym (append_assoc found (record { kind = k; at = at } ∷ []) us))
with_tokens-more found k at (Err f) = refl

with_tokens-none : (r : Answer) → with_tokens [] r ≡ r
with_tokens-none (Ok us) = refl
with_tokens-none (Err f) = refl

pub begins : (bytes : ℕ) (whole : List ℕ) (found : List Token) → found ≡ [] → SoFar bytes whole found true whole
begins bytes whole found none r d = subst (Reads bytes true whole) (sym (ap (λ ts. with_tokens ts r) none ∙ with_tokens-none r)) d

-- behind a token
pub takes : (bytes : ℕ) (whole : List ℕ) (found more : List Token) (prefix now : Bool) (text rest : List ℕ) (k : TokenKind) (at : ℕ) → (text ≡ [] → ⊥)
    → piece bytes prefix text ≡ Ok (Some k, rest) → now ≡ is_prefix_after k → at ≡ place bytes text → more ≡ found ++ record { kind = k; at = at } ∷ []
    → SoFar bytes whole found prefix text → SoFar bytes whole more now rest
takes bytes whole found more prefix now [] rest k at full is behind here grown so_far = absurd (full refl)
takes bytes whole found more prefix now (c ∷ cs) rest k at full is behind here grown so_far = λ r d.
    let p = subst (IsPiece bytes prefix (c ∷ cs)) is (piece-found bytes prefix c cs) in
    let one : Reads bytes prefix (p.0 ++ rest) (with_token k (place bytes (p.0 ++ rest)) r) = token bytes prefix p.0 k rest r p.2 p.3 (subst (λ b. Reads bytes b rest r) behind d) in
    let here_too : Reads bytes prefix (c ∷ cs) (with_token k at r) =
    subst (λ n. Reads bytes prefix (c ∷ cs) (with_token k n r)) (sym here) (subst (λ t. Reads bytes prefix t (with_token k (place bytes t) r)) (sym p.1) one) in
    subst (Reads bytes true whole) (with_tokens-more found k at r ∙ ap (λ ts. with_tokens ts r) (sym grown)) (so_far (with_token k at r) here_too)

-- behind what stands between tokens
pub skips : (bytes : ℕ) (whole : List ℕ) (found : List Token) (prefix : Bool) (text rest : List ℕ) → (text ≡ [] → ⊥)
    → piece bytes prefix text ≡ Ok (None, rest) → SoFar bytes whole found prefix text → SoFar bytes whole found prefix rest
skips bytes whole found prefix [] rest full is so_far = absurd (full refl)
skips bytes whole found prefix (c ∷ cs) rest full is so_far = λ r d.
    let p = subst (IsPiece bytes prefix (c ∷ cs)) is (piece-found bytes prefix c cs) in
    so_far r (subst (λ t. Reads bytes prefix t r) (sym p.1) (between bytes prefix p.0 rest r p.2 d))

-- at a fault
stops-at : (bytes : ℕ) (whole : List ℕ) (found : List Token) (prefix : Bool) (text : List ℕ) (f : TokenFault) → (text ≡ [] → ⊥)
    → piece bytes prefix text ≡ Err f → SoFar bytes whole found prefix text → Reads bytes true whole (Err f)
stops-at bytes whole found prefix [] f full is so_far = absurd (full refl)
stops-at bytes whole found prefix (c ∷ cs) f full is so_far =
    so_far (Err f) (faulty bytes prefix (c ∷ cs) f (subst (IsPiece bytes prefix (c ∷ cs)) is (piece-found bytes prefix c cs)))

abbrev failed : TokenFault → Answer
failed f = Err f

pub stops : (bytes : ℕ) (whole : List ℕ) (found : List Token) (prefix : Bool) (text : List ℕ) (f : TokenFault) → (text ≡ [] → ⊥)
    → Fails f (piece bytes prefix text) → SoFar bytes whole found prefix text → UnlessMemory (failed f) (Reads bytes true whole)
stops bytes whole found prefix text fault.Memory full is so_far = tt
stops bytes whole found prefix text fault.SourceTooLong full is so_far = stops-at bytes whole found prefix text fault.SourceTooLong full is so_far
stops bytes whole found prefix text (fault.BadUtf8 at) full is so_far = stops-at bytes whole found prefix text (fault.BadUtf8 at) full is so_far
stops bytes whole found prefix text (fault.BadCharacter at) full is so_far = stops-at bytes whole found prefix text (fault.BadCharacter at) full is so_far
stops bytes whole found prefix text (fault.NumberTooLarge at) full is so_far = stops-at bytes whole found prefix text (fault.NumberTooLarge at) full is so_far
stops bytes whole found prefix text (fault.OpenString at) full is so_far = stops-at bytes whole found prefix text (fault.OpenString at) full is so_far
stops bytes whole found prefix text (fault.OpenComment at) full is so_far = stops-at bytes whole found prefix text (fault.OpenComment at) full is so_far

-- at the end
pub ends : (bytes : ℕ) (whole : List ℕ) (found more : List Token) (prefix : Bool) (text : List ℕ) (at : ℕ) → text ≡ [] → at ≡ bytes → more ≡ found ++ record { kind = kind.End; at = at } ∷ []
    → SoFar bytes whole found prefix text → Reads bytes true whole (Ok more)
ends bytes whole found more prefix text at none here grown so_far =
    let last : Reads bytes prefix text (Ok (record { kind = kind.End; at = bytes } ∷ [])) = subst (λ t. Reads bytes prefix t (Ok (record { kind = kind.End; at = bytes } ∷ []))) (sym none) (at_end bytes prefix) in
    let whole_is : found ++ record { kind = kind.End; at = bytes } ∷ [] ≡ more = ap (λ n. found ++ record { kind = kind.End; at = n } ∷ []) (sym here) ∙ sym grown in
    subst (λ ts. Reads bytes true whole (Ok ts)) whole_is (so_far _ last)
