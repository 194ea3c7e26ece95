-- A text reads as one thing alone.
use Rattle.std.proofs.Common.{◌≡◌, ℕ, Bool, true, false, List, [], ◌∷◌, ◌++◌, Option, Some, None, is_some, Result, Ok, Err, refl, sym, ap, ◌∙◌, subst}
use Rattle.jl_token.specs.declared.token.Token.{Token}
use Rattle.jl_token.specs.declared.token.TokenKind.{TokenKind}
use Rattle.jl_token.specs.declared.token.TokenKind.TheVariants as kind
use Rattle.jl_token.specs.declared.token.TokenFault.{TokenFault}
use Rattle.jl_token.specs.Characters.{place}
use Rattle.jl_token.specs.Prefix.{is_prefix_after}
use Rattle.jl_token.specs.Grammar.{Spells, Numeral, Between, blank, line, block, FaultAt, large, large_negative, spoiled, spoiled_negative, wrong_escape, open_string, open_comment, stray, Reads, at_end, faulty, between, token, with_token}
use Rattle.jl_token.specs.Pieces.{Piece, piece}
use Rattle.jl_token.proofs.OperatorText.{operator_text, some-operator}
use Rattle.jl_token.proofs.PieceGoes.{token-goes, between-goes, fault-goes, numeral-first}

abbrev pub Answer : Type 0
Answer = Result (List Token) TokenFault

-- ---- an empty text has only its end

never-empty : (c : ℕ) (cs : List ℕ) → c ∷ cs ≡ [] → ⊥
never-empty c cs e = absurd cc

numeral-full : (w rest : List ℕ) (n : ℕ) → Numeral w n → w ++ rest ≡ [] → ⊥
numeral-full w rest n is e = let f = numeral-first w n is in never-empty f.0 (f.1 ++ rest) (ap (λ l. l ++ rest) (sym f.2) ∙ e)

between-full : (w rest : List ℕ) → Between w rest → w ++ rest ≡ [] → ⊥
between-full _ _ (blank c rest is) e = never-empty c rest e
between-full _ _ (line w rest all other stops) e = never-empty 35 (w ++ rest) e
between-full _ _ (block w rest c) e = never-empty 35 (61 ∷ w ++ rest) e

token-full : (prefix : Bool) (w : List ℕ) (k : TokenKind) (rest : List ℕ) → Spells prefix w k → w ++ rest ≡ [] → ⊥
token-full prefix (c ∷ w) k rest s e = never-empty c (w ++ rest) e
token-full prefix [] (kind.Identifier name) rest s e = s.0
token-full prefix [] (kind.Number value) rest s e = numeral-full [] [] s.0 s.1 refl
token-full prefix [] (kind.Negative value) rest s e = never-empty 45 s.0 (sym s.3)
token-full prefix [] (kind.Text meant) rest s e = never-empty 34 (s.0 ++ 34 ∷ []) (sym s.1)
token-full prefix [] (kind.Macro name) rest s e = never-empty 64 s.0 (sym s.1)
token-full prefix [] (kind.Operator o) rest s e =
    let none : false ≡ true = ap (λ l. is_some (operator_text (l ++ []))) s ∙ some-operator o [] in
    absurd cc
token-full prefix [] kind.Newline rest s e = never-empty 10 [] (sym s)
token-full prefix [] kind.End rest s e = s

fault-full : (bytes : ℕ) (prefix : Bool) (text : List ℕ) (f : TokenFault) → FaultAt bytes prefix text f → text ≡ [] → ⊥
fault-full _ _ _ _ (large bytes prefix w n rest is ends over) e = numeral-full w rest n is e
fault-full _ _ _ _ (large_negative bytes w n rest is ends over) e = never-empty 45 (w ++ rest) e
fault-full _ _ _ _ (spoiled bytes prefix w n rest is ends fits bad) e = numeral-full w rest n is e
fault-full _ _ _ _ (spoiled_negative bytes w n rest is ends fits bad) e = never-empty 45 (w ++ rest) e
fault-full _ _ _ _ (wrong_escape bytes prefix w meant rest q wrong ended) e = never-empty 34 (w ++ rest) e
fault-full _ _ _ _ (open_string bytes prefix body never) e = never-empty 34 body e
fault-full _ _ _ _ (open_comment bytes prefix body never) e = never-empty 35 (61 ∷ body) e
fault-full _ _ _ _ (stray bytes prefix c cs s) e = never-empty c cs e

abbrev only_end : ℕ → Answer
only_end bytes = Ok (record { kind = kind.End; at = bytes } ∷ [])

empty-reads : (bytes : ℕ) (prefix : Bool) (text : List ℕ) (r : Answer) → Reads bytes prefix text r → text ≡ [] → r ≡ only_end bytes
empty-reads _ _ _ _ (at_end bytes prefix) e = refl
empty-reads _ _ _ _ (faulty bytes prefix text f is) e = absurd (fault-full bytes prefix text f is e)
empty-reads _ _ _ _ (between bytes prefix w rest r is d) e = absurd (between-full w rest is e)
empty-reads _ _ _ _ (token bytes prefix w k rest r is ends d) e = absurd (token-full prefix w k rest is e)

-- ---- any other text goes on behind its first piece

abbrev GoesOn : ℕ → Bool → List ℕ → Answer → Option TokenKind → List ℕ → Type 0
GoesOn bytes prefix text r None rest = Reads bytes prefix rest r
GoesOn bytes prefix text r (Some k) rest = (s : Answer) × Reads bytes (is_prefix_after k) rest s × (r ≡ with_token k (place bytes text) s)

abbrev Goes : ℕ → Bool → List ℕ → Answer → Piece → Type 0
Goes bytes prefix text r (Err f) = r ≡ Err f
Goes bytes prefix text r (Ok found) = GoesOn bytes prefix text r found.0 found.1

goes : (bytes : ℕ) (prefix : Bool) (text : List ℕ) (r : Answer) → Reads bytes prefix text r → (text ≡ [] → ⊥) → Goes bytes prefix text r (piece bytes prefix text)
goes _ _ _ _ (at_end bytes prefix) full = absurd (full refl)
goes _ _ _ _ (faulty bytes prefix text f is) full = subst (Goes bytes prefix text (Err f)) (sym (fault-goes bytes prefix text f is)) refl
goes _ _ _ _ (between bytes prefix w rest r is d) full = subst (Goes bytes prefix (w ++ rest) r) (sym (between-goes bytes prefix w rest is)) d
goes _ _ _ _ (token bytes prefix w k rest r is ends d) full =
    subst (Goes bytes prefix (w ++ rest) (with_token k (place bytes (w ++ rest)) r)) (sym (token-goes bytes prefix w k rest is ends)) (r, d, refl)

-- two readings of a text are one
pub one-reading : (bytes : ℕ) (prefix : Bool) (text : List ℕ) (r q : Answer) → Reads bytes prefix text r → Reads bytes prefix text q → r ≡ q
one-reading _ _ _ _ q (at_end bytes prefix) other = sym (empty-reads bytes prefix [] q other refl)
one-reading _ _ _ _ q (faulty bytes prefix text f is) other =
    sym (subst (Goes bytes prefix text q) (fault-goes bytes prefix text f is) (goes bytes prefix text q other (fault-full bytes prefix text f is)))
one-reading _ _ _ _ q (between bytes prefix w rest r is d) other =
    one-reading bytes prefix rest r q d (subst (Goes bytes prefix (w ++ rest) q) (between-goes bytes prefix w rest is) (goes bytes prefix (w ++ rest) q other (between-full w rest is)))
one-reading _ _ _ _ q (token bytes prefix w k rest r is ends d) other =
    let more = subst (Goes bytes prefix (w ++ rest) q) (token-goes bytes prefix w k rest is ends) (goes bytes prefix (w ++ rest) q other (token-full prefix w k rest is)) in
    ap (with_token k (place bytes (w ++ rest))) (one-reading bytes (is_prefix_after k) rest r more.0 d more.1) ∙ sym more.2
