-- A type that all tokens of a text but the last spell is the longest one at its front.
use Rattle.std.proofs.Common.{◌≡◌, ◌∙◌, ap, sym, refl, subst, arith, ℕ, ◌+◌, ◌≤◌, ◌<◌, ◌⊎◌, inl, inr, false, List, [], ◌∷◌, ◌++◌, length, take, slice_get, Option, Some, None, Result, Ok, Err}
use Rattle.std.proofs.lemmas.List.{length-map, length-append, take_more}
use Rattle.std.proofs.lemmas.Option.{slice_get_within, get_or_from_slice_get}
use Rattle.jl_model.specs.declared.ty.Decl.{Decl}
use Rattle.jl_model.specs.declared.ty.Ty.{Ty}
use Rattle.jl_token.specs.declared.token.Token.{Token}
use Rattle.jl_token.specs.declared.token.TokenFault.{TokenFault}
use Rattle.jl_token.specs.declared.token.TokenFault.TheVariants as F
use Rattle.jl_token.specs.Grammar.{ReadsBytes, IsOnly}
use Rattle.jl_typeread.specs.declared.fault.TypeFault.{TypeFault}
use Rattle.jl_typeread.specs.declared.fault.TypeFault.TheVariants as fault
use Rattle.jl_typeread.specs.declared.terminal.Lexeme.{Lexeme}
use Rattle.jl_typeread.specs.declared.tree.TypeText.{TypeText}
use Rattle.jl_typeread.specs.Depth.{type_depth, depth_limit}
use Rattle.jl_typeread.specs.Grammar.{IsType}
use Rattle.jl_typeread.specs.Lexemes.{lexeme_of, lexemes}
use Rattle.jl_typeread.specs.Reads as T
use Rattle.jl_typeread.specs.Reads.{drop_newlines, Spells, Begins, IsLongest, Reads}
use Rattle.jl_token.proofs.Whole.{one-bytes}
use Rattle.jl_typeread.proofs.Whole.{one_type}
use Rattle.jl_written.specs.declared.reading.Reading.{Reading}
use Rattle.jl_written.specs.declared.reading.TypeVar.{TypeVar}
use Rattle.jl_written.specs.Reads.{Typed, seen, no_reading, type_reads}
use Rattle.jl_reflect.specs.Asked.{IsWhole, IsText, IsPlain, Means, Finds}

-- a text before others, beside one before a last one
abbrev Beside : List Lexeme → Lexeme → List Lexeme → Type 0
Beside f a g = (f ≡ g) ⊎ ((k : List Lexeme) × ((f ++ a ∷ []) ++ k ≡ g))

one_on : (x y : Lexeme) (f g : List Lexeme) (a : Lexeme) → x ≡ y → Beside f a g → Beside (x ∷ f) a (y ∷ g)
one_on x y f g a h (inl p) = inl (ap (λ u. u ∷ f) h ∙ ap (λ u. y ∷ u) p)
one_on x y f g a h (inr q) = inr (q.0, ap (λ u. u ∷ ((f ++ a ∷ []) ++ q.0)) h ∙ ap (λ u. y ∷ u) q.1)

never_empty : (f : List Lexeme) (a : Lexeme) (r : List Lexeme) → f ++ a ∷ r ≡ [] → ⊥
never_empty [] a r e = cc
never_empty (x ∷ f) a r e = cc

beside : (f g : List Lexeme) (a b : Lexeme) (r : List Lexeme) → f ++ a ∷ r ≡ g ++ b ∷ [] → Beside f a g
beside [] [] a b r e = inl refl
beside [] (y ∷ g) a b r e = let same : a ≡ y = cc in inr (g, ap (λ u. u ∷ g) same)
beside (x ∷ f) [] a b r e = let rest : f ++ a ∷ r ≡ [] = cc in absurd (never_empty f a r rest)
beside (x ∷ f) (y ∷ g) a b r e = let same : x ≡ y = cc in let rest : f ++ a ∷ r ≡ g ++ b ∷ [] = cc in one_on x y f g a same (beside f g a b r rest)

-- the longest front is that of a type that the whole text is
same_front : (tokens : List Token) (f : List Lexeme) (a : Lexeme) (t : TypeText) → IsLongest (lexemes tokens) f a → (w : IsWhole tokens t) → f ≡ w.front
same_front tokens f a t l w = elim (beside f w.front a w.last l.rest (sym l.split ∙ w.split)) [
  | inl e ↦ e
  | inr q ↦ absurd (l.stops (t, q.0, subst (λ x. IsType t (drop_newlines 0 x)) (sym q.1) w.spelled))
]

spelled_by : (tokens : List Token) (f : List Lexeme) (a : Lexeme) (t : TypeText) → IsLongest (lexemes tokens) f a → IsWhole tokens t → Spells t f
spelled_by tokens f a t l w = subst (λ x. IsType t (drop_newlines 0 x)) (sym (same_front tokens f a t l w)) w.spelled

-- how many tokens there are
whole_length : (tokens : List Token) (t : TypeText) (w : IsWhole tokens t) → length tokens ≡ length w.front + 1
whole_length tokens t w = sym (length-map tokens lexeme_of) ∙ ap length w.split ∙ length-append w.front (w.last ∷ [])

-- what is read with a fault
pub fault_read : (ls : List Lexeme) (e f : TypeFault) → e ≡ f → T.UnlessMemory {A = TypeText × ℕ} (Err e) (Reads ls 0) → T.UnlessMemory {A = TypeText × ℕ} (Err f) (Reads ls 0)
fault_read ls e f h = subst (λ (z : TypeFault). T.UnlessMemory {A = TypeText × ℕ} (Err z) (Reads ls 0)) h

pub wrong_type : (tokens : List Token) (place : ℕ) → Reads (lexemes tokens) 0 (Err (fault.BadType place)) → (t : TypeText) → IsWhole tokens t → ⊥
wrong_type tokens place r t w = r.3 t (spelled_by tokens r.0 r.1 t r.2 w)

pub too_deep : (tokens : List Token) (next : ℕ) → Reads (lexemes tokens) 0 (Err (fault.TooDeep next)) → (t : TypeText) → IsWhole tokens t → ⊥
too_deep tokens next r t w =
    let same : t ≡ r.0 = one_type t r.0 (drop_newlines 0 r.1) (spelled_by tokens r.1 r.2 t r.3 w) r.4 w.shallow in
    let deep : depth_limit < type_depth t = subst (λ x. depth_limit < type_depth x) (sym same) r.5 in
    omega (arith, deep, w.shallow)

pub not_last : (tokens : List Token) (u : TypeText) (next : ℕ) → Reads (lexemes tokens) 0 (Ok (u, next)) → (next + 1 ≡ length tokens → ⊥) → (t : TypeText) → IsWhole tokens t → ⊥
not_last tokens u next r other t w =
    let front = same_front tokens r.0 r.1 t r.2 w in
    let many : length r.0 ≡ length w.front = ap length front in
    other (omega (arith, r.5, many, whole_length tokens t w))

-- a type behind which one token stands is the whole text
pub whole : (tokens : List Token) (u : TypeText) (next : ℕ) → Reads (lexemes tokens) 0 (Ok (u, next)) → next + 1 ≡ length tokens → IsWhole tokens u
whole tokens u next r e =
    let many : length tokens ≡ length r.0 + length (r.1 ∷ r.2.rest) = sym (length-map tokens lexeme_of) ∙ ap length r.2.split ∙ length-append r.0 (r.1 ∷ r.2.rest) in
    let one : length r.2.rest ≡ 0 = omega (arith, r.5, many, e) in
    record { front = r.0; last = r.1; split = r.2.split ∙ ap (λ x. r.0 ++ r.1 ∷ x) (empty r.2.rest one); spelled = r.3; shallow = r.4 }
  where
    empty : (xs : List Lexeme) → length xs ≡ 0 → xs ≡ []
    empty [] h = refl
    empty (x ∷ xs) h = absurd (omega (arith, h))

-- ---- the tokens of a text

-- it has one list of them
tokens_once : (text : List ℕ) (ts us : List Token) → IsOnly (Ok ts) (ReadsBytes text) → ReadsBytes text (Ok us) → us ≡ ts
tokens_once text ts us only r = let e : Ok ts ≡ Ok us = only (Ok us) r in cc

pub text_found : (text : List ℕ) → length text ≤ 67108864 → (ts : List Token) → ReadsBytes text (Ok ts) → IsOnly (Ok ts) (ReadsBytes text) → (o : Option TypeText) → Finds (IsWhole ts) o → Finds (IsText text) o
text_found text short ts read only None h = λ t i. h t (subst (λ x. IsWhole x t) (tokens_once text ts i.tokens only i.read) i.whole)
text_found text short ts read only (Some t) h = record { short = short; tokens = ts; read = read; whole = h }

-- a text with a fault has none
clash : (f : TokenFault) (ts : List Token) → ◌≡◌ {A = Result (List Token) TokenFault} (Err f) (Ok ts) → ⊥
clash f ts e = cc

pub no_tokens : (text : List ℕ) (f : TokenFault) → (f ≡ F.Memory → ⊥) → IsOnly (Err f) (ReadsBytes text) → (t : TypeText) → IsText text t → ⊥
no_tokens text F.Memory other only t i = other refl
no_tokens text F.SourceTooLong other only t i = clash F.SourceTooLong i.tokens (only (Ok i.tokens) i.read)
no_tokens text (F.BadUtf8 n) other only t i = clash (F.BadUtf8 n) i.tokens (only (Ok i.tokens) i.read)
no_tokens text (F.BadCharacter n) other only t i = clash (F.BadCharacter n) i.tokens (only (Ok i.tokens) i.read)
no_tokens text (F.NumberTooLarge n) other only t i = clash (F.NumberTooLarge n) i.tokens (only (Ok i.tokens) i.read)
no_tokens text (F.OpenString n) other only t i = clash (F.OpenString n) i.tokens (only (Ok i.tokens) i.read)
no_tokens text (F.OpenComment n) other only t i = clash (F.OpenComment n) i.tokens (only (Ok i.tokens) i.read)

-- ---- a text is one type alone

same_fronts : (f g : List Lexeme) (a b : Lexeme) → f ++ a ∷ [] ≡ g ++ b ∷ [] → f ≡ g
same_fronts f g a b e = elim (beside f g a b [] e) [
  | inl h ↦ h
  | inr q ↦
      let all : length f + 1 ≡ length g + 1 = sym (length-append f (a ∷ [])) ∙ ap length e ∙ length-append g (b ∷ []) in
      let more : length f + 1 + length q.0 ≡ length g = ap (λ n. n + length q.0) (sym (length-append f (a ∷ []))) ∙ sym (length-append (f ++ a ∷ []) q.0) ∙ ap length q.1 in
      absurd (omega (arith, all, more))
]

whole_once : (tokens : List Token) (t u : TypeText) → IsWhole tokens t → IsWhole tokens u → t ≡ u
whole_once tokens t u v w =
    let front : v.front ≡ w.front = same_fronts v.front w.front v.last w.last (sym v.split ∙ w.split) in
    one_type t u (drop_newlines 0 v.front) v.spelled (subst (λ x. IsType u (drop_newlines 0 x)) (sym front) w.spelled) v.shallow

pub text_once : (text : List ℕ) (t u : TypeText) → IsText text t → IsText text u → t ≡ u
text_once text t u i j =
    let same : ◌≡◌ {A = Result (List Token) TokenFault} (Ok i.tokens) (Ok j.tokens) = one-bytes text (Ok i.tokens) (Ok j.tokens) i.read j.read in
    let tokens : i.tokens ≡ j.tokens = cc in
    whole_once i.tokens t u i.whole (subst (λ x. IsWhole x u) (sym tokens) j.whole)

-- ---- the declarations of a table

pub taken_next : (all out new : List Decl) (x y : Decl) (i : ℕ) → new ≡ out ++ y ∷ [] → y ≡ x → slice_get all i ≡ Some x → out ≡ take i all → new ≡ take (i + 1) all
taken_next all out new x y i n e s h =
    n ∙ ap (λ z. z ++ y ∷ []) h ∙ ap (λ (z : Decl). take i all ++ z ∷ []) (e ∙ sym (get_or_from_slice_get all i x x s)) ∙ sym (take_more all i x (slice_get_within all i x s))

pub means_found : (ds es : List Decl) (text : TypeText) (first : List TypeVar) (start : Reading) (read : Typed) →
    read ≡ type_reads es text (seen first [] false) false start → es ≡ ds → first ≡ [] → start ≡ no_reading → (o : Option Ty) → Finds (IsPlain read) o → Finds (Means ds text) o
means_found ds es text first start read is e f s o =
    subst (λ r. Finds (IsPlain r) o)
    (is ∙ ap (λ z. type_reads z text (seen first [] false) false start) e ∙ ap (λ z. type_reads ds text (seen z [] false) false start) f ∙ ap (type_reads ds text (seen [] [] false) false) s)
