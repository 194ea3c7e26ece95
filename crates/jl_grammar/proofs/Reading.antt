-- Readings of texts one after another; what a point reads as another does; types within a reading.
use Rattle.std.proofs.Common.{ℕ, Bool, true, List, [], ◌∷◌, ◌++◌, ◌≡◌, ◌⊎◌, inl, inr, Option, Some, None, refl, sym, ap, subst, ◌∙◌}
use Rattle.jl_token.specs.declared.token.Operator.TheVariants as o
use Rattle.jl_typeread.specs.declared.deep.Deep.{Deep}
use Rattle.jl_typeread.specs.declared.terminal.Lexeme.{Lexeme}
use Rattle.jl_typeread.specs.declared.terminal.Terminal.{Terminal}
use Rattle.jl_typeread.specs.declared.terminal.Terminal.TheVariants as S
use Rattle.jl_typeread.specs.declared.terminal.Word.TheVariants as w
use Rattle.jl_typeread.specs.declared.state.State.{State as TypeState}
use Rattle.jl_typeread.specs.declared.state.Turn.{Turn}
use Rattle.jl_typeread.specs.declared.state.Turn.TheVariants as T
use Rattle.jl_typeread.specs.declared.tree.TypeText.{TypeText}
use Rattle.jl_typeread.specs.declared.tree.VarText.{VarText}
use Rattle.jl_typeread.specs.Depth.{held_type}
use Rattle.jl_typeread.specs.Machine as Y
use Rattle.jl_typeread.proofs.Ends as YE
use Rattle.jl_grammar.specs.declared.mark.Marked.{Marked}
use Rattle.jl_grammar.specs.declared.mark.Marks.{Marks}
use Rattle.jl_grammar.specs.declared.state.Frame.{Frame}
use Rattle.jl_grammar.specs.declared.state.Goal.{Goal}
use Rattle.jl_grammar.specs.declared.state.ItemsRead.{ItemsRead}
use Rattle.jl_grammar.specs.declared.state.Lead.TheVariants as L
use Rattle.jl_grammar.specs.declared.state.Point.TheVariants as P
use Rattle.jl_grammar.specs.declared.state.State.{State}
use Rattle.jl_grammar.specs.Levels.{pending_after, no_pending}
use Rattle.jl_grammar.specs.Machine as MC
use Rattle.jl_grammar.specs.Machine.{step, step_by, step_all}
use Rattle.jl_grammar.specs.Texts.{Text, lexemes}
use Rattle.jl_grammar.specs.Turns.{at, type_start}
use Rattle.jl_grammar.specs.Types.{type_as_read, IsType}

-- ---- texts one after another

pub step_all_append : (ts us : Text) (s : Option State) → step_all (ts ++ us) s ≡ step_all us (step_all ts s)
step_all_append [] us s = refl
step_all_append (t ∷ ts) us s = step_all_append ts us (step t s)

-- up to a token, and on behind it
pub step_all_then : (ts : Text) (x : Marked) (us : Text) (s : Option State) → step_all (ts ++ x ∷ us) s ≡ step_all us (step_all (ts ++ x ∷ []) s)
step_all_then [] x us s = refl
step_all_then (t ∷ ts) x us s = step_all_then ts x us (step t s)

pub step_all_then_more : (ts : Text) (x : Marked) (us vs : Text) (s : Option State) → step_all ((ts ++ x ∷ us) ++ vs) s ≡ step_all (us ++ vs) (step_all (ts ++ x ∷ []) s)
step_all_then_more [] x us vs s = refl
step_all_then_more (t ∷ ts) x us vs s = step_all_then_more ts x us vs (step t s)

pub step_all_append_more : (ts us vs : Text) (s : Option State) → step_all ((ts ++ us) ++ vs) s ≡ step_all (us ++ vs) (step_all ts s)
step_all_append_more [] us vs s = refl
step_all_append_more (t ∷ ts) us vs s = step_all_append_more ts us vs (step t s)

pub none_step_all : (ts : Text) → step_all ts None ≡ None
none_step_all [] = refl
none_step_all (t ∷ ts) = none_step_all ts

abbrev IsNone : Option State → Type 0
IsNone None = Unit {0}
IsNone (Some s) = ⊥

pub none_is_some : (s : State) → None ≡ Some s → ⊥
none_is_some s e = subst IsNone e tt

-- ---- what a point reads as another does

-- whatever is read from the second state is read so from the first
abbrev pub Covers : Option State → Option State → Type 0
Covers s r = (us : Text) (t : Marked) (v : State) → step_all (us ++ t ∷ []) r ≡ Some v → step_all (us ++ t ∷ []) s ≡ Some v

pub covers_itself : (s : Option State) → Covers s s
covers_itself s us t v e = e

pub covers_on : (s r q : Option State) → Covers s r → Covers r q → Covers s q
covers_on s r q f g us t v e = f us t v (g us t v e)

-- the same state, or the second is none
abbrev pub Alike : Option State → Option State → Type 0
Alike s r = (s ≡ r) ⊎ (r ≡ None)

pub alike_step_all : (ts : Text) (s r : Option State) → Alike s r → (v : State) → step_all ts r ≡ Some v → step_all ts s ≡ Some v
alike_step_all ts s r (inl e) v h = ap (step_all ts) e ∙ h
alike_step_all ts s r (inr e) v h = absurd (none_is_some v (sym (none_step_all ts) ∙ ap (step_all ts) (sym e) ∙ h))

pub covers_from : (s r : Option State) → ((t : Marked) → Alike (step t s) (step t r)) → Covers s r
covers_from s r h [] t v e = alike_step_all [] (step t s) (step t r) (h t) v e
covers_from s r h (u ∷ us) t v e = alike_step_all (us ++ t ∷ []) (step u s) (step u r) (h u) v e

first_alike : (s : Terminal) (m : Marks) (a : ℕ) (r : Bool) (K : List Frame) (xs : ItemsRead) → Alike (step_by s m a (P.First r) K xs) (step_by s m a (P.Want (no_pending r)) K xs)
first_alike (S.Operator o.CloseParen) m a r K xs = inr refl
first_alike (S.Text n) m a r K xs = inr refl
first_alike s m a r K xs = inl refl

pub first_covers : (r : Bool) (K : List Frame) (xs : ItemsRead) → Covers (at (P.First r) K xs) (at (P.Want (no_pending r)) K xs)
first_covers r K xs = covers_from (at (P.First r) K xs) (at (P.Want (no_pending r)) K xs) (λ t. first_alike t.lexeme.terminal t.marks t.lexeme.at r K xs)

again_alike : (s : Terminal) (m : Marks) (a : ℕ) (r : Bool) (K : List Frame) (xs : ItemsRead) → Alike (step_by s m a (P.Again r) K xs) (step_by s m a (P.Want (no_pending r)) K xs)
again_alike (S.Operator o.CloseParen) m a r K xs = inr refl
again_alike s m a r K xs = inl refl

pub again_covers : (r : Bool) (K : List Frame) (xs : ItemsRead) → Covers (at (P.Again r) K xs) (at (P.Want (no_pending r)) K xs)
again_covers r K xs = covers_from (at (P.Again r) K xs) (at (P.Want (no_pending r)) K xs) (λ t. again_alike t.lexeme.terminal t.marks t.lexeme.at r K xs)

piece_alike : (s : Terminal) (m : Marks) (a : ℕ) (r : Bool) (K : List Frame) (xs : ItemsRead) → Alike (step_by s m a (P.Piece r) K xs) (step_by s m a (P.Want (no_pending r)) K xs)
piece_alike (S.Text n) m a r K xs = inr refl
piece_alike s m a r K xs = inl refl

pub piece_covers : (r : Bool) (K : List Frame) (xs : ItemsRead) → Covers (at (P.Piece r) K xs) (at (P.Want (no_pending r)) K xs)
piece_covers r K xs = covers_from (at (P.Piece r) K xs) (at (P.Want (no_pending r)) K xs) (λ t. piece_alike t.lexeme.terminal t.marks t.lexeme.at r K xs)

first_piece_alike : (s : Terminal) (m : Marks) (a : ℕ) (r : Bool) (K : List Frame) (xs : ItemsRead) → Alike (step_by s m a (P.First r) K xs) (step_by s m a (P.Piece r) K xs)
first_piece_alike (S.Operator o.CloseParen) m a r K xs = inr refl
first_piece_alike s m a r K xs = inl refl

pub first_piece_covers : (r : Bool) (K : List Frame) (xs : ItemsRead) → Covers (at (P.First r) K xs) (at (P.Piece r) K xs)
first_piece_covers r K xs = covers_from (at (P.First r) K xs) (at (P.Piece r) K xs) (λ t. first_piece_alike t.lexeme.terminal t.marks t.lexeme.at r K xs)

returned_alike : (s : Terminal) (m : Marks) (a b : ℕ) (K : List Frame) (xs : ItemsRead) → Alike (step_by s m a (P.Returned b) K xs) (step_by s m a (P.Want (pending_after (L.Return b) true)) K xs)
returned_alike S.Newline m a b K xs = inr refl
returned_alike (S.Operator o.Semicolon) m a b K xs = inr refl
returned_alike (S.Word w.End) m a b K xs = inr refl
returned_alike (S.Word w.Elseif) m a b K xs = inr refl
returned_alike (S.Word w.Else) m a b K xs = inr refl
returned_alike s m a b K xs = inl refl

pub returned_covers : (b : ℕ) (K : List Frame) (xs : ItemsRead) → Covers (at (P.Returned b) K xs) (at (P.Want (pending_after (L.Return b) true)) K xs)
returned_covers b K xs = covers_from (at (P.Returned b) K xs) (at (P.Want (pending_after (L.Return b) true)) K xs) (λ t. returned_alike t.lexeme.terminal t.marks t.lexeme.at b K xs)

-- ---- types and variables within a reading

-- a turn that is not wrong
abbrev pub IsRight : Turn → Type 0
IsRight T.Wrong = ⊥
IsRight t = Unit {0}

wrong_stays : (ls : List Lexeme) (l : Lexeme) → Y.step l (Y.step_all ls T.Wrong) ≡ T.Wrong
wrong_stays [] l = refl
wrong_stays (k ∷ ls) l = wrong_stays ls l

type_stays : (t : Deep TypeText) (ls : List Lexeme) (l : Lexeme) → Y.step l (Y.step_all ls (T.Type t)) ≡ T.Wrong
type_stays t [] l = refl
type_stays t (k ∷ ls) l = wrong_stays ls l

variables_stay : (vs : Deep (List VarText)) (ls : List Lexeme) (l : Lexeme) → Y.step l (Y.step_all ls (T.Variables vs)) ≡ T.Wrong
variables_stay vs [] l = refl
variables_stay vs (k ∷ ls) l = wrong_stays ls l

-- the points of a reading of types, and what a token makes of them
within_on : (q : TypeState → Option State) (f : Marked → Turn → Option State) → ((u : Marked) (y : TypeState) → f u (T.Goes y) ≡ q y) →
    (us : Text) (l u : Marked) (z : Turn) → IsRight z → (v : Turn) → ((y : TypeState) → Y.step l.lexeme (Y.step_all (lexemes us) (T.Goes y)) ≡ z → step_all (us ++ l ∷ []) (q y) ≡ f l z) →
    Y.step l.lexeme (Y.step_all (lexemes us) v) ≡ z → step_all (us ++ l ∷ []) (f u v) ≡ f l z
within_on q f on us l u z right (T.Goes y) again h = ap (step_all (us ++ l ∷ [])) (on u y) ∙ again y h
within_on q f on us l u z right (T.Type t) again h = absurd (subst IsRight (sym h ∙ type_stays t (lexemes us) l.lexeme) right)
within_on q f on us l u z right (T.Variables vs) again h = absurd (subst IsRight (sym h ∙ variables_stay vs (lexemes us) l.lexeme) right)
within_on q f on us l u z right T.Wrong again h = absurd (subst IsRight (sym h ∙ wrong_stays (lexemes us) l.lexeme) right)

pub within : (q : TypeState → Option State) (f : Marked → Turn → Option State) → ((u : Marked) (y : TypeState) → step u (q y) ≡ f u (Y.step_at u.lexeme.terminal u.lexeme.at y.point y.stack)) →
    ((u : Marked) (y : TypeState) → f u (T.Goes y) ≡ q y) → (us : Text) (l : Marked) (z : Turn) → IsRight z → (y : TypeState) →
    Y.step l.lexeme (Y.step_all (lexemes us) (T.Goes y)) ≡ z → step_all (us ++ l ∷ []) (q y) ≡ f l z
within q f by on [] l z right y h = by l y ∙ ap (f l) h
within q f by on (u ∷ us) l z right y h =
    ap (step_all (us ++ l ∷ [])) (by u y)
    ∙ within_on q f on us l u z right (Y.step_at u.lexeme.terminal u.lexeme.at y.point y.stack) (within q f by on us l z right) h

-- the first of some tokens, the others, and that there are none
abbrev pub head_of : List Lexeme → Lexeme → Lexeme
head_of [] l = l
head_of (k ∷ ks) l = k

abbrev pub tail_of : List Lexeme → List Lexeme
tail_of [] = []
tail_of (k ∷ ks) = ks

abbrev pub no_texts : List Lexeme → Type 0
no_texts [] = Unit {0}
no_texts (l ∷ ls) = ⊥

-- a type, and a token that is not of it
pub read_type : (t : TypeText) (us : Text) → IsType t us → (g : Goal) (K : List Frame) (xs : ItemsRead) (l : Marked) → Y.is_end_of_type l.lexeme.terminal ≡ true →
    step_all (us ++ l ∷ []) (at (P.Type g type_start) K xs) ≡ MC.token_after_type l.lexeme.terminal l.lexeme.at g (type_as_read t) K xs
read_type t us d g K xs l e = within (λ y. at (P.Type g y) K xs) (λ u v. MC.type_step v u.lexeme.terminal u.lexeme.at g K xs) (λ u y. refl) (λ u y. refl)
    us l (T.Type (held_type t)) tt type_start (YE.type_ends t (lexemes us) d l.lexeme e)
