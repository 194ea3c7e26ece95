-- Texts in which each bracket and each block that begins also ends, and what such a text does to what stands around it.
use Rattle.std.proofs.Common.{◌≡◌, ◌⊎◌, inl, inr, Bool, true, false, not, cond, List, [], ◌∷◌, ◌++◌, refl, sym, ap, ◌∙◌, subst, append_assoc}
use Rattle.std.proofs.lemmas.List.{map-append, append-nil}
use Rattle.jl_token.specs.declared.token.Operator.{Operator}
use Rattle.jl_token.specs.declared.token.Operator.TheVariants as o
use Rattle.jl_typeread.specs.declared.terminal.Lexeme.{Lexeme}
use Rattle.jl_typeread.specs.declared.terminal.Terminal.{Terminal}
use Rattle.jl_typeread.specs.declared.terminal.Terminal.TheVariants as S
use Rattle.jl_typeread.specs.declared.terminal.Word.{Word}
use Rattle.jl_typeread.specs.declared.terminal.Word.TheVariants as w
use Rattle.jl_grammar.specs.declared.mark.Around.{Around}
use Rattle.jl_grammar.specs.declared.mark.Around.TheVariants as N
use Rattle.jl_grammar.specs.declared.mark.Marked.{Marked}
use Rattle.jl_grammar.specs.declared.mark.Mate.TheVariants.{Neither}
use Rattle.jl_grammar.specs.declared.mark.Previous.{Previous}
use Rattle.jl_grammar.specs.declared.mark.Previous.TheVariants.{Joins, Other}
use Rattle.jl_grammar.specs.declared.mark.Shape.{Shape}
use Rattle.jl_grammar.specs.declared.mark.Shape.TheVariants.{Round, Square, Curly}
use Rattle.jl_grammar.specs.Marks.{mate, step_bracket, rest_after, terminals}
use Rattle.jl_grammar.specs.Newlines.{around_after}
use Rattle.jl_grammar.specs.Newlines as L
use Rattle.jl_grammar.specs.Texts.{Text, lexemes}

-- ---- which tokens begin and end what

-- the token is no newline, neither begins nor ends a bracket or a block, and some rule has it
abbrev neutral_operator : Operator → Bool
neutral_operator o.OpenParen = false
neutral_operator o.OpenBracket = false
neutral_operator o.OpenBrace = false
neutral_operator o.CloseParen = false
neutral_operator o.CloseBracket = false
neutral_operator o.CloseBrace = false
neutral_operator x = true

abbrev neutral_word : Word → Bool
neutral_word w.Function = false
neutral_word w.Struct = false
neutral_word w.If = false
neutral_word w.Begin = false
neutral_word w.Quote = false
neutral_word w.End = false
neutral_word w.Unruled = false
neutral_word x = true

abbrev pub is_neutral : Terminal → Bool
is_neutral (S.Operator x) = neutral_operator x
is_neutral (S.Word x) = neutral_word x
is_neutral S.Newline = false
is_neutral S.End = false
is_neutral s = true

-- the second token ends what the first begins
pub data Pairs : Terminal → Terminal → Type 0 where
  round : Pairs (S.Operator o.OpenParen) (S.Operator o.CloseParen)
  square : Pairs (S.Operator o.OpenBracket) (S.Operator o.CloseBracket)
  curly : Pairs (S.Operator o.OpenBrace) (S.Operator o.CloseBrace)
  function : Pairs (S.Word w.Function) (S.Word w.End)
  struct : Pairs (S.Word w.Struct) (S.Word w.End)
  test : Pairs (S.Word w.If) (S.Word w.End)
  begin : Pairs (S.Word w.Begin) (S.Word w.End)
  quote : Pairs (S.Word w.Quote) (S.Word w.End)

-- a newline behind the token is not passed over for what stands before it
abbrev settles_word : Word → Bool
settles_word w.Isa = false
settles_word x = true

abbrev settles_operator : Operator → Bool
settles_operator o.CloseParen = true
settles_operator o.CloseBracket = true
settles_operator o.CloseBrace = true
settles_operator x = false

abbrev pub settles : Terminal → Bool
settles (S.Operator x) = settles_operator x
settles (S.Word x) = settles_word x
settles (S.Name n) = true
settles (S.Number n) = true
settles (S.Text t) = true
settles s = false

-- ---- texts

-- the last token settles what stands before a newline
pub data IsSettled : List Lexeme → Type 0 where
  last : (l : Lexeme) → settles l.terminal ≡ true → IsSettled (l ∷ [])
  more : (l : Lexeme) (ls : List Lexeme) → IsSettled ls → IsSettled (l ∷ ls)

-- the token stands between the forms of a block
pub data IsApart : Terminal → Type 0 where
  newline : IsApart S.Newline
  semicolon : IsApart (S.Operator o.Semicolon)
  next_test : IsApart (S.Word w.Elseif)
  no_test : IsApart (S.Word w.Else)

-- the token is a word
abbrev pub is_word : Terminal → Bool
is_word (S.Word x) = true
is_word s = false

mutual
  -- each bracket and each block that begins in these tokens ends in them, and none other; newlines stand only in blocks
  pub data IsWhole : List Lexeme → Type 0 where
    none : IsWhole []
    one : (l : Lexeme) → is_neutral l.terminal ≡ true → IsWhole (l ∷ [])
    two : (a b : List Lexeme) → IsWhole a → IsWhole b → IsWhole (a ++ b)
    within : (l m : Lexeme) (ls : List Lexeme) → Pairs l.terminal m.terminal → IsWhole ls → IsWhole (l ∷ ls ++ m ∷ [])
    block : (l m : Lexeme) (ls : List Lexeme) → Pairs l.terminal m.terminal → is_word l.terminal ≡ true → IsRows ls → IsWhole (l ∷ ls ++ m ∷ [])

  -- such tokens one after another, and what stands between the forms of a block
  pub data IsRows : List Lexeme → Type 0 where
    empty : IsRows []
    apart : (ls : List Lexeme) (l : Lexeme) → IsRows ls → IsApart l.terminal → IsRows (ls ++ l ∷ [])
    form : (ls a : List Lexeme) → IsRows ls → IsWhole a → IsSettled a → IsRows (ls ++ a)

pub rows_two : (a b : List Lexeme) → IsRows a → IsRows b → IsRows (a ++ b)
rows_two a _ d empty = subst IsRows (sym (append-nil a)) d
rows_two a _ d (apart ls l e p) = subst IsRows (append_assoc a ls (l ∷ [])) (apart (a ++ ls) l (rows_two a ls d e) p)
rows_two a _ d (form ls b e f g) = subst IsRows (append_assoc a ls b) (form (a ++ ls) b (rows_two a ls d e) f g)

pub settled-behind : (a b : List Lexeme) → IsSettled b → IsSettled (a ++ b)
settled-behind [] b is = is
settled-behind (l ∷ a) b is = more l (a ++ b) (settled-behind a b is)

abbrev pub Closed : List Lexeme → Type 0
Closed ls = IsWhole ls × IsSettled ls

-- ---- what such texts do to the brackets that are open

pub neutral_mate : (s : Terminal) → is_neutral s ≡ true → mate s ≡ Neither
neutral_mate (S.Operator o.OpenParen) e = absurd cc
neutral_mate (S.Operator o.OpenBracket) e = absurd cc
neutral_mate (S.Operator o.OpenBrace) e = absurd cc
neutral_mate (S.Operator o.CloseParen) e = absurd cc
neutral_mate (S.Operator o.CloseBracket) e = absurd cc
neutral_mate (S.Operator o.CloseBrace) e = absurd cc
neutral_mate s e = refl

-- the tokens leave the brackets as they are
abbrev pub Skipped : List Terminal → Type 0
Skipped ss = (c : Shape) (cs : List Shape) (rest : List Terminal) → rest_after (ss ++ rest) (c ∷ cs) ≡ rest_after rest (c ∷ cs)

pub pair_skipped : (s t : Terminal) (ss : List Terminal) → Pairs s t → Skipped ss → Skipped (s ∷ ss ++ t ∷ [])
pair_skipped _ _ ss round h = λ c cs rest. ap (λ l. rest_after l (Round ∷ c ∷ cs)) (append_assoc ss (S.Operator o.CloseParen ∷ []) rest) ∙ h Round (c ∷ cs) (S.Operator o.CloseParen ∷ rest)
pair_skipped _ _ ss square h = λ c cs rest. ap (λ l. rest_after l (Square ∷ c ∷ cs)) (append_assoc ss (S.Operator o.CloseBracket ∷ []) rest) ∙ h Square (c ∷ cs) (S.Operator o.CloseBracket ∷ rest)
pair_skipped _ _ ss curly h = λ c cs rest. ap (λ l. rest_after l (Curly ∷ c ∷ cs)) (append_assoc ss (S.Operator o.CloseBrace ∷ []) rest) ∙ h Curly (c ∷ cs) (S.Operator o.CloseBrace ∷ rest)
pair_skipped _ _ ss function h = λ c cs rest. ap (λ l. rest_after l (c ∷ cs)) (append_assoc ss (S.Word w.End ∷ []) rest) ∙ h c cs (S.Word w.End ∷ rest)
pair_skipped _ _ ss struct h = λ c cs rest. ap (λ l. rest_after l (c ∷ cs)) (append_assoc ss (S.Word w.End ∷ []) rest) ∙ h c cs (S.Word w.End ∷ rest)
pair_skipped _ _ ss test h = λ c cs rest. ap (λ l. rest_after l (c ∷ cs)) (append_assoc ss (S.Word w.End ∷ []) rest) ∙ h c cs (S.Word w.End ∷ rest)
pair_skipped _ _ ss begin h = λ c cs rest. ap (λ l. rest_after l (c ∷ cs)) (append_assoc ss (S.Word w.End ∷ []) rest) ∙ h c cs (S.Word w.End ∷ rest)
pair_skipped _ _ ss quote h = λ c cs rest. ap (λ l. rest_after l (c ∷ cs)) (append_assoc ss (S.Word w.End ∷ []) rest) ∙ h c cs (S.Word w.End ∷ rest)

pub two_skipped : (a b : List Terminal) → Skipped a → Skipped b → Skipped (a ++ b)
two_skipped a b f g = λ c cs rest. ap (λ l. rest_after l (c ∷ cs)) (append_assoc a b rest) ∙ f c cs (b ++ rest) ∙ g c cs rest

apart-skipped : (s : Terminal) → IsApart s → Skipped (s ∷ [])
apart-skipped _ newline = λ c cs rest. refl
apart-skipped _ semicolon = λ c cs rest. refl
apart-skipped _ next_test = λ c cs rest. refl
apart-skipped _ no_test = λ c cs rest. refl

mutual
  pub whole_skipped : (ls : List Lexeme) → IsWhole ls → Skipped (terminals ls)
  whole_skipped _ none = λ c cs rest. refl
  whole_skipped _ (one l e) = λ c cs rest. ap (λ m. step_bracket m (rest_after rest) c cs) (neutral_mate l.terminal e)
  whole_skipped _ (two a b d e) = subst Skipped (sym (map-append _ a b)) (two_skipped (terminals a) (terminals b) (whole_skipped a d) (whole_skipped b e))
  whole_skipped _ (within l m ls p d) = subst (λ x. Skipped (l.terminal ∷ x)) (sym (map-append _ ls (m ∷ []))) (pair_skipped l.terminal m.terminal (terminals ls) p (whole_skipped ls d))
  whole_skipped _ (block l m ls p n d) = subst (λ x. Skipped (l.terminal ∷ x)) (sym (map-append _ ls (m ∷ []))) (pair_skipped l.terminal m.terminal (terminals ls) p (rows_skipped ls d))

  pub rows_skipped : (ls : List Lexeme) → IsRows ls → Skipped (terminals ls)
  rows_skipped _ empty = λ c cs rest. refl
  rows_skipped _ (apart ls l d p) = subst Skipped (sym (map-append _ ls (l ∷ []))) (two_skipped (terminals ls) (l.terminal ∷ []) (rows_skipped ls d) (apart-skipped l.terminal p))
  rows_skipped _ (form ls a d e s) = subst Skipped (sym (map-append _ ls a)) (two_skipped (terminals ls) (terminals a) (rows_skipped ls d) (whole_skipped a e))

-- ---- what they do to the forms that are open around a newline

abbrev pub all_inside : List Around → List Terminal → List Around
all_inside ns [] = ns
all_inside ns (s ∷ ss) = all_inside (around_after s ns) ss

pub all-inside-append : (ns : List Around) (a b : List Terminal) → all_inside ns (a ++ b) ≡ all_inside (all_inside ns a) b
all-inside-append ns [] b = refl
all-inside-append ns (s ∷ a) b = all-inside-append (around_after s ns) a b

neutral-around_after : (s : Terminal) (ns : List Around) → is_neutral s ≡ true → around_after s ns ≡ ns
neutral-around_after (S.Operator o.OpenParen) ns e = absurd cc
neutral-around_after (S.Operator o.OpenBracket) ns e = absurd cc
neutral-around_after (S.Operator o.OpenBrace) ns e = absurd cc
neutral-around_after (S.Operator o.CloseParen) ns e = absurd cc
neutral-around_after (S.Operator o.CloseBracket) ns e = absurd cc
neutral-around_after (S.Operator o.CloseBrace) ns e = absurd cc
neutral-around_after (S.Word w.Function) ns e = absurd cc
neutral-around_after (S.Word w.Struct) ns e = absurd cc
neutral-around_after (S.Word w.If) ns e = absurd cc
neutral-around_after (S.Word w.Begin) ns e = absurd cc
neutral-around_after (S.Word w.Quote) ns e = absurd cc
neutral-around_after (S.Word w.End) ns e = absurd cc
neutral-around_after s ns e = refl

-- the tokens leave the open forms as they are
abbrev pub Kept : List Terminal → Type 0
Kept ss = (ns : List Around) → all_inside ns ss ≡ ns

module _ (ss : List Terminal) (h : Kept ss) (ns : List Around) (n : Around) where
  ended : (t : Terminal) → around_after t (n ∷ ns) ≡ ns → all_inside (n ∷ ns) (ss ++ t ∷ []) ≡ ns
  ended t e = all-inside-append (n ∷ ns) ss (t ∷ []) ∙ ap (around_after t) (h (n ∷ ns)) ∙ e

pair-kept : (s t : Terminal) (ss : List Terminal) → Pairs s t → Kept ss → Kept (s ∷ ss ++ t ∷ [])
pair-kept _ _ ss round h = λ ns. ended ss h ns N.Bracket (S.Operator o.CloseParen) refl
pair-kept _ _ ss square h = λ ns. ended ss h ns N.Bracket (S.Operator o.CloseBracket) refl
pair-kept _ _ ss curly h = λ ns. ended ss h ns N.Bracket (S.Operator o.CloseBrace) refl
pair-kept _ _ ss function h = λ ns. ended ss h ns N.Block (S.Word w.End) refl
pair-kept _ _ ss struct h = λ ns. ended ss h ns N.Block (S.Word w.End) refl
pair-kept _ _ ss test h = λ ns. ended ss h ns N.Block (S.Word w.End) refl
pair-kept _ _ ss begin h = λ ns. ended ss h ns N.Block (S.Word w.End) refl
pair-kept _ _ ss quote h = λ ns. ended ss h ns N.Block (S.Word w.End) refl

two-kept : (a b : List Terminal) → Kept a → Kept b → Kept (a ++ b)
two-kept a b f g = λ ns. all-inside-append ns a b ∙ ap (λ m. all_inside m b) (f ns) ∙ g ns

pub apart_kept : (s : Terminal) → IsApart s → Kept (s ∷ [])
apart_kept _ newline = λ ns. refl
apart_kept _ semicolon = λ ns. refl
apart_kept _ next_test = λ ns. refl
apart_kept _ no_test = λ ns. refl

mutual
  pub whole_kept : (ls : List Lexeme) → IsWhole ls → Kept (terminals ls)
  whole_kept _ none = λ ns. refl
  whole_kept _ (one l e) = λ ns. neutral-around_after l.terminal ns e
  whole_kept _ (two a b d e) = subst Kept (sym (map-append _ a b)) (two-kept (terminals a) (terminals b) (whole_kept a d) (whole_kept b e))
  whole_kept _ (within l m ls p d) = subst (λ x. Kept (l.terminal ∷ x)) (sym (map-append _ ls (m ∷ []))) (pair-kept l.terminal m.terminal (terminals ls) p (whole_kept ls d))
  whole_kept _ (block l m ls p n d) = subst (λ x. Kept (l.terminal ∷ x)) (sym (map-append _ ls (m ∷ []))) (pair-kept l.terminal m.terminal (terminals ls) p (rows_kept ls d))

  pub rows_kept : (ls : List Lexeme) → IsRows ls → Kept (terminals ls)
  rows_kept _ empty = λ ns. refl
  rows_kept _ (apart ls l d p) = subst Kept (sym (map-append _ ls (l ∷ []))) (two-kept (terminals ls) (l.terminal ∷ []) (rows_kept ls d) (apart_kept l.terminal p))
  rows_kept _ (form ls a d e s) = subst Kept (sym (map-append _ ls a)) (two-kept (terminals ls) (terminals a) (rows_kept ls d) (whole_kept a e))

-- ---- what stands before a newline behind them

abbrev pub all_behind : List Around → Previous → List Terminal → Previous
all_behind ns p [] = p
all_behind ns p (s ∷ ss) = all_behind (around_after s ns) (L.previous_after s ns p) ss

abbrev pub joins : Previous → Bool
joins Joins = true
joins p = false

settles-previous_after : (s : Terminal) (ns : List Around) (p : Previous) → settles s ≡ true → joins (L.previous_after s ns p) ≡ false
settles-previous_after (S.Operator o.CloseParen) ns p e = refl
settles-previous_after (S.Operator o.CloseBracket) ns p e = refl
settles-previous_after (S.Operator o.CloseBrace) ns p e = refl
settles-previous_after (S.Operator x) ns p e = absurd cc
settles-previous_after (S.Word w.Isa) ns p e = absurd cc
settles-previous_after (S.Word x) ns p e = refl
settles-previous_after (S.Name n) ns p e = refl
settles-previous_after (S.Number n) ns p e = refl
settles-previous_after (S.Text t) ns p e = refl
settles-previous_after (S.Macro n) ns p e = absurd cc
settles-previous_after S.Newline ns p e = absurd cc
settles-previous_after S.End ns p e = absurd cc

pub settled_behind : (ls : List Lexeme) → IsSettled ls → (ns : List Around) (p : Previous) → joins (all_behind ns p (terminals ls)) ≡ false
settled_behind _ (last l e) ns p = settles-previous_after l.terminal ns p e
settled_behind _ (more l ls d) ns p = settled_behind ls d (around_after l.terminal ns) (L.previous_after l.terminal ns p)

-- ---- each newline is a token

-- where these forms are open, behind this
abbrev pub Shown : List Around → Previous → List Terminal → Type 0
Shown ns p [] = Unit {0}
Shown ns p (s ∷ ss) = (L.is_shown s ns p ≡ true) × Shown (around_after s ns) (L.previous_after s ns p) ss

pub all_behind_append : (ns : List Around) (p : Previous) (a b : List Terminal) → all_behind ns p (a ++ b) ≡ all_behind (all_inside ns a) (all_behind ns p a) b
all_behind_append ns p [] b = refl
all_behind_append ns p (s ∷ a) b = all_behind_append (around_after s ns) (L.previous_after s ns p) a b

pub shown_two : (ns : List Around) (p : Previous) (a b : List Terminal) → Shown ns p a → Shown (all_inside ns a) (all_behind ns p a) b → Shown ns p (a ++ b)
shown_two ns p [] b d e = e
shown_two ns p (s ∷ a) b d e = (d.0, shown_two (around_after s ns) (L.previous_after s ns p) a b d.1 e)

neutral-shown : (s : Terminal) (ns : List Around) (p : Previous) → is_neutral s ≡ true → L.is_shown s ns p ≡ true
neutral-shown S.Newline ns p e = absurd cc
neutral-shown s ns p e = refl

pair-shown : (s t : Terminal) (ns : List Around) (p : Previous) → Pairs s t → (L.is_shown s ns p ≡ true) × (L.is_shown t ns p ≡ true)
pair-shown _ _ ns p round = (refl, refl)
pair-shown _ _ ns p square = (refl, refl)
pair-shown _ _ ns p curly = (refl, refl)
pair-shown _ _ ns p function = (refl, refl)
pair-shown _ _ ns p struct = (refl, refl)
pair-shown _ _ ns p test = (refl, refl)
pair-shown _ _ ns p begin = (refl, refl)
pair-shown _ _ ns p quote = (refl, refl)

-- in a block, or in nothing, and behind no token that a newline is passed over for
abbrev pub Opens : List Around → Previous → Type 0
Opens ns p = (L.in_bracket ns ≡ false) × (joins p ≡ false)

block-opens : (s t : Terminal) (ns : List Around) (p : Previous) → Pairs s t → is_word s ≡ true → Opens (around_after s ns) (L.previous_after s ns p)
block-opens _ _ ns p round e = absurd cc
block-opens _ _ ns p square e = absurd cc
block-opens _ _ ns p curly e = absurd cc
block-opens _ _ ns p function e = (refl, refl)
block-opens _ _ ns p struct e = (refl, refl)
block-opens _ _ ns p test e = (refl, refl)
block-opens _ _ ns p begin e = (refl, refl)
block-opens _ _ ns p quote e = (refl, refl)

opens-kept : (ns : List Around) (p : Previous) → Opens ns p → L.is_dropped ns p ≡ false
opens-kept ns Joins e = absurd (never e.1)
  where
    never : true ≡ false → ⊥
    never e = absurd cc
opens-kept ns p e = e.0

-- a separator is a token there, and behind it a newline is one
pub apart_shown : (s : Terminal) (ns : List Around) (p : Previous) → IsApart s → Opens ns p → (L.is_shown s ns p ≡ true) × (joins (L.previous_after s ns p) ≡ false)
apart_shown _ ns p newline e = (ap not (opens-kept ns p e), ap (λ b. joins (cond b p Other)) (opens-kept ns p e))
apart_shown _ ns p semicolon e = (refl, refl)
apart_shown _ ns p next_test e = (refl, refl)
apart_shown _ ns p no_test e = (refl, refl)

abbrev pub RowsShown : List Around → Previous → List Terminal → Type 0
RowsShown ns p ss = Shown ns p ss × (joins (all_behind ns p ss) ≡ false)

pub rows_shown_two : (ns : List Around) (p : Previous) (a b : List Terminal) → Kept a → RowsShown ns p a → RowsShown ns (all_behind ns p a) b → RowsShown ns p (a ++ b)
rows_shown_two ns p a b k d e = (
  shown_two ns p a b d.0 (subst (λ m. Shown m (all_behind ns p a) b) (sym (k ns)) e.0),
  ap joins (all_behind_append ns p a b) ∙ ap (λ m. joins (all_behind m (all_behind ns p a) b)) (k ns) ∙ e.1,
)

enclosed : (l m : Lexeme) (ls : List Lexeme) (ns : List Around) (p : Previous) → Pairs l.terminal m.terminal → Shown (around_after l.terminal ns) (L.previous_after l.terminal ns p) (terminals ls) → Shown ns p (terminals (l ∷ ls ++ m ∷ []))
enclosed l m ls ns p is d = (
  (pair-shown l.terminal m.terminal ns p is).0,
  subst (Shown (around_after l.terminal ns) (L.previous_after l.terminal ns p)) (sym (map-append _ ls (m ∷ [])))
      (shown_two (around_after l.terminal ns) (L.previous_after l.terminal ns p) (terminals ls) (m.terminal ∷ []) d ((pair-shown l.terminal m.terminal (all_inside (around_after l.terminal ns) (terminals ls)) (all_behind (around_after l.terminal ns) (L.previous_after l.terminal ns p) (terminals ls)) is).1, tt)),
)

mutual
  pub whole_shown : (ls : List Lexeme) → IsWhole ls → (ns : List Around) (p : Previous) → Shown ns p (terminals ls)
  whole_shown _ none ns p = tt
  whole_shown _ (one l e) ns p = (neutral-shown l.terminal ns p e, tt)
  whole_shown _ (two a b d e) ns p = subst (Shown ns p) (sym (map-append _ a b)) (shown_two ns p (terminals a) (terminals b) (whole_shown a d ns p) (whole_shown b e (all_inside ns (terminals a)) (all_behind ns p (terminals a))))
  whole_shown _ (within l m ls is d) ns p = enclosed l m ls ns p is (whole_shown ls d (around_after l.terminal ns) (L.previous_after l.terminal ns p))
  whole_shown _ (block l m ls is n d) ns p = enclosed l m ls ns p is (rows_shown ls d (around_after l.terminal ns) (L.previous_after l.terminal ns p) (block-opens l.terminal m.terminal ns p is n)).0

  pub rows_shown : (ls : List Lexeme) → IsRows ls → (ns : List Around) (p : Previous) → Opens ns p → RowsShown ns p (terminals ls)
  rows_shown _ empty ns p e = (tt, e.1)
  rows_shown _ (apart ls l d is) ns p e =
      let x = rows_shown ls d ns p e in
      let y = apart_shown l.terminal ns (all_behind ns p (terminals ls)) is (e.0, x.1) in
      subst (RowsShown ns p) (sym (map-append _ ls (l ∷ []))) (rows_shown_two ns p (terminals ls) (l.terminal ∷ []) (rows_kept ls d) x ((y.0, tt), y.1))
  rows_shown _ (form ls a d f s) ns p e =
      let x = rows_shown ls d ns p e in
      subst (RowsShown ns p) (sym (map-append _ ls a)) (rows_shown_two ns p (terminals ls) (terminals a) (rows_kept ls d) x (whole_shown a f ns (all_behind ns p (terminals ls)), settled_behind a s ns (all_behind ns p (terminals ls))))

-- ---- texts that are built of such texts

pub closed-one : (l : Lexeme) → is_neutral l.terminal ≡ true → settles l.terminal ≡ true → Closed (l ∷ [])
closed-one l n e = (one l n, last l e)

pub whole-cons : (l : Lexeme) (ls : List Lexeme) → is_neutral l.terminal ≡ true → IsWhole ls → IsWhole (l ∷ ls)
whole-cons l ls n d = two (l ∷ []) ls (one l n) d

pub closed-cons : (l : Lexeme) (ls : List Lexeme) → is_neutral l.terminal ≡ true → Closed ls → Closed (l ∷ ls)
closed-cons l ls n d = (whole-cons l ls n d.0, more l ls d.1)

pub closed-two : (a b : List Lexeme) → IsWhole a → Closed b → Closed (a ++ b)
closed-two a b d e = (two a b d e.0, settled-behind a b e.1)

pair-settles : (s t : Terminal) → Pairs s t → settles t ≡ true
pair-settles _ _ round = refl
pair-settles _ _ square = refl
pair-settles _ _ curly = refl
pair-settles _ _ function = refl
pair-settles _ _ struct = refl
pair-settles _ _ test = refl
pair-settles _ _ begin = refl
pair-settles _ _ quote = refl

pub closed-within : (l m : Lexeme) (ls : List Lexeme) → Pairs l.terminal m.terminal → IsWhole ls → Closed (l ∷ ls ++ m ∷ [])
closed-within l m ls p d = (within l m ls p d, settled-behind (l ∷ ls) (m ∷ []) (last m (pair-settles l.terminal m.terminal p)))

pub closed-block : (l m : Lexeme) (ls : List Lexeme) → Pairs l.terminal m.terminal → is_word l.terminal ≡ true → IsRows ls → Closed (l ∷ ls ++ m ∷ [])
closed-block l m ls p n d = (block l m ls p n d, settled-behind (l ∷ ls) (m ∷ []) (last m (pair-settles l.terminal m.terminal p)))

-- ---- the same over tokens with their marks

abbrev pub WholeText : Text → Type 0
WholeText ts = IsWhole (lexemes ts)

abbrev pub ClosedText : Text → Type 0
ClosedText ts = Closed (lexemes ts)

pub text-two : (a b : Text) → WholeText a → WholeText b → WholeText (a ++ b)
text-two a b d e = subst IsWhole (sym (map-append _ a b)) (two (lexemes a) (lexemes b) d e)

pub text-closed : (a b : Text) → WholeText a → ClosedText b → ClosedText (a ++ b)
text-closed a b d e = subst Closed (sym (map-append _ a b)) (closed-two (lexemes a) (lexemes b) d e)

pub text-within : (l m : Marked) (ts : Text) → Pairs l.lexeme.terminal m.lexeme.terminal → WholeText ts → ClosedText (l ∷ ts ++ m ∷ [])
text-within l m ts p d = subst (λ x. Closed (l.lexeme ∷ x)) (sym (map-append _ ts (m ∷ []))) (closed-within l.lexeme m.lexeme (lexemes ts) p d)

-- a text that may be empty behind one that is not
pub text-maybe : (a b : Text) → ClosedText a → (b ≡ []) ⊎ ClosedText b → ClosedText (a ++ b)
text-maybe a b d (inl e) = subst (λ x. ClosedText (a ++ x)) (sym e) (subst ClosedText (sym (append-nil a)) d)
text-maybe a b d (inr e) = text-closed a b d.0 e

pub text-moved : (a b : Text) → a ≡ b → ClosedText a → ClosedText b
text-moved a b e d = subst ClosedText e d

-- the text of a block
abbrev pub RowsText : Text → Type 0
RowsText ts = IsRows (lexemes ts)

pub text-block : (l m : Marked) (ts : Text) → Pairs l.lexeme.terminal m.lexeme.terminal → is_word l.lexeme.terminal ≡ true → RowsText ts → ClosedText (l ∷ ts ++ m ∷ [])
text-block l m ts p n d = subst (λ x. Closed (l.lexeme ∷ x)) (sym (map-append _ ts (m ∷ []))) (closed-block l.lexeme m.lexeme (lexemes ts) p n d)

pub text-rows : (a b : Text) → RowsText a → RowsText b → RowsText (a ++ b)
text-rows a b d e = subst IsRows (sym (map-append _ a b)) (rows_two (lexemes a) (lexemes b) d e)

pub text-apart : (t : Marked) → IsApart t.lexeme.terminal → RowsText (t ∷ [])
text-apart t is = apart [] t.lexeme empty is

pub text-form : (ts : Text) → ClosedText ts → RowsText ts
text-form ts d = form [] (lexemes ts) empty d.0 d.1
