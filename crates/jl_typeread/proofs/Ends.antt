-- How a reading ends: what a whole type, or whole variables, are before a token that is not of them; and that the tokens of a
-- source end as a reading wants them to.
use Rattle.std.proofs.Common.{ℕ, List, [], ◌∷◌, ◌++◌, ◌≡◌, true, Some, refl, ap, ◌∙◌}
use Rattle.jl_token.specs.declared.token.Operator.TheVariants as op
use Rattle.jl_token.specs.declared.token.Token.{Token}
use Rattle.jl_token.specs.Grammar.{EndsOnce}
use Rattle.jl_typeread.specs.declared.terminal.Word.TheVariants as words
use Rattle.jl_typeread.specs.declared.terminal.Terminal.{Terminal}
use Rattle.jl_typeread.specs.declared.terminal.Terminal.TheVariants as S
use Rattle.jl_typeread.specs.declared.terminal.Lexeme.{Lexeme}
use Rattle.jl_typeread.specs.declared.tree.TypeText.{TypeText}
use Rattle.jl_typeread.specs.declared.tree.VarText.{VarText}
use Rattle.jl_typeread.specs.declared.deep.Deep.{Deep}
use Rattle.jl_typeread.specs.declared.state.TypeSoFar.{TypeSoFar}
use Rattle.jl_typeread.specs.declared.state.Bound.{Bound}
use Rattle.jl_typeread.specs.declared.state.Enclosure.TheVariants.{One}
use Rattle.jl_typeread.specs.declared.state.Frame.TheVariants as K
use Rattle.jl_typeread.specs.declared.state.Turn.TheVariants as turn
use Rattle.jl_typeread.specs.Depth.{held_type, held_variables, no_variables, with_variable}
use Rattle.jl_typeread.specs.Grammar.{mark, word, IsType, IsWhere, IsVariables}
use Rattle.jl_typeread.specs.Machine.{at, tree_of, variable, step, step_all, after_type, at_closed, type_start, where_start, header_start, is_end_of_type, is_end_of_variables}
use Rattle.jl_typeread.specs.Machine as M
use Rattle.jl_typeread.specs.Reads.{EndsAlone}
use Rattle.jl_typeread.proofs.Spelled.{read_type, read_where, read_variables, WhereRead, alone, braces, variables_close}

-- the tokens that `tokens` gives end as a reading wants them to
pub ends_alone : (bytes : ℕ) (ts : List Token) → EndsOnce bytes ts → EndsAlone ts
ends_alone bytes [] h = absurd h
ends_alone bytes (t ∷ []) h = ap (λ x. x.kind) h
ends_alone bytes (t ∷ u ∷ ts) h = (h.0, ends_alone bytes (u ∷ ts) h.1)

-- ---- a token that is not of a type or of variables

type_stops : (s : Terminal) (h : TypeSoFar) → is_end_of_type s ≡ true → after_type s h [] ≡ turn.Type (tree_of h)
type_stops (S.Operator op.OpenBrace) h e = cc
type_stops (S.Operator op.CloseBrace) h e = refl
type_stops (S.Operator op.Comma) h e = refl
type_stops (S.Operator op.CloseParen) h e = refl
type_stops (S.Operator op.Subtype) h e = refl
type_stops (S.Operator op.Supertype) h e = refl
type_stops (S.Word words.Where) h e = refl
type_stops s h e = refl

variables_stop : (s : Terminal) (b : Bound) (h : TypeSoFar) (v : Deep VarText) → is_end_of_variables s ≡ true → variable b h ≡ Some v → after_type s h (K.Variable b One ∷ []) ≡ turn.Variables (with_variable no_variables v)
variables_stop (S.Operator op.OpenBrace) b h v e is = cc
variables_stop (S.Operator op.CloseBrace) b h v e is = ap (λ x. M.close_enclosure x One []) is
variables_stop (S.Operator op.Comma) b h v e is = ap (λ x. M.next_in_enclosure x One []) is
variables_stop (S.Operator op.CloseParen) b h v e is = ap (λ x. M.close_where x []) is
variables_stop (S.Operator op.Subtype) b h v e is = cc
variables_stop (S.Operator op.Supertype) b h v e is = cc
variables_stop (S.Word words.Where) b h v e is = ap (λ x. M.end_of_variable x []) is
variables_stop s b h v e is = ap (λ x. M.end_of_variable x []) is

closed_stops : (s : Terminal) (vs : Deep (List VarText)) → at_closed s vs [] ≡ turn.Variables vs
closed_stops (S.Operator op.CloseParen) vs = refl
closed_stops s vs = refl

-- a type, and a token that is not of it
pub type_ends : (t : TypeText) (ts : List Lexeme) → IsType t ts → (l : Lexeme) → is_end_of_type l.terminal ≡ true → step l (step_all ts type_start) ≡ turn.Type (held_type t)
type_ends t ts d l e = let r = read_type t ts d in
    ap (step l) (r.2 []) ∙ type_stops l.terminal r.0 e ∙ ap (λ x. turn.Type x) r.1

abbrev tail_of : List Lexeme → List Lexeme
tail_of [] = []
tail_of (x ∷ xs) = xs

where_stops : (l : Lexeme) → is_end_of_variables l.terminal ≡ true → (vs : List VarText) (us : List Lexeme) → WhereRead vs us → step l (step_all (tail_of us) where_start) ≡ turn.Variables (held_variables vs)
where_stops l e _ _ (alone w vs us b h v is more reads) = ap (step l) (reads []) ∙ variables_stop l.terminal b h v e is ∙ ap (λ x. turn.Variables x) more
where_stops l e _ _ (braces w vs us reads) = ap (step l) (reads []) ∙ closed_stops l.terminal (held_variables vs)

-- the variables of a `where`, behind that word, and a token that is not of them
pub where_ends : (vs : List VarText) (a : ℕ) (ts : List Lexeme) → IsWhere vs (word words.Where a ∷ ts) → (l : Lexeme) → is_end_of_variables l.terminal ≡ true → step l (step_all ts where_start) ≡ turn.Variables (held_variables vs)
where_ends vs a ts d l e = where_stops l e vs (word words.Where a ∷ ts) (read_where vs (word words.Where a ∷ ts) d)

-- the variables of a declaration, behind `{`, and any token
pub header_ends : (vs : List VarText) (ts : List Lexeme) → IsVariables vs ts → (c : ℕ) (l : Lexeme) → step l (step_all (ts ++ mark op.CloseBrace c ∷ []) header_start) ≡ turn.Variables (held_variables vs)
header_ends vs ts d c l = ap (step l) (variables_close vs ts (read_variables vs ts d) c []) ∙ closed_stops l.terminal (held_variables vs)
