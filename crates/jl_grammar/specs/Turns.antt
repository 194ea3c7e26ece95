-- A reading, token by token: what a token makes of a state, or none where it is wrong.
use Rattle.std.specs.Prelude.{ℕ, ℤ, pos, int_le, Bool, true, false, cond, codes, bytes_eq, List, [], ◌∷◌, ◌++◌, Option, Some, None}
use Rattle.jl_token.specs.declared.token.Operator.{Operator}
use Rattle.jl_token.specs.declared.token.Operator.TheVariants as o
use Rattle.jl_typeread.specs.declared.deep.Deep.{Deep}
use Rattle.jl_typeread.specs.declared.terminal.Terminal.{Terminal}
use Rattle.jl_typeread.specs.declared.terminal.Terminal.TheVariants as S
use Rattle.jl_typeread.specs.declared.terminal.Word.{Word}
use Rattle.jl_typeread.specs.declared.terminal.Word.TheVariants as w
use Rattle.jl_typeread.specs.declared.state.Bound.TheVariants.{First}
use Rattle.jl_typeread.specs.declared.state.Frame.TheVariants.{Variable}
use Rattle.jl_typeread.specs.declared.state.Enclosure.TheVariants.{Braces}
use Rattle.jl_typeread.specs.declared.state.Point.TheVariants as Q
use Rattle.jl_typeread.specs.declared.state.State.{State as TypeState}
use Rattle.jl_typeread.specs.declared.state.Turn.{Turn}
use Rattle.jl_typeread.specs.declared.state.Turn.TheVariants as T
use Rattle.jl_typeread.specs.Depth.{no_variables}
use Rattle.jl_typeread.specs.Machine as Y
use Rattle.jl_grammar.specs.declared.mark.Ahead.{Ahead}
use Rattle.jl_grammar.specs.declared.mark.Marked.{Marked}
use Rattle.jl_grammar.specs.declared.mark.Marks.{Marks}
use Rattle.jl_grammar.specs.declared.mark.Opening.{Opening}
use Rattle.jl_grammar.specs.declared.mark.Opening.TheVariants as O
use Rattle.jl_grammar.specs.declared.state.BlockKind.{BlockKind}
use Rattle.jl_grammar.specs.declared.state.BlockKind.TheVariants as B
use Rattle.jl_grammar.specs.declared.state.Called.TheVariants as C
use Rattle.jl_grammar.specs.declared.state.Declaring.{Declaring}
use Rattle.jl_grammar.specs.declared.state.Due.{Due}
use Rattle.jl_grammar.specs.declared.state.Due.TheVariants as D
use Rattle.jl_grammar.specs.declared.state.EvalKind.{EvalKind}
use Rattle.jl_grammar.specs.declared.state.EvalKind.TheVariants as E
use Rattle.jl_grammar.specs.declared.state.Fielding.{Fielding}
use Rattle.jl_grammar.specs.declared.state.Form.{Form}
use Rattle.jl_grammar.specs.declared.state.Forms.{Forms}
use Rattle.jl_grammar.specs.declared.state.Frame.{Frame}
use Rattle.jl_grammar.specs.declared.state.Frame.TheVariants.{Paren, Tuple, Args, Fetch, Print, Then, Test, Block, Evals}
use Rattle.jl_grammar.specs.declared.state.Goal.{Goal}
use Rattle.jl_grammar.specs.declared.state.Goal.TheVariants as G
use Rattle.jl_grammar.specs.declared.state.Heading.{Heading}
use Rattle.jl_grammar.specs.declared.state.ItemsRead.{ItemsRead}
use Rattle.jl_grammar.specs.declared.state.Lead.{Lead}
use Rattle.jl_grammar.specs.declared.state.Lead.TheVariants as L
use Rattle.jl_grammar.specs.declared.state.Levels.{Levels}
use Rattle.jl_grammar.specs.declared.state.Outer.TheVariants as X
use Rattle.jl_grammar.specs.declared.state.Pending.{Pending}
use Rattle.jl_grammar.specs.declared.state.Place.{Place}
use Rattle.jl_grammar.specs.declared.state.Place.TheVariants as H
use Rattle.jl_grammar.specs.declared.state.Point.{Point}
use Rattle.jl_grammar.specs.declared.state.Point.TheVariants as P
use Rattle.jl_grammar.specs.declared.state.Purpose.{Purpose}
use Rattle.jl_grammar.specs.declared.state.Purpose.TheVariants as R
use Rattle.jl_grammar.specs.declared.state.State.{State}
use Rattle.jl_grammar.specs.declared.state.TypeForm.{TypeForm}
use Rattle.jl_grammar.specs.declared.state.VarsForm.{VarsForm}
use Rattle.jl_grammar.specs.declared.tree.Callee.{Callee}
use Rattle.jl_grammar.specs.declared.tree.Callee.TheVariants as F
use Rattle.jl_grammar.specs.declared.tree.Eval.{Eval}
use Rattle.jl_grammar.specs.declared.tree.Eval.TheVariants as V
use Rattle.jl_grammar.specs.declared.tree.Expr.{Expr}
use Rattle.jl_grammar.specs.declared.tree.Head.{Head}
use Rattle.jl_grammar.specs.declared.tree.Header.{Header}
use Rattle.jl_grammar.specs.declared.tree.Infix.{Infix}
use Rattle.jl_grammar.specs.declared.tree.Infix.TheVariants as I
use Rattle.jl_grammar.specs.declared.tree.Item.{Item}
use Rattle.jl_grammar.specs.declared.tree.Method.{Method}
use Rattle.jl_grammar.specs.declared.tree.Name.{Name}
use Rattle.jl_grammar.specs.declared.tree.Param.{Param}
use Rattle.jl_grammar.specs.declared.tree.Param.TheVariants as N
use Rattle.jl_grammar.specs.declared.tree.Prefix.{Prefix}
use Rattle.jl_grammar.specs.declared.tree.Prefix.TheVariants as U
use Rattle.jl_grammar.specs.declared.tree.Stmt.{Stmt}
use Rattle.jl_grammar.specs.declared.tree.Stmt.TheVariants as Z
use Rattle.jl_grammar.specs.Forms as M
use Rattle.jl_grammar.specs.Levels.{no_levels, pending_after, no_pending, push_outer, with_levels, as_sum, as_comparison, as_or, expression, levels_after_prefix, levels_after_term, levels_after_sum, levels_after_comparison, levels_after_type, levels_after_and, levels_after_or, is_comparison_start, no_left}
use Rattle.jl_grammar.specs.Marks.{is_function}
use Rattle.jl_grammar.specs.Texts.{is_method, is_left_type}

abbrev pub at : Point → List Frame → ItemsRead → Option State
at p K xs = Some (record { point = p; stack = K; script = xs })

abbrev pub name_at : ℕ → List ℕ → Name
name_at a n = record { at = a; bytes = n }

-- ---- bodies: what an expression is in them, and how they end

-- whether a `return` may stand in a block
abbrev pub is_return_allowed : BlockKind → Bool
is_return_allowed (B.Begin p a) = p.returns
is_return_allowed (B.Branch p a x b c) = p.returns
is_return_allowed (B.Else p a x) = p.returns
is_return_allowed (B.Body l h) = true

abbrev pub is_return_allowed_in : List Frame → Bool
is_return_allowed_in (Block k ss ∷ K) = is_return_allowed k
is_return_allowed_in K = false

-- an expression as a statement, as an evaluated statement and as an item
abbrev pub with_stmt : Forms Stmt → Lead → Form Expr → Option (Forms Stmt)
with_stmt ss L.Plain e = Some (M.with_form ss (Z.Do e.tree) e.depth)
with_stmt ss (L.Bind n) e = Some (M.with_form ss (Z.Bind n e.tree) e.depth)
with_stmt ss (L.Return a) e = Some (M.with_form ss (Z.Return a e.tree) e.depth)
with_stmt ss (L.Short h) e = None

abbrev pub with_method : Forms Eval → Form Method → Forms Eval
with_method vs m = M.with_form vs (V.Method m.tree) m.depth

abbrev pub with_eval : Forms Eval → Lead → Form Expr → Option (Forms Eval)
with_eval vs L.Plain e = Some (M.with_form vs (V.Do e.tree) e.depth)
with_eval vs (L.Short h) e = Some (with_method vs (M.short_method h e))
with_eval vs (L.Bind n) e = None
with_eval vs (L.Return a) e = None

abbrev pub item_of : Lead → Form Expr → Option (Form Item)
item_of L.Plain e = Some (M.expr_item e)
item_of (L.Bind n) e = Some (M.binding_item n e)
item_of (L.Short h) e = Some (M.method_item (M.short_method h e))
item_of (L.Return a) e = None

-- the word that ends a block, or a part of it
abbrev pub end_block : BlockKind → Forms Stmt → List Frame → ItemsRead → Option State
end_block (B.Begin p a) ss K xs = at (P.Have p (M.begin_expr a ss)) K xs
end_block (B.Branch p a x b c) ss K xs = at (P.Have p (M.if_expr a (M.with_branch x b c ss))) K xs
end_block (B.Else p a x) ss K xs = at (P.Have p (M.if_else_expr a x ss)) K xs
end_block (B.Body H.Entry h) ss K xs = at (P.MadeMethod (M.long_method h ss)) K xs
end_block (B.Body (H.Evaluated p a) h) ss K xs = at (P.Have p (M.eval_method a (M.long_method h ss))) K xs

abbrev pub block_elseif : ℕ → BlockKind → Forms Stmt → List Frame → ItemsRead → Option State
block_elseif b (B.Branch p a x c e) ss K xs = at (P.Want (no_pending p.returns)) (Test p a (M.with_branch x c e ss) b ∷ K) xs
block_elseif b k ss K xs = None

abbrev pub block_else : BlockKind → Forms Stmt → List Frame → ItemsRead → Option State
block_else (B.Branch p a x c e) ss K xs = at P.Entry (Block (B.Else p a (M.with_branch x c e ss)) M.no_forms ∷ K) xs
block_else k ss K xs = None

abbrev pub block_word : Word → ℕ → BlockKind → Forms Stmt → List Frame → ItemsRead → Option State
block_word w.End b k ss K xs = end_block k ss K xs
block_word w.Elseif b k ss K xs = block_elseif b k ss K xs
block_word w.Else b k ss K xs = block_else k ss K xs
block_word _ b k ss K xs = None

abbrev pub end_evals : EvalKind → Forms Eval → List Frame → ItemsRead → Option State
end_evals (E.Begin p a) vs K xs = at (P.Have p (M.eval_block a vs)) K xs
end_evals (E.Quote p a) vs K xs = at (P.Ending p (M.eval_quote a vs)) K xs

abbrev pub evals_word : Word → EvalKind → Forms Eval → List Frame → ItemsRead → Option State
evals_word w.End k vs K xs = end_evals k vs K xs
evals_word _ k vs K xs = None

-- ---- an expression has ended

abbrev pub end_item : Option (Form Item) → ItemsRead → Option State
end_item None xs = None
end_item (Some x) xs = at P.Entry [] (M.with_item xs x)

abbrev pub end_stmt : Option (Forms Stmt) → BlockKind → List Frame → ItemsRead → Option State
end_stmt None k K xs = None
end_stmt (Some ss) k K xs = at P.Entry (Block k ss ∷ K) xs

abbrev pub end_eval : Option (Forms Eval) → EvalKind → List Frame → ItemsRead → Option State
end_eval None k K xs = None
end_eval (Some vs) k K xs = at P.Entry (Evals k vs ∷ K) xs

-- a separator
abbrev pub separator_after_expr : Lead → Form Expr → List Frame → ItemsRead → Option State
separator_after_expr l e [] xs = end_item (item_of l e) xs
separator_after_expr l e (Test p a x b ∷ K) xs = at P.Entry (Block (B.Branch p a x b e) M.no_forms ∷ K) xs
separator_after_expr l e (Block k ss ∷ K) xs = end_stmt (with_stmt ss l e) k K xs
separator_after_expr l e (Evals k vs ∷ K) xs = end_eval (with_eval vs l e) k K xs
separator_after_expr l e K xs = None

-- the source's end
abbrev pub source_end_after_expr : Lead → Form Expr → List Frame → ItemsRead → Option State
source_end_after_expr l e [] xs = end_item (item_of l e) xs
source_end_after_expr l e K xs = None

abbrev pub word_after_stmts : Option (Forms Stmt) → Word → ℕ → BlockKind → List Frame → ItemsRead → Option State
word_after_stmts None v b k K xs = None
word_after_stmts (Some ss) v b k K xs = block_word v b k ss K xs

abbrev pub word_after_evals : Option (Forms Eval) → Word → EvalKind → List Frame → ItemsRead → Option State
word_after_evals None v k K xs = None
word_after_evals (Some vs) v k K xs = evals_word v k vs K xs

-- a reserved word
abbrev pub word_after_expr : Word → ℕ → Lead → Form Expr → List Frame → ItemsRead → Option State
word_after_expr v b l e (Block k ss ∷ K) xs = word_after_stmts (with_stmt ss l e) v b k K xs
word_after_expr v b l e (Evals k vs ∷ K) xs = word_after_evals (with_eval vs l e) v k K xs
word_after_expr v b l e K xs = None

-- `,`
abbrev pub comma_after_expr : Form Expr → List Frame → ItemsRead → Option State
comma_after_expr e (Paren p a ∷ K) xs = at (P.Again p.returns) (Tuple p a (M.with_expr M.no_forms e) ∷ K) xs
comma_after_expr e (Tuple p a es ∷ K) xs = at (P.Want (no_pending p.returns)) (Tuple p a (M.with_expr es e) ∷ K) xs
comma_after_expr e (Args p a f es ∷ K) xs = at (P.Want (no_pending p.returns)) (Args p a f (M.with_expr es e) ∷ K) xs
comma_after_expr e (Print p a l ps ∷ K) xs = at (P.Piece p.returns) (Print p a l (M.with_show ps e) ∷ K) xs
comma_after_expr e K xs = None

-- `)`
abbrev pub paren_after_expr : Form Expr → List Frame → ItemsRead → Option State
paren_after_expr e (Paren p a ∷ K) xs = at (P.Have p (M.paren a e)) K xs
paren_after_expr e (Tuple p a es ∷ K) xs = at (P.Have p (M.tuple a (M.with_expr es e))) K xs
paren_after_expr e (Args p a f es ∷ K) xs = at (P.Have p (M.call_expr a f (M.with_expr es e))) K xs
paren_after_expr e (Fetch p a ∷ K) xs = at (P.Have p (M.fetch_expr a e)) K xs
paren_after_expr e (Print p a l ps ∷ K) xs = at (P.Have p (M.print_expr a l (M.with_show ps e))) K xs
paren_after_expr e K xs = None

-- the `:` of a conditional
abbrev pub colon_after_expr : Form Expr → List Frame → ItemsRead → Option State
colon_after_expr e (Then p c ∷ K) xs = at (P.Want (push_outer (X.Otherwise c e) p.returns p)) K xs
colon_after_expr e K xs = None

abbrev pub operator_after_expr : Operator → Lead → Form Expr → List Frame → ItemsRead → Option State
operator_after_expr o.Comma l e K xs = comma_after_expr e K xs
operator_after_expr o.CloseParen l e K xs = paren_after_expr e K xs
operator_after_expr o.Colon l e K xs = colon_after_expr e K xs
operator_after_expr o.Semicolon l e K xs = separator_after_expr l e K xs
operator_after_expr _ l e K xs = None

-- a token behind an expression
abbrev pub token_after_expr : Terminal → ℕ → Lead → Form Expr → List Frame → ItemsRead → Option State
token_after_expr (S.Operator x) b l e K xs = operator_after_expr x l e K xs
token_after_expr (S.Word v) b l e K xs = word_after_expr v b l e K xs
token_after_expr S.Newline b l e K xs = separator_after_expr l e K xs
token_after_expr S.End b l e K xs = source_end_after_expr l e K xs
token_after_expr s b l e K xs = None

-- ---- a comparison has ended

abbrev pub operator_after_comparison : Operator → ℕ → Pending → Form Expr → List Frame → ItemsRead → Option State
operator_after_comparison o.And b p e K xs = at (P.Want (with_levels (levels_after_and p.levels e) p)) K xs
operator_after_comparison o.Or b p e K xs = at (P.Want (with_levels (levels_after_or p.levels e) p)) K xs
operator_after_comparison o.Question b p e K xs = at (P.Want (no_pending p.returns)) (Then (with_levels no_levels p) (as_or p.levels e) ∷ K) xs
operator_after_comparison x b p e K xs = operator_after_expr x p.lead (expression p e) K xs

abbrev pub token_after_comparison : Terminal → ℕ → Pending → Form Expr → List Frame → ItemsRead → Option State
token_after_comparison (S.Operator x) b p e K xs = operator_after_comparison x b p e K xs
token_after_comparison s b p e K xs = token_after_expr s b p.lead (expression p e) K xs

-- ---- an operand has ended

abbrev pub push_term : Infix → Pending → Form Expr → List Frame → ItemsRead → Option State
push_term i p e K xs = at (P.Want (with_levels (levels_after_term i p.levels e) p)) K xs

abbrev pub push_sum : Infix → Pending → Form Expr → List Frame → ItemsRead → Option State
push_sum i p e K xs = at (P.Want (with_levels (levels_after_sum i p.levels e) p)) K xs

-- a comparison has one operator
abbrev pub push_first_comparison : Bool → Infix → Pending → Form Expr → List Frame → ItemsRead → Option State
push_first_comparison true i p e K xs = at (P.Want (with_levels (levels_after_comparison i p.levels e) p)) K xs
push_first_comparison false i p e K xs = None

abbrev pub type_start : TypeState
type_start = record { point = Q.Want; stack = [] }

abbrev pub push_isa : Bool → Pending → Form Expr → List Frame → ItemsRead → Option State
push_isa true p e K xs = at (P.Type (G.Isa (with_levels (levels_after_type p.levels) p) (as_sum p.levels e)) type_start) K xs
push_isa false p e K xs = None

abbrev pub has_no_comparison : Levels → Bool
has_no_comparison ls = no_left ls.comparison

abbrev pub operator_after_operand : Operator → ℕ → Pending → Form Expr → List Frame → ItemsRead → Option State
operator_after_operand o.Dot b p e K xs = at (P.Dot p e) K xs
operator_after_operand o.OpenBracket b p e K xs = at (P.Index p e) K xs
operator_after_operand o.Times b p e K xs = push_term I.Times p e K xs
operator_after_operand o.Divide b p e K xs = push_term I.Divide p e K xs
operator_after_operand o.Remainder b p e K xs = push_term I.Remainder p e K xs
operator_after_operand o.Plus b p e K xs = push_sum I.Plus p e K xs
operator_after_operand o.Minus b p e K xs = push_sum I.Minus p e K xs
operator_after_operand o.Equal b p e K xs = push_first_comparison (has_no_comparison p.levels) I.Equal p e K xs
operator_after_operand o.NotEqual b p e K xs = push_first_comparison (has_no_comparison p.levels) I.NotEqual p e K xs
operator_after_operand o.Less b p e K xs = push_first_comparison (has_no_comparison p.levels) I.Less p e K xs
operator_after_operand o.LessEqual b p e K xs = push_first_comparison (has_no_comparison p.levels) I.LessEqual p e K xs
operator_after_operand o.Greater b p e K xs = push_first_comparison (has_no_comparison p.levels) I.Greater p e K xs
operator_after_operand o.GreaterEqual b p e K xs = push_first_comparison (has_no_comparison p.levels) I.GreaterEqual p e K xs
operator_after_operand o.Identical b p e K xs = push_first_comparison (has_no_comparison p.levels) I.Identical p e K xs
operator_after_operand o.NotIdentical b p e K xs = push_first_comparison (has_no_comparison p.levels) I.NotIdentical p e K xs
operator_after_operand x b p e K xs = operator_after_comparison x b p (as_comparison p.levels e) K xs

abbrev pub word_after_operand : Word → ℕ → Pending → Form Expr → List Frame → ItemsRead → Option State
word_after_operand w.Isa b p e K xs = push_isa (has_no_comparison p.levels) p e K xs
word_after_operand v b p e K xs = word_after_expr v b p.lead (expression p (as_comparison p.levels e)) K xs

abbrev pub token_after_operand : Terminal → ℕ → Pending → Form Expr → List Frame → ItemsRead → Option State
token_after_operand (S.Operator x) b p e K xs = operator_after_operand x b p e K xs
token_after_operand (S.Word v) b p e K xs = word_after_operand v b p e K xs
token_after_operand s b p e K xs = token_after_expr s b p.lead (expression p (as_comparison p.levels e)) K xs

-- ---- an operand begins

-- a token of a type
abbrev pub type_turn : Turn → Goal → List Frame → ItemsRead → Option State
type_turn (T.Goes s) g K xs = at (P.Type g s) K xs
type_turn _ g K xs = None

abbrev pub first_of_type : Terminal → ℕ → Goal → List Frame → ItemsRead → Option State
first_of_type s a g K xs = type_turn (Y.step_at s a Q.Want []) g K xs

abbrev pub begin_opening : Opening → List ℕ → ℕ → Pending → List Frame → ItemsRead → Option State
begin_opening O.Plain n a p K xs = at (P.Have p (M.name a n)) K xs
begin_opening O.Binding n a p K xs = at (P.Have p (M.name a n)) K xs
begin_opening O.Call n a p K xs = at (P.Named (R.Call p a) (name_at a n)) K xs
begin_opening O.Make n a p K xs = first_of_type (S.Name n) a (G.Make p a) K xs
begin_opening O.Latest n a p K xs = at (P.Due p a D.LatestDot) K xs
begin_opening O.Delete n a p K xs = at (P.Due p a D.DeleteDot) K xs
begin_opening O.Spawn n a p K xs = at (P.Due p a D.SpawnDot) K xs
begin_opening O.Quote n a p K xs = at (P.Due p a D.QuoteOpen) K xs
begin_opening O.Fetch n a p K xs = at (P.Due p a D.FetchOpen) K xs
begin_opening O.Print n a p K xs = at (P.Due p a (D.PrintOpen false)) K xs
begin_opening O.Println n a p K xs = at (P.Due p a (D.PrintOpen true)) K xs

abbrev pub begin_name : Bool → Opening → List ℕ → ℕ → Pending → List Frame → ItemsRead → Option State
begin_name true x n a p K xs = first_of_type (S.Name n) a (G.Left p a) K xs
begin_name false x n a p K xs = begin_opening x n a p K xs

abbrev pub begin_paren : Bool → ℕ → Pending → List Frame → ItemsRead → Option State
begin_paren true a p K xs = first_of_type (S.Operator o.OpenParen) a (G.Left p a) K xs
begin_paren false a p K xs = at (P.First p.returns) (Paren p a ∷ K) xs

abbrev pub begin_prefix : ℕ → Prefix → Pending → List Frame → ItemsRead → Option State
begin_prefix a u p K xs = at (P.Want (with_levels (levels_after_prefix (record { at = a; prefix = u }) p.levels) p)) K xs

abbrev pub begin_operator : Operator → Ahead → ℕ → Pending → List Frame → ItemsRead → Option State
begin_operator o.OpenParen m a p K xs = begin_paren (is_left_type (is_comparison_start p.levels) m) a p K xs
begin_operator o.Minus m a p K xs = begin_prefix a U.Minus p K xs
begin_operator o.Not m a p K xs = begin_prefix a U.Not p K xs
begin_operator _ m a p K xs = None

abbrev pub begin_word : Word → ℕ → Pending → List Frame → ItemsRead → Option State
begin_word w.True a p K xs = at (P.Have p (M.truth a true)) K xs
begin_word w.False a p K xs = at (P.Have p (M.truth a false)) K xs
begin_word w.Nothing a p K xs = at (P.Have p (M.nothing a)) K xs
begin_word w.If a p K xs = at (P.Want (no_pending p.returns)) (Test p a M.no_branches a ∷ K) xs
begin_word w.Begin a p K xs = at P.Entry (Block (B.Begin p a) M.no_forms ∷ K) xs
begin_word _ a p K xs = None

abbrev pub begin_macro : Bool → ℕ → Pending → List Frame → ItemsRead → Option State
begin_macro true a p K xs = at (P.AfterEval p a) K xs
begin_macro false a p K xs = None

abbrev pub begin_operand : Terminal → Marks → ℕ → Pending → List Frame → ItemsRead → Option State
begin_operand (S.Name n) m a p K xs = begin_name (is_left_type (is_comparison_start p.levels) m.ahead) m.opening n a p K xs
begin_operand (S.Number n) m a p K xs = at (P.Have p (M.number a n)) K xs
begin_operand (S.Word v) m a p K xs = begin_word v a p K xs
begin_operand (S.Operator x) m a p K xs = begin_operator x m.ahead a p K xs
begin_operand (S.Macro n) m a p K xs = begin_macro (bytes_eq n (codes "eval")) a p K xs
begin_operand s m a p K xs = None

-- ---- brackets

-- `)` behind a bracket that may be empty
abbrev pub close_first : List Frame → ItemsRead → Option State
close_first (Paren p a ∷ K) xs = at (P.Have p (M.tuple a M.no_forms)) K xs
close_first (Args p a f es ∷ K) xs = at (P.Have p (M.call_expr a f es)) K xs
close_first (Print p a l ps ∷ K) xs = at (P.Have p (M.print_expr a l ps)) K xs
close_first K xs = None

-- a string
abbrev pub push_string : ℕ → List ℕ → List Frame → ItemsRead → Option State
push_string a n (Print p b l ps ∷ K) xs = at P.Texted (Print p b l (M.with_text ps a n) ∷ K) xs
push_string a n K xs = None

abbrev pub at_first : Terminal → Marks → ℕ → Bool → List Frame → ItemsRead → Option State
at_first (S.Operator o.CloseParen) m a r K xs = close_first K xs
at_first (S.Text n) m a r K xs = push_string a n K xs
at_first s m a r K xs = begin_operand s m a (no_pending r) K xs

-- `)` behind the comma after a tuple's only part
abbrev pub close_again : List Frame → ItemsRead → Option State
close_again (Tuple p a es ∷ K) xs = at (P.Have p (M.tuple a es)) K xs
close_again K xs = None

abbrev pub at_again : Terminal → Marks → ℕ → Bool → List Frame → ItemsRead → Option State
at_again (S.Operator o.CloseParen) m a r K xs = close_again K xs
at_again s m a r K xs = begin_operand s m a (no_pending r) K xs

abbrev pub at_piece : Terminal → Marks → ℕ → Bool → List Frame → ItemsRead → Option State
at_piece (S.Text n) m a r K xs = push_string a n K xs
at_piece s m a r K xs = begin_operand s m a (no_pending r) K xs

abbrev pub close_text : List Frame → ItemsRead → Option State
close_text (Print p a l ps ∷ K) xs = at (P.Have p (M.print_expr a l ps)) K xs
close_text K xs = None

abbrev pub text_comma : List Frame → ItemsRead → Option State
text_comma (Print p a l ps ∷ K) xs = at (P.Piece p.returns) (Print p a l ps ∷ K) xs
text_comma K xs = None

abbrev pub at_texted : Terminal → List Frame → ItemsRead → Option State
at_texted (S.Operator o.CloseParen) K xs = close_text K xs
at_texted (S.Operator o.Comma) K xs = text_comma K xs
at_texted s K xs = None

-- ---- behind an operand

abbrev pub at_dot : Terminal → ℕ → Pending → Form Expr → List Frame → ItemsRead → Option State
at_dot (S.Name n) a p e K xs = at (P.Have p (M.field e (name_at a n))) K xs
at_dot s a p e K xs = None

abbrev pub push_index : Bool → ℤ → Pending → Form Expr → List Frame → ItemsRead → Option State
push_index true n p e K xs = at (P.Indexed p e n) K xs
push_index false n p e K xs = None

abbrev pub at_index : Terminal → Pending → Form Expr → List Frame → ItemsRead → Option State
at_index (S.Number n) p e K xs = push_index (int_le (pos 1) n) n p e K xs
at_index s p e K xs = None

abbrev pub at_indexed : Terminal → Pending → Form Expr → ℤ → List Frame → ItemsRead → Option State
at_indexed (S.Operator o.CloseBracket) p e n K xs = at (P.Have p (M.part e n)) K xs
at_indexed s p e n K xs = None

abbrev pub at_ending : Terminal → Pending → Form Expr → List Frame → ItemsRead → Option State
at_ending (S.Operator o.CloseParen) p e K xs = at (P.Have p e) K xs
at_ending s p e K xs = None
