-- The first item that is too deep stays the first one: at operands and what follows them.
use Rattle.std.proofs.Common.{ℕ, ℤ, pos, Bool, true, false, cond, nat_lt, List, [], ◌∷◌, ◌++◌, ◌≡◌, Option, Some, None, ap}
use Rattle.std.specs.Prelude.{int_le, codes, bytes_eq}
use Rattle.jl_token.specs.declared.token.Operator.{Operator}
use Rattle.jl_token.specs.declared.token.Operator.TheVariants as o
use Rattle.jl_typeread.specs.declared.deep.Deep.{Deep}
use Rattle.jl_typeread.specs.declared.terminal.Terminal.{Terminal}
use Rattle.jl_typeread.specs.declared.terminal.Terminal.TheVariants as S
use Rattle.jl_typeread.specs.declared.terminal.Word.{Word}
use Rattle.jl_typeread.specs.declared.terminal.Word.TheVariants as w
use Rattle.jl_typeread.specs.declared.state.Bound.TheVariants.{First}
use Rattle.jl_typeread.specs.declared.state.Frame.TheVariants.{Variable}
use Rattle.jl_typeread.specs.declared.state.Enclosure.TheVariants.{Braces}
use Rattle.jl_typeread.specs.declared.state.Point.TheVariants as Q
use Rattle.jl_typeread.specs.declared.state.State.{State as TypeState}
use Rattle.jl_typeread.specs.declared.state.Turn.{Turn}
use Rattle.jl_typeread.specs.declared.state.Turn.TheVariants as T
use Rattle.jl_typeread.specs.Depth.{no_variables}
use Rattle.jl_typeread.specs.Machine as Y
use Rattle.jl_grammar.specs.declared.mark.Ahead.{Ahead}
use Rattle.jl_grammar.specs.declared.mark.Marked.{Marked}
use Rattle.jl_grammar.specs.declared.mark.Marks.{Marks}
use Rattle.jl_grammar.specs.declared.mark.Opening.{Opening}
use Rattle.jl_grammar.specs.declared.mark.Opening.TheVariants as O
use Rattle.jl_grammar.specs.declared.state.BlockKind.{BlockKind}
use Rattle.jl_grammar.specs.declared.state.BlockKind.TheVariants as B
use Rattle.jl_grammar.specs.declared.state.Called.TheVariants as C
use Rattle.jl_grammar.specs.declared.state.Declaring.{Declaring}
use Rattle.jl_grammar.specs.declared.state.Due.{Due}
use Rattle.jl_grammar.specs.declared.state.Due.TheVariants as D
use Rattle.jl_grammar.specs.declared.state.EvalKind.{EvalKind}
use Rattle.jl_grammar.specs.declared.state.EvalKind.TheVariants as E
use Rattle.jl_grammar.specs.declared.state.Fielding.{Fielding}
use Rattle.jl_grammar.specs.declared.state.Form.{Form}
use Rattle.jl_grammar.specs.declared.state.Forms.{Forms}
use Rattle.jl_grammar.specs.declared.state.Frame.{Frame}
use Rattle.jl_grammar.specs.declared.state.Frame.TheVariants.{Paren, Tuple, Args, Fetch, Print, Then, Test, Block, Evals}
use Rattle.jl_grammar.specs.declared.state.Goal.{Goal}
use Rattle.jl_grammar.specs.declared.state.Goal.TheVariants as G
use Rattle.jl_grammar.specs.declared.state.Heading.{Heading}
use Rattle.jl_grammar.specs.declared.state.ItemsRead.{ItemsRead}
use Rattle.jl_grammar.specs.declared.state.Lead.{Lead}
use Rattle.jl_grammar.specs.declared.state.Lead.TheVariants as L
use Rattle.jl_grammar.specs.declared.state.Levels.{Levels}
use Rattle.jl_grammar.specs.declared.state.Outer.TheVariants as X
use Rattle.jl_grammar.specs.declared.state.Pending.{Pending}
use Rattle.jl_grammar.specs.declared.state.Place.{Place}
use Rattle.jl_grammar.specs.declared.state.Place.TheVariants as H
use Rattle.jl_grammar.specs.declared.state.Point.{Point}
use Rattle.jl_grammar.specs.declared.state.Point.TheVariants as P
use Rattle.jl_grammar.specs.declared.state.Purpose.{Purpose}
use Rattle.jl_grammar.specs.declared.state.Purpose.TheVariants as R
use Rattle.jl_grammar.specs.declared.state.State.{State}
use Rattle.jl_grammar.specs.declared.state.TypeForm.{TypeForm}
use Rattle.jl_grammar.specs.declared.state.VarsForm.{VarsForm}
use Rattle.jl_grammar.specs.declared.tree.Callee.{Callee}
use Rattle.jl_grammar.specs.declared.tree.Callee.TheVariants as F
use Rattle.jl_grammar.specs.declared.tree.Eval.{Eval}
use Rattle.jl_grammar.specs.declared.tree.Eval.TheVariants as V
use Rattle.jl_grammar.specs.declared.tree.Expr.{Expr}
use Rattle.jl_grammar.specs.declared.tree.Head.{Head}
use Rattle.jl_grammar.specs.declared.tree.Header.{Header}
use Rattle.jl_grammar.specs.declared.tree.Infix.{Infix}
use Rattle.jl_grammar.specs.declared.tree.Infix.TheVariants as I
use Rattle.jl_grammar.specs.declared.tree.Item.{Item}
use Rattle.jl_grammar.specs.declared.tree.Method.{Method}
use Rattle.jl_grammar.specs.declared.tree.Name.{Name}
use Rattle.jl_grammar.specs.declared.tree.Param.{Param}
use Rattle.jl_grammar.specs.declared.tree.Param.TheVariants as N
use Rattle.jl_grammar.specs.declared.tree.Prefix.{Prefix}
use Rattle.jl_grammar.specs.declared.tree.Prefix.TheVariants as U
use Rattle.jl_grammar.specs.declared.tree.Stmt.{Stmt}
use Rattle.jl_grammar.specs.declared.tree.Stmt.TheVariants as Z
use Rattle.jl_grammar.specs.Forms as M
use Rattle.jl_grammar.specs.Levels.{no_levels, pending_after, no_pending, push_outer, with_levels, as_sum, as_comparison, as_or, expression, levels_after_prefix, levels_after_term, levels_after_sum, levels_after_comparison, levels_after_type, levels_after_and, levels_after_or, is_comparison_start, no_left}
use Rattle.jl_grammar.specs.Marks.{is_function}
use Rattle.jl_grammar.specs.Texts.{is_method, is_left_type}
use Rattle.jl_grammar.specs.Turns as TU
use Rattle.jl_grammar.specs.Turns.{name_at, is_return_allowed, is_return_allowed_in, with_stmt, with_method, with_eval, item_of, type_start, has_no_comparison}
use Rattle.jl_grammar.specs.Forms.{first_place}

-- where an item before was too deep, the same one is behind
abbrev pub Stays : ItemsRead → Option State → Type 0
Stays xs None = Unit {0}
Stays xs (Some r) = (a : ℕ) → xs.too_deep ≡ Some a → r.script.too_deep ≡ Some a

pub stays : (xs : ItemsRead) (a : ℕ) → xs.too_deep ≡ Some a → xs.too_deep ≡ Some a
stays xs a e = e

pub added : (xs : ItemsRead) (x : Form Item) (a : ℕ) → xs.too_deep ≡ Some a → (M.with_item xs x).too_deep ≡ Some a
added xs x a e = ap (λ d. first_place d (cond (nat_lt 500 x.depth) (Some x.at) None)) e

pub end_block : (k : BlockKind) (ss : Forms Stmt) (K : List Frame) (xs : ItemsRead) → Stays xs (TU.end_block k ss K xs)
end_block (B.Begin p a) ss K xs = stays xs
end_block (B.Branch p a x b c) ss K xs = stays xs
end_block (B.Else p a x) ss K xs = stays xs
end_block (B.Body H.Entry h) ss K xs = stays xs
end_block (B.Body (H.Evaluated p a) h) ss K xs = stays xs

pub block_elseif : (a : ℕ) (k : BlockKind) (ss : Forms Stmt) (K : List Frame) (xs : ItemsRead) → Stays xs (TU.block_elseif a k ss K xs)
block_elseif b (B.Branch p a x c e) ss K xs = stays xs
block_elseif b k ss K xs = tt

pub block_else : (k : BlockKind) (ss : Forms Stmt) (K : List Frame) (xs : ItemsRead) → Stays xs (TU.block_else k ss K xs)
block_else (B.Branch p a x c e) ss K xs = stays xs
block_else k ss K xs = tt

pub block_word : (v : Word) (a : ℕ) (k : BlockKind) (ss : Forms Stmt) (K : List Frame) (xs : ItemsRead) → Stays xs (TU.block_word v a k ss K xs)
block_word w.End b k ss K xs = end_block k ss K xs
block_word w.Elseif b k ss K xs = block_elseif b k ss K xs
block_word w.Else b k ss K xs = block_else k ss K xs
block_word u1 b k ss K xs = tt

pub end_evals : (k : EvalKind) (vs : Forms Eval) (K : List Frame) (xs : ItemsRead) → Stays xs (TU.end_evals k vs K xs)
end_evals (E.Begin p a) vs K xs = stays xs
end_evals (E.Quote p a) vs K xs = stays xs

evals_word : (v : Word) (k : EvalKind) (vs : Forms Eval) (K : List Frame) (xs : ItemsRead) → Stays xs (TU.evals_word v k vs K xs)
evals_word w.End k vs K xs = end_evals k vs K xs
evals_word u1 k vs K xs = tt

end_item : (x : Option (Form Item)) (xs : ItemsRead) → Stays xs (TU.end_item x xs)
end_item None xs = tt
end_item (Some x) xs = added xs x

end_stmt : (r : Option (Forms Stmt)) (k : BlockKind) (K : List Frame) (xs : ItemsRead) → Stays xs (TU.end_stmt r k K xs)
end_stmt None k K xs = tt
end_stmt (Some ss) k K xs = stays xs

end_eval : (r : Option (Forms Eval)) (k : EvalKind) (K : List Frame) (xs : ItemsRead) → Stays xs (TU.end_eval r k K xs)
end_eval None k K xs = tt
end_eval (Some vs) k K xs = stays xs

separator_after_expr : (l : Lead) (e : Form Expr) (K : List Frame) (xs : ItemsRead) → Stays xs (TU.separator_after_expr l e K xs)
separator_after_expr l e [] xs = end_item (item_of l e) xs
separator_after_expr l e (Test p a x b ∷ K) xs = stays xs
separator_after_expr l e (Block k ss ∷ K) xs = end_stmt (with_stmt ss l e) k K xs
separator_after_expr l e (Evals k vs ∷ K) xs = end_eval (with_eval vs l e) k K xs
separator_after_expr l e K xs = tt

source_end_after_expr : (l : Lead) (e : Form Expr) (K : List Frame) (xs : ItemsRead) → Stays xs (TU.source_end_after_expr l e K xs)
source_end_after_expr l e [] xs = end_item (item_of l e) xs
source_end_after_expr l e K xs = tt

word_after_stmts : (r : Option (Forms Stmt)) (v : Word) (a : ℕ) (k : BlockKind) (K : List Frame) (xs : ItemsRead) → Stays xs (TU.word_after_stmts r v a k K xs)
word_after_stmts None v b k K xs = tt
word_after_stmts (Some ss) v b k K xs = block_word v b k ss K xs

word_after_evals : (r : Option (Forms Eval)) (v : Word) (k : EvalKind) (K : List Frame) (xs : ItemsRead) → Stays xs (TU.word_after_evals r v k K xs)
word_after_evals None v k K xs = tt
word_after_evals (Some vs) v k K xs = evals_word v k vs K xs

word_after_expr : (v : Word) (a : ℕ) (l : Lead) (e : Form Expr) (K : List Frame) (xs : ItemsRead) → Stays xs (TU.word_after_expr v a l e K xs)
word_after_expr v b l e (Block k ss ∷ K) xs = word_after_stmts (with_stmt ss l e) v b k K xs
word_after_expr v b l e (Evals k vs ∷ K) xs = word_after_evals (with_eval vs l e) v k K xs
word_after_expr v b l e K xs = tt

comma_after_expr : (e : Form Expr) (K : List Frame) (xs : ItemsRead) → Stays xs (TU.comma_after_expr e K xs)
comma_after_expr e (Paren p a ∷ K) xs = stays xs
comma_after_expr e (Tuple p a es ∷ K) xs = stays xs
comma_after_expr e (Args p a f es ∷ K) xs = stays xs
comma_after_expr e (Print p a l ps ∷ K) xs = stays xs
comma_after_expr e K xs = tt

paren_after_expr : (e : Form Expr) (K : List Frame) (xs : ItemsRead) → Stays xs (TU.paren_after_expr e K xs)
paren_after_expr e (Paren p a ∷ K) xs = stays xs
paren_after_expr e (Tuple p a es ∷ K) xs = stays xs
paren_after_expr e (Args p a f es ∷ K) xs = stays xs
paren_after_expr e (Fetch p a ∷ K) xs = stays xs
paren_after_expr e (Print p a l ps ∷ K) xs = stays xs
paren_after_expr e K xs = tt

colon_after_expr : (e : Form Expr) (K : List Frame) (xs : ItemsRead) → Stays xs (TU.colon_after_expr e K xs)
colon_after_expr e (Then p c ∷ K) xs = stays xs
colon_after_expr e K xs = tt

operator_after_expr : (x : Operator) (l : Lead) (e : Form Expr) (K : List Frame) (xs : ItemsRead) → Stays xs (TU.operator_after_expr x l e K xs)
operator_after_expr o.Comma l e K xs = comma_after_expr e K xs
operator_after_expr o.CloseParen l e K xs = paren_after_expr e K xs
operator_after_expr o.Colon l e K xs = colon_after_expr e K xs
operator_after_expr o.Semicolon l e K xs = separator_after_expr l e K xs
operator_after_expr u1 l e K xs = tt

token_after_expr : (s : Terminal) (a : ℕ) (l : Lead) (e : Form Expr) (K : List Frame) (xs : ItemsRead) → Stays xs (TU.token_after_expr s a l e K xs)
token_after_expr (S.Operator x) b l e K xs = operator_after_expr x l e K xs
token_after_expr (S.Word v) b l e K xs = word_after_expr v b l e K xs
token_after_expr S.Newline b l e K xs = separator_after_expr l e K xs
token_after_expr S.End b l e K xs = source_end_after_expr l e K xs
token_after_expr s b l e K xs = tt

operator_after_comparison : (x : Operator) (a : ℕ) (p : Pending) (e : Form Expr) (K : List Frame) (xs : ItemsRead) → Stays xs (TU.operator_after_comparison x a p e K xs)
operator_after_comparison o.And b p e K xs = stays xs
operator_after_comparison o.Or b p e K xs = stays xs
operator_after_comparison o.Question b p e K xs = stays xs
operator_after_comparison x b p e K xs = operator_after_expr x p.lead (expression p e) K xs

pub token_after_comparison : (s : Terminal) (a : ℕ) (p : Pending) (e : Form Expr) (K : List Frame) (xs : ItemsRead) → Stays xs (TU.token_after_comparison s a p e K xs)
token_after_comparison (S.Operator x) b p e K xs = operator_after_comparison x b p e K xs
token_after_comparison s b p e K xs = token_after_expr s b p.lead (expression p e) K xs

push_term : (i : Infix) (p : Pending) (e : Form Expr) (K : List Frame) (xs : ItemsRead) → Stays xs (TU.push_term i p e K xs)
push_term i p e K xs = stays xs

push_sum : (i : Infix) (p : Pending) (e : Form Expr) (K : List Frame) (xs : ItemsRead) → Stays xs (TU.push_sum i p e K xs)
push_sum i p e K xs = stays xs

push_first_comparison : (b : Bool) (i : Infix) (p : Pending) (e : Form Expr) (K : List Frame) (xs : ItemsRead) → Stays xs (TU.push_first_comparison b i p e K xs)
push_first_comparison true i p e K xs = stays xs
push_first_comparison false i p e K xs = tt

push_isa : (b : Bool) (p : Pending) (e : Form Expr) (K : List Frame) (xs : ItemsRead) → Stays xs (TU.push_isa b p e K xs)
push_isa true p e K xs = stays xs
push_isa false p e K xs = tt

operator_after_operand : (x : Operator) (a : ℕ) (p : Pending) (e : Form Expr) (K : List Frame) (xs : ItemsRead) → Stays xs (TU.operator_after_operand x a p e K xs)
operator_after_operand o.Dot b p e K xs = stays xs
operator_after_operand o.OpenBracket b p e K xs = stays xs
operator_after_operand o.Times b p e K xs = push_term I.Times p e K xs
operator_after_operand o.Divide b p e K xs = push_term I.Divide p e K xs
operator_after_operand o.Remainder b p e K xs = push_term I.Remainder p e K xs
operator_after_operand o.Plus b p e K xs = push_sum I.Plus p e K xs
operator_after_operand o.Minus b p e K xs = push_sum I.Minus p e K xs
operator_after_operand o.Equal b p e K xs = push_first_comparison (has_no_comparison p.levels) I.Equal p e K xs
operator_after_operand o.NotEqual b p e K xs = push_first_comparison (has_no_comparison p.levels) I.NotEqual p e K xs
operator_after_operand o.Less b p e K xs = push_first_comparison (has_no_comparison p.levels) I.Less p e K xs
operator_after_operand o.LessEqual b p e K xs = push_first_comparison (has_no_comparison p.levels) I.LessEqual p e K xs
operator_after_operand o.Greater b p e K xs = push_first_comparison (has_no_comparison p.levels) I.Greater p e K xs
operator_after_operand o.GreaterEqual b p e K xs = push_first_comparison (has_no_comparison p.levels) I.GreaterEqual p e K xs
operator_after_operand o.Identical b p e K xs = push_first_comparison (has_no_comparison p.levels) I.Identical p e K xs
operator_after_operand o.NotIdentical b p e K xs = push_first_comparison (has_no_comparison p.levels) I.NotIdentical p e K xs
operator_after_operand x b p e K xs = operator_after_comparison x b p (as_comparison p.levels e) K xs

word_after_operand : (v : Word) (a : ℕ) (p : Pending) (e : Form Expr) (K : List Frame) (xs : ItemsRead) → Stays xs (TU.word_after_operand v a p e K xs)
word_after_operand w.Isa b p e K xs = push_isa (has_no_comparison p.levels) p e K xs
word_after_operand v b p e K xs = word_after_expr v b p.lead (expression p (as_comparison p.levels e)) K xs

pub token_after_operand : (s : Terminal) (a : ℕ) (p : Pending) (e : Form Expr) (K : List Frame) (xs : ItemsRead) → Stays xs (TU.token_after_operand s a p e K xs)
token_after_operand (S.Operator x) b p e K xs = operator_after_operand x b p e K xs
token_after_operand (S.Word v) b p e K xs = word_after_operand v b p e K xs
token_after_operand s b p e K xs = token_after_expr s b p.lead (expression p (as_comparison p.levels e)) K xs

type_turn : (t : Turn) (g : Goal) (K : List Frame) (xs : ItemsRead) → Stays xs (TU.type_turn t g K xs)
type_turn (T.Goes s) g K xs = stays xs
type_turn u1 g K xs = tt

first_of_type : (s : Terminal) (a : ℕ) (g : Goal) (K : List Frame) (xs : ItemsRead) → Stays xs (TU.first_of_type s a g K xs)
first_of_type s a g K xs = type_turn (Y.step_at s a Q.Want []) g K xs

begin_opening : (o : Opening) (n : List ℕ) (a : ℕ) (p : Pending) (K : List Frame) (xs : ItemsRead) → Stays xs (TU.begin_opening o n a p K xs)
begin_opening O.Plain n a p K xs = stays xs
begin_opening O.Binding n a p K xs = stays xs
begin_opening O.Call n a p K xs = stays xs
begin_opening O.Make n a p K xs = first_of_type (S.Name n) a (G.Make p a) K xs
begin_opening O.Latest n a p K xs = stays xs
begin_opening O.Delete n a p K xs = stays xs
begin_opening O.Spawn n a p K xs = stays xs
begin_opening O.Quote n a p K xs = stays xs
begin_opening O.Fetch n a p K xs = stays xs
begin_opening O.Print n a p K xs = stays xs
begin_opening O.Println n a p K xs = stays xs

begin_name : (b : Bool) (o : Opening) (n : List ℕ) (a : ℕ) (p : Pending) (K : List Frame) (xs : ItemsRead) → Stays xs (TU.begin_name b o n a p K xs)
begin_name true x n a p K xs = first_of_type (S.Name n) a (G.Left p a) K xs
begin_name false x n a p K xs = begin_opening x n a p K xs

begin_paren : (b : Bool) (a : ℕ) (p : Pending) (K : List Frame) (xs : ItemsRead) → Stays xs (TU.begin_paren b a p K xs)
begin_paren true a p K xs = first_of_type (S.Operator o.OpenParen) a (G.Left p a) K xs
begin_paren false a p K xs = stays xs

begin_prefix : (a : ℕ) (u : Prefix) (p : Pending) (K : List Frame) (xs : ItemsRead) → Stays xs (TU.begin_prefix a u p K xs)
begin_prefix a u p K xs = stays xs

pub begin_operator : (x : Operator) (h : Ahead) (a : ℕ) (p : Pending) (K : List Frame) (xs : ItemsRead) → Stays xs (TU.begin_operator x h a p K xs)
begin_operator o.OpenParen m a p K xs = begin_paren (is_left_type (is_comparison_start p.levels) m) a p K xs
begin_operator o.Minus m a p K xs = begin_prefix a U.Minus p K xs
begin_operator o.Not m a p K xs = begin_prefix a U.Not p K xs
begin_operator u1 m a p K xs = tt

pub begin_word : (v : Word) (a : ℕ) (p : Pending) (K : List Frame) (xs : ItemsRead) → Stays xs (TU.begin_word v a p K xs)
begin_word w.True a p K xs = stays xs
begin_word w.False a p K xs = stays xs
begin_word w.Nothing a p K xs = stays xs
begin_word w.If a p K xs = stays xs
begin_word w.Begin a p K xs = stays xs
begin_word u1 a p K xs = tt

begin_macro : (b : Bool) (a : ℕ) (p : Pending) (K : List Frame) (xs : ItemsRead) → Stays xs (TU.begin_macro b a p K xs)
begin_macro true a p K xs = stays xs
begin_macro false a p K xs = tt

pub begin_operand : (s : Terminal) (m : Marks) (a : ℕ) (p : Pending) (K : List Frame) (xs : ItemsRead) → Stays xs (TU.begin_operand s m a p K xs)
begin_operand (S.Name n) m a p K xs = begin_name (is_left_type (is_comparison_start p.levels) m.ahead) m.opening n a p K xs
begin_operand (S.Number n) m a p K xs = stays xs
begin_operand (S.Word v) m a p K xs = begin_word v a p K xs
begin_operand (S.Operator x) m a p K xs = begin_operator x m.ahead a p K xs
begin_operand (S.Macro n) m a p K xs = begin_macro (bytes_eq n (codes "eval")) a p K xs
begin_operand s m a p K xs = tt

close_first : (K : List Frame) (xs : ItemsRead) → Stays xs (TU.close_first K xs)
close_first (Paren p a ∷ K) xs = stays xs
close_first (Args p a f es ∷ K) xs = stays xs
close_first (Print p a l ps ∷ K) xs = stays xs
close_first K xs = tt

push_string : (a : ℕ) (n : List ℕ) (K : List Frame) (xs : ItemsRead) → Stays xs (TU.push_string a n K xs)
push_string a n (Print p b l ps ∷ K) xs = stays xs
push_string a n K xs = tt

pub at_first : (s : Terminal) (m : Marks) (a : ℕ) (b : Bool) (K : List Frame) (xs : ItemsRead) → Stays xs (TU.at_first s m a b K xs)
at_first (S.Operator o.CloseParen) m a r K xs = close_first K xs
at_first (S.Text n) m a r K xs = push_string a n K xs
at_first s m a r K xs = begin_operand s m a (no_pending r) K xs

close_again : (K : List Frame) (xs : ItemsRead) → Stays xs (TU.close_again K xs)
close_again (Tuple p a es ∷ K) xs = stays xs
close_again K xs = tt

pub at_again : (s : Terminal) (m : Marks) (a : ℕ) (b : Bool) (K : List Frame) (xs : ItemsRead) → Stays xs (TU.at_again s m a b K xs)
at_again (S.Operator o.CloseParen) m a r K xs = close_again K xs
at_again s m a r K xs = begin_operand s m a (no_pending r) K xs

pub at_piece : (s : Terminal) (m : Marks) (a : ℕ) (b : Bool) (K : List Frame) (xs : ItemsRead) → Stays xs (TU.at_piece s m a b K xs)
at_piece (S.Text n) m a r K xs = push_string a n K xs
at_piece s m a r K xs = begin_operand s m a (no_pending r) K xs

close_text : (K : List Frame) (xs : ItemsRead) → Stays xs (TU.close_text K xs)
close_text (Print p a l ps ∷ K) xs = stays xs
close_text K xs = tt

text_comma : (K : List Frame) (xs : ItemsRead) → Stays xs (TU.text_comma K xs)
text_comma (Print p a l ps ∷ K) xs = stays xs
text_comma K xs = tt

pub at_texted : (s : Terminal) (K : List Frame) (xs : ItemsRead) → Stays xs (TU.at_texted s K xs)
at_texted (S.Operator o.CloseParen) K xs = close_text K xs
at_texted (S.Operator o.Comma) K xs = text_comma K xs
at_texted s K xs = tt

pub at_dot : (s : Terminal) (a : ℕ) (p : Pending) (e : Form Expr) (K : List Frame) (xs : ItemsRead) → Stays xs (TU.at_dot s a p e K xs)
at_dot (S.Name n) a p e K xs = stays xs
at_dot s a p e K xs = tt

push_index : (b : Bool) (n : ℤ) (p : Pending) (e : Form Expr) (K : List Frame) (xs : ItemsRead) → Stays xs (TU.push_index b n p e K xs)
push_index true n p e K xs = stays xs
push_index false n p e K xs = tt

pub at_index : (s : Terminal) (p : Pending) (e : Form Expr) (K : List Frame) (xs : ItemsRead) → Stays xs (TU.at_index s p e K xs)
at_index (S.Number n) p e K xs = push_index (int_le (pos 1) n) n p e K xs
at_index s p e K xs = tt

pub at_indexed : (s : Terminal) (p : Pending) (e : Form Expr) (n : ℤ) (K : List Frame) (xs : ItemsRead) → Stays xs (TU.at_indexed s p e n K xs)
at_indexed (S.Operator o.CloseBracket) p e n K xs = stays xs
at_indexed s p e n K xs = tt

pub at_ending : (s : Terminal) (p : Pending) (e : Form Expr) (K : List Frame) (xs : ItemsRead) → Stays xs (TU.at_ending s p e K xs)
at_ending (S.Operator o.CloseParen) p e K xs = stays xs
at_ending s p e K xs = tt
