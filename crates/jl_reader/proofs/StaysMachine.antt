-- The first item that is too deep stays the first one: at entries, heads, declarations and types.
use Rattle.std.proofs.Common.{ℕ, ℤ, pos, Bool, true, false, cond, nat_lt, List, [], ◌∷◌, ◌++◌, ◌≡◌, Option, Some, None, ap}
use Rattle.std.specs.Prelude.{int_le, codes, bytes_eq}
use Rattle.jl_token.specs.declared.token.Operator.{Operator}
use Rattle.jl_token.specs.declared.token.Operator.TheVariants as o
use Rattle.jl_typeread.specs.declared.deep.Deep.{Deep}
use Rattle.jl_typeread.specs.declared.terminal.Terminal.{Terminal}
use Rattle.jl_typeread.specs.declared.terminal.Terminal.TheVariants as S
use Rattle.jl_typeread.specs.declared.terminal.Word.{Word}
use Rattle.jl_typeread.specs.declared.terminal.Word.TheVariants as w
use Rattle.jl_typeread.specs.declared.state.Bound.TheVariants.{First}
use Rattle.jl_typeread.specs.declared.state.Frame.TheVariants.{Variable}
use Rattle.jl_typeread.specs.declared.state.Enclosure.TheVariants.{Braces}
use Rattle.jl_typeread.specs.declared.state.Point.TheVariants as Q
use Rattle.jl_typeread.specs.declared.state.State.{State as TypeState}
use Rattle.jl_typeread.specs.declared.state.Turn.{Turn}
use Rattle.jl_typeread.specs.declared.state.Turn.TheVariants as T
use Rattle.jl_typeread.specs.Depth.{no_variables}
use Rattle.jl_typeread.specs.Machine as Y
use Rattle.jl_grammar.specs.declared.mark.Ahead.{Ahead}
use Rattle.jl_grammar.specs.declared.mark.Marked.{Marked}
use Rattle.jl_grammar.specs.declared.mark.Marks.{Marks}
use Rattle.jl_grammar.specs.declared.mark.Opening.{Opening}
use Rattle.jl_grammar.specs.declared.mark.Opening.TheVariants as O
use Rattle.jl_grammar.specs.declared.state.BlockKind.{BlockKind}
use Rattle.jl_grammar.specs.declared.state.BlockKind.TheVariants as B
use Rattle.jl_grammar.specs.declared.state.Called.TheVariants as C
use Rattle.jl_grammar.specs.declared.state.Declaring.{Declaring}
use Rattle.jl_grammar.specs.declared.state.Due.{Due}
use Rattle.jl_grammar.specs.declared.state.Due.TheVariants as D
use Rattle.jl_grammar.specs.declared.state.EvalKind.{EvalKind}
use Rattle.jl_grammar.specs.declared.state.EvalKind.TheVariants as E
use Rattle.jl_grammar.specs.declared.state.Fielding.{Fielding}
use Rattle.jl_grammar.specs.declared.state.Form.{Form}
use Rattle.jl_grammar.specs.declared.state.Forms.{Forms}
use Rattle.jl_grammar.specs.declared.state.Frame.{Frame}
use Rattle.jl_grammar.specs.declared.state.Frame.TheVariants.{Paren, Tuple, Args, Fetch, Print, Then, Test, Block, Evals}
use Rattle.jl_grammar.specs.declared.state.Goal.{Goal}
use Rattle.jl_grammar.specs.declared.state.Goal.TheVariants as G
use Rattle.jl_grammar.specs.declared.state.Heading.{Heading}
use Rattle.jl_grammar.specs.declared.state.ItemsRead.{ItemsRead}
use Rattle.jl_grammar.specs.declared.state.Lead.{Lead}
use Rattle.jl_grammar.specs.declared.state.Lead.TheVariants as L
use Rattle.jl_grammar.specs.declared.state.Levels.{Levels}
use Rattle.jl_grammar.specs.declared.state.Outer.TheVariants as X
use Rattle.jl_grammar.specs.declared.state.Pending.{Pending}
use Rattle.jl_grammar.specs.declared.state.Place.{Place}
use Rattle.jl_grammar.specs.declared.state.Place.TheVariants as H
use Rattle.jl_grammar.specs.declared.state.Point.{Point}
use Rattle.jl_grammar.specs.declared.state.Point.TheVariants as P
use Rattle.jl_grammar.specs.declared.state.Purpose.{Purpose}
use Rattle.jl_grammar.specs.declared.state.Purpose.TheVariants as R
use Rattle.jl_grammar.specs.declared.state.State.{State}
use Rattle.jl_grammar.specs.declared.state.TypeForm.{TypeForm}
use Rattle.jl_grammar.specs.declared.state.VarsForm.{VarsForm}
use Rattle.jl_grammar.specs.declared.tree.Callee.{Callee}
use Rattle.jl_grammar.specs.declared.tree.Callee.TheVariants as F
use Rattle.jl_grammar.specs.declared.tree.Eval.{Eval}
use Rattle.jl_grammar.specs.declared.tree.Eval.TheVariants as V
use Rattle.jl_grammar.specs.declared.tree.Expr.{Expr}
use Rattle.jl_grammar.specs.declared.tree.Head.{Head}
use Rattle.jl_grammar.specs.declared.tree.Header.{Header}
use Rattle.jl_grammar.specs.declared.tree.Infix.{Infix}
use Rattle.jl_grammar.specs.declared.tree.Infix.TheVariants as I
use Rattle.jl_grammar.specs.declared.tree.Item.{Item}
use Rattle.jl_grammar.specs.declared.tree.Method.{Method}
use Rattle.jl_grammar.specs.declared.tree.Name.{Name}
use Rattle.jl_grammar.specs.declared.tree.Param.{Param}
use Rattle.jl_grammar.specs.declared.tree.Param.TheVariants as N
use Rattle.jl_grammar.specs.declared.tree.Prefix.TheVariants as U
use Rattle.jl_grammar.specs.declared.tree.Stmt.{Stmt}
use Rattle.jl_grammar.specs.declared.tree.Stmt.TheVariants as Z
use Rattle.jl_grammar.specs.Forms as M
use Rattle.jl_grammar.specs.Levels.{no_levels, pending_after, no_pending, push_outer, with_levels, as_sum, as_comparison, as_or, expression, levels_after_prefix, levels_after_term, levels_after_sum, levels_after_comparison, levels_after_type, levels_after_and, levels_after_or, is_comparison_start, no_left}
use Rattle.jl_grammar.specs.Marks.{is_function}
use Rattle.jl_grammar.specs.Texts.{is_method, is_binding, is_left_type}
use Rattle.jl_typeread.specs.declared.tree.TypeText.{TypeText}
use Rattle.jl_grammar.specs.Turns.{name_at, is_return_allowed, is_return_allowed_in, with_stmt, with_method, with_eval, item_of, type_start}
use Rattle.jl_grammar.specs.Machine as MC
use Rattle.jl_grammar.specs.Machine.{pending_of_eval, with_param, with_params, with_field, where_start, params_start}
use Rattle.jl_reader.proofs.StaysTurns as ST
use Rattle.jl_reader.proofs.StaysTurns.{Stays, stays, added}

begin_item : (b : Bool) (b1 : Bool) (m : Marks) (n : List ℕ) (a : ℕ) (K : List Frame) (xs : ItemsRead) → Stays xs (MC.begin_item b b1 m n a K xs)
begin_item true b m n a K xs = stays xs
begin_item false true m n a K xs = stays xs
begin_item false false m n a K xs = ST.begin_operand (S.Name n) m a (no_pending false) K xs

begin_stmt : (b : Bool) (b1 : Bool) (m : Marks) (n : List ℕ) (a : ℕ) (K : List Frame) (xs : ItemsRead) → Stays xs (MC.begin_stmt b b1 m n a K xs)
begin_stmt true r m n a K xs = stays xs
begin_stmt false r m n a K xs = ST.begin_operand (S.Name n) m a (no_pending r) K xs

begin_eval : (b : Bool) (m : Marks) (n : List ℕ) (a : ℕ) (K : List Frame) (xs : ItemsRead) → Stays xs (MC.begin_eval b m n a K xs)
begin_eval true m n a K xs = stays xs
begin_eval false m n a K xs = ST.begin_operand (S.Name n) m a (no_pending false) K xs

entry_name : (m : Marks) (n : List ℕ) (a : ℕ) (K : List Frame) (xs : ItemsRead) → Stays xs (MC.entry_name m n a K xs)
entry_name m n a [] xs = begin_item (is_method m.ahead) (is_binding m.opening) m n a [] xs
entry_name m n a (Block k ss ∷ K) xs = begin_stmt (is_binding m.opening) (is_return_allowed k) m n a (Block k ss ∷ K) xs
entry_name m n a (Evals k vs ∷ K) xs = begin_eval (is_method m.ahead) m n a (Evals k vs ∷ K) xs
entry_name m n a K xs = tt

begin_long : (l : Place) (a : ℕ) (K : List Frame) (xs : ItemsRead) → Stays xs (MC.begin_long l a K xs)
begin_long l a K xs = stays xs

item_word : (v : Word) (a : ℕ) (K : List Frame) (xs : ItemsRead) → Stays xs (MC.item_word v a K xs)
item_word w.Abstract a K xs = stays xs
item_word w.Struct a K xs = stays xs
item_word w.Function a K xs = begin_long H.Entry a K xs
item_word v a K xs = ST.begin_word v a (no_pending false) K xs

begin_return : (b : Bool) (a : ℕ) (K : List Frame) (xs : ItemsRead) → Stays xs (MC.begin_return b a K xs)
begin_return true a K xs = stays xs
begin_return false a K xs = tt

stmt_word : (v : Word) (a : ℕ) (k : BlockKind) (ss : Forms Stmt) (K : List Frame) (xs : ItemsRead) → Stays xs (MC.stmt_word v a k ss K xs)
stmt_word w.End a k ss K xs = ST.end_block k ss K xs
stmt_word w.Elseif a k ss K xs = ST.block_elseif a k ss K xs
stmt_word w.Else a k ss K xs = ST.block_else k ss K xs
stmt_word w.Return a k ss K xs = begin_return (is_return_allowed k) a (Block k ss ∷ K) xs
stmt_word v a k ss K xs = ST.begin_word v a (no_pending (is_return_allowed k)) (Block k ss ∷ K) xs

eval_word : (v : Word) (a : ℕ) (k : EvalKind) (vs : Forms Eval) (K : List Frame) (xs : ItemsRead) → Stays xs (MC.eval_word v a k vs K xs)
eval_word w.End a k vs K xs = ST.end_evals k vs K xs
eval_word w.Function a k vs K xs = begin_long H.Entry a (Evals k vs ∷ K) xs
eval_word v a k vs K xs = ST.begin_word v a (no_pending false) (Evals k vs ∷ K) xs

entry_word : (v : Word) (a : ℕ) (K : List Frame) (xs : ItemsRead) → Stays xs (MC.entry_word v a K xs)
entry_word v a [] xs = item_word v a [] xs
entry_word v a (Block k ss ∷ K) xs = stmt_word v a k ss K xs
entry_word v a (Evals k vs ∷ K) xs = eval_word v a k vs K xs
entry_word v a K xs = tt

entry_end : (K : List Frame) (xs : ItemsRead) → Stays xs (MC.entry_end K xs)
entry_end [] xs = stays xs
entry_end K xs = tt

entry_operator : (x : Operator) (m : Marks) (a : ℕ) (K : List Frame) (xs : ItemsRead) → Stays xs (MC.entry_operator x m a K xs)
entry_operator o.Semicolon m a K xs = stays xs
entry_operator x m a K xs = ST.begin_operator x m.ahead a (no_pending (is_return_allowed_in K)) K xs

at_entry : (s : Terminal) (m : Marks) (a : ℕ) (K : List Frame) (xs : ItemsRead) → Stays xs (MC.at_entry s m a K xs)
at_entry S.Newline m a K xs = stays xs
at_entry (S.Operator x) m a K xs = entry_operator x m a K xs
at_entry (S.Word v) m a K xs = entry_word v a K xs
at_entry (S.Name n) m a K xs = entry_name m n a K xs
at_entry S.End m a K xs = entry_end K xs
at_entry s m a K xs = ST.begin_operand s m a (no_pending (is_return_allowed_in K)) K xs

at_bound : (s : Terminal) (n : Name) (K : List Frame) (xs : ItemsRead) → Stays xs (MC.at_bound s n K xs)
at_bound (S.Operator o.Assign) n K xs = stays xs
at_bound s n K xs = tt

separator_after_return : (a : ℕ) (K : List Frame) (xs : ItemsRead) → Stays xs (MC.separator_after_return a K xs)
separator_after_return a (Block k ss ∷ K) xs = stays xs
separator_after_return a K xs = tt

end_return : (v : Word) (a : ℕ) (a1 : ℕ) (K : List Frame) (xs : ItemsRead) → Stays xs (MC.end_return v a a1 K xs)
end_return v b a (Block k ss ∷ K) xs = ST.block_word v b k (M.with_form ss (Z.ReturnNothing a) 0) K xs
end_return v b a K xs = tt

return_word : (v : Word) (a : ℕ) (a1 : ℕ) (K : List Frame) (xs : ItemsRead) → Stays xs (MC.return_word v a a1 K xs)
return_word w.End b a K xs = end_return w.End b a K xs
return_word w.Elseif b a K xs = end_return w.Elseif b a K xs
return_word w.Else b a K xs = end_return w.Else b a K xs
return_word v b a K xs = ST.begin_word v b (pending_after (L.Return a) true) K xs

return_operator : (x : Operator) (m : Marks) (a : ℕ) (a1 : ℕ) (K : List Frame) (xs : ItemsRead) → Stays xs (MC.return_operator x m a a1 K xs)
return_operator o.Semicolon m b a K xs = separator_after_return a K xs
return_operator x m b a K xs = ST.begin_operator x m.ahead b (pending_after (L.Return a) true) K xs

at_returned : (s : Terminal) (m : Marks) (a : ℕ) (a1 : ℕ) (K : List Frame) (xs : ItemsRead) → Stays xs (MC.at_returned s m a a1 K xs)
at_returned S.Newline m b a K xs = separator_after_return a K xs
at_returned (S.Operator x) m b a K xs = return_operator x m b a K xs
at_returned (S.Word v) m b a K xs = return_word v b a K xs
at_returned s m b a K xs = ST.begin_operand s m b (pending_after (L.Return a) true) K xs

name_after_eval : (b : Bool) (m : Marks) (n : List ℕ) (a : ℕ) (p : Pending) (a1 : ℕ) (K : List Frame) (xs : ItemsRead) → Stays xs (MC.name_after_eval b m n a p a1 K xs)
name_after_eval true m n b p a K xs = stays xs
name_after_eval false m n b p a K xs = ST.begin_operand (S.Name n) m b (pending_of_eval p a) K xs

word_after_eval : (v : Word) (a : ℕ) (p : Pending) (a1 : ℕ) (K : List Frame) (xs : ItemsRead) → Stays xs (MC.word_after_eval v a p a1 K xs)
word_after_eval w.Begin b p a K xs = stays xs
word_after_eval w.Function b p a K xs = begin_long (H.Evaluated p a) b K xs
word_after_eval v b p a K xs = ST.begin_word v b (pending_of_eval p a) K xs

token_after_eval : (s : Terminal) (m : Marks) (a : ℕ) (p : Pending) (a1 : ℕ) (K : List Frame) (xs : ItemsRead) → Stays xs (MC.token_after_eval s m a p a1 K xs)
token_after_eval (S.Name n) m b p a K xs = name_after_eval (is_method m.ahead) m n b p a K xs
token_after_eval (S.Word v) m b p a K xs = word_after_eval v b p a K xs
token_after_eval s m b p a K xs = ST.begin_operand s m b (pending_of_eval p a) K xs

due_dot : (d : Due) (p : Pending) (a : ℕ) (K : List Frame) (xs : ItemsRead) → Stays xs (MC.due_dot d p a K xs)
due_dot D.SpawnDot p a K xs = stays xs
due_dot D.LatestDot p a K xs = stays xs
due_dot D.DeleteDot p a K xs = stays xs
due_dot d p a K xs = tt

due_open : (d : Due) (p : Pending) (a : ℕ) (K : List Frame) (xs : ItemsRead) → Stays xs (MC.due_open d p a K xs)
due_open D.LatestOpen p a K xs = stays xs
due_open D.DeleteOpen p a K xs = stays xs
due_open D.WhichOpen p a K xs = stays xs
due_open D.FetchOpen p a K xs = stays xs
due_open (D.PrintOpen l) p a K xs = stays xs
due_open D.QuoteOpen p a K xs = stays xs
due_open d p a K xs = tt

due_which : (b : Bool) (p : Pending) (a : ℕ) (K : List Frame) (xs : ItemsRead) → Stays xs (MC.due_which b p a K xs)
due_which true p a K xs = stays xs
due_which false p a K xs = tt

due_name : (d : Due) (n : List ℕ) (a : ℕ) (p : Pending) (a1 : ℕ) (K : List Frame) (xs : ItemsRead) → Stays xs (MC.due_name d n a p a1 K xs)
due_name D.LatestName n b p a K xs = stays xs
due_name D.DeleteName n b p a K xs = stays xs
due_name D.WhichWord n b p a K xs = due_which (bytes_eq n (codes "which")) p a K xs
due_name D.WhichName n b p a K xs = stays xs
due_name d n b p a K xs = tt

due_macro : (d : Due) (p : Pending) (a : ℕ) (K : List Frame) (xs : ItemsRead) → Stays xs (MC.due_macro d p a K xs)
due_macro D.SpawnMacro p a K xs = stays xs
due_macro d p a K xs = tt

due_quote : (d : Due) (p : Pending) (a : ℕ) (K : List Frame) (xs : ItemsRead) → Stays xs (MC.due_quote d p a K xs)
due_quote D.QuoteWord p a K xs = stays xs
due_quote d p a K xs = tt

at_due : (s : Terminal) (a : ℕ) (p : Pending) (a1 : ℕ) (d : Due) (K : List Frame) (xs : ItemsRead) → Stays xs (MC.at_due s a p a1 d K xs)
at_due (S.Operator o.Dot) b p a d K xs = due_dot d p a K xs
at_due (S.Operator o.OpenParen) b p a d K xs = due_open d p a K xs
at_due (S.Name n) b p a d K xs = due_name d n b p a K xs
at_due (S.Macro n) b p a d K xs = due_macro d p a K xs
at_due (S.Word w.Quote) b p a d K xs = due_quote d p a K xs
at_due s b p a d K xs = tt

at_deleting : (s : Terminal) (p : Pending) (a : ℕ) (n : Name) (K : List Frame) (xs : ItemsRead) → Stays xs (MC.at_deleting s p a n K xs)
at_deleting (S.Operator o.Comma) p a n K xs = stays xs
at_deleting s p a n K xs = tt

at_function : (s : Terminal) (a : ℕ) (g : Purpose) (K : List Frame) (xs : ItemsRead) → Stays xs (MC.at_function s a g K xs)
at_function (S.Name n) a g K xs = stays xs
at_function s a g K xs = tt

open_known : (g : Purpose) (f : Callee) (K : List Frame) (xs : ItemsRead) → Stays xs (MC.open_known g f K xs)
open_known (R.Call p a) f K xs = stays xs
open_known (R.Head h) f K xs = stays xs
open_known (R.Latest p a) f K xs = tt

known_comma : (g : Purpose) (f : Callee) (K : List Frame) (xs : ItemsRead) → Stays xs (MC.known_comma g f K xs)
known_comma (R.Latest p a) f K xs = stays xs
known_comma g f K xs = tt

close_known : (g : Purpose) (f : Callee) (K : List Frame) (xs : ItemsRead) → Stays xs (MC.close_known g f K xs)
close_known (R.Latest p a) f K xs = stays xs
close_known g f K xs = tt

at_known : (s : Terminal) (g : Purpose) (f : Callee) (K : List Frame) (xs : ItemsRead) → Stays xs (MC.at_known s g f K xs)
at_known (S.Operator o.OpenParen) g f K xs = open_known g f K xs
at_known (S.Operator o.Comma) g f K xs = known_comma g f K xs
at_known (S.Operator o.CloseParen) g f K xs = close_known g f K xs
at_known s g f K xs = tt

dot_after_base : (b : Bool) (g : Purpose) (a : ℕ) (K : List Frame) (xs : ItemsRead) → Stays xs (MC.dot_after_base b g a K xs)
dot_after_base true g b K xs = stays xs
dot_after_base false g b K xs = tt

at_named : (s : Terminal) (g : Purpose) (n : Name) (K : List Frame) (xs : ItemsRead) → Stays xs (MC.at_named s g n K xs)
at_named (S.Operator o.Dot) g n K xs = dot_after_base (bytes_eq n.bytes (codes "Base")) g n.at K xs
at_named s g n K xs = at_known s g (F.Plain n) K xs

at_dotted : (s : Terminal) (a : ℕ) (g : Purpose) (a1 : ℕ) (K : List Frame) (xs : ItemsRead) → Stays xs (MC.at_dotted s a g a1 K xs)
at_dotted (S.Name n) a g b K xs = stays xs
at_dotted (S.Operator o.Colon) a g b K xs = stays xs
at_dotted s a g b K xs = tt

operator_after_base : (b : Bool) (x : Operator) (g : Purpose) (a : ℕ) (K : List Frame) (xs : ItemsRead) → Stays xs (MC.operator_after_base b x g a K xs)
operator_after_base true x g b K xs = stays xs
operator_after_base false x g b K xs = tt

at_colon : (s : Terminal) (g : Purpose) (a : ℕ) (K : List Frame) (xs : ItemsRead) → Stays xs (MC.at_colon s g a K xs)
at_colon (S.Operator x) g b K xs = operator_after_base (is_function x) x g b K xs
at_colon s g b K xs = tt

next_param : (s : Terminal) (a : ℕ) (h : Heading) (K : List Frame) (xs : ItemsRead) → Stays xs (MC.next_param s a h K xs)
next_param (S.Name n) a h K xs = stays xs
next_param (S.Operator o.HasType) a h K xs = stays xs
next_param s a h K xs = tt

first_param : (s : Terminal) (a : ℕ) (h : Heading) (K : List Frame) (xs : ItemsRead) → Stays xs (MC.first_param s a h K xs)
first_param (S.Operator o.CloseParen) a h K xs = stays xs
first_param s a h K xs = next_param s a h K xs

token_after_param : (s : Terminal) (h : Heading) (K : List Frame) (xs : ItemsRead) → Stays xs (MC.token_after_param s h K xs)
token_after_param (S.Operator o.Comma) h K xs = stays xs
token_after_param (S.Operator o.CloseParen) h K xs = stays xs
token_after_param s h K xs = tt

at_param : (s : Terminal) (a : ℕ) (h : Heading) (n : Name) (K : List Frame) (xs : ItemsRead) → Stays xs (MC.at_param s a h n K xs)
at_param (S.Operator o.HasType) a h n K xs = stays xs
at_param s a h n K xs = token_after_param s (with_param h (N.Name n) 0) K xs

begin_body : (l : Place) (h : Form Head) (K : List Frame) (xs : ItemsRead) → Stays xs (MC.begin_body l h K xs)
begin_body H.Entry h K xs = stays xs
begin_body (H.Evaluated p a) h K xs = stays xs

token_after_short_head : (s : Terminal) (l : Place) (h : Form Head) (K : List Frame) (xs : ItemsRead) → Stays xs (MC.token_after_short_head s l h K xs)
token_after_short_head (S.Operator o.Assign) l h K xs = begin_body l h K xs
token_after_short_head s l h K xs = tt

token_after_head : (b : Bool) (s : Terminal) (m : Marks) (a : ℕ) (l : Place) (h : Form Head) (K : List Frame) (xs : ItemsRead) → Stays xs (MC.token_after_head b s m a l h K xs)
token_after_head true s m a l h K xs = at_entry s m a (Block (B.Body l h) M.no_forms ∷ K) xs
token_after_head false s m a l h K xs = token_after_short_head s l h K xs

end_head : (s : Terminal) (m : Marks) (a : ℕ) (h : Heading) (vs : VarsForm) (K : List Frame) (xs : ItemsRead) → Stays xs (MC.end_head s m a h vs K xs)
end_head s m a h vs K xs = token_after_head h.start.long s m a h.start.place (M.head h.start.at h.callee h.params vs) K xs

at_headed : (s : Terminal) (m : Marks) (a : ℕ) (h : Heading) (K : List Frame) (xs : ItemsRead) → Stays xs (MC.at_headed s m a h K xs)
at_headed (S.Word w.Where) m a h K xs = stays xs
at_headed s m a h K xs = end_head s m a h M.no_vars K xs

where_turn : (t : Turn) (s : Terminal) (m : Marks) (a : ℕ) (h : Heading) (K : List Frame) (xs : ItemsRead) → Stays xs (MC.where_turn t s m a h K xs)
where_turn (T.Goes y) s m a h K xs = stays xs
where_turn (T.Variables vs) s m a h K xs = end_head s m a h (M.vars_form vs) K xs
where_turn u1 s m a h K xs = tt

begin_abstract : (b : Bool) (a : ℕ) (K : List Frame) (xs : ItemsRead) → Stays xs (MC.begin_abstract b a K xs)
begin_abstract true a K xs = stays xs
begin_abstract false a K xs = tt

at_abstract : (s : Terminal) (a : ℕ) (K : List Frame) (xs : ItemsRead) → Stays xs (MC.at_abstract s a K xs)
at_abstract (S.Name n) a K xs = begin_abstract (bytes_eq n (codes "type")) a K xs
at_abstract s a K xs = tt

at_decl : (s : Terminal) (a : ℕ) (a1 : ℕ) (b : Bool) (K : List Frame) (xs : ItemsRead) → Stays xs (MC.at_decl s a a1 b K xs)
at_decl (S.Name n) b a k K xs = stays xs
at_decl s b a k K xs = tt

token_after_struct : (s : Terminal) (h : Form Header) (K : List Frame) (xs : ItemsRead) → Stays xs (MC.token_after_struct s h K xs)
token_after_struct S.Newline h K xs = stays xs
token_after_struct (S.Operator o.Semicolon) h K xs = stays xs
token_after_struct (S.Word w.End) h K xs = stays xs
token_after_struct s h K xs = tt

token_after_abstract : (s : Terminal) (h : Form Header) (K : List Frame) (xs : ItemsRead) → Stays xs (MC.token_after_abstract s h K xs)
token_after_abstract (S.Word w.End) h K xs = stays xs
token_after_abstract s h K xs = tt

token_after_header : (b : Bool) (s : Terminal) (h : Form Header) (K : List Frame) (xs : ItemsRead) → Stays xs (MC.token_after_header b s h K xs)
token_after_header true s h K xs = token_after_struct s h K xs
token_after_header false s h K xs = token_after_abstract s h K xs

end_header : (s : Terminal) (d : Declaring) (t : Option TypeForm) (K : List Frame) (xs : ItemsRead) → Stays xs (MC.end_header s d t K xs)
end_header s d t K xs = token_after_header d.is_struct s (M.header d.at d.name d.params t) K xs

token_after_params : (s : Terminal) (d : Declaring) (K : List Frame) (xs : ItemsRead) → Stays xs (MC.token_after_params s d K xs)
token_after_params (S.Operator o.Subtype) d K xs = stays xs
token_after_params s d K xs = end_header s d None K xs

at_declared : (s : Terminal) (d : Declaring) (K : List Frame) (xs : ItemsRead) → Stays xs (MC.at_declared s d K xs)
at_declared (S.Operator o.OpenBrace) d K xs = stays xs
at_declared s d K xs = token_after_params s d K xs

params_turn : (t : Turn) (s : Terminal) (d : Declaring) (K : List Frame) (xs : ItemsRead) → Stays xs (MC.params_turn t s d K xs)
params_turn (T.Goes y) s d K xs = stays xs
params_turn (T.Variables vs) s d K xs = token_after_params s (with_params d (M.vars_form vs)) K xs
params_turn u1 s d K xs = tt

token_after_field : (s : Terminal) (f : Fielding) (K : List Frame) (xs : ItemsRead) → Stays xs (MC.token_after_field s f K xs)
token_after_field S.Newline f K xs = stays xs
token_after_field (S.Operator o.Semicolon) f K xs = stays xs
token_after_field (S.Word w.End) f K xs = stays xs
token_after_field s f K xs = tt

at_fields : (s : Terminal) (a : ℕ) (f : Fielding) (K : List Frame) (xs : ItemsRead) → Stays xs (MC.at_fields s a f K xs)
at_fields (S.Name n) a f K xs = stays xs
at_fields s a f K xs = token_after_field s f K xs

at_field : (s : Terminal) (f : Fielding) (n : Name) (K : List Frame) (xs : ItemsRead) → Stays xs (MC.at_field s f n K xs)
at_field (S.Operator o.HasType) f n K xs = stays xs
at_field s f n K xs = token_after_field s (with_field f n None 0) K xs

separator_after_item : (x : Form Item) (K : List Frame) (xs : ItemsRead) → Stays xs (MC.separator_after_item x K xs)
separator_after_item x [] xs = added xs x
separator_after_item x K xs = tt

at_made : (s : Terminal) (x : Form Item) (K : List Frame) (xs : ItemsRead) → Stays xs (MC.at_made s x K xs)
at_made S.Newline x K xs = separator_after_item x K xs
at_made (S.Operator o.Semicolon) x K xs = separator_after_item x K xs
at_made S.End x K xs = separator_after_item x K xs
at_made s x K xs = tt

separator_after_method : (m : Form Method) (K : List Frame) (xs : ItemsRead) → Stays xs (MC.separator_after_method m K xs)
separator_after_method m [] xs = added xs (M.method_item m)
separator_after_method m (Evals k vs ∷ K) xs = stays xs
separator_after_method m K xs = tt

end_after_method : (m : Form Method) (K : List Frame) (xs : ItemsRead) → Stays xs (MC.end_after_method m K xs)
end_after_method m (Evals k vs ∷ K) xs = ST.end_evals k (with_method vs m) K xs
end_after_method m K xs = tt

source_end_after_method : (m : Form Method) (K : List Frame) (xs : ItemsRead) → Stays xs (MC.source_end_after_method m K xs)
source_end_after_method m [] xs = added xs (M.method_item m)
source_end_after_method m K xs = tt

at_made_method : (s : Terminal) (m : Form Method) (K : List Frame) (xs : ItemsRead) → Stays xs (MC.at_made_method s m K xs)
at_made_method S.Newline m K xs = separator_after_method m K xs
at_made_method (S.Operator o.Semicolon) m K xs = separator_after_method m K xs
at_made_method (S.Word w.End) m K xs = end_after_method m K xs
at_made_method S.End m K xs = source_end_after_method m K xs
at_made_method s m K xs = tt

token_after_left : (s : Terminal) (p : Pending) (a : ℕ) (t : TypeForm) (K : List Frame) (xs : ItemsRead) → Stays xs (MC.token_after_left s p a t K xs)
token_after_left (S.Operator o.Subtype) p a t K xs = stays xs
token_after_left s p a t K xs = tt

open_make : (s : Terminal) (p : Pending) (a : ℕ) (t : TypeForm) (K : List Frame) (xs : ItemsRead) → Stays xs (MC.open_make s p a t K xs)
open_make (S.Operator o.OpenParen) p a t K xs = stays xs
open_make s p a t K xs = tt

close_which : (s : Terminal) (p : Pending) (a : ℕ) (n : Name) (t : TypeForm) (K : List Frame) (xs : ItemsRead) → Stays xs (MC.close_which s p a n t K xs)
close_which (S.Operator o.CloseParen) p a n t K xs = stays xs
close_which s p a n t K xs = tt

token_after_type : (s : Terminal) (a : ℕ) (g : Goal) (t : TypeForm) (K : List Frame) (xs : ItemsRead) → Stays xs (MC.token_after_type s a g t K xs)
token_after_type s b (G.Isa p e) t K xs = ST.token_after_comparison s b p (M.isa_expr e t) K xs
token_after_type s b (G.Left p a) t K xs = token_after_left s p a t K xs
token_after_type s b (G.Right p a l) t K xs = ST.token_after_comparison s b p (M.sub_expr a l t) K xs
token_after_type s b (G.Make p a) t K xs = open_make s p a t K xs
token_after_type s b (G.Delete p a n) t K xs = close_which s p a n t K xs
token_after_type s b (G.Param h x a) t K xs = token_after_param s (with_param h (M.typed_param x a t) t.depth) K xs
token_after_type s b (G.Parent d) t K xs = end_header s d (Some t) K xs
token_after_type s b (G.Field f n) t K xs = token_after_field s (with_field f n (Some t.tree) t.depth) K xs

type_step : (t : Turn) (s : Terminal) (a : ℕ) (g : Goal) (K : List Frame) (xs : ItemsRead) → Stays xs (MC.type_step t s a g K xs)
type_step (T.Goes y) s b g K xs = stays xs
type_step (T.Type t) s b g K xs = token_after_type s b g (M.type_form t) K xs
type_step u1 s b g K xs = tt

pub step_by : (s : Terminal) (m : Marks) (a : ℕ) (q : Point) (K : List Frame) (xs : ItemsRead) → Stays xs (MC.step_by s m a q K xs)
step_by s m a P.Entry K xs = at_entry s m a K xs
step_by s m a (P.Bound n) K xs = at_bound s n K xs
step_by s m a (P.Returned b) K xs = at_returned s m a b K xs
step_by s m a (P.Want p) K xs = ST.begin_operand s m a p K xs
step_by s m a (P.First r) K xs = ST.at_first s m a r K xs
step_by s m a (P.Again r) K xs = ST.at_again s m a r K xs
step_by s m a (P.Piece r) K xs = ST.at_piece s m a r K xs
step_by s m a P.Texted K xs = ST.at_texted s K xs
step_by s m a (P.Have p e) K xs = ST.token_after_operand s a p e K xs
step_by s m a (P.Dot p e) K xs = ST.at_dot s a p e K xs
step_by s m a (P.Index p e) K xs = ST.at_index s p e K xs
step_by s m a (P.Indexed p e n) K xs = ST.at_indexed s p e n K xs
step_by s m a (P.Due p b d) K xs = at_due s a p b d K xs
step_by s m a (P.Deleting p b n) K xs = at_deleting s p b n K xs
step_by s m a (P.Ending p e) K xs = ST.at_ending s p e K xs
step_by s m a (P.AfterEval p b) K xs = token_after_eval s m a p b K xs
step_by s m a (P.Function g) K xs = at_function s a g K xs
step_by s m a (P.Named g n) K xs = at_named s g n K xs
step_by s m a (P.Dotted g b) K xs = at_dotted s a g b K xs
step_by s m a (P.Colon g b) K xs = at_colon s g b K xs
step_by s m a (P.Known g f) K xs = at_known s g f K xs
step_by s m a (P.FirstParam h) K xs = first_param s a h K xs
step_by s m a (P.NextParam h) K xs = next_param s a h K xs
step_by s m a (P.Param h n) K xs = at_param s a h n K xs
step_by s m a (P.Headed h) K xs = at_headed s m a h K xs
step_by s m a (P.Where h y) K xs = where_turn (Y.step_at s a y.point y.stack) s m a h K xs
step_by s m a (P.Type g y) K xs = type_step (Y.step_at s a y.point y.stack) s a g K xs
step_by s m a (P.AbstractWord b) K xs = at_abstract s b K xs
step_by s m a (P.DeclName b k) K xs = at_decl s a b k K xs
step_by s m a (P.Declared d) K xs = at_declared s d K xs
step_by s m a (P.Params d y) K xs = params_turn (Y.step_at s a y.point y.stack) s d K xs
step_by s m a (P.Fields f) K xs = at_fields s a f K xs
step_by s m a (P.Field f n) K xs = at_field s f n K xs
step_by s m a (P.Made x) K xs = at_made s x K xs
step_by s m a (P.MadeMethod x) K xs = at_made_method s x K xs

-- the first item that is too deep, of a reading
abbrev pub depth_of : Option State → Option ℕ
depth_of None = None
depth_of (Some s) = s.script.too_deep

-- the reading is wrong, or its first item that is too deep is this one
abbrev pub IsDeep : ℕ → Option State → Type 0
IsDeep a None = Unit {0}
IsDeep a (Some s) = s.script.too_deep ≡ Some a

deep_of : (o : Option State) (xs : ItemsRead) (a : ℕ) → Stays xs o → xs.too_deep ≡ Some a → IsDeep a o
deep_of None xs a h d = tt
deep_of (Some s) xs a h d = h a d

step_deep : (t : Marked) (o : Option State) (a : ℕ) → IsDeep a o → IsDeep a (MC.step t o)
step_deep t None a d = tt
step_deep t (Some s) a d = deep_of (MC.step t (Some s)) s.script a (step_by t.lexeme.terminal t.marks t.lexeme.at s.point s.stack s.script) d

-- all these tokens
pub step_all_deep : (ts : List Marked) (o : Option State) (a : ℕ) → IsDeep a o → IsDeep a (MC.step_all ts o)
step_all_deep [] o a d = d
step_all_deep (t ∷ ts) o a d = step_all_deep ts (MC.step t o) a (step_deep t o a d)
