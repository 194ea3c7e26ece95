-- A reading, token by token: entries, heads, declarations, and the step.
use Rattle.std.specs.Prelude.{ℕ, ℤ, pos, int_le, Bool, true, false, cond, codes, bytes_eq, List, [], ◌∷◌, ◌++◌, Option, Some, None}
use Rattle.jl_token.specs.declared.token.Operator.{Operator}
use Rattle.jl_token.specs.declared.token.Operator.TheVariants as o
use Rattle.jl_typeread.specs.declared.deep.Deep.{Deep}
use Rattle.jl_typeread.specs.declared.terminal.Terminal.{Terminal}
use Rattle.jl_typeread.specs.declared.terminal.Terminal.TheVariants as S
use Rattle.jl_typeread.specs.declared.terminal.Word.{Word}
use Rattle.jl_typeread.specs.declared.terminal.Word.TheVariants as w
use Rattle.jl_typeread.specs.declared.state.Bound.TheVariants.{First}
use Rattle.jl_typeread.specs.declared.state.Frame.TheVariants.{Variable}
use Rattle.jl_typeread.specs.declared.state.Enclosure.TheVariants.{Braces}
use Rattle.jl_typeread.specs.declared.state.Point.TheVariants as Q
use Rattle.jl_typeread.specs.declared.state.State.{State as TypeState}
use Rattle.jl_typeread.specs.declared.state.Turn.{Turn}
use Rattle.jl_typeread.specs.declared.state.Turn.TheVariants as T
use Rattle.jl_typeread.specs.Depth.{no_variables}
use Rattle.jl_typeread.specs.Machine as Y
use Rattle.jl_grammar.specs.declared.mark.Ahead.{Ahead}
use Rattle.jl_grammar.specs.declared.mark.Marked.{Marked}
use Rattle.jl_grammar.specs.declared.mark.Marks.{Marks}
use Rattle.jl_grammar.specs.declared.mark.Opening.{Opening}
use Rattle.jl_grammar.specs.declared.mark.Opening.TheVariants as O
use Rattle.jl_grammar.specs.declared.state.BlockKind.{BlockKind}
use Rattle.jl_grammar.specs.declared.state.BlockKind.TheVariants as B
use Rattle.jl_grammar.specs.declared.state.Called.TheVariants as C
use Rattle.jl_grammar.specs.declared.state.Declaring.{Declaring}
use Rattle.jl_grammar.specs.declared.state.Due.{Due}
use Rattle.jl_grammar.specs.declared.state.Due.TheVariants as D
use Rattle.jl_grammar.specs.declared.state.EvalKind.{EvalKind}
use Rattle.jl_grammar.specs.declared.state.EvalKind.TheVariants as E
use Rattle.jl_grammar.specs.declared.state.Fielding.{Fielding}
use Rattle.jl_grammar.specs.declared.state.Form.{Form}
use Rattle.jl_grammar.specs.declared.state.Forms.{Forms}
use Rattle.jl_grammar.specs.declared.state.Frame.{Frame}
use Rattle.jl_grammar.specs.declared.state.Frame.TheVariants.{Paren, Tuple, Args, Fetch, Print, Then, Test, Block, Evals}
use Rattle.jl_grammar.specs.declared.state.Goal.{Goal}
use Rattle.jl_grammar.specs.declared.state.Goal.TheVariants as G
use Rattle.jl_grammar.specs.declared.state.Heading.{Heading}
use Rattle.jl_grammar.specs.declared.state.ItemsRead.{ItemsRead}
use Rattle.jl_grammar.specs.declared.state.Lead.{Lead}
use Rattle.jl_grammar.specs.declared.state.Lead.TheVariants as L
use Rattle.jl_grammar.specs.declared.state.Levels.{Levels}
use Rattle.jl_grammar.specs.declared.state.Outer.TheVariants as X
use Rattle.jl_grammar.specs.declared.state.Pending.{Pending}
use Rattle.jl_grammar.specs.declared.state.Place.{Place}
use Rattle.jl_grammar.specs.declared.state.Place.TheVariants as H
use Rattle.jl_grammar.specs.declared.state.Point.{Point}
use Rattle.jl_grammar.specs.declared.state.Point.TheVariants as P
use Rattle.jl_grammar.specs.declared.state.Purpose.{Purpose}
use Rattle.jl_grammar.specs.declared.state.Purpose.TheVariants as R
use Rattle.jl_grammar.specs.declared.state.State.{State}
use Rattle.jl_grammar.specs.declared.state.TypeForm.{TypeForm}
use Rattle.jl_grammar.specs.declared.state.VarsForm.{VarsForm}
use Rattle.jl_grammar.specs.declared.tree.Callee.{Callee}
use Rattle.jl_grammar.specs.declared.tree.Callee.TheVariants as F
use Rattle.jl_grammar.specs.declared.tree.Eval.{Eval}
use Rattle.jl_grammar.specs.declared.tree.Eval.TheVariants as V
use Rattle.jl_grammar.specs.declared.tree.Expr.{Expr}
use Rattle.jl_grammar.specs.declared.tree.Head.{Head}
use Rattle.jl_grammar.specs.declared.tree.Header.{Header}
use Rattle.jl_grammar.specs.declared.tree.Infix.{Infix}
use Rattle.jl_grammar.specs.declared.tree.Infix.TheVariants as I
use Rattle.jl_grammar.specs.declared.tree.Item.{Item}
use Rattle.jl_grammar.specs.declared.tree.Method.{Method}
use Rattle.jl_grammar.specs.declared.tree.Name.{Name}
use Rattle.jl_grammar.specs.declared.tree.Param.{Param}
use Rattle.jl_grammar.specs.declared.tree.Param.TheVariants as N
use Rattle.jl_grammar.specs.declared.tree.Prefix.TheVariants as U
use Rattle.jl_grammar.specs.declared.tree.Stmt.{Stmt}
use Rattle.jl_grammar.specs.declared.tree.Stmt.TheVariants as Z
use Rattle.jl_grammar.specs.Forms as M
use Rattle.jl_grammar.specs.Levels.{no_levels, pending_after, no_pending, push_outer, with_levels, as_sum, as_comparison, as_or, expression, levels_after_prefix, levels_after_term, levels_after_sum, levels_after_comparison, levels_after_type, levels_after_and, levels_after_or, is_comparison_start, no_left}
use Rattle.jl_grammar.specs.Marks.{is_function}
use Rattle.jl_grammar.specs.Texts.{is_method, is_binding, is_left_type}
use Rattle.jl_typeread.specs.declared.tree.TypeText.{TypeText}
use Rattle.jl_grammar.specs.Turns.{at, name_at, is_return_allowed, is_return_allowed_in, with_stmt, with_method, with_eval, item_of, end_block, block_elseif, block_else, block_word, end_evals, evals_word, token_after_comparison, token_after_operand, type_start, type_turn, begin_operand, begin_word, begin_operator, at_first, at_again, at_piece, at_texted, at_dot, at_index, at_indexed, at_ending}

-- ---- entries of a script and of blocks

-- the name that an entry begins with
abbrev pub begin_item : Bool → Bool → Marks → List ℕ → ℕ → List Frame → ItemsRead → Option State
begin_item true b m n a K xs = at (P.Named (R.Head (record { place = H.Entry; long = false; at = a })) (name_at a n)) K xs
begin_item false true m n a K xs = at (P.Bound (name_at a n)) K xs
begin_item false false m n a K xs = begin_operand (S.Name n) m a (no_pending false) K xs

abbrev pub begin_stmt : Bool → Bool → Marks → List ℕ → ℕ → List Frame → ItemsRead → Option State
begin_stmt true r m n a K xs = at (P.Bound (name_at a n)) K xs
begin_stmt false r m n a K xs = begin_operand (S.Name n) m a (no_pending r) K xs

abbrev pub begin_eval : Bool → Marks → List ℕ → ℕ → List Frame → ItemsRead → Option State
begin_eval true m n a K xs = at (P.Named (R.Head (record { place = H.Entry; long = false; at = a })) (name_at a n)) K xs
begin_eval false m n a K xs = begin_operand (S.Name n) m a (no_pending false) K xs

abbrev pub entry_name : Marks → List ℕ → ℕ → List Frame → ItemsRead → Option State
entry_name m n a [] xs = begin_item (is_method m.ahead) (is_binding m.opening) m n a [] xs
entry_name m n a (Block k ss ∷ K) xs = begin_stmt (is_binding m.opening) (is_return_allowed k) m n a (Block k ss ∷ K) xs
entry_name m n a (Evals k vs ∷ K) xs = begin_eval (is_method m.ahead) m n a (Evals k vs ∷ K) xs
entry_name m n a K xs = None

abbrev pub begin_long : Place → ℕ → List Frame → ItemsRead → Option State
begin_long l a K xs = at (P.Function (R.Head (record { place = l; long = true; at = a }))) K xs

-- a reserved word at an item, a statement, an evaluated statement
abbrev pub item_word : Word → ℕ → List Frame → ItemsRead → Option State
item_word w.Abstract a K xs = at (P.AbstractWord a) K xs
item_word w.Struct a K xs = at (P.DeclName a true) K xs
item_word w.Function a K xs = begin_long H.Entry a K xs
item_word v a K xs = begin_word v a (no_pending false) K xs

abbrev pub begin_return : Bool → ℕ → List Frame → ItemsRead → Option State
begin_return true a K xs = at (P.Returned a) K xs
begin_return false a K xs = None

abbrev pub stmt_word : Word → ℕ → BlockKind → Forms Stmt → List Frame → ItemsRead → Option State
stmt_word w.End a k ss K xs = end_block k ss K xs
stmt_word w.Elseif a k ss K xs = block_elseif a k ss K xs
stmt_word w.Else a k ss K xs = block_else k ss K xs
stmt_word w.Return a k ss K xs = begin_return (is_return_allowed k) a (Block k ss ∷ K) xs
stmt_word v a k ss K xs = begin_word v a (no_pending (is_return_allowed k)) (Block k ss ∷ K) xs

abbrev pub eval_word : Word → ℕ → EvalKind → Forms Eval → List Frame → ItemsRead → Option State
eval_word w.End a k vs K xs = end_evals k vs K xs
eval_word w.Function a k vs K xs = begin_long H.Entry a (Evals k vs ∷ K) xs
eval_word v a k vs K xs = begin_word v a (no_pending false) (Evals k vs ∷ K) xs

abbrev pub entry_word : Word → ℕ → List Frame → ItemsRead → Option State
entry_word v a [] xs = item_word v a [] xs
entry_word v a (Block k ss ∷ K) xs = stmt_word v a k ss K xs
entry_word v a (Evals k vs ∷ K) xs = eval_word v a k vs K xs
entry_word v a K xs = None

-- the source's end at an entry
abbrev pub entry_end : List Frame → ItemsRead → Option State
entry_end [] xs = at P.Entry [] xs
entry_end K xs = None

abbrev pub entry_operator : Operator → Marks → ℕ → List Frame → ItemsRead → Option State
entry_operator o.Semicolon m a K xs = at P.Entry K xs
entry_operator x m a K xs = begin_operator x m.ahead a (no_pending (is_return_allowed_in K)) K xs

abbrev pub at_entry : Terminal → Marks → ℕ → List Frame → ItemsRead → Option State
at_entry S.Newline m a K xs = at P.Entry K xs
at_entry (S.Operator x) m a K xs = entry_operator x m a K xs
at_entry (S.Word v) m a K xs = entry_word v a K xs
at_entry (S.Name n) m a K xs = entry_name m n a K xs
at_entry S.End m a K xs = entry_end K xs
at_entry s m a K xs = begin_operand s m a (no_pending (is_return_allowed_in K)) K xs

-- behind the name of a binding
abbrev pub at_bound : Terminal → Name → List Frame → ItemsRead → Option State
at_bound (S.Operator o.Assign) n K xs = at (P.Want (pending_after (L.Bind n) (is_return_allowed_in K))) K xs
at_bound s n K xs = None

-- behind `return`
abbrev pub separator_after_return : ℕ → List Frame → ItemsRead → Option State
separator_after_return a (Block k ss ∷ K) xs = at P.Entry (Block k (M.with_form ss (Z.ReturnNothing a) 0) ∷ K) xs
separator_after_return a K xs = None

abbrev pub end_return : Word → ℕ → ℕ → List Frame → ItemsRead → Option State
end_return v b a (Block k ss ∷ K) xs = block_word v b k (M.with_form ss (Z.ReturnNothing a) 0) K xs
end_return v b a K xs = None

abbrev pub return_word : Word → ℕ → ℕ → List Frame → ItemsRead → Option State
return_word w.End b a K xs = end_return w.End b a K xs
return_word w.Elseif b a K xs = end_return w.Elseif b a K xs
return_word w.Else b a K xs = end_return w.Else b a K xs
return_word v b a K xs = begin_word v b (pending_after (L.Return a) true) K xs

abbrev pub return_operator : Operator → Marks → ℕ → ℕ → List Frame → ItemsRead → Option State
return_operator o.Semicolon m b a K xs = separator_after_return a K xs
return_operator x m b a K xs = begin_operator x m.ahead b (pending_after (L.Return a) true) K xs

abbrev pub at_returned : Terminal → Marks → ℕ → ℕ → List Frame → ItemsRead → Option State
at_returned S.Newline m b a K xs = separator_after_return a K xs
at_returned (S.Operator x) m b a K xs = return_operator x m b a K xs
at_returned (S.Word v) m b a K xs = return_word v b a K xs
at_returned s m b a K xs = begin_operand s m b (pending_after (L.Return a) true) K xs

-- ---- special forms

-- the expression behind `@eval`
abbrev pub pending_of_eval : Pending → ℕ → Pending
pending_of_eval p a = push_outer (X.Eval p.levels a) false p

-- behind `@eval`
abbrev pub name_after_eval : Bool → Marks → List ℕ → ℕ → Pending → ℕ → List Frame → ItemsRead → Option State
name_after_eval true m n b p a K xs = at (P.Named (R.Head (record { place = H.Evaluated p a; long = false; at = b })) (name_at b n)) K xs
name_after_eval false m n b p a K xs = begin_operand (S.Name n) m b (pending_of_eval p a) K xs

abbrev pub word_after_eval : Word → ℕ → Pending → ℕ → List Frame → ItemsRead → Option State
word_after_eval w.Begin b p a K xs = at P.Entry (Evals (E.Begin p a) M.no_forms ∷ K) xs
word_after_eval w.Function b p a K xs = begin_long (H.Evaluated p a) b K xs
word_after_eval v b p a K xs = begin_word v b (pending_of_eval p a) K xs

abbrev pub token_after_eval : Terminal → Marks → ℕ → Pending → ℕ → List Frame → ItemsRead → Option State
token_after_eval (S.Name n) m b p a K xs = name_after_eval (is_method m.ahead) m n b p a K xs
token_after_eval (S.Word v) m b p a K xs = word_after_eval v b p a K xs
token_after_eval s m b p a K xs = begin_operand s m b (pending_of_eval p a) K xs

-- the fixed tokens of the other forms
abbrev pub due_dot : Due → Pending → ℕ → List Frame → ItemsRead → Option State
due_dot D.SpawnDot p a K xs = at (P.Due p a D.SpawnMacro) K xs
due_dot D.LatestDot p a K xs = at (P.Due p a D.LatestName) K xs
due_dot D.DeleteDot p a K xs = at (P.Due p a D.DeleteName) K xs
due_dot d p a K xs = None

abbrev pub due_open : Due → Pending → ℕ → List Frame → ItemsRead → Option State
due_open D.LatestOpen p a K xs = at (P.Function (R.Latest p a)) K xs
due_open D.DeleteOpen p a K xs = at (P.Due p a D.WhichWord) K xs
due_open D.WhichOpen p a K xs = at (P.Due p a D.WhichName) K xs
due_open D.FetchOpen p a K xs = at (P.Want (no_pending p.returns)) (Fetch p a ∷ K) xs
due_open (D.PrintOpen l) p a K xs = at (P.First p.returns) (Print p a l M.no_forms ∷ K) xs
due_open D.QuoteOpen p a K xs = at (P.Due p a D.QuoteWord) K xs
due_open d p a K xs = None

-- the word `which`
abbrev pub due_which : Bool → Pending → ℕ → List Frame → ItemsRead → Option State
due_which true p a K xs = at (P.Due p a D.WhichOpen) K xs
due_which false p a K xs = None

abbrev pub due_name : Due → List ℕ → ℕ → Pending → ℕ → List Frame → ItemsRead → Option State
due_name D.LatestName n b p a K xs = at (P.Due p a D.LatestOpen) K xs
due_name D.DeleteName n b p a K xs = at (P.Due p a D.DeleteOpen) K xs
due_name D.WhichWord n b p a K xs = due_which (bytes_eq n (codes "which")) p a K xs
due_name D.WhichName n b p a K xs = at (P.Deleting p a (name_at b n)) K xs
due_name d n b p a K xs = None

abbrev pub due_macro : Due → Pending → ℕ → List Frame → ItemsRead → Option State
due_macro D.SpawnMacro p a K xs = at (P.Want (push_outer (X.Spawn p.levels a) false p)) K xs
due_macro d p a K xs = None

abbrev pub due_quote : Due → Pending → ℕ → List Frame → ItemsRead → Option State
due_quote D.QuoteWord p a K xs = at P.Entry (Evals (E.Quote p a) M.no_forms ∷ K) xs
due_quote d p a K xs = None

abbrev pub at_due : Terminal → ℕ → Pending → ℕ → Due → List Frame → ItemsRead → Option State
at_due (S.Operator o.Dot) b p a d K xs = due_dot d p a K xs
at_due (S.Operator o.OpenParen) b p a d K xs = due_open d p a K xs
at_due (S.Name n) b p a d K xs = due_name d n b p a K xs
at_due (S.Macro n) b p a d K xs = due_macro d p a K xs
at_due (S.Word w.Quote) b p a d K xs = due_quote d p a K xs
at_due s b p a d K xs = None

-- behind the name in `Base.delete_method(which(f`
abbrev pub at_deleting : Terminal → Pending → ℕ → Name → List Frame → ItemsRead → Option State
at_deleting (S.Operator o.Comma) p a n K xs = at (P.Type (G.Delete p a n) type_start) K xs
at_deleting s p a n K xs = None

-- ---- names of functions

abbrev pub at_function : Terminal → ℕ → Purpose → List Frame → ItemsRead → Option State
at_function (S.Name n) a g K xs = at (P.Named g (name_at a n)) K xs
at_function s a g K xs = None

abbrev pub open_known : Purpose → Callee → List Frame → ItemsRead → Option State
open_known (R.Call p a) f K xs = at (P.First p.returns) (Args p a (C.Function f) M.no_forms ∷ K) xs
open_known (R.Head h) f K xs = at (P.FirstParam (record { start = h; callee = f; params = M.no_forms })) K xs
open_known (R.Latest p a) f K xs = None

abbrev pub known_comma : Purpose → Callee → List Frame → ItemsRead → Option State
known_comma (R.Latest p a) f K xs = at (P.Want (no_pending p.returns)) (Args p a (C.Latest f) M.no_forms ∷ K) xs
known_comma g f K xs = None

abbrev pub close_known : Purpose → Callee → List Frame → ItemsRead → Option State
close_known (R.Latest p a) f K xs = at (P.Have p (M.call_expr a (C.Latest f) M.no_forms)) K xs
close_known g f K xs = None

abbrev pub at_known : Terminal → Purpose → Callee → List Frame → ItemsRead → Option State
at_known (S.Operator o.OpenParen) g f K xs = open_known g f K xs
at_known (S.Operator o.Comma) g f K xs = known_comma g f K xs
at_known (S.Operator o.CloseParen) g f K xs = close_known g f K xs
at_known s g f K xs = None

abbrev pub dot_after_base : Bool → Purpose → ℕ → List Frame → ItemsRead → Option State
dot_after_base true g b K xs = at (P.Dotted g b) K xs
dot_after_base false g b K xs = None

abbrev pub at_named : Terminal → Purpose → Name → List Frame → ItemsRead → Option State
at_named (S.Operator o.Dot) g n K xs = dot_after_base (bytes_eq n.bytes (codes "Base")) g n.at K xs
at_named s g n K xs = at_known s g (F.Plain n) K xs

abbrev pub at_dotted : Terminal → ℕ → Purpose → ℕ → List Frame → ItemsRead → Option State
at_dotted (S.Name n) a g b K xs = at (P.Known g (F.Base b (name_at a n))) K xs
at_dotted (S.Operator o.Colon) a g b K xs = at (P.Colon g b) K xs
at_dotted s a g b K xs = None

abbrev pub operator_after_base : Bool → Operator → Purpose → ℕ → List Frame → ItemsRead → Option State
operator_after_base true x g b K xs = at (P.Known g (F.Operator b x)) K xs
operator_after_base false x g b K xs = None

abbrev pub at_colon : Terminal → Purpose → ℕ → List Frame → ItemsRead → Option State
at_colon (S.Operator x) g b K xs = operator_after_base (is_function x) x g b K xs
at_colon s g b K xs = None

-- ---- heads of methods

abbrev pub with_param : Heading → Param → ℕ → Heading
with_param h x d = record { start = h.start; callee = h.callee; params = M.with_form h.params x d }

abbrev pub next_param : Terminal → ℕ → Heading → List Frame → ItemsRead → Option State
next_param (S.Name n) a h K xs = at (P.Param h (name_at a n)) K xs
next_param (S.Operator o.HasType) a h K xs = at (P.Type (G.Param h None a) type_start) K xs
next_param s a h K xs = None

abbrev pub first_param : Terminal → ℕ → Heading → List Frame → ItemsRead → Option State
first_param (S.Operator o.CloseParen) a h K xs = at (P.Headed h) K xs
first_param s a h K xs = next_param s a h K xs

-- behind a parameter
abbrev pub token_after_param : Terminal → Heading → List Frame → ItemsRead → Option State
token_after_param (S.Operator o.Comma) h K xs = at (P.NextParam h) K xs
token_after_param (S.Operator o.CloseParen) h K xs = at (P.Headed h) K xs
token_after_param s h K xs = None

abbrev pub at_param : Terminal → ℕ → Heading → Name → List Frame → ItemsRead → Option State
at_param (S.Operator o.HasType) a h n K xs = at (P.Type (G.Param h (Some n) a) type_start) K xs
at_param s a h n K xs = token_after_param s (with_param h (N.Name n) 0) K xs

-- `=` behind a head
abbrev pub begin_body : Place → Form Head → List Frame → ItemsRead → Option State
begin_body H.Entry h K xs = at (P.Want (pending_after (L.Short h) true)) K xs
begin_body (H.Evaluated p a) h K xs = at (P.Want (push_outer (X.Short p.levels a h) true p)) K xs

abbrev pub token_after_short_head : Terminal → Place → Form Head → List Frame → ItemsRead → Option State
token_after_short_head (S.Operator o.Assign) l h K xs = begin_body l h K xs
token_after_short_head s l h K xs = None

-- behind a head with its `where`: the body of a method that was begun by `function` begins with this token
abbrev pub token_after_head : Bool → Terminal → Marks → ℕ → Place → Form Head → List Frame → ItemsRead → Option State
token_after_head true s m a l h K xs = at_entry s m a (Block (B.Body l h) M.no_forms ∷ K) xs
token_after_head false s m a l h K xs = token_after_short_head s l h K xs

abbrev pub end_head : Terminal → Marks → ℕ → Heading → VarsForm → List Frame → ItemsRead → Option State
end_head s m a h vs K xs = token_after_head h.start.long s m a h.start.place (M.head h.start.at h.callee h.params vs) K xs

abbrev pub where_start : TypeState
where_start = record { point = Q.Where; stack = [] }

abbrev pub at_headed : Terminal → Marks → ℕ → Heading → List Frame → ItemsRead → Option State
at_headed (S.Word w.Where) m a h K xs = at (P.Where h where_start) K xs
at_headed s m a h K xs = end_head s m a h M.no_vars K xs

abbrev pub where_turn : Turn → Terminal → Marks → ℕ → Heading → List Frame → ItemsRead → Option State
where_turn (T.Goes y) s m a h K xs = at (P.Where h y) K xs
where_turn (T.Variables vs) s m a h K xs = end_head s m a h (M.vars_form vs) K xs
where_turn _ s m a h K xs = None

-- ---- declarations

abbrev pub begin_abstract : Bool → ℕ → List Frame → ItemsRead → Option State
begin_abstract true a K xs = at (P.DeclName a false) K xs
begin_abstract false a K xs = None

abbrev pub at_abstract : Terminal → ℕ → List Frame → ItemsRead → Option State
at_abstract (S.Name n) a K xs = begin_abstract (bytes_eq n (codes "type")) a K xs
at_abstract s a K xs = None

abbrev pub at_decl : Terminal → ℕ → ℕ → Bool → List Frame → ItemsRead → Option State
at_decl (S.Name n) b a k K xs = at (P.Declared (record { at = a; is_struct = k; name = name_at b n; params = M.no_vars })) K xs
at_decl s b a k K xs = None

abbrev pub token_after_struct : Terminal → Form Header → List Frame → ItemsRead → Option State
token_after_struct S.Newline h K xs = at (P.Fields (record { header = h; fields = M.no_forms })) K xs
token_after_struct (S.Operator o.Semicolon) h K xs = at (P.Fields (record { header = h; fields = M.no_forms })) K xs
token_after_struct (S.Word w.End) h K xs = at (P.Made (M.struct_item h M.no_forms)) K xs
token_after_struct s h K xs = None

abbrev pub token_after_abstract : Terminal → Form Header → List Frame → ItemsRead → Option State
token_after_abstract (S.Word w.End) h K xs = at (P.Made (M.abstract_item h)) K xs
token_after_abstract s h K xs = None

abbrev pub token_after_header : Bool → Terminal → Form Header → List Frame → ItemsRead → Option State
token_after_header true s h K xs = token_after_struct s h K xs
token_after_header false s h K xs = token_after_abstract s h K xs

-- behind the name, the parameters and the supertype
abbrev pub end_header : Terminal → Declaring → Option TypeForm → List Frame → ItemsRead → Option State
end_header s d t K xs = token_after_header d.is_struct s (M.header d.at d.name d.params t) K xs

-- behind the name and the parameters
abbrev pub token_after_params : Terminal → Declaring → List Frame → ItemsRead → Option State
token_after_params (S.Operator o.Subtype) d K xs = at (P.Type (G.Parent d) type_start) K xs
token_after_params s d K xs = end_header s d None K xs

abbrev pub params_start : TypeState
params_start = record { point = Q.Variable; stack = Variable First (Braces no_variables) ∷ [] }

abbrev pub at_declared : Terminal → Declaring → List Frame → ItemsRead → Option State
at_declared (S.Operator o.OpenBrace) d K xs = at (P.Params d params_start) K xs
at_declared s d K xs = token_after_params s d K xs

abbrev pub with_params : Declaring → VarsForm → Declaring
with_params d vs = record { at = d.at; is_struct = d.is_struct; name = d.name; params = vs }

abbrev pub params_turn : Turn → Terminal → Declaring → List Frame → ItemsRead → Option State
params_turn (T.Goes y) s d K xs = at (P.Params d y) K xs
params_turn (T.Variables vs) s d K xs = token_after_params s (with_params d (M.vars_form vs)) K xs
params_turn _ s d K xs = None

abbrev pub token_after_field : Terminal → Fielding → List Frame → ItemsRead → Option State
token_after_field S.Newline f K xs = at (P.Fields f) K xs
token_after_field (S.Operator o.Semicolon) f K xs = at (P.Fields f) K xs
token_after_field (S.Word w.End) f K xs = at (P.Made (M.struct_item f.header f.fields)) K xs
token_after_field s f K xs = None

abbrev pub at_fields : Terminal → ℕ → Fielding → List Frame → ItemsRead → Option State
at_fields (S.Name n) a f K xs = at (P.Field f (name_at a n)) K xs
at_fields s a f K xs = token_after_field s f K xs

abbrev pub with_field : Fielding → Name → Option TypeText → ℕ → Fielding
with_field f n t d = record { header = f.header; fields = M.with_form f.fields (record { name = n; ty = t }) d }

abbrev pub at_field : Terminal → Fielding → Name → List Frame → ItemsRead → Option State
at_field (S.Operator o.HasType) f n K xs = at (P.Type (G.Field f n) type_start) K xs
at_field s f n K xs = token_after_field s (with_field f n None 0) K xs

-- ---- behind an item that a token of its own has ended

abbrev pub separator_after_item : Form Item → List Frame → ItemsRead → Option State
separator_after_item x [] xs = at P.Entry [] (M.with_item xs x)
separator_after_item x K xs = None

abbrev pub at_made : Terminal → Form Item → List Frame → ItemsRead → Option State
at_made S.Newline x K xs = separator_after_item x K xs
at_made (S.Operator o.Semicolon) x K xs = separator_after_item x K xs
at_made S.End x K xs = separator_after_item x K xs
at_made s x K xs = None

abbrev pub separator_after_method : Form Method → List Frame → ItemsRead → Option State
separator_after_method m [] xs = at P.Entry [] (M.with_item xs (M.method_item m))
separator_after_method m (Evals k vs ∷ K) xs = at P.Entry (Evals k (with_method vs m) ∷ K) xs
separator_after_method m K xs = None

abbrev pub end_after_method : Form Method → List Frame → ItemsRead → Option State
end_after_method m (Evals k vs ∷ K) xs = end_evals k (with_method vs m) K xs
end_after_method m K xs = None

abbrev pub source_end_after_method : Form Method → List Frame → ItemsRead → Option State
source_end_after_method m [] xs = at P.Entry [] (M.with_item xs (M.method_item m))
source_end_after_method m K xs = None

abbrev pub at_made_method : Terminal → Form Method → List Frame → ItemsRead → Option State
at_made_method S.Newline m K xs = separator_after_method m K xs
at_made_method (S.Operator o.Semicolon) m K xs = separator_after_method m K xs
at_made_method (S.Word w.End) m K xs = end_after_method m K xs
at_made_method S.End m K xs = source_end_after_method m K xs
at_made_method s m K xs = None

-- ---- types

-- `<:` behind the left type of a comparison
abbrev pub token_after_left : Terminal → Pending → ℕ → TypeForm → List Frame → ItemsRead → Option State
token_after_left (S.Operator o.Subtype) p a t K xs = at (P.Type (G.Right p a t) type_start) K xs
token_after_left s p a t K xs = None

-- `(` behind a name with its braces
abbrev pub open_make : Terminal → Pending → ℕ → TypeForm → List Frame → ItemsRead → Option State
open_make (S.Operator o.OpenParen) p a t K xs = at (P.First p.returns) (Args p a (C.Type t) M.no_forms ∷ K) xs
open_make s p a t K xs = None

-- `)` behind the type of a deletion
abbrev pub close_which : Terminal → Pending → ℕ → Name → TypeForm → List Frame → ItemsRead → Option State
close_which (S.Operator o.CloseParen) p a n t K xs = at (P.Ending p (M.delete_expr a n t)) K xs
close_which s p a n t K xs = None

-- a token behind a type
abbrev pub token_after_type : Terminal → ℕ → Goal → TypeForm → List Frame → ItemsRead → Option State
token_after_type s b (G.Isa p e) t K xs = token_after_comparison s b p (M.isa_expr e t) K xs
token_after_type s b (G.Left p a) t K xs = token_after_left s p a t K xs
token_after_type s b (G.Right p a l) t K xs = token_after_comparison s b p (M.sub_expr a l t) K xs
token_after_type s b (G.Make p a) t K xs = open_make s p a t K xs
token_after_type s b (G.Delete p a n) t K xs = close_which s p a n t K xs
token_after_type s b (G.Param h x a) t K xs = token_after_param s (with_param h (M.typed_param x a t) t.depth) K xs
token_after_type s b (G.Parent d) t K xs = end_header s d (Some t) K xs
token_after_type s b (G.Field f n) t K xs = token_after_field s (with_field f n (Some t.tree) t.depth) K xs

abbrev pub type_step : Turn → Terminal → ℕ → Goal → List Frame → ItemsRead → Option State
type_step (T.Goes y) s b g K xs = at (P.Type g y) K xs
type_step (T.Type t) s b g K xs = token_after_type s b g (M.type_form t) K xs
type_step _ s b g K xs = None

-- ---- a step

abbrev pub step_by : Terminal → Marks → ℕ → Point → List Frame → ItemsRead → Option State
step_by s m a P.Entry K xs = at_entry s m a K xs
step_by s m a (P.Bound n) K xs = at_bound s n K xs
step_by s m a (P.Returned b) K xs = at_returned s m a b K xs
step_by s m a (P.Want p) K xs = begin_operand s m a p K xs
step_by s m a (P.First r) K xs = at_first s m a r K xs
step_by s m a (P.Again r) K xs = at_again s m a r K xs
step_by s m a (P.Piece r) K xs = at_piece s m a r K xs
step_by s m a P.Texted K xs = at_texted s K xs
step_by s m a (P.Have p e) K xs = token_after_operand s a p e K xs
step_by s m a (P.Dot p e) K xs = at_dot s a p e K xs
step_by s m a (P.Index p e) K xs = at_index s p e K xs
step_by s m a (P.Indexed p e n) K xs = at_indexed s p e n K xs
step_by s m a (P.Due p b d) K xs = at_due s a p b d K xs
step_by s m a (P.Deleting p b n) K xs = at_deleting s p b n K xs
step_by s m a (P.Ending p e) K xs = at_ending s p e K xs
step_by s m a (P.AfterEval p b) K xs = token_after_eval s m a p b K xs
step_by s m a (P.Function g) K xs = at_function s a g K xs
step_by s m a (P.Named g n) K xs = at_named s g n K xs
step_by s m a (P.Dotted g b) K xs = at_dotted s a g b K xs
step_by s m a (P.Colon g b) K xs = at_colon s g b K xs
step_by s m a (P.Known g f) K xs = at_known s g f K xs
step_by s m a (P.FirstParam h) K xs = first_param s a h K xs
step_by s m a (P.NextParam h) K xs = next_param s a h K xs
step_by s m a (P.Param h n) K xs = at_param s a h n K xs
step_by s m a (P.Headed h) K xs = at_headed s m a h K xs
step_by s m a (P.Where h y) K xs = where_turn (Y.step_at s a y.point y.stack) s m a h K xs
step_by s m a (P.Type g y) K xs = type_step (Y.step_at s a y.point y.stack) s a g K xs
step_by s m a (P.AbstractWord b) K xs = at_abstract s b K xs
step_by s m a (P.DeclName b k) K xs = at_decl s a b k K xs
step_by s m a (P.Declared d) K xs = at_declared s d K xs
step_by s m a (P.Params d y) K xs = params_turn (Y.step_at s a y.point y.stack) s d K xs
step_by s m a (P.Fields f) K xs = at_fields s a f K xs
step_by s m a (P.Field f n) K xs = at_field s f n K xs
step_by s m a (P.Made x) K xs = at_made s x K xs
step_by s m a (P.MadeMethod x) K xs = at_made_method s x K xs

abbrev pub step_at : Marked → Point → List Frame → ItemsRead → Option State
step_at t q K xs = step_by t.lexeme.terminal t.marks t.lexeme.at q K xs

abbrev pub step : Marked → Option State → Option State
step t None = None
step t (Some s) = step_at t s.point s.stack s.script

-- all these tokens, one after another; none after one that is wrong
abbrev pub step_all : List Marked → Option State → Option State
step_all [] s = s
step_all (t ∷ ts) s = step_all ts (step t s)

abbrev pub start : Option State
start = at P.Entry [] M.no_items

-- a type must stand here
abbrev pub is_type_wanted : Point → Bool
is_type_wanted (P.Type g y) = Y.is_type_wanted y.point
is_type_wanted (P.Where h y) = Y.is_type_wanted y.point
is_type_wanted (P.Params d y) = Y.is_type_wanted y.point
is_type_wanted q = false
