-- What is read has led to no type that could still be the name of a variable.
use Rattle.std.proofs.Common.{ℕ, Bool, true, false, List, [], ◌∷◌, Option, Some, None}
use Rattle.std.specs.Prelude.{ℤ, pos, int_le, codes, bytes_eq}
use Rattle.jl_grammar.specs.Forms as M
use Rattle.jl_grammar.specs.Levels.{pending_after, no_pending, as_comparison, expression, is_comparison_start}
use Rattle.jl_grammar.specs.Marks.{is_function}
use Rattle.jl_grammar.specs.Texts.{is_method, is_left_type, is_binding}
use Rattle.jl_grammar.specs.declared.mark.Ahead.{Ahead}
use Rattle.jl_grammar.specs.declared.mark.Marks.{Marks}
use Rattle.jl_grammar.specs.declared.mark.Opening.{Opening}
use Rattle.jl_grammar.specs.declared.mark.Opening.TheVariants as O
use Rattle.jl_grammar.specs.declared.state.BlockKind.{BlockKind}
use Rattle.jl_grammar.specs.declared.state.BlockKind.TheVariants as B
use Rattle.jl_grammar.specs.declared.state.Declaring.{Declaring}
use Rattle.jl_grammar.specs.declared.state.Due.{Due}
use Rattle.jl_grammar.specs.declared.state.Due.TheVariants as D
use Rattle.jl_grammar.specs.declared.state.EvalKind.{EvalKind}
use Rattle.jl_grammar.specs.declared.state.EvalKind.TheVariants as E
use Rattle.jl_grammar.specs.declared.state.Fielding.{Fielding}
use Rattle.jl_grammar.specs.declared.state.Form.{Form}
use Rattle.jl_grammar.specs.declared.state.Forms.{Forms}
use Rattle.jl_grammar.specs.declared.state.Frame.{Frame}
use Rattle.jl_grammar.specs.declared.state.Frame.TheVariants.{Paren, Tuple, Args, Fetch, Print, Then, Test, Block, Evals}
use Rattle.jl_grammar.specs.declared.state.Goal.{Goal}
use Rattle.jl_grammar.specs.declared.state.Goal.TheVariants as G
use Rattle.jl_grammar.specs.declared.state.Heading.{Heading}
use Rattle.jl_grammar.specs.declared.state.ItemsRead.{ItemsRead}
use Rattle.jl_grammar.specs.declared.state.Lead.{Lead}
use Rattle.jl_grammar.specs.declared.state.Lead.TheVariants as L
use Rattle.jl_grammar.specs.declared.state.Pending.{Pending}
use Rattle.jl_grammar.specs.declared.state.Place.{Place}
use Rattle.jl_grammar.specs.declared.state.Place.TheVariants as H
use Rattle.jl_grammar.specs.declared.state.Point.{Point}
use Rattle.jl_grammar.specs.declared.state.Point.TheVariants as P
use Rattle.jl_grammar.specs.declared.state.Purpose.{Purpose}
use Rattle.jl_grammar.specs.declared.state.Purpose.TheVariants as R
use Rattle.jl_grammar.specs.declared.state.TypeForm.{TypeForm}
use Rattle.jl_grammar.specs.declared.state.VarsForm.{VarsForm}
use Rattle.jl_grammar.specs.declared.tree.Callee.{Callee}
use Rattle.jl_grammar.specs.declared.tree.Callee.TheVariants as F
use Rattle.jl_grammar.specs.declared.tree.Eval.{Eval}
use Rattle.jl_grammar.specs.declared.tree.Expr.{Expr}
use Rattle.jl_grammar.specs.declared.tree.Head.{Head}
use Rattle.jl_grammar.specs.declared.tree.Header.{Header}
use Rattle.jl_grammar.specs.declared.tree.Infix.{Infix}
use Rattle.jl_grammar.specs.declared.tree.Infix.TheVariants as I
use Rattle.jl_grammar.specs.declared.tree.Item.{Item}
use Rattle.jl_grammar.specs.declared.tree.Method.{Method}
use Rattle.jl_grammar.specs.declared.tree.Name.{Name}
use Rattle.jl_grammar.specs.declared.tree.Param.TheVariants as N
use Rattle.jl_grammar.specs.declared.tree.Prefix.{Prefix}
use Rattle.jl_grammar.specs.declared.tree.Prefix.TheVariants as U
use Rattle.jl_grammar.specs.declared.tree.Stmt.{Stmt}
use Rattle.jl_grammar.specs.declared.tree.Stmt.TheVariants as Z
use Rattle.jl_token.specs.declared.token.Operator.{Operator}
use Rattle.jl_token.specs.declared.token.Operator.TheVariants as o
use Rattle.jl_typeread.specs.Machine as Y
use Rattle.jl_typeread.specs.declared.terminal.Terminal.{Terminal}
use Rattle.jl_typeread.specs.declared.terminal.Terminal.TheVariants as S
use Rattle.jl_typeread.specs.declared.terminal.Word.{Word}
use Rattle.jl_typeread.specs.declared.terminal.Word.TheVariants as w
use Rattle.jl_typeread.specs.declared.state.Point.TheVariants as Q
use Rattle.jl_typeread.specs.declared.state.Turn.{Turn}
use Rattle.jl_typeread.specs.declared.state.Turn.TheVariants as T
use Rattle.jl_grammar.specs.Turns as TU
use Rattle.jl_grammar.specs.Turns.{is_return_allowed, is_return_allowed_in, with_stmt, with_method, with_eval, item_of, has_no_comparison}
use Rattle.jl_grammar.specs.Machine as MC
use Rattle.jl_grammar.specs.Machine.{pending_of_eval, with_param, with_params, with_field}
use Rattle.jl_grammar.specs.declared.mark.Marked.{Marked}
use Rattle.jl_grammar.specs.declared.state.State.{State}
use Rattle.jl_grammar.specs.Texts.{Text}
use Rattle.jl_grammar.specs.Machine.{step, step_all, start}
use Rattle.jl_grammar_laws.proofs.SettledTypes.{SettledAt, SettledTurn, settled_step_at as settled_turn}

-- the same of a state of the reading of a script
abbrev pub SettledPoint : Point → Type 0
SettledPoint (P.Type g y) = SettledAt y.point y.stack
SettledPoint (P.Where h y) = SettledAt y.point y.stack
SettledPoint (P.Params d y) = SettledAt y.point y.stack
SettledPoint q = Unit {0}

abbrev pub Settled : Option State → Type 0
Settled None = Unit {0}
Settled (Some s) = SettledPoint s.point

-- ---- of each token, line by line as the machine reads it

settled_end_block : (x0 : BlockKind) (x1 : Forms Stmt) (x2 : List Frame) (x3 : ItemsRead) → Settled (TU.end_block x0 x1 x2 x3)
settled_end_block (B.Begin p a) ss K xs = tt
settled_end_block (B.Branch p a x b c) ss K xs = tt
settled_end_block (B.Else p a x) ss K xs = tt
settled_end_block (B.Body H.Entry h) ss K xs = tt
settled_end_block (B.Body (H.Evaluated p a) h) ss K xs = tt

settled_block_elseif : (x0 : ℕ) (x1 : BlockKind) (x2 : Forms Stmt) (x3 : List Frame) (x4 : ItemsRead) → Settled (TU.block_elseif x0 x1 x2 x3 x4)
settled_block_elseif b (B.Branch p a x c e) ss K xs = tt
settled_block_elseif b k ss K xs = tt

settled_block_else : (x0 : BlockKind) (x1 : Forms Stmt) (x2 : List Frame) (x3 : ItemsRead) → Settled (TU.block_else x0 x1 x2 x3)
settled_block_else (B.Branch p a x c e) ss K xs = tt
settled_block_else k ss K xs = tt

settled_block_word : (x0 : Word) (x1 : ℕ) (x2 : BlockKind) (x3 : Forms Stmt) (x4 : List Frame) (x5 : ItemsRead) → Settled (TU.block_word x0 x1 x2 x3 x4 x5)
settled_block_word w.End b k ss K xs = settled_end_block k ss K xs
settled_block_word w.Elseif b k ss K xs = settled_block_elseif b k ss K xs
settled_block_word w.Else b k ss K xs = settled_block_else k ss K xs
settled_block_word _ b k ss K xs = tt

settled_end_evals : (x0 : EvalKind) (x1 : Forms Eval) (x2 : List Frame) (x3 : ItemsRead) → Settled (TU.end_evals x0 x1 x2 x3)
settled_end_evals (E.Begin p a) vs K xs = tt
settled_end_evals (E.Quote p a) vs K xs = tt

settled_evals_word : (x0 : Word) (x1 : EvalKind) (x2 : Forms Eval) (x3 : List Frame) (x4 : ItemsRead) → Settled (TU.evals_word x0 x1 x2 x3 x4)
settled_evals_word w.End k vs K xs = settled_end_evals k vs K xs
settled_evals_word _ k vs K xs = tt

settled_end_item : (x0 : Option (Form Item)) (x1 : ItemsRead) → Settled (TU.end_item x0 x1)
settled_end_item None xs = tt
settled_end_item (Some x) xs = tt

settled_end_stmt : (x0 : Option (Forms Stmt)) (x1 : BlockKind) (x2 : List Frame) (x3 : ItemsRead) → Settled (TU.end_stmt x0 x1 x2 x3)
settled_end_stmt None k K xs = tt
settled_end_stmt (Some ss) k K xs = tt

settled_end_eval : (x0 : Option (Forms Eval)) (x1 : EvalKind) (x2 : List Frame) (x3 : ItemsRead) → Settled (TU.end_eval x0 x1 x2 x3)
settled_end_eval None k K xs = tt
settled_end_eval (Some vs) k K xs = tt

settled_separator_after_expr : (x0 : Lead) (x1 : Form Expr) (x2 : List Frame) (x3 : ItemsRead) → Settled (TU.separator_after_expr x0 x1 x2 x3)
settled_separator_after_expr l e [] xs = settled_end_item (item_of l e) xs
settled_separator_after_expr l e (Test p a x b ∷ K) xs = tt
settled_separator_after_expr l e (Block k ss ∷ K) xs = settled_end_stmt (with_stmt ss l e) k K xs
settled_separator_after_expr l e (Evals k vs ∷ K) xs = settled_end_eval (with_eval vs l e) k K xs
settled_separator_after_expr l e K xs = tt

settled_source_end_after_expr : (x0 : Lead) (x1 : Form Expr) (x2 : List Frame) (x3 : ItemsRead) → Settled (TU.source_end_after_expr x0 x1 x2 x3)
settled_source_end_after_expr l e [] xs = settled_end_item (item_of l e) xs
settled_source_end_after_expr l e K xs = tt

settled_word_after_stmts : (x0 : Option (Forms Stmt)) (x1 : Word) (x2 : ℕ) (x3 : BlockKind) (x4 : List Frame) (x5 : ItemsRead) → Settled (TU.word_after_stmts x0 x1 x2 x3 x4 x5)
settled_word_after_stmts None v b k K xs = tt
settled_word_after_stmts (Some ss) v b k K xs = settled_block_word v b k ss K xs

settled_word_after_evals : (x0 : Option (Forms Eval)) (x1 : Word) (x2 : EvalKind) (x3 : List Frame) (x4 : ItemsRead) → Settled (TU.word_after_evals x0 x1 x2 x3 x4)
settled_word_after_evals None v k K xs = tt
settled_word_after_evals (Some vs) v k K xs = settled_evals_word v k vs K xs

settled_word_after_expr : (x0 : Word) (x1 : ℕ) (x2 : Lead) (x3 : Form Expr) (x4 : List Frame) (x5 : ItemsRead) → Settled (TU.word_after_expr x0 x1 x2 x3 x4 x5)
settled_word_after_expr v b l e (Block k ss ∷ K) xs = settled_word_after_stmts (with_stmt ss l e) v b k K xs
settled_word_after_expr v b l e (Evals k vs ∷ K) xs = settled_word_after_evals (with_eval vs l e) v k K xs
settled_word_after_expr v b l e K xs = tt

settled_comma_after_expr : (x0 : Form Expr) (x1 : List Frame) (x2 : ItemsRead) → Settled (TU.comma_after_expr x0 x1 x2)
settled_comma_after_expr e (Paren p a ∷ K) xs = tt
settled_comma_after_expr e (Tuple p a es ∷ K) xs = tt
settled_comma_after_expr e (Args p a f es ∷ K) xs = tt
settled_comma_after_expr e (Print p a l ps ∷ K) xs = tt
settled_comma_after_expr e K xs = tt

settled_paren_after_expr : (x0 : Form Expr) (x1 : List Frame) (x2 : ItemsRead) → Settled (TU.paren_after_expr x0 x1 x2)
settled_paren_after_expr e (Paren p a ∷ K) xs = tt
settled_paren_after_expr e (Tuple p a es ∷ K) xs = tt
settled_paren_after_expr e (Args p a f es ∷ K) xs = tt
settled_paren_after_expr e (Fetch p a ∷ K) xs = tt
settled_paren_after_expr e (Print p a l ps ∷ K) xs = tt
settled_paren_after_expr e K xs = tt

settled_colon_after_expr : (x0 : Form Expr) (x1 : List Frame) (x2 : ItemsRead) → Settled (TU.colon_after_expr x0 x1 x2)
settled_colon_after_expr e (Then p c ∷ K) xs = tt
settled_colon_after_expr e K xs = tt

settled_operator_after_expr : (x0 : Operator) (x1 : Lead) (x2 : Form Expr) (x3 : List Frame) (x4 : ItemsRead) → Settled (TU.operator_after_expr x0 x1 x2 x3 x4)
settled_operator_after_expr o.Comma l e K xs = settled_comma_after_expr e K xs
settled_operator_after_expr o.CloseParen l e K xs = settled_paren_after_expr e K xs
settled_operator_after_expr o.Colon l e K xs = settled_colon_after_expr e K xs
settled_operator_after_expr o.Semicolon l e K xs = settled_separator_after_expr l e K xs
settled_operator_after_expr _ l e K xs = tt

settled_token_after_expr : (x0 : Terminal) (x1 : ℕ) (x2 : Lead) (x3 : Form Expr) (x4 : List Frame) (x5 : ItemsRead) → Settled (TU.token_after_expr x0 x1 x2 x3 x4 x5)
settled_token_after_expr (S.Operator x) b l e K xs = settled_operator_after_expr x l e K xs
settled_token_after_expr (S.Word v) b l e K xs = settled_word_after_expr v b l e K xs
settled_token_after_expr S.Newline b l e K xs = settled_separator_after_expr l e K xs
settled_token_after_expr S.End b l e K xs = settled_source_end_after_expr l e K xs
settled_token_after_expr s b l e K xs = tt

settled_operator_after_comparison : (x0 : Operator) (x1 : ℕ) (x2 : Pending) (x3 : Form Expr) (x4 : List Frame) (x5 : ItemsRead) → Settled (TU.operator_after_comparison x0 x1 x2 x3 x4 x5)
settled_operator_after_comparison o.And b p e K xs = tt
settled_operator_after_comparison o.Or b p e K xs = tt
settled_operator_after_comparison o.Question b p e K xs = tt
settled_operator_after_comparison x b p e K xs = settled_operator_after_expr x p.lead (expression p e) K xs

settled_token_after_comparison : (x0 : Terminal) (x1 : ℕ) (x2 : Pending) (x3 : Form Expr) (x4 : List Frame) (x5 : ItemsRead) → Settled (TU.token_after_comparison x0 x1 x2 x3 x4 x5)
settled_token_after_comparison (S.Operator x) b p e K xs = settled_operator_after_comparison x b p e K xs
settled_token_after_comparison s b p e K xs = settled_token_after_expr s b p.lead (expression p e) K xs

settled_push_term : (x0 : Infix) (x1 : Pending) (x2 : Form Expr) (x3 : List Frame) (x4 : ItemsRead) → Settled (TU.push_term x0 x1 x2 x3 x4)
settled_push_term i p e K xs = tt

settled_push_sum : (x0 : Infix) (x1 : Pending) (x2 : Form Expr) (x3 : List Frame) (x4 : ItemsRead) → Settled (TU.push_sum x0 x1 x2 x3 x4)
settled_push_sum i p e K xs = tt

settled_push_first_comparison : (x0 : Bool) (x1 : Infix) (x2 : Pending) (x3 : Form Expr) (x4 : List Frame) (x5 : ItemsRead) → Settled (TU.push_first_comparison x0 x1 x2 x3 x4 x5)
settled_push_first_comparison true i p e K xs = tt
settled_push_first_comparison false i p e K xs = tt

settled_push_isa : (x0 : Bool) (x1 : Pending) (x2 : Form Expr) (x3 : List Frame) (x4 : ItemsRead) → Settled (TU.push_isa x0 x1 x2 x3 x4)
settled_push_isa true p e K xs = tt
settled_push_isa false p e K xs = tt

settled_operator_after_operand : (x0 : Operator) (x1 : ℕ) (x2 : Pending) (x3 : Form Expr) (x4 : List Frame) (x5 : ItemsRead) → Settled (TU.operator_after_operand x0 x1 x2 x3 x4 x5)
settled_operator_after_operand o.Dot b p e K xs = tt
settled_operator_after_operand o.OpenBracket b p e K xs = tt
settled_operator_after_operand o.Times b p e K xs = settled_push_term I.Times p e K xs
settled_operator_after_operand o.Divide b p e K xs = settled_push_term I.Divide p e K xs
settled_operator_after_operand o.Remainder b p e K xs = settled_push_term I.Remainder p e K xs
settled_operator_after_operand o.Plus b p e K xs = settled_push_sum I.Plus p e K xs
settled_operator_after_operand o.Minus b p e K xs = settled_push_sum I.Minus p e K xs
settled_operator_after_operand o.Equal b p e K xs = settled_push_first_comparison (has_no_comparison p.levels) I.Equal p e K xs
settled_operator_after_operand o.NotEqual b p e K xs = settled_push_first_comparison (has_no_comparison p.levels) I.NotEqual p e K xs
settled_operator_after_operand o.Less b p e K xs = settled_push_first_comparison (has_no_comparison p.levels) I.Less p e K xs
settled_operator_after_operand o.LessEqual b p e K xs = settled_push_first_comparison (has_no_comparison p.levels) I.LessEqual p e K xs
settled_operator_after_operand o.Greater b p e K xs = settled_push_first_comparison (has_no_comparison p.levels) I.Greater p e K xs
settled_operator_after_operand o.GreaterEqual b p e K xs = settled_push_first_comparison (has_no_comparison p.levels) I.GreaterEqual p e K xs
settled_operator_after_operand o.Identical b p e K xs = settled_push_first_comparison (has_no_comparison p.levels) I.Identical p e K xs
settled_operator_after_operand o.NotIdentical b p e K xs = settled_push_first_comparison (has_no_comparison p.levels) I.NotIdentical p e K xs
settled_operator_after_operand x b p e K xs = settled_operator_after_comparison x b p (as_comparison p.levels e) K xs

settled_word_after_operand : (x0 : Word) (x1 : ℕ) (x2 : Pending) (x3 : Form Expr) (x4 : List Frame) (x5 : ItemsRead) → Settled (TU.word_after_operand x0 x1 x2 x3 x4 x5)
settled_word_after_operand w.Isa b p e K xs = settled_push_isa (has_no_comparison p.levels) p e K xs
settled_word_after_operand v b p e K xs = settled_word_after_expr v b p.lead (expression p (as_comparison p.levels e)) K xs

settled_token_after_operand : (x0 : Terminal) (x1 : ℕ) (x2 : Pending) (x3 : Form Expr) (x4 : List Frame) (x5 : ItemsRead) → Settled (TU.token_after_operand x0 x1 x2 x3 x4 x5)
settled_token_after_operand (S.Operator x) b p e K xs = settled_operator_after_operand x b p e K xs
settled_token_after_operand (S.Word v) b p e K xs = settled_word_after_operand v b p e K xs
settled_token_after_operand s b p e K xs = settled_token_after_expr s b p.lead (expression p (as_comparison p.levels e)) K xs

settled_type_turn : (o : Turn) (g : Goal) (K : List Frame) (xs : ItemsRead) → SettledTurn o → Settled (TU.type_turn o g K xs)
settled_type_turn (T.Goes y) g K xs h = h
settled_type_turn _ g K xs h = tt

settled_first_of_type : (s : Terminal) (a : ℕ) (g : Goal) (K : List Frame) (xs : ItemsRead) → Settled (TU.first_of_type s a g K xs)
settled_first_of_type s a g K xs = settled_type_turn (Y.step_at s a Q.Want []) g K xs (settled_turn s a Q.Want [])

settled_begin_opening : (x0 : Opening) (x1 : List ℕ) (x2 : ℕ) (x3 : Pending) (x4 : List Frame) (x5 : ItemsRead) → Settled (TU.begin_opening x0 x1 x2 x3 x4 x5)
settled_begin_opening O.Plain n a p K xs = tt
settled_begin_opening O.Binding n a p K xs = tt
settled_begin_opening O.Call n a p K xs = tt
settled_begin_opening O.Make n a p K xs = settled_first_of_type (S.Name n) a (G.Make p a) K xs
settled_begin_opening O.Latest n a p K xs = tt
settled_begin_opening O.Delete n a p K xs = tt
settled_begin_opening O.Spawn n a p K xs = tt
settled_begin_opening O.Quote n a p K xs = tt
settled_begin_opening O.Fetch n a p K xs = tt
settled_begin_opening O.Print n a p K xs = tt
settled_begin_opening O.Println n a p K xs = tt

settled_begin_name : (x0 : Bool) (x1 : Opening) (x2 : List ℕ) (x3 : ℕ) (x4 : Pending) (x5 : List Frame) (x6 : ItemsRead) → Settled (TU.begin_name x0 x1 x2 x3 x4 x5 x6)
settled_begin_name true x n a p K xs = settled_first_of_type (S.Name n) a (G.Left p a) K xs
settled_begin_name false x n a p K xs = settled_begin_opening x n a p K xs

settled_begin_paren : (x0 : Bool) (x1 : ℕ) (x2 : Pending) (x3 : List Frame) (x4 : ItemsRead) → Settled (TU.begin_paren x0 x1 x2 x3 x4)
settled_begin_paren true a p K xs = settled_first_of_type (S.Operator o.OpenParen) a (G.Left p a) K xs
settled_begin_paren false a p K xs = tt

settled_begin_prefix : (x0 : ℕ) (x1 : Prefix) (x2 : Pending) (x3 : List Frame) (x4 : ItemsRead) → Settled (TU.begin_prefix x0 x1 x2 x3 x4)
settled_begin_prefix a u p K xs = tt

settled_begin_operator : (x0 : Operator) (x1 : Ahead) (x2 : ℕ) (x3 : Pending) (x4 : List Frame) (x5 : ItemsRead) → Settled (TU.begin_operator x0 x1 x2 x3 x4 x5)
settled_begin_operator o.OpenParen m a p K xs = settled_begin_paren (is_left_type (is_comparison_start p.levels) m) a p K xs
settled_begin_operator o.Minus m a p K xs = settled_begin_prefix a U.Minus p K xs
settled_begin_operator o.Not m a p K xs = settled_begin_prefix a U.Not p K xs
settled_begin_operator _ m a p K xs = tt

settled_begin_word : (x0 : Word) (x1 : ℕ) (x2 : Pending) (x3 : List Frame) (x4 : ItemsRead) → Settled (TU.begin_word x0 x1 x2 x3 x4)
settled_begin_word w.True a p K xs = tt
settled_begin_word w.False a p K xs = tt
settled_begin_word w.Nothing a p K xs = tt
settled_begin_word w.If a p K xs = tt
settled_begin_word w.Begin a p K xs = tt
settled_begin_word _ a p K xs = tt

settled_begin_macro : (x0 : Bool) (x1 : ℕ) (x2 : Pending) (x3 : List Frame) (x4 : ItemsRead) → Settled (TU.begin_macro x0 x1 x2 x3 x4)
settled_begin_macro true a p K xs = tt
settled_begin_macro false a p K xs = tt

settled_begin_operand : (x0 : Terminal) (x1 : Marks) (x2 : ℕ) (x3 : Pending) (x4 : List Frame) (x5 : ItemsRead) → Settled (TU.begin_operand x0 x1 x2 x3 x4 x5)
settled_begin_operand (S.Name n) m a p K xs = settled_begin_name (is_left_type (is_comparison_start p.levels) m.ahead) m.opening n a p K xs
settled_begin_operand (S.Number n) m a p K xs = tt
settled_begin_operand (S.Word v) m a p K xs = settled_begin_word v a p K xs
settled_begin_operand (S.Operator x) m a p K xs = settled_begin_operator x m.ahead a p K xs
settled_begin_operand (S.Macro n) m a p K xs = settled_begin_macro (bytes_eq n (codes "eval")) a p K xs
settled_begin_operand s m a p K xs = tt

settled_close_first : (x0 : List Frame) (x1 : ItemsRead) → Settled (TU.close_first x0 x1)
settled_close_first (Paren p a ∷ K) xs = tt
settled_close_first (Args p a f es ∷ K) xs = tt
settled_close_first (Print p a l ps ∷ K) xs = tt
settled_close_first K xs = tt

settled_push_string : (x0 : ℕ) (x1 : List ℕ) (x2 : List Frame) (x3 : ItemsRead) → Settled (TU.push_string x0 x1 x2 x3)
settled_push_string a n (Print p b l ps ∷ K) xs = tt
settled_push_string a n K xs = tt

settled_at_first : (x0 : Terminal) (x1 : Marks) (x2 : ℕ) (x3 : Bool) (x4 : List Frame) (x5 : ItemsRead) → Settled (TU.at_first x0 x1 x2 x3 x4 x5)
settled_at_first (S.Operator o.CloseParen) m a r K xs = settled_close_first K xs
settled_at_first (S.Text n) m a r K xs = settled_push_string a n K xs
settled_at_first s m a r K xs = settled_begin_operand s m a (no_pending r) K xs

settled_close_again : (x0 : List Frame) (x1 : ItemsRead) → Settled (TU.close_again x0 x1)
settled_close_again (Tuple p a es ∷ K) xs = tt
settled_close_again K xs = tt

settled_at_again : (x0 : Terminal) (x1 : Marks) (x2 : ℕ) (x3 : Bool) (x4 : List Frame) (x5 : ItemsRead) → Settled (TU.at_again x0 x1 x2 x3 x4 x5)
settled_at_again (S.Operator o.CloseParen) m a r K xs = settled_close_again K xs
settled_at_again s m a r K xs = settled_begin_operand s m a (no_pending r) K xs

settled_at_piece : (x0 : Terminal) (x1 : Marks) (x2 : ℕ) (x3 : Bool) (x4 : List Frame) (x5 : ItemsRead) → Settled (TU.at_piece x0 x1 x2 x3 x4 x5)
settled_at_piece (S.Text n) m a r K xs = settled_push_string a n K xs
settled_at_piece s m a r K xs = settled_begin_operand s m a (no_pending r) K xs

settled_close_text : (x0 : List Frame) (x1 : ItemsRead) → Settled (TU.close_text x0 x1)
settled_close_text (Print p a l ps ∷ K) xs = tt
settled_close_text K xs = tt

settled_text_comma : (x0 : List Frame) (x1 : ItemsRead) → Settled (TU.text_comma x0 x1)
settled_text_comma (Print p a l ps ∷ K) xs = tt
settled_text_comma K xs = tt

settled_at_texted : (x0 : Terminal) (x1 : List Frame) (x2 : ItemsRead) → Settled (TU.at_texted x0 x1 x2)
settled_at_texted (S.Operator o.CloseParen) K xs = settled_close_text K xs
settled_at_texted (S.Operator o.Comma) K xs = settled_text_comma K xs
settled_at_texted s K xs = tt

settled_at_dot : (x0 : Terminal) (x1 : ℕ) (x2 : Pending) (x3 : Form Expr) (x4 : List Frame) (x5 : ItemsRead) → Settled (TU.at_dot x0 x1 x2 x3 x4 x5)
settled_at_dot (S.Name n) a p e K xs = tt
settled_at_dot s a p e K xs = tt

settled_push_index : (x0 : Bool) (x1 : ℤ) (x2 : Pending) (x3 : Form Expr) (x4 : List Frame) (x5 : ItemsRead) → Settled (TU.push_index x0 x1 x2 x3 x4 x5)
settled_push_index true n p e K xs = tt
settled_push_index false n p e K xs = tt

settled_at_index : (x0 : Terminal) (x1 : Pending) (x2 : Form Expr) (x3 : List Frame) (x4 : ItemsRead) → Settled (TU.at_index x0 x1 x2 x3 x4)
settled_at_index (S.Number n) p e K xs = settled_push_index (int_le (pos 1) n) n p e K xs
settled_at_index s p e K xs = tt

settled_at_indexed : (x0 : Terminal) (x1 : Pending) (x2 : Form Expr) (x3 : ℤ) (x4 : List Frame) (x5 : ItemsRead) → Settled (TU.at_indexed x0 x1 x2 x3 x4 x5)
settled_at_indexed (S.Operator o.CloseBracket) p e n K xs = tt
settled_at_indexed s p e n K xs = tt

settled_at_ending : (x0 : Terminal) (x1 : Pending) (x2 : Form Expr) (x3 : List Frame) (x4 : ItemsRead) → Settled (TU.at_ending x0 x1 x2 x3 x4)
settled_at_ending (S.Operator o.CloseParen) p e K xs = tt
settled_at_ending s p e K xs = tt

settled_begin_item : (x0 : Bool) (x1 : Bool) (x2 : Marks) (x3 : List ℕ) (x4 : ℕ) (x5 : List Frame) (x6 : ItemsRead) → Settled (MC.begin_item x0 x1 x2 x3 x4 x5 x6)
settled_begin_item true b m n a K xs = tt
settled_begin_item false true m n a K xs = tt
settled_begin_item false false m n a K xs = settled_begin_operand (S.Name n) m a (no_pending false) K xs

settled_begin_stmt : (x0 : Bool) (x1 : Bool) (x2 : Marks) (x3 : List ℕ) (x4 : ℕ) (x5 : List Frame) (x6 : ItemsRead) → Settled (MC.begin_stmt x0 x1 x2 x3 x4 x5 x6)
settled_begin_stmt true r m n a K xs = tt
settled_begin_stmt false r m n a K xs = settled_begin_operand (S.Name n) m a (no_pending r) K xs

settled_begin_eval : (x0 : Bool) (x1 : Marks) (x2 : List ℕ) (x3 : ℕ) (x4 : List Frame) (x5 : ItemsRead) → Settled (MC.begin_eval x0 x1 x2 x3 x4 x5)
settled_begin_eval true m n a K xs = tt
settled_begin_eval false m n a K xs = settled_begin_operand (S.Name n) m a (no_pending false) K xs

settled_entry_name : (x0 : Marks) (x1 : List ℕ) (x2 : ℕ) (x3 : List Frame) (x4 : ItemsRead) → Settled (MC.entry_name x0 x1 x2 x3 x4)
settled_entry_name m n a [] xs = settled_begin_item (is_method m.ahead) (is_binding m.opening) m n a [] xs
settled_entry_name m n a (Block k ss ∷ K) xs = settled_begin_stmt (is_binding m.opening) (is_return_allowed k) m n a (Block k ss ∷ K) xs
settled_entry_name m n a (Evals k vs ∷ K) xs = settled_begin_eval (is_method m.ahead) m n a (Evals k vs ∷ K) xs
settled_entry_name m n a K xs = tt

settled_begin_long : (x0 : Place) (x1 : ℕ) (x2 : List Frame) (x3 : ItemsRead) → Settled (MC.begin_long x0 x1 x2 x3)
settled_begin_long l a K xs = tt

settled_item_word : (x0 : Word) (x1 : ℕ) (x2 : List Frame) (x3 : ItemsRead) → Settled (MC.item_word x0 x1 x2 x3)
settled_item_word w.Abstract a K xs = tt
settled_item_word w.Struct a K xs = tt
settled_item_word w.Function a K xs = settled_begin_long H.Entry a K xs
settled_item_word v a K xs = settled_begin_word v a (no_pending false) K xs

settled_begin_return : (x0 : Bool) (x1 : ℕ) (x2 : List Frame) (x3 : ItemsRead) → Settled (MC.begin_return x0 x1 x2 x3)
settled_begin_return true a K xs = tt
settled_begin_return false a K xs = tt

settled_stmt_word : (x0 : Word) (x1 : ℕ) (x2 : BlockKind) (x3 : Forms Stmt) (x4 : List Frame) (x5 : ItemsRead) → Settled (MC.stmt_word x0 x1 x2 x3 x4 x5)
settled_stmt_word w.End a k ss K xs = settled_end_block k ss K xs
settled_stmt_word w.Elseif a k ss K xs = settled_block_elseif a k ss K xs
settled_stmt_word w.Else a k ss K xs = settled_block_else k ss K xs
settled_stmt_word w.Return a k ss K xs = settled_begin_return (is_return_allowed k) a (Block k ss ∷ K) xs
settled_stmt_word v a k ss K xs = settled_begin_word v a (no_pending (is_return_allowed k)) (Block k ss ∷ K) xs

settled_eval_word : (x0 : Word) (x1 : ℕ) (x2 : EvalKind) (x3 : Forms Eval) (x4 : List Frame) (x5 : ItemsRead) → Settled (MC.eval_word x0 x1 x2 x3 x4 x5)
settled_eval_word w.End a k vs K xs = settled_end_evals k vs K xs
settled_eval_word w.Function a k vs K xs = settled_begin_long H.Entry a (Evals k vs ∷ K) xs
settled_eval_word v a k vs K xs = settled_begin_word v a (no_pending false) (Evals k vs ∷ K) xs

settled_entry_word : (x0 : Word) (x1 : ℕ) (x2 : List Frame) (x3 : ItemsRead) → Settled (MC.entry_word x0 x1 x2 x3)
settled_entry_word v a [] xs = settled_item_word v a [] xs
settled_entry_word v a (Block k ss ∷ K) xs = settled_stmt_word v a k ss K xs
settled_entry_word v a (Evals k vs ∷ K) xs = settled_eval_word v a k vs K xs
settled_entry_word v a K xs = tt

settled_entry_end : (x0 : List Frame) (x1 : ItemsRead) → Settled (MC.entry_end x0 x1)
settled_entry_end [] xs = tt
settled_entry_end K xs = tt

settled_entry_operator : (x0 : Operator) (x1 : Marks) (x2 : ℕ) (x3 : List Frame) (x4 : ItemsRead) → Settled (MC.entry_operator x0 x1 x2 x3 x4)
settled_entry_operator o.Semicolon m a K xs = tt
settled_entry_operator x m a K xs = settled_begin_operator x m.ahead a (no_pending (is_return_allowed_in K)) K xs

settled_at_entry : (x0 : Terminal) (x1 : Marks) (x2 : ℕ) (x3 : List Frame) (x4 : ItemsRead) → Settled (MC.at_entry x0 x1 x2 x3 x4)
settled_at_entry S.Newline m a K xs = tt
settled_at_entry (S.Operator x) m a K xs = settled_entry_operator x m a K xs
settled_at_entry (S.Word v) m a K xs = settled_entry_word v a K xs
settled_at_entry (S.Name n) m a K xs = settled_entry_name m n a K xs
settled_at_entry S.End m a K xs = settled_entry_end K xs
settled_at_entry s m a K xs = settled_begin_operand s m a (no_pending (is_return_allowed_in K)) K xs

settled_at_bound : (x0 : Terminal) (x1 : Name) (x2 : List Frame) (x3 : ItemsRead) → Settled (MC.at_bound x0 x1 x2 x3)
settled_at_bound (S.Operator o.Assign) n K xs = tt
settled_at_bound s n K xs = tt

settled_separator_after_return : (x0 : ℕ) (x1 : List Frame) (x2 : ItemsRead) → Settled (MC.separator_after_return x0 x1 x2)
settled_separator_after_return a (Block k ss ∷ K) xs = tt
settled_separator_after_return a K xs = tt

settled_end_return : (x0 : Word) (x1 : ℕ) (x2 : ℕ) (x3 : List Frame) (x4 : ItemsRead) → Settled (MC.end_return x0 x1 x2 x3 x4)
settled_end_return v b a (Block k ss ∷ K) xs = settled_block_word v b k (M.with_form ss (Z.ReturnNothing a) 0) K xs
settled_end_return v b a K xs = tt

settled_return_word : (x0 : Word) (x1 : ℕ) (x2 : ℕ) (x3 : List Frame) (x4 : ItemsRead) → Settled (MC.return_word x0 x1 x2 x3 x4)
settled_return_word w.End b a K xs = settled_end_return w.End b a K xs
settled_return_word w.Elseif b a K xs = settled_end_return w.Elseif b a K xs
settled_return_word w.Else b a K xs = settled_end_return w.Else b a K xs
settled_return_word v b a K xs = settled_begin_word v b (pending_after (L.Return a) true) K xs

settled_return_operator : (x0 : Operator) (x1 : Marks) (x2 : ℕ) (x3 : ℕ) (x4 : List Frame) (x5 : ItemsRead) → Settled (MC.return_operator x0 x1 x2 x3 x4 x5)
settled_return_operator o.Semicolon m b a K xs = settled_separator_after_return a K xs
settled_return_operator x m b a K xs = settled_begin_operator x m.ahead b (pending_after (L.Return a) true) K xs

settled_at_returned : (x0 : Terminal) (x1 : Marks) (x2 : ℕ) (x3 : ℕ) (x4 : List Frame) (x5 : ItemsRead) → Settled (MC.at_returned x0 x1 x2 x3 x4 x5)
settled_at_returned S.Newline m b a K xs = settled_separator_after_return a K xs
settled_at_returned (S.Operator x) m b a K xs = settled_return_operator x m b a K xs
settled_at_returned (S.Word v) m b a K xs = settled_return_word v b a K xs
settled_at_returned s m b a K xs = settled_begin_operand s m b (pending_after (L.Return a) true) K xs

settled_name_after_eval : (x0 : Bool) (x1 : Marks) (x2 : List ℕ) (x3 : ℕ) (x4 : Pending) (x5 : ℕ) (x6 : List Frame) (x7 : ItemsRead) → Settled (MC.name_after_eval x0 x1 x2 x3 x4 x5 x6 x7)
settled_name_after_eval true m n b p a K xs = tt
settled_name_after_eval false m n b p a K xs = settled_begin_operand (S.Name n) m b (pending_of_eval p a) K xs

settled_word_after_eval : (x0 : Word) (x1 : ℕ) (x2 : Pending) (x3 : ℕ) (x4 : List Frame) (x5 : ItemsRead) → Settled (MC.word_after_eval x0 x1 x2 x3 x4 x5)
settled_word_after_eval w.Begin b p a K xs = tt
settled_word_after_eval w.Function b p a K xs = settled_begin_long (H.Evaluated p a) b K xs
settled_word_after_eval v b p a K xs = settled_begin_word v b (pending_of_eval p a) K xs

settled_token_after_eval : (x0 : Terminal) (x1 : Marks) (x2 : ℕ) (x3 : Pending) (x4 : ℕ) (x5 : List Frame) (x6 : ItemsRead) → Settled (MC.token_after_eval x0 x1 x2 x3 x4 x5 x6)
settled_token_after_eval (S.Name n) m b p a K xs = settled_name_after_eval (is_method m.ahead) m n b p a K xs
settled_token_after_eval (S.Word v) m b p a K xs = settled_word_after_eval v b p a K xs
settled_token_after_eval s m b p a K xs = settled_begin_operand s m b (pending_of_eval p a) K xs

settled_due_dot : (x0 : Due) (x1 : Pending) (x2 : ℕ) (x3 : List Frame) (x4 : ItemsRead) → Settled (MC.due_dot x0 x1 x2 x3 x4)
settled_due_dot D.SpawnDot p a K xs = tt
settled_due_dot D.LatestDot p a K xs = tt
settled_due_dot D.DeleteDot p a K xs = tt
settled_due_dot d p a K xs = tt

settled_due_open : (x0 : Due) (x1 : Pending) (x2 : ℕ) (x3 : List Frame) (x4 : ItemsRead) → Settled (MC.due_open x0 x1 x2 x3 x4)
settled_due_open D.LatestOpen p a K xs = tt
settled_due_open D.DeleteOpen p a K xs = tt
settled_due_open D.WhichOpen p a K xs = tt
settled_due_open D.FetchOpen p a K xs = tt
settled_due_open (D.PrintOpen l) p a K xs = tt
settled_due_open D.QuoteOpen p a K xs = tt
settled_due_open d p a K xs = tt

settled_due_which : (x0 : Bool) (x1 : Pending) (x2 : ℕ) (x3 : List Frame) (x4 : ItemsRead) → Settled (MC.due_which x0 x1 x2 x3 x4)
settled_due_which true p a K xs = tt
settled_due_which false p a K xs = tt

settled_due_name : (x0 : Due) (x1 : List ℕ) (x2 : ℕ) (x3 : Pending) (x4 : ℕ) (x5 : List Frame) (x6 : ItemsRead) → Settled (MC.due_name x0 x1 x2 x3 x4 x5 x6)
settled_due_name D.LatestName n b p a K xs = tt
settled_due_name D.DeleteName n b p a K xs = tt
settled_due_name D.WhichWord n b p a K xs = settled_due_which (bytes_eq n (codes "which")) p a K xs
settled_due_name D.WhichName n b p a K xs = tt
settled_due_name d n b p a K xs = tt

settled_due_macro : (x0 : Due) (x1 : Pending) (x2 : ℕ) (x3 : List Frame) (x4 : ItemsRead) → Settled (MC.due_macro x0 x1 x2 x3 x4)
settled_due_macro D.SpawnMacro p a K xs = tt
settled_due_macro d p a K xs = tt

settled_due_quote : (x0 : Due) (x1 : Pending) (x2 : ℕ) (x3 : List Frame) (x4 : ItemsRead) → Settled (MC.due_quote x0 x1 x2 x3 x4)
settled_due_quote D.QuoteWord p a K xs = tt
settled_due_quote d p a K xs = tt

settled_at_due : (x0 : Terminal) (x1 : ℕ) (x2 : Pending) (x3 : ℕ) (x4 : Due) (x5 : List Frame) (x6 : ItemsRead) → Settled (MC.at_due x0 x1 x2 x3 x4 x5 x6)
settled_at_due (S.Operator o.Dot) b p a d K xs = settled_due_dot d p a K xs
settled_at_due (S.Operator o.OpenParen) b p a d K xs = settled_due_open d p a K xs
settled_at_due (S.Name n) b p a d K xs = settled_due_name d n b p a K xs
settled_at_due (S.Macro n) b p a d K xs = settled_due_macro d p a K xs
settled_at_due (S.Word w.Quote) b p a d K xs = settled_due_quote d p a K xs
settled_at_due s b p a d K xs = tt

settled_at_deleting : (x0 : Terminal) (x1 : Pending) (x2 : ℕ) (x3 : Name) (x4 : List Frame) (x5 : ItemsRead) → Settled (MC.at_deleting x0 x1 x2 x3 x4 x5)
settled_at_deleting (S.Operator o.Comma) p a n K xs = tt
settled_at_deleting s p a n K xs = tt

settled_at_function : (x0 : Terminal) (x1 : ℕ) (x2 : Purpose) (x3 : List Frame) (x4 : ItemsRead) → Settled (MC.at_function x0 x1 x2 x3 x4)
settled_at_function (S.Name n) a g K xs = tt
settled_at_function s a g K xs = tt

settled_open_known : (x0 : Purpose) (x1 : Callee) (x2 : List Frame) (x3 : ItemsRead) → Settled (MC.open_known x0 x1 x2 x3)
settled_open_known (R.Call p a) f K xs = tt
settled_open_known (R.Head h) f K xs = tt
settled_open_known (R.Latest p a) f K xs = tt

settled_known_comma : (x0 : Purpose) (x1 : Callee) (x2 : List Frame) (x3 : ItemsRead) → Settled (MC.known_comma x0 x1 x2 x3)
settled_known_comma (R.Latest p a) f K xs = tt
settled_known_comma g f K xs = tt

settled_close_known : (x0 : Purpose) (x1 : Callee) (x2 : List Frame) (x3 : ItemsRead) → Settled (MC.close_known x0 x1 x2 x3)
settled_close_known (R.Latest p a) f K xs = tt
settled_close_known g f K xs = tt

settled_at_known : (x0 : Terminal) (x1 : Purpose) (x2 : Callee) (x3 : List Frame) (x4 : ItemsRead) → Settled (MC.at_known x0 x1 x2 x3 x4)
settled_at_known (S.Operator o.OpenParen) g f K xs = settled_open_known g f K xs
settled_at_known (S.Operator o.Comma) g f K xs = settled_known_comma g f K xs
settled_at_known (S.Operator o.CloseParen) g f K xs = settled_close_known g f K xs
settled_at_known s g f K xs = tt

settled_dot_after_base : (x0 : Bool) (x1 : Purpose) (x2 : ℕ) (x3 : List Frame) (x4 : ItemsRead) → Settled (MC.dot_after_base x0 x1 x2 x3 x4)
settled_dot_after_base true g b K xs = tt
settled_dot_after_base false g b K xs = tt

settled_at_named : (x0 : Terminal) (x1 : Purpose) (x2 : Name) (x3 : List Frame) (x4 : ItemsRead) → Settled (MC.at_named x0 x1 x2 x3 x4)
settled_at_named (S.Operator o.Dot) g n K xs = settled_dot_after_base (bytes_eq n.bytes (codes "Base")) g n.at K xs
settled_at_named s g n K xs = settled_at_known s g (F.Plain n) K xs

settled_at_dotted : (x0 : Terminal) (x1 : ℕ) (x2 : Purpose) (x3 : ℕ) (x4 : List Frame) (x5 : ItemsRead) → Settled (MC.at_dotted x0 x1 x2 x3 x4 x5)
settled_at_dotted (S.Name n) a g b K xs = tt
settled_at_dotted (S.Operator o.Colon) a g b K xs = tt
settled_at_dotted s a g b K xs = tt

settled_operator_after_base : (x0 : Bool) (x1 : Operator) (x2 : Purpose) (x3 : ℕ) (x4 : List Frame) (x5 : ItemsRead) → Settled (MC.operator_after_base x0 x1 x2 x3 x4 x5)
settled_operator_after_base true x g b K xs = tt
settled_operator_after_base false x g b K xs = tt

settled_at_colon : (x0 : Terminal) (x1 : Purpose) (x2 : ℕ) (x3 : List Frame) (x4 : ItemsRead) → Settled (MC.at_colon x0 x1 x2 x3 x4)
settled_at_colon (S.Operator x) g b K xs = settled_operator_after_base (is_function x) x g b K xs
settled_at_colon s g b K xs = tt

settled_next_param : (x0 : Terminal) (x1 : ℕ) (x2 : Heading) (x3 : List Frame) (x4 : ItemsRead) → Settled (MC.next_param x0 x1 x2 x3 x4)
settled_next_param (S.Name n) a h K xs = tt
settled_next_param (S.Operator o.HasType) a h K xs = tt
settled_next_param s a h K xs = tt

settled_first_param : (x0 : Terminal) (x1 : ℕ) (x2 : Heading) (x3 : List Frame) (x4 : ItemsRead) → Settled (MC.first_param x0 x1 x2 x3 x4)
settled_first_param (S.Operator o.CloseParen) a h K xs = tt
settled_first_param s a h K xs = settled_next_param s a h K xs

settled_token_after_param : (x0 : Terminal) (x1 : Heading) (x2 : List Frame) (x3 : ItemsRead) → Settled (MC.token_after_param x0 x1 x2 x3)
settled_token_after_param (S.Operator o.Comma) h K xs = tt
settled_token_after_param (S.Operator o.CloseParen) h K xs = tt
settled_token_after_param s h K xs = tt

settled_at_param : (x0 : Terminal) (x1 : ℕ) (x2 : Heading) (x3 : Name) (x4 : List Frame) (x5 : ItemsRead) → Settled (MC.at_param x0 x1 x2 x3 x4 x5)
settled_at_param (S.Operator o.HasType) a h n K xs = tt
settled_at_param s a h n K xs = settled_token_after_param s (with_param h (N.Name n) 0) K xs

settled_begin_body : (x0 : Place) (x1 : Form Head) (x2 : List Frame) (x3 : ItemsRead) → Settled (MC.begin_body x0 x1 x2 x3)
settled_begin_body H.Entry h K xs = tt
settled_begin_body (H.Evaluated p a) h K xs = tt

settled_token_after_short_head : (x0 : Terminal) (x1 : Place) (x2 : Form Head) (x3 : List Frame) (x4 : ItemsRead) → Settled (MC.token_after_short_head x0 x1 x2 x3 x4)
settled_token_after_short_head (S.Operator o.Assign) l h K xs = settled_begin_body l h K xs
settled_token_after_short_head s l h K xs = tt

settled_token_after_head : (x0 : Bool) (x1 : Terminal) (x2 : Marks) (x3 : ℕ) (x4 : Place) (x5 : Form Head) (x6 : List Frame) (x7 : ItemsRead) → Settled (MC.token_after_head x0 x1 x2 x3 x4 x5 x6 x7)
settled_token_after_head true s m a l h K xs = settled_at_entry s m a (Block (B.Body l h) M.no_forms ∷ K) xs
settled_token_after_head false s m a l h K xs = settled_token_after_short_head s l h K xs

settled_end_head : (x0 : Terminal) (x1 : Marks) (x2 : ℕ) (x3 : Heading) (x4 : VarsForm) (x5 : List Frame) (x6 : ItemsRead) → Settled (MC.end_head x0 x1 x2 x3 x4 x5 x6)
settled_end_head s m a h vs K xs = settled_token_after_head h.start.long s m a h.start.place (M.head h.start.at h.callee h.params vs) K xs

settled_at_headed : (x0 : Terminal) (x1 : Marks) (x2 : ℕ) (x3 : Heading) (x4 : List Frame) (x5 : ItemsRead) → Settled (MC.at_headed x0 x1 x2 x3 x4 x5)
settled_at_headed (S.Word w.Where) m a h K xs = tt
settled_at_headed s m a h K xs = settled_end_head s m a h M.no_vars K xs

settled_where_turn : (o : Turn) (s : Terminal) (m : Marks) (a : ℕ) (h : Heading) (K : List Frame) (xs : ItemsRead) → SettledTurn o → Settled (MC.where_turn o s m a h K xs)
settled_where_turn (T.Goes y) s m a h K xs g = g
settled_where_turn (T.Variables vs) s m a h K xs g = settled_end_head s m a h (M.vars_form vs) K xs
settled_where_turn _ s m a h K xs g = tt

settled_begin_abstract : (x0 : Bool) (x1 : ℕ) (x2 : List Frame) (x3 : ItemsRead) → Settled (MC.begin_abstract x0 x1 x2 x3)
settled_begin_abstract true a K xs = tt
settled_begin_abstract false a K xs = tt

settled_at_abstract : (x0 : Terminal) (x1 : ℕ) (x2 : List Frame) (x3 : ItemsRead) → Settled (MC.at_abstract x0 x1 x2 x3)
settled_at_abstract (S.Name n) a K xs = settled_begin_abstract (bytes_eq n (codes "type")) a K xs
settled_at_abstract s a K xs = tt

settled_at_decl : (x0 : Terminal) (x1 : ℕ) (x2 : ℕ) (x3 : Bool) (x4 : List Frame) (x5 : ItemsRead) → Settled (MC.at_decl x0 x1 x2 x3 x4 x5)
settled_at_decl (S.Name n) b a k K xs = tt
settled_at_decl s b a k K xs = tt

settled_token_after_struct : (x0 : Terminal) (x1 : Form Header) (x2 : List Frame) (x3 : ItemsRead) → Settled (MC.token_after_struct x0 x1 x2 x3)
settled_token_after_struct S.Newline h K xs = tt
settled_token_after_struct (S.Operator o.Semicolon) h K xs = tt
settled_token_after_struct (S.Word w.End) h K xs = tt
settled_token_after_struct s h K xs = tt

settled_token_after_abstract : (x0 : Terminal) (x1 : Form Header) (x2 : List Frame) (x3 : ItemsRead) → Settled (MC.token_after_abstract x0 x1 x2 x3)
settled_token_after_abstract (S.Word w.End) h K xs = tt
settled_token_after_abstract s h K xs = tt

settled_token_after_header : (x0 : Bool) (x1 : Terminal) (x2 : Form Header) (x3 : List Frame) (x4 : ItemsRead) → Settled (MC.token_after_header x0 x1 x2 x3 x4)
settled_token_after_header true s h K xs = settled_token_after_struct s h K xs
settled_token_after_header false s h K xs = settled_token_after_abstract s h K xs

settled_end_header : (x0 : Terminal) (x1 : Declaring) (x2 : Option TypeForm) (x3 : List Frame) (x4 : ItemsRead) → Settled (MC.end_header x0 x1 x2 x3 x4)
settled_end_header s d t K xs = settled_token_after_header d.is_struct s (M.header d.at d.name d.params t) K xs

settled_token_after_params : (x0 : Terminal) (x1 : Declaring) (x2 : List Frame) (x3 : ItemsRead) → Settled (MC.token_after_params x0 x1 x2 x3)
settled_token_after_params (S.Operator o.Subtype) d K xs = tt
settled_token_after_params s d K xs = settled_end_header s d None K xs

settled_at_declared : (x0 : Terminal) (x1 : Declaring) (x2 : List Frame) (x3 : ItemsRead) → Settled (MC.at_declared x0 x1 x2 x3)
settled_at_declared (S.Operator o.OpenBrace) d K xs = tt
settled_at_declared s d K xs = settled_token_after_params s d K xs

settled_params_turn : (o : Turn) (s : Terminal) (d : Declaring) (K : List Frame) (xs : ItemsRead) → SettledTurn o → Settled (MC.params_turn o s d K xs)
settled_params_turn (T.Goes y) s d K xs h = h
settled_params_turn (T.Variables vs) s d K xs h = settled_token_after_params s (with_params d (M.vars_form vs)) K xs
settled_params_turn _ s d K xs h = tt

settled_token_after_field : (x0 : Terminal) (x1 : Fielding) (x2 : List Frame) (x3 : ItemsRead) → Settled (MC.token_after_field x0 x1 x2 x3)
settled_token_after_field S.Newline f K xs = tt
settled_token_after_field (S.Operator o.Semicolon) f K xs = tt
settled_token_after_field (S.Word w.End) f K xs = tt
settled_token_after_field s f K xs = tt

settled_at_fields : (x0 : Terminal) (x1 : ℕ) (x2 : Fielding) (x3 : List Frame) (x4 : ItemsRead) → Settled (MC.at_fields x0 x1 x2 x3 x4)
settled_at_fields (S.Name n) a f K xs = tt
settled_at_fields s a f K xs = settled_token_after_field s f K xs

settled_at_field : (x0 : Terminal) (x1 : Fielding) (x2 : Name) (x3 : List Frame) (x4 : ItemsRead) → Settled (MC.at_field x0 x1 x2 x3 x4)
settled_at_field (S.Operator o.HasType) f n K xs = tt
settled_at_field s f n K xs = settled_token_after_field s (with_field f n None 0) K xs

settled_separator_after_item : (x0 : Form Item) (x1 : List Frame) (x2 : ItemsRead) → Settled (MC.separator_after_item x0 x1 x2)
settled_separator_after_item x [] xs = tt
settled_separator_after_item x K xs = tt

settled_at_made : (x0 : Terminal) (x1 : Form Item) (x2 : List Frame) (x3 : ItemsRead) → Settled (MC.at_made x0 x1 x2 x3)
settled_at_made S.Newline x K xs = settled_separator_after_item x K xs
settled_at_made (S.Operator o.Semicolon) x K xs = settled_separator_after_item x K xs
settled_at_made S.End x K xs = settled_separator_after_item x K xs
settled_at_made s x K xs = tt

settled_separator_after_method : (x0 : Form Method) (x1 : List Frame) (x2 : ItemsRead) → Settled (MC.separator_after_method x0 x1 x2)
settled_separator_after_method m [] xs = tt
settled_separator_after_method m (Evals k vs ∷ K) xs = tt
settled_separator_after_method m K xs = tt

settled_end_after_method : (x0 : Form Method) (x1 : List Frame) (x2 : ItemsRead) → Settled (MC.end_after_method x0 x1 x2)
settled_end_after_method m (Evals k vs ∷ K) xs = settled_end_evals k (with_method vs m) K xs
settled_end_after_method m K xs = tt

settled_source_end_after_method : (x0 : Form Method) (x1 : List Frame) (x2 : ItemsRead) → Settled (MC.source_end_after_method x0 x1 x2)
settled_source_end_after_method m [] xs = tt
settled_source_end_after_method m K xs = tt

settled_at_made_method : (x0 : Terminal) (x1 : Form Method) (x2 : List Frame) (x3 : ItemsRead) → Settled (MC.at_made_method x0 x1 x2 x3)
settled_at_made_method S.Newline m K xs = settled_separator_after_method m K xs
settled_at_made_method (S.Operator o.Semicolon) m K xs = settled_separator_after_method m K xs
settled_at_made_method (S.Word w.End) m K xs = settled_end_after_method m K xs
settled_at_made_method S.End m K xs = settled_source_end_after_method m K xs
settled_at_made_method s m K xs = tt

settled_token_after_left : (x0 : Terminal) (x1 : Pending) (x2 : ℕ) (x3 : TypeForm) (x4 : List Frame) (x5 : ItemsRead) → Settled (MC.token_after_left x0 x1 x2 x3 x4 x5)
settled_token_after_left (S.Operator o.Subtype) p a t K xs = tt
settled_token_after_left s p a t K xs = tt

settled_open_make : (x0 : Terminal) (x1 : Pending) (x2 : ℕ) (x3 : TypeForm) (x4 : List Frame) (x5 : ItemsRead) → Settled (MC.open_make x0 x1 x2 x3 x4 x5)
settled_open_make (S.Operator o.OpenParen) p a t K xs = tt
settled_open_make s p a t K xs = tt

settled_close_which : (x0 : Terminal) (x1 : Pending) (x2 : ℕ) (x3 : Name) (x4 : TypeForm) (x5 : List Frame) (x6 : ItemsRead) → Settled (MC.close_which x0 x1 x2 x3 x4 x5 x6)
settled_close_which (S.Operator o.CloseParen) p a n t K xs = tt
settled_close_which s p a n t K xs = tt

settled_token_after_type : (x0 : Terminal) (x1 : ℕ) (x2 : Goal) (x3 : TypeForm) (x4 : List Frame) (x5 : ItemsRead) → Settled (MC.token_after_type x0 x1 x2 x3 x4 x5)
settled_token_after_type s b (G.Isa p e) t K xs = settled_token_after_comparison s b p (M.isa_expr e t) K xs
settled_token_after_type s b (G.Left p a) t K xs = settled_token_after_left s p a t K xs
settled_token_after_type s b (G.Right p a l) t K xs = settled_token_after_comparison s b p (M.sub_expr a l t) K xs
settled_token_after_type s b (G.Make p a) t K xs = settled_open_make s p a t K xs
settled_token_after_type s b (G.Delete p a n) t K xs = settled_close_which s p a n t K xs
settled_token_after_type s b (G.Param h x a) t K xs = settled_token_after_param s (with_param h (M.typed_param x a t) t.depth) K xs
settled_token_after_type s b (G.Parent d) t K xs = settled_end_header s d (Some t) K xs
settled_token_after_type s b (G.Field f n) t K xs = settled_token_after_field s (with_field f n (Some t.tree) t.depth) K xs

settled_type_step : (o : Turn) (s : Terminal) (b : ℕ) (g : Goal) (K : List Frame) (xs : ItemsRead) → SettledTurn o → Settled (MC.type_step o s b g K xs)
settled_type_step (T.Goes y) s b g K xs h = h
settled_type_step (T.Type t) s b g K xs h = settled_token_after_type s b g (M.type_form t) K xs
settled_type_step _ s b g K xs h = tt

settled_step_by : (x0 : Terminal) (x1 : Marks) (x2 : ℕ) (x3 : Point) (x4 : List Frame) (x5 : ItemsRead) → Settled (MC.step_by x0 x1 x2 x3 x4 x5)
settled_step_by s m a P.Entry K xs = settled_at_entry s m a K xs
settled_step_by s m a (P.Bound n) K xs = settled_at_bound s n K xs
settled_step_by s m a (P.Returned b) K xs = settled_at_returned s m a b K xs
settled_step_by s m a (P.Want p) K xs = settled_begin_operand s m a p K xs
settled_step_by s m a (P.First r) K xs = settled_at_first s m a r K xs
settled_step_by s m a (P.Again r) K xs = settled_at_again s m a r K xs
settled_step_by s m a (P.Piece r) K xs = settled_at_piece s m a r K xs
settled_step_by s m a P.Texted K xs = settled_at_texted s K xs
settled_step_by s m a (P.Have p e) K xs = settled_token_after_operand s a p e K xs
settled_step_by s m a (P.Dot p e) K xs = settled_at_dot s a p e K xs
settled_step_by s m a (P.Index p e) K xs = settled_at_index s p e K xs
settled_step_by s m a (P.Indexed p e n) K xs = settled_at_indexed s p e n K xs
settled_step_by s m a (P.Due p b d) K xs = settled_at_due s a p b d K xs
settled_step_by s m a (P.Deleting p b n) K xs = settled_at_deleting s p b n K xs
settled_step_by s m a (P.Ending p e) K xs = settled_at_ending s p e K xs
settled_step_by s m a (P.AfterEval p b) K xs = settled_token_after_eval s m a p b K xs
settled_step_by s m a (P.Function g) K xs = settled_at_function s a g K xs
settled_step_by s m a (P.Named g n) K xs = settled_at_named s g n K xs
settled_step_by s m a (P.Dotted g b) K xs = settled_at_dotted s a g b K xs
settled_step_by s m a (P.Colon g b) K xs = settled_at_colon s g b K xs
settled_step_by s m a (P.Known g f) K xs = settled_at_known s g f K xs
settled_step_by s m a (P.FirstParam h) K xs = settled_first_param s a h K xs
settled_step_by s m a (P.NextParam h) K xs = settled_next_param s a h K xs
settled_step_by s m a (P.Param h n) K xs = settled_at_param s a h n K xs
settled_step_by s m a (P.Headed h) K xs = settled_at_headed s m a h K xs
settled_step_by s m a (P.Where h y) K xs = settled_where_turn (Y.step_at s a y.point y.stack) s m a h K xs (settled_turn s a y.point y.stack)
settled_step_by s m a (P.Type g y) K xs = settled_type_step (Y.step_at s a y.point y.stack) s a g K xs (settled_turn s a y.point y.stack)
settled_step_by s m a (P.AbstractWord b) K xs = settled_at_abstract s b K xs
settled_step_by s m a (P.DeclName b k) K xs = settled_at_decl s a b k K xs
settled_step_by s m a (P.Declared d) K xs = settled_at_declared s d K xs
settled_step_by s m a (P.Params d y) K xs = settled_params_turn (Y.step_at s a y.point y.stack) s d K xs (settled_turn s a y.point y.stack)
settled_step_by s m a (P.Fields f) K xs = settled_at_fields s a f K xs
settled_step_by s m a (P.Field f n) K xs = settled_at_field s f n K xs
settled_step_by s m a (P.Made x) K xs = settled_at_made s x K xs
settled_step_by s m a (P.MadeMethod x) K xs = settled_at_made_method s x K xs

-- ---- of all tokens

settled_step : (t : Marked) (o : Option State) → Settled (step t o)
settled_step t None = tt
settled_step t (Some s) = settled_step_by t.lexeme.terminal t.marks t.lexeme.at s.point s.stack s.script

settled_step_all : (ts : Text) (o : Option State) → Settled o → Settled (step_all ts o)
settled_step_all [] o h = h
settled_step_all (t ∷ ts) o h = settled_step_all ts (step t o) (settled_step t o)

pub settled_all : (ts : Text) → Settled (step_all ts start)
settled_all ts = settled_step_all ts start tt
