-- The tokens that a script is printed by, as the grammar sees them. A statement, a field and an item each stand in a line of their own.
use Rattle.std.specs.Prelude.{ℕ, Bool, true, false, codes, List, [], ◌∷◌, ◌++◌, map, Option, Some, None}
use Rattle.jl_token.specs.declared.token.Operator.{Operator}
use Rattle.jl_token.specs.declared.token.Operator.TheVariants as o
use Rattle.jl_typeread.specs.declared.terminal.Terminal.{Terminal}
use Rattle.jl_typeread.specs.declared.terminal.Terminal.TheVariants as S
use Rattle.jl_typeread.specs.declared.terminal.Word.{Word}
use Rattle.jl_typeread.specs.declared.terminal.Word.TheVariants as w
use Rattle.jl_typeread.specs.declared.tree.TypeText.{TypeText}
use Rattle.jl_typeread.specs.declared.tree.ArgText.{ArgText}
use Rattle.jl_typeread.specs.declared.tree.VarText.{VarText}
use Rattle.jl_typeread.specs.declared.tree.ArgText.TheOpen as T
use Rattle.jl_typeread.specs.declared.tree.ArgText.TheOpen.{TypeText-F, ArgText-F, VarText-F}
use Rattle.jl_typeread.specs.declared.tree.ArgText.TheFolds.{fold-TypeText, fold-ArgText, fold-VarText}
use Rattle.jl_grammar.specs.declared.tree.Branch.{Branch}
use Rattle.jl_grammar.specs.declared.tree.Callee.{Callee}
use Rattle.jl_grammar.specs.declared.tree.Callee.TheVariants as C
use Rattle.jl_grammar.specs.declared.tree.Eval.{Eval}
use Rattle.jl_grammar.specs.declared.tree.Expr.{Expr}
use Rattle.jl_grammar.specs.declared.tree.Field.{Field}
use Rattle.jl_grammar.specs.declared.tree.Head.{Head}
use Rattle.jl_grammar.specs.declared.tree.Header.{Header}
use Rattle.jl_grammar.specs.declared.tree.Infix.{Infix}
use Rattle.jl_grammar.specs.declared.tree.Infix.TheVariants as I
use Rattle.jl_grammar.specs.declared.tree.Item.{Item}
use Rattle.jl_grammar.specs.declared.tree.Item.TheVariants as N
use Rattle.jl_grammar.specs.declared.tree.Method.{Method}
use Rattle.jl_grammar.specs.declared.tree.Param.{Param}
use Rattle.jl_grammar.specs.declared.tree.Param.TheVariants as P
use Rattle.jl_grammar.specs.declared.tree.Piece.{Piece}
use Rattle.jl_grammar.specs.declared.tree.Prefix.{Prefix}
use Rattle.jl_grammar.specs.declared.tree.Prefix.TheVariants as U
use Rattle.jl_grammar.specs.declared.tree.Stmt.{Stmt}
use Rattle.jl_grammar.specs.declared.tree.Script.{Script}
use Rattle.jl_grammar.specs.declared.tree.Eval.TheOpen as F
use Rattle.jl_grammar.specs.declared.tree.Eval.TheOpen.{Branch-F, Eval-F, Expr-F, Method-F, Piece-F, Stmt-F}
use Rattle.jl_grammar.specs.declared.tree.Eval.TheFolds.{fold-Branch, fold-Eval, fold-Expr, fold-Method, fold-Piece, fold-Stmt}

-- ---- lists of forms

abbrev pub join_more : List (List Terminal) → List Terminal
join_more [] = []
join_more (x ∷ xs) = S.Operator o.Comma ∷ (x ++ join_more xs)

-- forms with `,` between them
abbrev pub join : List (List Terminal) → List Terminal
join [] = []
join (x ∷ xs) = x ++ join_more xs

-- forms, each with a newline behind it
abbrev pub lines : List (List Terminal) → List Terminal
lines [] = []
lines (x ∷ xs) = x ++ S.Newline ∷ lines xs

abbrev pub in_parens : List (List Terminal) → List Terminal
in_parens xs = S.Operator o.OpenParen ∷ (join xs ++ S.Operator o.CloseParen ∷ [])

abbrev pub in_braces : List (List Terminal) → List Terminal
in_braces xs = S.Operator o.OpenBrace ∷ (join xs ++ S.Operator o.CloseBrace ∷ [])

-- ---- types

-- the variables of a `where` stand in braces
abbrev pub where_step : List (List Terminal) → List Terminal
where_step [] = []
where_step (x ∷ xs) = S.Word w.Where ∷ in_braces (x ∷ xs)

abbrev pub type_step : TypeText-F (List Terminal) (List Terminal) (List Terminal) → List Terminal
type_step (T.Name at n) = S.Name n ∷ []
type_step (T.Applied at n xs) = S.Name n ∷ in_braces xs
type_step (T.Paren at t vs) = S.Operator o.OpenParen ∷ (t ++ (where_step vs ++ S.Operator o.CloseParen ∷ []))

abbrev pub argument_step : ArgText-F (List Terminal) (List Terminal) (List Terminal) → List Terminal
argument_step (T.Exact t) = t
argument_step (T.ArgText::Below at t) = S.Operator o.Subtype ∷ t
argument_step (T.ArgText::Above at t) = S.Operator o.Supertype ∷ t

abbrev pub variable_step : VarText-F (List Terminal) (List Terminal) (List Terminal) → List Terminal
variable_step (T.Free at n) = S.Name n ∷ []
variable_step (T.VarText::Below at n t) = S.Name n ∷ S.Operator o.Subtype ∷ t
variable_step (T.VarText::Above at n t) = S.Name n ∷ S.Operator o.Supertype ∷ t
variable_step (T.Between low at n high) = low ++ S.Operator o.Subtype ∷ S.Name n ∷ S.Operator o.Subtype ∷ high

-- the tokens of a type, of an argument and of a variable
abbrev pub type_terminals : TypeText → List Terminal
type_terminals = fold-TypeText (List Terminal) (List Terminal) (List Terminal) argument_step type_step variable_step

abbrev pub argument_terminals : ArgText → List Terminal
argument_terminals = fold-ArgText (List Terminal) (List Terminal) (List Terminal) argument_step type_step variable_step

abbrev pub variable_terminals : VarText → List Terminal
variable_terminals = fold-VarText (List Terminal) (List Terminal) (List Terminal) argument_step type_step variable_step

abbrev pub where_terminals : List VarText → List Terminal
where_terminals vs = where_step (map variable_terminals vs)

-- a type behind a mark, where there is one
abbrev pub marked_type : Operator → Option TypeText → List Terminal
marked_type x None = []
marked_type x (Some t) = S.Operator x ∷ type_terminals t

-- ---- heads of methods

abbrev pub callee_terminals : Callee → List Terminal
callee_terminals (C.Plain n) = S.Name n.bytes ∷ []
callee_terminals (C.Base at n) = S.Name (codes "Base") ∷ S.Operator o.Dot ∷ S.Name n.bytes ∷ []
callee_terminals (C.Operator at x) = S.Name (codes "Base") ∷ S.Operator o.Dot ∷ S.Operator o.Colon ∷ S.Operator x ∷ []

abbrev pub param_terminals : Param → List Terminal
param_terminals (P.Name n) = S.Name n.bytes ∷ []
param_terminals (P.Typed n t) = S.Name n.bytes ∷ S.Operator o.HasType ∷ type_terminals t
param_terminals (P.Unnamed at t) = S.Operator o.HasType ∷ type_terminals t

abbrev pub head_terminals : Head → List Terminal
head_terminals h = callee_terminals h.callee ++ (in_parens (map param_terminals h.params) ++ where_terminals h.vars)

-- ---- expressions

abbrev pub prefix_terminal : Prefix → Terminal
prefix_terminal U.Minus = S.Operator o.Minus
prefix_terminal U.Not = S.Operator o.Not

abbrev pub infix_terminal : Infix → Terminal
infix_terminal I.Or = S.Operator o.Or
infix_terminal I.And = S.Operator o.And
infix_terminal I.Equal = S.Operator o.Equal
infix_terminal I.NotEqual = S.Operator o.NotEqual
infix_terminal I.Less = S.Operator o.Less
infix_terminal I.LessEqual = S.Operator o.LessEqual
infix_terminal I.Greater = S.Operator o.Greater
infix_terminal I.GreaterEqual = S.Operator o.GreaterEqual
infix_terminal I.Identical = S.Operator o.Identical
infix_terminal I.NotIdentical = S.Operator o.NotIdentical
infix_terminal I.Plus = S.Operator o.Plus
infix_terminal I.Minus = S.Operator o.Minus
infix_terminal I.Times = S.Operator o.Times
infix_terminal I.Divide = S.Operator o.Divide
infix_terminal I.Remainder = S.Operator o.Remainder

abbrev pub truth_terminal : Bool → Terminal
truth_terminal true = S.Word w.True
truth_terminal false = S.Word w.False

-- a tuple of one part has a comma behind it
abbrev pub tuple_step : List (List Terminal) → List Terminal
tuple_step (x ∷ []) = S.Operator o.OpenParen ∷ (x ++ S.Operator o.Comma ∷ S.Operator o.CloseParen ∷ [])
tuple_step xs = in_parens xs

-- the word before the first test of an `if`, and before a later one
abbrev pub branch_word : Bool → Word
branch_word true = w.Elseif
branch_word false = w.If

-- the tests of an `if` with their blocks
abbrev pub branches_more : List (List Terminal) → List Terminal
branches_more [] = []
branches_more (b ∷ bs) = S.Word w.Elseif ∷ (b ++ branches_more bs)

abbrev pub branches_step : List (List Terminal) → List Terminal
branches_step [] = []
branches_step (b ∷ bs) = S.Word w.If ∷ (b ++ branches_more bs)

abbrev pub print_name : Bool → List ℕ
print_name true = codes "println"
print_name false = codes "print"

-- a block behind the word that opens it, up to its `end`
abbrev pub block_step : List (List Terminal) → List Terminal
block_step xs = S.Newline ∷ (lines xs ++ S.Word w.End ∷ [])

-- `which` with a function and a type in parentheses
abbrev pub which_terminals : List ℕ → List Terminal → List Terminal
which_terminals n t = S.Name (codes "which") ∷ S.Operator o.OpenParen ∷ S.Name n ∷ S.Operator o.Comma ∷ (t ++ S.Operator o.CloseParen ∷ [])

abbrev pub Made : Type 0
Made = List Terminal

abbrev pub expr_step : Expr-F Made Made Made Made Made Made → List Terminal
expr_step (F.Number at n) = S.Number n ∷ []
expr_step (F.Bool at b) = truth_terminal b ∷ []
expr_step (F.Nothing at) = S.Word w.Nothing ∷ []
expr_step (F.Name at n) = S.Name n ∷ []
expr_step (F.Paren at e) = S.Operator o.OpenParen ∷ (e ++ S.Operator o.CloseParen ∷ [])
expr_step (F.Tuple at es) = tuple_step es
expr_step (F.Call at f es) = callee_terminals f ++ in_parens es
expr_step (F.Make at t es) = type_terminals t ++ in_parens es
expr_step (F.Field at e n) = e ++ S.Operator o.Dot ∷ S.Name n.bytes ∷ []
expr_step (F.Part at e n) = e ++ S.Operator o.OpenBracket ∷ S.Number n ∷ S.Operator o.CloseBracket ∷ []
expr_step (F.Prefix at x e) = prefix_terminal x ∷ e
expr_step (F.Infix at x l r) = l ++ infix_terminal x ∷ r
expr_step (F.Isa at e t) = e ++ S.Word w.Isa ∷ type_terminals t
expr_step (F.Sub at s t) = type_terminals s ++ S.Operator o.Subtype ∷ type_terminals t
expr_step (F.Choose at c a b) = c ++ S.Operator o.Question ∷ (a ++ S.Operator o.Colon ∷ b)
expr_step (F.If at bs) = branches_step bs ++ S.Word w.End ∷ []
expr_step (F.IfElse at bs ss) = branches_step bs ++ S.Word w.Else ∷ block_step ss
expr_step (F.Begin at ss) = S.Word w.Begin ∷ block_step ss
expr_step (F.Latest at f es) =
    S.Name (codes "Base") ∷ S.Operator o.Dot ∷ S.Name (codes "invokelatest") ∷ in_parens (callee_terminals f ∷ es)
expr_step (F.Delete at n t) =
    S.Name (codes "Base") ∷ S.Operator o.Dot ∷ S.Name (codes "delete_method") ∷ S.Operator o.OpenParen
    ∷ (which_terminals n.bytes (type_terminals t) ++ S.Operator o.CloseParen ∷ [])
expr_step (F.Spawn at e) = S.Name (codes "Threads") ∷ S.Operator o.Dot ∷ S.Macro (codes "spawn") ∷ e
expr_step (F.EvalMethod at m) = S.Macro (codes "eval") ∷ m
expr_step (F.EvalBlock at xs) = S.Macro (codes "eval") ∷ S.Word w.Begin ∷ block_step xs
expr_step (F.EvalExpr at e) = S.Macro (codes "eval") ∷ e
expr_step (F.EvalQuote at xs) =
    S.Name (codes "eval") ∷ S.Operator o.OpenParen ∷ S.Word w.Quote ∷ (block_step xs ++ S.Operator o.CloseParen ∷ [])
expr_step (F.Fetch at e) = S.Name (codes "fetch") ∷ S.Operator o.OpenParen ∷ (e ++ S.Operator o.CloseParen ∷ [])
expr_step (F.Print at line ps) = S.Name (print_name line) ∷ in_parens ps

abbrev pub method_step : Method-F Made Made Made Made Made Made → List Terminal
method_step (F.Long at h ss) = S.Word w.Function ∷ (head_terminals h ++ block_step ss)
method_step (F.Short at h e) = head_terminals h ++ S.Operator o.Assign ∷ e

abbrev pub stmt_step : Stmt-F Made Made Made Made Made Made → List Terminal
stmt_step (F.Bind n e) = S.Name n.bytes ∷ S.Operator o.Assign ∷ e
stmt_step (F.Return at e) = S.Word w.Return ∷ e
stmt_step (F.ReturnNothing at) = S.Word w.Return ∷ []
stmt_step (F.Stmt::Do e) = e

abbrev pub eval_step : Eval-F Made Made Made Made Made Made → List Terminal
eval_step (F.Method m) = m
eval_step (F.Eval::Do e) = e

abbrev pub branch_step : Branch-F Made Made Made Made Made Made → List Terminal
branch_step b = b.test ++ S.Newline ∷ lines b.block

abbrev pub piece_step : Piece-F Made Made Made Made Made Made → List Terminal
piece_step (F.Text at t) = S.Text t ∷ []
piece_step (F.Show e) = e

abbrev pub expr_terminals : Expr → List Terminal
expr_terminals = fold-Expr Made Made Made Made Made Made eval_step expr_step method_step piece_step stmt_step branch_step

abbrev pub method_terminals : Method → List Terminal
method_terminals = fold-Method Made Made Made Made Made Made eval_step expr_step method_step piece_step stmt_step branch_step

abbrev pub stmt_terminals : Stmt → List Terminal
stmt_terminals = fold-Stmt Made Made Made Made Made Made eval_step expr_step method_step piece_step stmt_step branch_step

abbrev pub eval_terminals : Eval → List Terminal
eval_terminals = fold-Eval Made Made Made Made Made Made eval_step expr_step method_step piece_step stmt_step branch_step

abbrev pub branch_terminals : Branch → List Terminal
branch_terminals = fold-Branch Made Made Made Made Made Made eval_step expr_step method_step piece_step stmt_step branch_step

abbrev pub piece_terminals : Piece → List Terminal
piece_terminals = fold-Piece Made Made Made Made Made Made eval_step expr_step method_step piece_step stmt_step branch_step

-- ---- items

abbrev pub params_terminals : List VarText → List Terminal
params_terminals [] = []
params_terminals (v ∷ vs) = in_braces (map variable_terminals (v ∷ vs))

abbrev pub header_terminals : Header → List Terminal
header_terminals h = S.Name h.name.bytes ∷ (params_terminals h.params ++ marked_type o.Subtype h.parent)

abbrev pub field_terminals : Field → List Terminal
field_terminals f = S.Name f.name.bytes ∷ marked_type o.HasType f.ty

abbrev pub item_terminals : Item → List Terminal
item_terminals (N.Abstract a) = S.Word w.Abstract ∷ S.Name (codes "type") ∷ (header_terminals a.header ++ S.Word w.End ∷ [])
item_terminals (N.Struct s) = S.Word w.Struct ∷ (header_terminals s.header ++ block_step (map field_terminals s.fields))
item_terminals (N.Method m) = method_terminals m
item_terminals (N.Bind n e) = S.Name n.bytes ∷ S.Operator o.Assign ∷ expr_terminals e
item_terminals (N.Do e) = expr_terminals e

-- the tokens of a script
abbrev pub script_terminals : Script → List Terminal
script_terminals s = lines (map item_terminals s.items)
