-- The functions and types of a script: their names where they stand, in text order.
use Rattle.std.specs.Prelude.{ℕ, if◌then◌else◌, List, [], ◌∷◌, ◌++◌}
use Rattle.std.specs.List.{flat_map}
use Rattle.jl_program.specs.Names.{is_among}
use Rattle.jl_program.specs.Prelude.{prelude_functions}
use Rattle.jl_grammar.specs.declared.tree.Branch.{Branch}
use Rattle.jl_grammar.specs.declared.tree.Callee.{Callee}
use Rattle.jl_grammar.specs.declared.tree.Callee.TheVariants as C
use Rattle.jl_grammar.specs.declared.tree.Eval.{Eval}
use Rattle.jl_grammar.specs.declared.tree.Expr.{Expr}
use Rattle.jl_grammar.specs.declared.tree.Item.{Item}
use Rattle.jl_grammar.specs.declared.tree.Item.TheVariants as N
use Rattle.jl_grammar.specs.declared.tree.Method.{Method}
use Rattle.jl_grammar.specs.declared.tree.Name.{Name}
use Rattle.jl_grammar.specs.declared.tree.Piece.{Piece}
use Rattle.jl_grammar.specs.declared.tree.Stmt.{Stmt}
use Rattle.jl_grammar.specs.declared.tree.Eval.TheOpen as F
use Rattle.jl_grammar.specs.declared.tree.Eval.TheOpen.{Branch-F, Eval-F, Expr-F, Method-F, Piece-F, Stmt-F}
use Rattle.jl_grammar.specs.declared.tree.Eval.TheFolds.{fold-Branch, fold-Eval, fold-Expr, fold-Method, fold-Piece, fold-Stmt}

-- a method without `Base.` gives its name to a function
abbrev pub own_name : Callee → List Name
own_name (C.Plain n) = n ∷ []
own_name (C.Base at n) = []
own_name (C.Operator at o) = []

abbrev pub Step : Type 0
Step = List Name

abbrev pub join_names : List (List Name) → List Name
join_names xs = flat_map (λ x. x) xs

abbrev pub expr_step : Expr-F Step Step Step Step Step Step → List Name
expr_step (F.Number at n) = []
expr_step (F.Bool at b) = []
expr_step (F.Nothing at) = []
expr_step (F.Name at n) = []
expr_step (F.Paren at x) = x
expr_step (F.Tuple at xs) = join_names xs
expr_step (F.Call at f xs) = join_names xs
expr_step (F.Make at ty xs) = join_names xs
expr_step (F.Field at x n) = x
expr_step (F.Part at x n) = x
expr_step (F.Prefix at o x) = x
expr_step (F.Infix at o a b) = a ++ b
expr_step (F.Isa at x ty) = x
expr_step (F.Sub at a b) = []
expr_step (F.Choose at q a b) = q ++ a ++ b
expr_step (F.If at bs) = join_names bs
expr_step (F.IfElse at bs ss) = join_names bs ++ join_names ss
expr_step (F.Begin at ss) = join_names ss
expr_step (F.Latest at f xs) = join_names xs
expr_step (F.Delete at n ty) = []
expr_step (F.Spawn at x) = x
expr_step (F.EvalMethod at m) = m
expr_step (F.EvalBlock at xs) = join_names xs
expr_step (F.EvalExpr at x) = x
expr_step (F.EvalQuote at xs) = join_names xs
expr_step (F.Fetch at x) = x
expr_step (F.Print at line ps) = join_names ps

abbrev pub method_step : Method-F Step Step Step Step Step Step → List Name
method_step (F.Long at h ss) = own_name h.callee ++ join_names ss
method_step (F.Short at h x) = own_name h.callee ++ x

abbrev pub stmt_step : Stmt-F Step Step Step Step Step Step → List Name
stmt_step (F.Bind n x) = x
stmt_step (F.Return at x) = x
stmt_step (F.ReturnNothing at) = []
stmt_step (F.Stmt::Do x) = x

abbrev pub eval_step : Eval-F Step Step Step Step Step Step → List Name
eval_step (F.Method m) = m
eval_step (F.Eval::Do x) = x

abbrev pub piece_step : Piece-F Step Step Step Step Step Step → List Name
piece_step (F.Text at bytes) = []
piece_step (F.Show x) = x

abbrev pub branch_step : Branch-F Step Step Step Step Step Step → List Name
branch_step b = b.test ++ join_names b.block

-- the names that the methods in an expression give to functions, evaluated ones included
abbrev pub in_expr : Expr → List Name
in_expr = fold-Expr Step Step Step Step Step Step eval_step expr_step method_step piece_step stmt_step branch_step

abbrev pub in_method : Method → List Name
in_method = fold-Method Step Step Step Step Step Step eval_step expr_step method_step piece_step stmt_step branch_step

abbrev pub in_stmt : Stmt → List Name
in_stmt = fold-Stmt Step Step Step Step Step Step eval_step expr_step method_step piece_step stmt_step branch_step

abbrev pub in_eval : Eval → List Name
in_eval = fold-Eval Step Step Step Step Step Step eval_step expr_step method_step piece_step stmt_step branch_step

abbrev pub in_piece : Piece → List Name
in_piece = fold-Piece Step Step Step Step Step Step eval_step expr_step method_step piece_step stmt_step branch_step

abbrev pub in_branch : Branch → List Name
in_branch = fold-Branch Step Step Step Step Step Step eval_step expr_step method_step piece_step stmt_step branch_step

abbrev pub in_item : Item → List Name
in_item (N.Abstract a) = []
in_item (N.Struct s) = []
in_item (N.Method m) = in_method m
in_item (N.Bind n x) = in_expr x
in_item (N.Do x) = in_expr x

-- the names of the functions of a script
abbrev pub methods_of : List Item → List Name
methods_of items = flat_map in_item items

abbrev pub type_name : Item → List Name
type_name (N.Abstract a) = a.header.name ∷ []
type_name (N.Struct s) = s.header.name ∷ []
type_name (N.Method m) = []
type_name (N.Bind n x) = []
type_name (N.Do x) = []

-- the names of its types
abbrev pub types_of : List Item → List Name
types_of items = flat_map type_name items

-- names, and then each further one that is not among those before it
abbrev pub with_names : List (List ℕ) → List Name → List (List ℕ)
with_names known [] = known
with_names known (n ∷ ns) = with_names (if is_among n.bytes known then known else (known ++ n.bytes ∷ [])) ns

-- the functions: the prelude's, then those of the script in the order of their first definition
abbrev pub functions_of : List Name → List (List ℕ)
functions_of methods = with_names prelude_functions methods
